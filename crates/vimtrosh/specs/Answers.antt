-- What an answer tells, and its room in the answer buffer.
use Rattle.std.specs.Prelude.{◌≡◌, ℕ, List, Option}
use Rattle.kernel.specs.declared.model.Model.{Model}
use Rattle.vimtrosh.specs.declared.answer.Answer.{Answer}
use Rattle.vimtrosh.specs.declared.answer.Answer.TheVariants.{Cells, Betti, BettiOf, Counts, Cycle}
use Rattle.vimtrosh.specs.declared.command.Question.{Question}
use Rattle.vimtrosh.specs.declared.command.Question.TheVariants.{Cells as AskCells, Betti as AskBetti, BettiOf as AskBettiOf, Counts as AskCounts, Cycle as AskCycle}

-- how many entries of the buffer belong to an answer
abbrev pub length_of : Answer → ℕ
length_of (Cells count entries) = 0
length_of (Betti numbers) = 0
length_of (BettiOf dimension number) = 0
length_of (Counts pieces channels voids) = 0
length_of (Cycle length) = length

-- an answer is one to the question
abbrev pub Answers : Model → Question → Answer → Type 0
Answers model AskCells answer = answer ≡ Cells model.count model.used
Answers model AskBetti answer = (numbers : List (Option ℕ)) × (answer ≡ Betti numbers)
Answers model (AskBettiOf dimension) answer = (number : ℕ) × (answer ≡ BettiOf dimension number)
Answers model AskCounts answer = (pieces : ℕ) × (channels : ℕ) × (voids : ℕ) × (answer ≡ Counts pieces channels voids)
Answers model (AskCycle dimension place) answer = (length : ℕ) × (answer ≡ Cycle length)
