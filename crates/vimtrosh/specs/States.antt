-- What a change does to a state: a model that stands, or one with an open trial.
use Rattle.std.specs.Prelude.{◌≡◌, ℕ, ◌+◌, Bool, true, false, Err, Result, MatchResult}
use Rattle.kernel.specs.Views.{View, Fits, view, SameSlices, SameLengths}
use Rattle.kernel.specs.declared.memory.Memory.{Memory}
use Rattle.kernel.specs.declared.model.Model.{Model}
use Rattle.vimtrosh.specs.declared.command.Change.{Change}
use Rattle.vimtrosh.specs.declared.command.Change.TheVariants.{Enter, Off, Open, Keep, Undo}
use Rattle.vimtrosh.specs.declared.expected.Expected.{Expected}
use Rattle.vimtrosh.specs.declared.expected.Expected.TheVariants.{NoTrial, OpenTrial}
use Rattle.vimtrosh.specs.declared.fault.Fault.{Fault}
use Rattle.vimtrosh.specs.declared.fault.Fault.TheVariants.{BadLine}
use Rattle.vimtrosh.specs.declared.state.State.{State}
use Rattle.vimtrosh.specs.declared.state.State.TheVariants.{Standing, Trial}

abbrev pub model_of : State → Model
model_of (Standing s) = s.model
model_of (Trial t) = t.model

-- whether a trial is open
abbrev pub tries : State → Bool
tries (Standing s) = false
tries (Trial t) = true

-- how many cells stood when the trial was opened
abbrev pub mark_of : State → ℕ
mark_of (Standing s) = 0
mark_of (Trial t) = t.mark

abbrev pub FitsMemory : {F C : Type 0} → State → View F C → Type 0
FitsMemory s m = Fits (model_of s).n (model_of s).e m

-- a memory has the slices that it had, each as long as it was
pub record HandedBack {F C : Type 0} (m m' : Memory F C) : Type 0 where
  pub slices : SameSlices m m'
  pub lengths : SameLengths (view m) (view m')

-- the sizes that the model was made for are the same
pub record SameSizes (s s' : State) : Type 0 where
  pub n : (model_of s').n ≡ (model_of s).n
  pub e : (model_of s').e ≡ (model_of s).e

-- entering or taking off: the same trial is open, or none; a refusal leaves as many cells as there were
pub record Moved {A E : Type 0} (s : State) (more : ℕ → ℕ → Type 0) (r : Result A E) (s' : State) : Type 0 where
  pub sizes : SameSizes s s'
  pub trial : (tries s' ≡ tries s) × (mark_of s' ≡ mark_of s)
  pub count : MatchResult r (λ _. more (model_of s).count (model_of s').count) (λ _. (model_of s').count ≡ (model_of s).count)

-- opening, keep and undo: a command out of place is a bad line; then and at a refusal the trial and the number of cells stay
pub record Turned (opens : Bool) (lacks : Expected) (count : ℕ) (s : State) (r : Result (Unit {0}) Fault) (s' : State) : Type 0 where
  pub sizes : SameSizes s s'
  pub misplaced : tries s ≡ opens → r ≡ Err (BadLine lacks)
  pub turned : MatchResult r (λ _. (tries s' ≡ opens) × ((model_of s').count ≡ count)) (λ _. (tries s' ≡ tries s) × ((model_of s').count ≡ (model_of s).count))

abbrev pub Changed : Change → State → Result (Unit {0}) Fault → State → Type 0
Changed (Enter numbers) s r s' = Moved s (λ was is. is ≡ was + 1) r s'
Changed Off s r s' = Moved s (λ was is. is + 1 ≡ was) r s'
Changed Open s r s' = Turned true NoTrial (model_of s).count s r s'
Changed Keep s r s' = Turned false OpenTrial (model_of s).count s r s'
Changed Undo s r s' = Turned false OpenTrial (mark_of s) s r s'
