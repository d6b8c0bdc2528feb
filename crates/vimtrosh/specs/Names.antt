-- The words by which a script names fields, kinds and commands.
use Rattle.std.specs.Prelude.{ℕ, List, codes, ◌≢◌}
use Rattle.vimtrosh.specs.declared.command.FieldName.{FieldName}
use Rattle.vimtrosh.specs.declared.command.FieldName.TheVariants.{Gf2, Gf3, Gf4, Gf251}
use Rattle.vimtrosh.specs.declared.command.KindName.{KindName}
use Rattle.vimtrosh.specs.declared.command.KindName.TheVariants.{Simplex, Cube}
use Rattle.vimtrosh.specs.declared.command.Change.{Change}
use Rattle.vimtrosh.specs.declared.command.Change.TheVariants.{Enter, Off, Open, Keep, Undo}
use Rattle.vimtrosh.specs.declared.command.Question.{Question}
use Rattle.vimtrosh.specs.declared.command.Question.TheVariants.{Cells, Betti, BettiOf, Counts, Cycle}
use Rattle.vimtrosh.specs.declared.command.Command.{Command}
use Rattle.vimtrosh.specs.declared.command.Command.TheVariants.{Part, Buffer, Change as ByChange, Ask}

abbrev pub order_of : FieldName → ℕ
order_of Gf2 = 2
order_of Gf3 = 3
order_of Gf4 = 4
order_of Gf251 = 251

abbrev pub word_of : KindName → List ℕ
word_of Simplex = codes "simplex"
word_of Cube = codes "cube"

abbrev pub change_name : Change → List ℕ
change_name (Enter numbers) = codes "enter"
change_name Off = codes "off"
change_name Open = codes "open"
change_name Keep = codes "keep"
change_name Undo = codes "undo"

abbrev pub question_name : Question → List ℕ
question_name Cells = codes "cells"
question_name Betti = codes "betti"
question_name (BettiOf dimension) = codes "betti"
question_name Counts = codes "counts"
question_name (Cycle dimension place) = codes "cycle"

abbrev pub name_of : Command → List ℕ
name_of (Part part) = codes "part"
name_of (Buffer places) = codes "buffer"
name_of (ByChange change) = change_name change
name_of (Ask question) = question_name question

-- none of the commands that are one word
abbrev pub NotAlone : List ℕ → Type 0
NotAlone w = (w ≢ codes "off") × (w ≢ codes "open") × (w ≢ codes "keep") × (w ≢ codes "undo") × (w ≢ codes "cells") × (w ≢ codes "counts")
