-- The numbers and the words of the faults of a field.
use Rattle.std.specs.Prelude.{ℕ, List, codes}
use Rattle.field.specs.declared.fault.FieldFault.{FieldFault}
use Rattle.field.specs.declared.fault.FieldFault.TheVariants.{ZeroInverse, CodeTooLarge}

abbrev pub fault_number : FieldFault → ℕ
fault_number ZeroInverse = 80
fault_number CodeTooLarge = 81

abbrev pub fault_words : FieldFault → List ℕ
fault_words ZeroInverse = codes "zero has no inverse"
fault_words CodeTooLarge = codes "the field has no element of that code"
