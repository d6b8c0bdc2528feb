use Rattle.std.proofs.Common.{rules}
use Rattle.std.proofs.lemmas.Nat.{xor_lt}
use Rattle.field.proofs.gf4.Gf4Add.add.Goals as goal

pub invariant_of-result : goal.invariant_of-result
invariant_of-result c = search (rules, xor_lt 2)
