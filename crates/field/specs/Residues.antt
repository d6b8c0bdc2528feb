-- The numbers modulo q, as elements.
use Rattle.std.specs.Prelude.{ℕ, ◌+◌, ◌-◌, ◌*◌, ◌%◌, ◌^◌, ◌<◌}
use Rattle.std.proofs.Common.{zero-le, mod-lt, lt_of_le_of_lt, lit<}
use Rattle.field.specs.Fields.{FieldOf}
use Rattle.field.specs.declared.elements.Residue.{Residue}

module _ {q : ℕ} where
  abbrev pub residue : 0 < q → ℕ → Residue q
  residue pos n = record { code = n % q; below = mod-lt n pos }

  -- where there is an element, q is positive
  pub positive : Residue q → 0 < q
  positive x = lt_of_le_of_lt zero-le x.below

  abbrev pub sum : Residue q → Residue q → Residue q
  sum x y = residue (positive x) (x.code + y.code)

  abbrev pub product : Residue q → Residue q → Residue q
  product x y = residue (positive x) (x.code * y.code)

  abbrev pub negative : Residue q → Residue q
  negative x = residue (positive x) (q - x.code)

  -- the operations, where `inverted` gives each code the code of its inverse
  abbrev pub residues : 0 < q → (ℕ → ℕ) → FieldOf (Residue q)
  residues pos inverted = record {
    order = q;
    characteristic = q;
    zero = residue pos 0;
    one = residue pos 1;
    sum = sum;
    product = product;
    negative = negative;
    inverse = λ x. residue pos (inverted x.code);
    code = λ x. x.code;
  }

-- the fields of the numbers modulo 2, 3 and 251; the power 249 is the inverse by Fermat's little theorem
abbrev pub gf2 : FieldOf (Residue 2)
gf2 = residues (lit< tt) (λ n. n)

abbrev pub gf3 : FieldOf (Residue 3)
gf3 = residues (lit< tt) (λ n. n)

abbrev pub gf251 : FieldOf (Residue 251)
gf251 = residues (lit< tt) (λ n. n ^ 249 % 251)
