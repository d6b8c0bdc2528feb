-- The field of four elements.
use Rattle.std.specs.Prelude.{ℕ, ◌<◌, List, [], ◌∷◌, bit_xor, nat_lt, slice_index, slice_index_or, refl}
use Rattle.std.proofs.lemmas.Bool.Decides.{Decides-ltb}
use Rattle.std.proofs.lemmas.Nat.{xor_lt}
use Rattle.std.proofs.Common.{lit<}
use Rattle.field.specs.Finite.{all, at}
use Rattle.field.specs.Fields.{FieldOf}
use Rattle.field.specs.declared.elements.Gf4.{Gf4}

abbrev pub element : (n : ℕ) → n < 4 → Gf4
element n h = record { code = n; below = h }

-- the products of the codes: 2·2 = 3, 2·3 = 1, 3·3 = 2
abbrev pub products : List (List ℕ)
products = (0 ∷ 0 ∷ 0 ∷ 0 ∷ []) ∷ (0 ∷ 1 ∷ 2 ∷ 3 ∷ []) ∷ (0 ∷ 2 ∷ 3 ∷ 1 ∷ []) ∷ (0 ∷ 3 ∷ 1 ∷ 2 ∷ []) ∷ []

abbrev pub times : ℕ → ℕ → ℕ
times a b = slice_index (slice_index_or products a []) b

pub times_below : (a b : ℕ) → a < 4 → b < 4 → times a b < 4
times_below a b ha hb = (Decides-ltb _ _).0 (at 4 (λ y. nat_lt (times a y) 4) (at 4 (λ x. all 4 (λ y. nat_lt (times x y) 4)) refl a ha) b hb)

abbrev pub sum : Gf4 → Gf4 → Gf4
sum x y = element (bit_xor x.code y.code) (xor_lt 2 x.code y.code x.below y.below)

abbrev pub product : Gf4 → Gf4 → Gf4
product x y = element (times x.code y.code) (times_below x.code y.code x.below y.below)

-- the inverse is the square, since the third power of an element other than zero is one
abbrev pub gf4 : FieldOf Gf4
gf4 = record {
  order = 4;
  characteristic = 2;
  zero = element 0 (lit< tt);
  one = element 1 (lit< tt);
  sum = sum;
  product = product;
  negative = λ x. x;
  inverse = λ x. product x x;
  code = λ x. x.code;
}
