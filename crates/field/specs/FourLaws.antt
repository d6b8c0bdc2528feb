-- The laws of the field of four elements, those of the product by a test of all the codes.
use Rattle.std.specs.Prelude.{◌≡◌, ℕ, min, IsTrue, ◌==◌, ◌≢◌, bit_xor, refl}
use Rattle.std.proofs.Common.{ap, arith, lit≤}
use Rattle.std.proofs.lemmas.Nat.{xor_comm}
use Rattle.std.specs.Int.Bits.{xor_assoc, xor_self, xor_zero_r}
use Rattle.field.specs.Fields.{FieldLaws, ones}
use Rattle.field.specs.Four.{gf4, times}
use Rattle.field.specs.declared.elements.Gf4.{Gf4}
use Rattle.field.specs.Finite.{all, agree, agree2, agree3}
use Rattle.field.specs.Same.{same_four}

by1 : (f g : ℕ → ℕ) → IsTrue (all 4 (λ a. f a == g a)) → (x : Gf4) → f x.code ≡ g x.code
by1 f g t x = agree 4 f g t x.code x.below

by2 : (f g : ℕ → ℕ → ℕ) → IsTrue (all 4 (λ a. all 4 (λ b. f a b == g a b))) → (x y : Gf4) → f x.code y.code ≡ g x.code y.code
by2 f g t x y = agree2 4 f g t x.code y.code x.below y.below

by3 : (f g : ℕ → ℕ → ℕ → ℕ) → IsTrue (all 4 (λ a. all 4 (λ b. all 4 (λ c. f a b c == g a b c)))) → (x y z : Gf4) → f x.code y.code z.code ≡ g x.code y.code z.code
by3 f g t x y z = agree3 4 f g t x.code y.code z.code x.below y.below z.below

-- an element other than zero times its square is one
cubed : (x : Gf4) → (x ≢ gf4.zero) → times x.code (times x.code x.code) ≡ 1
cubed x h =
    let apart : x.code ≡ 0 → ⊥ = λ e. h (same_four _ _ e) in
    let tested : times x.code (times x.code x.code) ≡ min x.code 1 = by1 (λ a. times a (times a a)) (λ a. min a 1) refl x in
    omega (arith, tested)

pub four_laws : FieldLaws gf4
four_laws = record {
  sum_assoc = λ x y z. same_four _ _ (xor_assoc x.code y.code z.code);
  sum_comm = λ x y. same_four _ _ (xor_comm x.code y.code);
  sum_zero = λ x. same_four _ _ (xor_zero_r x.code);
  sum_negative = λ x. same_four _ _ (xor_self x.code);
  product_assoc = λ x y z. same_four _ _ (by3 (λ a b c. times (times a b) c) (λ a b c. times a (times b c)) refl x y z);
  product_comm = λ x y. same_four _ _ (by2 times (λ a b. times b a) refl x y);
  product_one = λ x. same_four _ _ (by1 (λ a. times a 1) (λ a. a) refl x);
  product_inverse = λ x h. same_four _ _ (cubed x h);
  distributes = λ x y z. same_four _ _ (by3 (λ a b c. times a (bit_xor b c)) (λ a b c. bit_xor (times a b) (times a c)) refl x y z);
  zero_is_not_one = λ e. (let f : 0 ≡ 1 = ap (λ x. x.code) e in omega arith);
  order_at_most = lit≤ tt;
  code_below = λ x. x.below;
  code_of_one_only = same_four;
  code_of_some = λ n h. (record { code = n; below = h }, refl);
  code_zero = refl;
  code_one = refl;
  characteristic_positive = lit≤ tt;
  characteristic_ones = same_four _ _ refl;
  characteristic_least = λ n low high e.
      (let f : (ones gf4 n).code ≡ 0 = ap (λ x. x.code) e in
      let one : n ≡ 1 = omega arith in
      let z : ◌≡◌ {A = ℕ} 1 0 = rw one at f in
      omega arith);
}
