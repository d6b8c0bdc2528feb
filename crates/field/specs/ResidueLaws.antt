-- The laws of the field of the numbers modulo q, for every q above one whose inverses pass a test.
use Rattle.std.specs.Prelude.{◌≡◌, ℕ, zero, suc, ◌+◌, ◌*◌, ◌%◌, ◌<◌, ◌≤◌, min, IsTrue, ◌==◌, ◌≢◌, refl}
use Rattle.std.proofs.Common.{sym, ap, ◌∙◌, mod-eq_of_lt, mul_comm, mul_assoc, mul-add, mul-one, add_assoc, add_comm, add-zero, add-sub_of_le, le_of_lt, add-one, arith}
use Rattle.std.proofs.Math.Nat.{mod_self, mod-add-mod, add-mod-mod}
use Rattle.std.proofs.lemmas.Nat.{mul-mod_first, mul-mod_second}
use Rattle.field.specs.declared.elements.Residue.{Residue}
use Rattle.field.specs.Fields.{FieldLaws, ones}
use Rattle.field.specs.Residues.{residue, residues, sum, product, negative}
use Rattle.field.specs.Finite.{all, agree}
use Rattle.field.specs.Same.{same}

-- the test: a number times its inverse is one, and at zero the product is zero
module _ {q : ℕ} (pos : 0 < q) (above_one : 1 < q) (at_most : q ≤ 256) (inverted : ℕ → ℕ)
    (tested : IsTrue (all q (λ n. (n * inverted n) % q == min n 1))) where
  pub rule : (n : ℕ) → 1 ≤ n → n < q → (n * inverted n) % q ≡ 1
  rule n low high = omega (arith, agree q (λ k. (k * inverted k) % q) (λ k. min k 1) tested n high)

  one_mod : 1 % q ≡ 1
  one_mod = mod-eq_of_lt above_one

  zero_mod : 0 % q ≡ 0
  zero_mod = mod-eq_of_lt pos

  below_mod : (x : Residue q) → x.code % q ≡ x.code
  below_mod x = mod-eq_of_lt x.below

  negated : (x : Residue q) → sum x (negative x) ≡ residue pos 0
  negated x =
      same _ _ (simp add-mod-mod (ap (λ n. n % q) (add-sub_of_le (le_of_lt x.below)) ∙ mod_self q ∙ sym zero_mod))

  inverts : (x : Residue q) → (x ≢ residue pos 0) → product x (residue pos (inverted x.code)) ≡ residue pos 1
  inverts x h =
      let apart : x.code ≡ 0 → ⊥ = λ e. h (same _ _ (e ∙ sym zero_mod)) in
      let low : 1 ≤ x.code = omega arith in
      same _ _ (simp mul-mod_second (rule x.code low x.below ∙ sym one_mod))

  counted : (n : ℕ) → (ones (residues pos inverted) n).code ≡ n % q
  counted zero = refl
  counted (suc n) =
      ap (λ m. (m + 1 % q) % q) (counted n) ∙ ap (λ m. (n % q + m) % q) one_mod ∙ mod-add-mod n q 1 ∙ ap (λ m. m % q) (add-one n)

  pub residue_laws : FieldLaws (residues pos inverted)
  residue_laws = record {
    sum_assoc = λ x y z. same _ _ (simp (mod-add-mod, add-mod-mod, add_assoc));
    sum_comm = λ x y. same _ _ (ap (λ n. n % q) (add_comm x.code y.code));
    sum_zero = λ x. same _ _ (simp (add-mod-mod, add-zero) (below_mod x));
    sum_negative = negated;
    product_assoc = λ x y z. same _ _ (simp (mul-mod_first, mul-mod_second, mul_assoc));
    product_comm = λ x y. same _ _ (ap (λ n. n % q) (mul_comm x.code y.code));
    product_one = λ x. same _ _ (simp (mul-mod_second, mul-one) (below_mod x));
    product_inverse = inverts;
    distributes = λ x y z. same _ _ (simp (mul-mod_second, mod-add-mod, add-mod-mod, mul-add));
    zero_is_not_one = λ e. (let f : 0 % q ≡ 1 % q = ap (λ x. x.code) e in omega (arith, f, zero_mod, one_mod));
    order_at_most = at_most;
    code_below = λ x. x.below;
    code_of_one_only = same;
    code_of_some = λ n h. (record { code = n; below = h }, refl);
    code_zero = zero_mod;
    code_one = one_mod;
    characteristic_positive = pos;
    characteristic_ones = same _ _ (counted q ∙ mod_self q ∙ sym zero_mod);
    characteristic_least = λ n low high e.
        (let f : n % q ≡ 0 = sym (counted n) ∙ ap (λ x. x.code) e ∙ zero_mod in omega (arith, f, mod-eq_of_lt high));
  }
