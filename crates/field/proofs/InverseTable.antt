-- The rule of a table of the inverses modulo 251, carried to each entry.
use Rattle.std.proofs.Common.{◌≡◌, ℕ, zero, suc, ◌*◌, ◌%◌, ◌^◌, ◌<◌, eqb, ltb, List, get_or, refl, mod-lt, mod-eq_of_lt, mul_assoc, mul_comm, one-mul, mul-one, arith, lit<, lit≤}
use Rattle.std.proofs.lemmas.Bool.{and_parts}
use Rattle.std.proofs.lemmas.Bool.Decides.{Decides-eqb, Decides-ltb}
use Rattle.std.proofs.lemmas.Nat.{mul-mod_first, mul-mod_second}
use Rattle.field.specs.Finite.{at}
use Rattle.field.specs.InverseTable.{InverseTable, inverts}
use Rattle.field.specs.ResidueLaws.{rule}

-- there is one inverse at most
only : (q a x y : ℕ) → x < q → y < q → (a * x) % q ≡ 1 → (a * y) % q ≡ 1 → x ≡ y
only q a x y hx hy ex ey =
    let both : (x * (a * y % q)) % q ≡ (x * a % q * y) % q = simp (mul-mod_first, mul-mod_second, mul_assoc) in
    rw (ey, mul_comm x a, ex, mul-one, one-mul, mod-eq_of_lt hx, mod-eq_of_lt hy) at both

module _ (table : List ℕ) (tested : InverseTable table) where
  pub entry : (k : ℕ) → k < 251 → get_or table k 0 ≡ k ^ 249 % 251
  entry zero h = (Decides-eqb _ _).0 (at 251 (λ k. inverts k (get_or table k 0)) tested zero h)
  entry (suc k) h =
      let x : ℕ = get_or table (suc k) 0 in
      let t = and_parts (ltb x 251) (eqb ((suc k * x) % 251) 1) (at 251 (λ k. inverts k (get_or table k 0)) tested (suc k) h) in
      only 251 (suc k) x (suc k ^ 249 % 251) ((Decides-ltb _ _).0 t.0) (mod-lt _ (lit< tt)) ((Decides-eqb _ _).0 t.1)
      (rule (lit< tt) (lit< tt) (lit≤ tt) (λ n. n ^ 249 % 251) refl (suc k) (omega arith) h)
