-- Elements of one code are one element.
use Rattle.std.specs.Prelude.{◌≡◌, ℕ, ◌<◌}
use Rattle.std.specs.Coded.{le_prop}
use mathlib.Core.HLevel.{is_prop→PathP}
use Rattle.field.specs.declared.elements.Residue.{Residue}
use Rattle.field.specs.declared.elements.Gf4.{Gf4}

module _ {q : ℕ} {F : Type 0} (made : (n : ℕ) → n < q → F) where
  pub same_made : {a b : ℕ} (e : a ≡ b) (ha : a < q) (hb : b < q) → made a ha ≡ made b hb
  same_made e ha hb = λ i. made (e i) (is_prop→PathP (λ j. e j < q) (λ j. le_prop) ha hb i)

pub same : {q : ℕ} (x y : Residue q) → x.code ≡ y.code → x ≡ y
same x y e = same_made (λ n h. record { code = n; below = h }) e x.below y.below

pub same_four : (x y : Gf4) → x.code ≡ y.code → x ≡ y
same_four x y e = same_made (λ n h. record { code = n; below = h }) e x.below y.below
