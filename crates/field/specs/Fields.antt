-- What a field of at most 256 elements is: its operations on elements, and their laws.
use Rattle.std.specs.Prelude.{◌≡◌, ℕ, zero, suc, ◌<◌, ◌≤◌, Bool, ◌==◌, ◌≢◌}

pub record FieldOf (F : Type 0) : Type 0 where
  pub order : ℕ
  pub characteristic : ℕ
  pub zero : F
  pub one : F
  pub sum : F → F → F
  pub product : F → F → F
  pub negative : F → F
  pub inverse : F → F
  pub code : F → ℕ

module _ {F : Type 0} (K : FieldOf F) where
  -- zero is the element of code 0
  abbrev pub is_zero : F → Bool
  is_zero x = K.code x == 0

  -- the sum of n ones
  abbrev pub ones : ℕ → F
  ones zero = K.zero
  ones (suc n) = K.sum (ones n) K.one

  pub record FieldLaws : Type 0 where
    pub sum_assoc : (x y z : F) → K.sum (K.sum x y) z ≡ K.sum x (K.sum y z)
    pub sum_comm : (x y : F) → K.sum x y ≡ K.sum y x
    pub sum_zero : (x : F) → K.sum x K.zero ≡ x
    pub sum_negative : (x : F) → K.sum x (K.negative x) ≡ K.zero
    pub product_assoc : (x y z : F) → K.product (K.product x y) z ≡ K.product x (K.product y z)
    pub product_comm : (x y : F) → K.product x y ≡ K.product y x
    pub product_one : (x : F) → K.product x K.one ≡ x
    pub product_inverse : (x : F) → (x ≢ K.zero) → K.product x (K.inverse x) ≡ K.one
    pub distributes : (x y z : F) → K.product x (K.sum y z) ≡ K.sum (K.product x y) (K.product x z)
    pub zero_is_not_one : K.zero ≡ K.one → ⊥
    pub order_at_most : K.order ≤ 256
    pub code_below : (x : F) → K.code x < K.order
    pub code_of_one_only : (x y : F) → K.code x ≡ K.code y → x ≡ y
    pub code_of_some : (n : ℕ) → n < K.order → (x : F) × (K.code x ≡ n)
    pub code_zero : K.code K.zero ≡ 0
    pub code_one : K.code K.one ≡ 1
    pub characteristic_positive : 1 ≤ K.characteristic
    pub characteristic_ones : ones K.characteristic ≡ K.zero
    pub characteristic_least : (n : ℕ) → 1 ≤ n → n < K.characteristic → ones n ≢ K.zero
