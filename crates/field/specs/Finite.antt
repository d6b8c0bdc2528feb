-- A test of every number below a bound, and what it tells of each.
use Rattle.std.specs.Prelude.{◌≡◌, ℕ, zero, suc, ◌<◌, Bool, true, ◌&&◌, ◌==◌, IsTrue, refl}
use Rattle.std.proofs.lemmas.Bool.Decides.{Decides-below_and, Decides-eqb}

abbrev pub all : ℕ → (ℕ → Bool) → Bool
all zero f = true
all (suc n) f = f n && all n f

pub at : (n : ℕ) (f : ℕ → Bool) → IsTrue (all n f) → (k : ℕ) → k < n → IsTrue (f k)
at n f = (Decides-below_and f (λ k. IsTrue (f k)) (λ m. all m f) (λ _. (λ e. e, λ e. e)) refl (λ _. refl) n).0

-- functions that agree at every number below a bound, by such a test
module _ (n : ℕ) where
  pub agree : (f g : ℕ → ℕ) → IsTrue (all n (λ a. f a == g a)) → (a : ℕ) → a < n → f a ≡ g a
  agree f g t a ha = (Decides-eqb _ _).0 (at n (λ x. f x == g x) t a ha)

  pub agree2 : (f g : ℕ → ℕ → ℕ) → IsTrue (all n (λ a. all n (λ b. f a b == g a b))) → (a b : ℕ) → a < n → b < n → f a b ≡ g a b
  agree2 f g t a b ha hb = agree (f a) (g a) (at n (λ x. all n (λ y. f x y == g x y)) t a ha) b hb

  pub agree3 : (f g : ℕ → ℕ → ℕ → ℕ) → IsTrue (all n (λ a. all n (λ b. all n (λ c. f a b c == g a b c)))) → (a b c : ℕ) → a < n → b < n → c < n → f a b c ≡ g a b c
  agree3 f g t a b c ha hb hc =
      agree2 (f a) (g a) (at n (λ x. all n (λ y. all n (λ z. f x y z == g x y z))) t a ha) b c hb hc
