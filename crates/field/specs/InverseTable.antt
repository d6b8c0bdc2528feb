-- The rule of a table of the inverses modulo 251.
use Rattle.std.specs.Prelude.{ℕ, zero, suc, ◌*◌, ◌%◌, Bool, IsTrue, List, ◌==◌, ◌&&◌, nat_lt, slice_index}
use Rattle.field.specs.Finite.{all}

-- x may stand at place k: 0 at place 0, and else a number below 251 whose product with k is one
abbrev pub inverts : ℕ → ℕ → Bool
inverts zero x = x == 0
inverts (suc k) x = nat_lt x 251 && (suc k * x) % 251 == 1

abbrev pub InverseTable : List ℕ → Type 0
InverseTable table = IsTrue (all 251 (λ k. inverts k (slice_index table k)))
