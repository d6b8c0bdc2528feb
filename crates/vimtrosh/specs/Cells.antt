-- The cells that lists of numbers write.
use Rattle.std.specs.Prelude.{ℕ, List, [], ◌∷◌, Some, None, Option}
use Rattle.cell.specs.declared.simplex.Simplex.{Simplex}
use Rattle.cell.specs.declared.cube.Cube.{Cube}

abbrev pub simplex : ℕ → ℕ → ℕ → ℕ → Simplex
simplex a b c d = record { a = a; b = b; c = c; d = d }

-- one to four vertex numbers: those left out are 0
abbrev pub simplex_of : List ℕ → Option Simplex
simplex_of [] = None
simplex_of (a ∷ []) = Some (simplex a 0 0 0)
simplex_of (a ∷ b ∷ []) = Some (simplex a b 0 0)
simplex_of (a ∷ b ∷ c ∷ []) = Some (simplex a b c 0)
simplex_of (a ∷ b ∷ c ∷ d ∷ []) = Some (simplex a b c d)
simplex_of (a ∷ b ∷ c ∷ d ∷ e ∷ rest) = None

-- three doubled coordinates
abbrev pub cube_of : List ℕ → Option Cube
cube_of [] = None
cube_of (x ∷ []) = None
cube_of (x ∷ y ∷ []) = None
cube_of (x ∷ y ∷ z ∷ []) = Some (record { x = x; y = y; z = z })
cube_of (x ∷ y ∷ z ∷ w ∷ rest) = None
