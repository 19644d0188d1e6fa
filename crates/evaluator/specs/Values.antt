-- What the sweep starts from.
-- Assumes nothing.
use Rattle.std.specs.Prelude.{ℕ, Bool, false, List, ◌∷◌, map, eqb}

-- the values of variable 0 and of the inputs, which are assigned these
unfoldable pub input_values : List ℕ → List Bool
input_values vs = false ∷ map (λ x. eqb x 1) vs
