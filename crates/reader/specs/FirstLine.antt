-- The first line as the code finds it.
-- Only contracts inside the crate speak of these.
-- Assumes nothing.
use Rattle.std.specs.Prelude.{ℕ, List, [], ◌∷◌, drop, Option as Found, Some, None}
use Rattle.std.proofs.Math.Option.{Option, none, some}
use Rattle.text.specs.declared.header.Header.{Header}
use Rattle.reader.specs.declared.header.HeaderAt.{HeaderAt}
use Rattle.text.specs.Number.{Front, front}

abbrev pub header_numbers : Header → List ℕ
header_numbers h = h.highest ∷ h.inputs ∷ h.latches ∷ h.outputs ∷ h.gates ∷ []

unfoldable pub header_step : List ℕ → Found HeaderAt → Option (Front (List ℕ))
header_step t None = none
header_step t (Some s) = some (front (header_numbers s.header) (drop s.next t))
