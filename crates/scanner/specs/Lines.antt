-- Lines that the code finds at a place, and why one is refused.
-- Assumes nothing.
use Rattle.std.specs.Prelude.{ℕ, Bool, cond, List, drop, Option as Found, Some, None}
use Rattle.std.proofs.Math.Option.{Option, none, some}
use Rattle.graph.specs.declared.refusal.Refusal.{Refusal}
use Rattle.graph.specs.declared.refusal.Refusal.TheVariants.{BadLine, BadLiteral}
use Rattle.text.specs.Number.{Front, front}

-- a line's numbers, where these are what is lent at the end
unfoldable pub line_step : List ℕ → List ℕ → Found ℕ → Option (Front (List ℕ))
line_step t ns None = none
line_step t ns (Some next) = some (front ns (drop next t))

-- why a line is refused: it is misshapen, or it breaks its rule
unfoldable pub line_refusal : Bool → Bool → Option Refusal
line_refusal found kept = cond found (cond kept none (some BadLiteral)) (some BadLine)
