-- `exports::leaves_at` meets its contract: the places are the six numbers.
-- Assumes nothing.
use mathlib.Core.Path.{refl}
use Rattle.window.specs.Leaves.{variables}
use Rattle.exports.proofs.leaves_at.Goals as goal

pub returns : goal.returns
unfolding variables
returns c = refl
