-- `window::Table::of_leaf` meets its contract: the code's patterns are the definition's.
-- Assumes nothing.
use mathlib.Core.Path.{ap}
use Prim.Native.Nat.{ℕ}
use lib.ListN.{get_or-map}
use Rattle.window.specs.declared.truth.Table.{Table}
use Rattle.window.specs.Table.{leaf_patterns, leaf_pattern}
use Rattle.window.proofs.truth.Table.of_leaf.Goals as goal

pub returns : goal.returns
unfolding leaf_pattern
returns c = ap (λ (t : Table). t.0) (get_or-map (λ (x : ℕ). record { 0 = x }) leaf_patterns c.args.j 0)
