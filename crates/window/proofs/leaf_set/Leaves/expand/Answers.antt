-- `window::Leaves::expand` meets its contract.
-- Assumes nothing.
use Rattle.std.proofs.Common.{ℕ, List, ap, ◌∙◌}
use Rattle.window.specs.LeafRule.{with_fanins, expand}
use Rattle.window.specs.Growing.{grown_of}
use Rattle.window.proofs.Growing.{list_of}
use Rattle.window.proofs.leaf_set.Leaves.expand.Goals as goal

pub returns : goal.returns
unfolding expand
returns c =
    c.with_fanins.ensures
    ∙ ap (λ (xs : List ℕ). grown_of (with_fanins c.args.graph.now.net c.args.leaf.0 xs)) (list_of _ _ c.remove.ensures)
