-- `cutter::next_leaf::NextLeaf::past` meets its contract: past the next leaf stands the leaf at the place after it.
-- Assumes nothing.
use Rattle.std.proofs.Common.{sym, ◌∙◌}
use Rattle.cutter.proofs.Passed.{ahead_leaf, ahead_other}
use Rattle.cutter.proofs.next_leaf.NextLeaf.past.Goals as goal

pub returns-then-is : goal.returns-then-is
returns-then-is c = ahead_leaf c.requires (sym c.is.ensures ∙ c.if-is.true) c.at.ensures.place_value c.at.ensures.leaf_value

pub returns : goal.returns
returns c = ahead_other c.requires (sym c.is.ensures ∙ c.if-is.false)
