-- `window::Leaves::has` meets its contract.
-- Assumes nothing.
use Rattle.std.proofs.Common.{sym, ap, ◌∙◌}
use Rattle.graph.specs.Lists.{is_in}
use Rattle.window.proofs.Along.{in_by_std}
use Rattle.window.proofs.leaf_set.Leaves.has.Goals as goal

pub returns : goal.returns
returns c =
    c.contains.ensures.value
    ∙ sym (in_by_std c.args.v.0 c.as_slice.result.now)
    ∙ ap (is_in c.args.v.0) c.as_slice.ensures
