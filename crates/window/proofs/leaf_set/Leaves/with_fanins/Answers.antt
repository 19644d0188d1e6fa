-- `window::Leaves::with_fanins` meets its contract.
-- Assumes nothing.
use Rattle.std.proofs.Common.{sym, ap, ◌∙◌}
use Rattle.graph.specs.Literal.{var_of}
use Rattle.window.specs.Leaves.{leaf_list}
use Rattle.window.proofs.Growing.{list_of, grown_some, grown_longer, fanins_are, fanins_longer}
use Rattle.window.proofs.leaf_set.Leaves.with_fanins.Goals as goal

pub returns-in_err-insert : goal.returns-in_err-insert
returns-in_err-insert c =
    let net = c.args.graph.now.net in
    let is_first = ap var_of (sym c.fanins_of-gate.ensures.first_value) in
    let is_second = ap var_of (sym c.fanins_of-gate.ensures.second_value) ∙ sym c.var.ensures in
    let longer = fanins_longer net c.args.v.0 _ _ (leaf_list c.args.self) is_first is_second in
    c.from_residual.ensures ∙ grown_longer _ _ (sym c.in_err-insert.was ∙ c.insert.ensures) longer

pub returns : goal.returns
returns c =
    let net = c.args.graph.now.net in
    let is_first = ap var_of (sym c.fanins_of-gate.ensures.first_value) ∙ sym c.var-2.ensures in
    let is_second = ap var_of (sym c.fanins_of-gate.ensures.second_value) ∙ sym c.var.ensures in
    let (few, one) = grown_some _ _ (sym c.in_ok-insert.was ∙ c.insert.ensures) in
    let with_both = fanins_are net c.args.v.0 _ _ (leaf_list c.args.self) is_first is_second in
    c.insert-2.ensures ∙ rw (list_of _ _ one, with_both)
