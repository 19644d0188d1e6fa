-- `window::Leaves::ascends` meets its contract: what the leaves from the next one on say is what all of them say.
-- Assumes nothing.
use Rattle.std.proofs.Common.{◌+◌, ◌≤◌, ◌<◌, get_or, drop, sym, ap, ◌∙◌, rules, tests}
use Rattle.window.specs.Leaves.{numbers}
use Rattle.window.proofs.Along.{rest_more, rest_end}
use Rattle.window.proofs.Places.{ascend_below, ascend_more, ascend_not, ascend_over, ascend_end}
use Rattle.window.proofs.leaf_set.Leaves.ascends.Goals as goal
use Rattle.window.proofs.leaf_set.Leaves.ascends.Goals.{then-le-via-then-le, then-le-via-else-le+then-le-2}

pub returns-then-le : goal.returns-then-le
returns-then-le c =
    let root = c.args.root.0 in
    let leaves = c.as_slice-leaf-items.result.now in
    let before = c.loop-leaf.before.0 in
    let leaf = (get_or leaves c.loop-leaf.leaf-index (record { 0 = 0 })).0 in
    let rest = numbers (drop (c.loop-leaf.leaf-index + 1) leaves) in
    let all =
    ap (ascend_below root 0) (sym c.as_slice-leaf-items.ensures)
    ∙ c.loop-leaf.invariant
    ∙ ap (ascend_below root before) (rest_more leaves c.loop-leaf.leaf-index c.loop-leaf-test.true) in
    elim c.then-le.branch [
      | then-le-via-then-le w ↦ let down : leaf ≤ before = search (rules, tests) in sym (ascend_not root _ before leaf rest all down)
      | then-le-via-else-le+then-le-2 w ↦ let high : root ≤ leaf = search (rules, tests) in sym (ascend_over root _ before leaf rest all high)
    ]

pub loop-leaf-preserved : goal.loop-leaf-preserved
loop-leaf-preserved c =
    let root = c.args.root.0 in
    let leaves = c.as_slice-leaf-items.result.now in
    let before = c.loop-leaf.before.0 in
    let leaf = (get_or leaves c.loop-leaf.leaf-index (record { 0 = 0 })).0 in
    let rest = numbers (drop (c.loop-leaf.leaf-index + 1) leaves) in
    let all = c.loop-leaf.invariant ∙ ap (ascend_below root before) (rest_more leaves c.loop-leaf.leaf-index c.loop-leaf-test.true) in
    let up : before < leaf = search (rules, tests) in
    let low : leaf < root = search (rules, tests) in
    ascend_more root _ before leaf rest all up low

pub returns : goal.returns
returns c =
    let root = c.args.root.0 in
    let leaves = c.as_slice-leaf-items.result.now in
    let before = c.loop-leaf.before.0 in
    sym (
    ap (ascend_below root 0) (sym c.as_slice-leaf-items.ensures)
    ∙ c.loop-leaf.invariant
    ∙ ap (ascend_below root before) (rest_end leaves c.loop-leaf.leaf-index c.loop-leaf-test.false)
    ∙ ascend_end root before
    )
