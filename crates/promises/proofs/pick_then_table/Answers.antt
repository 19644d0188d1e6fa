-- `promises::pick_then_table` meets its contract: the leaves that the rule picks make a window, and a window has its table.
-- Assumes nothing.
use mathlib.Core.Path.{◌≡◌, ap, ◌∙◌}
use Rattle.window.specs.declared.leaf_set.Leaves.{Leaves}
use Rattle.window.specs.Calls.{table_answer}
use Rattle.promises.proofs.Contracts.{leaves_were_picked, window_was_tabled}
use Rattle.promises.proofs.pick_then_table.Goals as goal

pub returns-in-Ok-clause-picked_and_tabled : goal.returns-in-Ok-clause-picked_and_tabled
returns-in-Ok-clause-picked_and_tabled c =
    λ ok used.
    let as_picked = leaves_were_picked _ _ _ c.in-Ok.ensures ok used in
    let same : c.in-Ok.leaves ≡ as_picked.leaves = cc in
    let tabled-now = c.table-table.ensures ∙ ap (λ (w : Leaves). table_answer c.args.graph.now c.args.root.0 w) same in
    (as_picked, window_was_tabled _ _ _ _ tabled-now as_picked.window)

pub returns-in-Err-clause-picked_and_tabled : goal.returns-in-Err-clause-picked_and_tabled
returns-in-Err-clause-picked_and_tabled c =
    λ ok used. let as_picked = leaves_were_picked _ _ _ c.in-Err.ensures ok used in absurd (cc)
