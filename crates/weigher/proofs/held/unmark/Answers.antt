-- `weigher::held::unmark` meets its contract: the marks of the first k in the list are taken off.
-- Assumes nothing.
use mathlib.Core.Path.{refl, ap, ◌∙◌}
use mathlib.Core.Bool.{Bool, false}
use mathlib.Core.List.{List}
use native.Mathlib.Omega.{arith}
use lib.ListN.{get_or, set}
use Rattle.checker.specs.Marks.{marks_in}
use Rattle.checker.proofs.Marking.{marks_length}
use Rattle.weigher.specs.Held.{set_each}
use Rattle.weigher.proofs.Steps.{set_each_next}
use Rattle.weigher.proofs.held.unmark.Goals as goal

pub loop-number-init : goal.loop-number-init
unfolding set_each
loop-number-init c = refl

pub put_mark-requires : goal.put_mark-requires
put_mark-requires c =
    let has = c.requires c.loop-number.number-index (omega arith) in
    omega (arith, marks_length c.loop-number.marks, marks_length c.args.marks.now)

pub loop-number-preserved : goal.loop-number-preserved
loop-number-preserved c =
    let listed = c.args.listed.now in
    let k = c.loop-number.number-index in
    let next = set_each_next false listed k (marks_in c.args.marks.now) (omega arith) in
    c.put_mark.ensures ∙ ap (λ (ns : List Bool). set ns (get_or listed k 0) false) c.loop-number.invariant ∙ next
