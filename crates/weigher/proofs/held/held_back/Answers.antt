-- `weigher::held::held_back` meets its contract: what is listed is all that the literals reach without a mark, and its marks had not
-- been there.
-- Assumes nothing.
use mathlib.Core.Path.{sym, ap, ◌∙◌}
use mathlib.Core.Bool.{false}
use mathlib.Core.List.{[], ◌∷◌}
use Prim.Native.Nat.{ℕ, zero, suc, ◌≤◌, ◌<◌}
use native.Mathlib.Omega.{arith}
use lib.ListN.{get_or, take}
use Rattle.graph.specs.Literal.{var_of}
use Rattle.checker.proofs.Marking.{marks_length}
use Rattle.weigher.specs.Held.{set_each}
use Rattle.weigher.proofs.Steps.{set_each_undone}
use Rattle.weigher.proofs.Walk.{listed_all, walk_counts}
use Rattle.weigher.proofs.held.held_back.Goals as goal

both_within : (top first second : ℕ) → var_of first ≤ top → var_of second ≤ top
    → (j : ℕ) → j < 2 → var_of (get_or (first ∷ second ∷ []) j 0) ≤ top
both_within top first second p q zero h = p
both_within top first second p q (suc zero) h = q
both_within top first second p q (suc (suc j)) h = absurd (omega arith)

pub unmark-requires : goal.unmark-requires
unmark-requires c =
    λ j q.
    let gate = c.mark_reached-count.ensures.holding.gates j q in
    omega (arith, gate.within, marks_length c.args.marks.now, marks_length c.mark_reached-count.new.marks)

pub returns : goal.returns
returns c =
    let list = c.mark_reached-count.new.list in
    let walk = c.mark_reached-count.ensures.holding in
    let marked = c.mark_reached-count.ensures.marks_after in
    let r = c.mark_reached-count.result in
    let vs = take r list in
    let all = listed_all _ _ _ list r walk in
    let within = both_within _ _ _ c.requires.first_bound.0 c.requires.first_bound.1 in
    record {
      counts_held = λ top closed low.
          sym all ∙ walk_counts _ _ _ vs c.mark_reached-count.ensures.well_formed.lawful top closed low r (omega arith) walk within;
      marks_unchanged = c.unmark.ensures ∙ ap (set_each false vs) marked ∙ set_each_undone vs _ walk.had_none;
    }
