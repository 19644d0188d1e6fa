-- `judge::proposal_verdict` meets its contract: the window's refusals come first, then its two tests in their order.
-- Assumes nothing.
use mathlib.Core.Path.{◌≡◌, sym, ap, ◌∙◌}
use mathlib.Core.Bool.{true}
use mathlib.Core.Option.{none}
use Rattle.std.proofs.lemmas.Result.{err_from_is_err_and}
use Rattle.graph.specs.Refuse.{first_refusal, verdict_is}
use Rattle.graph.proofs.Graph.{net_well_formed}
use Rattle.window.specs.Calls.{window_refusals}
use Rattle.cutter.proofs.Verdicts.{window_known}
use Rattle.replacement.specs.Proposal.{allowed}
use Rattle.replacement.specs.Calls.{equal_tables}
use Rattle.judge.proofs.Verdicts.{by_window, bad_candidate, not_equal, proposal_fine, literals_below}
use Rattle.judge.proofs.proposal_verdict.Goals as goal
use Rattle.judge.proofs.proposal_verdict.Goals.{Else-not-is_allowed, In_ok-window_verdict}

-- the window has no refusal
fine : (c : In_ok-window_verdict) → first_refusal (window_refusals c.args.graph.now c.args.root.0 c.args.leaves) ≡ none
unfolding verdict_is
fine c = sym c.window_verdict.ensures ∙ ap verdict_is c.in_ok-window_verdict.was

-- and the proposal keeps its kind's rule
passed : (c : Else-not-is_allowed) → allowed c.args.graph.now.net c.args.root.0 c.args.leaves c.args.proposal ≡ true
passed c = sym (rw c.net-net.ensures at c.is_allowed.ensures) ∙ c.if-not-is_allowed.false

pub returns-in_err-window_verdict : goal.returns-in_err-window_verdict
unfolding verdict_is
returns-in_err-window_verdict c =
    let p = err_from_is_err_and c.from_residual.result c.from_residual.ensures.1 in
    let first = sym c.window_verdict.ensures ∙ ap verdict_is c.in_err-window_verdict.was in
    rw (p.1, p.2) (sym (by_window _ _ _ _ _ first))

pub net-net-requires : goal.net-net-requires
net-net-requires c = net_well_formed _ (window_known _ _ _ c.window_verdict.ensures c.in_ok-window_verdict.was).graph

pub invariant_of-window : goal.invariant_of-window
invariant_of-window c =
    let known = window_known _ _ _ c.window_verdict.ensures c.in_ok-window_verdict.was in
    record {
      net_ok = rw c.net-net.ensures (net_well_formed _ known.graph);
      within = rw c.net-net.ensures known.root_used.is_gate.within;
      well_set = known.leaves;
    }

pub returns-then-not-is_allowed : goal.returns-then-not-is_allowed
unfolding verdict_is
returns-then-not-is_allowed c =
    let at = goal.at.returns-then-not-is_allowed c in
    sym (bad_candidate _ _ _ _ (fine at.In_ok-window_verdict) (sym (rw c.net-net.ensures at c.is_allowed.ensures) ∙ c.if-not-is_allowed.true))

pub is_equal-requires : goal.is_equal-requires
is_equal-requires c =
    let known = window_known _ _ _ c.window_verdict.ensures c.in_ok-window_verdict.was in
    literals_below c.args.graph.now _ _ _ known.root_used.is_gate (passed (goal.at.is_equal-requires c).Else-not-is_allowed)

pub returns-then-not-is_equal : goal.returns-then-not-is_equal
unfolding verdict_is equal_tables
returns-then-not-is_equal c =
    let at = goal.at.returns-then-not-is_equal c in
    sym (not_equal _ _ _ _ (fine at.In_ok-window_verdict) (passed at.Else-not-is_allowed) (sym (rw c.net-net.ensures at c.is_equal.ensures) ∙ c.if-not-is_equal.true))

pub returns : goal.returns
unfolding verdict_is equal_tables
returns c =
    let at = goal.at.returns c in
    sym (proposal_fine _ _ _ _ (fine at.In_ok-window_verdict) (passed at.Else-not-is_allowed) (sym (rw c.net-net.ensures at c.is_equal.ensures) ∙ c.if-not-is_equal.false))
