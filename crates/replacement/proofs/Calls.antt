-- Applying a proposal: the refusal given is the lowest that holds, what is known where none does, and that the order is never lost.
-- Assumes nothing.
use mathlib.Core.Path.{◌≡◌, refl}
use mathlib.Core.Option.{none}
use mathlib.Core.Bool.{true}
use mathlib.Core.Logic.{◌↔◌, ◌⊎◌, inl, inr}
use Prim.Native.Nat.{ℕ, ◌≤◌, ◌<◌}
use native.Mathlib.Omega.{arith}
use Rattle.graph.specs.declared.refusal.Refusal.{Refusal}
use Rattle.graph.specs.declared.refusal.Refusal.TheVariants.{BadGraph, BadRoot, BadCandidate, NoGain, OrderLost}
use Rattle.graph.specs.Lent.{Buffers}
use Rattle.graph.specs.Refuse.{first_refusal, number_of, Lowest, Answers}
use Rattle.graph.specs.Use.{used_gates}
use Rattle.graph.specs.Graph.{Graph}
use Rattle.graph.proofs.Graph.{well_formed_iff}
use Rattle.graph.proofs.Refuse.{
  number_of_injective,
  shown,
  none_shown,
  settles_answers,
  ascends,
  Silent,
  Decides,
  none_silent,
  first_settles,
  none_parts,
  decides_join,
}
use Rattle.graph.proofs.Tests.{denial_on, denial_off, eqb_iff}
use Rattle.graph.proofs.Lent.{room_iff, no_room_iff}
use Rattle.window.specs.declared.leaf_set.Leaves.{Leaves}
use Rattle.window.specs.Table.{table, same_table}
use Rattle.window.specs.Local.{Covered}
use Rattle.window.specs.Calls.{window_refusals, Window, WindowGiven, root_refusals, by_root, bad_graph, bad_root}
use Rattle.window.proofs.Calls.{silent_window, window_accepted, window_decides, window_at_most}
use Rattle.replacement.specs.declared.types.Proposal.{Proposal}
use Rattle.replacement.specs.Proposal.{allowed, RuleKept, proposed_table}
use Rattle.replacement.specs.Rewire.{finished}
use Rattle.replacement.specs.Calls.{
  equal_tables,
  GoodProposal,
  apply_rank,
  ApplyGiven,
  by_window,
  bad_candidate,
  not_equal,
  no_gain,
  order_lost,
  no_room,
  apply_refusals,
  apply_effect,
  applied_outcome,
}
use Rattle.replacement.proofs.Gain.{gain_iff}
use Rattle.replacement.proofs.ProposalLaws.{allowed_iff, rule_iff}
use Rattle.replacement.proofs.Finished.{finished_well_formed}

equal_iff : (g : Graph) (root : ℕ) (w : Leaves) (p : Proposal)
    → (equal_tables g root w p ≡ true) ↔ (proposed_table g.net root w p ≡ table g.net w root)
unfolding equal_tables same_table
equal_iff g root w p = eqb_iff _ _

module _ (g : Graph) (root : ℕ) (w : Leaves) (p : Proposal) where
  -- ---- the refusals

  -- the test of the rule stands on a window
  candidate_iff : Window g root w → (allowed g.net root w p ≡ true) ↔ RuleKept (Covered g.net w) root p
  candidate_iff known =
      let same = rule_iff g known.graph.lawful root known.root_used.is_gate w p in
      let test = allowed_iff g.net root w p in (λ e. same.0 (test.0 e), λ r. test.1 (same.1 r))

  module _ (b : Buffers) where
    -- the four rows of a window stand before the others
    apply_complete : (q : Refusal) → ApplyGiven g root w p b q
        → WindowGiven g root w q ⊎ (¬ Silent apply_rank q (apply_refusals g root w p b))
    unfolding apply_refusals window_refusals root_refusals
    apply_complete q (by_window h) = inl h
    apply_complete q (bad_candidate h) = inr (λ s.
        let known = silent_window g root w (λ _. s.0 refl, (λ _. s.1.0 refl, (λ _. s.1.1.0 refl, (λ _. s.1.1.1.0 refl, tt)))) in
        h (denial_off _ (candidate_iff known) (s.1.1.1.1.0 refl)))
    apply_complete q (not_equal h) = inr (λ s. let t = s.1.1.1.1 in h (denial_off _ (equal_iff g root w p) (t.1.0 refl)))
    apply_complete q (no_gain h) =
        inr (λ s. let t = s.1.1.1.1 in let f = denial_off _ (gain_iff g root p) (t.1.1.0 refl) in omega arith)
    apply_complete q (order_lost h) =
        inr (λ s. let t = s.1.1.1.1 in h (denial_off _ (well_formed_iff (finished g root p)) (t.1.1.1.0 refl)))
    apply_complete q (no_room h) =
        inr (λ s. let t = s.1.1.1.1 in h ((room_iff (finished g root p) b).0 (t.1.1.1.1.0 refl)))

    no_fewer : ¬ (used_gates (finished g root p) < used_gates g) → used_gates g ≤ used_gates (finished g root p)
    no_fewer n = omega arith

    apply_decides : Decides apply_rank (ApplyGiven g root w p b) (apply_refusals g root w p b)
    unfolding apply_refusals window_refusals root_refusals ascends
    apply_decides = decides_join (λ q. by_window) _ (window_decides g root w) refl
        (λ n. (
          λ e. bad_candidate (denial_on _ (candidate_iff (window_accepted g root w n)) e),
          λ _. (
            λ e. not_equal (denial_on _ (equal_iff g root w p) e),
            λ _. (
              λ e. no_gain (no_fewer (denial_on _ (gain_iff g root p) e)),
              λ _. (
                λ e. order_lost (denial_on _ (well_formed_iff (finished g root p)) e),
                λ _. (λ e. no_room ((no_room_iff (finished g root p) b).0 e), λ _. tt),
              ),
            ),
          ),
        ))
        apply_complete

    pub apply_answers : Answers apply_rank (ApplyGiven g root w p b) (applied_outcome (apply_effect g root w p b).answer).number
    unfolding apply_effect applied_outcome
    apply_answers =
        settles_answers number_of_injective (first_settles apply_decides) _ (λ q e. rw (e, apply_effect)) (λ e. rw (e, apply_effect))

    -- a refusal leaves the lent lists as they were
    pub apply_writes_nothing : (r : Refusal) → (applied_outcome (apply_effect g root w p b).answer).number ≡ number_of r
        → (apply_effect g root w p b).lent ≡ b
    unfolding apply_effect applied_outcome
    apply_writes_nothing r e =
        let s = shown (first_refusal (apply_refusals g root w p b)) _ (λ n. rw (n, apply_effect)) r e in rw (s.1, apply_effect)

    pub apply_none_given : (applied_outcome (apply_effect g root w p b).answer).number ≡ 0
        → first_refusal (apply_refusals g root w p b) ≡ none
    unfolding apply_effect applied_outcome
    apply_none_given e = none_shown (first_refusal (apply_refusals g root w p b)) _ (λ q r. rw (r, apply_effect)) e

    -- a proposal that is not refused is good
    pub apply_accepted : (applied_outcome (apply_effect g root w p b).answer).number ≡ 0 → GoodProposal g root w p
    unfolding apply_refusals
    apply_accepted e =
        let parts = none_parts (window_refusals g root w) _ (apply_none_given e) in
        let s = none_silent apply_rank NoGain _ parts.1 in
        let known = window_accepted g root w parts.0 in
        record {
          window = known;
          rule = denial_off _ (candidate_iff known) (s.0 refl);
          equal = denial_off _ (equal_iff g root w p) (s.1.0 refl);
          fewer = denial_off _ (gain_iff g root p) (s.1.1.0 refl);
        }

    -- where the order would be lost a lower refusal holds
    never_given : Lowest apply_rank (ApplyGiven g root w p b) OrderLost → ¬ ApplyGiven g root w p b OrderLost
    never_given l (by_window h) = absurd (omega (arith, window_at_most g root w h))
    never_given l (order_lost h) =
        l.none_lower BadGraph (omega arith) (by_window (by_root (bad_graph (λ ok.
        l.none_lower BadRoot (omega arith) (by_window (by_root (bad_root (λ used.
        l.none_lower BadCandidate (omega arith) (bad_candidate (λ rule.
        l.none_lower NoGain (omega arith) (no_gain (no_fewer (λ fewer.
        let tested = (rule_iff g ok.lawful root used.is_gate w p).1 rule in
        h (finished_well_formed g ok root used.is_gate w p tested fewer))))))))))))))

    pub order_lost_never_given : ¬ ((applied_outcome (apply_effect g root w p b).answer).number ≡ number_of OrderLost)
    order_lost_never_given e = let l = (apply_answers.refuses OrderLost).0 e in never_given l l.holds
