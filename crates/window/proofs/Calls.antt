-- Picking leaves and asking for a table: the refusal given is the lowest that holds, and what is known where none does.
-- Assumes nothing.
use mathlib.Core.Path.{◌≡◌, refl, sym, ap, ◌∙◌}
use mathlib.Core.Bool.{true, false, not}
use mathlib.Core.Logic.{◌↔◌, ◌⊎◌, inl, inr}
use mathlib.Core.Option.{none}
use Prim.Native.Nat.{ℕ, ◌≤◌}
use native.Mathlib.Omega.{arith}
use Rattle.std.specs.Prelude.{Result, Ok, Err}
use Rattle.graph.specs.declared.refusal.Refusal.{Refusal}
use Rattle.graph.specs.declared.refusal.Refusal.TheVariants.{BadRoot, NotACut}
use Rattle.graph.specs.Refuse.{first_refusal, number_of, Outcome, Answers}
use Rattle.graph.specs.Graph.{Graph, well_formed, WellFormed}
use Rattle.graph.specs.Use.{in_use, InUse}
use Rattle.graph.proofs.Graph.{well_formed_iff}
use Rattle.graph.proofs.Use.{in_use_iff}
use Rattle.graph.proofs.Refuse.{
  number_of_injective,
  number_of_not_zero,
  settles_answers,
  ascends,
  Silent,
  Decides,
  none_silent,
  first_settles,
  decides_join,
}
use Rattle.graph.proofs.Tests.{denial_on, denial_off}
use Rattle.window.specs.declared.leaf_set.Leaves.{Leaves}
use Rattle.window.specs.Local.{covered, Covered}
use Rattle.window.specs.Calls.{
  root_refusals,
  root_rank,
  RootGiven,
  bad_graph,
  bad_root,
  pick_answer,
  pick_outcome,
  window_refusals,
  Window,
  window_rank,
  WindowGiven,
  by_root,
  bad_leaves,
  not_a_cut,
  table_answer,
  table_outcome,
}
use Rattle.window.proofs.LeavesLaws.{well_set_iff}
use Rattle.window.proofs.Local.{covered_iff}

-- ---- an answer whose number is a refusal's is that refusal

refused_alone : {A : Type 0} (outcome : Result A Refusal → Outcome) → ((q : Refusal) → (outcome (Err q)).number ≡ number_of q)
    → ((x : A) → (outcome (Ok x)).number ≡ 0) → (a : Result A Refusal) (r : Refusal) → (outcome a).number ≡ number_of r → a ≡ Err r
refused_alone outcome shows accepts (Ok x) r e = absurd (number_of_not_zero r (sym (accepts x) ∙ e))
refused_alone outcome shows accepts (Err q) r e = ap Err (number_of_injective q r (sym (shows q) ∙ e))

-- ---- a graph and a gate in use

known_graph : (g : Graph) → not (well_formed g) ≡ false → WellFormed g
known_graph g e = denial_off _ (well_formed_iff g) e

module _ (g : Graph) (root : ℕ) where
  -- the test of the root stands on a graph that is well formed
  root_iff : WellFormed g → (in_use g root ≡ true) ↔ InUse g root
  root_iff ok = in_use_iff g ok.lawful root

  known_root : not (well_formed g) ≡ false → not (in_use g root) ≡ false → WellFormed g × InUse g root
  known_root e f = let ok = known_graph g e in (ok, denial_off _ (root_iff ok) f)

  pub root_accepted : first_refusal (root_refusals g root) ≡ none → WellFormed g × InUse g root
  unfolding root_refusals
  root_accepted e = let s = none_silent root_rank BadRoot (root_refusals g root) e in known_root (s.0 refl) (s.1.0 refl)

  root_complete : (q : Refusal) → RootGiven g root q → ¬ Silent root_rank q (root_refusals g root)
  unfolding root_refusals
  root_complete q (bad_graph h) s = h (known_graph g (s.0 refl))
  root_complete q (bad_root h) s = h (known_root (s.0 refl) (s.1.0 refl)).1

  pub root_decides : Decides root_rank (RootGiven g root) (root_refusals g root)
  unfolding root_refusals ascends
  root_decides = record {
    ascending = refl;
    sound = (
      λ e. bad_graph (denial_on _ (well_formed_iff g) e),
      λ ok. (λ e. bad_root (denial_on _ (root_iff (known_graph g ok)) e), λ _. tt),
    );
    complete = root_complete;
  }

  pub pick_answers : Answers root_rank (RootGiven g root) (pick_outcome (pick_answer g root)).number
  unfolding pick_answer pick_outcome
  pick_answers = settles_answers number_of_injective (first_settles root_decides) _ (λ q e. rw (e, pick_answer)) (λ e. rw (e, pick_answer))

  -- a refusal is the whole answer: no leaves come with it
  pub pick_refused_empty : (r : Refusal) → (pick_outcome (pick_answer g root)).number ≡ number_of r → pick_answer g root ≡ Err r
  unfolding pick_outcome
  pick_refused_empty = refused_alone pick_outcome (λ q. refl) (λ w. refl) (pick_answer g root)

-- ---- leaves besides that cut the root

module _ (g : Graph) (root : ℕ) (w : Leaves) where
  -- the test of the cut stands on a root that is a gate of a well formed graph
  cut_iff : WellFormed g → InUse g root → (covered g.net w root ≡ true) ↔ Covered g.net w root
  cut_iff ok used = covered_iff g ok.lawful w root used.is_gate.within

  pub silent_window : Silent window_rank NotACut (window_refusals g root w) → Window g root w
  unfolding window_refusals root_refusals
  silent_window s =
      let known = known_root g root (s.0 refl) (s.1.0 refl) in
      record {
        graph = known.0;
        root_used = known.1;
        leaves = denial_off _ (well_set_iff root w) (s.1.1.0 refl);
        cut = denial_off _ (cut_iff known.0 known.1) (s.1.1.1.0 refl);
      }

  pub window_accepted : first_refusal (window_refusals g root w) ≡ none → Window g root w
  window_accepted e = silent_window (none_silent window_rank NotACut (window_refusals g root w) e)

  window_complete : (q : Refusal) → WindowGiven g root w q → RootGiven g root q ⊎ (¬ Silent window_rank q (window_refusals g root w))
  unfolding window_refusals root_refusals
  window_complete q (by_root h) = inl h
  window_complete q (bad_leaves h) = inr (λ s. h (denial_off _ (well_set_iff root w) (s.1.1.0 refl)))
  window_complete q (not_a_cut h) = inr (λ s. h (silent_window s).cut)

  pub window_decides : Decides window_rank (WindowGiven g root w) (window_refusals g root w)
  unfolding window_refusals root_refusals ascends
  window_decides = decides_join (λ q. by_root) _ (root_decides g root) refl
      (λ e.
      let known = root_accepted g root e in (
        λ f. bad_leaves (denial_on _ (well_set_iff root w) f),
        λ _. (λ f. not_a_cut (denial_on _ (cut_iff known.0 known.1) f), λ _. tt),
      ))
      window_complete

  -- a window's refusals end with NOT A CUT
  pub window_at_most : {q : Refusal} → WindowGiven g root w q → number_of q ≤ number_of NotACut
  window_at_most (by_root (bad_graph h)) = omega arith
  window_at_most (by_root (bad_root h)) = omega arith
  window_at_most (bad_leaves h) = omega arith
  window_at_most (not_a_cut h) = omega arith

  pub table_answers : Answers window_rank (WindowGiven g root w) (table_outcome (table_answer g root w)).number
  unfolding table_answer table_outcome
  table_answers =
      settles_answers number_of_injective (first_settles window_decides) _ (λ q e. rw (e, table_answer)) (λ e. rw (e, table_answer))

  -- a refusal is the whole answer: no table comes with it
  pub table_refused_zero : (r : Refusal) → (table_outcome (table_answer g root w)).number ≡ number_of r → table_answer g root w ≡ Err r
  unfolding table_outcome
  table_refused_zero = refused_alone table_outcome (λ q. refl) (λ t. refl) (table_answer g root w)
