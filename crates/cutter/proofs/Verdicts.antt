-- What is known past a call's refusals, and what is answered by the verdict on them.
-- Assumes nothing.
use mathlib.Core.Path.{◌≡◌, sym, ◌∙◌}
use mathlib.Core.Bool.{not}
use mathlib.Core.List.{[], ◌∷◌}
use mathlib.Core.Option.{none, some, or_else}
use Prim.Native.Nat.{ℕ}
use Rattle.std.specs.Prelude.{Result, Ok, Err}
use Rattle.graph.specs.declared.refusal.Refusal.{Refusal}
use Rattle.graph.specs.declared.refusal.Refusal.TheVariants.{BadLeaves, NotACut}
use Rattle.graph.specs.Graph.{Graph, WellFormed}
use Rattle.graph.specs.Use.{InUse}
use Rattle.graph.specs.Refuse.{◌⇒◌, first_refusal, verdict_is}
use Rattle.graph.proofs.Refuse.{first_join}
use Rattle.window.specs.declared.leaf_set.Leaves.{Leaves}
use Rattle.window.specs.Leaves.{well_set}
use Rattle.window.specs.Local.{covered}
use Rattle.window.specs.Table.{table}
use Rattle.window.specs.LeafRule.{picked}
use Rattle.window.specs.Calls.{root_refusals, pick_answer, window_refusals, Window, table_answer}
use Rattle.window.proofs.Calls.{root_accepted, window_accepted}

-- ---- a graph and a gate in use

module _ (g : Graph) (root : ℕ) {A : Type 0} {v : Result A Refusal} (is : verdict_is v ≡ first_refusal (root_refusals g root)) where
  pub root_known : {x : A} → v ≡ Ok x → WellFormed g × InUse g root
  unfolding verdict_is
  root_known e = root_accepted g root (sym is ∙ rw e)

  pub pick_refused : {r : Refusal} → v ≡ Err r → Err r ≡ pick_answer g root
  unfolding pick_answer verdict_is
  pick_refused {r} e = let f : first_refusal (root_refusals g root) ≡ some r = sym is ∙ rw e in rw (f, pick_answer)

  pub pick_fine : {x : A} → v ≡ Ok x → Ok (picked g.net root) ≡ pick_answer g root
  unfolding pick_answer verdict_is
  pick_fine e = let f : first_refusal (root_refusals g root) ≡ none = sym is ∙ rw e in rw (f, pick_answer)

-- ---- leaves besides that cut the root

module _ (g : Graph) (root : ℕ) (w : Leaves) where
  -- the root's refusals come first
  pub by_root : (r : Refusal) → first_refusal (root_refusals g root) ≡ some r → first_refusal (window_refusals g root w) ≡ some r
  unfolding window_refusals or_else
  by_root r e = first_join (root_refusals g root) (not (well_set root w) ⇒ BadLeaves ∷ not (covered g.net w root) ⇒ NotACut ∷ []) ∙ rw e

  module _ {A : Type 0} {v : Result A Refusal} (is : verdict_is v ≡ first_refusal (window_refusals g root w)) where
    pub window_known : {x : A} → v ≡ Ok x → Window g root w
    unfolding verdict_is
    window_known e = window_accepted g root w (sym is ∙ rw e)

    pub table_refused : {r : Refusal} → v ≡ Err r → Err r ≡ table_answer g root w
    unfolding table_answer verdict_is
    table_refused {r} e = let f : first_refusal (window_refusals g root w) ≡ some r = sym is ∙ rw e in rw (f, table_answer)

    pub table_fine : {x : A} → v ≡ Ok x → Ok (record { 0 = table g.net w root }) ≡ table_answer g root w
    unfolding table_answer verdict_is
    table_fine e = let f : first_refusal (window_refusals g root w) ≡ none = sym is ∙ rw e in rw (f, table_answer)
