-- The run: its count of steps is no cut-off, it ends where no gate has a good replacement, and every output keeps its value.
-- Assumes nothing.
use mathlib.Core.Path.{◌≡◌, refl, sym, ap, ◌∙◌, subst}
use mathlib.Core.Bool.{Bool}
use mathlib.Core.Option.{Option, none, some}
use Prim.Native.Nat.{ℕ, zero, suc, ◌+◌, ◌≤◌, ◌<◌}
use native.Mathlib.Nat.{le_refl}
use native.Mathlib.Omega.{arith}
use Rattle.graph.specs.Graph.{Graph, size, IsGate, Lawful, WellFormed}
use Rattle.graph.specs.Use.{used_gates}
use Rattle.graph.specs.Drop.{dropped}
use Rattle.graph.specs.Evaluate.{outputs_under}
use Rattle.graph.proofs.Drop.{
  AllReached,
  dropped_free,
  dropped_size,
  used_at_most_size,
  all_used,
  dropped_well_formed,
  dropped_all_reached,
}
use Rattle.graph.proofs.DropKeeps.{dropped_keeps_outputs}
use Rattle.window.specs.LeafRule.{picked}
use Rattle.window.proofs.Local.{covered_iff}
use Rattle.window.proofs.LeafRule.{picked_well_set, picked_cuts}
use Rattle.replacement.specs.Rewire.{finished}
use Rattle.replacement.proofs.Finished.{finished_free, finished_all_reached, finished_well_formed, Replaces, finished_keeps_outputs}
use Rattle.replacement.proofs.Gain.{falls_by_gain}
use Rattle.listing.specs.Listing.{proposal_of}
use Rattle.run.specs.Run.{step, End, steps_from, run, NoneAt, Step, Steps, ends, goes_on}
use Rattle.run.proofs.Step.{step_is, no_step, best_good}

-- what holds before and after each step
pub record Ready (g : Graph) : Type 0 where
  pub is_well_formed : WellFormed g
  pub all_reached : AllReached g

-- ---- one step

module _ (g h : Graph) (ready : Ready g) (s : Step g h) where
  lawful : Lawful g
  lawful = ready.is_well_formed.lawful

  fits : Replaces g s.root (picked g.net s.root) (proposal_of s.best)
  fits = record {
    lawful = lawful;
    gate = s.is_gate;
    few = (picked_well_set g lawful s.root s.is_gate).few;
    cut = (covered_iff g lawful (picked g.net s.root) s.root s.is_gate.within).1 (picked_cuts g lawful s.root s.is_gate);
    rule = (best_good s).rule_kept;
    equal = (best_good s).equals;
  }

  finished_ready : Ready (finished g s.root (proposal_of s.best))
  finished_ready = record {
    is_well_formed =
        finished_well_formed g ready.is_well_formed s.root s.is_gate (picked g.net s.root) (proposal_of s.best) fits.rule
        (let h = best_good s in
        omega (
          arith,
          falls_by_gain g s.root (proposal_of s.best) s.best.gain (best_good s).gain_is
              (best_good s).at_least_one,
        ));
    all_reached = finished_all_reached g lawful s.root s.is_gate (picked g.net s.root) (proposal_of s.best) fits.rule;
  }

  pub step_ready : Ready h
  step_ready = subst Ready (sym s.becomes) finished_ready

  -- R falls by the gain of the record taken
  pub step_lowers : used_gates h + s.best.gain ≡ used_gates g
  step_lowers =
      ap (λ (e : Graph). used_gates e + s.best.gain) s.becomes
      ∙ falls_by_gain g s.root (proposal_of s.best) s.best.gain (best_good s).gain_is (best_good s).at_least_one

  pub step_shrinks : size h.net < size g.net
  step_shrinks =
      let b = (best_good s).at_least_one in
      omega (
        arith,
        step_lowers,
        all_used g lawful ready.all_reached,
        all_used h step_ready.is_well_formed.lawful step_ready.all_reached,
      )

  pub step_keeps_inputs : h.net.inputs ≡ g.net.inputs
  step_keeps_inputs = ap (λ (e : Graph). e.net.inputs) s.becomes ∙ finished_free g s.root (proposal_of s.best)

  pub step_keeps_outputs : (a : ℕ → Bool) → outputs_under h a ≡ outputs_under g a
  step_keeps_outputs a =
      ap (λ (e : Graph). outputs_under e a) s.becomes
      ∙ finished_keeps_outputs g s.root (picked g.net s.root) (proposal_of s.best) fits a

-- ---- all steps

no_gate : (g : Graph) → size g.net ≤ 0 → (v : ℕ) → ¬ IsGate g.net v
no_gate g b v i = let l = i.above in let h = i.within in absurd (omega arith)

-- steps lead from g to the end e, and they are counted on from `made`
abbrev Counted : Graph → ℕ → End → Type 0
Counted g made e = (k : ℕ) × Steps g k e.graph × (e.made ≡ k + made)

-- a step lowers the number of gates, so as many steps as there are gates are enough
steps_from_lem : (n : ℕ) (g : Graph) (made : ℕ) → Ready g → size g.net ≤ n → Counted g made (steps_from n g made)
unfolding steps_from
steps_from_lem zero g made r b = (0, ends (λ v i. absurd (no_gate g b v i)), omega arith)
steps_from_lem (suc n) g made r b = go (step g) refl (λ h. steps_from_lem n h (suc made))
  where
    go : (o : Option Graph) → step g ≡ o → ((h : Graph) → Ready h → size h.net ≤ n → Counted h (suc made) (steps_from n h (suc made)))
        → Counted g made (elim o [ some h ↦ steps_from n h (suc made) | none ↦ record { graph = g; made = made } ])
    go none e rest = (0, ends (no_step g r.is_well_formed.lawful e), omega arith)
    go (some h) e rest =
        let s = step_is g r.is_well_formed.lawful h e in
        let t = rest h (step_ready g h r s) (let l = step_shrinks g h r s in omega arith) in
        (suc t.0, goes_on s t.1, omega (arith, t.2))

pub dropped_ready : (g : Graph) → WellFormed g → Ready (dropped g)
dropped_ready g w = record { is_well_formed = dropped_well_formed g w; all_reached = dropped_all_reached g w.lawful }

counted_all : (g : Graph) (e : End) → Counted g 0 e → Steps g e.made e.graph
counted_all g e c = let q : c.0 ≡ e.made = omega (arith, c.2) in subst (λ (k : ℕ). Steps g k e.graph) q c.1

-- the run makes just the steps that there are, and counts them
pub run_steps : (g : Graph) → WellFormed g → Steps (dropped g) (run g).made (run g).graph
unfolding run
run_steps g w = counted_all (dropped g) (run g) (steps_from_lem _ (dropped g) 0 (dropped_ready g w) (le_refl _))

-- ---- what steps keep, the run keeps

steps_end : {g e : Graph} {n : ℕ} → Steps g n e → (v : ℕ) → IsGate e.net v → NoneAt e v
steps_end (ends h) = h
steps_end (goes_on s t) = steps_end t

steps_ready : {g e : Graph} {n : ℕ} → Steps g n e → Ready g → Ready e
steps_ready (ends h) r = r
steps_ready (goes_on {g} {h} s t) r = steps_ready t (step_ready g h r s)

steps_no_larger : {g e : Graph} {n : ℕ} → Steps g n e → Ready g → size e.net ≤ size g.net
steps_no_larger (ends {g} h) r = le_refl (size g.net)
steps_no_larger (goes_on {g} {h} s t) r = omega (arith, steps_no_larger t (step_ready g h r s), step_shrinks g h r s)

steps_keep_inputs : {g e : Graph} {n : ℕ} → Steps g n e → Ready g → e.net.inputs ≡ g.net.inputs
steps_keep_inputs (ends h) r = refl
steps_keep_inputs (goes_on {g} {h} s t) r = steps_keep_inputs t (step_ready g h r s) ∙ step_keeps_inputs g h r s

steps_keep_outputs : {g e : Graph} {n : ℕ} → Steps g n e → Ready g → (a : ℕ → Bool) → outputs_under e a ≡ outputs_under g a
steps_keep_outputs (ends h) r a = refl
steps_keep_outputs (goes_on {g} {h} s t) r a = steps_keep_outputs t (step_ready g h r s) a ∙ step_keeps_outputs g h r s a

module _ (g : Graph) (w : WellFormed g) where
  pub run_ends : (v : ℕ) → IsGate (run g).graph.net v → NoneAt (run g).graph v
  run_ends = steps_end (run_steps g w)

  run_ready : Ready (run g).graph
  run_ready = steps_ready (run_steps g w) (dropped_ready g w)

  pub run_well_formed : WellFormed (run g).graph
  run_well_formed = run_ready.is_well_formed

  pub run_all_reached : AllReached (run g).graph
  run_all_reached = run_ready.all_reached

  pub run_no_larger : size (run g).graph.net ≤ size g.net
  run_no_larger = omega (arith, steps_no_larger (run_steps g w) (dropped_ready g w), dropped_size g, used_at_most_size g)

  pub run_keeps_inputs : (run g).graph.net.inputs ≡ g.net.inputs
  run_keeps_inputs = steps_keep_inputs (run_steps g w) (dropped_ready g w) ∙ dropped_free g

  pub run_keeps_outputs : (a : ℕ → Bool) → outputs_under (run g).graph a ≡ outputs_under g a
  run_keeps_outputs a = steps_keep_outputs (run_steps g w) (dropped_ready g w) a ∙ dropped_keeps_outputs g w.lawful a
