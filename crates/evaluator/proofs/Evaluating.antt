-- Evaluating: what the outputs have by the swept values, and what a verdict means.
-- Assumes nothing.
use mathlib.Core.Path.{◌≡◌, refl, sym}
use mathlib.Core.Bool.{Bool, cond}
use mathlib.Core.List.{List, map}
use mathlib.Core.Option.{none}
use Prim.Native.Nat.{ℕ, ◌≤◌}
use native.Mathlib.Omega.{arith}
use borrow.Author.Tests.{ltb-false, not-false}
use lib.ListN.{length, get_or}
use Rattle.std.specs.Prelude.{Result, Ok, Err}
use Rattle.graph.specs.declared.refusal.Refusal.{Refusal}
use Rattle.graph.specs.declared.refusal.Refusal.TheVariants.{NoRoom}
use Rattle.graph.specs.Graph.{Graph, free, last, sinks, Lawful, WellFormed}
use Rattle.graph.specs.Lent.{short, written, ◌leaving◌}
use Rattle.graph.specs.Refuse.{first_refusal, verdict_is}
use Rattle.graph.specs.Sweep.{bools, lit_value}
use Rattle.graph.specs.Evaluate.{
  assigned,
  values_under,
  outputs_under,
  assignment_of,
  is_assignment,
  evaluate_rank,
  evaluate_refusals,
  evaluate_effect,
}
use Rattle.graph.proofs.Lists.{map_same}
use Rattle.graph.proofs.Graph.{well_formed_lem}
use Rattle.graph.proofs.Swept.{swept_literal}
use Rattle.graph.proofs.Evaluate.{assignment_iff}
use Rattle.graph.proofs.Refuse.{none_silent}

-- ---- the outputs of a graph that is swept

module _ (g : Graph) (ok : Lawful g) where
  swept_outputs : (a : ℕ → Bool) (lent : List Bool)
      → map (lit_value bools (written (values_under g.net a (last g.net)) lent)) (sinks g) ≡ outputs_under g a
  unfolding outputs_under values_under
  swept_outputs a lent =
      map_same _ _ 0 (sinks g)
      (λ j h.
      swept_literal bools (assigned g.net a) g.net lent (last g.net) (get_or (sinks g) j 0) (omega (arith, ok.sinks_within j h)))

-- ---- what the verdict on a call says of its effect

module _ (g : Graph) (vs lent : List ℕ) {A : Type 0} {v : Result A Refusal} (judged : verdict_is v ≡ first_refusal (evaluate_refusals g vs lent)) where
  pub evaluates_nothing : {r : Refusal} → v ≡ Err r → Err r leaving lent ≡ evaluate_effect g vs lent
  unfolding evaluate_effect verdict_is
  evaluates_nothing e = rw (rw e at (sym judged), evaluate_effect)

  module _ {x : A} (e : v ≡ Ok x) where
    none_refused : first_refusal (evaluate_refusals g vs lent) ≡ none
    unfolding verdict_is
    none_refused = rw e at (sym judged)

    -- no row of the refusals holds, up to the last
    pub fine_means : WellFormed g × (length vs ≡ free g.net) × (length (sinks g) ≤ length lent)
    unfolding evaluate_refusals short
    fine_means =
        let silent = none_silent evaluate_rank NoRoom (evaluate_refusals g vs lent) none_refused in (
          well_formed_lem g (not-false _ (silent.0 refl)),
          ((assignment_iff g.net vs).0 (not-false (is_assignment g.net vs) (silent.1.0 refl))).count,
          ltb-false (length lent) (length (sinks g)) (silent.1.1.0 refl),
        )

    -- what the values are once the sweep is done and what it found is written
    pub evaluates_outputs : (blank : List Bool) {known : List Bool} {left : List ℕ}
        → known ≡ written (values_under g.net (assignment_of vs) (last g.net)) blank
        → left ≡ written (map (λ b. cond b 1 0) (map (lit_value bools known) (sinks g))) lent
        → Ok (length (sinks g)) leaving left ≡ evaluate_effect g vs lent
    unfolding evaluate_effect
    evaluates_outputs blank k l =
        rw (none_refused, l, k, swept_outputs g fine_means.0.lawful (assignment_of vs) blank, evaluate_effect)
