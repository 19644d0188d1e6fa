-- Evaluating: the value of each variable and output under an assignment, and when evaluating is refused.
-- Assumes nothing.
use mathlib.Core.Path.{◌≡◌, refl, ap, ap₂, ◌∙◌}
use mathlib.Core.Bool.{Bool, false, ◌&&◌, true}
use mathlib.Core.List.{map, List}
use mathlib.Core.Option.{none, some}
use Prim.Native.Nat.{ℕ, zero, suc, ◌*◌, ◌≤◌, ◌<◌}
use native.Mathlib.Omega.{arith}
use borrow.Author.Tests.{le-leb, lt-leb, leb-true, eqb-true, eq-eqb}
use lib.ListN.{get_or, length}
use Rattle.graph.specs.Literal.{var_of, is_odd}
use Rattle.graph.specs.Graph.{Net, Graph, free, last, sinks, first, second, Lawful}
use Rattle.graph.specs.Sweep.{bools, turned, lit_value, values, value_at}
use Rattle.graph.specs.Evaluate.{
  assigned,
  value_under,
  literal_under,
  values_under,
  outputs_under,
  is_assignment,
  Assignment,
  evaluate_rank,
  EvaluateGiven,
  bad_graph,
  bad_assignment,
  no_room,
  evaluate_refusals,
  evaluate_effect,
  evaluated_outcome,
}
use Rattle.graph.proofs.Lists.{map_same, and_left, and_right, and_both, all_at, all_of}
use Rattle.graph.proofs.Sweep.{values_at, own_value, gate_value}
use mathlib.Core.Logic.{◌↔◌}
use lib.Dec.{leb, eqb}
use Rattle.graph.specs.declared.refusal.Refusal.{Refusal}
use Rattle.graph.specs.Refuse.{first_refusal, number_of, Answers}
use Rattle.graph.proofs.Graph.{well_formed_iff}
use Rattle.graph.proofs.Refuse.{number_of_injective, shown, settles_answers, ascends, Silent, Decides, first_settles}
use Rattle.graph.proofs.Tests.{test_off, denial_on, denial_off}
use Rattle.graph.proofs.Lent.{short_iff}

module _ (net : Net) (a : ℕ → Bool) where
  pub assigned_input : (v : ℕ) → v ≤ free net → assigned net a v ≡ some (a v)
  unfolding assigned
  assigned_input v h = rw (le-leb v (free net) h)

  pub assigned_gate : (v : ℕ) → free net < v → assigned net a v ≡ none
  unfolding assigned
  assigned_gate v h = rw (lt-leb v (free net) h)

  pub value_zero : value_under net a 0 ≡ false
  unfolding value_at values bools
  value_zero = refl

  pub value_input : (v : ℕ) → 0 < v → v ≤ free net → value_under net a v ≡ a v
  value_input zero p h = absurd (omega arith)
  value_input (suc n) p h = own_value bools (assigned net a) net n (a (suc n)) (assigned_input (suc n) h)

  -- a literal has one value, however far the sweep goes
  pub literal_value : (n l : ℕ) → var_of l ≤ n → lit_value bools (values_under net a n) l ≡ literal_under net a l
  unfolding lit_value values_under
  literal_value n l h = ap (turned bools (is_odd l)) (values_at bools (assigned net a) net n (var_of l) h)

  -- a gate is the AND of its two literals
  pub value_gate : (v : ℕ) → free net < v → first net v < 2 * v → second net v < 2 * v
      → value_under net a v ≡ literal_under net a (first net v) && literal_under net a (second net v)
  unfolding bools values_under
  value_gate zero h f s = absurd (omega arith)
  value_gate (suc n) h f s =
      gate_value bools (assigned net a) net n (assigned_gate (suc n) h) h
      ∙ ap₂ ◌&&◌ (literal_value n (first net (suc n)) (omega arith)) (literal_value n (second net (suc n)) (omega arith))

pub outputs_are_literals : (g : Graph) → Lawful g → (a : ℕ → Bool) → outputs_under g a ≡ map (literal_under g.net a) (sinks g)
unfolding outputs_under
outputs_are_literals g w a =
    map_same (lit_value bools (values_under g.net a (last g.net))) (literal_under g.net a) 0 (sinks g)
    (λ j l. let b = w.sinks_within j l in literal_value g.net a (last g.net) (get_or (sinks g) j 0) (omega arith))

-- ---- when it is refused

pub assignment_iff : (net : Net) (vs : List ℕ) → (is_assignment net vs ≡ true) ↔ Assignment net vs
unfolding is_assignment
assignment_iff net vs = (
  λ e. record {
    count = eqb-true _ _ (and_left (eqb (length vs) (free net)) _ e);
    each = λ j h. leb-true _ _ (all_at (λ x. leb x 1) 0 vs (and_right (eqb (length vs) (free net)) _ e) j h);
  },
  λ a. and_both _ _ (eq-eqb _ _ a.count) (all_of (λ x. leb x 1) 0 vs (λ j h. le-leb _ _ (a.each j h))),
)

module _ (g : Graph) (vs lent : List ℕ) where
  evaluate_complete : (q : Refusal) → EvaluateGiven g vs lent q → ¬ Silent evaluate_rank q (evaluate_refusals g vs lent)
  unfolding evaluate_refusals
  evaluate_complete q (bad_graph h) s = h (denial_off _ (well_formed_iff g) (s.0 refl))
  evaluate_complete q (bad_assignment h) s = h (denial_off _ (assignment_iff g.net vs) (s.1.0 refl))
  evaluate_complete q (no_room h) s = test_off _ (short_iff (length (sinks g)) lent) (s.1.1.0 refl) h

  evaluate_decides : Decides evaluate_rank (EvaluateGiven g vs lent) (evaluate_refusals g vs lent)
  unfolding evaluate_refusals ascends
  evaluate_decides = record {
    ascending = refl;
    sound = (
      λ e. bad_graph (denial_on _ (well_formed_iff g) e),
      λ _. (
        λ e. bad_assignment (denial_on _ (assignment_iff g.net vs) e),
        λ _. (λ e. no_room ((short_iff (length (sinks g)) lent).0 e), λ _. tt),
      ),
    );
    complete = evaluate_complete;
  }

  pub evaluate_answers : Answers evaluate_rank (EvaluateGiven g vs lent) (evaluated_outcome (evaluate_effect g vs lent).answer).number
  unfolding evaluate_effect evaluated_outcome
  evaluate_answers =
      settles_answers number_of_injective (first_settles evaluate_decides) _ (λ q e. rw (e, evaluate_effect)) (λ e. rw (e, evaluate_effect))

  -- a refusal leaves the lent list as it was
  pub evaluate_writes_nothing : (r : Refusal) → (evaluated_outcome (evaluate_effect g vs lent).answer).number ≡ number_of r
      → (evaluate_effect g vs lent).lent ≡ lent
  unfolding evaluate_effect evaluated_outcome
  evaluate_writes_nothing r e =
      let s = shown (first_refusal (evaluate_refusals g vs lent)) _ (λ n. rw (n, evaluate_effect)) r e in rw (s.1, evaluate_effect)
