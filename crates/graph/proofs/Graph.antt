-- The test of a graph says just what its record of facts says.
-- Assumes nothing.
use mathlib.Core.Path.{◌≡◌, refl, sym, ap, ◌∙◌}
use mathlib.Core.Bool.{true}
use mathlib.Core.List.{List, []}
use mathlib.Core.Logic.{◌↔◌}
use Prim.Native.Nat.{ℕ, suc, ◌+◌, ◌-◌, ◌*◌, ◌≤◌, ◌<◌, max, min}
use native.Mathlib.Omega.{arith}
use borrow.Author.Tests.{leb-true, ltb-true, eqb-true, le-leb, lt-ltb, eq-eqb}
use lib.Dec.{leb, ltb}
use lib.ListN.{length, get_or}
use Rattle.graph.specs.Lists.{every, all_below}
use Rattle.graph.specs.Literal.{var_of, LiteralsBelow}
use Rattle.graph.specs.Graph.{
  Net,
  Graph,
  over,
  free,
  size,
  last,
  sinks,
  first,
  second,
  larger_first,
  gate_ok,
  sink_ok,
  rules,
  well_formed,
  IsGate,
  Lawful,
  WellFormed,
  WellFormedNet,
}
use Rattle.graph.proofs.Lists.{
  and_left,
  and_right,
  and_both,
  every_at,
  every_of,
  done,
  ◌then◌,
  all_below_at,
  all_below_of,
  all_at,
  all_of,
}

well_is : (g : Graph) → well_formed g ≡ every (rules g)
unfolding well_formed
well_is g = refl

-- the words of a gate over two literals: the larger, then the smaller
pub larger_first_lem : (a b : ℕ) → (get_or (larger_first a b) 0 0 ≡ max a b) × (get_or (larger_first a b) 1 0 ≡ min a b)
unfolding larger_first
larger_first_lem a b = (refl, refl)

-- the two facts of a gate
module _ (net : Net) (v : ℕ) where
  pub gate_ordered : gate_ok net v ≡ true → second net v ≤ first net v
  unfolding gate_ok
  gate_ordered e = leb-true (second net v) (first net v) (and_left _ (ltb (first net v) (2 * v)) e)

  pub gate_below : gate_ok net v ≡ true → first net v < 2 * v
  unfolding gate_ok
  gate_below e = ltb-true (first net v) (2 * v) (and_right (leb (second net v) (first net v)) _ e)

  pub gate_ok_lem : second net v ≤ first net v → first net v < 2 * v → gate_ok net v ≡ true
  unfolding gate_ok
  gate_ok_lem h l = and_both _ _ (le-leb _ _ h) (lt-ltb _ _ l)

-- the literals of the net's gates, counted from 0 on, among its words
module _ (net : Net) (k : ℕ) where
  pub first_at : first net (suc (free net + k)) ≡ get_or net.gates (2 * k) 0
  unfolding first
  first_at = let q : 2 * (suc (free net + k) - suc (free net)) ≡ 2 * k = omega arith in ap (λ (j : ℕ). get_or net.gates j 0) q

  pub second_at : second net (suc (free net + k)) ≡ get_or net.gates (2 * k + 1) 0
  unfolding second
  second_at = let q : suc (2 * (suc (free net + k) - suc (free net))) ≡ 2 * k + 1 = omega arith in ap (λ (j : ℕ). get_or net.gates j 0) q

-- gates are tested by their number from 0 on, and spoken of by their variable
module _ (net : Net) where
  gates_at : all_below (λ k. gate_ok net (suc (free net + k))) (size net) ≡ true → (v : ℕ) → IsGate net v → gate_ok net v ≡ true
  gates_at e v i =
      let q : v ≡ suc (free net + (v - suc (free net))) = omega arith in
      ap (gate_ok net) q ∙ all_below_at (λ k. gate_ok net (suc (free net + k))) (size net) e (v - suc (free net)) (omega arith)

  gates_of : ((v : ℕ) → IsGate net v → gate_ok net v ≡ true) → all_below (λ k. gate_ok net (suc (free net + k))) (size net) ≡ true
  gates_of h =
      all_below_of (λ k. gate_ok net (suc (free net + k))) (size net)
      (λ k l. h (suc (free net + k)) (record { above = omega arith; within = omega arith }))

pub well_formed_lem : (g : Graph) → well_formed g ≡ true → WellFormed g
unfolding rules sink_ok
well_formed_lem g e =
    let at = every_at (rules g) (sym (well_is g) ∙ e) in
    record {
      lawful = record {
        even = eqb-true _ _ (at 0);
        ordered = λ v i. gate_ordered g.net v (gates_at g.net (at 1) v i);
        below = λ v i. gate_below g.net v (gates_at g.net (at 1) v i);
        sinks_within = λ j h. leb-true _ _ (all_at (sink_ok g.net) 0 (sinks g) (at 2) j h);
      };
      inputs_few = leb-true _ _ (at 3);
      outputs_few = leb-true _ _ (at 4);
      gates_few = leb-true _ _ (at 5);
    }

pub well_formed_test : (g : Graph) → WellFormed g → well_formed g ≡ true
unfolding rules sink_ok
well_formed_test g w =
    well_is g
    ∙ every_of
    (eq-eqb _ _ w.lawful.even
    then gates_of g.net (λ v i. gate_ok_lem g.net v (w.lawful.ordered v i) (w.lawful.below v i))
    then all_of (sink_ok g.net) 0 (sinks g) (λ j h. le-leb _ _ (w.lawful.sinks_within j h))
    then le-leb _ _ w.inputs_few
    then le-leb _ _ w.outputs_few
    then le-leb _ _ w.gates_few
    then done)

pub well_formed_iff : (g : Graph) → (well_formed g ≡ true) ↔ WellFormed g
well_formed_iff g = (well_formed_lem g, well_formed_test g)

-- a lawful graph's net with literals up to its last variable for outputs
pub over_lawful : (g : Graph) → Lawful g → (ls : List ℕ) → ((j : ℕ) → j < length ls → var_of (get_or ls j 0) ≤ last g.net)
    → Lawful (over g.net ls)
over_lawful g ok ls within =
    record { even = ok.even; ordered = ok.ordered; below = ok.below; sinks_within = λ j h. omega (arith, within j h) }

-- the net of a well formed graph
pub net_well_formed : (g : Graph) → WellFormed g → WellFormedNet g.net
net_well_formed g ok = record {
  lawful = over_lawful g ok.lawful [] (λ j h. absurd (omega arith));
  inputs_few = ok.inputs_few;
  outputs_few = omega arith;
  gates_few = ok.gates_few;
}

-- in a list with a place for each variable the outputs' variables have theirs
pub sinks_below : (g : Graph) → Lawful g → (n : ℕ) → last g.net < n → LiteralsBelow (sinks g) n
sinks_below g ok n room = record { within = λ j h. let w = ok.sinks_within j h in omega arith }
