-- Rewiring replaces the root by what the proposal computes: kinds 0 and 1 are two uses of the one argument in Circuit.
-- Assumes nothing.
use mathlib.Core.Path.{◌≡◌, refl, sym, ap, ap₂, ◌∙◌}
use mathlib.Core.Bool.{Bool, cond, ◌&&◌, and_comm}
use mathlib.Core.Logic.{⊎_elim}
use Prim.Native.Nat.{ℕ, ◌+◌, ◌*◌, ◌%◌, ◌≤◌, ◌<◌, max, min}
use native.Mathlib.Omega.{arith}
use borrow.Author.Tests.{eq-eqb, ne_eqb}
use lib.Dec.{eqb}
use Rattle.graph.specs.Literal.{var_of, is_odd, flip}
use Rattle.graph.specs.Graph.{Net, Graph, sinks, first, second, IsGate, Lawful}
use Rattle.graph.specs.Sweep.{bools, turned, lit_value}
use Rattle.graph.specs.Evaluate.{value_under, literal_under, values_under}
use Rattle.graph.proofs.Lists.{at_most_or_above, equal_or_not, map_same}
use Rattle.graph.proofs.Evaluate.{literal_value, value_gate}
use Rattle.graph.proofs.Stand.{moved, Copies, in_order, exchanged}
use Rattle.replacement.specs.declared.types.Proposal.{Proposal}
use Rattle.replacement.specs.Proposal.{proposed_value}
use Rattle.replacement.specs.Rewire.{Wires, to_literal, to_and, stand_in, redirected, rewired}
use Rattle.replacement.proofs.Circuit.{Replaced}
use Rattle.replacement.proofs.ProposalLaws.{value_of_literal, value_of_and}
use Rattle.replacement.proofs.Rewire.{
  literal_stands,
  root_stands,
  redirected_root,
  redirected_other,
  rewired_size,
  rewired_free,
  other_gate,
  and_root,
  rewired_lawful,
}

-- the literal that stands for variable v afterwards
pub stand_for : ℕ → Proposal → ℕ → ℕ
stand_for root p v = cond (eqb v root) (stand_in root p) (2 * v)

stand_root : (root : ℕ) (p : Proposal) (v : ℕ) → v ≡ root → stand_for root p v ≡ stand_in root p
unfolding stand_for
stand_root root p v e = rw (eq-eqb v root e)

stand_other : (root : ℕ) (p : Proposal) (v : ℕ) → ¬ (v ≡ root) → stand_for root p v ≡ 2 * v
unfolding stand_for
stand_other root p v n = rw (ne_eqb v root n)

-- a moved literal is a redirected one
moved_is : (net net' : Net) (root : ℕ) (p : Proposal) (l : ℕ) → moved net net' (stand_for root p) l ≡ redirected root p l
moved_is net net' root p l = ⊎_elim
    (λ e. ap (λ (s : ℕ). flip s l) (stand_root root p (var_of l) e) ∙ sym (redirected_root root p l e))
    (λ n. ap (λ (s : ℕ). flip s l) (stand_other root p (var_of l) n) ∙ omega arith ∙ sym (redirected_other root p l n))
    (equal_or_not (var_of l) root)

-- two literals have the same AND in either order
either_order : (f : ℕ → Bool) (x y : ℕ) → f (max x y) && f (min x y) ≡ f x && f y
either_order f x y = ⊎_elim
    (λ h. let a : max x y ≡ y = omega arith in let b : min x y ≡ x = omega arith in rw (a, b) (and_comm (f y) (f x)))
    (λ h. let a : max x y ≡ x = omega arith in let b : min x y ≡ y = omega arith in rw (a, b)) (at_most_or_above x y)

module _ (g : Graph) (ok : Lawful g) (root : ℕ) (gate : IsGate g.net root) (p : Proposal) (wires : Wires root p) where
  g' : Graph
  g' = rewired g root p

  abbrev stand : ℕ → ℕ
  stand v = stand_for root p v

  lawful' : Lawful g'
  unfolding g'
  lawful' = rewired_lawful g ok root gate p wires

  gate' : (v : ℕ) → IsGate g.net v → IsGate g'.net v
  unfolding g' rewired
  gate' v i = record {
    above = let a = i.above in omega (arith, rewired_free g.net root p);
    within = let b = i.within in omega (arith, rewired_free g.net root p, rewired_size g.net root p);
  }

  -- ---- gates other than the root are copied, larger literal first

  copies : (v : ℕ) → IsGate g.net v → ¬ (v ≡ root) → Copies g.net g'.net stand v v
  unfolding g' rewired
  copies v i n =
      let a = redirected root p (first g.net v) in
      let b = redirected root p (second g.net v) in
      let h = other_gate g.net root p v i n in
      let is-a = moved_is g.net g'.net root p (first g.net v) in
      let is_b = moved_is g.net g'.net root p (second g.net v) in
      ⊎_elim
      (λ l. in_order (omega (arith, h.0, is-a)) (omega (arith, h.1, is_b)))
      (λ l. exchanged (omega (arith, h.0, is_b)) (omega (arith, h.1, is-a)))
      (at_most_or_above b a)

  -- ---- the circuit at the root, by kind

  module _ (a : ℕ → Bool) where
    value_in : (l : ℕ) → var_of l < root → lit_value bools (values_under g'.net a root) l ≡ literal_under g'.net a l
    value_in l h = literal_value g'.net a root l (omega arith)

    and_at_root : p.kind ≡ 1
        → value_under g'.net a root ≡ literal_under g'.net a p.first.0 && literal_under g'.net a p.second.0
    unfolding g' rewired
    and_at_root k =
        let i = gate' root gate in
        let b = lawful'.below root i in
        let o = lawful'.ordered root i in
        let h = and_root g.net root p root gate refl k in
        value_gate g'.net a root i.above b (omega arith)
        ∙ ap₂ (λ (x y : ℕ). literal_under g'.net a x && literal_under g'.net a y) h.0 h.1
        ∙ either_order (literal_under g'.net a) p.first.0 p.second.0

    root_literal : p.kind ≡ 1 → p.turned ≤ 1
        → literal_under g'.net a (stand_in root p) ≡ turned bools (is_odd p.turned) (value_under g'.net a root)
    root_literal k t =
        let sign : (2 * root + p.turned) % 2 ≡ p.turned % 2 = omega arith in
        let var : var_of (2 * root + p.turned) ≡ root = omega arith in
        ap (literal_under g'.net a) (root_stands root p k)
        ∙ ap₂ (λ (s v : ℕ). turned bools (eqb s 1) (value_under g'.net a v)) sign var

    root_is : Wires root p → literal_under g'.net a (stand_in root p) ≡ proposed_value bools (values_under g'.net a root) p
    unfolding bools
    root_is (to_literal k l s) =
        ap (literal_under g'.net a) (literal_stands root p k)
        ∙ sym (value_in p.first.0 l)
        ∙ sym (value_of_literal p k (values_under g'.net a root))
    root_is (to_and k l m t) =
        root_literal k t
        ∙ ap (turned bools (is_odd p.turned)) (and_at_root k ∙ sym (ap₂ ◌&&◌ (value_in p.first.0 l) (value_in p.second.0 m)))
        ∙ sym (value_of_and p k (values_under g'.net a root))

  -- ---- a use of the one argument

  pub rewired_replaced : Replaced g (rewired g root p) root (stand_for root p) (λ vs. proposed_value bools vs p)
  unfolding g'
  rewired_replaced = record {
    same_free = unfold g' rewired in sym (rewired_free g.net root p);
    stays = λ v h. stand_other root p v (λ e. omega arith);
    new = λ v. v;
    new_is = λ v i n. stand_other root p v n;
    new_gate = λ v i n. gate' v i;
    copies = copies;
    root_is = λ a. ap (literal_under g'.net a) (stand_root root p root refl) ∙ root_is a wires;
    outputs_moved = unfold g' rewired in
        map_same (redirected root p) (moved g.net g'.net stand) 0 (sinks g) (λ j h. sym (moved_is g.net g'.net root p _));
  }
