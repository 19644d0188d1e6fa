-- The rewired graph: its gates one by one, and that it is lawful for every proposal with literals below the root.
-- Assumes nothing.
use mathlib.Core.Path.{◌≡◌, refl}
use mathlib.Core.Bool.{Bool, true, false, cond}
use mathlib.Core.List.{List}
use mathlib.Core.Logic.{⊎_elim}
use native.Mathlib.Bridge.{le_prop}
use Rattle.std.proofs.Props.{props}
use Prim.Native.Nat.{ℕ, suc, ◌+◌, ◌*◌, ◌≤◌, ◌<◌}
use native.Mathlib.Omega.{arith}
use borrow.Author.Tests.{eq-eqb, ne_eqb}
use lib.Dec.{eqb}
use lib.ListN.{length, get_or, length-map}
use Rattle.graph.specs.Literal.{var_of, flip}
use Rattle.graph.specs.Graph.{Net, Graph, free, size, last, sinks, first, second, larger_first, IsGate, Lawful}
use Rattle.graph.proofs.Lists.{equal_or_not}
use Rattle.graph.proofs.Members.{map_at}
use Rattle.window.specs.declared.leaf_set.Leaves.{Leaves}
use Rattle.replacement.specs.declared.types.Proposal.{Proposal}
use Rattle.replacement.specs.Proposal.{AllowedByTest, a_literal, an_and}
use Rattle.replacement.specs.Rewire.{Wires, to_literal, to_and, stand_in, redirected, root_gates, rewired_gate, rewired_net, rewired}
use Rattle.replacement.proofs.NetPieces.{GateOver, pieces_length, pieces_hold}

-- ---- by kind

module _ (root : ℕ) (p : Proposal) where
  pub literal_stands : p.kind ≡ 0 → stand_in root p ≡ p.first.0
  unfolding stand_in
  literal_stands e = rw e

  pub root_stands : p.kind ≡ 1 → stand_in root p ≡ 2 * root + p.turned
  unfolding stand_in
  root_stands e = rw e

  pub redirected_root : (l : ℕ) → var_of l ≡ root → redirected root p l ≡ flip (stand_in root p) l
  unfolding redirected
  redirected_root l e = rw (eq-eqb (var_of l) root e)

  pub redirected_other : (l : ℕ) → ¬ (var_of l ≡ root) → redirected root p l ≡ l
  unfolding redirected
  redirected_other l n = rw (ne_eqb (var_of l) root n)

  -- a proposal of another kind than 0 is an AND
  pub and_kind : Wires root p → ¬ (p.kind ≡ 0) → (p.kind ≡ 1) × (p.turned ≤ 1)
  and_kind (to_literal k l s) n = absurd (n k)
  and_kind (to_and k l m t) n = (k, t)

-- ---- the gates

module _ (net : Net) (root : ℕ) (p : Proposal) where
  two : (v : ℕ) → length (rewired_gate net root p v) ≡ 2
  unfolding rewired_gate root_gates larger_first
  two v = either (eqb v root) _ _ (either (eqb p.kind 0) _ _ refl refl) refl
    where
      either : (b : Bool) (xs ys : List ℕ) → length xs ≡ 2 → length ys ≡ 2 → length (cond b xs ys) ≡ 2
      either true xs ys h k = h
      either false xs ys h k = k

  rewired_length : length (rewired_net net root p).gates ≡ 2 * size net
  unfolding rewired_net
  rewired_length = pieces_length (free net) (rewired_gate net root p) two (size net)

  pub rewired_size : size (rewired_net net root p) ≡ size net
  rewired_size = omega (arith, rewired_length)

  pub rewired_free : free (rewired_net net root p) ≡ free net
  unfolding rewired_net
  rewired_free = refl

  pub old_gate : (v : ℕ) → IsGate (rewired_net net root p) v → IsGate net v
  old_gate v i =
      let a = i.above in
      let b = i.within in
      record { above = omega (arith, rewired_free); within = omega (arith, rewired_free, rewired_size) }

  module _ (v : ℕ) (i : IsGate net v) where
    words : (a b : ℕ) → rewired_gate net root p v ≡ larger_first a b → GateOver (rewired_net net root p) v a b
    unfolding rewired_net
    words a b e = pieces_hold (free net) (rewired_gate net root p) two (size net) v i.above i.within a b e

    pub other_gate : ¬ (v ≡ root) → GateOver (rewired_net net root p) v (redirected root p (first net v)) (redirected root p (second net v))
    unfolding rewired_gate
    other_gate n = words _ _ (rw (ne_eqb v root n))

    pub literal_root : v ≡ root → p.kind ≡ 0 → GateOver (rewired_net net root p) v (first net root) (second net root)
    unfolding rewired_gate root_gates
    literal_root e k = words _ _ (rw (eq-eqb v root e, k))

    pub and_root : v ≡ root → p.kind ≡ 1 → GateOver (rewired_net net root p) v p.first.0 p.second.0
    unfolding rewired_gate root_gates
    and_root e k = words _ _ (rw (eq-eqb v root e, k))

pub wires_of : (net : Net) (root : ℕ) (w : Leaves) (p : Proposal) → AllowedByTest net root w p → Wires root p
wires_of net root w p (a_literal k d s t) = to_literal k d.below_root s
wires_of net root w p (an_and k d d' z l t) = to_and k d.below_root d'.below_root t

-- ---- the rules hold: a reference to the root becomes one to the root or below it

module _ (root : ℕ) (p : Proposal) where
  stand_in_low : Wires root p → var_of (stand_in root p) ≤ root
  stand_in_low (to_literal k l s) = omega (arith, literal_stands root p k)
  stand_in_low (to_and k l m t) = omega (arith, root_stands root p k)

  pub redirected_low : Wires root p → (l v : ℕ) → l < 2 * v → redirected root p l < 2 * v
  redirected_low wires l v h = ⊎_elim
      (λ e. let s = stand_in_low wires in omega (arith, redirected_root root p l e))
      (λ n. omega (arith, redirected_other root p l n)) (equal_or_not (var_of l) root)

module _ (g : Graph) (ok : Lawful g) (root : ℕ) (gate : IsGate g.net root) (p : Proposal) (wires : Wires root p) where
  abbrev InOrder : ℕ → Type 0
  InOrder v =
      (second (rewired_net g.net root p) v ≤ first (rewired_net g.net root p) v) × (first (rewired_net g.net root p) v < 2 * v)

  held_in_order : (v a b : ℕ) (i : IsGate g.net v) → a < 2 * v → b < 2 * v → GateOver (rewired_net g.net root p) v a b → InOrder v
  held_in_order v a b i l m h = (omega (arith, h.0, h.1), omega (arith, h.0))

  root_in_order : Wires root p → (v : ℕ) → IsGate g.net v → v ≡ root → InOrder v
  root_in_order (to_literal k l s) v i e =
      let b = ok.below root gate in let o = ok.ordered root gate in
      held_in_order v (first g.net root) (second g.net root) i (omega arith) (omega arith) (literal_root g.net root p v i e k)
  root_in_order (to_and k l m t) v i e =
      held_in_order v p.first.0 p.second.0 i (omega arith) (omega arith) (and_root g.net root p v i e k)

  pub in_order : (v : ℕ) → IsGate g.net v → InOrder v
  in_order v i = ⊎_elim
      (root_in_order wires v i)
      (λ n.
      let b = ok.below v i in let o = ok.ordered v i in
      held_in_order v (redirected root p (first g.net v)) (redirected root p (second g.net v)) i
      (redirected_low root p wires (first g.net v) v b) (redirected_low root p wires (second g.net v) v (omega arith))
      (other_gate g.net root p v i n))
      (equal_or_not v root)

  sink_at : (j : ℕ) → j < length (sinks g) → get_or (sinks (rewired g root p)) j 0 ≤ 2 * last g.net + 1
  unfolding rewired
  sink_at j h =
      let b = ok.sinks_within j h in
      let t = gate.within in
      let m = redirected_low root p wires (get_or (sinks g) j 0) (suc (last g.net)) (omega arith) in
      omega (arith, map_at (redirected root p) 0 0 (sinks g) j h)

  pub rewired_lawful : Lawful (rewired g root p)
  rewired_lawful = record {
    even = unfold rewired in omega (arith, rewired_length g.net root p);
    ordered = λ v i. unfold rewired in (in_order v (old_gate g.net root p v i)).0;
    below = λ v i. unfold rewired in (in_order v (old_gate g.net root p v i)).1;
    sinks_within =
        λ j h. unfold rewired in
        omega (
          arith,
          sink_at j (omega (arith, length-map (sinks g) (redirected root p))),
          rewired_free g.net root p,
          rewired_size g.net root p,
        );
  }

eq_prop : {m n : ℕ} → IsProp (m ≡ n)
eq_prop = Prim.hlevel props

-- a proposal wires in one way only
pub Wires-prop : (root : ℕ) (p : Proposal) → IsProp (Wires root p)
Wires-prop root p (to_literal k f s) (to_literal k' f' s') = λ i. to_literal (eq_prop k k' i) (le_prop f f' i) (eq_prop s s' i)
Wires-prop root p (to_literal k f s) (to_and k' f' s' t') = absurd (omega arith)
Wires-prop root p (to_and k f s t) (to_literal k' f' s') = absurd (omega arith)
Wires-prop root p (to_and k f s t) (to_and k' f' s' t') = λ i. to_and (eq_prop k k' i) (le_prop f f' i) (le_prop s s' i) (le_prop t t' i)
