-- Marking past the root, over the graph's own words, is marking in the graph where the root is the literal 0.
-- Assumes nothing.
use mathlib.Core.Path.{◌≡◌, refl, sym, ap, ap₂, ◌∙◌}
use mathlib.Core.Bool.{Bool, true, false, cond}
use mathlib.Core.List.{List, [], ◌∷◌, map}
use mathlib.Core.Logic.{⊎_elim}
use Prim.Native.Nat.{ℕ, zero, suc, ◌+◌, ◌≤◌, max, min}
use native.Mathlib.Nat.{le_refl}
use native.Mathlib.Omega.{arith}
use lib.Dec.{eqb}
use lib.ListN.{get_or, set, replicate}
use lib.Seq.{set_comm}
use Rattle.graph.specs.Literal.{var_of, flip}
use Rattle.graph.specs.Graph.{Graph, free, size, sinks, first, second, IsGate, Lawful}
use Rattle.graph.specs.Use.{mark_each, mark_fanins, mark_down, marks}
use Rattle.graph.proofs.Lists.{at_most_or_above, equal_or_not}
use Rattle.graph.proofs.Use.{first_lower, second_lower}
use Rattle.replacement.specs.Proposal.{literal}
use Rattle.replacement.specs.Rewire.{stand_in, redirected, rewired_net, rewired}
use Rattle.replacement.specs.Vanish.{past, mark_fanins_past, mark_down_past, marks_without}
use Rattle.replacement.proofs.Rewire.{redirected_other, rewired_size, literal_root, other_gate}
use Rattle.replacement.proofs.Counts.{var, var_gate}

-- ---- marking past the root is marking in the graph where the root is the literal 0

two_marks : (ms : List Bool) (u v : ℕ) → set (set ms u true) v true ≡ set (set ms v true) u true
two_marks ms u v = ⊎_elim (λ e. rw e) (λ n. set_comm ms u v true true n) (equal_or_not u v)

either_way : (ms : List Bool) (x y : ℕ) → mark_each (max x y ∷ min x y ∷ []) ms ≡ mark_each (x ∷ y ∷ []) ms
unfolding mark_each
either_way ms x y = ⊎_elim
    (λ h. let a : max x y ≡ y = omega arith in let b : min x y ≡ x = omega arith in rw (a, b) (two_marks ms (var_of y) (var_of x)))
    (λ h. let a : max x y ≡ x = omega arith in let b : min x y ≡ y = omega arith in rw (a, b)) (at_most_or_above x y)

-- only the variables count
each_same : (f h : ℕ → ℕ) (e : (l : ℕ) → var_of (f l) ≡ var_of (h l)) (ls : List ℕ) (ms : List Bool)
    → mark_each (map f ls) ms ≡ mark_each (map h ls) ms
unfolding mark_each
each_same f h e [] ms = refl
each_same f h e (l ∷ ls) ms = ap (λ (u : ℕ). mark_each (map f ls) (set ms u true)) (e l) ∙ each_same f h e ls (set ms (var_of (h l)) true)

redirected_past : (root l : ℕ) → var_of (redirected root (literal 0) l) ≡ var_of (past root l)
unfolding redirected stand_in
redirected_past root l = go (eqb (var_of l) root)
  where
    go : (b : Bool) → var_of (cond b (flip 0 l) l) ≡ var_of (cond b 0 l)
    go true = omega arith
    go false = refl

module _ (g : Graph) (ok : Lawful g) (root : ℕ) (gate : IsGate g.net root) where
  redirected_two : (x y : ℕ) (ms : List Bool)
      → mark_each (redirected root (literal 0) x ∷ redirected root (literal 0) y ∷ []) ms ≡ mark_each (past root x ∷ past root y ∷ []) ms
  redirected_two x y ms = each_same (redirected root (literal 0)) (past root) (redirected_past root) (x ∷ y ∷ []) ms

  gate_past : (v : ℕ) → IsGate g.net v → (ms : List Bool)
      → mark_each (first (rewired_net g.net root (literal 0)) v ∷ second (rewired_net g.net root (literal 0)) v ∷ []) ms
      ≡ mark_each (past root (first g.net v) ∷ past root (second g.net v) ∷ []) ms
  gate_past v i ms = ⊎_elim
      (λ e.
      let h = literal_root g.net root (literal 0) v i e refl in
      let low = first_lower g ok v i in
      let low' = second_lower g ok v i in
      let a = redirected_other root (literal 0) (first g.net v) (λ q. omega arith) in
      let b = redirected_other root (literal 0) (second g.net v) (λ q. omega arith) in
      ap₂ both h.0 h.1
      ∙ either_way ms (first g.net root) (second g.net root)
      ∙ ap₂ both (ap (first g.net) (sym e) ∙ sym a) (ap (second g.net) (sym e) ∙ sym b)
      ∙ redirected_two (first g.net v) (second g.net v) ms)
      (λ n. let h = other_gate g.net root (literal 0) v i n in
      ap₂ both h.0 h.1 ∙ either_way ms _ _ ∙ redirected_two (first g.net v) (second g.net v) ms)
      (equal_or_not v root)
    where
      both : ℕ → ℕ → List Bool
      both x y = mark_each (x ∷ y ∷ []) ms

  fanins_past : (v : ℕ) → IsGate g.net v → (ms : List Bool)
      → mark_fanins (rewired_net g.net root (literal 0)) v ms ≡ mark_fanins_past g.net root v ms
  unfolding mark_fanins mark_fanins_past
  fanins_past v i ms = ap (λ (xs : List Bool). cond (get_or ms v false) xs ms) (gate_past v i ms)

  down_past : (k : ℕ) (ms : List Bool) → k ≤ size g.net
      → mark_down (rewired_net g.net root (literal 0)) k ms ≡ mark_down_past g.net root k ms
  unfolding mark_down mark_down_past rewired_net
  down_past zero ms h = refl
  down_past (suc k) ms h =
      ap (λ (xs : List Bool). mark_down (rewired_net g.net root (literal 0)) k xs)
      (fanins_past (var g.net k) (var_gate g.net k h) ms)
      ∙ down_past k (mark_fanins_past g.net root (var g.net k) ms) (omega arith)

  pub without_is : marks (rewired g root (literal 0)) ≡ marks_without g root
  unfolding marks_without marks rewired rewired_net
  without_is =
      ap (λ (n : ℕ). mark_down (rewired_net g.net root (literal 0)) n
      (mark_each (map (redirected root (literal 0)) (sinks g)) (replicate (suc (free g.net + n)) false)))
      (rewired_size g.net root (literal 0))
      ∙ ap (mark_down (rewired_net g.net root (literal 0)) (size g.net))
      (each_same (redirected root (literal 0)) (past root) (redirected_past root) (sinks g) _)
      ∙ down_past (size g.net) _ (le_refl _)
