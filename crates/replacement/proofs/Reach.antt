-- What the rewired graph reaches: besides the root, what is reached through no reference to the root, and what the proposal's
-- literals reach.
-- Assumes nothing.
use mathlib.Core.Path.{◌≡◌, refl, sym, ap, ◌∙◌, subst}
use mathlib.Core.Bool.{cond}
use mathlib.Core.Logic.{◌⊎◌, inl, inr, ⊎_elim, ◌↔◌}
use Prim.Native.Nat.{ℕ, zero, suc, ◌≤◌, ◌<◌, max, min}
use native.Mathlib.Nat.{le_refl}
use native.Mathlib.Omega.{arith}
use borrow.Author.Tests.{eq-eqb, ne_eqb}
use lib.Dec.{eqb}
use lib.ListN.{length, get_or, length-map}
use Rattle.graph.specs.Literal.{var_of}
use Rattle.graph.specs.Graph.{Net, Graph, over, sinks, first, second, IsGate, Lawful}
use Rattle.graph.specs.Use.{Reached, as_output, as_first, as_second}
use Rattle.graph.proofs.Lists.{at_most_or_above, equal_or_not}
use Rattle.graph.proofs.Members.{map_at}
use Rattle.graph.proofs.Marks.{NamedBy}
use Rattle.graph.proofs.Use.{first_lower, second_lower}
use Rattle.replacement.specs.declared.types.Proposal.{Proposal}
use Rattle.replacement.specs.Rewire.{Wires, to_literal, to_and, stand_in, redirected, rewired_net, rewired}
use Rattle.replacement.specs.Vanish.{Without, by_output, by_first, by_second, literals, From}
use Rattle.replacement.proofs.Rewire.{
  literal_stands,
  root_stands,
  redirected_root,
  redirected_other,
  rewired_size,
  rewired_free,
  other_gate,
  and_root,
}

-- ---- reached by fanins, whichever of the two

-- u is a fanin variable of v
abbrev pub Fanin : Net → ℕ → ℕ → Type 0
Fanin net v u = (var_of (first net v) ≡ u) ⊎ (var_of (second net v) ≡ u)

-- u is the variable of one of the proposal's literals
abbrev pub Named : Proposal → ℕ → Type 0
Named p u = NamedBy (literals p) u

module _ (p : Proposal) (u : ℕ) where
  as_named : (var_of p.first.0 ≡ u) ⊎ (var_of p.second.0 ≡ u) → Named p u
  as_named f =
      ⊎_elim (λ e. record { place = 0; within = omega arith; names = e }) (λ e. record { place = 1; within = omega arith; names = e }) f

  pub named_either : Named p u → (var_of p.first.0 ≡ u) ⊎ (var_of p.second.0 ≡ u)
  named_either n = at n.place n.within n.names
    where
      at : (j : ℕ) → j < 2 → var_of (get_or (literals p) j 0) ≡ u → (var_of p.first.0 ≡ u) ⊎ (var_of p.second.0 ≡ u)
      at zero h e = inl e
      at (suc zero) h e = inr e
      at (suc (suc j)) h e = absurd (omega arith)

module _ (g : Graph) where
  pub by_fanin : (v u : ℕ) → IsGate g.net v → Reached g v → Fanin g.net v u → Reached g u
  by_fanin v u i r f = ⊎_elim (λ e. subst (Reached g) e (as_first i r)) (λ e. subst (Reached g) e (as_second i r)) f

  module _ (P : ℕ → Type 0) (out : (j : ℕ) → j < length (sinks g) → P (var_of (get_or (sinks g) j 0)))
      (step : (v u : ℕ) → IsGate g.net v → Reached g v → P v → Fanin g.net v u → P u) where
    pub by_reach : (v : ℕ) → Reached g v → P v
    by_reach v (as_output j h) = out j h
    by_reach v (as_first {v = u} i r) = step u _ i r (by_reach u r) (inl refl)
    by_reach v (as_second {v = u} i r) = step u _ i r (by_reach u r) (inr refl)

  pub fanin_lower : Lawful g → (v u : ℕ) → IsGate g.net v → Fanin g.net v u → u < v
  fanin_lower ok v u i f = ⊎_elim (λ e. omega (arith, first_lower g ok v i)) (λ e. omega (arith, second_lower g ok v i)) f

  module _ (root : ℕ) where
    pub without_fanin : (v u : ℕ) → IsGate g.net v → Without g root v → ¬ (u ≡ root) → Fanin g.net v u → Without g root u
    without_fanin v u i r n f = ⊎_elim
        (λ e. subst (Without g root) e (by_first i r (λ q. n (sym e ∙ q))))
        (λ e. subst (Without g root) e (by_second i r (λ q. n (sym e ∙ q)))) f

    pub without_not_root : (v : ℕ) → Without g root v → ¬ (v ≡ root)
    without_not_root v (by_output j h n) = n
    without_not_root v (by_first i r n) = n
    without_not_root v (by_second i r n) = n

-- the fanins of a gate over two literals, the larger first
module _ (net : Net) (v x y : ℕ) (a : first net v ≡ max x y) (b : second net v ≡ min x y) (u : ℕ) where
  of_two : Fanin net v u → (var_of x ≡ u) ⊎ (var_of y ≡ u)
  of_two f = ⊎_elim
      (λ h. ⊎_elim (λ e. inr (omega arith)) (λ e. inl (omega arith)) f)
      (λ h. ⊎_elim (λ e. inl (omega arith)) (λ e. inr (omega arith)) f) (at_most_or_above x y)

  two_of : (var_of x ≡ u) ⊎ (var_of y ≡ u) → Fanin net v u
  two_of f = ⊎_elim
      (λ h. ⊎_elim (λ e. inr (omega arith)) (λ e. inl (omega arith)) f)
      (λ h. ⊎_elim (λ e. inl (omega arith)) (λ e. inr (omega arith)) f) (at_most_or_above x y)

-- ---- the proposal's literals and what they reach lie below the root

module _ (g : Graph) (root : ℕ) (p : Proposal) where
  from_named : (u : ℕ) → Named p u → From g.net p u
  from_named u n = subst (From g.net p) n.names (as_output n.place n.within)

  -- from the literals on down
  pub by_from : (P : ℕ → Type 0) → ((u : ℕ) → Named p u → P u)
      → ((v u : ℕ) → IsGate g.net v → From g.net p v → P v → Fanin g.net v u → P u) → (v : ℕ) → From g.net p v → P v
  by_from P named step =
      by_reach (over g.net (literals p)) P (λ j h. named _ (record { place = j; within = h; names = refl })) step

  module _ (ok : Lawful g) (low : (u : ℕ) → Named p u → u < root) where
    pub from_below : (v : ℕ) → From g.net p v → v < root
    from_below = by_from (λ v. v < root) low (λ v u i r l f. let q = fanin_lower g ok v u i f in omega arith)

-- ---- the rewired graph

module _ (g : Graph) (root : ℕ) (gate : IsGate g.net root) (p : Proposal) where
  -- where a reference to variable u leads afterwards
  goes : ℕ → ℕ
  goes u = cond (eqb u root) (var_of (stand_in root p)) u

  goes_root : (u : ℕ) → u ≡ root → goes u ≡ var_of (stand_in root p)
  unfolding goes
  goes_root u e = rw (eq-eqb u root e)

  goes_other : (u : ℕ) → ¬ (u ≡ root) → goes u ≡ u
  unfolding goes
  goes_other u n = rw (ne_eqb u root n)

  redirected_goes : (l : ℕ) → var_of (redirected root p l) ≡ goes (var_of l)
  redirected_goes l = ⊎_elim
      (λ e. omega (arith, redirected_root root p l e, goes_root (var_of l) e))
      (λ n. omega (arith, redirected_other root p l n, goes_other (var_of l) n))
      (equal_or_not (var_of l) root)

  same_gates : (v : ℕ) → IsGate (rewired g root p).net v ↔ IsGate g.net v
  unfolding rewired
  same_gates v = let f = rewired_free g.net root p in let s = rewired_size g.net root p in (
    λ i. record { above = let h = i.above in omega arith; within = let h = i.within in omega arith },
    λ i. record { above = let h = i.above in omega arith; within = let h = i.within in omega arith },
  )

  -- a gate other than the root: its references lead where they go
  fanin_from : (v u : ℕ) → IsGate g.net v → ¬ (v ≡ root) → Fanin (rewired g root p).net v u
      → (t : ℕ) × Fanin g.net v t × (goes t ≡ u)
  unfolding rewired
  fanin_from v u i n f = let h = other_gate g.net root p v i n in ⊎_elim
      (λ e. (var_of (first g.net v), inl refl, sym (redirected_goes (first g.net v)) ∙ e))
      (λ e. (var_of (second g.net v), inr refl, sym (redirected_goes (second g.net v)) ∙ e))
      (of_two (rewired_net g.net root p) v _ _ h.0 h.1 u f)

  fanin_goes : (v t : ℕ) → IsGate g.net v → ¬ (v ≡ root) → Fanin g.net v t → Fanin (rewired g root p).net v (goes t)
  unfolding rewired
  fanin_goes v t i n f = let h = other_gate g.net root p v i n in
      two_of (rewired_net g.net root p) v _ _ h.0 h.1 (goes t)
      (⊎_elim (λ e. inl (redirected_goes (first g.net v) ∙ ap goes e)) (λ e. inr (redirected_goes (second g.net v) ∙ ap goes e)) f)

  -- the root's gate in kind 1
  root_fanin : p.kind ≡ 1 → (v u : ℕ) → IsGate g.net v → v ≡ root → Fanin (rewired g root p).net v u
      ↔ ((var_of p.first.0 ≡ u) ⊎ (var_of p.second.0 ≡ u))
  unfolding rewired
  root_fanin k v u i e = let h = and_root g.net root p v i e k in
      (of_two (rewired_net g.net root p) v _ _ h.0 h.1 u, two_of (rewired_net g.net root p) v _ _ h.0 h.1 u)

  sink_goes : (j : ℕ) → j < length (sinks g) → var_of (get_or (sinks (rewired g root p)) j 0) ≡ goes (var_of (get_or (sinks g) j 0))
  unfolding rewired
  sink_goes j h = ap var_of (map_at (redirected root p) 0 0 (sinks g) j h) ∙ redirected_goes (get_or (sinks g) j 0)

  sink_count : length (sinks (rewired g root p)) ≡ length (sinks g)
  unfolding rewired
  sink_count = length-map (sinks g) (redirected root p)

  output_goes : (j : ℕ) → j < length (sinks g) → Reached (rewired g root p) (goes (var_of (get_or (sinks g) j 0)))
  output_goes j h = subst (Reached (rewired g root p)) (sink_goes j h) (as_output j (omega (arith, sink_count)))

  step_goes : (v u : ℕ) → IsGate g.net v → ¬ (v ≡ root) → Reached (rewired g root p) v → Fanin g.net v u
      → Reached (rewired g root p) (goes u)
  step_goes v u i n r f = by_fanin (rewired g root p) v (goes u) ((same_gates v).1 i) r (fanin_goes v u i n f)

  -- what is reached through no reference to the root stays so
  pub without_rewired : (v : ℕ) → Without g root v → Reached (rewired g root p) v
  without_rewired v (by_output j h n) = rw (goes_other _ n) at (output_goes j h)
  without_rewired v (by_first {v = u} i r n) =
      rw (goes_other _ n) at (step_goes u _ i (without_not_root g root u r) (without_rewired u r) (inl refl))
  without_rewired v (by_second {v = u} i r n) =
      rw (goes_other _ n) at (step_goes u _ i (without_not_root g root u r) (without_rewired u r) (inr refl))

  -- what a reference to the root becomes is reached: the references to a root in use survive
  root_goes : Lawful g → Reached g root → Reached (rewired g root p) (goes root)
  root_goes ok used = by_reach g (λ v. root ≤ v → Reached (rewired g root p) (goes v)) (λ j h l. output_goes j h)
      (λ v u i r ih f l.
      let d = fanin_lower g ok v u i f in
      let n : ¬ (v ≡ root) = λ e. omega arith in
      step_goes v u i n (rw (goes_other v n) at (ih (omega arith))) f) root used (le_refl root)

  -- ---- by kind

  module _ (wires : Wires root p) where
    pub named_below : (u : ℕ) → Named p u → u < root
    named_below u n = go wires
      where
        go : Wires root p → u < root
        go (to_literal k l s) = let h = gate.above in ⊎_elim (λ e. omega arith) (λ e. omega arith) (named_either p u n)
        go (to_and k l m t) = ⊎_elim (λ e. omega arith) (λ e. omega arith) (named_either p u n)

    -- a reference goes to a literal's variable, to the root, or where it went
    lands : (t u : ℕ) → goes t ≡ u → ¬ (u ≡ root) → Named p u ⊎ ((¬ (t ≡ root)) × (t ≡ u))
    lands t u q n = ⊎_elim (λ e. inl (go e wires)) (λ m. inr (m, sym (goes_other t m) ∙ q)) (equal_or_not t root)
      where
        go : t ≡ root → Wires root p → Named p u
        go e (to_literal k l s) = as_named p u (inl (omega (arith, goes_root t e, literal_stands root p k)))
        go e (to_and k l m x) = absurd (n (omega (arith, goes_root t e, root_stands root p k)))

    -- in kind 0 the root is not reached
    pub root_unreached : p.kind ≡ 0 → (v : ℕ) → Reached (rewired g root p) v → ¬ (v ≡ root)
    root_unreached k = by_reach (rewired g root p) (λ v. ¬ (v ≡ root))
        (λ j h e. elsewhere _ (sym (sink_goes j (omega (arith, sink_count))) ∙ e))
        (λ v u i r ih f e. let t = fanin_from v u ((same_gates v).0 i) ih f in elsewhere t.0 (t.2 ∙ e))
      where
        elsewhere : (t : ℕ) → ¬ (goes t ≡ root)
        elsewhere t q = ⊎_elim
            (λ e. let f = named_below (var_of p.first.0) (as_named p _ (inl refl)) in
            omega (arith, goes_root t e, literal_stands root p k))
            (λ n. n (sym (goes_other t n) ∙ q)) (equal_or_not t root)

    pub rewired_beside : (v : ℕ) → Reached (rewired g root p) v → ¬ (v ≡ root) → Without g root v ⊎ From g.net p v
    rewired_beside = by_reach (rewired g root p) (λ v. ¬ (v ≡ root) → Without g root v ⊎ From g.net p v)
        (λ j h n. let l : j < length (sinks g) = omega (arith, sink_count) in ⊎_elim
        (λ f. inr (from_named g root p _ f))
        (λ m. inl (subst (Without g root) m.1 (by_output j l m.0))) (lands _ _ (sym (sink_goes j l)) n))
        (λ v u i r ih f n. let o = (same_gates v).0 i in ⊎_elim
        (λ e. at_root v u e o r f wires)
        (λ m. let t = fanin_from v u o m f in ⊎_elim
        (λ f. inr (from_named g root p u f))
        (λ s. let k = rw s.1 at t.1 in ⊎_elim (λ x. inl (without_fanin g root v u o x n k)) (λ x. inr (by_fanin _ v u o x k)) (ih m))
        (lands t.0 u t.2 n))
        (equal_or_not v root))
      where
        at_root : (v u : ℕ) → v ≡ root → IsGate g.net v → Reached (rewired g root p) v → Fanin (rewired g root p).net v u
            → Wires root p
            → Without g root u ⊎ From g.net p u
        at_root v u e i r f (to_literal k l s) = absurd (root_unreached k v r e)
        at_root v u e i r f (to_and k l m x) = inr (from_named g root p u (as_named p u ((root_fanin k v u i e).0 f)))

    module _ (ok : Lawful g) (used : Reached g root) where
      -- in kind 1 the root is reached
      pub root_reached : p.kind ≡ 1 → p.turned ≤ 1 → Reached (rewired g root p) root
      root_reached k t = let e : goes root ≡ root = omega (arith, goes_root root refl, root_stands root p k) in rw e at (root_goes ok used)

      named_reached : (u : ℕ) → Named p u → 0 < u → Reached (rewired g root p) u
      named_reached u f z = go wires
        where
          go : Wires root p → Reached (rewired g root p) u
          go (to_literal k l s) = ⊎_elim
              (λ e. subst (Reached (rewired g root p)) (goes_root root refl ∙ ap var_of (literal_stands root p k) ∙ e) (root_goes ok used))
              (λ e. absurd (omega arith)) (named_either p u f)
          go (to_and k l m t) =
              by_fanin (rewired g root p) root u ((same_gates root).1 gate) (root_reached k t)
              ((root_fanin k root u gate refl).1 (named_either p u f))

      from_rewired : (v : ℕ) → From g.net p v → 0 < v → Reached (rewired g root p) v
      from_rewired = by_from g root p (λ v. 0 < v → Reached (rewired g root p) v) named_reached
          (λ v u i r ih f z.
          let b = from_below g root p ok named_below v r in
          let l = fanin_lower g ok v u i f in
          let n : ¬ (u ≡ root) = λ e. omega arith in
          rw (goes_other u n) at (step_goes v u i (λ e. omega arith) (ih (let x = i.above in omega arith)) f))

      -- a gate other than the root is reached afterwards if it was through no reference to the root, or is from the proposal's literals
      pub rewired_reached : (v : ℕ) → 0 < v → ¬ (v ≡ root) → Reached (rewired g root p) v ↔ (Without g root v ⊎ From g.net p v)
      rewired_reached v z n = (λ r. rewired_beside v r n, λ b. ⊎_elim (without_rewired v) (λ f. from_rewired v f z) b)
