-- Dropping the gates not in use: R gates are left, in order and all in use; a graph that has no others is left as it is.
-- Assumes nothing.
use mathlib.Core.Path.{◌≡◌, refl, sym, ap, ap₂, ◌∙◌, subst}
use mathlib.Core.List.{List, map-id}
use mathlib.Core.Logic.{⊎_elim}
use Prim.Native.Nat.{ℕ, suc, ◌+◌, ◌-◌, ◌*◌, ◌/◌, ◌%◌, ◌≤◌, ◌<◌}
use native.Mathlib.Omega.{arith}
use lib.ListN.{length, get_or, length-map}
use lib.Seq.{ext_get_or}
use Rattle.graph.specs.Literal.{var_of}
use Rattle.graph.specs.Graph.{Net, Graph, net_of, graph_of, free, size, last, sinks, first, second, IsGate, Lawful, WellFormed}
use Rattle.graph.specs.Use.{Reached, InUse, as_output, as_first, as_second, marks, used_gates}
use Rattle.graph.specs.Drop.{new_number, renumbered, kept_net, dropped}
use Rattle.graph.proofs.Members.{map_at}
use Rattle.graph.proofs.Lists.{at_most_or_above, map_same}
use Rattle.graph.proofs.Marks.{Marked}
use Rattle.graph.proofs.Use.{marked_reached, reached_marked, fanins_are_marked}
use Rattle.graph.proofs.Renumber.{
  count_most,
  count_all,
  number_same,
  number_most,
  number_less,
  kept_length,
  kept_size,
  kept_gate_lem,
  kept_first,
  kept_second,
  Kept,
  all_kept,
  renumbered_var,
  renumbered_mono,
}

-- every gate is in use
abbrev pub AllReached : Graph → Type 0
AllReached g = (v : ℕ) → IsGate g.net v → Reached g v

-- ---- a net is its inputs and its gates' literals

same_net : (net net' : Net) → free net ≡ free net' → length net.gates % 2 ≡ 0 → length net.gates ≡ length net'.gates
    → ((v : ℕ) → IsGate net v → (first net v ≡ first net' v) × (second net v ≡ second net' v)) → net ≡ net'
unfolding first second
same_net net net' f e l h = ap₂ net_of f (ext_get_or 0 net.gates net'.gates l word)
  where
    word : (i : ℕ) → i < length net.gates → get_or net.gates i 0 ≡ get_or net'.gates i 0
    word i b =
        let q = h (suc (free net + i / 2)) (record { above = omega arith; within = omega arith }) in ⊎_elim
        (λ z.
        let here : 2 * (suc (free net + i / 2) - suc (free net)) ≡ i = omega arith in
        let there : 2 * (suc (free net + i / 2) - suc (free net')) ≡ i = omega arith in
        ap (λ (j : ℕ). get_or net.gates j 0) (sym here) ∙ q.0 ∙ ap (λ (j : ℕ). get_or net'.gates j 0) there)
        (λ z.
        let here : suc (2 * (suc (free net + i / 2) - suc (free net))) ≡ i = omega arith in
        let there : suc (2 * (suc (free net + i / 2) - suc (free net'))) ≡ i = omega arith in
        ap (λ (j : ℕ). get_or net.gates j 0) (sym here) ∙ q.1 ∙ ap (λ (j : ℕ). get_or net'.gates j 0) there)
        (at_most_or_above (i % 2) 0)

-- ---- what is left has R gates, each a gate in use under its new number

module _ (g : Graph) where
  abbrev pub number : ℕ → ℕ
  number v = new_number g.net (marks g) v

  abbrev pub literal : ℕ → ℕ
  literal l = renumbered g.net (marks g) l

  sink_at : (j : ℕ) → j < length (sinks g) → get_or (sinks (dropped g)) j 0 ≡ literal (get_or (sinks g) j 0)
  unfolding dropped
  sink_at j h = map_at (renumbered g.net (marks g)) 0 0 (sinks g) j h

  sink_count : length (sinks (dropped g)) ≡ length (sinks g)
  unfolding dropped
  sink_count = length-map (sinks g) (renumbered g.net (marks g))

  pub dropped_free : free (dropped g).net ≡ free g.net
  unfolding dropped kept_net
  dropped_free = refl

  pub dropped_size : size (dropped g).net ≡ used_gates g
  unfolding used_gates dropped
  dropped_size = kept_size g.net (marks g)

  pub used_at_most_size : used_gates g ≤ size g.net
  unfolding used_gates
  used_at_most_size = count_most g.net (marks g) (size g.net)

  -- a marked gate under its new number
  module _ (v : ℕ) (i : IsGate g.net v) (m : Marked (marks g) v) where
    pub new_gate : IsGate (dropped g).net (number v)
    unfolding dropped
    new_gate = kept_gate_lem g.net (marks g) v i m

    pub new_first : first (dropped g).net (number v) ≡ literal (first g.net v)
    unfolding dropped
    new_first = kept_first g.net (marks g) v i m

    pub new_second : second (dropped g).net (number v) ≡ literal (second g.net v)
    unfolding dropped
    new_second = kept_second g.net (marks g) v i m

  literal_var : (l : ℕ) → var_of (literal l) ≡ number (var_of l)
  literal_var l = renumbered_var g.net (marks g) l

  -- and each gate is one
  kept_of : (u : ℕ) → IsGate (dropped g).net u → Kept g.net (marks g) u
  unfolding dropped
  kept_of u i = all_kept g.net (marks g) u i

-- ---- the rules hold

module _ (g : Graph) (ok : Lawful g) where
  -- a literal below twice a marked gate's variable stays below it
  literal_less : (l v : ℕ) → l < 2 * v → free g.net < v → Marked (marks g) v → literal g l < 2 * number g v
  unfolding renumbered
  literal_less l v h f m = let n = number_less g.net (marks g) (var_of l) v (omega arith) f m in omega arith

  sinks_stay : (j : ℕ) → j < length (sinks (dropped g)) → get_or (sinks (dropped g)) j 0 ≤ 2 * last (dropped g).net + 1
  unfolding renumbered used_gates
  sinks_stay j h =
      let l : j < length (sinks g) = omega (arith, sink_count g) in
      let b = ok.sinks_within j l in
      let n = number_most g.net (marks g) (var_of (get_or (sinks g) j 0)) (omega arith) in
      omega (arith, sink_at g j l, dropped_size g, dropped_free g)

  gate_stays : (v : ℕ) → IsGate g.net v → Marked (marks g) v
      → (second (dropped g).net (number g v) ≤ first (dropped g).net (number g v))
      × (first (dropped g).net (number g v) < 2 * number g v)
  gate_stays v i m =
      let c = fanins_are_marked g ok v i m in
      let o : literal g (second g.net v) ≤ literal g (first g.net v) =
      renumbered_mono g.net (marks g) (second g.net v) (first g.net v) (ok.ordered v i) c.0 in
      let b = literal_less (first g.net v) v (ok.below v i) i.above m in
      (omega (arith, new_first g v i m, new_second g v i m), omega (arith, new_first g v i m))

  pub dropped_lawful : Lawful (dropped g)
  dropped_lawful = record {
    even = unfold dropped in omega (arith, kept_length g.net (marks g));
    ordered = λ u i. (new u i).0;
    below = λ u i. (new u i).1;
    sinks_within = sinks_stay;
  }
    where
      new : (u : ℕ) → IsGate (dropped g).net u
          → (second (dropped g).net u ≤ first (dropped g).net u) × (first (dropped g).net u < 2 * u)
      new u i =
          let k = kept_of g u i in
          subst (λ (x : ℕ). (second (dropped g).net x ≤ first (dropped g).net x) × (first (dropped g).net x < 2 * x)) k.number_is_u
          (gate_stays k.old k.is_gate k.is_marked)

  -- ---- every gate left is in use

  reached_stays : (v : ℕ) → Reached g v → Reached (dropped g) (number g v)
  reached_stays v (as_output j h) =
      subst (Reached (dropped g)) (ap var_of (sink_at g j h) ∙ literal_var g (get_or (sinks g) j 0))
      (as_output j (omega (arith, sink_count g)))
  reached_stays v (as_first {v = u} i r) =
      let m = reached_marked g ok u r in
      subst (Reached (dropped g)) (ap var_of (new_first g u i m) ∙ literal_var g (first g.net u))
      (as_first (new_gate g u i m) (reached_stays u r))
  reached_stays v (as_second {v = u} i r) =
      let m = reached_marked g ok u r in
      subst (Reached (dropped g)) (ap var_of (new_second g u i m) ∙ literal_var g (second g.net u))
      (as_second (new_gate g u i m) (reached_stays u r))

  pub dropped_all_reached : AllReached (dropped g)
  dropped_all_reached u i =
      let k = kept_of g u i in
      subst (Reached (dropped g)) k.number_is_u (reached_stays k.old (marked_reached g k.old k.is_marked))

  -- ---- the gates in use stand in their order, and nothing else does

  -- each under its new number, over its literals renumbered
  pub dropped_gate : (v : ℕ) → InUse g v
      → IsGate (dropped g).net (number g v)
      × (first (dropped g).net (number g v) ≡ literal g (first g.net v))
      × (second (dropped g).net (number g v) ≡ literal g (second g.net v))
  dropped_gate v used =
      let i = used.is_gate in
      let m = reached_marked g ok v used.is_reached in (new_gate g v i m, new_first g v i m, new_second g v i m)

  -- each above all that it was above
  pub dropped_keeps_order : (u v : ℕ) → u < v → InUse g v → number g u < number g v
  dropped_keeps_order u v h used =
      number_less g.net (marks g) u v h used.is_gate.above (reached_marked g ok v used.is_reached)

  pub dropped_only : (n : ℕ) → IsGate (dropped g).net n → (v : ℕ) × InUse g v × (number g v ≡ n)
  dropped_only n i =
      let k = kept_of g n i in
      (k.old, record { is_gate = k.is_gate; is_reached = marked_reached g k.old k.is_marked }, k.number_is_u)

  -- ---- a graph with all gates in use is left as it is

  module _ (all : AllReached g) where
    gate_marked : (j : ℕ) → j < size g.net → Marked (marks g) (suc (free g.net + j))
    gate_marked j l = reached_marked g ok _ (all _ (record { above = omega arith; within = omega arith }))

    pub all_used : used_gates g ≡ size g.net
    unfolding used_gates
    all_used = count_all g.net (marks g) (size g.net) gate_marked

    number_same_here : (v : ℕ) → v ≤ last g.net → number g v ≡ v
    number_same_here = number_same g.net (marks g) gate_marked

    literal_same : (l : ℕ) → var_of l ≤ last g.net → literal g l ≡ l
    unfolding renumbered
    literal_same l h = omega (arith, number_same_here (var_of l) h)

    gate_same : (v : ℕ) → IsGate g.net v
        → (first g.net v ≡ first (dropped g).net v) × (second g.net v ≡ second (dropped g).net v)
    gate_same v i =
        let m = reached_marked g ok v (all v i) in
        let e = number_same_here v i.within in
        let b = ok.below v i in
        let o = ok.ordered v i in
        let w = i.within in (
          sym (ap (first (dropped g).net) (sym e) ∙ new_first g v i m ∙ literal_same (first g.net v) (omega arith)),
          sym (ap (second (dropped g).net) (sym e) ∙ new_second g v i m ∙ literal_same (second g.net v) (omega arith)),
        )

    sinks_same : sinks (dropped g) ≡ sinks g
    unfolding dropped
    sinks_same =
        map_same (renumbered g.net (marks g)) (λ l. l) 0 (sinks g)
        (λ j l. let b = ok.sinks_within j l in literal_same (get_or (sinks g) j 0) (omega arith))
        ∙ map-id (sinks g)

    pub dropped_same : dropped g ≡ g
    dropped_same =
        ap₂ (λ (net : Net) (os : List ℕ). graph_of net.inputs net.gates os)
        (sym (same_net g.net (dropped g).net (sym (dropped_free g)) ok.even
        (let s = dropped_size g in let e = ok.even in let d = dropped_lawful.even in omega (arith, all_used)) gate_same))
        sinks_same

pub dropped_well_formed : (g : Graph) → WellFormed g → WellFormed (dropped g)
dropped_well_formed g ok = record {
  lawful = dropped_lawful g ok.lawful;
  inputs_few = rw (dropped_free g) ok.inputs_few;
  outputs_few = let h = ok.outputs_few in omega (arith, sink_count g);
  gates_few = let h = ok.gates_few in omega (arith, dropped_size g, used_at_most_size g);
}

-- dropping again changes nothing
pub dropped_twice : (g : Graph) → Lawful g → dropped (dropped g) ≡ dropped g
dropped_twice g ok = dropped_same (dropped g) (dropped_lawful g ok) (dropped_all_reached g ok)

-- R stays
pub dropped_uses : (g : Graph) → Lawful g → used_gates (dropped g) ≡ used_gates g
dropped_uses g ok = all_used (dropped g) (dropped_lawful g ok) (dropped_all_reached g ok) ∙ dropped_size g
