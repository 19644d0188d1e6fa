-- The leaf rule: it takes the smallest expansion until none is left, and its leaves are well set down under the root and cut it.
-- Assumes nothing.
use mathlib.Core.Path.{◌≡◌, refl, sym, ap, ◌∙◌, subst}
use mathlib.Core.List.{List, []}
use mathlib.Core.Logic.{⊎_elim}
use mathlib.Core.Option.{Option, none, some}
use Prim.Native.Nat.{ℕ, zero, suc, ◌≤◌, ◌<◌}
use native.Mathlib.Nat.{le_of_lt}
use native.Mathlib.Omega.{arith}
use lib.ListN.{length}
use Rattle.graph.specs.Lists.{◌∈◌}
use Rattle.graph.specs.Graph.{Net, Graph, free, IsGate, Lawful}
use Rattle.graph.proofs.Lists.{at_most_or_above}
use Rattle.graph.proofs.Members.{none_in}
use Rattle.window.specs.Leaves.{leaf_limit, leaf_list, WellSet}
use Rattle.window.specs.Local.{Covered}
use Rattle.window.specs.LeafRule.{
  Expandable,
  Chosen,
  Follows,
  stops,
  takes,
  with_fanins,
  expand,
  expansions,
  smallest,
  grow,
  rule_leaves,
  picked,
}
use Rattle.window.proofs.LeavesLaws.{leaves_of_list, leaves_of_well_set}
use Rattle.window.proofs.Weight.{weight, weightless}
use Rattle.window.proofs.Smallest.{none_smallest}
use Rattle.window.proofs.Expansions.{CutUnder, fanins_length, start_weighs, expand_weighs, start_cuts, expand_cuts}
use Rattle.window.proofs.Choice.{chosen, no_expandable}

module _ {limit : ℕ} {net : Net} where
  follows_ends : {xs zs : List ℕ} → Follows limit net xs zs → (v : ℕ) → ¬ Expandable limit net zs v
  follows_ends (stops e) = e
  follows_ends (takes c f) = follows_ends f

  -- what each step keeps, the rule keeps
  follows_keeps : (P : List ℕ → Type 0) → ((xs ys : List ℕ) → P xs → Chosen limit net xs ys → P ys) → {xs zs : List ℕ}
      → Follows limit net xs zs
      → P xs → P zs
  follows_keeps P k (stops e) p = p
  follows_keeps P k (takes {xs} {ys} c f) p = follows_keeps P k f (k xs ys p c)

  -- neither of two leaves expanded is lower, so the leaf is determined, and so is where the rule ends
  not_lower : {xs ys zs : List ℕ} (c : Chosen limit net xs ys) (d : Chosen limit net xs zs) → ¬ (c.leaf < d.leaf)
  not_lower c d l =
      let less = c.higher_larger d.leaf d.is_expandable l in
      let most = d.none_smaller c.leaf c.is_expandable in
      omega (arith, ap length c.expanded, ap length d.expanded)

  chosen_one : {xs ys zs : List ℕ} → Chosen limit net xs ys → Chosen limit net xs zs → ys ≡ zs
  chosen_one {xs} c d =
      let here = not_lower c d in
      let there = not_lower d c in
      let e : c.leaf ≡ d.leaf = omega arith in
      sym c.expanded ∙ ap (expand net xs) e ∙ d.expanded

  follows_one : {xs ys zs : List ℕ} → Follows limit net xs ys → Follows limit net xs zs → ys ≡ zs
  follows_one (stops n) (stops m) = refl
  follows_one (stops n) (takes d f) = absurd (n d.leaf d.is_expandable)
  follows_one (takes c f) (stops n) = absurd (n c.leaf c.is_expandable)
  follows_one (takes {zs = us} c f) (takes d h) = follows_one (subst (λ (ws : List ℕ). Follows limit net ws us) (chosen_one c d) f) h

none_in_empty : (limit : ℕ) (net : Net) (v : ℕ) → ¬ Expandable limit net [] v
none_in_empty limit net v c = none_in c.is_leaf

module _ (g : Graph) (law : Lawful g) (limit root : ℕ) (gate : IsGate g.net root) where
  open g use {net}

  chosen_gate : {xs ys : List ℕ} → CutUnder net root xs → (c : Chosen limit net xs ys) → IsGate net c.leaf
  chosen_gate u c =
      record { above = c.is_expandable.is_gate; within = omega (arith, u.below_root c.leaf c.is_expandable.is_leaf) }

  pub chosen_cuts : (xs ys : List ℕ) → CutUnder net root xs → Chosen limit net xs ys → CutUnder net root ys
  chosen_cuts xs ys u c = rw c.expanded at (expand_cuts g law root xs c.leaf (chosen_gate u c) c.is_expandable.is_leaf u)

  pub chosen_weighs : (xs ys : List ℕ) → CutUnder net root xs → Chosen limit net xs ys → weight ys < weight xs
  chosen_weighs xs ys u c = rw c.expanded at (expand_weighs g law xs c.leaf (chosen_gate u c) c.is_expandable.is_leaf)

  -- each step makes the set lighter, so as many steps as the weight are enough
  grow_follows : (n : ℕ) (xs : List ℕ) → CutUnder net root xs → weight xs ≤ n → Follows limit net xs (grow limit net n xs)
  unfolding grow
  grow_follows zero xs u h =
      stops (subst (λ (ys : List ℕ). (v : ℕ) → ¬ Expandable limit net ys v) (sym (weightless xs h)) (none_in_empty limit net))
  grow_follows (suc n) xs u h = go (smallest (expansions limit net xs)) refl (λ ys. grow_follows n ys)
    where
      go : (o : Option (List ℕ)) → smallest (expansions limit net xs) ≡ o
          → ((ys : List ℕ) → CutUnder net root ys → weight ys ≤ n → Follows limit net ys (grow limit net n ys))
          → Follows limit net xs (elim o [ some ys ↦ grow limit net n ys | none ↦ xs ])
      go (some ys) e r =
          let c = chosen limit net xs ys u.ascending e in
          takes c (r ys (chosen_cuts xs ys u c) (omega (arith, chosen_weighs xs ys u c)))
      go none e r = stops (no_expandable limit net xs (none_smallest (expansions limit net xs) e))

  pub rule_follows : Follows limit net (with_fanins net root []) (rule_leaves limit net root)
  unfolding rule_leaves
  rule_follows = grow_follows _ (with_fanins net root []) (start_cuts g law root gate) (le_of_lt (start_weighs g law root gate))

  -- and it comes to no other set
  pub rule_only : (zs : List ℕ) → Follows limit net (with_fanins net root []) zs → zs ≡ rule_leaves limit net root
  rule_only zs f = follows_one f rule_follows

  pub rule_ends : (v : ℕ) → ¬ Expandable limit net (rule_leaves limit net root) v
  rule_ends = follows_ends rule_follows

  pub rule_cuts : CutUnder net root (rule_leaves limit net root)
  rule_cuts = follows_keeps (CutUnder net root) chosen_cuts rule_follows (start_cuts g law root gate)

  pub rule_few : 2 ≤ limit → length (rule_leaves limit net root) ≤ limit
  rule_few h =
      follows_keeps (λ xs. length xs ≤ limit) (λ xs ys _ c. rw c.expanded at c.is_expandable.few) rule_follows
      (omega (arith, fanins_length net root []))

-- ---- the six places

module _ (g : Graph) (law : Lawful g) (root : ℕ) (gate : IsGate g.net root) where
  open g use {net}

  pub picked_well_set : WellSet root (picked net root)
  unfolding picked
  picked_well_set =
      let c = rule_cuts g law leaf_limit root gate in
      leaves_of_well_set root (rule_leaves leaf_limit net root) (rule_few g law leaf_limit root gate (omega arith)) c.ascending
      c.below_root

  pub picked_cuts : Covered net (picked net root) root
  unfolding picked
  picked_cuts = (rule_cuts g law leaf_limit root gate).cuts

  picked_list : leaf_list (picked net root) ≡ rule_leaves leaf_limit net root
  unfolding picked
  picked_list = leaves_of_list (rule_leaves leaf_limit net root)

  pub picked_no_expansion : (v : ℕ) → v ∈ leaf_list (picked net root) → free net < v
      → leaf_limit < length (expand net (leaf_list (picked net root)) v)
  picked_no_expansion v m h = ⊎_elim
      (λ l.
      absurd (subst (λ (xs : List ℕ). (u : ℕ) → ¬ Expandable leaf_limit net xs u) (sym picked_list) (rule_ends g law leaf_limit root gate) v
      (record { is_leaf = m; is_gate = h; few = l })))
      (λ l. l)
      (at_most_or_above (length (expand net (leaf_list (picked net root)) v)) leaf_limit)
