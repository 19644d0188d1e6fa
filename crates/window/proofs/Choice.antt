-- The leaves that may be expanded, and the one whose expansion the leaf rule takes.
-- Assumes nothing.
use mathlib.Core.Path.{◌≡◌, sym, ap, ◌∙◌}
use mathlib.Core.Bool.{true}
use mathlib.Core.List.{List, [], map}
use mathlib.Core.Option.{some}
use Prim.Native.Nat.{ℕ, ◌<◌}
use native.Mathlib.Omega.{arith}
use borrow.Author.Tests.{leb-true, ltb-true, le-leb, lt-ltb}
use lib.Dec.{leb, ltb}
use lib.ListN.{length, get_or, length-map}
use Rattle.graph.specs.Lists.{◌∈◌, keep}
use Rattle.graph.specs.Graph.{Net, free}
use Rattle.graph.proofs.Members.{at_place, place_of, in_keep, keep_from, in_map, map_at, keep_map}
use Rattle.window.specs.Leaves.{ascends_from}
use Rattle.window.specs.LeafRule.{expand, expansions, smallest, Expandable, Chosen}
use Rattle.window.proofs.Sets.{higher_later, keep_ascends}
use Rattle.window.proofs.Smallest.{Smallest, smallest_is}

module _ (limit : ℕ) (net : Net) (xs : List ℕ) where
  expandables : List ℕ
  expandables = keep (λ v. leb (length (expand net xs v)) limit) (keep (λ v. ltb (free net) v) xs)

  expandable_of : (v : ℕ) → v ∈ expandables → Expandable limit net xs v
  unfolding expandables
  expandable_of v i =
      let short = keep_from (λ v. leb (length (expand net xs v)) limit) (keep (λ v. ltb (free net) v) xs) i in
      let gate = keep_from (λ v. ltb (free net) v) xs short.0 in
      record { is_leaf = gate.0; is_gate = ltb-true _ _ gate.1; few = leb-true _ _ short.1 }

  expandable_in : (v : ℕ) → Expandable limit net xs v → v ∈ expandables
  unfolding expandables
  expandable_in v c =
      in_keep (λ v. leb (length (expand net xs v)) limit) (keep (λ v. ltb (free net) v) xs)
      (in_keep (λ v. ltb (free net) v) xs c.is_leaf (lt-ltb _ _ c.is_gate))
      (le-leb _ _ c.few)

  expansions_are : expansions limit net xs ≡ map (expand net xs) expandables
  unfolding expansions expandables
  expansions_are = keep_map (expand net xs) (λ (ys : List ℕ). leb (length ys) limit) (keep (λ v. ltb (free net) v) xs)

  expandables_ascend : ascends_from 0 xs ≡ true → ascends_from 0 expandables ≡ true
  unfolding expandables
  expandables_ascend e = keep_ascends (λ v. leb (length (expand net xs v)) limit) 0 _ (keep_ascends (λ v. ltb (free net) v) 0 xs e)

  -- where there is no expansion there is no expandable leaf
  pub no_expandable : expansions limit net xs ≡ [] → (v : ℕ) → ¬ Expandable limit net xs v
  no_expandable e v c = elim (rw (sym expansions_are ∙ e) at (in_map (expand net xs) (expandable_in v c))) [ ]

  -- the place of an expandable leaf's expansion
  expansion_at : (u : ℕ) → Expandable limit net xs u
      → (j : ℕ) × (j < length expandables) × (get_or expandables j 0 ≡ u) × (get_or (map (expand net xs) expandables) j [] ≡ expand net xs u)
  expansion_at u c =
      let p = place_of 0 (expandable_in u c) in
      (p.0, p.1, p.2, map_at (expand net xs) 0 [] expandables p.0 p.1 ∙ ap (expand net xs) p.2)

  chosen_from : (ys : List ℕ) → ascends_from 0 xs ≡ true → Smallest (map (expand net xs) expandables) ys → Chosen limit net xs ys
  chosen_from ys up s =
      record {
        leaf = v;
        is_expandable = expandable_of v (at_place 0 expandables s.place inside);
        expanded = sym (map_at (expand net xs) 0 [] expandables s.place inside) ∙ s.there;
        none_smaller = λ u c. let p = expansion_at u c in rw p.3 at (s.none_shorter p.0 (omega (arith, p.1, as_many)));
        higher_larger =
            λ u c h. let p = expansion_at u c in
            rw p.3 at (s.later_longer p.0 (behind u p.0 p.2 h) (omega (arith, p.1, as_many)));
      }
    where
      as_many : length (map (expand net xs) expandables) ≡ length expandables
      as_many = length-map expandables (expand net xs)

      inside : s.place < length expandables
      inside = omega (arith, as_many, s.within)

      v : ℕ
      v = get_or expandables s.place 0

      behind : (u j : ℕ) → get_or expandables j 0 ≡ u → v < u → s.place < j
      behind u j q h = higher_later 0 expandables (expandables_ascend up) s.place j inside (rw (sym q) at h)

  pub chosen : (ys : List ℕ) → ascends_from 0 xs ≡ true → smallest (expansions limit net xs) ≡ some ys → Chosen limit net xs ys
  chosen ys up e = chosen_from ys up (smallest_is (map (expand net xs) expandables) ys (rw expansions_are at e))
