-- Expanding a leaf: what stands in the set then, and that the set still ascends below the root, still cuts it, and weighs less.
-- Assumes nothing.
use mathlib.Core.Path.{◌≡◌, sym, subst}
use mathlib.Core.Bool.{true}
use mathlib.Core.List.{List, []}
use mathlib.Core.Logic.{◌⊎◌, inl, inr, ⊎_elim}
use Prim.Native.Nat.{ℕ, suc, ◌+◌, ◌^◌, ◌≤◌, ◌<◌}
use native.Mathlib.Nat.{le_refl}
use native.Mathlib.Omega.{arith}
use lib.ListN.{length, get_or}
use Rattle.graph.specs.Lists.{◌∈◌}
use Rattle.graph.specs.Literal.{var_of}
use Rattle.graph.specs.Graph.{Net, Graph, first, second, IsGate, Lawful}
use Rattle.graph.proofs.Members.{at_place, place_of}
use Rattle.window.specs.Leaves.{ascends_from, leaf_list, leaves_of}
use Rattle.window.specs.Local.{Covered, zero_is, leaf_is, gate_is}
use Rattle.window.specs.LeafRule.{insert, remove, with_fanins, expand}
use Rattle.window.proofs.LeavesLaws.{leaves_of_list}
use Rattle.window.proofs.Sets.{
  ascends_nil,
  insert_is,
  insert_has,
  insert_keeps,
  insert_from,
  insert_length,
  insert_ascends,
  remove_is,
  remove_from,
  remove_keeps,
  remove_ascends,
}
use Rattle.window.proofs.Weight.{weight, fanins_weight, remove_weight}

-- ---- the fanin variables of a gate put in

module _ (net : Net) (v : ℕ) (xs : List ℕ) where
  abbrev first_var : ℕ
  first_var = var_of (first net v)

  abbrev second_var : ℕ
  second_var = var_of (second net v)

  fanins_keep : {u : ℕ} → u ∈ xs → u ∈ with_fanins net v xs
  unfolding with_fanins
  fanins_keep i = insert_keeps (insert_is first_var (insert second_var xs)) (insert_keeps (insert_is second_var xs) i)

  fanins_from : {u : ℕ} → u ∈ with_fanins net v xs → (u ≡ first_var) ⊎ ((u ≡ second_var) ⊎ (u ∈ xs))
  unfolding with_fanins
  fanins_from i = ⊎_elim inl (λ j. inr (insert_from (insert_is second_var xs) j)) (insert_from (insert_is first_var (insert second_var xs)) i)

  fanins_first : (first_var ≡ 0) ⊎ (first_var ∈ with_fanins net v xs)
  unfolding with_fanins
  fanins_first = insert_has (insert_is first_var (insert second_var xs))

  fanins_second : (second_var ≡ 0) ⊎ (second_var ∈ with_fanins net v xs)
  unfolding with_fanins
  fanins_second = ⊎_elim inl (λ i. inr (insert_keeps (insert_is first_var (insert second_var xs)) i)) (insert_has (insert_is second_var xs))

  pub fanins_length : length (with_fanins net v xs) ≤ suc (suc (length xs))
  unfolding with_fanins
  fanins_length = omega (arith, insert_length (insert_is first_var (insert second_var xs)), insert_length (insert_is second_var xs))

  fanins_ascend : ascends_from 0 xs ≡ true → ascends_from 0 (with_fanins net v xs) ≡ true
  unfolding with_fanins
  fanins_ascend e = insert_ascends (insert_is first_var (insert second_var xs)) (insert_ascends (insert_is second_var xs) e)

-- ---- what sets of leaves cover

module _ (net : Net) where
  member_covered : (xs : List ℕ) {v : ℕ} → v ∈ xs → Covered net (leaves_of xs) v
  member_covered xs {v} i =
      let s = place_of 0 (subst (λ (ys : List ℕ). v ∈ ys) (sym (leaves_of_list xs)) i) in
      subst (Covered net (leaves_of xs)) s.2 (leaf_is s.0 s.1)

  -- leaves that are covered may give way to those that cover them
  covered_through : (xs ys : List ℕ) {u : ℕ} → ((v : ℕ) → v ∈ xs → Covered net (leaves_of ys) v) → Covered net (leaves_of xs) u
      → Covered net (leaves_of ys) u
  covered_through xs ys f zero_is = zero_is
  covered_through xs ys f (leaf_is j h) =
      f _ (subst (λ (zs : List ℕ). get_or (leaf_list (leaves_of xs)) j 0 ∈ zs) (leaves_of_list xs) (at_place 0 (leaf_list (leaves_of xs)) j h))
  covered_through xs ys f (gate_is i p q) = gate_is i (covered_through xs ys f p) (covered_through xs ys f q)

  zero_or_member : (xs : List ℕ) {v : ℕ} → (v ≡ 0) ⊎ (v ∈ xs) → Covered net (leaves_of xs) v
  zero_or_member xs s = ⊎_elim (λ e. subst (Covered net (leaves_of xs)) (sym e) zero_is) (λ i. member_covered xs i) s

  fanins_cover : (v : ℕ) (xs : List ℕ) → IsGate net v → Covered net (leaves_of (with_fanins net v xs)) v
  fanins_cover v xs i =
      gate_is i (zero_or_member (with_fanins net v xs) (fanins_first net v xs))
      (zero_or_member (with_fanins net v xs) (fanins_second net v xs))

-- ---- the sets of the leaf rule

-- the set ascends from 0 below the root, and cuts it
pub record CutUnder (net : Net) (root : ℕ) (xs : List ℕ) : Type 0 where
  pub ascending : ascends_from 0 xs ≡ true
  pub below_root : (v : ℕ) → v ∈ xs → v < root
  pub cuts : Covered net (leaves_of xs) root

module _ (g : Graph) (law : Lawful g) where
  open g use {net}

  -- fanin variables are below the gate, so they keep below any bound on it
  fanins_below : (v bound : ℕ) (xs : List ℕ) → IsGate net v → v ≤ bound → ((u : ℕ) → u ∈ xs → u < bound) → (u : ℕ)
      → u ∈ with_fanins net v xs
      → u < bound
  fanins_below v bound xs i h f u j = ⊎_elim
      (λ e. omega (arith, law.below v i))
      (λ s. ⊎_elim (λ e. omega (arith, law.below v i, law.ordered v i)) (λ k. f u k) s)
      (fanins_from net v xs j)

  fanins_weigh : (v : ℕ) (xs : List ℕ) → IsGate net v → weight (with_fanins net v xs) < 2 ^ v + weight xs
  unfolding with_fanins
  fanins_weigh v xs i =
      fanins_weight v (var_of (first net v)) (var_of (second net v)) xs (omega (arith, law.ordered v i)) (omega (arith, law.below v i))

  pub start_weighs : (root : ℕ) → IsGate net root → weight (with_fanins net root []) < 2 ^ root
  unfolding weight
  start_weighs root i = omega (arith, fanins_weigh root [] i)

  pub expand_weighs : (xs : List ℕ) (v : ℕ) → IsGate net v → v ∈ xs → weight (expand net xs v) < weight xs
  unfolding expand
  expand_weighs xs v i j = omega (arith, fanins_weigh v (remove v xs) i, remove_weight (remove_is v xs) j)

  pub start_cuts : (root : ℕ) → IsGate net root → CutUnder net root (with_fanins net root [])
  start_cuts root i =
      record {
        ascending = fanins_ascend net root [] (ascends_nil 0);
        below_root = fanins_below root root [] i (le_refl root) (λ u j. elim j [ ]);
        cuts = fanins_cover net root [] i;
      }

  pub expand_cuts : (root : ℕ) (xs : List ℕ) (v : ℕ) → IsGate net v → v ∈ xs → CutUnder net root xs → CutUnder net root (expand net xs v)
  unfolding expand
  expand_cuts root xs v i j c =
      record {
        ascending = fanins_ascend net v (remove v xs) (remove_ascends 0 (remove_is v xs) c.ascending);
        below_root =
            fanins_below v root (remove v xs) i (omega (arith, c.below_root v j))
            (λ u k. c.below_root u (remove_from (remove_is v xs) k));
        cuts = covered_through net xs (with_fanins net v (remove v xs)) kept c.cuts;
      }
    where
      kept : (u : ℕ) → u ∈ xs → Covered net (leaves_of (with_fanins net v (remove v xs))) u
      kept u k = ⊎_elim
          (λ e. subst (Covered net (leaves_of (with_fanins net v (remove v xs)))) (sym e) (fanins_cover net v (remove v xs) i))
          (λ l. member_covered net (with_fanins net v (remove v xs)) (fanins_keep net v (remove v xs) l))
          (remove_keeps (remove_is v xs) k)
