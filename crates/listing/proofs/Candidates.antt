-- The candidates of a root: all replacements that keep their kind's rule are among them, and they stand in order.
-- Assumes nothing.
use mathlib.Core.Path.{◌≡◌, refl}
use mathlib.Core.List.{List, [], ◌∷◌}
use Prim.Native.Nat.{ℕ, ◌*◌, ◌<◌}
use native.Mathlib.Nat.{le_refl}
use native.Mathlib.Omega.{arith}
use Rattle.graph.specs.Lists.{◌∈◌, here, gather}
use Rattle.graph.specs.Graph.{Net, Graph}
use Rattle.graph.proofs.Members.{in_gather, in_left, in_right, in_same}
use Rattle.window.specs.declared.leaf_set.Leaves.{Leaves}
use Rattle.replacement.specs.declared.types.Proposal.{Proposal}
use Rattle.replacement.specs.Proposal.{literal, and_gate, AllowedByTest, a_literal, an_and}
use Rattle.listing.specs.Listing.{candidates, candidate_of, Before, differs, same_then}
use Rattle.graph.proofs.Each.{Each, each_one, each_gather}
use Rattle.listing.proofs.Sorted.{Sorted, sorted_one, sorted_join, sorted_gather}

-- the candidates' parts: those of kind 0; those of kind 1 by both literals, by the first, and all
abbrev literals : ℕ → List Proposal
literals root = gather (λ l. literal l ∷ []) (2 * root)

abbrev ands_over : ℕ → ℕ → List Proposal
ands_over a b = gather (λ c. and_gate a b c ∷ []) 2

abbrev ands_from : ℕ → ℕ → List Proposal
ands_from root a = gather (ands_over a) (2 * root)

abbrev ands : ℕ → List Proposal
ands root = gather (ands_from root) (2 * root)

-- ---- who is among them

module _ (root : ℕ) where
  and_in : (a b c : ℕ) → a < 2 * root → b < 2 * root → c < 2 → and_gate a b c ∈ candidates root
  unfolding candidates
  and_in a b c h k l =
      let p = and_gate a b c in
      let over = in_gather (λ c. and_gate a b c ∷ []) 2 c p l (here refl) in
      in_right (literals root) (in_gather (ands_from root) (2 * root) a p h (in_gather (ands_over a) (2 * root) b p k over))

  literal_in : (l : ℕ) → l < 2 * root → literal l ∈ candidates root
  unfolding candidates
  literal_in l h = in_left (ands root) (in_gather (λ l. literal l ∷ []) (2 * root) l (literal l) h (here refl))

same_proposal : (p q : Proposal) → p.kind ≡ q.kind → p.first.0 ≡ q.first.0 → p.second.0 ≡ q.second.0 → p.turned ≡ q.turned
    → p ≡ q
same_proposal p q e f s t = λ i. record { kind = e i; first = record { 0 = f i }; second = record { 0 = s i }; turned = t i }

pub allowed_in : (net : Net) (root : ℕ) (w : Leaves) (p : Proposal) → AllowedByTest net root w p → p ∈ candidates root
allowed_in net root w p (a_literal k d s t) =
    in_same (same_proposal p (literal p.first.0) k refl s t) (literal_in root p.first.0 (let h = d.below_root in omega arith))
allowed_in net root w p (an_and k d d' z l t) =
    let h = d.below_root in
    let h' = d'.below_root in
    in_same (same_proposal p (and_gate p.first.0 p.second.0 p.turned) k refl refl refl)
    (and_in root p.first.0 p.second.0 p.turned (omega arith) (omega arith) (omega arith))

-- ---- their order

-- what holds for every candidate of kind 1 over these literals holds for each member
module _ (P : Proposal → Type 0) where
  each_over : (a b : ℕ) → ((c : ℕ) → P (and_gate a b c)) → Each P (ands_over a b)
  each_over a b h = each_gather P (λ c. and_gate a b c ∷ []) 2 (λ c _. each_one P (and_gate a b c) (h c))

  each_from : (root a : ℕ) → ((b c : ℕ) → P (and_gate a b c)) → Each P (ands_from root a)
  each_from root a h = each_gather P (ands_over a) (2 * root) (λ b _. each_over a b (h b))

-- the order of the records that two replacements would have
abbrev pub Earlier : Graph → ℕ → Proposal → Proposal → Type 0
Earlier g root p q = Before (candidate_of g root p) (candidate_of g root q)

module _ (g : Graph) (root : ℕ) where
  literals_sorted : Sorted (Earlier g root) (literals root)
  unfolding candidate_of
  literals_sorted =
      sorted_gather _ (λ l. literal l ∷ []) (2 * root) (λ l. sorted_one _ (literal l))
      (λ i j h. each_one _ (literal i) (each_one _ (literal j) (same_then refl (differs h))))

  over_sorted : (a b : ℕ) → Sorted (Earlier g root) (ands_over a b)
  unfolding candidate_of
  over_sorted a b =
      sorted_gather _ (λ c. and_gate a b c ∷ []) 2 (λ c. sorted_one _ (and_gate a b c))
      (λ i j h. each_one _ (and_gate a b i) (each_one _ (and_gate a b j) (same_then refl (same_then refl (same_then refl (differs h))))))

  from_sorted : (a : ℕ) → Sorted (Earlier g root) (ands_from root a)
  unfolding candidate_of
  from_sorted a =
      sorted_gather _ (ands_over a) (2 * root) (over_sorted a)
      (λ i j h. each_over _ a i (λ c. each_over _ a j (λ d. same_then refl (same_then refl (differs h)))))

  ands_sorted : Sorted (Earlier g root) (ands root)
  unfolding candidate_of
  ands_sorted =
      sorted_gather _ (ands_from root) (2 * root) from_sorted
      (λ i j h. each_from _ root i (λ b c. each_from _ root j (λ d e. same_then refl (differs h))))

  pub candidates_sorted : Sorted (Earlier g root) (candidates root)
  unfolding candidates candidate_of
  candidates_sorted =
      sorted_join _ (ands root) literals_sorted ands_sorted
      (each_gather _ _ (2 * root) (λ l _. each_one _ (literal l)
      (each_gather _ (ands_from root) (2 * root) (λ a _. each_from _ root a (λ b c. differs (le_refl 1))))))
