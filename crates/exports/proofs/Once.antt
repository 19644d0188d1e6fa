-- What meets the contract of a call in numbers: one result alone.
-- Assumes nothing.
use mathlib.Core.Path.{◌≡◌, sym, ap, ◌∙◌}
use mathlib.Core.List.{List, [], ◌∷◌}
use Prim.Native.Nat.{ℕ}
use Rattle.graph.specs.Lent.{Buffers, buffers_of}
use Rattle.window.specs.declared.leaf_set.Leaves.{Leaves}
use Rattle.replacement.specs.declared.types.Proposal.{Proposal}
use Rattle.exports.specs.Exported.{
  reads,
  read_numbers,
  writes,
  written_numbers,
  evaluates,
  evaluated_numbers,
  picked_numbers,
  table_numbers,
  applies,
  applied_numbers,
  no_lists,
  Told,
}

module _ (text gates outputs before : List ℕ) where
  -- r is the number, i, a and o are the counts, gs and os are the lent lists
  pub read_numbers_have_one_result : (r i a o : ℕ) (gs os : List ℕ) (r' i' a' o' : ℕ) (gs' os' : List ℕ)
      → Told (read_numbers text gates outputs) (reads text gates outputs).lent before r (i ∷ a ∷ o ∷ []) (buffers_of gs os)
      → Told (read_numbers text gates outputs) (reads text gates outputs).lent before r' (i' ∷ a' ∷ o' ∷ []) (buffers_of gs' os')
      → (r ≡ r') × (i ≡ i') × (a ≡ a') × (o ≡ o') × (gs ≡ gs') × (os ≡ os')
  read_numbers_have_one_result r i a o gs os r' i' a' o' gs' os' m n =
      let lists = m.lists ∙ sym n.lists in
      (cc, cc, cc, cc, ap (λ (b : Buffers). b.gates) lists, ap (λ (b : Buffers). b.outputs) lists)

module _ (inputs : ℕ) (gates outputs bytes before : List ℕ) where
  -- r is the number, n is the number of bytes, bs are the lent bytes
  pub write_numbers_have_one_result : (r n : ℕ) (bs : List ℕ) (r' n' : ℕ) (bs' : List ℕ)
      → Told (written_numbers inputs gates outputs bytes) (writes inputs gates outputs bytes).lent before r (n ∷ []) bs
      → Told (written_numbers inputs gates outputs bytes) (writes inputs gates outputs bytes).lent before r' (n' ∷ []) bs'
      → (r ≡ r') × (n ≡ n') × (bs ≡ bs')
  write_numbers_have_one_result r n bs r' n' bs' p q = (cc, cc, cc)

module _ (inputs : ℕ) (gates outputs assignment values before : List ℕ) where
  -- r is the number, n is the number of outputs, vs are the lent values
  pub evaluate_numbers_have_one_result : (r n : ℕ) (vs : List ℕ) (r' n' : ℕ) (vs' : List ℕ)
      → Told (evaluated_numbers inputs gates outputs assignment values) (evaluates inputs gates outputs assignment values).lent before r
      (n ∷ []) vs
      → Told (evaluated_numbers inputs gates outputs assignment values) (evaluates inputs gates outputs assignment values).lent before r'
      (n' ∷ []) vs'
      → (r ≡ r') × (n ≡ n') × (vs ≡ vs')
  evaluate_numbers_have_one_result r n vs r' n' vs' p q = (cc, cc, cc)

module _ (inputs : ℕ) (gates outputs : List ℕ) (root : ℕ) (before : List ℕ) where
  -- r is the number, after are the numbers behind the references
  pub pick_numbers_have_one_result : (r : ℕ) (after : List ℕ) (r' : ℕ) (after' : List ℕ)
      → Told (picked_numbers inputs gates outputs root) no_lists before r after no_lists
      → Told (picked_numbers inputs gates outputs root) no_lists before r' after' no_lists
      → (r ≡ r') × (after ≡ after')
  pick_numbers_have_one_result r after r' after' p q = (cc, cc)

  pub table_numbers_have_one_result : (w : Leaves) (r bits r' bits' : ℕ)
      → Told (table_numbers inputs gates outputs root w) no_lists before r (bits ∷ []) no_lists
      → Told (table_numbers inputs gates outputs root w) no_lists before r' (bits' ∷ []) no_lists
      → (r ≡ r') × (bits ≡ bits')
  table_numbers_have_one_result w r bits r' bits' p q = (cc, cc)

module _ (inputs : ℕ) (gates outputs : List ℕ) (root : ℕ) (w : Leaves) (p : Proposal) (words results before : List ℕ) where
  -- r is the number, a and o are the counts, gs and os are the lent lists
  pub apply_numbers_have_one_result : (r a o : ℕ) (gs os : List ℕ) (r' a' o' : ℕ) (gs' os' : List ℕ)
      → Told (applied_numbers inputs gates outputs root w p words results)
      (applies inputs gates outputs root w p words results).lent before r (a ∷ o ∷ []) (buffers_of gs os)
      → Told (applied_numbers inputs gates outputs root w p words results)
      (applies inputs gates outputs root w p words results).lent before r' (a' ∷ o' ∷ []) (buffers_of gs' os')
      → (r ≡ r') × (a ≡ a') × (o ≡ o') × (gs ≡ gs') × (os ≡ os')
  apply_numbers_have_one_result r a o gs os r' a' o' gs' os' m n =
      let lists = m.lists ∙ sym n.lists in
      (cc, cc, cc, ap (λ (b : Buffers). b.gates) lists, ap (λ (b : Buffers). b.outputs) lists)
