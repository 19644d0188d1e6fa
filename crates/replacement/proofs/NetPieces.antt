-- A net made of pieces, two words for each gate.
-- Assumes nothing.
use mathlib.Core.Path.{◌≡◌, ap, ◌∙◌}
use mathlib.Core.List.{List}
use Prim.Native.Nat.{ℕ, suc, ◌+◌, ◌-◌, ◌*◌, ◌≤◌, ◌<◌, max, min}
use native.Mathlib.Omega.{arith}
use lib.ListN.{length, get_or}
use Rattle.graph.specs.Lists.{gather}
use Rattle.graph.specs.Graph.{Net, net_of, first, second, larger_first}
use Rattle.graph.proofs.Graph.{larger_first_lem}
use Rattle.graph.proofs.Gather.{length_gather, get_d_gather}

-- the first and the second word of a gate are the larger and the smaller of two literals
abbrev pub GateOver : Net → ℕ → ℕ → ℕ → Type 0
GateOver net v a b = (first net v ≡ max a b) × (second net v ≡ min a b)

-- n gates after i inputs, where the piece of gate v is f v
abbrev of_pieces : ℕ → (ℕ → List ℕ) → ℕ → Net
of_pieces i f n = net_of i (gather (λ k. f (suc (i + k))) n)

module _ (i : ℕ) (f : ℕ → List ℕ) (two : (v : ℕ) → length (f v) ≡ 2) (n : ℕ) where
  pub pieces_length : length (of_pieces i f n).gates ≡ 2 * n
  pieces_length = length_gather 2 (λ k. f (suc (i + k))) (λ k. two (suc (i + k))) n

  module _ (v : ℕ) (h : i < v) (l : v ≤ i + n) where
    word_at : (j : ℕ) → j < 2 → get_or (of_pieces i f n).gates (2 * (v - suc i) + j) 0 ≡ get_or (f v) j 0
    word_at j b =
        let e : suc (i + (v - suc i)) ≡ v = omega arith in
        get_d_gather 2 (λ k. f (suc (i + k))) (λ k. two (suc (i + k))) n (v - suc i) j 0 (omega arith) b ∙ ap (λ (u : ℕ). get_or (f u) j 0) e

    pieces_first : first (of_pieces i f n) v ≡ get_or (f v) 0 0
    unfolding first
    pieces_first = ap (λ (j : ℕ). get_or (of_pieces i f n).gates j 0) (omega arith) ∙ word_at 0 (omega arith)

    pieces_second : second (of_pieces i f n) v ≡ get_or (f v) 1 0
    unfolding second
    pieces_second = ap (λ (j : ℕ). get_or (of_pieces i f n).gates j 0) (omega arith) ∙ word_at 1 (omega arith)

    pub pieces_hold : (a b : ℕ) → f v ≡ larger_first a b → GateOver (of_pieces i f n) v a b
    pieces_hold a b e =
        let h = larger_first_lem a b in
        (pieces_first ∙ ap (λ (xs : List ℕ). get_or xs 0 0) e ∙ h.0, pieces_second ∙ ap (λ (xs : List ℕ). get_or xs 1 0) e ∙ h.1)
