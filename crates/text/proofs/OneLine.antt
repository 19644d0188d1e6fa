-- What a line that fits says of its numbers: an input's, an output's, a gate's.
-- Assumes nothing.
use mathlib.Core.Path.{◌≡◌, ap, ◌∙◌}
use mathlib.Core.List.{List, [], ◌∷◌}
use Prim.Native.Nat.{ℕ, ◌+◌, ◌*◌, ◌≤◌}
use borrow.Author.Tests.{leb-true, eqb-true}
use lib.Dec.{eqb}
use lib.ListN.{length, get_or}
use Rattle.graph.specs.Lists.{gather}
use Rattle.graph.proofs.Lists.{and_left}
use Rattle.graph.proofs.Singles.{singles_are}
use Rattle.text.specs.declared.header.Header.{Header}
use Rattle.text.specs.Reading.{input_needed, output_needed, gate_needed}
use Rattle.text.proofs.Fits.{Kept}

module _ (ns : List ℕ) where
  one_number : length ns ≡ 1 → ns ≡ get_or ns 0 0 ∷ []
  unfolding gather
  one_number q = singles_are ns 1 0 q

  three_numbers : length ns ≡ 3 → ns ≡ get_or ns 0 0 ∷ get_or ns 1 0 ∷ get_or ns 2 0 ∷ []
  unfolding gather
  three_numbers q = singles_are ns 3 0 q

  pub input_kept : (k : ℕ) → Kept (input_needed k) ns → ns ≡ 2 * k ∷ []
  unfolding input_needed
  input_kept k e = one_number e.count ∙ ap (λ (x : ℕ). x ∷ []) (eqb-true (get_or ns 0 0) (2 * k) e.rule)

  pub output_kept : (h : Header) → Kept (output_needed h) ns → get_or ns 0 0 ≤ 2 * h.highest + 1
  unfolding output_needed
  output_kept h e = leb-true (get_or ns 0 0) (2 * h.highest + 1) e.rule

  pub output_is : (h : Header) → Kept (output_needed h) ns → ns ≡ get_or ns 0 0 ∷ []
  unfolding output_needed
  output_is h e = one_number e.count

  module _ (v : ℕ) (e : Kept (gate_needed v) ns) where
    pub gate_is : ns ≡ 2 * v ∷ get_or ns 1 0 ∷ get_or ns 2 0 ∷ []
    unfolding gate_needed
    gate_is =
        three_numbers e.count
        ∙ ap (λ (x : ℕ). x ∷ get_or ns 1 0 ∷ get_or ns 2 0 ∷ [])
        (eqb-true (get_or ns 0 0) (2 * v) (and_left (eqb (get_or ns 0 0) (2 * v)) _ e.rule))
