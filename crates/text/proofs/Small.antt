-- No number of the lines that fit a header is above 2M + 1, and no line has more than three.
-- Assumes nothing.
use mathlib.Core.Path.{◌≡◌, refl, subst⁻¹}
use mathlib.Core.Bool.{Bool}
use mathlib.Core.List.{List, [], ◌∷◌}
use Prim.Native.Nat.{ℕ, zero, suc, ◌+◌, ◌*◌, ◌≤◌, ◌<◌, zero-le}
use native.Mathlib.Omega.{arith}
use lib.ListN.{length, get_or}
use Rattle.graph.specs.Lists.{joined}
use Rattle.graph.specs.Graph.{Graph, WellFormed}
use Rattle.graph.proofs.Members.{at_place}
use Rattle.graph.proofs.Each.{Each, each_none, each_one, each_join, each_gather}
use Rattle.text.specs.declared.header.Header.{Header}
use Rattle.text.specs.States.{counts}
use Rattle.text.specs.Reading.{
  header_of,
  free_of,
  Needed,
  input_needed,
  output_needed,
  gate_needed,
  inputs_needed,
  outputs_needed,
  gates_needed,
  sections,
  lines_needed,
}
use Rattle.text.proofs.Fits.{Kept, no_need, Fits}
use Rattle.text.proofs.States.{lines_of, lines_fit, gate_sides}
use Rattle.text.proofs.OneLine.{input_kept, output_kept, output_is, gate_is}

infixr 20 ◌and◌
data EachMost (m : ℕ) : List ℕ → Type 0 where
  no_more : EachMost m []
  ◌and◌ : {x : ℕ} {xs : List ℕ} → x ≤ m → EachMost m xs → EachMost m (x ∷ xs)

at_most : (m : ℕ) (xs : List ℕ) → EachMost m xs → (i : ℕ) → get_or xs i 0 ≤ m
at_most m xs no_more i = zero-le
at_most m xs (h and l) zero = h
at_most m xs (◌and◌ {xs = ys} h l) (suc i) = at_most m ys l i

module _ (h : Header) where
  -- what holds of each line that fits an input's, an output's and a gate's need
  each_line : (P : List ℕ → Type 0) → ((k : ℕ) → k < h.inputs → (ns : List ℕ) → Kept (input_needed (suc k)) ns → P ns)
      → ((ns : List ℕ) → Kept (output_needed h) ns → P ns)
      → ((k : ℕ) → k < h.gates → (ns : List ℕ) → Kept (gate_needed (suc (free_of h + k))) ns → P ns)
      → (nss : List (List ℕ)) → Fits (lines_needed h) nss → (j : ℕ) → j < length nss → P (get_or nss j [])
  unfolding lines_needed joined sections
  each_line P p q r nss f j l =
      fits_need (get_or (lines_needed h) j no_need) (at_place no_need (lines_needed h) j within) (get_or nss j []) (f.each j within)
    where
      within : j < length (lines_needed h)
      within = omega (arith, f.count)

      Wanted : Needed → Type 0
      Wanted need = (ns : List ℕ) → Kept need ns → P ns

      fits_need : Each Wanted (lines_needed h)
      fits_need =
          each_join Wanted (inputs_needed h) _ (each_gather Wanted _ h.inputs (λ k m. each_one Wanted _ (p k m)))
          (each_join Wanted (outputs_needed h) _ (each_gather Wanted _ h.outputs (λ k m. each_one Wanted _ q))
          (each_join Wanted (gates_needed h) [] (each_gather Wanted _ h.gates (λ k m. each_one Wanted _ (r k m))) (each_none Wanted)))

  module _ (nss : List (List ℕ)) (f : Fits (lines_needed h) nss) where
    lines_small : h.highest ≡ free_of h + h.gates → (j : ℕ) → j < length nss → (i : ℕ) → get_or (get_or nss j []) i 0 ≤ 2 * h.highest + 1
    lines_small q j l =
        let Small : List ℕ → Type 0 = EachMost (2 * h.highest + 1) in
        at_most (2 * h.highest + 1) (get_or nss j [])
        (each_line Small
        (λ k m ns e. subst⁻¹ Small (input_kept ns (suc k) e) (omega arith and no_more))
        (λ ns e. subst⁻¹ Small (output_is ns h e) (output_kept ns h e and no_more))
        (λ k m ns e.
        let (x, y) = gate_sides ns (suc (free_of h + k)) e in
        subst⁻¹ Small (gate_is ns (suc (free_of h + k)) e) (omega arith and omega arith and omega arith and no_more))
        nss f j l)

    pub lines_narrow : (j : ℕ) → j < length nss → length (get_or nss j []) ≤ 3
    unfolding input_needed output_needed gate_needed
    lines_narrow =
        each_line (λ ns. length ns ≤ 3) (λ k m ns e. omega (arith, e.count)) (λ ns e. omega (arith, e.count))
        (λ k m ns e. omega (arith, e.count)) nss f

-- the largest number in the text of a well-formed graph, 2(64 + 1024) + 1
abbrev pub most_stated : ℕ
most_stated = 2177

module _ (g : Graph) (w : WellFormed g) where
  pub counts_small : (i : ℕ) → get_or (counts g) i 0 ≤ most_stated
  counts_small =
      at_most most_stated (counts g)
      (omega (arith, w) and omega (arith, w) and zero-le and omega (arith, w) and omega (arith, w) and no_more)

  pub numbers_small : (s : ℕ → Bool) (j : ℕ) → j < length (lines_of g s) → (i : ℕ) → get_or (get_or (lines_of g s) j []) i 0 ≤ most_stated
  numbers_small s j l i =
      omega (arith, w, lines_small (header_of (counts g)) (lines_of g s) (lines_fit g s w.lawful) refl j l i)
