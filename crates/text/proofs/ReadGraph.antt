-- Lines that fit a header are the lines of a lawful graph: the one that is read from them.
-- Assumes nothing.
use mathlib.Core.Path.{◌≡◌, refl, sym, ap, ap₂, ◌∙◌, subst}
use mathlib.Core.Bool.{Bool, true, false}
use mathlib.Core.List.{List, [], ◌∷◌, map, flat_map}
use Prim.Native.Nat.{ℕ, suc, ◌+◌, ◌-◌, ◌*◌, ◌≤◌, ◌<◌, max, min}
use native.Mathlib.Omega.{arith}
use borrow.Author.Tests.{ltb-true, ltb-false}
use lib.Dec.{ltb}
use lib.ListN.{length, get_or, length-map, get_or-map}
use Rattle.graph.specs.Lists.{gather, joined}
use Rattle.graph.specs.Graph.{Graph, graph_of, size, first, second, IsGate, Lawful}
use Rattle.graph.proofs.Gather.{gather_same, length_gather, get_d_gather}
use Rattle.graph.proofs.Singles.{singles, length_singles, get_d_singles, singles_are, flat_map_singles}
use Rattle.text.specs.declared.header.Header.{Header}
use Rattle.text.specs.States.{counts, input_numbers, output_numbers, numbers_of_gate, gate_numbers, sections_of}
use Rattle.text.specs.Reading.{
  free_of,
  input_needed,
  output_needed,
  gate_needed,
  inputs_needed,
  outputs_needed,
  gates_needed,
  sections,
  inputs_part,
  outputs_part,
  gates_part,
  lines_needed,
  gate_words,
  graph_of_sections,
  graph_read,
}
use Rattle.text.proofs.Fits.{Kept, Fits, section_count, section_each, AllFit, no_section, section, parts_of, parts_fit, parts_joined}
use Rattle.text.proofs.States.{lines_of, words_at, gate_sides}
use Rattle.text.proofs.OneLine.{input_kept, output_kept, output_is, gate_is}

-- ---- the sections of a header

record InSections (h : Header) (parts : List (List (List ℕ))) : Type 0 where
  are : parts ≡ inputs_part parts ∷ outputs_part parts ∷ gates_part parts ∷ []
  inputs : Fits (inputs_needed h) (inputs_part parts)
  outputs : Fits (outputs_needed h) (outputs_part parts)
  gates : Fits (gates_needed h) (gates_part parts)

in_sections : (h : Header) (parts : List (List (List ℕ))) → AllFit (sections h) parts → InSections h parts
unfolding sections
in_sections h parts (section i (section o (section a no_section))) = record { are = refl; inputs = i; outputs = o; gates = a }

-- ---- the graph that is read from them

module _ (h : Header) (parts : List (List (List ℕ))) (c : InSections h parts) where
  abbrev gate_at : ℕ → List ℕ
  gate_at k = get_or (gates_part parts) k []

  abbrev output_at : ℕ → ℕ
  output_at j = get_or (get_or (outputs_part parts) j []) 0 0

  abbrev read : Graph
  read = graph_of h.inputs (gather (λ k. gate_words (gate_at k)) h.gates) (singles output_at h.outputs)

  input : (k : ℕ) → k < h.inputs → Kept (input_needed (suc k)) (get_or (inputs_part parts) k [])
  input = section_each (λ k. input_needed (suc k)) h.inputs (inputs_part parts) c.inputs

  output : (j : ℕ) → j < h.outputs → Kept (output_needed h) (get_or (outputs_part parts) j [])
  output = section_each (λ j. output_needed h) h.outputs (outputs_part parts) c.outputs

  gate : (k : ℕ) → k < h.gates → Kept (gate_needed (suc (free_of h + k))) (gate_at k)
  gate = section_each (λ k. gate_needed (suc (free_of h + k))) h.gates (gates_part parts) c.gates

  input_count : length (inputs_part parts) ≡ h.inputs
  input_count = section_count (λ k. input_needed (suc k)) h.inputs (inputs_part parts) c.inputs

  output_count : length (outputs_part parts) ≡ h.outputs
  output_count = section_count (λ j. output_needed h) h.outputs (outputs_part parts) c.outputs

  gate_count : length (gates_part parts) ≡ h.gates
  gate_count = section_count (λ k. gate_needed (suc (free_of h + k))) h.gates (gates_part parts) c.gates

  gates_read : flat_map gate_words (gates_part parts) ≡ gather (λ k. gate_words (gate_at k)) h.gates
  gates_read =
      ap (flat_map gate_words) (singles_are (gates_part parts) h.gates [] gate_count) ∙ flat_map_singles gate_words gate_at h.gates

  outputs_read : map (λ ns. get_or ns 0 0) (outputs_part parts) ≡ singles output_at h.outputs
  outputs_read =
      singles_are (map (λ ns. get_or ns 0 0) (outputs_part parts)) h.outputs 0
      (length-map (outputs_part parts) (λ ns. get_or ns 0 0) ∙ output_count)
      ∙ gather_same _ _ h.outputs (λ j l. ap (λ (x : ℕ). x ∷ []) (get_or-map (λ ns. get_or ns 0 0) (outputs_part parts) j []))

  graph_is : graph_of_sections h parts ≡ read
  unfolding graph_of_sections
  graph_is = ap₂ (graph_of h.inputs) gates_read outputs_read

  -- the smaller right side stands first
  abbrev swap : ℕ → Bool
  swap k = ltb (get_or (gate_at k) 1 0) (get_or (gate_at k) 2 0)

  words_count : length read.net.gates ≡ 2 * h.gates
  unfolding gate_words
  words_count = length_gather 2 (λ k. gate_words (gate_at k)) (λ k. refl) h.gates

  size_read : size read.net ≡ h.gates
  size_read = omega (arith, words_count)

  outputs_count : length read.outputs ≡ h.outputs
  outputs_count = length_singles output_at h.outputs

  module _ (k : ℕ) (l : k < h.gates) where
    first_read : first read.net (suc (free_of h + k)) ≡ max (get_or (gate_at k) 1 0) (get_or (gate_at k) 2 0)
    unfolding gate_words
    first_read =
        sym (words_at read.net k 0 (omega arith))
        ∙ get_d_gather 2 (λ k. gate_words (gate_at k)) (λ k. refl) h.gates k 0 0 l (omega arith)

    second_read : second read.net (suc (free_of h + k)) ≡ min (get_or (gate_at k) 1 0) (get_or (gate_at k) 2 0)
    unfolding gate_words
    second_read =
        sym (words_at read.net k 1 (omega arith))
        ∙ get_d_gather 2 (λ k. gate_words (gate_at k)) (λ k. refl) h.gates k 1 0 l (omega arith)

    ordered_read : second read.net (suc (free_of h + k)) ≤ first read.net (suc (free_of h + k))
    ordered_read = rw (first_read, second_read) (omega arith)

    below_read : first read.net (suc (free_of h + k)) < 2 * suc (free_of h + k)
    below_read = rw first_read (omega (arith, gate_sides (gate_at k) (suc (free_of h + k)) (gate k l)))

    gate_read : gate_at k ≡ numbers_of_gate read.net (suc (free_of h + k)) (swap k)
    gate_read = gate_is (gate_at k) (suc (free_of h + k)) (gate k l) ∙ go (swap k) refl
      where
        x : ℕ
        x = get_or (gate_at k) 1 0

        y : ℕ
        y = get_or (gate_at k) 2 0

        go : (s : Bool) → ltb x y ≡ s → 2 * suc (free_of h + k) ∷ x ∷ y ∷ [] ≡ numbers_of_gate read.net (suc (free_of h + k)) s
        go true e = ap₂ (λ (u w : ℕ). 2 * suc (free_of h + k) ∷ u ∷ w ∷ [])
            (omega (arith, ltb-true x y e, second_read)) (omega (arith, ltb-true x y e, first_read))
        go false e = ap₂ (λ (u w : ℕ). 2 * suc (free_of h + k) ∷ u ∷ w ∷ [])
            (omega (arith, ltb-false x y e, first_read)) (omega (arith, ltb-false x y e, second_read))

  each_gate : (P : ℕ → Type 0) → ((k : ℕ) → k < h.gates → P (suc (free_of h + k))) → (v : ℕ) → IsGate read.net v → P v
  each_gate P p v i =
      let e : suc (free_of h + (v - suc (free_of h))) ≡ v = omega arith in subst P e (p (v - suc (free_of h)) (omega (arith, size_read)))

  -- ---- its lines are these

  inputs_are : inputs_part parts ≡ input_numbers read.net
  unfolding input_numbers
  inputs_are =
      singles_are (inputs_part parts) h.inputs [] input_count
      ∙ gather_same _ _ h.inputs (λ k l. ap (λ (ns : List ℕ). ns ∷ []) (input_kept (get_or (inputs_part parts) k []) (suc k) (input k l)))

  outputs_are : outputs_part parts ≡ output_numbers read.outputs
  unfolding output_numbers
  outputs_are =
      singles_are (outputs_part parts) (length read.outputs) [] (output_count ∙ sym outputs_count)
      ∙ gather_same _ _ (length read.outputs) (λ j l.
      let m : j < h.outputs = omega (arith, outputs_count) in
      ap (λ (ns : List ℕ). ns ∷ [])
      (output_is (get_or (outputs_part parts) j []) h (output j m) ∙ ap (λ (x : ℕ). x ∷ []) (sym (get_d_singles output_at h.outputs j 0 m))))

  gates_are : gates_part parts ≡ gate_numbers read.net swap
  unfolding gate_numbers
  gates_are =
      singles_are (gates_part parts) (size read.net) [] (gate_count ∙ sym size_read)
      ∙ gather_same _ _ (size read.net) (λ k l. ap (λ (ns : List ℕ). ns ∷ []) (gate_read k (omega (arith, size_read))))

  parts_read : parts ≡ sections_of read swap
  unfolding sections_of
  parts_read =
      c.are
      ∙ ap (λ (is : List (List ℕ)). is ∷ outputs_part parts ∷ gates_part parts ∷ []) inputs_are
      ∙ ap₂ (λ (os gs : List (List ℕ)). input_numbers read.net ∷ os ∷ gs ∷ []) outputs_are gates_are

  module _ (q : h.highest ≡ free_of h + h.gates) where
    lawful_read : Lawful read
    lawful_read = record {
      even = omega (arith, words_count);
      ordered = each_gate (λ v. second read.net v ≤ first read.net v) ordered_read;
      below = each_gate (λ v. first read.net v < 2 * v) below_read;
      sinks_within = λ j l.
          let m : j < h.outputs = omega (arith, outputs_count) in
          rw (get_d_singles output_at h.outputs j 0 m)
          (omega (arith, output_kept (get_or (outputs_part parts) j []) h (output j m), size_read));
    }

-- what is read from lines that fit, where the header's counts add up and there are no latches
module _ (h : Header) (nss : List (List ℕ)) (f : Fits (lines_needed h) nss) where
  abbrev parts : List (List (List ℕ))
  parts = parts_of (sections h) nss

  sections_read : InSections h parts
  unfolding lines_needed
  sections_read = in_sections h parts (parts_fit (sections h) nss f)

  read_is : graph_read h nss ≡ read h parts sections_read
  unfolding graph_read
  read_is = graph_is h parts sections_read

  pub swaps_read : ℕ → Bool
  swaps_read = swap h parts sections_read

  pub lines_of_read : nss ≡ lines_of (graph_read h nss) swaps_read
  unfolding lines_needed swaps_read
  lines_of_read = rw read_is (sym (parts_joined (sections h) nss f) ∙ ap joined (parts_read h parts sections_read))

  pub read_lawful : h.highest ≡ free_of h + h.gates → Lawful (graph_read h nss)
  read_lawful q = rw read_is (lawful_read h parts sections_read q)

  pub read_counts : h.highest ≡ free_of h + h.gates → h.latches ≡ 0
      → counts (graph_read h nss) ≡ h.highest ∷ h.inputs ∷ h.latches ∷ h.outputs ∷ h.gates ∷ []
  read_counts q z = rw (read_is, size_read h parts sections_read, outputs_count h parts sections_read, q, z)
