-- The lines after the first, read section by section, give what reading them all at once gives.
-- Assumes nothing.
use mathlib.Core.Path.{◌≡◌, refl, sym, ap, ap₂, ◌∙◌}
use mathlib.Core.Bool.{Bool, true, false, cond}
use mathlib.Core.List.{List, [], ◌∷◌, ◌++◌, append-nil, map, flat_map}
use mathlib.Core.Option.{Option, none, some}
use Prim.Native.Nat.{ℕ, suc}
use lib.ListN.{length, get_or}
use Rattle.graph.specs.declared.refusal.Refusal.{Refusal}
use Rattle.graph.specs.declared.refusal.Refusal.TheVariants.{BadLine}
use Rattle.graph.specs.Lists.{joined, parted}
use Rattle.graph.specs.Graph.{graph_of}
use Rattle.text.specs.declared.header.Header.{Header}
use Rattle.text.specs.Number.{Front}
use Rattle.text.specs.Line.{line_of}
use Rattle.text.specs.States.{skipped}
use Rattle.text.specs.Reading.{
  Needed,
  inputs_needed,
  outputs_needed,
  gates_needed,
  sections,
  lines_needed,
  Lines,
  right,
  with_line,
  read_lines,
  gate_words,
  graph_of_sections,
  graph_read,
  refuses,
  yields,
  read_body,
}
use Rattle.reader.specs.Sections.{Words, words, with_words, read_words, no_words, output_words}
use Rattle.graph.proofs.Singles.{parted_joined}
use Rattle.text.proofs.Reading.{body_wrong, body_right}
use Rattle.reader.proofs.Sections.{by_rule, by_line}

-- ---- one section

-- lines before others
with_lines : List (List ℕ) → Lines → Lines
with_lines nss (Lines.wrong r) = Lines.wrong r
with_lines nss (right mss) = right (nss ++ mss)

with_no_lines : (x : Lines) → x ≡ with_lines [] x
unfolding with_lines
with_no_lines (Lines.wrong r) = refl
with_no_lines (right nss) = refl

with_line_lem : (ns : List ℕ) (nss : List (List ℕ)) (x : Lines) → with_line ns (with_lines nss x) ≡ with_lines (ns ∷ nss) x
unfolding with_line with_lines
with_line_lem ns nss (Lines.wrong r) = refl
with_line_lem ns nss (right mss) = refl

-- the lines of a section: their words, and that the others follow
record Passed (f : List ℕ → List ℕ) (needs : List Needed) (t ws u : List ℕ) : Type 0 where
  lines : List (List ℕ)
  count : length lines ≡ length needs
  words_are : flat_map f lines ≡ ws
  go_on : (later : List Needed) → read_lines (needs ++ later) t ≡ with_lines lines (read_lines later u)

-- what the section's words say of all the lines
Tells : (List ℕ → List ℕ) → List Needed → List ℕ → Words → Type 0
Tells f needs t (Words.wrong r) = (later : List Needed) → read_lines (needs ++ later) t ≡ Lines.wrong r
Tells f needs t (words ws u) = Passed f needs t ws u

module _ (f : List ℕ → List ℕ) where
  tells : (needs : List Needed) (t : List ℕ) → Tells f needs t (read_words f needs t)
  unfolding read_words read_lines Tells flat_map with_line with_words
  tells [] t = record { lines = []; count = refl; words_are = refl; go_on = λ later. with_no_lines (read_lines later t) }
  tells (x ∷ xs) t = go (line_of x.numbers t) refl (tells xs)
    where
      more : (y : Front (List ℕ))
          → ((later : List Needed) → read_lines (x ∷ xs ++ later) t ≡ with_line y.got (read_lines (xs ++ later) y.rest))
          → (w : Words) → Tells f xs y.rest w → Tells f (x ∷ xs) t (with_words (f y.got) w)
      more y e (Words.wrong r) s = λ later. e later ∙ ap (with_line y.got) (s later)
      more y e (words ws u) s = record {
        lines = y.got ∷ s.lines;
        count = ap suc s.count;
        words_are = ap (λ (vs : List ℕ). f y.got ++ vs) s.words_are;
        go_on = λ later. e later ∙ ap (with_line y.got) (s.go_on later) ∙ with_line_lem y.got s.lines (read_lines later u);
      }

      ruled : (y : Front (List ℕ)) → line_of x.numbers t ≡ some y → (b : Bool) → x.rule y.got ≡ b
          → Tells f xs y.rest (read_words f xs y.rest) → Tells f (x ∷ xs) t (by_rule f xs y b)
      ruled y q true e s = more y (λ later. rw (q, e, read_lines)) (read_words f xs y.rest) s
      ruled y q false e s = λ later. rw (q, e, read_lines)

      go : (o : Option (Front (List ℕ))) → line_of x.numbers t ≡ o → ((u : List ℕ) → Tells f xs u (read_words f xs u))
          → Tells f (x ∷ xs) t (by_line f x xs o)
      go none q below = λ later. rw (q, read_lines)
      go (some y) q below = ruled y q (x.rule y.got) refl (below y.rest)

-- ---- the three sections and the rest

-- the numbers of output lines are their words
outputs_are : (nss : List (List ℕ)) → map (λ ns. get_or ns 0 0) nss ≡ flat_map output_words nss
unfolding flat_map
outputs_are [] = refl
outputs_are (ns ∷ nss) = ap (λ (xs : List ℕ). get_or ns 0 0 ∷ xs) (outputs_are nss)

module _ (h : Header) (xs ys zs : List (List ℕ)) (i : length xs ≡ length (inputs_needed h)) (o : length ys ≡ length (outputs_needed h))
    (a : length zs ≡ length (gates_needed h)) where
  same_lengths : map length (sections h) ≡ map length (xs ∷ ys ∷ zs ∷ [])
  unfolding sections
  same_lengths =
      ap (λ (n : ℕ). n ∷ length (outputs_needed h) ∷ length (gates_needed h) ∷ []) (sym i)
      ∙ ap₂ (λ (m n : ℕ). length xs ∷ m ∷ n ∷ []) (sym o) (sym a)

  graph_of_sections_lem : graph_read h (xs ++ (ys ++ (zs ++ []))) ≡ graph_of h.inputs (flat_map gate_words zs) (flat_map output_words ys)
  unfolding graph_read graph_of_sections joined
  graph_of_sections_lem =
      ap (λ (ns : List ℕ). graph_of_sections h (parted ns (joined (xs ∷ ys ∷ zs ∷ [])))) same_lengths
      ∙ ap (graph_of_sections h) (parted_joined (xs ∷ ys ∷ zs ∷ []))
      ∙ ap (graph_of h.inputs (flat_map gate_words zs)) (outputs_are ys)

module _ (h : Header) (t : List ℕ) where
  lines_are : read_lines (lines_needed h) t ≡ read_lines (inputs_needed h ++ (outputs_needed h ++ gates_needed h)) t
  unfolding lines_needed joined sections
  lines_are = ap (λ (needs : List Needed). read_lines (inputs_needed h ++ (outputs_needed h ++ needs)) t) (append-nil (gates_needed h))

  pub inputs_wrong : {r : Refusal} → Words.wrong r ≡ read_words no_words (inputs_needed h) t → refuses r ≡ read_body h t
  unfolding Tells
  inputs_wrong e =
      sym (body_wrong h t (lines_are ∙ (rw (sym e) at (tells no_words (inputs_needed h) t)) (outputs_needed h ++ gates_needed h)))

  module _ {vs u : List ℕ} (inputs : words vs u ≡ read_words no_words (inputs_needed h) t) where
    after_inputs : Passed no_words (inputs_needed h) t vs u
    unfolding Tells
    after_inputs = rw (sym inputs) at (tells no_words (inputs_needed h) t)

    pub outputs_wrong : {r : Refusal} → Words.wrong r ≡ read_words output_words (outputs_needed h) u → refuses r ≡ read_body h t
    unfolding Tells with_lines
    outputs_wrong e =
        sym
        (body_wrong h t
        (lines_are
        ∙ after_inputs.go_on (outputs_needed h ++ gates_needed h)
        ∙ ap (with_lines after_inputs.lines) ((rw (sym e) at (tells output_words (outputs_needed h) u)) (gates_needed h))))

    module _ {os v : List ℕ} (outputs : words os v ≡ read_words output_words (outputs_needed h) u) where
      after_outputs : Passed output_words (outputs_needed h) u os v
      unfolding Tells
      after_outputs = rw (sym outputs) at (tells output_words (outputs_needed h) u)

      -- the lines of both sections before others
      abbrev with_two : Lines → Lines
      with_two x = with_lines after_inputs.lines (with_lines after_outputs.lines x)

      lines_of_two : read_lines (lines_needed h) t ≡ with_two (read_lines (gates_needed h ++ []) v)
      lines_of_two =
          lines_are
          ∙ after_inputs.go_on (outputs_needed h ++ gates_needed h)
          ∙ ap (with_lines after_inputs.lines) (after_outputs.go_on (gates_needed h))
          ∙ ap (λ (needs : List Needed). with_two (read_lines needs v)) (sym (append-nil (gates_needed h)))

      pub gates_wrong : {r : Refusal} → Words.wrong r ≡ read_words gate_words (gates_needed h) v → refuses r ≡ read_body h t
      unfolding Tells with_lines
      gates_wrong e =
          sym (body_wrong h t (lines_of_two ∙ ap with_two ((rw (sym e) at (tells gate_words (gates_needed h) v)) [])))

      module _ {gs w : List ℕ} (gates : words gs w ≡ read_words gate_words (gates_needed h) v) where
        after_gates : Passed gate_words (gates_needed h) v gs w
        unfolding Tells
        after_gates = rw (sym gates) at (tells gate_words (gates_needed h) v)

        lines_of_three : (b : Bool) → b ≡ skipped w
            → read_lines (lines_needed h) t ≡ with_two (with_lines after_gates.lines (cond b (right []) (Lines.wrong BadLine)))
        unfolding read_lines
        lines_of_three b e = lines_of_two ∙ ap with_two (after_gates.go_on [] ∙ rw (sym e))

        pub rest_wrong : false ≡ skipped w → refuses BadLine ≡ read_body h t
        unfolding with_lines
        rest_wrong e = sym (body_wrong h t (lines_of_three false e))

        pub all_right : true ≡ skipped w → yields (graph_of h.inputs gs os) ≡ read_body h t
        unfolding with_lines
        all_right e =
            sym
            (body_right h t (lines_of_three true e)
            ∙ ap yields
            (graph_of_sections_lem h after_inputs.lines after_outputs.lines after_gates.lines
            after_inputs.count after_outputs.count after_gates.count
            ∙ ap₂ (graph_of h.inputs) after_gates.words_are after_outputs.words_are))
