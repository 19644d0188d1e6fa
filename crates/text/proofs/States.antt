-- The lines of a graph: they fit what is needed, give the graph back, and state no other; the text that is written for a graph states it.
-- Assumes nothing.
use mathlib.Core.Path.{◌≡◌, refl, sym, ap, ap₂, ◌∙◌, subst}
use mathlib.Core.Bool.{Bool, true, false, cond, ◌&&◌}
use mathlib.Core.List.{List, [], ◌∷◌, ◌++◌, append_assoc, append_cancel_left, map, flat_map}
use Prim.Native.Nat.{ℕ, zero, suc, ◌+◌, ◌*◌, ◌≤◌, ◌<◌}
use native.Mathlib.Nat.{add-zero}
use native.Mathlib.Omega.{arith}
use borrow.Author.Tests.{ltb-true, le-leb, lt-ltb, eq-eqb}
use lib.Dec.{ltb, eqb}
use lib.ListN.{length, get_or, length-append, length-map, get_or-map}
use Rattle.graph.specs.Lists.{joined}
use Rattle.graph.specs.Graph.{Net, Graph, graph_of, free, size, first, second, IsGate, Lawful}
use Rattle.graph.proofs.Lists.{and_left, and_right, and_both}
use Rattle.graph.proofs.Graph.{first_at, second_at}
use Rattle.graph.proofs.Gather.{gather_same, gather_is}
use Rattle.graph.proofs.Singles.{singles, get_d_singles, length_singles, singles_are, flat_map_singles}
use Rattle.text.specs.Line.{line, lines}
use Rattle.text.specs.States.{
  aag,
  skipped,
  spelling,
  counts,
  input_numbers,
  output_numbers,
  numbers_of_gate,
  gate_numbers,
  sections_of,
  numbers_of,
  States,
  text_of,
}
use Rattle.text.specs.Reading.{
  header_of,
  input_needed,
  output_needed,
  gate_needed,
  sections,
  lines_needed,
  gate_words,
  graph_of_sections,
  graph_read,
}
use Rattle.text.proofs.Line.{lines_decode}
use Rattle.text.proofs.Fits.{Kept, Fits, fits_decode, section_fits, AllFit, no_section, section, all_fit_joined, joined_parts}

-- the numbers of the lines after the first
abbrev pub lines_of : Graph → (ℕ → Bool) → List (List ℕ)
lines_of g s = joined (sections_of g s)

pub lines_count : (g : Graph) (s : ℕ → Bool) → length (lines_of g s) ≡ g.net.inputs + length g.outputs + size g.net
unfolding joined sections_of input_numbers output_numbers gate_numbers
lines_count g s =
    simp (length-append, length_singles)
    (omega arith)

-- the first line's bytes, and then those of the others
pub text_is : (g : Graph) (s : ℕ → Bool) (rest : List ℕ)
    → spelling (numbers_of g s) rest ≡ aag ++ (line (counts g) ++ (lines (lines_of g s) ++ rest))
unfolding spelling numbers_of flat_map
text_is g s rest = ap (λ (t : List ℕ). aag ++ t) (append_assoc (line (counts g)) (lines (lines_of g s)) rest)

-- the writer prints the larger right side first
abbrev pub unswapped : ℕ → Bool
unswapped k = false

pub text_of_is : (g : Graph) → text_of g ≡ aag ++ (line (counts g) ++ (lines (lines_of g unswapped) ++ []))
unfolding text_of
text_of_is g = text_is g unswapped []

-- ---- they fit what is needed

-- both right sides of a gate line are below its left side
pub gate_sides : (ns : List ℕ) (v : ℕ) → Kept (gate_needed v) ns → (get_or ns 1 0 < 2 * v) × (get_or ns 2 0 < 2 * v)
unfolding gate_needed
gate_sides ns v e =
    let r = and_right (eqb (get_or ns 0 0) (2 * v)) _ e.rule in
    (ltb-true _ _ (and_left (ltb (get_or ns 1 0) (2 * v)) _ r), ltb-true _ _ (and_right (ltb (get_or ns 1 0) (2 * v)) _ r))

gate_kept : (net : Net) (v : ℕ) (s : Bool) → second net v ≤ first net v → first net v < 2 * v → Kept (gate_needed v) (numbers_of_gate net v s)
unfolding gate_needed
gate_kept net v s o b = record { count = refl; rule = and_both _ _ (eq-eqb (2 * v) (2 * v) refl) (sides s) }
  where
    l : second net v < 2 * v
    l = omega arith

    sides : (s : Bool) → ltb (cond s (second net v) (first net v)) (2 * v) && ltb (cond s (first net v) (second net v)) (2 * v) ≡ true
    sides true = and_both _ _ (lt-ltb _ _ l) (lt-ltb _ _ b)
    sides false = and_both _ _ (lt-ltb _ _ b) (lt-ltb _ _ l)

module _ (g : Graph) (s : ℕ → Bool) (w : Lawful g) where
  is_gate : (k : ℕ) → k < size g.net → IsGate g.net (suc (free g.net + k))
  is_gate k l = record { above = omega arith; within = omega arith }

  sections_fit : AllFit (sections (header_of (counts g))) (sections_of g s)
  unfolding sections sections_of input_numbers output_numbers gate_numbers input_needed output_needed
  sections_fit =
      section (section_fits _ g.net.inputs _ (λ k l. record { count = refl; rule = eq-eqb (2 * suc k) (2 * suc k) refl }))
      (section (section_fits _ (length g.outputs) _ (λ j l. record { count = refl; rule = le-leb _ _ (w.sinks_within j l) }))
      (section (section_fits _ (size g.net) _ (λ k l. gate_kept g.net _ (s k) (w.ordered _ (is_gate k l))
      (w.below _ (is_gate k l)))) no_section))

  pub lines_fit : Fits (lines_needed (header_of (counts g))) (lines_of g s)
  unfolding lines_needed
  lines_fit = all_fit_joined sections_fit

-- ---- they give the graph back

-- the words of gate k are its literals
module _ (net : Net) (k : ℕ) where
  pub words_at : (i : ℕ) → i < 2
      → get_or net.gates (2 * k + i) 0 ≡ get_or (first net (suc (free net + k)) ∷ second net (suc (free net + k)) ∷ []) i 0
  words_at zero h = rw (add-zero (2 * k)) (sym (first_at net k))
  words_at (suc zero) h = sym (second_at net k)
  words_at (suc (suc i)) h = absurd (omega arith)

-- either order of the right sides gives the gate's words
gate_words_lem : (net : Net) (v : ℕ) (s : Bool) → second net v ≤ first net v
    → gate_words (numbers_of_gate net v s) ≡ first net v ∷ second net v ∷ []
unfolding gate_words
gate_words_lem net v true o = ap₂ (λ (x y : ℕ). x ∷ y ∷ []) (omega arith) (omega arith)
gate_words_lem net v false o = ap₂ (λ (x y : ℕ). x ∷ y ∷ []) (omega arith) (omega arith)

module _ (g : Graph) (s : ℕ → Bool) (w : Lawful g) where
  gates_back : flat_map gate_words (gate_numbers g.net s) ≡ g.net.gates
  unfolding gate_numbers
  gates_back =
      flat_map_singles gate_words (λ k. numbers_of_gate g.net (suc (free g.net + k)) (s k)) (size g.net)
      ∙ gather_same _ (λ k. first g.net (suc (free g.net + k)) ∷ second g.net (suc (free g.net + k)) ∷ []) (size g.net)
      (λ k l. gate_words_lem g.net (suc (free g.net + k)) (s k) (w.ordered _ (is_gate g s w k l)))
      ∙ sym (gather_is 2 _ (λ k. refl) g.net.gates (size g.net) 0 (omega (arith, w.even)) (λ k i l. words_at g.net k i))

  outputs_back : map (λ ns. get_or ns 0 0) (output_numbers g.outputs) ≡ g.outputs
  unfolding output_numbers
  outputs_back =
      let nss = singles (λ j. get_or g.outputs j 0 ∷ []) (length g.outputs) in
      singles_are (map (λ ns. get_or ns 0 0) nss) (length g.outputs) 0
      (length-map nss (λ ns. get_or ns 0 0) ∙ length_singles _ (length g.outputs))
      ∙ gather_same _ _ (length g.outputs) (λ j l. ap (λ (x : ℕ). x ∷ [])
      (get_or-map (λ ns. get_or ns 0 0) nss j [] ∙ ap (λ (ns : List ℕ). get_or ns 0 0) (get_d_singles _ (length g.outputs) j [] l)))
      ∙ sym (singles_are g.outputs (length g.outputs) 0 refl)

  pub graph_of_lines : graph_read (header_of (counts g)) (lines_of g s) ≡ g
  unfolding graph_read graph_of_sections sections_of
  graph_of_lines =
      ap (graph_of_sections (header_of (counts g))) (joined_parts (sections_fit g s w))
      ∙ ap₂ (graph_of g.net.inputs) gates_back outputs_back

-- ---- what a text states

module _ {t : List ℕ} {g : Graph} (a : States t g) where
  abbrev pub swaps_of : ℕ → Bool
  swaps_of = a.describes.swaps

  abbrev pub body_of : List ℕ
  body_of = lines (lines_of g swaps_of) ++ a.spelled.rest

  pub stated_is : t ≡ aag ++ (line (counts g) ++ body_of)
  stated_is =
      a.spelled.is
      ∙ ap (λ (nss : List (List ℕ)). spelling nss a.spelled.rest) a.describes.are
      ∙ text_is g swaps_of a.spelled.rest

-- the first line gives the counts, and these tell how the later lines are parted
pub states_one : (t : List ℕ) (g g' : Graph) → States t g → States t g' → g ≡ g'
states_one t g g' a b =
    let law = a.describes.lawful in
    let law' = b.describes.lawful in
    let (same, later) =
    lines_decode (counts g) (counts g') (body_of a) (body_of b) refl
    (append_cancel_left aag (line (counts g) ++ body_of a) (line (counts g') ++ body_of b) (sym (stated_is a) ∙ stated_is b)) in
    let fit = subst (λ (ns : List ℕ). Fits (lines_needed (header_of ns)) (lines_of g (swaps_of a))) same (lines_fit g (swaps_of a) law) in
    let same_lines =
    (fits_decode (lines_needed (header_of (counts g'))) (lines_of g (swaps_of a)) (lines_of g' (swaps_of b)) a.spelled.rest b.spelled.rest
    fit (lines_fit g' (swaps_of b) law') later).0 in
    sym (graph_of_lines g (swaps_of a) law)
    ∙ ap₂ (λ (ns : List ℕ) (nss : List (List ℕ)). graph_read (header_of ns) nss) same same_lines
    ∙ graph_of_lines g' (swaps_of b) law'

pub text_of_states : (g : Graph) → Lawful g → States (text_of g) g
unfolding text_of skipped
text_of_states g w = record {
  numbers = numbers_of g (λ k. false);
  spelled = record { rest = []; is = refl; rest_skipped = refl };
  describes = record { lawful = w; swaps = λ k. false; are = refl };
}
