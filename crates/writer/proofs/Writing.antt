-- The text that the writer lays: its lines number by number, each with one byte after it; its parts; and what a verdict means.
-- Assumes nothing.
use mathlib.Core.Path.{◌≡◌, refl, sym, ap, ◌∙◌}
use mathlib.Core.Bool.{true, false}
use mathlib.Core.List.{List, [], ◌∷◌, ◌++◌, append_assoc, append-nil}
use mathlib.Core.Option.{none}
use Prim.Native.Nat.{ℕ, suc, ◌+◌, ◌-◌, ◌*◌, ◌≤◌}
use native.Mathlib.Numerals.{add-one}
use native.Mathlib.Omega.{arith}
use borrow.Author.Tests.{ltb-false, not-false}
use lib.ListN.{length, get_or, length-append}
use Rattle.std.specs.Prelude.{Result, Ok, Err}
use Rattle.graph.specs.declared.refusal.Refusal.{Refusal}
use Rattle.graph.specs.declared.refusal.Refusal.TheVariants.{NoRoom}
use Rattle.graph.specs.Lists.{gather, joined}
use Rattle.graph.specs.Graph.{Net, Graph, free, size, sinks, well_formed}
use Rattle.graph.specs.Lent.{short, laid, ◌leaving◌}
use Rattle.graph.specs.Refuse.{first_refusal, verdict_is}
use Rattle.graph.proofs.Gather.{gather_same, gather_front}
use Rattle.graph.proofs.Singles.{flat_map_joined, flat_map_singles}
use Rattle.graph.proofs.Lent.{laid_front}
use Rattle.graph.proofs.Refuse.{none_silent}
use Rattle.text.specs.Number.{decimal}
use Rattle.text.specs.Line.{separator, line, lines}
use Rattle.text.specs.Calls.{write_refusals, write_effect}
use Rattle.text.specs.States.{aag, counts, input_numbers, output_numbers, numbers_of_gate, gate_numbers, sections_of, text_of}
use Rattle.text.specs.Refusals.{write_rank}
use Rattle.text.proofs.States.{text_of_is}

-- ---- a line is its numbers one after another

-- number k of a line, and the byte after it
abbrev pub number_at : List ℕ → ℕ → List ℕ
number_at ns k = decimal (get_or ns k 0) ++ (separator (length ns - 1 - k) ∷ [])

pub line_numbers : (ns : List ℕ) → line ns ≡ gather (number_at ns) (length ns)
unfolding line gather
line_numbers [] = refl
line_numbers (x ∷ xs) =
    let first : suc (length xs) - 1 - 0 ≡ length xs = omega arith in
    let rest = gather_same (λ k. number_at (x ∷ xs) (suc k)) (number_at xs) (length xs)
    (λ k h. let e : suc (length xs) - 1 - suc k ≡ length xs - 1 - k = omega arith in rw e) in
    rw (gather_front (number_at (x ∷ xs)) (length xs), line_numbers xs, rest) (simp (first, append_assoc))

-- ---- the lines after the first, as the code counts them

abbrev pub input_line : ℕ → List ℕ
input_line k = line (2 * (k + 1) ∷ [])

pub input_lines : (net : Net) → lines (input_numbers net) ≡ gather input_line (free net)
unfolding input_numbers
input_lines net =
    flat_map_singles line (λ k. 2 * suc k ∷ []) (free net)
    ∙ gather_same _ _ (free net) (λ k h. rw (add-one k))

abbrev pub output_line : List ℕ → ℕ → List ℕ
output_line os j = line (get_or os j 0 ∷ [])

pub output_lines : (os : List ℕ) → lines (output_numbers os) ≡ gather (output_line os) (length os)
unfolding output_numbers
output_lines os = flat_map_singles line (λ j. get_or os j 0 ∷ []) (length os)

abbrev pub gate_line : Net → ℕ → List ℕ
gate_line net k = line (numbers_of_gate net (suc (free net + k)) false)

-- the gate lines of the text have the larger right side first
abbrev pub gate_part : Net → List ℕ
gate_part net = lines (gate_numbers net (λ k. false))

pub gate_lines : (net : Net) → gate_part net ≡ gather (gate_line net) (size net)
unfolding gate_numbers
gate_lines net = flat_map_singles line (λ k. numbers_of_gate net (suc (free net + k)) false) (size net)

-- ---- the whole text

module _ (g : Graph) where
  pub text_parts : text_of g ≡ (aag ++ line (counts g)) ++ lines (input_numbers g.net) ++ lines (output_numbers (sinks g)) ++ gate_part g.net
  unfolding sections_of joined
  text_parts =
      text_of_is g
      ∙ ap (λ (t : List ℕ). aag ++ (line (counts g) ++ (t ++ []))) (flat_map_joined line (sections_of g (λ k. false)))
      ∙ regroup aag (line (counts g)) (lines (input_numbers g.net)) (lines (output_numbers (sinks g))) (gate_part g.net)
    where
      regroup : (a b c d e : List ℕ) → a ++ (b ++ ((c ++ (d ++ (e ++ []))) ++ [])) ≡ (a ++ b) ++ c ++ d ++ e
      regroup a b c d e = simp (append_assoc, append-nil)

  pub text_size : length (text_of g)
      ≡ 4 + length (line (counts g)) + length (lines (input_numbers g.net)) + length (lines (output_numbers (sinks g))) + length (gate_part g.net)
  text_size = omega (
    arith,
    ap length text_parts,
    length-append (aag ++ line (counts g) ++ lines (input_numbers g.net) ++ lines (output_numbers (sinks g))) (gate_part g.net),
    length-append (aag ++ line (counts g) ++ lines (input_numbers g.net)) (lines (output_numbers (sinks g))),
    length-append (aag ++ line (counts g)) (lines (input_numbers g.net)),
    length-append aag (line (counts g)),
  )

-- ---- what the verdict on a call says of its effect

module _ (g : Graph) (lent : List ℕ) {A : Type 0} {v : Result A Refusal} (judged : verdict_is v ≡ first_refusal (write_refusals g lent)) where
  pub writes_nothing : {r : Refusal} → v ≡ Err r → Err r leaving lent ≡ write_effect g lent
  unfolding write_effect verdict_is
  writes_nothing e = rw (rw e at (sym judged), write_effect)

  module _ {x : A} (e : v ≡ Ok x) where
    none_refused : first_refusal (write_refusals g lent) ≡ none
    unfolding verdict_is
    none_refused = rw e at (sym judged)

    -- no row of the refusals holds, up to the last
    pub fine_means : (well_formed g ≡ true) × (length (text_of g) ≤ length lent)
    unfolding write_refusals short
    fine_means =
        let silent = none_silent write_rank NoRoom (write_refusals g lent) none_refused in
        (not-false (well_formed g) (silent.0 refl), ltb-false (length lent) (length (text_of g)) (silent.1.0 refl))

    pub writes_text : Ok (length (text_of g)) leaving laid 0 (text_of g) lent ≡ write_effect g lent
    unfolding write_effect
    writes_text = rw (none_refused, laid_front (text_of g) lent, write_effect)
