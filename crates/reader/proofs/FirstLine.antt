-- The first line is `aag` and a space before a line of five numbers; what the code's answers on it say of the whole reading.
-- Assumes nothing.
use mathlib.Core.Path.{◌≡◌, refl, sym, ◌∙◌}
use mathlib.Core.Bool.{Bool, true, false, cond, ◌&&◌}
use mathlib.Core.List.{List, [], ◌∷◌}
use mathlib.Core.Option.{none, some}
use Prim.Native.Nat.{ℕ}
use lib.Dec.{eqb}
use lib.ListN.{length, drop}
use Rattle.std.specs.Prelude.{Some}
use Rattle.std.specs.Bool.{then_some}
use Rattle.std.specs.List.{starts_with}
use Rattle.graph.specs.declared.refusal.Refusal.{Refusal}
use Rattle.graph.specs.declared.refusal.Refusal.TheVariants.{BadHeader}
use Rattle.graph.specs.Refuse.{first_refusal}
use Rattle.reader.specs.declared.header.HeaderAt.{HeaderAt}
use Rattle.text.specs.declared.header.Header.{Header}
use Rattle.text.specs.Number.{front}
use Rattle.text.specs.Line.{after, line_of}
use Rattle.text.specs.States.{aag}
use Rattle.text.specs.Reading.{header_line, header_refusals, refuses, read_body, reading}
use Rattle.scanner.specs.Tokens.{byte_step}
use Rattle.reader.specs.FirstLine.{header_numbers, header_step}
use Rattle.reader.specs.Sections.{Limited}
use Rattle.text.proofs.Reading.{no_first_line, first_line_refused, first_line_passes, header_within_iff}

-- ---- the test of a text's front

after_starts : (bs t : List ℕ) → cond (starts_with eqb t bs) (some (drop (length bs) t)) none ≡ after bs t
unfolding after
after_starts [] t = refl
after_starts (b ∷ bs) [] = refl
after_starts (b ∷ bs) (c ∷ t) = by_test (eqb b c) (after_starts bs t)
  where
    by_test : (e : Bool) → cond (starts_with eqb t bs) (some (drop (length bs) t)) none ≡ after bs t
        → cond (e && starts_with eqb t bs) (some (drop (length bs) t)) none ≡ cond e (after bs t) none
    by_test true below = below
    by_test false below = refl

module _ (t : List ℕ) where
  place_or_not : (found : Bool) (n : ℕ) → byte_step t (then_some found n) ≡ cond found (some (drop n t)) none
  unfolding byte_step
  place_or_not true n = refl
  place_or_not false n = refl

  pub front_passed : (bs : List ℕ) → byte_step t (then_some (starts_with eqb t bs) (length bs)) ≡ after bs t
  front_passed bs = place_or_not (starts_with eqb t bs) (length bs) ∙ after_starts bs t

-- ---- what is found

module _ (t : List ℕ) where
  pub header_stops : none ≡ after aag t → none ≡ header_line t
  unfolding header_line
  header_stops e = rw (sym e)

  pub header_goes_on : {u : List ℕ} → some u ≡ after aag t → line_of 5 u ≡ header_line t
  unfolding header_line
  header_goes_on e = rw (sym e)

-- ---- what it says of the whole text

pub header_missing : (t : List ℕ) → none ≡ header_line t → refuses BadHeader ≡ reading t
header_missing t e = sym (no_first_line t (sym e))

-- a first line that is found, and the verdict on it
module _ (t : List ℕ) (s : HeaderAt) (line : header_step t (Some s) ≡ header_line t) where
  first_line_lem : header_line t ≡ some (front (header_numbers s.header) (drop s.next t))
  unfolding header_step
  first_line_lem = sym line

  pub header_refused : {r : Refusal} → some r ≡ first_refusal (header_refusals t s.header) → refuses r ≡ reading t
  header_refused e = sym (first_line_refused t first_line_lem (sym e))

  pub header_fine : none ≡ first_refusal (header_refusals t s.header) → read_body s.header (drop s.next t) ≡ reading t
  header_fine e = sym (first_line_passes t first_line_lem (sym e))

pub header_limited : (t : List ℕ) (h : Header) → none ≡ first_refusal (header_refusals t h) → Limited h
header_limited t h e =
    let w = (header_within_iff t h).0 (sym e) in
    record { inputs_few = w.inputs_few; outputs_few = w.outputs_few; gates_few = w.gates_few; adds_up = w.adds_up }
