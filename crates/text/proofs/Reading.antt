-- The steps of reading; it yields a graph if and only if the text states it, and both are within the limits.
-- Assumes nothing.
use mathlib.Core.Path.{◌≡◌, refl, sym, ap, ap₂, ◌∙◌, subst}
use mathlib.Core.Bool.{Bool, true, false, ◌||◌}
use mathlib.Core.List.{List, [], ◌∷◌, ◌++◌}
use mathlib.Core.Logic.{◌↔◌, ◌⊎◌, inl, inr}
use mathlib.Core.Option.{Option, none, some}
use Prim.Native.Nat.{ℕ, ◌+◌, ◌≤◌, ◌<◌}
use native.Mathlib.Omega.{arith}
use borrow.Author.Tests.{le-ltb, eq-eqb}
use lib.Dec.{ltb, eqb}
use lib.ListN.{length, get_or}
use Rattle.std.specs.Prelude.{Ok}
use Rattle.graph.specs.declared.refusal.Refusal.{Refusal}
use Rattle.graph.specs.declared.refusal.Refusal.TheVariants.{BadHeader, BadCount}
use Rattle.graph.specs.Lists.{gather}
use Rattle.graph.specs.Refuse.{first_refusal}
use Rattle.graph.specs.Lent.{Buffers, no_room_for, stored_in, ◌leaving◌}
use Rattle.graph.specs.Graph.{Graph, Lawful, size, most_inputs, most_outputs, most_gates}
use Rattle.graph.proofs.Refuse.{none_silent}
use Rattle.graph.proofs.Tests.{test_off, denial_off, or_iff, ltb_iff, eqb_iff}
use Rattle.text.specs.declared.header.Header.{Header}
use Rattle.text.specs.Number.{Front, front}
use Rattle.text.specs.Line.{line, lines}
use Rattle.text.specs.States.{aag, counts, numbers_of, spelling}
use Rattle.text.specs.Reading.{
  Stated,
  header_of,
  free_of,
  header_line,
  most_bytes,
  header_refusals,
  lines_needed,
  Lines,
  wrong,
  right,
  read_lines,
  graph_read,
  Reading,
  refuses,
  yields,
  read_body,
  reading,
}
use Rattle.text.specs.Refusals.{Headed, read_rank}
use Rattle.text.specs.Calls.{with_room, counts_of, read_effect}
use Rattle.text.proofs.Cases.{refuses_not_yields, yields_injective}
use Rattle.text.proofs.Line.{header_line_iff}
use Rattle.graph.proofs.Singles.{singles_are}
use Rattle.text.proofs.States.{lines_of, text_is, lines_fit, graph_of_lines, swaps_of, body_of, stated_is}
use Rattle.text.proofs.ReadGraph.{swaps_read, lines_of_read, read_lawful, read_counts}
use Rattle.text.proofs.Small.{counts_small, numbers_small}
use Rattle.text.proofs.Spelling.{LinesAre, read_lines_iff}

-- ---- the steps of reading

module _ (t : List ℕ) where
  pub no_first_line : header_line t ≡ none → reading t ≡ refuses BadHeader
  unfolding reading
  no_first_line e = rw (e, reading)

  module _ {ns rest : List ℕ} (e : header_line t ≡ some (front ns rest)) where
    pub first_line_refused : {r : Refusal} → first_refusal (header_refusals t (header_of ns)) ≡ some r → reading t ≡ refuses r
    unfolding reading
    first_line_refused f = rw (e, f, reading)

    pub first_line_passes : first_refusal (header_refusals t (header_of ns)) ≡ none → reading t ≡ read_body (header_of ns) rest
    unfolding reading
    first_line_passes f = rw (e, f, reading)

module _ (h : Header) (t : List ℕ) where
  pub body_wrong : {r : Refusal} → read_lines (lines_needed h) t ≡ wrong r → read_body h t ≡ refuses r
  unfolding read_body
  body_wrong f = rw (f, read_body)

  pub body_right : {nss : List (List ℕ)} → read_lines (lines_needed h) t ≡ right nss → read_body h t ≡ yields (graph_read h nss)
  unfolding read_body
  body_right f = rw (f, read_body)

-- ---- the first line

-- a header that is not refused
pub record WithinLimits (t : List ℕ) (h : Header) : Type 0 where
  pub inputs_few : h.inputs ≤ most_inputs
  pub outputs_few : h.outputs ≤ most_outputs
  pub gates_few : h.gates ≤ most_gates
  pub few_bytes : length t ≤ most_bytes
  pub no_latches : h.latches ≡ 0
  pub adds_up : h.highest ≡ free_of h + h.gates

module _ (t : List ℕ) (h : Header) where
  -- the tests of the three rows
  pub large_iff : (ltb most_inputs h.inputs || ltb most_outputs h.outputs || ltb most_gates h.gates || ltb most_bytes (length t)
      ≡ true)
      ↔ (((most_inputs < h.inputs ⊎ most_outputs < h.outputs) ⊎ most_gates < h.gates) ⊎ most_bytes < length t)
  large_iff = or_iff _ _ (or_iff _ _ (or_iff _ _ (ltb_iff _ _) (ltb_iff _ _)) (ltb_iff _ _)) (ltb_iff _ _)

  pub latches_iff : (eqb h.latches 0 ≡ true) ↔ (h.latches ≡ 0)
  latches_iff = eqb_iff h.latches 0

  pub count_iff : (eqb h.highest (free_of h + h.gates) ≡ true) ↔ (h.highest ≡ free_of h + h.gates)
  count_iff = eqb_iff h.highest (free_of h + h.gates)

  not_over : (m n : ℕ) → ¬ (m < n) → n ≤ m
  not_over m n f = omega arith

  header_within : first_refusal (header_refusals t h) ≡ none → WithinLimits t h
  unfolding header_refusals
  header_within e =
      let s = none_silent read_rank BadCount (header_refusals t h) e in
      let not-large = test_off _ large_iff (s.0 refl) in
      record {
        inputs_few = not_over _ _ (λ l. not-large (inl (inl (inl l))));
        outputs_few = not_over _ _ (λ l. not-large (inl (inl (inr l))));
        gates_few = not_over _ _ (λ l. not-large (inl (inr l)));
        few_bytes = not_over _ _ (λ l. not-large (inr l));
        no_latches = denial_off _ latches_iff (s.1.0 refl);
        adds_up = denial_off _ count_iff (s.1.1.0 refl);
      }

  within_header : WithinLimits t h → first_refusal (header_refusals t h) ≡ none
  unfolding header_refusals first_refusal
  within_header a =
      rw (
        le-ltb most_inputs h.inputs a.inputs_few,
        le-ltb most_outputs h.outputs a.outputs_few,
        le-ltb most_gates h.gates a.gates_few,
        le-ltb most_bytes (length t) a.few_bytes,
        eq-eqb h.latches 0 a.no_latches,
        eq-eqb h.highest (free_of h + h.gates) a.adds_up,
      )

  pub header_within_iff : (first_refusal (header_refusals t h) ≡ none) ↔ WithinLimits t h
  header_within_iff = (header_within, within_header)

-- ---- what is read is stated

module _ {P : Type 0} (g : Graph) where
  header_yields : (o : Option (Front (List ℕ))) (f : Front (List ℕ) → Reading)
      → elim o [ none ↦ refuses BadHeader | some x ↦ f x ] ≡ yields g
      → ((x : Front (List ℕ)) → o ≡ some x → f x ≡ yields g → P) → P
  header_yields none f e k = absurd (refuses_not_yields e)
  header_yields (some x) f e k = k x refl e

  limits_yield : (o : Option Refusal) (y : Reading) → elim o [ some r ↦ refuses r | none ↦ y ] ≡ yields g → (o ≡ none → y ≡ yields g → P)
      → P
  limits_yield none y e k = k refl e
  limits_yield (some r) y e k = absurd (refuses_not_yields e)

  lines_yield : (l : Lines) (f : List (List ℕ) → Graph) → elim l [ wrong r ↦ refuses r | right nss ↦ yields (f nss) ] ≡ yields g
      → ((nss : List (List ℕ)) → l ≡ right nss → f nss ≡ g → P) → P
  lines_yield (wrong r) f e k = absurd (refuses_not_yields e)
  lines_yield (right nss) f e k = k nss refl (yields_injective e)

module _ (t ns rest : List ℕ) (nss : List (List ℕ)) (d : Headed t ns rest) (a : WithinLimits t (header_of ns))
    (p : LinesAre (lines_needed (header_of ns)) rest nss) where
  abbrev graph : Graph
  graph = graph_read (header_of ns) nss

  five_numbers : ns ≡ get_or ns 0 0 ∷ get_or ns 1 0 ∷ get_or ns 2 0 ∷ get_or ns 3 0 ∷ get_or ns 4 0 ∷ []
  unfolding gather
  five_numbers = singles_are ns 5 0 d.shaped.count

  counts_are : counts graph ≡ ns
  counts_are = read_counts (header_of ns) nss p.fits a.adds_up a.no_latches ∙ sym five_numbers

  abbrev swaps : ℕ → Bool
  swaps = swaps_read (header_of ns) nss p.fits

  text_read : t ≡ spelling (numbers_of graph swaps) p.rest
  text_read =
      d.is
      ∙ ap (λ (u : List ℕ). aag ++ u)
      (d.shaped.is
      ∙ ap₂ (λ (ms u : List ℕ). line ms ++ u) (sym counts_are)
      (p.is ∙ ap (λ (mss : List (List ℕ)). lines mss ++ p.rest) (lines_of_read (header_of ns) nss p.fits)))
      ∙ sym (text_is graph swaps p.rest)

  graph_stated : Stated t graph
  graph_stated = record {
    states = record {
      numbers = numbers_of graph swaps;
      spelled = record { rest = p.rest; is = text_read; rest_skipped = p.rest_skipped };
      describes = record { lawful = read_lawful (header_of ns) nss p.fits a.adds_up; swaps = swaps; are = refl };
    };
    is_well_formed = record {
      lawful = read_lawful (header_of ns) nss p.fits a.adds_up;
      inputs_few = rw (ap (λ (ms : List ℕ). get_or ms 1 0) counts_are) a.inputs_few;
      outputs_few = rw (ap (λ (ms : List ℕ). get_or ms 3 0) counts_are) a.outputs_few;
      gates_few = rw (ap (λ (ms : List ℕ). get_or ms 4 0) counts_are) a.gates_few;
    };
    few_bytes = a.few_bytes;
  }

reading_stated : (t : List ℕ) (g : Graph) → reading t ≡ yields g → Stated t g
unfolding reading
reading_stated t g e =
    header_yields g (header_line t)
    (λ x. elim (first_refusal (header_refusals t (header_of x.got)))
    [ some r ↦ refuses r | none ↦ read_body (header_of x.got) x.rest ]) e λ x ex e₁.
    limits_yield g (first_refusal (header_refusals t (header_of x.got))) (read_body (header_of x.got) x.rest) e₁ λ el e₂.
    lines_yield g (read_lines (lines_needed (header_of x.got)) x.rest) (graph_read (header_of x.got)) e₂ λ nss en e₃.
    subst (Stated t) e₃
    (graph_stated t x.got x.rest nss ((header_line_iff t x.got x.rest).0 ex) ((header_within_iff t (header_of x.got)).0 el)
    ((read_lines_iff (lines_needed (header_of x.got)) x.rest nss).0 en))

-- ---- what is stated is read

module _ (t : List ℕ) (g : Graph) (s : Stated t g) where
  abbrev body : List ℕ
  body = body_of s.states

  abbrev stated : List (List ℕ)
  stated = lines_of g (swaps_of s.states)

  abbrev lawful : Lawful g
  lawful = s.states.describes.lawful

  stated_headed : Headed t (counts g) body
  stated_headed = record {
    after_aag = line (counts g) ++ body;
    is = stated_is s.states;
    shaped = record { count = refl; small = λ j l. omega (arith, counts_small g s.is_well_formed j); is = refl };
  }

  stated_within : WithinLimits t (header_of (counts g))
  stated_within = record {
    inputs_few = s.is_well_formed.inputs_few;
    outputs_few = s.is_well_formed.outputs_few;
    gates_few = s.is_well_formed.gates_few;
    few_bytes = s.few_bytes;
    no_latches = refl;
    adds_up = refl;
  }

  stated_spelled : LinesAre (lines_needed (header_of (counts g))) body stated
  stated_spelled = record {
    fits = lines_fit g (swaps_of s.states) lawful;
    small = λ j l i m. omega (arith, numbers_small g s.is_well_formed (swaps_of s.states) j l i);
    rest = s.states.spelled.rest;
    is = refl;
    rest_skipped = s.states.spelled.rest_skipped;
  }

  stated_reading : reading t ≡ yields g
  stated_reading =
      let h = header_of (counts g) in
      first_line_passes t ((header_line_iff t (counts g) body).1 stated_headed) ((header_within_iff t h).1 stated_within)
      ∙ body_right h body ((read_lines_iff (lines_needed h) body stated).1 stated_spelled)
      ∙ ap yields (graph_of_lines g (swaps_of s.states) lawful)

pub reading_iff : (t : List ℕ) (g : Graph) → (reading t ≡ yields g) ↔ Stated t g
reading_iff t g = (reading_stated t g, stated_reading t g)

-- where there is room for the graph that is read, it is stored
pub reads_graph : (t : List ℕ) (b : Buffers) (g : Graph) → reading t ≡ yields g → no_room_for g b ≡ false
    → read_effect t b ≡ Ok (counts_of g) leaving stored_in g b
unfolding read_effect with_room
reads_graph t b g e room = rw (e, read_effect, with_room, room)
