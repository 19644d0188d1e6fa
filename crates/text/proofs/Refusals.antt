-- Reading and writing give the refusal of lowest rank among those that hold.
-- Assumes nothing.
use mathlib.Core.Path.{◌≡◌, refl, sym, ap, subst, ◌∙◌}
use mathlib.Core.Bool.{Bool, true, false, cond}
use mathlib.Core.List.{List}
use mathlib.Core.Logic.{inl, inr, ⊎_elim}
use mathlib.Core.Option.{Option, none, some, some-injective, none-ne-some, or_else}
use Prim.Native.Nat.{ℕ, ◌≤◌, ◌<◌, ◌+◌}
use native.Mathlib.Omega.{arith}
use borrow.Author.Tests.{leb-true}
use lib.Dec.{leb}
use lib.ListN.{length}
use Rattle.graph.specs.declared.refusal.Refusal.{Refusal}
use Rattle.graph.specs.declared.refusal.Refusal.TheVariants.{BadCount, NoRoom}
use Rattle.graph.specs.Refuse.{Row, first_refusal, number_of, Lowest, Answers}
use Rattle.graph.specs.Lent.{Buffers, no_room_for, RoomFor}
use Rattle.graph.specs.Graph.{Graph, most_inputs, most_outputs, most_gates}
use Rattle.graph.proofs.Graph.{well_formed_iff}
use Rattle.graph.proofs.Refuse.{
  number_of_injective,
  number_of_not_zero,
  shown,
  Settles,
  gives,
  clears,
  settles_answers,
  settles_then,
  ascends,
  Silent,
  Decides,
  first_settles,
  first_none,
}
use Rattle.graph.proofs.Tests.{denial_on, denial_off, test_off}
use Rattle.graph.proofs.Lent.{short_iff, no_room_iff}
use Rattle.text.specs.declared.header.Header.{Header}
use Rattle.text.specs.Number.{Front, front}
use Rattle.text.specs.States.{States, text_of}
use Rattle.text.specs.Reading.{
  header_of,
  free_of,
  header_line,
  header_refusals,
  Needed,
  lines_needed,
  Lines,
  wrong,
  right,
  read_lines,
  refuses,
  yields,
  graph_read,
  read_body,
  reading,
}
use Rattle.text.specs.Refusals.{Headed, FirstWrong, read_rank, ReadGiven, write_rank, WriteGiven}
use Rattle.text.specs.Calls.{with_room, read_effect, read_outcome, write_refusals, write_effect, written_outcome}
use Rattle.text.proofs.Line.{header_line_iff}
use Rattle.text.proofs.States.{states_one}
use Rattle.text.proofs.Reading.{
  no_first_line,
  first_line_refused,
  first_line_passes,
  body_wrong,
  body_right,
  large_iff,
  latches_iff,
  count_iff,
  reading_iff,
}
use Rattle.text.proofs.Cases.{wrong_injective, wrong_not_right, refusal_of, refusal_is, graph_is}
use Rattle.text.proofs.FirstWrong.{first_wrong_iff, wrong_rank}

-- ---- reading

-- the text has a well-shaped first line
module _ (t : List ℕ) (b : Buffers) (ns rest : List ℕ) (e : header_line t ≡ some (front ns rest)) where
  abbrev counts : Header
  counts = header_of ns

  abbrev rows : List Row
  rows = header_refusals t counts

  abbrev needs : List Needed
  needs = lines_needed counts

  headed : Headed t ns rest
  headed = (header_line_iff t ns rest).0 e

  -- the first line is read in one way
  as_read : (P : List ℕ → List ℕ → Type 0) {ms u : List ℕ} → Headed t ms u → P ms u → P ns rest
  as_read P {ms} {u} h p =
      subst (λ (x : Front (List ℕ)). P x.got x.rest)
      (some-injective (front ms u) (front ns rest) (sym ((header_line_iff t ms u).1 h) ∙ e)) p

  -- all that is given is early, and the rows do not miss it; or it is late: a wrong line, or no room
  data Case : Refusal → Type 0 where
    early : {r : Refusal} → leb (read_rank r) (read_rank BadCount) ≡ true → ¬ Silent read_rank r rows → Case r
    by_line : {r : Refusal} → FirstWrong needs rest r → Case r
    by_room : {g : Graph} → States t g → ¬ RoomFor g b → Case NoRoom

  case : {q : Refusal} → ReadGiven t b q → Case q
  unfolding header_refusals
  case (ReadGiven.bad_header n) = absurd (n ns rest headed)
  case (ReadGiven.many_inputs h k) =
      early refl
      (λ s. test_off _ (large_iff t counts) (s.0 refl) (inl (inl (inl (as_read (λ ms u. most_inputs < (header_of ms).inputs) h k)))))
  case (ReadGiven.many_outputs h k) =
      early refl
      (λ s. test_off _ (large_iff t counts) (s.0 refl) (inl (inl (inr (as_read (λ ms u. most_outputs < (header_of ms).outputs) h k)))))
  case (ReadGiven.many_gates h k) =
      early refl (λ s. test_off _ (large_iff t counts) (s.0 refl) (inl (inr (as_read (λ ms u. most_gates < (header_of ms).gates) h k))))
  case (ReadGiven.many_bytes k) = early refl (λ s. test_off _ (large_iff t counts) (s.0 refl) (inr k))
  case (ReadGiven.latches h k) =
      early refl (λ s. as_read (λ ms u. ¬ ((header_of ms).latches ≡ 0)) h k (denial_off _ (latches_iff t counts) (s.1.0 refl)))
  case (ReadGiven.bad_count h k) =
      early refl
      (λ s.
      as_read (λ ms u. ¬ ((header_of ms).highest ≡ free_of (header_of ms) + (header_of ms).gates)) h k
      (denial_off _ (count_iff t counts) (s.1.1.0 refl)))
  case (ReadGiven.wrong_line {r} h w) = by_line (as_read (λ ms u. FirstWrong (lines_needed (header_of ms)) u r) h w)
  case (ReadGiven.no_room h k) = by_room h k

  Early : Refusal → Type 0
  Early q = ReadGiven t b q × (read_rank q ≤ read_rank BadCount)

  early_complete : {q : Refusal} → Case q → read_rank q ≤ read_rank BadCount → ¬ Silent read_rank q rows
  early_complete (early k n) l = n
  early_complete (by_line w) l = absurd (omega (arith, wrong_rank w))
  early_complete (by_room h k) l = absurd (omega arith)

  header_decides : Decides read_rank Early rows
  unfolding Early header_refusals ascends
  header_decides = record {
    ascending = refl;
    sound = (
      λ x. (
        ⊎_elim (⊎_elim (⊎_elim (ReadGiven.many_inputs headed) (ReadGiven.many_outputs headed)) (ReadGiven.many_gates headed))
            ReadGiven.many_bytes ((large_iff t counts).0 x),
        omega arith,
      ),
      λ _. (
        λ x. (ReadGiven.latches headed (denial_on _ (latches_iff t counts) x), omega arith),
        λ _. (λ x. (ReadGiven.bad_count headed (denial_on _ (count_iff t counts) x), omega arith), λ _. tt),
      ),
    );
    complete = λ q d. early_complete (case d.0) d.1;
  }

  module _ (c : (q : Refusal) → ¬ Early q) where
    -- where nothing early is given, the first wrong line is the lowest refusal
    line_lowest : (r : Refusal) → FirstWrong needs rest r → Lowest read_rank (ReadGiven t b) r
    unfolding Early
    line_lowest r w = record { holds = ReadGiven.wrong_line headed w; none_lower = λ q l d. go d l (case d) }
      where
        go : {q : Refusal} → ReadGiven t b q → read_rank q < read_rank r → ¬ Case q
        go {q} d l (early k n) = c q (d, leb-true (read_rank q) (read_rank BadCount) k)
        go {q} d l (by_line v) =
            let same = wrong_injective (sym ((first_wrong_iff needs rest q).1 v) ∙ (first_wrong_iff needs rest r).1 w) in
            omega (arith, ap read_rank same)
        go d l (by_room h k) = omega (arith, wrong_rank w)

    -- and where all lines are right, only room can lack
    module _ (nss : List (List ℕ)) (f : read_lines needs rest ≡ right nss) where
      abbrev graph : Graph
      graph = graph_read counts nss

      graph_stated : States t graph
      graph_stated = ((reading_iff t graph).0 (first_line_passes t e ((first_none header_decides).1 c) ∙ body_right counts rest f)).states

      only_room : {q : Refusal} → ReadGiven t b q → Case q → (q ≡ NoRoom) × (¬ RoomFor graph b)
      unfolding Early
      only_room {q} d (early k n) = absurd (c q (d, leb-true (read_rank q) (read_rank BadCount) k))
      only_room d (by_line w) = absurd (wrong_not_right (sym ((first_wrong_iff needs rest _).1 w) ∙ f))
      only_room d (by_room {g} h k) = (refl, subst (λ (g : Graph). ¬ RoomFor g b) (states_one t g graph h graph_stated) k)

      room_settles : Settles read_rank (ReadGiven t b) (refusal_of (with_room (yields graph) b))
      unfolding with_room refusal_of
      room_settles = go (no_room_for graph b) refl
        where
          go : (u : Bool) → no_room_for graph b ≡ u → Settles read_rank (ReadGiven t b) (refusal_of (cond u (refuses NoRoom) (yields graph)))
          go true h = gives (record {
            holds = ReadGiven.no_room graph_stated ((no_room_iff graph b).0 h);
            none_lower = λ q l d. omega (arith, ap read_rank (only_room d (case d)).0);
          })
          go false h = clears (λ q d. test_off _ (no_room_iff graph b) h (only_room d (case d)).1)

    body_settles : Settles read_rank (ReadGiven t b) (refusal_of (with_room (read_body counts rest) b))
    unfolding with_room refusal_of
    body_settles = go (read_lines needs rest) refl
      where
        go : (x : Lines) → read_lines needs rest ≡ x → Settles read_rank (ReadGiven t b) (refusal_of (with_room (read_body counts rest) b))
        go (wrong r) f = rw (body_wrong counts rest f) (gives (line_lowest r ((first_wrong_iff needs rest r).0 f)))
        go (right nss) f = rw (body_right counts rest f) (room_settles nss f)

  headed_settles : Settles read_rank (ReadGiven t b) (refusal_of (with_room (reading t) b))
  unfolding with_room refusal_of or_else Early
  headed_settles =
      subst (Settles read_rank (ReadGiven t b)) (sym (go (first_refusal rows) refl))
      (settles_then (λ q d. d.0) (λ q r d k l. (d, omega (arith, k.1))) (first_settles header_decides) body_settles)
    where
      go : (o : Option Refusal) → first_refusal rows ≡ o
          → refusal_of (with_room (reading t) b) ≡ or_else (first_refusal rows) (refusal_of (with_room (read_body counts rest) b))
      go none f = rw (first_line_passes t e f, f)
      go (some r) f = rw (first_line_refused t e f, f)

module _ (t : List ℕ) (b : Buffers) where
  no_header : header_line t ≡ none → Settles read_rank (ReadGiven t b) (refusal_of (with_room (reading t) b))
  unfolding with_room refusal_of
  no_header e =
      rw (no_first_line t e)
      (gives (record {
        holds = ReadGiven.bad_header (λ ns rest h. none-ne-some (front ns rest) (sym e ∙ (header_line_iff t ns rest).1 h));
        none_lower = λ q l d. number_of_not_zero q (omega arith);
      }))

  read_settles : Settles read_rank (ReadGiven t b) (refusal_of (with_room (reading t) b))
  read_settles = go (header_line t) refl
    where
      go : (o : Option (Front (List ℕ))) → header_line t ≡ o → Settles read_rank (ReadGiven t b) (refusal_of (with_room (reading t) b))
      go none e = no_header e
      go (some x) e = headed_settles t b x.got x.rest e

  pub read_answers : Answers read_rank (ReadGiven t b) (read_outcome (read_effect t b).answer).number
  unfolding read_effect read_outcome
  read_answers =
      settles_answers number_of_injective read_settles _ (λ q e. rw (refusal_is (with_room (reading t) b) q e, read_effect))
      (λ e. rw ((graph_is (with_room (reading t) b) e).1, read_effect))

  -- a refusal leaves the lent lists as they were
  pub read_writes_nothing : (r : Refusal) → (read_outcome (read_effect t b).answer).number ≡ number_of r → (read_effect t b).lent ≡ b
  unfolding read_effect read_outcome
  read_writes_nothing r e =
      let s = shown (refusal_of (with_room (reading t) b)) _ (λ n. rw ((graph_is (with_room (reading t) b) n).1, read_effect)) r e in
      rw (refusal_is (with_room (reading t) b) s.0 s.1, read_effect)

-- ---- writing

module _ (g : Graph) (lent : List ℕ) where
  write_complete : (q : Refusal) → WriteGiven g lent q → ¬ Silent write_rank q (write_refusals g lent)
  unfolding write_refusals
  write_complete q (WriteGiven.bad_graph h) s = h (denial_off _ (well_formed_iff g) (s.0 refl))
  write_complete q (WriteGiven.no_room h) s = test_off _ (short_iff (length (text_of g)) lent) (s.1.0 refl) h

  write_decides : Decides write_rank (WriteGiven g lent) (write_refusals g lent)
  unfolding write_refusals ascends
  write_decides = record {
    ascending = refl;
    sound = (
      λ e. WriteGiven.bad_graph (denial_on _ (well_formed_iff g) e),
      λ _. (λ e. WriteGiven.no_room ((short_iff (length (text_of g)) lent).0 e), λ _. tt),
    );
    complete = write_complete;
  }

  pub write_answers : Answers write_rank (WriteGiven g lent) (written_outcome (write_effect g lent).answer).number
  unfolding write_effect written_outcome
  write_answers =
      settles_answers number_of_injective (first_settles write_decides) _ (λ q e. rw (e, write_effect)) (λ e. rw (e, write_effect))

  -- a refusal leaves the lent bytes as they were
  pub write_writes_nothing : (r : Refusal) → (written_outcome (write_effect g lent).answer).number ≡ number_of r
      → (write_effect g lent).lent ≡ lent
  unfolding write_effect written_outcome
  write_writes_nothing r e =
      let s = shown (first_refusal (write_refusals g lent)) _ (λ n. rw (n, write_effect)) r e in rw (s.1, write_effect)
