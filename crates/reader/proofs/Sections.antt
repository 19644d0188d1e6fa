-- A section is read a line at a time: what one more line gives, and that a line that is not right decides for the whole section.
-- Assumes nothing.
use mathlib.Core.Path.{◌≡◌, refl, sym, ap, ◌∙◌}
use mathlib.Core.Bool.{Bool, true, false}
use mathlib.Core.List.{List, [], ◌∷◌, ◌++◌, append_assoc, append-nil}
use mathlib.Core.Logic.{⊎_elim}
use mathlib.Core.Option.{Option, none, some}
use Rattle.std.specs.Prelude.{Option as Found, Some, None, Ok, Err, is_some}
use Prim.Native.Nat.{ℕ, zero, suc, ◌+◌, ◌≤◌, ◌<◌}
use native.Mathlib.Numerals.{add-one}
use native.Mathlib.Omega.{arith}
use lib.ListN.{drop}
use Rattle.graph.specs.declared.refusal.Refusal.{Refusal}
use Rattle.graph.specs.declared.refusal.Refusal.TheVariants.{BadLine, BadLiteral}
use Rattle.graph.specs.Lists.{gather}
use Rattle.graph.proofs.Lists.{at_most_or_above}
use Rattle.text.specs.Number.{Front}
use Rattle.text.specs.Line.{line_of}
use Rattle.text.specs.Reading.{Needed}
use Rattle.scanner.specs.Lines.{line_step, line_refusal}
use Rattle.reader.specs.Sections.{Words, wrong, words, with_words, read_words}
use Rattle.graph.specs.Refuse.{verdict_is}
use Rattle.graph.proofs.Singles.{singles}

-- ---- lines, and then more lines

with_no_words : (x : Words) → with_words [] x ≡ x
unfolding with_words
with_no_words (wrong r) = refl
with_no_words (words ws t) = refl

-- words before others, in two steps or in one
with_both : (vs ws : List ℕ) (x : Words) → with_words vs (with_words ws x) ≡ with_words (vs ++ ws) x
unfolding with_words
with_both vs ws (wrong r) = refl
with_both vs ws (words us t) = ap (λ (zs : List ℕ). words zs t) (sym (append_assoc vs ws us))

module _ (f : List ℕ → List ℕ) where
  -- the words of a line that keeps its rule or not, and of the lines after it
  abbrev pub by_rule : List Needed → Front (List ℕ) → Bool → Words
  by_rule needs y b = elim b [ true ↦ with_words (f y.got) (read_words f needs y.rest) | false ↦ wrong BadLiteral ]

  -- the same, where the line is misshapen or not
  abbrev pub by_line : Needed → List Needed → Option (Front (List ℕ)) → Words
  by_line need needs o = elim o [ none ↦ wrong BadLine | some y ↦ by_rule needs y (need.rule y.got) ]

  -- what more lines give, from where the words end
  and_more : List Needed → Words → Words
  and_more needs (wrong r) = wrong r
  and_more needs (words ws u) = with_words ws (read_words f needs u)

  with_more : (vs : List ℕ) (needs : List Needed) (x : Words) → with_words vs (and_more needs x) ≡ and_more needs (with_words vs x)
  unfolding with_words and_more
  with_more vs needs (wrong r) = refl
  with_more vs needs (words ws t) = with_both vs ws (read_words f needs t)

  read_append : (xs ys : List Needed) (t : List ℕ) → read_words f (xs ++ ys) t ≡ and_more ys (read_words f xs t)
  unfolding read_words and_more
  read_append [] ys t = sym (with_no_words (read_words f ys t))
  read_append (x ∷ xs) ys t = go (line_of x.numbers t) (read_append xs ys)
    where
      ruled : (b : Bool) (y : Front (List ℕ)) → read_words f (xs ++ ys) y.rest ≡ and_more ys (read_words f xs y.rest)
          → by_rule (xs ++ ys) y b ≡ and_more ys (by_rule xs y b)
      ruled true y e = ap (with_words (f y.got)) e ∙ with_more (f y.got) ys (read_words f xs y.rest)
      ruled false y e = refl

      go : (o : Option (Front (List ℕ))) → ((u : List ℕ) → read_words f (xs ++ ys) u ≡ and_more ys (read_words f xs u))
          → by_line x (xs ++ ys) o ≡ and_more ys (by_line x xs o)
      go none below = refl
      go (some y) below = ruled (x.rule y.got) y (below y.rest)

  -- ---- the first k of a section's lines

  module _ (need : ℕ → Needed) (t : List ℕ) where
    -- a line that is not right decides, however many follow
    wrong_stays : (k n : ℕ) (r : Refusal) → k ≤ n → read_words f (singles need k) t ≡ wrong r → read_words f (singles need n) t ≡ wrong r
    unfolding gather and_more
    wrong_stays k zero r h e = let z : k ≡ 0 = omega arith in rw z at e
    wrong_stays k (suc n) r h e = ⊎_elim
        (λ l. read_append (singles need n) (need n ∷ []) t ∙ ap (and_more (need n ∷ [])) (wrong_stays k n r l e))
        (λ l. let z : k ≡ suc n = omega arith in rw z at e)
        (at_most_or_above k n)

    one_more : (k : ℕ) (ws u : List ℕ) → read_words f (singles need k) t ≡ words ws u
        → read_words f (singles need (suc k)) t ≡ with_words ws (read_words f (need k ∷ []) u)
    unfolding gather and_more
    one_more k ws u e = read_append (singles need k) (need k ∷ []) t ∙ ap (and_more (need k ∷ [])) e

  -- one line that is misshapen or breaks its rule, and one that is right
  module _ (need : Needed) (t ns u : List ℕ) where
    one_wrong : (line : Found ℕ) (kept : Bool) (r : Refusal) → line_step t ns line ≡ line_of need.numbers u → kept ≡ need.rule ns
        → some r ≡ line_refusal (is_some line) kept → read_words f (need ∷ []) u ≡ wrong r
    unfolding read_words line_step line_refusal
    one_wrong None kept r line rule why = rw (sym line, read_words) (cc)
    one_wrong (Some next) true r line rule why = cc
    one_wrong (Some next) false r line rule why = rw (sym line, sym rule, read_words) (cc)

    one_right : (next : ℕ) (kept : Bool) → line_step t ns (Some next) ≡ line_of need.numbers u → kept ≡ need.rule ns
        → none ≡ line_refusal true kept → read_words f (need ∷ []) u ≡ words (f ns) (drop next t)
    unfolding read_words with_words line_step line_refusal
    one_right next true line rule why =
        rw (sym line, sym rule, read_words) (ap (λ (vs : List ℕ). words vs (drop next t)) (append-nil (f ns)))
    one_right next false line rule why = cc

-- the words of the first k lines, and the text after them
pub record SoFar (f : List ℕ → List ℕ) (need : ℕ → Needed) (t : List ℕ) (k : ℕ) (ws rest : List ℕ) : Type 0 where
  pub is : read_words f (singles need k) t ≡ words ws rest

pub none_so_far : {f : List ℕ → List ℕ} {need : ℕ → Needed} {t : List ℕ} → SoFar f need t 0 [] t
unfolding gather read_words
none_so_far = record { is = refl }

-- line k as the code finds it, the test of its rule, and then the verdict on it
module _ {f : List ℕ → List ℕ} {need : ℕ → Needed} {t : List ℕ} {k : ℕ} {ws here : List ℕ} (so_far : SoFar f need t k ws here)
    (text ns : List ℕ) (line : Found ℕ) {kept : Bool}
    (is : line_step text ns line ≡ line_of (need k).numbers here) (rule : kept ≡ (need k).rule ns) where
  pub line_refused : {n : ℕ} {r : Refusal} → verdict_is {A = ℕ} (Err r) ≡ line_refusal (is_some line) kept → k < n
      → read_words f (singles need n) t ≡ wrong r
  unfolding with_words verdict_is
  line_refused {n} {r} judged h =
      wrong_stays f need t (suc k) n r h
      (one_more f need t k ws here so_far.is ∙ ap (with_words ws) (one_wrong f (need k) text ns here line kept r is rule judged))

  pub line_fine : {next : ℕ} → verdict_is (Ok next) ≡ line_refusal (is_some line) kept → line ≡ Some next
      → SoFar f need t (k + 1) (ws ++ f ns) (drop next text)
  unfolding with_words verdict_is
  line_fine {next} judged e =
      let found : line_step text ns (Some next) ≡ line_of (need k).numbers here = rw e at is in
      let right : none ≡ line_refusal true kept = rw e at judged in
      record {
        is = rw add-one
            (one_more f need t k ws here so_far.is ∙ ap (with_words ws) (one_right f (need k) text ns here next kept found rule right));
      }
