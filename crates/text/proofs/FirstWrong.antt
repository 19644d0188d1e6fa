-- Reading the lines ends at the first that is not right, and says whether it is misshapen or breaks its rule.
-- Assumes nothing.
use mathlib.Core.Path.{◌≡◌, refl, sym, ap, subst, ◌∙◌}
use mathlib.Core.Bool.{Bool, true, false, cond}
use mathlib.Core.List.{List, [], ◌∷◌}
use mathlib.Core.Logic.{◌↔◌}
use mathlib.Core.Option.{Option, none, some, none-ne-some}
use Prim.Native.Nat.{ℕ, ◌≤◌}
use native.Mathlib.Omega.{arith}
use Rattle.graph.specs.declared.refusal.Refusal.{Refusal}
use Rattle.graph.specs.declared.refusal.Refusal.TheVariants.{BadLine, BadLiteral}
use Rattle.text.specs.Number.{Front, front}
use Rattle.text.specs.Line.{line_of}
use Rattle.text.specs.States.{skipped}
use Rattle.text.specs.Reading.{Needed, Lines, wrong, right, with_line, read_lines}
use Rattle.text.specs.Refusals.{read_rank, Shaped, FirstWrong, bad_rest, misshapen, breaks, later}
use Rattle.text.proofs.Cases.{wrong_injective, wrong_not_right}
use Rattle.text.proofs.Line.{line_of_iff}

with_line_wrong : (ns : List ℕ) (x : Lines) (r : Refusal) → with_line ns x ≡ wrong r → x ≡ wrong r
unfolding with_line
with_line_wrong ns (wrong q) r e = e
with_line_wrong ns (right nss) r e = absurd (wrong_not_right (sym e))

-- the steps of reading the lines
module _ (need : Needed) (needs : List Needed) (t : List ℕ) where
  at_misshapen : line_of need.numbers t ≡ none → read_lines (need ∷ needs) t ≡ wrong BadLine
  unfolding read_lines
  at_misshapen e = rw (e, read_lines)

  at_broken : (ns rest : List ℕ) → line_of need.numbers t ≡ some (front ns rest) → need.rule ns ≡ false
      → read_lines (need ∷ needs) t ≡ wrong BadLiteral
  unfolding read_lines
  at_broken ns rest e f = rw (e, f, read_lines)

  at_right : (ns rest : List ℕ) → line_of need.numbers t ≡ some (front ns rest) → need.rule ns ≡ true
      → read_lines (need ∷ needs) t ≡ with_line ns (read_lines needs rest)
  unfolding read_lines
  at_right ns rest e f = rw (e, f, read_lines)

  first_wrong_line : (r : Refusal) → ((rest : List ℕ) → read_lines needs rest ≡ wrong r → FirstWrong needs rest r)
      → read_lines (need ∷ needs) t ≡ wrong r → FirstWrong (need ∷ needs) t r
  first_wrong_line r below e = go (line_of need.numbers t) refl
    where
      by_rule : (ns rest : List ℕ) → line_of need.numbers t ≡ some (front ns rest) → (u : Bool) → need.rule ns ≡ u
          → FirstWrong (need ∷ needs) t r
      by_rule ns rest q true f =
          later ((line_of_iff need.numbers t ns rest).0 q) f
          (below rest (with_line_wrong ns (read_lines needs rest) r (sym (at_right ns rest q f) ∙ e)))
      by_rule ns rest q false f =
          subst (FirstWrong (need ∷ needs) t) (wrong_injective (sym (at_broken ns rest q f) ∙ e))
          (breaks ((line_of_iff need.numbers t ns rest).0 q) f)

      go : (o : Option (Front (List ℕ))) → line_of need.numbers t ≡ o → FirstWrong (need ∷ needs) t r
      go none q =
          subst (FirstWrong (need ∷ needs) t) (wrong_injective (sym (at_misshapen q) ∙ e))
          (misshapen (λ ns rest s. none-ne-some (front ns rest) (sym q ∙ (line_of_iff need.numbers t ns rest).1 s)))
      go (some x) q = by_rule x.got x.rest q (need.rule x.got) refl

lines_wrong : (needs : List Needed) (t : List ℕ) (r : Refusal) → read_lines needs t ≡ wrong r → FirstWrong needs t r
unfolding read_lines
lines_wrong [] t r e = go (skipped t) refl e
  where
    go : (s : Bool) → skipped t ≡ s → cond s (right []) (wrong BadLine) ≡ wrong r → FirstWrong [] t r
    go true q f = absurd (wrong_not_right (sym f))
    go false q f = subst (FirstWrong [] t) (wrong_injective f) (bad_rest q)
lines_wrong (need ∷ needs) t r e = first_wrong_line need needs t r (λ rest. lines_wrong needs rest r) e

no_line : (n : ℕ) (t : List ℕ) → ((ns rest : List ℕ) → ¬ Shaped n t ns rest) → line_of n t ≡ none
no_line n t h = go (line_of n t) refl
  where
    go : (o : Option (Front (List ℕ))) → line_of n t ≡ o → line_of n t ≡ none
    go none e = e
    go (some x) e = absurd (h x.got x.rest ((line_of_iff n t x.got x.rest).0 e))

wrong_lines : {needs : List Needed} {t : List ℕ} {r : Refusal} → FirstWrong needs t r → read_lines needs t ≡ wrong r
unfolding read_lines with_line
wrong_lines (bad_rest e) = rw e
wrong_lines (misshapen {need} {needs} {t} h) = at_misshapen need needs t (no_line need.numbers t h)
wrong_lines (breaks {need} {needs} {t} {ns} {rest} s e) = at_broken need needs t ns rest ((line_of_iff need.numbers t ns rest).1 s) e
wrong_lines (later {need} {needs} {t} {ns} {rest} s e w) =
    at_right need needs t ns rest ((line_of_iff need.numbers t ns rest).1 s) e ∙ ap (with_line ns) (wrong_lines w)

pub first_wrong_iff : (needs : List Needed) (t : List ℕ) (r : Refusal) → (read_lines needs t ≡ wrong r) ↔ FirstWrong needs t r
first_wrong_iff needs t r = (lines_wrong needs t r, wrong_lines)

-- it is a BAD LINE or a BAD LITERAL
pub wrong_rank : {needs : List Needed} {t : List ℕ} {r : Refusal} → FirstWrong needs t r
    → (read_rank BadLine ≤ read_rank r) × (read_rank r ≤ read_rank BadLiteral)
wrong_rank (bad_rest e) = omega arith
wrong_rank (misshapen h) = omega arith
wrong_rank (breaks s e) = omega arith
wrong_rank (later s e w) = wrong_rank w
