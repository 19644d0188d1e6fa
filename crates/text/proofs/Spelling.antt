-- The lines after the first are read if and only if the text is such lines, each of which fits, and a rest that is skipped.
-- Assumes nothing.
use mathlib.Core.Path.{◌≡◌, refl, sym, ap, ◌∙◌, subst}
use mathlib.Core.Bool.{Bool, true, false, cond}
use mathlib.Core.List.{List, [], ◌∷◌, ◌++◌, append_assoc, flat_map}
use mathlib.Core.Logic.{◌↔◌}
use mathlib.Core.Option.{Option, none, some}
use Prim.Native.Nat.{ℕ, zero, suc, ◌≤◌, ◌<◌, suc-le-suc}
use native.Mathlib.Nat.{suc-ne-zero, le_of_suc-le-suc, zero-lt-suc, not-suc-le-zero}
use lib.ListN.{length, get_or}
use Rattle.graph.specs.declared.refusal.Refusal.TheVariants.{BadLine, BadLiteral}
use Rattle.text.specs.Number.{Front, most_number}
use Rattle.text.specs.Line.{line, lines, line_of}
use Rattle.text.specs.States.{skipped}
use Rattle.text.specs.Reading.{Needed, Lines, wrong, right, with_line, read_lines}
use Rattle.text.specs.Refusals.{Shaped}
use Rattle.text.proofs.Cases.{right_injective, wrong_not_right}
use Rattle.text.proofs.Line.{line_of_iff}
use Rattle.text.proofs.Fits.{Fits, fits_none, fits_first, fits_later, fits_more}

-- the text t is these lines, which fit, and a rest
pub record LinesAre (needs : List Needed) (t : List ℕ) (nss : List (List ℕ)) : Type 0 where
  pub fits : Fits needs nss
  pub small : (j : ℕ) → j < length nss → (i : ℕ) → i < length (get_or nss j []) → get_or (get_or nss j []) i 0 ≤ most_number
  pub rest : List ℕ
  pub is : t ≡ lines nss ++ rest
  pub rest_skipped : skipped rest ≡ true

-- where lines are right, the first one is shaped, keeps its rule, and the later ones are right
module _ {P : Type 0} (nss : List (List ℕ)) where
  line_right : (o : Option (Front (List ℕ))) (f : Front (List ℕ) → Lines) → elim o [ none ↦ wrong BadLine | some x ↦ f x ] ≡ right nss
      → ((x : Front (List ℕ)) → o ≡ some x → f x ≡ right nss → P) → P
  line_right none f e k = absurd (wrong_not_right e)
  line_right (some x) f e k = k x refl e

  rule_right : (b : Bool) (l : Lines) → elim b [ true ↦ l | false ↦ wrong BadLiteral ] ≡ right nss → (b ≡ true → l ≡ right nss → P) → P
  rule_right true l e k = k refl e
  rule_right false l e k = absurd (wrong_not_right e)

  later_right : (ns : List ℕ) (l : Lines) → with_line ns l ≡ right nss → ((mss : List (List ℕ)) → l ≡ right mss → ns ∷ mss ≡ nss → P) → P
  unfolding with_line
  later_right ns (wrong r) e k = absurd (wrong_not_right e)
  later_right ns (right mss) e k = k mss refl (right_injective e)

-- ---- line by line

module _ (need : Needed) (needs : List Needed) (t ns : List ℕ) (nss : List (List ℕ)) where
  spelled_more : (u : List ℕ) → Shaped need.numbers t ns u → need.rule ns ≡ true → LinesAre needs u nss
      → LinesAre (need ∷ needs) t (ns ∷ nss)
  unfolding flat_map
  spelled_more u s e p = record {
    fits = fits_more need needs ns nss (record { count = s.count; rule = e }) p.fits;
    small = each;
    rest = p.rest;
    is = s.is ∙ ap (λ (v : List ℕ). line ns ++ v) p.is ∙ sym (append_assoc (line ns) (lines nss) p.rest);
    rest_skipped = p.rest_skipped;
  }
    where
      each : (j : ℕ) → j < suc (length nss) → (i : ℕ) → i < length (get_or (ns ∷ nss) j []) → get_or (get_or (ns ∷ nss) j []) i 0 ≤ most_number
      each zero h = s.small
      each (suc j) h = p.small j (le_of_suc-le-suc h)

  module _ (p : LinesAre (need ∷ needs) t (ns ∷ nss)) where
    spelled_first : Shaped need.numbers t ns (lines nss ++ p.rest)
    unfolding flat_map
    spelled_first = record {
      count = (fits_first need needs ns nss p.fits).count;
      small = p.small 0 (zero-lt-suc (length nss));
      is = p.is ∙ append_assoc (line ns) (lines nss) p.rest;
    }

    spelled_later : LinesAre needs (lines nss ++ p.rest) nss
    spelled_later = record {
      fits = fits_later need needs ns nss p.fits;
      small = λ j h. p.small (suc j) (suc-le-suc h);
      rest = p.rest;
      is = refl;
      rest_skipped = p.rest_skipped;
    }

lines_spelled : (needs : List Needed) (t : List ℕ) (nss : List (List ℕ)) → read_lines needs t ≡ right nss → LinesAre needs t nss
unfolding read_lines flat_map
lines_spelled [] t nss e = go (skipped t) refl e
  where
    go : (b : Bool) → skipped t ≡ b → cond b (right []) (wrong BadLine) ≡ right nss → LinesAre [] t nss
    go true h e = subst (LinesAre [] t) (right_injective e)
        (record {
          fits = fits_none;
          small = λ j l. absurd (not-suc-le-zero l);
          rest = t;
          is = refl;
          rest_skipped = h;
        })
    go false h e = absurd (wrong_not_right e)
lines_spelled (need ∷ needs) t nss e =
    line_right nss (line_of need.numbers t)
    (λ x. elim (need.rule x.got) [ true ↦ with_line x.got (read_lines needs x.rest) | false ↦ wrong BadLiteral ]) e λ x ex e₁.
    rule_right nss (need.rule x.got) (with_line x.got (read_lines needs x.rest)) e₁ λ er e₂.
    later_right nss x.got (read_lines needs x.rest) e₂ λ mss em e₃.
    subst (LinesAre (need ∷ needs) t) e₃
    (spelled_more need needs t x.got mss x.rest ((line_of_iff need.numbers t x.got x.rest).0 ex) er
    (lines_spelled needs x.rest mss em))

spelled_lines : (needs : List Needed) (t : List ℕ) (nss : List (List ℕ)) → LinesAre needs t nss → read_lines needs t ≡ right nss
unfolding read_lines flat_map
spelled_lines [] t [] p = rw (p.is, p.rest_skipped)
spelled_lines [] t (ns ∷ nss) p = absurd (suc-ne-zero (length nss) p.fits.count)
spelled_lines (need ∷ needs) t [] p = absurd (suc-ne-zero (length needs) (sym p.fits.count))
spelled_lines (need ∷ needs) t (ns ∷ nss) p =
    rw (
      (line_of_iff need.numbers t ns (lines nss ++ p.rest)).1 (spelled_first need needs t ns nss p),
      (fits_first need needs ns nss p.fits).rule,
      spelled_lines needs (lines nss ++ p.rest) nss (spelled_later need needs t ns nss p),
      read_lines,
    )

pub read_lines_iff : (needs : List Needed) (t : List ℕ) (nss : List (List ℕ)) → (read_lines needs t ≡ right nss) ↔ LinesAre needs t nss
read_lines_iff needs t nss = (lines_spelled needs t nss, spelled_lines needs t nss)
