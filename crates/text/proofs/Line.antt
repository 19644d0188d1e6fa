-- A line is read back as it was written, number by number, and nothing else is read so.
-- Assumes nothing.
use mathlib.Core.Path.{◌≡◌, refl, sym, ap, ap₂, ◌∙◌, subst, subst⁻¹}
use mathlib.Core.Bool.{Bool, true, false, cond}
use mathlib.Core.List.{List, [], ◌∷◌, ◌++◌, append_assoc, tail-eq_of_cons-eq}
use mathlib.Core.Logic.{◌↔◌}
use mathlib.Core.Option.{Option, none, some, none-ne-some, some-injective}
use Prim.Native.Nat.{ℕ, zero, suc, ◌≤◌, ◌<◌, suc-le-suc}
use native.Mathlib.Nat.{not-suc-le-zero, suc_inj, suc-ne-zero, le_of_suc-le-suc, zero-lt-suc}
use borrow.Author.Tests.{eqb-true, eq-eqb}
use lib.Dec.{eqb}
use lib.ListN.{length, get_or}
use Rattle.text.specs.Number.{is_digit, decimal, Front, front, most_number, number}
use Rattle.text.specs.Line.{◌>>=◌, separator, line, after, line_of}
use Rattle.text.specs.States.{aag}
use Rattle.text.specs.Reading.{header_line}
use Rattle.text.specs.Refusals.{Shaped, Headed}
use Rattle.text.proofs.Number.{number_of_decimal, number_states, decimals_decode}

separator_ends : (n : ℕ) → is_digit (separator n) ≡ false
unfolding separator
separator_ends zero = refl
separator_ends (suc n) = refl

-- ---- the steps of reading

-- where two steps succeed, each does
both_some : {A B P : Type 0} (o : Option A) (f : A → Option B) (y : B) → (o >>= f) ≡ some y → ((x : A) → o ≡ some x → f x ≡ some y → P) → P
both_some none f y e k = absurd (none-ne-some y e)
both_some (some x) f y e k = k x refl e

after_states : (bs t rest : List ℕ) → after bs t ≡ some rest → t ≡ bs ++ rest
unfolding after
after_states [] t rest e = some-injective t rest e
after_states (b ∷ bs) [] rest e = absurd (none-ne-some rest e)
after_states (b ∷ bs) (c ∷ t) rest e = go (eqb b c) refl (after_states bs t rest) e
  where
    go : (x : Bool) → eqb b c ≡ x → (after bs t ≡ some rest → t ≡ bs ++ rest) → cond x (after bs t) none ≡ some rest
        → c ∷ t ≡ b ∷ bs ++ rest
    go true q r h = ap₂ (λ (x : ℕ) (u : List ℕ). x ∷ u) (sym (eqb-true b c q)) (r h)
    go false q r h = absurd (none-ne-some rest h)

after_of : (bs rest : List ℕ) → after bs (bs ++ rest) ≡ some rest
unfolding after
after_of [] rest = refl
after_of (b ∷ bs) rest = rw (eq-eqb b b refl) (after_of bs rest)

-- ---- a line of n numbers

module _ (n x : ℕ) (t ns rest : List ℕ) where
  shaped_more : x ≤ most_number → Shaped n t ns rest → Shaped (suc n) (decimal x ++ (separator n ∷ t)) (x ∷ ns) rest
  unfolding line
  shaped_more h s = record {
    count = ap suc s.count;
    small = each;
    is = rw (s.is, s.count) (sym (append_assoc (decimal x) (separator n ∷ line ns) rest));
  }
    where
      each : (j : ℕ) → j < suc (length ns) → get_or (x ∷ ns) j 0 ≤ most_number
      each zero l = h
      each (suc j) l = s.small j (le_of_suc-le-suc l)

  shaped_first : Shaped (suc n) t (x ∷ ns) rest → t ≡ decimal x ++ (separator n ∷ (line ns ++ rest))
  unfolding line
  shaped_first s =
      s.is ∙ append_assoc (decimal x) (separator (length ns) ∷ line ns) rest
      ∙ ap (λ (k : ℕ). decimal x ++ (separator k ∷ (line ns ++ rest))) (suc_inj s.count)

  shaped_later : Shaped (suc n) t (x ∷ ns) rest → Shaped n (line ns ++ rest) ns rest
  shaped_later s = record { count = suc_inj s.count; small = λ j l. s.small (suc j) (suc-le-suc l); is = refl }

-- the first number, what follows it, and the line after that
shaped_read : (n : ℕ) (t u : List ℕ) (x : Front ℕ) (xs : Front (List ℕ)) → number t ≡ some x → after (separator n ∷ []) x.rest ≡ some u
    → Shaped n u xs.got xs.rest → Shaped (suc n) t (x.got ∷ xs.got) xs.rest
shaped_read n t u x xs ex eu s =
    let (most, is) = number_states t x.rest x.got ex in
    subst⁻¹ (λ (v : List ℕ). Shaped (suc n) v (x.got ∷ xs.got) xs.rest)
    (is ∙ ap (λ (v : List ℕ). decimal x.got ++ v) (after_states (separator n ∷ []) x.rest u eu))
    (shaped_more n x.got u xs.got xs.rest most s)

line_states : (n : ℕ) (t ns rest : List ℕ) → line_of n t ≡ some (front ns rest) → Shaped n t ns rest
unfolding line_of line
line_states zero t ns rest e =
    subst (λ (x : Front (List ℕ)). Shaped 0 t x.got x.rest) (some-injective (front [] t) (front ns rest) e)
    (record { count = refl; small = λ j h. absurd (not-suc-le-zero h); is = refl })
line_states (suc n) t ns rest e =
    let with : Front ℕ → Front (List ℕ) → Option (Front (List ℕ)) = λ x xs. some (front (x.got ∷ xs.got) xs.rest) in
    both_some (number t) (λ x. after (separator n ∷ []) x.rest >>= λ u. line_of n u >>= with x) (front ns rest) e λ x ex e₁.
    both_some (after (separator n ∷ []) x.rest) (λ u. line_of n u >>= with x) (front ns rest) e₁ λ u eu e₂.
    both_some (line_of n u) (with x) (front ns rest) e₂ λ xs exs e₃.
    subst (λ (r : Front (List ℕ)). Shaped (suc n) t r.got r.rest)
    (some-injective (front (x.got ∷ xs.got) xs.rest) (front ns rest) e₃)
    (shaped_read n t u x xs ex eu (line_states n u xs.got xs.rest exs))

line_of_lem : (n : ℕ) (t ns rest : List ℕ) → Shaped n t ns rest → line_of n t ≡ some (front ns rest)
unfolding line_of line
line_of_lem zero t [] rest s = ap (λ (u : List ℕ). some (front [] u)) s.is
line_of_lem zero t (x ∷ ns) rest s = absurd (suc-ne-zero (length ns) s.count)
line_of_lem (suc n) t [] rest s = absurd (suc-ne-zero n (sym s.count))
line_of_lem (suc n) t (x ∷ ns) rest s =
    rw (
      shaped_first n x t ns rest s,
      number_of_decimal x (separator n ∷ (line ns ++ rest)) (s.small 0 (zero-lt-suc (length ns))) (separator_ends n),
      after_of (separator n ∷ []) (line ns ++ rest),
      line_of_lem n (line ns ++ rest) ns rest (shaped_later n x t ns rest s),
    )

pub line_of_iff : (n : ℕ) (t ns rest : List ℕ) → (line_of n t ≡ some (front ns rest)) ↔ Shaped n t ns rest
line_of_iff n t ns rest = (line_states n t ns rest, line_of_lem n t ns rest)

-- ---- lines of any numbers are read in one way

pub lines_decode : (ms ns t u : List ℕ) → length ms ≡ length ns → line ms ++ t ≡ line ns ++ u → (ms ≡ ns) × (t ≡ u)
unfolding line
lines_decode [] [] t u q e = (refl, e)
lines_decode [] (y ∷ ns) t u q e = absurd (suc-ne-zero (length ns) (sym q))
lines_decode (x ∷ ms) [] t u q e = absurd (suc-ne-zero (length ms) q)
lines_decode (x ∷ ms) (y ∷ ns) t u q e =
    let (head, tail) =
    decimals_decode x y (separator (length ms) ∷ (line ms ++ t)) (separator (length ns) ∷ (line ns ++ u)) (separator_ends (length ms))
    (separator_ends (length ns))
    (sym (append_assoc (decimal x) (separator (length ms) ∷ line ms) t) ∙ e
    ∙ append_assoc (decimal y) (separator (length ns) ∷ line ns) u) in
    let (later, after) = lines_decode ms ns t u (suc_inj q) (tail-eq_of_cons-eq tail) in
    (ap₂ (λ (z : ℕ) (zs : List ℕ). z ∷ zs) head later, after)

-- ---- the first line

header_states : (t ns rest : List ℕ) → header_line t ≡ some (front ns rest) → Headed t ns rest
unfolding header_line
header_states t ns rest e =
    both_some (after aag t) (line_of 5) (front ns rest) e λ u eu e₁.
    record { after_aag = u; is = after_states aag t u eu; shaped = line_states 5 u ns rest e₁ }

header_of_lem : (t ns rest : List ℕ) → Headed t ns rest → header_line t ≡ some (front ns rest)
unfolding header_line
header_of_lem t ns rest h =
    ap (λ (o : Option (List ℕ)). o >>= line_of 5) (ap (after aag) h.is ∙ after_of aag h.after_aag)
    ∙ line_of_lem 5 h.after_aag ns rest h.shaped

pub header_line_iff : (t ns rest : List ℕ) → (header_line t ≡ some (front ns rest)) ↔ Headed t ns rest
header_line_iff t ns rest = (header_states t ns rest, header_of_lem t ns rest)
