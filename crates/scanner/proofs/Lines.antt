-- A line is read number by number: what is read of it, and what is left.
-- Assumes nothing.
use mathlib.Core.Path.{◌≡◌, refl, sym, ap, ◌∙◌}
use mathlib.Core.List.{List, [], ◌∷◌, ◌++◌, append_assoc, append-nil}
use mathlib.Core.Option.{Option, none, some}
use Prim.Native.Nat.{ℕ, zero, suc, ◌+◌, ◌<◌, ◌≤◌}
use native.Mathlib.Omega.{arith}
use native.Mathlib.Numerals.{add-one}
use lib.ListN.{length, get_or, set, drop, length-append, length-drop, drop_of_length-le}
use lib.Seq.{drop-cons, set-append_seam}
use Rattle.std.specs.Prelude.{Some, None}
use Rattle.scanner.specs.declared.number.NumberAt.{NumberAt}
use Rattle.text.specs.Number.{Front, front, number}
use Rattle.text.specs.Line.{◌>>=◌, space, line_feed, separator, after, line_of}
use Rattle.scanner.specs.Tokens.{number_step, byte_step}
use Rattle.scanner.specs.Lines.{line_step}

pub separator_between : (n : ℕ) → 0 < n → separator n ≡ space
unfolding separator
separator_between zero h = absurd (omega arith)
separator_between (suc n) h = refl

pub separator_last : (n : ℕ) → n ≡ 0 → separator n ≡ line_feed
unfolding separator
separator_last zero e = refl
separator_last (suc n) e = absurd (omega arith)

-- the numbers ns are read, and n more are to be read from place `next` on
pub record Begun (whole : Option (Front (List ℕ))) (t ns : List ℕ) (n next : ℕ) : Type 0 where
  pub line : whole ≡ (line_of n (drop next t) >>= λ xs. some (front (ns ++ xs.got) xs.rest))

pub begins : (t : List ℕ) (n at m : ℕ) → m ≡ n → Begun (line_of n (drop at t)) t [] m at
begins t n at m e = record { line = rw e (go (line_of n (drop at t))) }
  where
    go : (o : Option (Front (List ℕ))) → o ≡ (o >>= λ xs. some (front xs.got xs.rest))
    go none = refl
    go (some x) = refl

module _ {whole : Option (Front (List ℕ))} {t ns : List ℕ} {m next : ℕ} (b : Begun whole t ns m next) where
  module _ (n : ℕ) (more : m ≡ suc n) where
    pub no_number : none ≡ number (drop next t) → whole ≡ none
    unfolding line_of
    no_number e = b.line ∙ rw (more, sym e)

    module _ (s : NumberAt) (is : number_step t (Some s) ≡ number (drop next t)) where
      pub no_separator : none ≡ after (separator n ∷ []) (drop s.next t) → whole ≡ none
      unfolding number_step line_of
      no_separator e = b.line ∙ rw (more, sym is, sym e)

      pub goes_on : (a : ℕ) → byte_step t (Some a) ≡ after (separator n ∷ []) (drop s.next t) → Begun whole t (ns ++ (s.value ∷ [])) n a
      unfolding number_step byte_step line_of
      goes_on a e = record { line = b.line ∙ rw (more, sym is, sym e) (go (line_of n (drop a t))) }
        where
          go : (o : Option (Front (List ℕ)))
              → (o >>= (λ xs. some (front (s.value ∷ xs.got) xs.rest)) >>= λ xs. some (front (ns ++ xs.got) xs.rest))
              ≡ (o >>= λ xs. some (front ((ns ++ (s.value ∷ [])) ++ xs.got) xs.rest))
          go none = refl
          go (some x) = ap (λ (ms : List ℕ). some (front ms x.rest)) (sym (append_assoc ns (s.value ∷ []) x.got))

  all_read : m ≡ 0 → whole ≡ some (front ns (drop next t))
  unfolding line_of
  all_read e = b.line ∙ rw (e, append-nil ns)

-- ---- the lent numbers, the first k of them read

abbrev pub held : ℕ → List ℕ → List ℕ → List ℕ
held k ns ys = ns ++ drop k ys

module _ (t ns ys : List ℕ) (k : ℕ) {whole : Option (Front (List ℕ))} where
  pub line_is_read : {m next : ℕ} → Begun whole t ns m next → m ≡ 0 → k ≡ length ys → line_step t (held k ns ys) (Some next) ≡ whole
  unfolding line_step
  line_is_read b z e =
      let past : length ys ≤ k = omega arith in
      rw (drop_of_length-le ys past, append-nil ns) (sym (all_read b z))

  pub no_line_read : whole ≡ none → line_step t (held k ns ys) None ≡ whole
  unfolding line_step
  no_line_read e = sym e

module _ (ys ns : List ℕ) (k : ℕ) (long : length ns ≡ k) where
  pub next_held : (x : ℕ) → k < length ys → set (held k ns ys) k x ≡ held (k + 1) (ns ++ (x ∷ [])) ys
  next_held x h =
      ap (λ (r : List ℕ). set (ns ++ r) k x) (drop-cons ys k x h)
      ∙ ap (λ (j : ℕ). set (ns ++ (get_or ys k x ∷ drop (suc k) ys)) j x) (sym long)
      ∙ set-append_seam ns (get_or ys k x) (drop (suc k) ys) x
      ∙ sym (append_assoc ns (x ∷ []) (drop (suc k) ys))
      ∙ ap (λ (j : ℕ). (ns ++ (x ∷ [])) ++ drop j ys) (sym (add-one k))

  pub length_held : k ≤ length ys → length (held k ns ys) ≡ length ys
  length_held h = simp (length-append, length-drop) (omega arith)

  pub length_more : (x : ℕ) → length (ns ++ (x ∷ [])) ≡ k + 1
  length_more x = simp length-append (omega arith)

-- ---- a line's numbers, each at its index

abbrev pub picked : ℕ → ℕ → List ℕ → List ℕ
picked k zero ns = []
picked k (suc n) ns = get_or ns k 0 ∷ picked (suc k) n ns

all_picked : (n k : ℕ) (ns : List ℕ) → length ns ≡ k + n → drop k ns ≡ picked k n ns
all_picked zero k ns e = let past : length ns ≤ k = omega arith in drop_of_length-le ns past
all_picked (suc n) k ns e = drop-cons ns k 0 (omega arith) ∙ ap (λ (ms : List ℕ). get_or ns k 0 ∷ ms) (all_picked n (suc k) ns (omega arith))

pub line_picked : (t ns : List ℕ) (next n : ℕ) → length ns ≡ n → some (front (picked 0 n ns) (drop next t)) ≡ line_step t ns (Some next)
unfolding line_step
line_picked t ns next n e = ap (λ (ms : List ℕ). some (front ms (drop next t))) (sym (all_picked n 0 ns (omega arith)))
