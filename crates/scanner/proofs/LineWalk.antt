-- The loop of `scanner::line::line_of`, in numbers: where it stands, how it goes on, and that what is answered where it ends is right.
-- Assumes nothing.
use mathlib.Core.Path.{◌≡◌, refl, sym, ap, ◌∙◌}
use mathlib.Core.List.{List, [], ◌∷◌, ◌++◌}
use mathlib.Core.Option.{Option, none}
use Prim.Native.Nat.{ℕ, ◌+◌, ◌-◌, ◌<◌, ◌≤◌}
use native.Mathlib.Omega.{arith}
use lib.ListN.{length, set, drop}
use Rattle.std.specs.Prelude.{Option as Found, Some, None}
use Rattle.scanner.specs.declared.number.NumberAt.{NumberAt}
use Rattle.text.specs.Number.{number}
use Rattle.text.specs.Line.{space, line_feed, separator, after, line_of}
use Rattle.scanner.specs.Tokens.{number_step, byte_step}
use Rattle.scanner.specs.Lines.{line_step}
use Rattle.scanner.proofs.Lines.{
  Begun,
  begins,
  no_number,
  no_separator,
  goes_on,
  separator_between,
  separator_last,
  held,
  next_held,
  line_is_read,
  no_line_read,
  length_held,
  length_more,
}

-- of the numbers ys that are lent k are read, the reader stands at a place of the text that it reads, and ns is what is lent now
pub record State (text : List ℕ) (at : ℕ) (ys read : List ℕ) (pos k : ℕ) (ns : List ℕ) : Type 0 where
  pub same_text : read ≡ text
  pub l : List ℕ
  pub long : length l ≡ k
  pub room : k ≤ length ys
  pub begun : Begun (line_of (length ys) (drop at text)) read l (length ys - k) pos
  pub numbers : ns ≡ held k l ys

pub at_first : (text : List ℕ) (at : ℕ) (ys : List ℕ) → State text at ys text at 0 ys
at_first text at ys = record {
  same_text = refl;
  l = [];
  long = refl;
  room = omega arith;
  begun = begins text (length ys) at (length ys - 0) (omega arith);
  numbers = refl;
}

module _ {text : List ℕ} {at : ℕ} {ys read : List ℕ} {pos k : ℕ} {ns : List ℕ} (t : State text at ys read pos k ns) where
  pub same_size : length ns ≡ length ys
  same_size = ap length t.numbers ∙ length_held ys t.l k t.long t.room

  -- what is answered is right
  abbrev pub Right : Found ℕ → Type 0
  Right o = line_step text ns o ≡ line_of (length ys) (drop at text)

  right_at : (o : Found ℕ) → line_step read (held k t.l ys) o ≡ line_of (length ys) (drop at text) → Right o
  right_at o e =
      ap (λ (x : List ℕ). line_step x ns o) (sym t.same_text)
      ∙ ap (λ (ms : List ℕ). line_step read ms o) t.numbers
      ∙ e

  pub all_right : length ns ≤ k → Right (Some pos)
  all_right full =
      right_at (Some pos) (line_is_read read t.l ys k t.begun (omega (arith, same_size)) (omega (arith, t.room, same_size)))

  -- where nothing is answered, that is right whatever is lent then
  pub whatever_lent : (ms : List ℕ) → Right None → line_step text ms None ≡ line_of (length ys) (drop at text)
  unfolding line_step
  whatever_lent ms e = e

  -- how many are needed after the next
  abbrev pub later : ℕ
  later = length ys - (k + 1)

  -- the byte that is asked for is the one that the line needs
  pub between : {o : Option (List ℕ)} (u : List ℕ) → k + 1 < length ns → o ≡ after (space ∷ []) u
      → o ≡ after (separator later ∷ []) u
  between u more e = e ∙ ap (λ (b : ℕ). after (b ∷ []) u) (sym (separator_between later (omega (arith, same_size))))

  pub behind_last : {o : Option (List ℕ)} (u : List ℕ) → length ns ≤ k + 1 → o ≡ after (line_feed ∷ []) u
      → o ≡ after (separator later ∷ []) u
  behind_last u last e = e ∙ ap (λ (b : ℕ). after (b ∷ []) u) (sym (separator_last later (omega (arith, same_size))))

  module _ (less : k < length ns) where
    pub without_number : none ≡ number (drop pos read) → Right None
    without_number e = right_at None (no_line_read read t.l ys k (no_number t.begun later (omega (arith, same_size)) e))

    module _ (s : NumberAt) (s-is : number_step read (Some s) ≡ number (drop pos read)) where
      pub without_separator : none ≡ after (separator later ∷ []) (drop s.next read) → Right None
      without_separator e =
          right_at None (no_line_read read t.l ys k (no_separator t.begun later (omega (arith, same_size)) s s-is e))

      pub further : (a : ℕ) → byte_step read (Some a) ≡ after (separator later ∷ []) (drop s.next read)
          → State text at ys read a (k + 1) (set ns k s.value)
      further a a-is =
          let l : k < length ys = omega (arith, same_size) in
          record {
            same_text = t.same_text;
            l = t.l ++ (s.value ∷ []);
            long = length_more ys t.l k t.long s.value;
            room = omega arith;
            begun = goes_on t.begun later (omega arith) s s-is a a-is;
            numbers = ap (λ (ms : List ℕ). set ms k s.value) t.numbers ∙ next_held ys t.l k t.long s.value l;
          }
