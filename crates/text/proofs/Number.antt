-- Each number has one decimal: reading its digits gives the number back, and nothing else does.
-- Assumes nothing.
use mathlib.Core.Path.{◌≡◌, refl, sym, ap, ap₂, ◌∙◌}
use mathlib.Core.Bool.{Bool, true, false, cond, not, false≢true}
use mathlib.Core.List.{List, [], ◌∷◌, ◌++◌, append_assoc, append-nil}
use mathlib.Core.Logic.{⊎_elim}
use mathlib.Core.Option.{none, some, none-ne-some, some-injective}
use Prim.Native.Nat.{ℕ, zero, suc, ◌+◌, ◌-◌, ◌*◌, ◌/◌, ◌%◌, ◌^◌, ◌≤◌, ◌<◌, zero-le}
use native.Mathlib.Nat.{not-suc-le-zero, le_refl, one-le-pow}
use native.Mathlib.Omega.{arith}
use borrow.Author.Tests.{leb-true, eqb-false, le-leb, lt-ltb, le-ltb, ne_eqb, not-true}
use lib.Dec.{leb, eqb}
use lib.ListN.{length, get_or, length-append}
use Rattle.graph.specs.Lists.{all}
use Rattle.graph.proofs.Lists.{at_most_or_above, and_left, and_right, and_both}
use Rattle.text.specs.Number.{
  digit,
  is_digit,
  digits,
  decimal,
  Front,
  front,
  digit_run,
  value_from,
  no_leading_zero,
  most_number,
  is_number,
  number,
}

-- the text does not start with a digit
abbrev pub NoDigitFirst : List ℕ → Type 0
NoDigitFirst t = is_digit (get_or t 0 0) ≡ false

-- ---- the decimal, digit by digit

digits_one : (k n : ℕ) → n < 10 → digits (suc k) n ≡ digit n ∷ []
unfolding digits
digits_one k n h = rw (lt-ltb n 10 h, digits)

digits_more : (k n : ℕ) → 10 ≤ n → digits (suc k) n ≡ digits k (n / 10) ++ (digit (n % 10) ∷ [])
unfolding digits
digits_more k n h = rw (le-ltb n 10 h, digits)

-- more room for digits does not change them
digits_same : (k j n : ℕ) → n < k → n < j → digits k n ≡ digits j n
digits_same zero j n h l = absurd (not-suc-le-zero h)
digits_same (suc k) zero n h l = absurd (not-suc-le-zero l)
digits_same (suc k) (suc j) n h l = ⊎_elim
    (λ (m : 10 ≤ n). digits_more k n m
    ∙ ap (λ (bs : List ℕ). bs ++ (digit (n % 10) ∷ [])) (digits_same k j (n / 10) (omega arith) (omega arith)) ∙ sym (digits_more j n m))
    (λ (o : n < 10). digits_one k n o ∙ sym (digits_one j n o))
    (at_most_or_above 10 n)

pub decimal_one : (n : ℕ) → n < 10 → decimal n ≡ digit n ∷ []
unfolding decimal
decimal_one n h = digits_one n n h

pub decimal_more : (n : ℕ) → 10 ≤ n → decimal n ≡ decimal (n / 10) ++ (digit (n % 10) ∷ [])
unfolding decimal
decimal_more n h =
    digits_more n n h
    ∙ ap (λ (bs : List ℕ). bs ++ (digit (n % 10) ∷ [])) (digits_same n (suc (n / 10)) (n / 10) (omega arith) (le_refl (suc (n / 10))))

pub decimal_longer : (n : ℕ) → 10 ≤ n → length (decimal n) ≡ suc (length (decimal (n / 10)))
decimal_longer n h = omega (arith, simp length-append at (ap length (decimal_more n h)))

-- from 10 ^ k on and below ten times that a number has k + 1 digits
pub decimal_size : (k n : ℕ) → 10 ^ k ≤ n → n < 10 ^ suc k → suc k ≡ length (decimal n)
decimal_size zero n least most = sym (ap length (decimal_one n most))
decimal_size (suc k) n least most =
    let more : 10 ≤ n = omega (arith, one-le-pow k 10 (omega arith)) in
    ap suc (decimal_size k (n / 10) (omega arith) (omega arith)) ∙ sym (decimal_longer n more)

-- a number below 10 ^ k has at most k digits
digits_short : (j k n : ℕ) → n < 10 ^ suc k → length (digits j n) ≤ suc k
unfolding digits
digits_short zero k n h = zero-le
digits_short (suc j) zero n h = rw (digits_one j n h) (omega arith)
digits_short (suc j) (suc k) n h = ⊎_elim
    (λ (m : 10 ≤ n).
    rw (digits_more j n m, length-append (digits j (n / 10)) (digit (n % 10) ∷ []))
    (omega (arith, digits_short j k (n / 10) (omega arith))))
    (λ (o : n < 10). rw (digits_one j n o) (omega arith))
    (at_most_or_above 10 n)

pub decimal_short : (k n : ℕ) → n < 10 ^ suc k → length (decimal n) ≤ suc k
unfolding decimal
decimal_short k n h = digits_short (suc n) k n h

-- ---- what the digits of a number are like

record Writes (bs : List ℕ) (n : ℕ) : Type 0 where
  each : all is_digit bs ≡ true
  lead : no_leading_zero bs ≡ true
  value : value_from 0 bs ≡ n

module _ (b : ℕ) where
  pub digit_least : is_digit b ≡ true → 48 ≤ b
  digit_least e = leb-true 48 b (and_left (leb 48 b) (leb b 57) e)

  pub digit_most : is_digit b ≡ true → b ≤ 57
  digit_most e = leb-true b 57 (and_right (leb 48 b) (leb b 57) e)

  is_digit_lem : 48 ≤ b → b ≤ 57 → is_digit b ≡ true
  is_digit_lem h l = and_both (leb 48 b) (leb b 57) (le-leb 48 b h) (le-leb b 57 l)

value_snoc : (bs : List ℕ) (m b : ℕ) → value_from m (bs ++ (b ∷ [])) ≡ 10 * value_from m bs + (b - 48)
unfolding value_from
value_snoc [] m b = refl
value_snoc (c ∷ bs) m b = value_snoc bs (10 * m + (c - 48)) b

each_snoc : (bs : List ℕ) (b : ℕ) → all is_digit bs ≡ true → is_digit b ≡ true → all is_digit (bs ++ (b ∷ [])) ≡ true
unfolding all
each_snoc [] b e h = and_both _ _ h refl
each_snoc (c ∷ bs) b e h =
    and_both _ _ (and_left (is_digit c) (all is_digit bs) e) (each_snoc bs b (and_right (is_digit c) (all is_digit bs) e) h)

-- the first of several digits is not 0
lead_not_zero : (b c : ℕ) (bs : List ℕ) → no_leading_zero (b ∷ c ∷ bs) ≡ true → ¬ (b ≡ digit 0)
unfolding no_leading_zero
lead_not_zero b c bs e = eqb-false b (digit 0) (not-true (eqb b (digit 0)) e)

-- a value above 0 does not start with 0
lead_snoc : (bs : List ℕ) (b : ℕ) → no_leading_zero bs ≡ true → 0 < value_from 0 bs → no_leading_zero (bs ++ (b ∷ [])) ≡ true
unfolding no_leading_zero value_from
lead_snoc [] b e h = absurd (false≢true e)
lead_snoc (c ∷ []) b e h = ap not (ne_eqb c 48 (λ q. absurd (omega arith)))
lead_snoc (c ∷ d ∷ bs) b e h = e

decimal_writes : (k n : ℕ) → n < k → Writes (decimal n) n
unfolding all no_leading_zero value_from
decimal_writes zero n h = absurd (not-suc-le-zero h)
decimal_writes (suc k) n h = ⊎_elim
    (λ (m : 10 ≤ n).
    let w = decimal_writes k (n / 10) (omega arith) in
    rw (decimal_more n m)
    (record {
      each = each_snoc (decimal (n / 10)) (digit (n % 10)) w.each (is_digit_lem (digit (n % 10)) (omega arith) (omega arith));
      lead = lead_snoc (decimal (n / 10)) (digit (n % 10)) w.lead (omega (arith, w.value));
      value = value_snoc (decimal (n / 10)) 0 (digit (n % 10)) ∙ omega (arith, w.value);
    }))
    (λ (o : n < 10). rw (decimal_one n o)
    (record { each = and_both _ _ (is_digit_lem (digit n) (omega arith) (omega arith)) refl; lead = refl; value = omega arith }))
    (at_most_or_above 10 n)

-- digits that follow those of a number above 0
decimal_from : (bs : List ℕ) (m : ℕ) → 0 < m → all is_digit bs ≡ true → decimal (value_from m bs) ≡ decimal m ++ bs
unfolding all value_from
decimal_from [] m h e = sym (append-nil (decimal m))
decimal_from (b ∷ bs) m h e =
    let l = digit_least b (and_left (is_digit b) (all is_digit bs) e) in
    let u = digit_most b (and_left (is_digit b) (all is_digit bs) e) in
    let n : ℕ = 10 * m + (b - 48) in
    let q : n / 10 ≡ m = omega arith in
    let r : digit (n % 10) ≡ b = omega arith in
    decimal_from bs n (omega arith) (and_right (is_digit b) (all is_digit bs) e)
    ∙ ap (λ (cs : List ℕ). cs ++ bs) (decimal_more n (omega arith) ∙ ap₂ (λ (x y : ℕ). decimal x ++ (y ∷ [])) q r)
    ∙ append_assoc (decimal m) (b ∷ []) bs

writes_decimal : (bs : List ℕ) (n : ℕ) → Writes bs n → bs ≡ decimal n
unfolding all value_from no_leading_zero
writes_decimal [] n w = absurd (false≢true w.lead)
writes_decimal (b ∷ []) n w =
    let l = digit_least b (and_left (is_digit b) true w.each) in
    let u = digit_most b (and_left (is_digit b) true w.each) in
    let q : digit n ≡ b = omega (arith, w.value) in
    ap (λ (x : ℕ). x ∷ []) (sym q) ∙ sym (decimal_one n (omega (arith, w.value)))
writes_decimal (b ∷ c ∷ bs) n w =
    let l = digit_least b (and_left (is_digit b) _ w.each) in
    let u = digit_most b (and_left (is_digit b) _ w.each) in
    let m : ℕ = 10 * 0 + (b - 48) in
    let h : 0 < m = omega (arith, lead_not_zero b c bs w.lead) in
    let q : digit m ≡ b = omega arith in
    ap (λ (x : ℕ). x ∷ c ∷ bs) (sym q)
    ∙ ap (λ (cs : List ℕ). cs ++ (c ∷ bs)) (sym (decimal_one m (omega arith)))
    ∙ sym (decimal_from (c ∷ bs) m h (and_right (is_digit b) _ w.each))
    ∙ ap decimal w.value

-- ---- reading digits

run_of : (bs t : List ℕ) → all is_digit bs ≡ true → NoDigitFirst t → digit_run (bs ++ t) ≡ front bs t
unfolding all digit_run
run_of [] [] e h = refl
run_of [] (b ∷ t) e h = rw (h, digit_run)
run_of (b ∷ bs) t e h =
    rw (and_left (is_digit b) (all is_digit bs) e, digit_run)
    (ap (λ (r : Front (List ℕ)). front (b ∷ r.got) r.rest) (run_of bs t (and_right (is_digit b) (all is_digit bs) e) h))

run_is : (t : List ℕ) → (all is_digit (digit_run t).got ≡ true) × (t ≡ (digit_run t).got ++ (digit_run t).rest)
unfolding all digit_run
run_is [] = (refl, refl)
run_is (b ∷ t) = go (is_digit b) refl (run_is t)
  where
    go : (x : Bool) → is_digit b ≡ x → (all is_digit (digit_run t).got ≡ true) × (t ≡ (digit_run t).got ++ (digit_run t).rest)
        → (all is_digit (digit_run (b ∷ t)).got ≡ true) × (b ∷ t ≡ (digit_run (b ∷ t)).got ++ (digit_run (b ∷ t)).rest)
    go true e r = rw (e, digit_run) (and_both _ _ e r.0, ap (λ (u : List ℕ). b ∷ u) r.1)
    go false e r = rw (e, digit_run) (refl, refl)

pub number_of_decimal : (n : ℕ) (t : List ℕ) → n ≤ most_number → NoDigitFirst t → number (decimal n ++ t) ≡ some (front n t)
unfolding number is_number
number_of_decimal n t h d =
    let w = decimal_writes (suc n) n (le_refl (suc n)) in
    rw (run_of (decimal n) t w.each d, w.lead, w.value, le-leb n most_number h)

cond_some : {A : Type 0} (b : Bool) (x y : A) → cond b (some x) none ≡ some y → (b ≡ true) × (x ≡ y)
cond_some true x y e = (refl, some-injective x y e)
cond_some false x y e = absurd (none-ne-some y e)

pub number_states : (t rest : List ℕ) (n : ℕ) → number t ≡ some (front n rest) → (n ≤ most_number) × (t ≡ decimal n ++ rest)
unfolding number is_number
number_states t rest n e =
    let bs = (digit_run t).got in
    let c = cond_some (is_number bs) (front (value_from 0 bs) (digit_run t).rest) (front n rest) e in
    let v = ap (λ (x : Front ℕ). x.got) c.1 in
    let lead = and_left (no_leading_zero bs) (leb (value_from 0 bs) most_number) c.0 in
    let most = leb-true (value_from 0 bs) most_number (and_right (no_leading_zero bs) (leb (value_from 0 bs) most_number) c.0) in (
      rw v at most,
      (run_is t).1
          ∙ ap₂ (λ (x y : List ℕ). x ++ y) (writes_decimal bs n (record { each = (run_is t).0; lead = lead; value = v }))
          (ap (λ (x : Front ℕ). x.rest) c.1),
    )

-- nothing else reads as the same digits
pub decimals_decode : (m n : ℕ) (t u : List ℕ) → NoDigitFirst t → NoDigitFirst u → decimal m ++ t ≡ decimal n ++ u → (m ≡ n) × (t ≡ u)
decimals_decode m n t u h l e =
    let w = decimal_writes (suc m) m (le_refl (suc m)) in
    let x = decimal_writes (suc n) n (le_refl (suc n)) in
    let q : front (decimal m) t ≡ front (decimal n) u =
    sym (run_of (decimal m) t w.each h) ∙ ap digit_run e ∙ run_of (decimal n) u x.each l in
    (sym w.value ∙ ap (λ (r : Front (List ℕ)). value_from 0 r.got) q ∙ x.value, ap (λ (r : Front (List ℕ)). r.rest) q)
