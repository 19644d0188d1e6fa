-- Numbers. A run of digits is read digit by digit: what each digit does to the value of a run, and how a run ends.
-- Assumes nothing.
use mathlib.Core.Path.{◌≡◌, refl, sym, ap, subst, ◌∙◌}
use mathlib.Core.Bool.{Bool, true, false, cond}
use mathlib.Core.List.{List, [], ◌∷◌}
use mathlib.Core.Logic.{◌⊎◌, inl, inr, ⊎_elim}
use mathlib.Core.Option.{Option, none, some}
use Rattle.std.specs.Prelude.{Option as Found, Some, None}
use Prim.Native.Nat.{ℕ, ◌+◌, ◌-◌, ◌*◌, ◌≤◌, ◌<◌}
use native.Mathlib.Nat.{le_refl}
use native.Mathlib.Omega.{arith}
use borrow.Author.Tests.{ne_eqb, le-leb, lt-leb, lt-ltb}
use lib.Dec.{leb, ltb}
use lib.ListN.{length, drop, length-drop}
use lib.Seq.{drop-drop}
use Rattle.graph.proofs.Lists.{true_or_false}
use Rattle.scanner.specs.declared.number.NumberAt.{NumberAt}
use Rattle.text.specs.Number.{digit, is_digit, Front, front, digit_run, value_from, no_leading_zero, most_number, is_number, number}
use Rattle.scanner.specs.Tokens.{digit_at, number_step, run_value}
use Rattle.text.proofs.Number.{digit_least, digit_most}

-- the digits at the front of a text, and the text that follows them
abbrev run : List ℕ → List ℕ
run t = (digit_run t).got

abbrev rest : List ℕ → List ℕ
rest t = (digit_run t).rest

-- ---- a text starts with a digit, which its run takes, or its run is over

record Taken (t : List ℕ) (d : ℕ) : Type 0 where
  is : digit_at t ≡ Some d
  small : d < 10
  there : 0 < length t
  runs : {bs u : List ℕ} → digit_run (drop 1 t) ≡ front bs u → digit_run t ≡ front (digit d ∷ bs) u

record Over (t : List ℕ) : Type 0 where
  none_there : digit_at t ≡ None
  runs : digit_run t ≡ front [] t

first : (t : List ℕ) → ((d : ℕ) × Taken t d) ⊎ Over t
unfolding digit_at digit_run
first [] = inr (record { none_there = refl; runs = refl })
first (b ∷ t) = ⊎_elim
    (λ (e : is_digit b ≡ true).
    let l = digit_least b e in
    let m = digit_most b e in
    let s : digit (b - 48) ≡ b = omega arith in
    inl (
      b - 48,
      record {
        is = rw e;
        small = omega arith;
        there = omega arith;
        runs = λ q. rw s (rw (e, digit_run) (ap (λ (r : Front (List ℕ)). front (b ∷ r.got) r.rest) q));
      },
    ))
    (λ (e : is_digit b ≡ false). inr (record { none_there = rw e; runs = rw (e, digit_run) }))
    (true_or_false (is_digit b))

taken : (t : List ℕ) (d : ℕ) → Some d ≡ digit_at t → Taken t d
taken t d h = ⊎_elim
    (λ (x : (e : ℕ) × Taken t e). let same : x.0 ≡ d = (cc (x.1.is)) in subst (Taken t) same x.1)
    (λ (o : Over t). cc (o.none_there))
    (first t)

over : (t : List ℕ) → None ≡ digit_at t → Over t
over t h = ⊎_elim (λ (x : (e : ℕ) × Taken t e). cc (x.1.is)) (λ o. o) (first t)

pub digit_within : (t : List ℕ) (n d : ℕ) → Some d ≡ digit_at (drop n t) → n < length t
digit_within t n d h = omega (arith, (taken (drop n t) d h).there, length-drop n t)

-- ---- the value of a run

value_grows : (n : ℕ) (bs : List ℕ) → n ≤ value_from n bs
unfolding value_from
value_grows n [] = le_refl n
value_grows n (b ∷ bs) = omega (arith, value_grows (10 * n + (b - 48)) bs)

run_value_is : (t : List ℕ) {bs u : List ℕ} → digit_run t ≡ front bs u
    → run_value t ≡ cond (leb (value_from 0 bs) most_number) (cond (ltb 0 (length bs)) (some (front (value_from 0 bs) u)) none) none
unfolding run_value
run_value_is t {bs = []} e = rw (e, run_value)
run_value_is t {bs = b ∷ bs} e = rw (e, lt-ltb 0 (length (b ∷ bs)) (omega arith), run_value) (rw e)

no_digits : (b : Bool) → cond {A = Option (Front ℕ)} b none none ≡ none
no_digits true = refl
no_digits false = refl

-- ---- digits that were read

-- the digits from the place `at` to the place `next` were read, and have this value: the run at `next` is what is left of the run at `at`
pub record RunTo (t : List ℕ) (at next value : ℕ) : Type 0 where
  count : at + length (run (drop at t)) ≡ next + length (run (drop next t))
  same : value_from 0 (run (drop at t)) ≡ value_from value (run (drop next t))
  follows : rest (drop at t) ≡ rest (drop next t)

module _ (t : List ℕ) (at : ℕ) where
  pub passed_none : RunTo t at at 0
  passed_none = record { count = refl; same = refl; follows = refl }

  module _ (next value : ℕ) (p : RunTo t at next value) where
    pub passed_more : (d : ℕ) → Some d ≡ digit_at (drop next t) → RunTo t at (next + 1) (value * 10 + d)
    unfolding value_from
    passed_more d q =
        let u = drop (next + 1) t in
        let e : digit_run (drop next t) ≡ front (digit d ∷ run u) (rest u) =
        rw (← drop-drop 1 next t) ((taken (drop next t) d q).runs refl) in
        record {
          count = omega (arith, ap (λ (r : Front (List ℕ)). length r.got) e);
          same =
              p.same
              ∙ ap (λ (r : Front (List ℕ)). value_from value r.got) e
              ∙ ap (λ (x : ℕ). value_from x (run u)) (omega arith);
          follows = p.follows ∙ ap (λ (r : Front (List ℕ)). r.rest) e;
        }

    -- a value past the limit stays past it
    pub passed_limit : (d : ℕ) → Some d ≡ digit_at (drop next t) → most_number < value * 10 + d → none ≡ run_value (drop at t)
    passed_limit d q h =
        let m = passed_more d q in
        let r = run (drop at t) in
        let past : most_number < value_from 0 r = omega (arith, m.same, value_grows (value * 10 + d) (run (drop (next + 1) t))) in
        sym (run_value_is (drop at t) refl ∙ rw (lt-leb (value_from 0 r) most_number past))

    module _ (over_here : None ≡ digit_at (drop next t)) where
      ended : digit_run (drop next t) ≡ front [] (drop next t)
      ended = (over (drop next t) over_here).runs

      took : at + length (run (drop at t)) ≡ next
      took = omega (arith, p.count, ap (λ (r : Front (List ℕ)). length r.got) ended)

      pub passed_all : value ≤ most_number → at < next → some (front value (drop next t)) ≡ run_value (drop at t)
      unfolding value_from
      passed_all l h =
          let v : value_from 0 (run (drop at t)) ≡ value = p.same ∙ ap (λ (r : Front (List ℕ)). value_from value r.got) ended in
          let f : rest (drop at t) ≡ drop next t = p.follows ∙ ap (λ (r : Front (List ℕ)). r.rest) ended in
          let s = lt-ltb 0 (length (run (drop at t))) (omega (arith, took)) in
          sym (run_value_is (drop at t) refl ∙ rw (v, f, le-leb value most_number l, s))

      pub passed_nothing : next ≤ at → none ≡ run_value (drop at t)
      passed_nothing h =
          let n : length (run (drop at t)) ≡ 0 = omega (arith, took) in
          sym (run_value_is (drop at t) refl ∙ rw n (no_digits (leb (value_from 0 (run (drop at t))) most_number)))

-- ---- the number at the front: a zero stands alone

number_is : (t : List ℕ) {bs u : List ℕ} → digit_run t ≡ front bs u → number t ≡ cond (is_number bs) (some (front (value_from 0 bs) u)) none
unfolding number
number_is t e = rw (e, number)

-- what is answered at a zero, by the digit behind it
abbrev alone : Found ℕ → ℕ → Found NumberAt
alone None next = Some (record { value = 0; next = next })
alone (Some d) next = None

-- the digit behind the zero says whether a number stands there
pub zero_stands : (t : List ℕ) (at : ℕ) (d : Found ℕ) → Some 0 ≡ digit_at (drop at t) → d ≡ digit_at (drop (at + 1) t)
    → number_step t (alone d (at + 1)) ≡ number (drop at t)
unfolding number_step is_number no_leading_zero value_from
zero_stands t at None z e =
    let u = drop (at + 1) t in
    let r : digit_run (drop 1 (drop at t)) ≡ front [] u = rw (drop-drop 1 at t) (over u e).runs in
    sym (rw (number_is (drop at t) ((taken (drop at t) 0 z).runs r)))
zero_stands t at (Some d) z e =
    let u = drop (at + 1) t in
    let r : digit_run (drop 1 (drop at t)) ≡ front (digit d ∷ run (drop 1 u)) (rest (drop 1 u)) =
    rw (drop-drop 1 at t) ((taken u d e).runs refl) in
    sym (rw (number_is (drop at t) ((taken (drop at t) 0 z).runs r)))

-- the same, with each answer in sight
pub zero_alone : (t : List ℕ) (at d : ℕ) → Some d ≡ digit_at (drop at t) → d ≡ 0 → None ≡ digit_at (drop (at + 1) t)
    → some (front 0 (drop (at + 1) t)) ≡ number (drop at t)
unfolding number_step
zero_alone t at d h z n = zero_stands t at None (rw z at h) n

pub zero_leads : (t : List ℕ) (at d c : ℕ) → Some d ≡ digit_at (drop at t) → d ≡ 0 → Some c ≡ digit_at (drop (at + 1) t)
    → none ≡ number (drop at t)
unfolding number_step
zero_leads t at d c h z n = zero_stands t at (Some c) (rw z at h) n

leads : (b : ℕ) (bs : List ℕ) → ¬ (b ≡ digit 0) → no_leading_zero (b ∷ bs) ≡ true
unfolding no_leading_zero
leads b [] h = refl
leads b (c ∷ bs) h = rw (ne_eqb b (digit 0) h)

pub run_is_number : (t : List ℕ) → ¬ (digit_at t ≡ Some 0) → run_value t ≡ number t
unfolding is_number
run_is_number t h = ⊎_elim
    (λ (x : (d : ℕ) × Taken t d).
    let e = x.1.runs refl in
    let b = digit x.0 in
    let bs = run (drop 1 t) in
    let one = lt-ltb 0 (length (b ∷ bs)) (omega arith) in
    let other : ¬ (x.0 ≡ 0) = λ q. h (x.1.is ∙ ap Some q) in
    rw (run_value_is t e, number_is t e, one, leads b bs (λ q. other (omega arith))))
    (λ (o : Over t). rw (run_value_is t o.runs, number_is t o.runs))
    (first t)
