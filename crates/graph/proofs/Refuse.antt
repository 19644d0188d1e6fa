-- What an answer must be: of the refusals given the one of lowest rank, or none; the number that shows it; and tables of rows,
-- whose first row that holds is that refusal.
-- Assumes nothing.
use mathlib.Core.Path.{◌≡◌, refl, sym, ap, subst, ◌∙◌}
use mathlib.Core.Bool.{Bool, true, false, ◌&&◌, cond}
use mathlib.Core.List.{List, [], ◌∷◌, ◌++◌}
use mathlib.Core.Logic.{◌↔◌, ◌⊎◌, inl, inr, ⊎_elim}
use mathlib.Core.Option.{Option, none, some, some-injective, none-ne-some, some-ne-none, or_else}
use Prim.Native.Nat.{ℕ, suc, ◌≤◌, ◌<◌}
use native.Mathlib.Omega.{arith}
use borrow.Author.Tests.{leb-true}
use lib.Dec.{leb}
use lib.ListN.{get_or}
use Rattle.graph.specs.declared.refusal.Refusal.{Refusal}
use Rattle.graph.specs.declared.refusal.Refusal.TheVariants.{
  BadHeader,
  TooLarge,
  Latches,
  BadCount,
  BadLine,
  BadLiteral,
  BadGraph,
  BadAssignment,
  BadRoot,
  BadLeaves,
  NotACut,
  BadCandidate,
  NotEqual,
  NoGain,
  OrderLost,
  NoRoom,
}
use Rattle.graph.specs.Refuse.{number_of, Row, first_refusal, Lowest, Answers}
use Rattle.graph.proofs.Lists.{at_most_or_above, and_left, and_right}

-- ---- numbers and names

-- no two refusals have one rank
abbrev pub Apart : (Refusal → ℕ) → Type 0
Apart rank = (q r : Refusal) → rank q ≡ rank r → q ≡ r

named : ℕ → Option Refusal
named n =
    get_or
    (none
    ∷ some BadHeader
    ∷ some TooLarge
    ∷ some Latches
    ∷ some BadCount
    ∷ some BadLine
    ∷ some BadLiteral
    ∷ some BadGraph
    ∷ some BadAssignment
    ∷ some BadRoot
    ∷ some BadLeaves
    ∷ some NotACut
    ∷ some BadCandidate
    ∷ some NotEqual
    ∷ some NoGain
    ∷ some OrderLost
    ∷ some NoRoom
    ∷ [])
    n none

named_number : (r : Refusal) → named (number_of r) ≡ some r
unfolding named
named_number BadHeader = refl
named_number TooLarge = refl
named_number Latches = refl
named_number BadCount = refl
named_number BadLine = refl
named_number BadLiteral = refl
named_number BadGraph = refl
named_number BadAssignment = refl
named_number BadRoot = refl
named_number BadLeaves = refl
named_number NotACut = refl
named_number BadCandidate = refl
named_number NotEqual = refl
named_number NoGain = refl
named_number OrderLost = refl
named_number NoRoom = refl

pub number_of_injective : Apart number_of
number_of_injective q r e = some-injective q r (sym (named_number q) ∙ ap named e ∙ named_number r)

-- 0 is no refusal's number
pub number_of_not_zero : (r : Refusal) → ¬ (0 ≡ number_of r)
unfolding named
number_of_not_zero r e = none-ne-some r (ap named e ∙ named_number r)

-- where an answer's number is a refusal's, a refusal was given
pub shown : (o : Option Refusal) (n : ℕ) → (o ≡ none → n ≡ 0) → (r : Refusal) → n ≡ number_of r → (q : Refusal) × (o ≡ some q)
shown none n k r e = absurd (number_of_not_zero r (sym (k refl) ∙ e))
shown (some q) n k r e = (q, refl)

-- where it is 0 none was given
pub none_shown : (o : Option Refusal) (n : ℕ) → ((q : Refusal) → o ≡ some q → n ≡ number_of q) → n ≡ 0 → o ≡ none
none_shown none n h e = refl
none_shown (some q) n h e = absurd (number_of_not_zero q (sym e ∙ h q refl))

-- ---- what an answer must be

-- the refusal is the lowest of those given; without one none is given
pub data Settles (rank : Refusal → ℕ) (given : Refusal → Type 0) : Option Refusal → Type 0 where
  gives : {r : Refusal} → Lowest rank given r → Settles rank given (some r)
  clears : ((q : Refusal) → ¬ given q) → Settles rank given none

module _ {rank : Refusal → ℕ} {given : Refusal → Type 0} where
  pub settles_none : {o : Option Refusal} → Settles rank given o → (o ≡ none) ↔ ((q : Refusal) → ¬ given q)
  settles_none (gives {r = q} l) = (λ e. absurd (some-ne-none q e), λ n. absurd (n q l.holds))
  settles_none (clears n) = (λ e. n, λ m. refl)

  module _ (apart : Apart rank) where
    -- of two lowest neither is lower, so they are one
    lowest_one : {q r : Refusal} → Lowest rank given q → Lowest rank given r → q ≡ r
    lowest_one {q} {r} l m = apart q r (go (at_most_or_above (rank q) (rank r)) (at_most_or_above (rank r) (rank q)))
      where
        go : (rank q ≤ rank r) ⊎ (rank r < rank q) → (rank r ≤ rank q) ⊎ (rank q < rank r) → rank q ≡ rank r
        go (inr h) k = absurd (l.none_lower r h m.holds)
        go (inl h) (inr k) = absurd (m.none_lower q k l.holds)
        go (inl h) (inl k) = omega arith

    pub settles_lowest : {o : Option Refusal} → Settles rank given o → (r : Refusal) → (o ≡ some r) ↔ Lowest rank given r
    settles_lowest (gives {r = q} l) r = (λ e. subst (Lowest rank given) (some-injective q r e) l, λ m. ap some (lowest_one l m))
    settles_lowest (clears n) r = (λ e. absurd (none-ne-some r e), λ m. absurd (n r m.holds))

    -- a number that shows what settles is the answer's
    pub settles_answers : {o : Option Refusal} → Settles rank given o → (n : ℕ) → ((q : Refusal) → o ≡ some q → n ≡ number_of q)
        → (o ≡ none → n ≡ 0) → Answers rank given n
    settles_answers (gives {r = q} l) n h k = record {
      refuses = λ r. (
        λ e. subst (Lowest rank given) (number_of_injective q r (sym (h q refl) ∙ e)) l,
        λ m. h q refl ∙ ap number_of (lowest_one l m),
      );
      accepts = (λ e. absurd (number_of_not_zero q (sym e ∙ h q refl)), λ c. absurd (c q l.holds));
    }
    settles_answers (clears c) n h k = record {
      refuses = λ r. (λ e. absurd (number_of_not_zero r (sym (k refl) ∙ e)), λ m. absurd (c r m.holds));
      accepts = (λ e. c, λ m. k refl);
    }

-- a part that has all that is lower settles first, and the rest where nothing of the part is given
pub settles_then : {rank : Refusal → ℕ} {part whole : Refusal → Type 0} {o p : Option Refusal} → ((q : Refusal) → part q → whole q)
    → ((q r : Refusal) → whole q → part r → rank q < rank r → part q) → Settles rank part o
    → (((q : Refusal) → ¬ part q) → Settles rank whole p) → Settles rank whole (or_else o p)
unfolding or_else
settles_then wider lower (gives {r} l) s =
    gives (record { holds = wider r l.holds; none_lower = λ q h w. l.none_lower q h (lower q r w l.holds h) })
settles_then wider lower (clears c) s = s c

-- ---- a table of rows

-- the rows' ranks ascend, and none is below n
unfoldable pub ascends : (Refusal → ℕ) → ℕ → List Row → Bool
ascends rank n [] = true
ascends rank n (row ∷ rows) = leb n (rank row.refusal) && ascends rank (suc (rank row.refusal)) rows

-- a row whose test holds is given, if the tests before it do not hold
abbrev pub Sound : (Refusal → Type 0) → List Row → Type 0
Sound given [] = Unit
Sound given (row ∷ rows) = (row.holds ≡ true → given row.refusal) × (row.holds ≡ false → Sound given rows)

-- no test holds in the rows whose rank is at most q's
abbrev pub Silent : (Refusal → ℕ) → Refusal → List Row → Type 0
Silent rank q [] = Unit
Silent rank q (row ∷ rows) = (leb (rank row.refusal) (rank q) ≡ true → row.holds ≡ false) × Silent rank q rows

-- the rows test just what is given, in the order of the ranks
pub record Decides (rank : Refusal → ℕ) (given : Refusal → Type 0) (rows : List Row) : Type 0 where
  pub ascending : ascends rank 0 rows ≡ true
  pub sound : Sound given rows
  pub complete : (q : Refusal) → given q → ¬ Silent rank q rows

module _ (rank : Refusal → ℕ) (q : Refusal) where
  -- rows that rank above q have no say up to q
  silent_above : (m : ℕ) (rows : List Row) → rank q < m → ascends rank m rows ≡ true → Silent rank q rows
  unfolding ascends
  silent_above m [] h e = tt
  silent_above m (row ∷ rows) h e =
      let n = rank row.refusal in
      let k : m ≤ n = leb-true _ _ (and_left _ (ascends rank (suc n) rows) e) in (
        λ l. absurd (omega (arith, leb-true n (rank q) l)),
        silent_above (suc n) rows (omega arith) (and_right (leb m n) _ e),
      )

  -- a part of a table
  silent_left : (xs ys : List Row) → Silent rank q (xs ++ ys) → Silent rank q xs
  silent_left [] ys s = tt
  silent_left (x ∷ xs) ys s = (s.0, silent_left xs ys s.1)

  -- where no refusal is given no test holds
  pub none_silent : (rows : List Row) → first_refusal rows ≡ none → Silent rank q rows
  unfolding first_refusal
  none_silent [] e = tt
  none_silent (row ∷ rows) e = go row.holds refl e (none_silent rows)
    where
      go : (t : Bool) → row.holds ≡ t → cond t (some row.refusal) (first_refusal rows) ≡ none
          → (first_refusal rows ≡ none → Silent rank q rows) → Silent rank q (row ∷ rows)
      go true h k below = absurd (some-ne-none row.refusal k)
      go false h k below = (λ _. h, below k)

module _ {rank : Refusal → ℕ} {given : Refusal → Type 0} where
  settle : (rows : List Row) (m : ℕ) → ascends rank m rows ≡ true → Sound given rows → ((q : Refusal) → given q → ¬ Silent rank q rows)
      → Settles rank given (first_refusal rows)
  unfolding first_refusal ascends
  settle [] m e s c = clears (λ q h. c q h tt)
  settle (row ∷ rows) m e s c = go row.holds refl (settle rows (suc n) later)
    where
      n : ℕ
      n = rank row.refusal

      later : ascends rank (suc n) rows ≡ true
      later = and_right (leb m n) _ e

      go : (t : Bool) → row.holds ≡ t
          → (Sound given rows → ((q : Refusal) → given q → ¬ Silent rank q rows) → Settles rank given (first_refusal rows))
          → Settles rank given (cond t (some row.refusal) (first_refusal rows))
      go true h below = gives (record {
        holds = s.0 h;
        none_lower = λ q l k. c q k (
          λ u. absurd (omega (arith, leb-true n (rank q) u)),
          silent_above rank q (suc n) rows (omega arith) later,
        );
      })
      go false h below = below (s.1 h) (λ q k z. c q k (λ u. h, z))

  -- the first row that holds is the lowest refusal given
  pub first_settles : {rows : List Row} → Decides rank given rows → Settles rank given (first_refusal rows)
  first_settles {rows} d = settle rows 0 d.ascending d.sound d.complete

  pub first_lowest : Apart rank → {rows : List Row} → Decides rank given rows → (r : Refusal)
      → (first_refusal rows ≡ some r) ↔ Lowest rank given r
  first_lowest apart d = settles_lowest apart (first_settles d)

  pub first_none : {rows : List Row} → Decides rank given rows → (first_refusal rows ≡ none) ↔ ((q : Refusal) → ¬ given q)
  first_none d = settles_none (first_settles d)

-- ---- a table that goes on with further rows

-- the first rows decide, and the further ones where none of those holds
pub first_join : (xs ys : List Row) → first_refusal (xs ++ ys) ≡ or_else (first_refusal xs) (first_refusal ys)
unfolding first_refusal or_else
first_join [] ys = refl
first_join (x ∷ xs) ys = go x.holds (first_join xs ys)
  where
    go : (t : Bool) → first_refusal (xs ++ ys) ≡ or_else (first_refusal xs) (first_refusal ys)
        → cond t (some x.refusal) (first_refusal (xs ++ ys)) ≡ or_else (cond t (some x.refusal) (first_refusal xs)) (first_refusal ys)
    go true e = refl
    go false e = e

-- where the whole gives none, so does each part
pub none_parts : (xs ys : List Row) → first_refusal (xs ++ ys) ≡ none → (first_refusal xs ≡ none) × (first_refusal ys ≡ none)
unfolding or_else
none_parts xs ys e = go (first_refusal xs) (sym (first_join xs ys) ∙ e)
  where
    go : (o : Option Refusal) → or_else o (first_refusal ys) ≡ none → (o ≡ none) × (first_refusal ys ≡ none)
    go none h = (refl, h)
    go (some r) h = absurd (some-ne-none r h)

module _ {given whole : Refusal → Type 0} (wider : (q : Refusal) → given q → whole q) where
  sound_join : (xs ys : List Row) → Sound given xs → (first_refusal xs ≡ none → Sound whole ys) → Sound whole (xs ++ ys)
  unfolding first_refusal
  sound_join [] ys s t = t refl
  sound_join (x ∷ xs) ys s t = (λ e. wider x.refusal (s.0 e), λ e. sound_join xs ys (s.1 e) (λ h. t (rw e h)))

  -- what is given for the whole is given for the first rows, or the further rows do not miss it
  pub decides_join : {rank : Refusal → ℕ} {xs : List Row} (ys : List Row) → Decides rank given xs → ascends rank 0 (xs ++ ys) ≡ true
      → (first_refusal xs ≡ none → Sound whole ys) → ((q : Refusal) → whole q → given q ⊎ (¬ Silent rank q (xs ++ ys)))
      → Decides rank whole (xs ++ ys)
  decides_join {rank} {xs} ys d a s c = record {
    ascending = a;
    sound = sound_join xs ys d.sound s;
    complete = λ q w z. ⊎_elim (λ h. d.complete q h (silent_left rank q xs ys z)) (λ n. n z) (c q w);
  }
