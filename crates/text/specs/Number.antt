-- Numbers in a text: decimal, at most 4,294,967,295, without leading zeros; zero is `0`.
-- Assumes nothing.
use Rattle.std.specs.Prelude.{ℕ, zero, suc, ◌+◌, ◌-◌, ◌*◌, ◌/◌, ◌%◌, Bool, true, false, cond, not, ◌&&◌, List, [], ◌∷◌, ◌++◌, leb, ltb, eqb}
use Rattle.std.proofs.Math.Option.{Option, none, some}

-- the byte of the digit d
abbrev pub digit : ℕ → ℕ
digit d = 48 + d

abbrev pub is_digit : ℕ → Bool
is_digit b = leb 48 b && leb b 57

-- at most k digits of n, the highest first
unfoldable pub digits : ℕ → ℕ → List ℕ
digits zero n = []
digits (suc k) n = elim (ltb n 10) [ true ↦ digit n ∷ [] | false ↦ digits k (n / 10) ++ (digit (n % 10) ∷ []) ]

-- the number n written out: it has no more than n + 1 digits
unfoldable pub decimal : ℕ → List ℕ
unfolding digits
decimal n = digits (suc n) n

-- something read at the front of a text, and the text that follows it
pub record Front (A : Type 0) : Type 0 where
  pub got : A
  pub rest : List ℕ

abbrev pub front : {A : Type 0} → A → List ℕ → Front A
front x t = record { got = x; rest = t }

-- the longest run of digits at the front of a text
unfoldable pub digit_run : List ℕ → Front (List ℕ)
digit_run [] = front [] []
digit_run (b ∷ t) = elim (is_digit b) [ true ↦ let r = digit_run t in front (b ∷ r.got) r.rest | false ↦ front [] (b ∷ t) ]

-- the value of digits that follow others of value n
unfoldable pub value_from : ℕ → List ℕ → ℕ
value_from n [] = n
value_from n (b ∷ bs) = value_from (10 * n + (b - 48)) bs

-- one digit at least, and the first of several is not 0
unfoldable pub no_leading_zero : List ℕ → Bool
no_leading_zero [] = false
no_leading_zero (b ∷ []) = true
no_leading_zero (b ∷ c ∷ bs) = not (eqb b (digit 0))

-- the largest number
abbrev pub most_number : ℕ
most_number = 4294967295

-- these digits are a number
unfoldable pub is_number : List ℕ → Bool
unfolding no_leading_zero value_from
is_number bs = no_leading_zero bs && leb (value_from 0 bs) most_number

-- the number at the front of a text, if one stands there
unfoldable pub number : List ℕ → Option (Front ℕ)
unfolding digit_run is_number value_from
number t = let r = digit_run t in cond (is_number r.got) (some (front (value_from 0 r.got) r.rest)) none
