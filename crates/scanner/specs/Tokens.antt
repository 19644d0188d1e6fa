-- Numbers and bytes that the code finds at a place: a place in a lent text stands for the text from there on.
-- Assumes nothing.
use Rattle.std.specs.Prelude.{ℕ, ◌-◌, cond, List, [], ◌∷◌, leb, drop, Option as Found, Some, None}
use Rattle.std.proofs.Math.Option.{Option, none, some}
use Rattle.scanner.specs.declared.number.NumberAt.{NumberAt}
use Rattle.text.specs.Number.{is_digit, digit_run, value_from, most_number, Front, front}

-- ---- steps: what is found at a place, and the text from the next place on

unfoldable pub number_step : List ℕ → Found NumberAt → Option (Front ℕ)
number_step t None = none
number_step t (Some s) = some (front s.value (drop s.next t))

unfoldable pub byte_step : List ℕ → Found ℕ → Option (List ℕ)
byte_step t None = none
byte_step t (Some next) = some (drop next t)

-- ---- pieces of a number

-- the digit at the front of a text, if one stands there
unfoldable pub digit_at : List ℕ → Found ℕ
digit_at [] = None
digit_at (b ∷ t) = cond (is_digit b) (Some (b - 48)) None

-- the value of the digits at the front of a text, whatever the first one is
unfoldable pub run_value : List ℕ → Option (Front ℕ)
unfolding digit_run value_from
run_value t =
    let r = digit_run t in
    elim r.got [
      | [] ↦ none
      | d ∷ ds ↦ cond (leb (value_from 0 (d ∷ ds)) most_number) (some (front (value_from 0 (d ∷ ds)) r.rest)) none
    ]
