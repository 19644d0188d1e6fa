-- Lines: numbers with one space between, and one line feed at the end.
-- Assumes nothing.
use Rattle.std.specs.Prelude.{ℕ, zero, suc, cond, eqb, length}
use mathlib.Core.List.{List, [], ◌∷◌, ◌++◌, flat_map}
use Rattle.std.proofs.Math.Option.{Option, none, some}
use Rattle.text.specs.Number.{Front, front, decimal, number}

abbrev pub space : ℕ
space = 32

abbrev pub line_feed : ℕ
line_feed = 10

-- what follows a number when n more are to come in its line
unfoldable pub separator : ℕ → ℕ
separator zero = line_feed
separator (suc n) = space

-- the line of these numbers
unfoldable pub line : List ℕ → List ℕ
unfolding decimal separator
line [] = []
line (x ∷ xs) = decimal x ++ (separator (length xs) ∷ line xs)

-- the lines of these numbers
abbrev pub lines : List (List ℕ) → List ℕ
lines nss = flat_map line nss

-- ---- reading a line

infixl 20 ◌>>=◌
abbrev pub ◌>>=◌ : {A B : Type 0} → Option A → (A → Option B) → Option B
none >>= f = none
some x >>= f = f x

-- the text after these bytes, if it starts with them
unfoldable pub after : List ℕ → List ℕ → Option (List ℕ)
after [] t = some t
after (b ∷ bs) [] = none
after (b ∷ bs) (c ∷ t) = cond (eqb b c) (after bs t) none

-- n numbers at the front of a text as a well-shaped line has them, and the text that follows the line
unfoldable pub line_of : ℕ → List ℕ → Option (Front (List ℕ))
unfolding number after separator
line_of zero t = some (front [] t)
line_of (suc n) t = do
  x ← number t
  t' ← after (separator n ∷ []) x.rest
  xs ← line_of n t'
  some (front (x.got ∷ xs.got) xs.rest)
