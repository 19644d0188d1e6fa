-- Literals: 2v means variable v, 2v + 1 its complement.
-- Assumes nothing.
use Rattle.std.specs.Prelude.{ℕ, ◌+◌, ◌*◌, ◌/◌, ◌%◌, ◌<◌, Bool, List, eqb, length, get_or}

-- the variable of the literal l
abbrev pub var_of : ℕ → ℕ
var_of l = l / 2

-- the number is odd; a literal that is odd is a complement
abbrev pub is_odd : ℕ → Bool
is_odd l = eqb (l % 2) 1

-- the literal l, complemented where the literal t is a complement
abbrev pub flip : ℕ → ℕ → ℕ
flip l t = l / 2 * 2 + (l + t) % 2

-- the variables of these literals are below n
pub record LiteralsBelow (ls : List ℕ) (n : ℕ) : Type 0 where
  pub within : (j : ℕ) → j < length ls → var_of (get_or ls j 0) < n
