-- Tables: the 64 bits of a local function, and the same by words of 64 bits.
-- Assumes nothing.
use Rattle.std.specs.Prelude.{ℕ, zero, suc, ◌+◌, ◌-◌, ◌*◌, ◌/◌, ◌^◌, Bool, cond, List, [], ◌∷◌, eqb, get_or}
use Rattle.std.specs.Int.Bits.{bit_and}
use Rattle.graph.specs.Graph.{Net}
use Rattle.graph.specs.Literal.{is_odd}
use Rattle.graph.specs.Sweep.{Algebra, values}
use Rattle.window.specs.declared.leaf_set.Leaves.{Leaves}
use Rattle.window.specs.Local.{leaf_own, local_at}

-- bit i of the number x
unfoldable pub bit : ℕ → ℕ → Bool
bit x i = is_odd (x / 2 ^ i)

-- the number whose bit i is f i, for each i below n
unfoldable pub pack : ℕ → (ℕ → Bool) → ℕ
pack zero f = 0
pack (suc n) f = pack n (λ i. f (suc i)) * 2 + cond (f 0) 1 0

-- six leaves have 64 patterns
abbrev pub patterns : ℕ
patterns = 64

-- the table of variable v: bit i is its local function's value where leaf j has bit j of i
unfoldable pub table : Net → Leaves → ℕ → ℕ
unfolding pack bit local_at
table net w v = pack patterns (λ i. local_at net w (bit i) v)

-- two tables are the same in every bit
unfoldable pub same_table : ℕ → ℕ → Bool
same_table s t = eqb s t

-- ---- words: all patterns at once

-- the AND and the complement of tables
unfoldable pub words : Algebra ℕ
words = record { no = 0; conj = bit_and; neg = λ x. (2 ^ patterns - 1) - x }

-- the tables of the leaves themselves
unfoldable pub leaf_patterns : List ℕ
leaf_patterns =
    0xAAAAAAAAAAAAAAAA
    ∷ 0xCCCCCCCCCCCCCCCC
    ∷ 0xF0F0F0F0F0F0F0F0
    ∷ 0xFF00FF00FF00FF00
    ∷ 0xFFFF0000FFFF0000
    ∷ 0xFFFFFFFF00000000
    ∷ []

unfoldable pub leaf_pattern : ℕ → ℕ
unfolding leaf_patterns
leaf_pattern j = get_or leaf_patterns j 0

-- the words of the variables 0 to n
unfoldable pub words_up_to : Net → Leaves → ℕ → List ℕ
unfolding values words leaf_own leaf_pattern
words_up_to net w n = values words (leaf_own w leaf_pattern) net n
