-- A table is the whole local function: bit by bit, by equality, and by words.
-- Assumes nothing.
use mathlib.Core.Path.{◌≡◌, refl, sym, ap, ap₂, ◌∙◌, fun_ext}
use mathlib.Core.Bool.{Bool, true, false, not, ◌&&◌}
use mathlib.Core.List.{List, map}
use mathlib.Core.Logic.{◌↔◌}
use mathlib.Core.Option
use mathlib.Core.Option.{map-map}
use Prim.Native.Nat.{ℕ, zero, suc, ◌%◌, ◌≤◌, ◌<◌}
use native.Mathlib.Nat.{div-eq_of_lt, lt_of_lt_of_le}
use native.Mathlib.Omega.{arith}
use borrow.Author.Tests.{eqb-true, eq-eqb}
use lib.Dec.{eqb}
use lib.Pow.{pow_mono}
use lib.ListN.{get_or, get_or-map}
use Rattle.graph.specs.Graph.{Net}
use Rattle.graph.specs.Sweep.{Algebra, bools, values}
use Rattle.graph.proofs.Sweep.{Respects, values_map, values_at}
use Rattle.window.specs.declared.leaf_set.Leaves.{Leaves}
use Rattle.window.specs.Leaves.{leaf_place}
use Rattle.window.specs.Local.{leaf_own, local_up_to, local_at}
use Rattle.window.specs.Table.{bit, pack, patterns, table, same_table, words, leaf_pattern, words_up_to}
use Rattle.window.proofs.Bits.{pack_and, pack_not, pack_ext, pack_equal, bit_pack}

pub table_is : (net : Net) (w : Leaves) (v : ℕ) → table net w v ≡ pack patterns (λ i. local_at net w (bit i) v)
unfolding table
table_is net w v = refl

-- bit i of the table is the local function at pattern i
pub table_bit : (net : Net) (w : Leaves) (v i : ℕ) → i < patterns → bit (table net w v) i ≡ local_at net w (bit i) v
table_bit net w v i h = ap (λ (t : ℕ). bit t i) (table_is net w v) ∙ bit_pack patterns (λ i. local_at net w (bit i) v) i h

-- two tables are the same if and only if the local functions agree on all patterns
module _ (net net' : Net) (w w' : Leaves) (v v' : ℕ) where
  pub tables_equal : (table net w v ≡ table net' w' v') ↔ ((i : ℕ) → i < patterns → local_at net w (bit i) v ≡ local_at net' w' (bit i) v')
  tables_equal =
      let e = pack_equal patterns (λ i. local_at net w (bit i) v) (λ i. local_at net' w' (bit i) v') in
      (λ p. e.0 (sym (table_is net w v) ∙ p ∙ table_is net' w' v'), λ h. table_is net w v ∙ e.1 h ∙ sym (table_is net' w' v'))

  pub tables_same : (same_table (table net w v) (table net' w' v') ≡ true)
      ↔ ((i : ℕ) → i < patterns → local_at net w (bit i) v ≡ local_at net' w' (bit i) v')
  unfolding same_table
  tables_same = (λ t. tables_equal.0 (eqb-true _ _ t), λ h. eq-eqb _ _ (tables_equal.1 h))

-- ---- words

-- a number below 64 has no bit past the sixth
high_bit : (i j : ℕ) → i < patterns → 6 ≤ j → bit i j ≡ false
unfolding bit
high_bit i j h k = ap (λ (q : ℕ). eqb (q % 2) 1) (div-eq_of_lt (lt_of_lt_of_le h (pow_mono {i = 6} k)))

-- the six leaf patterns: bit i of pattern j is bit j of i; past the sixth place there is none
leaf_pattern_lem : (j : ℕ) → pack patterns (λ i. bit i j) ≡ leaf_pattern j
unfolding leaf_pattern pack bit
leaf_pattern_lem zero = refl
leaf_pattern_lem (suc zero) = refl
leaf_pattern_lem (suc (suc zero)) = refl
leaf_pattern_lem (suc (suc (suc zero))) = refl
leaf_pattern_lem (suc (suc (suc (suc zero)))) = refl
leaf_pattern_lem (suc (suc (suc (suc (suc zero))))) = refl
leaf_pattern_lem (suc (suc (suc (suc (suc (suc j)))))) =
    pack_ext patterns (λ i. bit i (suc (suc (suc (suc (suc (suc j))))))) (λ i. false) (λ i h. high_bit i _ h (omega arith))

-- between the two stands a kind whose values are functions of the pattern's number
pub by_pattern : Algebra (ℕ → Bool)
by_pattern = record { no = λ i. false; conj = λ x y i. x i && y i; neg = λ x i. not (x i) }

pub functions : Net → Leaves → ℕ → List (ℕ → Bool)
functions net w n = values by_pattern (leaf_own w (λ j i. bit i j)) net n

own_map : {A B : Type 0} (h : A → B) (w : Leaves) (a : ℕ → A) (v : ℕ) → Option.map h (leaf_own w a v) ≡ leaf_own w (λ j. h (a j)) v
unfolding leaf_own
own_map h w a v = map-map h a (leaf_place w v)

pub at_pattern : (i : ℕ) → Respects (λ (f : ℕ → Bool). f i) by_pattern bools
unfolding by_pattern bools
at_pattern i = record { keeps_no = refl; keeps_conj = λ x y. refl; keeps_neg = λ x. refl }

pub functions_at : (net : Net) (w : Leaves) (n i : ℕ) → map (λ (f : ℕ → Bool). f i) (functions net w n) ≡ local_up_to net w (bit i) n
unfolding functions local_up_to
functions_at net w n i =
    values_map (λ f. f i) by_pattern bools (at_pattern i)
    (leaf_own w (λ j i. bit i j)) (leaf_own w (bit i)) (own_map (λ f. f i) w (λ j i. bit i j)) net n

pack_none : pack patterns (λ i. false) ≡ 0
unfolding pack
pack_none = refl

pub by_packing : Respects (pack patterns) by_pattern words
unfolding by_pattern words
by_packing =
    record { keeps_no = pack_none; keeps_conj = λ x y. sym (pack_and patterns x y); keeps_neg = λ x. sym (pack_not patterns x) }

pub functions_packed : (net : Net) (w : Leaves) (n : ℕ) → map (pack patterns) (functions net w n) ≡ words_up_to net w n
unfolding functions words_up_to
functions_packed net w n =
    values_map (pack patterns) by_pattern words by_packing
    (leaf_own w (λ j i. bit i j)) (leaf_own w leaf_pattern)
    (λ v. own_map (pack patterns) w (λ j i. bit i j) v ∙ ap (λ (a : ℕ → ℕ). leaf_own w a v) (fun_ext leaf_pattern_lem)) net n

pub local_stays : (net : Net) (w : Leaves) (a : ℕ → Bool) (n v : ℕ) → v ≤ n → get_or (local_up_to net w a n) v false ≡ local_at net w a v
unfolding local_up_to local_at bools
local_stays net w a n v h = values_at bools (leaf_own w a) net n v h

-- the word of a variable is its table
pub words_are_tables : (net : Net) (w : Leaves) (n v : ℕ) → v ≤ n → get_or (words_up_to net w n) v 0 ≡ table net w v
words_are_tables net w n v h =
    ap₂ (λ (xs : List ℕ) (d : ℕ). get_or xs v d) (sym (functions_packed net w n)) (sym pack_none)
    ∙ get_or-map (pack patterns) (functions net w n) v (λ i. false)
    ∙ pack_ext patterns (get_or (functions net w n) v (λ i. false)) (λ i. local_at net w (bit i) v)
    (λ i _.
    sym (get_or-map (λ (f : ℕ → Bool). f i) (functions net w n) v (λ i. false))
    ∙ ap (λ (xs : List Bool). get_or xs v false) (functions_at net w n i)
    ∙ local_stays net w (bit i) n v h)
    ∙ sym (table_is net w v)
