-- The number that holds a table's bits, at any number of bits: what AND, complement and equality do to them.
-- Assumes nothing.
use mathlib.Core.Path.{◌≡◌, refl, sym, ap, ap₂, ◌∙◌}
use mathlib.Core.Bool.{Bool, true, false, cond, not, ◌&&◌}
use mathlib.Core.Logic.{◌↔◌}
use Prim.Native.Nat.{ℕ, zero, suc, ◌+◌, ◌-◌, ◌*◌, ◌/◌, ◌%◌, ◌^◌, ◌<◌, min}
use native.Mathlib.Nat.{le_of_suc-le-suc, not-suc-le-zero, pow-suc, zero-lt-suc, div-one}
use native.Mathlib.Numerals.{one-add}
use native.Mathlib.Omega.{arith}
use lib.Dec.{eqb, lit<}
use lib.Arith.{digits_div, digits_mod}
use lib.Pow.{shr-shr}
use lib.Bits.{bit_and, and_step}
use Rattle.graph.specs.Literal.{is_odd}
use Rattle.window.specs.Table.{bit, pack}

abbrev digit : Bool → ℕ
digit b = cond b 1 0

digit_lt : (b : Bool) → digit b < 2
digit_lt true = lit< tt
digit_lt false = lit< tt

digit_one : (b : Bool) → eqb (digit b) 1 ≡ b
digit_one true = refl
digit_one false = refl

digit_and : (a b : Bool) → min (digit a) (digit b) ≡ digit (a && b)
digit_and true true = refl
digit_and true false = refl
digit_and false true = refl
digit_and false false = refl

digit_not : (b : Bool) → digit (not b) ≡ 1 - digit b
digit_not true = refl
digit_not false = refl

-- ---- the lowest bit, and the others

module _ (n : ℕ) (f : ℕ → Bool) where
  pack_half : pack (suc n) f / 2 ≡ pack n (λ i. f (suc i))
  unfolding pack
  pack_half = digits_div (pack n (λ i. f (suc i))) (digit_lt (f 0))

  pack_low : pack (suc n) f % 2 ≡ digit (f 0)
  unfolding pack
  pack_low = digits_mod (pack n (λ i. f (suc i))) (digit_lt (f 0))

bit_zero : (x : ℕ) → bit x 0 ≡ is_odd x
unfolding bit
bit_zero x = ap is_odd (div-one x)

bit_suc : (x i : ℕ) → bit x (suc i) ≡ bit (x / 2) i
unfolding bit
bit_suc x i = ap is_odd (ap (λ (k : ℕ). x / 2 ^ k) (sym (one-add i)) ∙ sym (shr-shr x 1 i))

-- ---- laws

pub pack_lt : (n : ℕ) (f : ℕ → Bool) → pack n f < 2 ^ n
unfolding pack
pack_lt zero f = lit< tt
pack_lt (suc n) f =
    rw (pow-suc 2 n) (let h : pack n (λ i. f (suc i)) < 2 ^ n = pack_lt n (λ i. f (suc i)) in omega (arith, digit_lt (f 0)))

pub pack_and : (n : ℕ) (f g : ℕ → Bool) → bit_and (pack n f) (pack n g) ≡ pack n (λ i. f i && g i)
unfolding pack
pack_and zero f g = refl
pack_and (suc n) f g =
    and_step (pack (suc n) f) (pack (suc n) g)
    ∙ ap₂ (λ (x y : ℕ). x * 2 + y)
    (ap₂ bit_and (pack_half n f) (pack_half n g) ∙ pack_and n (λ i. f (suc i)) (λ i. g (suc i)))
    (ap₂ min (pack_low n f) (pack_low n g) ∙ digit_and (f 0) (g 0))

pub pack_not : (n : ℕ) (f : ℕ → Bool) → (2 ^ n - 1) - pack n f ≡ pack n (λ i. not (f i))
unfolding pack
pack_not zero f = refl
pack_not (suc n) f =
    rw (pow-suc 2 n, digit_not (f 0), ← pack_not n (λ i. f (suc i))) (omega (arith, pack_lt n (λ i. f (suc i)), digit_lt (f 0)))

-- only the bits below n count
pub pack_ext : (n : ℕ) (f g : ℕ → Bool) → ((i : ℕ) → i < n → f i ≡ g i) → pack n f ≡ pack n g
unfolding pack
pack_ext zero f g h = refl
pack_ext (suc n) f g h =
    ap₂ (λ (x : ℕ) (b : Bool). x * 2 + digit b) (pack_ext n (λ i. f (suc i)) (λ i. g (suc i)) (λ i l. h (suc i) (omega arith)))
    (h 0 (zero-lt-suc n))

-- the bits of the number are those that it was made of
pub bit_pack : (n : ℕ) (f : ℕ → Bool) (i : ℕ) → i < n → bit (pack n f) i ≡ f i
bit_pack zero f i h = absurd (not-suc-le-zero h)
bit_pack (suc n) f zero h = bit_zero (pack (suc n) f) ∙ ap (λ (x : ℕ). eqb x 1) (pack_low n f) ∙ digit_one (f 0)
bit_pack (suc n) f (suc i) h =
    bit_suc (pack (suc n) f) i ∙ ap (λ (x : ℕ). bit x i) (pack_half n f) ∙ bit_pack n (λ k. f (suc k)) i (le_of_suc-le-suc h)

-- two numbers of n bits are equal if and only if every bit is
pub pack_equal : (n : ℕ) (f g : ℕ → Bool) → (pack n f ≡ pack n g) ↔ ((i : ℕ) → i < n → f i ≡ g i)
pack_equal n f g = (λ e i h. sym (bit_pack n f i h) ∙ ap (λ (x : ℕ). bit x i) e ∙ bit_pack n g i h, pack_ext n f g)
