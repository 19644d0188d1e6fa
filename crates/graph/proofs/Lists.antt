-- What a test over a list or over the numbers below n says of each of them, and the other way round.
-- Assumes nothing.
use mathlib.Core.Path.{◌≡◌, refl, sym, ap, ap₂, ◌∙◌, subst}
use mathlib.Core.Bool.{Bool, true, false, cond, ◌&&◌, false≢true}
use mathlib.Core.List.{List, [], ◌∷◌, ◌++◌, map}
use mathlib.Core.Logic.{◌⊎◌, inl, inr, ⊎_elim}
use Prim.Native.Nat.{ℕ, zero, suc, ◌+◌, ◌-◌, ◌≤◌, ◌<◌}
use native.Mathlib.Nat.{le_of_suc-le-suc, not-suc-le-zero, le_refl, zero-lt-suc}
use native.Mathlib.Omega.{arith}
use borrow.Author.Tests.{leb-true, leb-false, eqb-true, eqb-false}
use mir.Val.{bool_byte}
use lib.Dec.{leb, eqb}
use lib.ListN.{length, get_or, take, replicate}
use lib.Seq.{take-append_seam, get_or-append-add}
use Rattle.std.specs.List.{list_all}
use Rattle.graph.specs.Lists.{filled, every, all_below, all, keep}

pub at_most_or_above : (a b : ℕ) → (a ≤ b) ⊎ (b < a)
at_most_or_above a b = go (leb a b) refl
  where
    go : (t : Bool) → leb a b ≡ t → (a ≤ b) ⊎ (b < a)
    go true e = inl (leb-true a b e)
    go false e = inr (leb-false a b e)

-- induction from everything below
up_to : (P : ℕ → Type 0) → P 0 → ((n : ℕ) → ((v : ℕ) → v ≤ n → P v) → P (suc n)) → (n v : ℕ) → v ≤ n → P v
up_to P z s zero v h = let e : 0 ≡ v = omega arith in subst P e z
up_to P z s (suc n) v h = ⊎_elim
    (λ l. up_to P z s n v l)
    (λ l. let e : suc n ≡ v = omega arith in subst P e (s n (up_to P z s n)))
    (at_most_or_above v n)

pub strong : (P : ℕ → Type 0) → P 0 → ((n : ℕ) → ((v : ℕ) → v ≤ n → P v) → P (suc n)) → (v : ℕ) → P v
strong P z s v = up_to P z s v v (le_refl v)

pub equal_or_not : (a b : ℕ) → (a ≡ b) ⊎ (¬ (a ≡ b))
equal_or_not a b = go (eqb a b) refl
  where
    go : (t : Bool) → eqb a b ≡ t → (a ≡ b) ⊎ (¬ (a ≡ b))
    go true e = inl (eqb-true a b e)
    go false e = inr (eqb-false a b e)

pub true_or_false : (b : Bool) → (b ≡ true) ⊎ (b ≡ false)
true_or_false true = inl refl
true_or_false false = inr refl

-- two tests are the same if each passes where the other does
pub same_tests : (a b : Bool) → (a ≡ true → b ≡ true) → (b ≡ true → a ≡ true) → a ≡ b
same_tests true b f h = sym (f refl)
same_tests false true f h = h refl
same_tests false false f h = refl

pub and_left : (a b : Bool) → a && b ≡ true → a ≡ true
and_left true b e = refl
and_left false b e = e

pub and_right : (a b : Bool) → a && b ≡ true → b ≡ true
and_right true b e = e
and_right false b e = absurd (false≢true e)

pub and_both : (a b : Bool) → a ≡ true → b ≡ true → a && b ≡ true
and_both a b e h = rw (e, h)

pub and_true : (b : Bool) → b && true ≡ b
and_true true = refl
and_true false = refl

-- where c holds if b does, a c that fails decides b
pub fails_with : (b c : Bool) → (b ≡ true → c ≡ true) → c ≡ false → b ≡ false
fails_with true c h e = absurd (false≢true (sym e ∙ h refl))
fails_with false c h e = refl

-- every test of a list passes: the test at place k does
pub every_at : (bs : List Bool) → every bs ≡ true → (k : ℕ) → get_or bs k true ≡ true
unfolding every
every_at [] e k = refl
every_at (b ∷ bs) e zero = and_left b (every bs) e
every_at (b ∷ bs) e (suc k) = every_at bs (and_right b (every bs) e) k

-- each of the tests passes, one fact a test
infixr 20 ◌then◌
pub data Passes : List Bool → Type 0 where
  done : Passes []
  ◌then◌ : {b : Bool} {bs : List Bool} → b ≡ true → Passes bs → Passes (b ∷ bs)

pub every_of : {bs : List Bool} → Passes bs → every bs ≡ true
unfolding every
every_of done = refl
every_of (◌then◌ {b} {bs} e h) = and_both b (every bs) e (every_of h)

module _ (f : ℕ → Bool) where
  pub all_below_at : (n : ℕ) → all_below f n ≡ true → (k : ℕ) → k < n → f k ≡ true
  unfolding all_below
  all_below_at zero e k h = absurd (not-suc-le-zero h)
  all_below_at (suc n) e k h = ⊎_elim
      (λ l. all_below_at n (and_right (f n) (all_below f n) e) k l)
      (λ l. let q : k ≡ n = omega arith in ap f q ∙ and_left (f n) (all_below f n) e)
      (at_most_or_above (suc k) n)

  pub all_below_of : (n : ℕ) → ((k : ℕ) → k < n → f k ≡ true) → all_below f n ≡ true
  unfolding all_below
  all_below_of zero h = refl
  all_below_of (suc n) h = and_both (f n) (all_below f n) (h n (le_refl (suc n))) (all_below_of n (λ k l. h k (omega arith)))

module _ {A : Type 0} (f : A → Bool) (d : A) where
  pub all_at : (xs : List A) → all f xs ≡ true → (j : ℕ) → j < length xs → f (get_or xs j d) ≡ true
  unfolding all
  all_at [] e j h = absurd (not-suc-le-zero h)
  all_at (x ∷ xs) e zero h = and_left (f x) (all f xs) e
  all_at (x ∷ xs) e (suc j) h = all_at xs (and_right (f x) (all f xs) e) j (le_of_suc-le-suc h)

  pub all_of : (xs : List A) → ((j : ℕ) → j < length xs → f (get_or xs j d) ≡ true) → all f xs ≡ true
  unfolding all
  all_of [] h = refl
  all_of (x ∷ xs) h = and_both (f x) (all f xs) (h 0 (zero-lt-suc (length xs))) (all_of xs (λ j l. h (suc j) (omega arith)))

-- two functions that agree on the elements give the same list
pub map_same : {A B : Type 0} (f h : A → B) (d : A) (xs : List A) → ((j : ℕ) → j < length xs → f (get_or xs j d) ≡ h (get_or xs j d))
    → map f xs ≡ map h xs
map_same f h d [] e = refl
map_same f h d (x ∷ xs) e = ap₂ ◌∷◌ (e 0 (zero-lt-suc (length xs))) (map_same f h d xs (λ j l. e (suc j) (omega arith)))

-- ---- the elements at which a test passes

module _ {A : Type 0} (f : A → Bool) where
  pub keep_append : (xs ys : List A) → keep f (xs ++ ys) ≡ keep f xs ++ keep f ys
  unfolding keep
  keep_append [] ys = refl
  keep_append (x ∷ xs) ys = go (f x) (keep_append xs ys)
    where
      go : (b : Bool) → keep f (xs ++ ys) ≡ keep f xs ++ keep f ys
          → elim b [ true ↦ x ∷ keep f (xs ++ ys) | false ↦ keep f (xs ++ ys) ]
          ≡ elim b [ true ↦ x ∷ keep f xs | false ↦ keep f xs ] ++ keep f ys
      go true e = ap (λ (zs : List A). x ∷ zs) e
      go false e = e

  pub kept_one : (x : A) → length (keep f (x ∷ [])) ≡ cond (f x) 1 0
  unfolding keep
  kept_one x = go (f x)
    where
      go : (b : Bool) → length {A = A} (elim b [ true ↦ x ∷ [] | false ↦ [] ]) ≡ cond b 1 0
      go true = refl
      go false = refl

-- ---- a test as a number, as a cast gives it

pub cast_is : (b : Bool) → bool_byte b ≡ cond b 1 0
cast_is true = refl
cast_is false = refl

-- ---- numbers filled up with 0

pub filled_nothing : (n : ℕ) → filled n [] ≡ replicate n 0
unfolding filled
filled_nothing n = let all : n - 0 ≡ n = omega arith in ap (λ (k : ℕ). replicate k 0) all

module _ (n : ℕ) (xs : List ℕ) where
  pub filled_first : take (length xs) (filled n xs) ≡ xs
  unfolding filled
  filled_first = take-append_seam xs _

  pub filled_past : (j d : ℕ) → length xs ≤ j → get_or (filled n xs) j d ≡ get_or (replicate (n - length xs) 0) (j - length xs) d
  unfolding filled
  filled_past j d h =
      let e : j ≡ length xs + (j - length xs) = omega arith in
      ap (λ (i : ℕ). get_or (xs ++ replicate (n - length xs) 0) i d) e ∙ get_or-append-add xs (replicate (n - length xs) 0) (j - length xs) d

-- std's word for the same
pub all_by_std : {A : Type 0} (f : A → Bool) (xs : List A) → all f xs ≡ list_all f xs
unfolding all
all_by_std f [] = refl
all_by_std f (x ∷ xs) = ap (λ b. f x && b) (all_by_std f xs)

-- what is read within a list is read whatever is given past its end
pub get_or_within : {A : Type 0} (xs : List A) (i : ℕ) (d e : A) → i < length xs → get_or xs i d ≡ get_or xs i e
get_or_within [] i d e h = absurd (omega arith)
get_or_within (x ∷ xs) zero d e h = refl
get_or_within (x ∷ xs) (suc i) d e h = get_or_within xs i d e (omega arith)
