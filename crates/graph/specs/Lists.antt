-- Lists and tests that the definitions share.
-- Assumes nothing.
use Rattle.std.specs.Prelude.{ℕ, zero, suc, ◌-◌, Bool, true, false, ◌&&◌, ◌||◌, ◌≡◌, List, [], ◌∷◌, ◌++◌, eqb, length, take, drop, replicate}

-- x stands in the list
infix 50 ◌∈◌
pub data ◌∈◌ {A : Type 0} (x : A) : List A → Type 0 where
  here : {y : A} {ys : List A} → x ≡ y → x ∈ (y ∷ ys)
  later : {y : A} {ys : List A} → x ∈ ys → x ∈ (y ∷ ys)

-- the pieces f 0, f 1, .. f (n - 1), joined
unfoldable pub gather : {A : Type 0} → (ℕ → List A) → ℕ → List A
gather f zero = []
gather f (suc n) = gather f n ++ f n

-- these lists, one after the other
unfoldable pub joined : {A : Type 0} → List (List A) → List A
joined [] = []
joined (xs ∷ xss) = xs ++ joined xss

-- the list parted into pieces of these lengths
unfoldable pub parted : {A : Type 0} → List ℕ → List A → List (List A)
parted [] xs = []
parted (n ∷ ns) xs = take n xs ∷ parted ns (drop n xs)

-- n places: these numbers, and 0 in the places beyond them
unfoldable pub filled : ℕ → List ℕ → List ℕ
filled n xs = xs ++ replicate (n - length xs) 0

-- each test of the list passes
unfoldable pub every : List Bool → Bool
every [] = true
every (b ∷ bs) = b && every bs

-- the test f passes at each number below n
unfoldable pub all_below : (ℕ → Bool) → ℕ → Bool
all_below f zero = true
all_below f (suc n) = f n && all_below f n

-- the test f passes at each element
unfoldable pub all : {A : Type 0} → (A → Bool) → List A → Bool
all f [] = true
all f (x ∷ xs) = f x && all f xs

-- the number x stands in the list
unfoldable pub is_in : ℕ → List ℕ → Bool
is_in x [] = false
is_in x (y ∷ ys) = eqb x y || is_in x ys

-- the elements at which f passes, in their order
unfoldable pub keep : {A : Type 0} → (A → Bool) → List A → List A
keep f [] = []
keep f (x ∷ xs) = elim (f x) [ true ↦ x ∷ keep f xs | false ↦ keep f xs ]
