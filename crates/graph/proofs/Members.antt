-- What stands in a list: by its place, and in lists joined, kept, mapped and gathered.
-- Assumes nothing.
use mathlib.Core.Path.{◌≡◌, refl, sym, ap, ◌∙◌}
use mathlib.Core.Bool.{Bool, true, false, false≢true}
use mathlib.Core.List.{List, [], ◌∷◌, ◌++◌, map}
use mathlib.Core.Logic.{◌⊎◌, inl, inr, ⊎_elim}
use Prim.Native.Nat.{ℕ, zero, suc, ◌<◌}
use native.Mathlib.Nat.{le_of_suc-le-suc, not-suc-le-zero}
use native.Mathlib.Omega.{arith}
use lib.ListN.{length, get_or}
use Rattle.graph.specs.Lists.{◌∈◌, here, later, gather, keep}
use Rattle.graph.proofs.Lists.{at_most_or_above}

-- ---- by its place

module _ {A : Type 0} (d : A) where
  pub at_place : (xs : List A) (j : ℕ) → j < length xs → get_or xs j d ∈ xs
  at_place [] j h = absurd (not-suc-le-zero h)
  at_place (x ∷ xs) zero h = here refl
  at_place (x ∷ xs) (suc j) h = later (at_place xs j (le_of_suc-le-suc h))

  pub place_of : {x : A} {xs : List A} → x ∈ xs → (j : ℕ) × (j < length xs) × (get_or xs j d ≡ x)
  place_of (here e) = (0, omega arith, sym e)
  place_of (later m) = let p = place_of m in (suc p.0, omega (arith, p.1), p.2)

-- ---- in single steps and in joined lists

module _ {A : Type 0} where
  pub none_in : {x : A} → ¬ (x ∈ [])
  none_in m = elim m [ ]

  pub in_cons : {x y : A} {ys : List A} → x ∈ (y ∷ ys) → (x ≡ y) ⊎ (x ∈ ys)
  in_cons (here e) = inl e
  in_cons (later m) = inr m

  pub in_same : {x y : A} {zs : List A} → x ≡ y → y ∈ zs → x ∈ zs
  in_same e (here h) = here (e ∙ h)
  in_same e (later m) = later (in_same e m)

  pub in_left : {x : A} {xs : List A} (ys : List A) → x ∈ xs → x ∈ (xs ++ ys)
  in_left ys (here e) = here e
  in_left ys (later m) = later (in_left ys m)

  pub in_right : {x : A} (xs : List A) {ys : List A} → x ∈ ys → x ∈ (xs ++ ys)
  in_right [] m = m
  in_right (x ∷ xs) m = later (in_right xs m)

  pub in_either : {x : A} (xs : List A) {ys : List A} → x ∈ (xs ++ ys) → (x ∈ xs) ⊎ (x ∈ ys)
  in_either [] m = inr m
  in_either (y ∷ xs) (here e) = inl (here e)
  in_either (y ∷ xs) (later m) = ⊎_elim (λ l. inl (later l)) inr (in_either xs m)

  -- a member of a piece is a member of the whole
  pub in_gather : (f : ℕ → List A) (n k : ℕ) (x : A) → k < n → x ∈ f k → x ∈ gather f n
  unfolding gather
  in_gather f zero k x h m = absurd (not-suc-le-zero h)
  in_gather f (suc n) k x h m = ⊎_elim
      (λ l. in_left (f n) (in_gather f n k x l m))
      (λ l. let e : k ≡ n = omega arith in in_right (gather f n) (rw e at m))
      (at_most_or_above (suc k) n)

-- ---- among the elements kept, and among the images

module _ {A : Type 0} (f : A → Bool) where
  pub in_keep : {x : A} (xs : List A) → x ∈ xs → f x ≡ true → x ∈ keep f xs
  unfolding keep
  in_keep [] m e = m
  in_keep {x} (y ∷ ys) m e = go (f y) refl (λ n. in_keep ys n e) (in_cons m)
    where
      go : (t : Bool) → f y ≡ t → (x ∈ ys → x ∈ keep f ys) → (x ≡ y) ⊎ (x ∈ ys) → x ∈ (elim t [ true ↦ y ∷ keep f ys | false ↦ keep f ys ])
      go true q below (inl p) = here p
      go true q below (inr n) = later (below n)
      go false q below (inl p) = absurd (false≢true (sym q ∙ ap f (sym p) ∙ e))
      go false q below (inr n) = below n

  pub keep_from : {x : A} (xs : List A) → x ∈ keep f xs → (x ∈ xs) × (f x ≡ true)
  unfolding keep
  keep_from [] m = absurd (none_in m)
  keep_from {x} (y ∷ xs) m = go (f y) refl m (keep_from xs)
    where
      go : (b : Bool) → f y ≡ b → x ∈ (elim b [ true ↦ y ∷ keep f xs | false ↦ keep f xs ]) → (x ∈ keep f xs → (x ∈ xs) × (f x ≡ true))
          → (x ∈ (y ∷ xs)) × (f x ≡ true)
      go true q (here e) r = (here e, ap f e ∙ q)
      go true q (later j) r = let s = r j in (later s.0, s.1)
      go false q j r = let s = r j in (later s.0, s.1)

module _ {A B : Type 0} (f : A → B) where
  pub in_map : {x : A} {xs : List A} → x ∈ xs → f x ∈ map f xs
  in_map (here e) = here (ap f e)
  in_map (later m) = later (in_map m)

  pub map_from : {y : B} (xs : List A) → y ∈ map f xs → (x : A) × (x ∈ xs) × (y ≡ f x)
  map_from [] m = absurd (none_in m)
  map_from (x ∷ xs) (here e) = (x, here refl, e)
  map_from (x ∷ xs) (later m) = let s = map_from xs m in (s.0, later s.1, s.2)

  pub map_at : (d : A) (d' : B) (xs : List A) (j : ℕ) → j < length xs → get_or (map f xs) j d' ≡ f (get_or xs j d)
  map_at d d' [] j h = absurd (not-suc-le-zero h)
  map_at d d' (x ∷ xs) zero h = refl
  map_at d d' (x ∷ xs) (suc j) h = map_at d d' xs j (le_of_suc-le-suc h)

  -- the images kept are the images of what is kept by its image
  pub keep_map : (h : B → Bool) (xs : List A) → keep h (map f xs) ≡ map f (keep (λ x. h (f x)) xs)
  unfolding keep
  keep_map h [] = refl
  keep_map h (x ∷ xs) = go (h (f x)) (keep_map h xs)
    where
      go : (b : Bool) → keep h (map f xs) ≡ map f (keep (λ x. h (f x)) xs)
          → elim b [ true ↦ f x ∷ keep h (map f xs) | false ↦ keep h (map f xs) ]
          ≡ map f (elim b [ true ↦ x ∷ keep (λ x. h (f x)) xs | false ↦ keep (λ x. h (f x)) xs ])
      go true r = ap (λ (ys : List B). f x ∷ ys) r
      go false r = r
