-- Lists made of single elements, and lists joined and parted again.
-- Assumes nothing.
use mathlib.Core.Path.{◌≡◌, refl, sym, ap, ap₂, ◌∙◌}
use mathlib.Core.List.{List, [], ◌∷◌, ◌++◌, append_assoc, append-nil, map, flat_map}
use Prim.Native.Nat.{ℕ, zero, suc, ◌+◌, ◌*◌, ◌<◌}
use native.Mathlib.Omega.{arith}
use lib.ListN.{length, get_or}
use lib.Seq.{take_at, drop_at, ext_get_or}
use Rattle.graph.specs.Lists.{gather, joined, parted}
use Rattle.graph.proofs.Gather.{length_gather, get_d_gather}

module _ {A : Type 0} where
  -- f 0, f 1, .. f (n - 1)
  abbrev pub singles : (ℕ → A) → ℕ → List A
  singles f n = gather (λ k. f k ∷ []) n

  pub length_singles : (f : ℕ → A) (n : ℕ) → length (singles f n) ≡ n
  length_singles f n = length_gather 1 (λ k. f k ∷ []) (λ k. refl) n ∙ omega arith

  pub get_d_singles : (f : ℕ → A) (n k : ℕ) (d : A) → k < n → get_or (singles f n) k d ≡ f k
  get_d_singles f n k d h =
      let q : k ≡ 1 * k + 0 = omega arith in
      ap (λ (i : ℕ). get_or (singles f n) i d) q ∙ get_d_gather 1 (λ k. f k ∷ []) (λ k. refl) n k 0 d h (omega arith)

  pub singles_are : (xs : List A) (n : ℕ) (d : A) → length xs ≡ n → xs ≡ singles (λ k. get_or xs k d) n
  singles_are xs n d q =
      ext_get_or d xs (singles (λ k. get_or xs k d) n) (q ∙ sym (length_singles (λ k. get_or xs k d) n))
      (λ i h. sym (get_d_singles (λ k. get_or xs k d) n i d (omega arith)))

  -- lists that are joined are parted at their lengths again
  pub parted_joined : (xss : List (List A)) → parted (map length xss) (joined xss) ≡ xss
  unfolding parted joined
  parted_joined [] = refl
  parted_joined (xs ∷ xss) = ap₂ (λ (ys : List A) (yss : List (List A)). ys ∷ yss)
      (take_at xs (joined xss) (length xs) refl)
      (ap (parted (map length xss)) (drop_at xs (joined xss) (length xs) refl) ∙ parted_joined xss)

-- what a function makes of each, joined
module _ {A B : Type 0} (F : A → List B) where
  pub flat_map_append : (xs ys : List A) → flat_map F (xs ++ ys) ≡ flat_map F xs ++ flat_map F ys
  unfolding flat_map
  flat_map_append [] ys = refl
  flat_map_append (x ∷ xs) ys =
      ap (λ (zs : List B). F x ++ zs) (flat_map_append xs ys) ∙ sym (append_assoc (F x) (flat_map F xs) (flat_map F ys))

  pub flat_map_joined : (xss : List (List A)) → flat_map F (joined xss) ≡ joined (map (flat_map F) xss)
  unfolding flat_map joined
  flat_map_joined [] = refl
  flat_map_joined (xs ∷ xss) = flat_map_append xs (joined xss) ∙ ap (λ (ys : List B). flat_map F xs ++ ys) (flat_map_joined xss)

  pub flat_map_singles : (f : ℕ → A) (n : ℕ) → flat_map F (singles f n) ≡ gather (λ k. F (f k)) n
  unfolding flat_map gather
  flat_map_singles f zero = refl
  flat_map_singles f (suc n) =
      flat_map_append (singles f n) (f n ∷ []) ∙ ap₂ (λ (x y : List B). x ++ y) (flat_map_singles f n) (append-nil (F (f n)))
