-- Lists in the order of a relation: how they are made, and that their members determine them.
-- Assumes nothing.
use mathlib.Core.Path.{◌≡◌, refl, sym, ap₂, subst, ◌∙◌}
use mathlib.Core.Bool.{Bool, true, false}
use mathlib.Core.List.{List, [], ◌∷◌, ◌++◌, map}
use mathlib.Core.Logic.{◌⊎◌, inl, inr, ⊎_elim}
use Prim.Native.Nat.{ℕ, zero, suc, ◌<◌}
use Rattle.graph.specs.Lists.{◌∈◌, here, later, gather, keep}
use Rattle.graph.proofs.Members.{none_in, in_cons, in_same, map_from}
use Rattle.graph.proofs.Each.{Each, each_join, each_gather, each_keep}

-- each member stands in the relation to all that follow it
pub data Sorted {A : Type 0} (R : A → A → Type 0) : List A → Type 0 where
  nothing : Sorted R []
  first : {x : A} {xs : List A} → Each (R x) xs → Sorted R xs → Sorted R (x ∷ xs)

-- ---- how they are made

module _ {A : Type 0} (R : A → A → Type 0) where
  pub sorted_one : (x : A) → Sorted R (x ∷ [])
  sorted_one x = first (λ y m. absurd (none_in m)) nothing

  pub sorted_join : {xs : List A} (ys : List A) → Sorted R xs → Sorted R ys → Each (λ x. Each (R x) ys) xs → Sorted R (xs ++ ys)
  sorted_join ys nothing t h = t
  sorted_join ys (first {x} {xs} l s) t h =
      first (each_join (R x) xs ys l (h x (here refl))) (sorted_join ys s t (λ z m. h z (later m)))

  -- pieces that are sorted, each in the relation to the later ones
  pub sorted_gather : (f : ℕ → List A) (n : ℕ) → ((k : ℕ) → Sorted R (f k)) → ((i j : ℕ) → i < j → Each (λ x. Each (R x) (f j)) (f i))
      → Sorted R (gather f n)
  unfolding gather
  sorted_gather f zero s h = nothing
  sorted_gather f (suc n) s h =
      sorted_join (f n) (sorted_gather f n s h) (s n) (each_gather (λ x. Each (R x) (f n)) f n (λ k l. h k n l))

  pub sorted_keep : (f : A → Bool) {xs : List A} → Sorted R xs → Sorted R (keep f xs)
  unfolding keep
  sorted_keep f nothing = nothing
  sorted_keep f (first {x} {xs} l s) = go (f x) (sorted_keep f s)
    where
      go : (t : Bool) → Sorted R (keep f xs) → Sorted R (elim t [ true ↦ x ∷ keep f xs | false ↦ keep f xs ])
      go true below = first (λ y m. (each_keep (R x) f xs l y m).0) below
      go false below = below

module _ {A B : Type 0} (R : B → B → Type 0) (f : A → B) where
  pub sorted_map : {xs : List A} → Sorted (λ x y. R (f x) (f y)) xs → Sorted R (map f xs)
  sorted_map nothing = nothing
  sorted_map (first {x} {xs} l s) =
      first (λ y m. let from = map_from f xs m in subst (R (f x)) (sym from.2) (l from.0 from.1)) (sorted_map s)

-- ---- what they are

module _ {A : Type 0} (R : A → A → Type 0) (one_way : (x y : A) → R x y → ¬ R y x) where
  pub sorted_once : {x : A} {xs : List A} → Sorted R (x ∷ xs) → ¬ (x ∈ xs)
  sorted_once {x} (first l s) m = one_way x x (l x m) (l x m)

  -- of two members each is the first of a list that has the other, so they are one
  same_first : {x y : A} {xs ys : List A} → Each (R x) xs → Each (R y) ys → (x ≡ y) ⊎ (x ∈ ys) → (y ≡ x) ⊎ (y ∈ xs) → x ≡ y
  same_first l l' (inl e) n = e
  same_first l l' (inr m) (inl e) = sym e
  same_first {x} {y} l l' (inr m) (inr n) = absurd (one_way x y (l y n) (l' x m))

  same_rest : {x y : A} {xs ys : List A} → Sorted R (x ∷ xs) → x ≡ y → Each (λ z. z ∈ y ∷ ys) (x ∷ xs) → Each (λ z. z ∈ ys) xs
  same_rest s e h z m = ⊎_elim (λ q. absurd (sorted_once s (in_same (e ∙ sym q) m))) (λ n. n) (in_cons (h z (later m)))

  -- two sorted lists with the same members are equal
  pub sorted_same : (xs ys : List A) → Sorted R xs → Sorted R ys → Each (λ z. z ∈ ys) xs → Each (λ z. z ∈ xs) ys → xs ≡ ys
  sorted_same [] [] s t h k = refl
  sorted_same [] (y ∷ ys) s t h k = absurd (none_in (k y (here refl)))
  sorted_same (x ∷ xs) [] s t h k = absurd (none_in (h x (here refl)))
  sorted_same (x ∷ xs) (y ∷ ys) (first l s) (first l' t) h k =
      let e : x ≡ y = same_first l l' (in_cons (h x (here refl))) (in_cons (k y (here refl))) in
      ap₂ (λ (z : A) (zs : List A). z ∷ zs) e (sorted_same xs ys s t (same_rest (first l s) e h) (same_rest (first l' t) (sym e) k))
