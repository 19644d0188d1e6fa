-- Pieces joined: where each piece stands, and the whole where all pieces are equally long.
-- Assumes nothing.
use mathlib.Core.Path.{◌≡◌, refl, sym, ap, ap₂, ◌∙◌, subst}
use mathlib.Core.List.{List, ◌++◌, append_assoc, append-nil}
use mathlib.Core.Logic.{⊎_elim}
use Prim.Native.Nat.{ℕ, zero, suc, ◌+◌, ◌-◌, ◌*◌, ◌≤◌, ◌<◌}
use native.Mathlib.Nat.{le_refl}
use native.Mathlib.Omega.{arith}
use lib.ListN.{length, get_or, length-append, get_or-append}
use lib.Seq.{get_or-append-add, ext_get_or}
use Rattle.graph.specs.Lists.{gather}
use Rattle.graph.proofs.Lists.{at_most_or_above}

module _ {A : Type 0} where
  pub gather_same : (f g : ℕ → List A) (n : ℕ) → ((k : ℕ) → k < n → f k ≡ g k) → gather f n ≡ gather g n
  unfolding gather
  gather_same f g zero h = refl
  gather_same f g (suc n) h = ap₂ (λ (x y : List A). x ++ y) (gather_same f g n (λ k l. h k (omega arith))) (h n (le_refl (suc n)))

  -- the first piece, and then the others
  pub gather_front : (f : ℕ → List A) (n : ℕ) → gather f (suc n) ≡ f 0 ++ gather (λ k. f (suc k)) n
  unfolding gather
  gather_front f zero = sym (append-nil (f 0))
  gather_front f (suc n) = rw (gather_front f n) (append_assoc (f 0) (gather (λ k. f (suc k)) n) (f (suc n)))

  module _ (f : ℕ → List A) where
    pub gather_more : (k n : ℕ) → k ≤ n → length (gather f k) ≤ length (gather f n)
    unfolding gather
    gather_more k zero h = let e : k ≡ 0 = omega arith in rw e (le_refl _)
    gather_more k (suc n) h = ⊎_elim
        (λ l. let m = gather_more k n l in omega (arith, length-append (gather f n) (f n)))
        (λ l. let e : k ≡ suc n = omega arith in rw e (le_refl _)) (at_most_or_above k n)

    -- piece k stands behind the pieces before it
    pub gather_at : (n k i : ℕ) (d : A) → k < n → i < length (f k) → get_or (gather f n) (length (gather f k) + i) d ≡ get_or (f k) i d
    unfolding gather
    gather_at zero k i d h b = absurd (omega arith)
    gather_at (suc n) k i d h b = ⊎_elim
        (λ l.
        get_or-append (gather f n) (f n) d (length (gather f k) + i)
        (let m = gather_more (suc k) n l in omega (arith, length-append (gather f k) (f k)))
        ∙ gather_at n k i d l b)
        (λ l.
        let e : k ≡ n = omega arith in
        ap (λ (j : ℕ). get_or (gather f n ++ f n) (length (gather f j) + i) d) e
        ∙ get_or-append-add (gather f n) (f n) i d
        ∙ ap (λ (j : ℕ). get_or (f j) i d) (sym e))
        (at_most_or_above (suc k) n)

  -- ---- pieces of c elements each

  module _ (c : ℕ) (f : ℕ → List A) (each : (k : ℕ) → length (f k) ≡ c) where
    pub length_gather : (n : ℕ) → length (gather f n) ≡ c * n
    unfolding gather
    length_gather zero = omega arith
    length_gather (suc n) = length-append (gather f n) (f n) ∙ omega (arith, length_gather n, each n)

    pub get_d_gather : (n k i : ℕ) (d : A) → k < n → i < c → get_or (gather f n) (c * k + i) d ≡ get_or (f k) i d
    get_d_gather n k i d h l =
        ap (λ (j : ℕ). get_or (gather f n) (j + i) d) (sym (length_gather k)) ∙ gather_at f n k i d h (omega (arith, each k))

    -- each place below c n is one of the c of one of the n
    by_place : (P : ℕ → Type 0) (n : ℕ) → ((k i : ℕ) → k < n → i < c → P (c * k + i)) → (j : ℕ) → j < c * n → P j
    by_place P zero p j h = absurd (omega arith)
    by_place P (suc n) p j h = ⊎_elim
        (λ (m : j < c * n). by_place P n (λ k i l. p k i (omega arith)) j m)
        (λ (m : c * n < suc j). let e : c * n + (j - c * n) ≡ j = omega arith in
        subst P e (p n (j - c * n) (le_refl (suc n)) (omega arith)))
        (at_most_or_above (suc j) (c * n))

    pub gather_is : (xs : List A) (n : ℕ) (d : A) → length xs ≡ c * n
        → ((k i : ℕ) → k < n → i < c → get_or xs (c * k + i) d ≡ get_or (f k) i d)
        → xs ≡ gather f n
    gather_is xs n d q h =
        ext_get_or d xs (gather f n) (q ∙ sym (length_gather n)) λ j l.
        by_place (λ i. get_or xs i d ≡ get_or (gather f n) i d) n (λ k i m o. h k i m o ∙ sym (get_d_gather n k i d m o)) j (omega arith)
