-- Walks along a list of leaves: what stands from place k on as numbers, and the leaves before it set down anew.
-- Assumes nothing.
use mathlib.Core.Path.{◌≡◌, refl, sym, ap, ap₂, ◌∙◌}
use mathlib.Core.Bool.{◌&&◌, ◌||◌}
use mathlib.Core.List.{List, [], ◌∷◌, ◌++◌, map, append_assoc}
use Prim.Native.Nat.{ℕ, zero, suc, ◌+◌, ◌≤◌, ◌<◌, min}
use native.Mathlib.Omega.{arith}
use borrow.Author.Tests.{eqb-true, lt-ltb, le-ltb, eq-eqb, ne_eqb}
use lib.Dec.{eqb}
use lib.ListN.{length, get_or, take, drop, length-map, length-append, length-take}
use Rattle.std.proofs.lemmas.List.{drop_more, drop_all, take-map, take_min}
use Rattle.std.specs.List.{list_any, list_all}
use Rattle.graph.specs.declared.lit.Var.{Var}
use Rattle.graph.specs.Lists.{is_in, all}
use Rattle.graph.proofs.Lists.{same_tests}
use Rattle.window.specs.declared.leaf_set.Leaves.{Leaves}
use Rattle.window.specs.Leaves.{leaf_limit, numbers, leaf_list, leaves_of}
use Rattle.window.specs.LeafRule.{put, remove}
use Rattle.window.specs.Growing.{Tidy}
use Rattle.window.proofs.Growing.{list_of, count_of, tidy_of, tidy_count}

-- ---- places as numbers

-- what is known of an array of structs is known of the list of what they hold
pub length_held : (X Y : Type 0) (f : X → Y) (l : List X) (n : ℕ) → length (map f l) ≡ n → length l ≡ n
length_held X Y f l n e = sym (length-map l f) ∙ e

pub numbers_at : (vs : List Var) (k : ℕ) → (get_or vs k (record { 0 = 0 })).0 ≡ get_or (numbers vs) k 0
unfolding numbers
numbers_at [] k = refl
numbers_at (v ∷ vs) zero = refl
numbers_at (v ∷ vs) (suc k) = numbers_at vs k

pub numbers_long : (vs : List Var) → length (numbers vs) ≡ length vs
unfolding numbers
numbers_long vs = length-map vs (λ (v : Var). v.0)

pub numbers_rest : (vs : List Var) (k : ℕ) → numbers (drop k vs) ≡ drop k (numbers vs)
unfolding numbers
numbers_rest vs zero = refl
numbers_rest [] (suc k) = refl
numbers_rest (v ∷ vs) (suc k) = numbers_rest vs k

-- the leaves are the first places, as many as there are leaves, and no more than there are places
pub leaves_front : (w : Leaves) → length w.places ≡ 6 → numbers (take (min w.count 6) w.places) ≡ leaf_list w
unfolding numbers
leaves_front w six =
    ap numbers (ap (λ (n : ℕ). take (min w.count n) w.places) (sym six) ∙ take_min w.count w.places)
    ∙ sym (take-map (λ (v : Var). v.0) w.count w.places)

module _ (w : Leaves) (vs : List Var) (e : numbers vs ≡ leaf_list w) where
  pub leaves_long : length vs ≡ length (leaf_list w)
  leaves_long = sym (numbers_long vs) ∙ ap length e

  pub leaves_few : length w.places ≡ 6 → length vs ≤ leaf_limit
  leaves_few six = omega (arith, leaves_long, length-take w.count (numbers w.places), numbers_long w.places)

-- from place k on stands the leaf at k, and then those from the next place on
pub rest_more : (vs : List Var) (k : ℕ) → k < length vs → numbers (drop k vs) ≡ (get_or vs k (record { 0 = 0 })).0 ∷ numbers (drop (k + 1) vs)
unfolding numbers
rest_more vs k h = ap numbers (drop_more vs k (record { 0 = 0 }) h)

pub rest_end : (vs : List Var) (k : ℕ) → length vs ≤ k → numbers (drop k vs) ≡ []
unfolding numbers
rest_end vs k h = ap numbers (drop_all k vs h)

-- ---- tests of all leaves

same_number : (x v : ℕ) → eqb v x ≡ eqb x v
same_number x v = same_tests _ _ (λ e. eq-eqb x v (sym (eqb-true v x e))) (λ e. eq-eqb v x (sym (eqb-true x v e)))

pub in_by_std : (v : ℕ) (vs : List Var) → is_in v (numbers vs) ≡ list_any (λ (u : Var). eqb u.0 v) vs
unfolding is_in numbers
in_by_std v [] = refl
in_by_std v (u ∷ us) = ap₂ ◌||◌ (same_number u.0 v) (in_by_std v us)

pub zero_by_std : (vs : List Var) → all (λ x. eqb x 0) (numbers vs) ≡ list_all (λ (u : Var). eqb u.0 0) vs
unfolding all numbers
zero_by_std [] = refl
zero_by_std (u ∷ us) = ap₂ ◌&&◌ refl (zero_by_std us)

-- ---- leaves set down after others

module _ {w out : Leaves} (v : ℕ) (t : Tidy out) (room : out.count < leaf_limit) (e : w ≡ leaves_of (leaf_list out ++ (v ∷ []))) where
  pub pushed_list : leaf_list w ≡ leaf_list out ++ (v ∷ [])
  pushed_list = list_of w _ e

  pub pushed_tidy : Tidy w
  pushed_tidy = tidy_of w _ e (omega (arith, tidy_count t, length-append (leaf_list out) (v ∷ [])))

  pub pushed_count : w.count ≡ out.count + 1
  pushed_count = omega (arith, count_of w _ e, tidy_count t, length-append (leaf_list out) (v ∷ []))

-- the leaves before place k are set down, and what F makes of all of them is those and what it makes of the others
pub record Rebuilt (F : List ℕ → List ℕ) (vs : List Var) (out : Leaves) (k : ℕ) : Type 0 where
  pub tidy : Tidy out
  pub count : out.count ≡ k
  pub whole : F (numbers vs) ≡ leaf_list out ++ F (numbers (drop k vs))

pub rebuilt_none : (F : List ℕ → List ℕ) (vs : List Var) (out : Leaves) → out ≡ leaves_of [] → Rebuilt F vs out 0
rebuilt_none F vs out e = record {
  tidy = tidy_of out [] e (omega arith);
  count = count_of out [] e;
  whole = ap (λ (xs : List ℕ). xs ++ F (numbers vs)) (sym (list_of out [] e));
}

-- one leaf more, which F passes by
pub rebuilt_more : {F : List ℕ → List ℕ} {vs : List Var} {w out : Leaves} {k : ℕ} (v : Var) → Rebuilt F vs out k → out.count < leaf_limit
    → w ≡ leaves_of (leaf_list out ++ (v.0 ∷ []))
    → F (numbers (drop k vs)) ≡ v.0 ∷ F (numbers (drop (k + 1) vs))
    → Rebuilt F vs w (k + 1)
rebuilt_more {F} {vs} {w} {out} {k} v b room e p = record {
  tidy = pushed_tidy v.0 b.tidy room e;
  count = omega (arith, pushed_count v.0 b.tidy room e, b.count);
  whole =
      b.whole
      ∙ ap (λ (xs : List ℕ). leaf_list out ++ xs) p
      ∙ sym (append_assoc (leaf_list out) (v.0 ∷ []) (F (numbers (drop (k + 1) vs))))
      ∙ ap (λ (xs : List ℕ). xs ++ F (numbers (drop (k + 1) vs))) (sym (pushed_list v.0 b.tidy room e));
}

-- a leaf stands at place k, so there is room for it
pub rebuilt_room : {F : List ℕ → List ℕ} {vs : List Var} {out : Leaves} {k : ℕ} (w : Leaves) → length w.places ≡ 6 → numbers vs ≡ leaf_list w
    → Rebuilt F vs out k → k < length vs → Tidy out × (out.count < leaf_limit)
rebuilt_room {vs = vs} w six same b h = (b.tidy, omega (arith, b.count, leaves_few w vs same six))

-- where F makes ys of the leaves from place k on
pub rebuilt_whole : {F : List ℕ → List ℕ} {vs : List Var} {out : Leaves} {k : ℕ} (w : Leaves) → numbers vs ≡ leaf_list w → Rebuilt F vs out k
    → (ys : List ℕ) → F (numbers (drop k vs)) ≡ ys → leaf_list out ++ ys ≡ F (leaf_list w)
rebuilt_whole {F} {out = out} w same b ys p = sym (ap F (sym same) ∙ b.whole ∙ ap (λ (xs : List ℕ). leaf_list out ++ xs) p)

-- ---- what is put in or removed, at the place of a walk where it comes

module _ (v : ℕ) (vs : List Var) (k : ℕ) where
  abbrev rest : List ℕ
  rest = numbers (drop k vs)

  abbrev here : Var
  here = get_or vs k (record { 0 = 0 })

  pub put_end : length vs ≤ k → put v rest ≡ v ∷ []
  unfolding put
  put_end h = rw (rest_end vs k h)

  pub remove_end : length vs ≤ k → remove v rest ≡ []
  unfolding remove
  remove_end h = rw (rest_end vs k h)

  module _ (h : k < length vs) where
    pub put_before : v < here.0 → put v rest ≡ v ∷ rest
    unfolding put
    put_before l = rw (rest_more vs k h, lt-ltb v here.0 l)

    pub put_already : v ≡ here.0 → put v rest ≡ rest
    unfolding put
    put_already e = rw (rest_more vs k h, le-ltb v here.0 (omega arith), eq-eqb v here.0 e)

    pub put_after : here.0 < v → put v rest ≡ here.0 ∷ put v (numbers (drop (k + 1) vs))
    unfolding put
    put_after l =
        let n : ¬ (v ≡ here.0) = omega arith in
        rw (rest_more vs k h, le-ltb v here.0 (omega arith), ne_eqb v here.0 n)

    pub remove_here : v ≡ here.0 → remove v rest ≡ numbers (drop (k + 1) vs)
    unfolding remove
    remove_here e = rw (rest_more vs k h, eq-eqb v here.0 e)

    pub remove_after : ¬ (v ≡ here.0) → remove v rest ≡ here.0 ∷ remove v (numbers (drop (k + 1) vs))
    unfolding remove
    remove_after n = rw (rest_more vs k h, ne_eqb v here.0 n)
