-- Lent lists: room in them, and what words laid there and calls one after another leave.
-- Assumes nothing.
use mathlib.Core.Path.{◌≡◌, refl, sym, ap, ◌∙◌}
use mathlib.Core.List.{List, [], ◌∷◌, ◌++◌}
use Prim.Native.Nat.{ℕ, suc, ◌+◌, ◌≤◌, ◌<◌, zero-le, max, min}
use native.Mathlib.Numerals.{add-one}
use native.Mathlib.Omega.{arith}
use lib.ListN.{length, set, length-append, length-set, get_or, take, drop}
use lib.Seq.{set_comm, sets, sets-eq, length-sets, length-take-le, take_at, paste, paste-suc}
use Rattle.graph.specs.Lists.{gather}
use Rattle.graph.specs.Lent.{written, laid, short, Buffers, no_room_for, RoomFor}
use Rattle.graph.proofs.Lists.{true_or_false}
use Rattle.graph.proofs.Gather.{gather_more}
use Rattle.graph.specs.Graph.{larger_first, Graph}
use mathlib.Core.Bool.{true, false, false≢true}
use mathlib.Core.Logic.{◌↔◌, inl, inr, ⊎_elim}
use borrow.Author.Tests.{le-ltb}
use Rattle.graph.proofs.Tests.{test_off, or_iff, ltb_iff}

-- ---- room in lent lists

pub short_iff : {A : Type 0} (need : ℕ) (lent : List A) → (short need lent ≡ true) ↔ (length lent < need)
unfolding short
short_iff need lent = ltb_iff (length lent) need

pub room_iff : (g : Graph) (b : Buffers) → (no_room_for g b ≡ false) ↔ RoomFor g b
unfolding no_room_for
room_iff g b = (
  λ e.
      let either = or_iff _ _ (short_iff (length g.net.gates) b.gates) (short_iff (length g.outputs) b.outputs) in
      let enough = test_off _ either e in
      record { gates_fit = not_below _ _ (λ h. enough (inl h)); outputs_fit = not_below _ _ (λ h. enough (inr h)) },
  λ room. unfold short in rw (le-ltb _ _ room.gates_fit, le-ltb _ _ room.outputs_fit),
)
  where
    not_below : (m n : ℕ) → ¬ (m < n) → n ≤ m
    not_below m n f = omega arith

pub no_room_iff : (g : Graph) (b : Buffers) → (no_room_for g b ≡ true) ↔ (¬ RoomFor g b)
no_room_iff g b = (
  λ e room. false≢true (sym ((room_iff g b).1 room) ∙ e),
  λ n. ⊎_elim (λ e. e) (λ e. absurd (n ((room_iff g b).0 e))) (true_or_false (no_room_for g b)),
)

-- ---- laid is stored element by element

laid_sets : (at : ℕ) (xs l : List ℕ) → at + length xs ≤ length l → laid at xs l ≡ sets l at xs
unfolding laid
laid_sets at xs l room = sym (sets-eq xs l at room)

sets_append : (xs ys l : List ℕ) (at : ℕ) → sets (sets l at xs) (at + length xs) ys ≡ sets l at (xs ++ ys)
sets_append [] ys l at = let e : at + 0 ≡ at = omega arith in rw e
sets_append (x ∷ xs) ys l at =
    let e : at + suc (length xs) ≡ suc at + length xs = omega arith in rw e (sets_append xs ys (set l at x) (suc at))

-- the last element is stored first
sets_last : (xs l : List ℕ) (at x : ℕ) → sets (set l (at + length xs) x) at xs ≡ sets l at (xs ++ (x ∷ []))
sets_last [] l at x = let e : at + 0 ≡ at = omega arith in rw e
sets_last (y ∷ xs) l at x =
    let e : at + suc (length xs) ≡ suc at + length xs = omega arith in
    rw (set_comm l (at + suc (length xs)) at x y (λ q. omega arith), e) (sets_last xs (set l at y) (suc at) x)

pub laid_last : (at : ℕ) (xs : List ℕ) (x : ℕ) (l : List ℕ) → at + length xs < length l
    → laid at xs (set l (at + length xs) x) ≡ laid at (xs ++ (x ∷ [])) l
laid_last at xs x l room =
    laid_sets at xs (set l (at + length xs) x) (simp length-set (omega arith))
    ∙ sets_last xs l at x
    ∙ sym (laid_sets at (xs ++ (x ∷ [])) l (omega (arith, length-append xs (x ∷ []))))

pub laid_front : (xs l : List ℕ) → laid 0 xs l ≡ written xs l
unfolding laid written
laid_front xs l = let e : 0 + length xs ≡ length xs = omega arith in rw e

-- ---- one call after another: each answers the place after what it laid

abbrev pub Put : ℕ → List ℕ → List ℕ → ℕ → List ℕ → Type 0
Put at xs before next after = (next ≡ at + length xs) × (after ≡ laid at xs before)

pub put_bytes : (at : ℕ) (xs l : List ℕ) → at + length xs ≤ length l → Put at xs l (at + length xs) (sets l at xs)
put_bytes at xs l room = (refl, sym (laid_sets at xs l room))

put_length : (at : ℕ) (xs before : List ℕ) {next : ℕ} {after : List ℕ} → at + length xs ≤ length before → Put at xs before next after
    → length after ≡ length before
put_length at xs before room put = ap length (put.1 ∙ laid_sets at xs before room) ∙ length-sets before at xs

-- more behind what is laid, where there is room
pub put_then : (at : ℕ) (xs ys before : List ℕ) {next : ℕ} {after : List ℕ} → next + length ys ≤ length before
    → Put at xs before next after
    → {end : ℕ} {final : List ℕ} → Put next ys after end final → Put at (xs ++ ys) before end final
put_then at xs ys before {next} {after} room put p =
    let kept = put_length at xs before (omega arith) put in (
      p.0 ∙ omega (arith, length-append xs ys),
      p.1
          ∙ laid_sets next ys after (omega arith)
          ∙ rw (put.0, put.1, laid_sets at xs before (omega arith)) (sets_append xs ys before at)
          ∙ sym (laid_sets at (xs ++ ys) before (omega (arith, length-append xs ys))),
    )

pub put_byte_then : (at : ℕ) (xs : List ℕ) (byte : ℕ) (before : List ℕ) {next : ℕ} {after : List ℕ} → next < length before
    → Put at xs before next after
    → Put at (xs ++ (byte ∷ [])) before (next + 1) (set after next byte)
put_byte_then at xs byte before {next} {after} room put =
    let kept = put_length at xs before (omega arith) put in
    put_then at xs (byte ∷ []) before (omega arith) put (put_bytes next (byte ∷ []) after (omega arith))

-- the whole of what is laid from the first byte on
pub put_front : {xs ys : List ℕ} (before : List ℕ) → xs ≡ ys → {next : ℕ} {after : List ℕ} → Put 0 xs before next after
    → (next ≡ length ys) × (after ≡ laid 0 ys before)
put_front before e put = (omega (arith, put.0, ap length e), put.1 ∙ ap (λ (zs : List ℕ). laid 0 zs before) e)

-- ---- pieces laid one after another

-- of n pieces, with room for all, the first k are laid
pub record Pieces (f : ℕ → List ℕ) (n at : ℕ) (before : List ℕ) (k next : ℕ) (after : List ℕ) : Type 0 where
  pub room : at + length (gather f n) ≤ length before
  pub within : k ≤ n
  pub put : Put at (gather f k) before next after

pub pieces_none : (f : ℕ → List ℕ) (n at : ℕ) (before : List ℕ) → at + length (gather f n) ≤ length before
    → Pieces f n at before 0 at before
unfolding gather
pieces_none f n at before room = record { room = room; within = zero-le; put = (omega arith, (put_bytes at [] before (omega arith)).1) }

module _ {f : ℕ → List ℕ} {n at : ℕ} {before : List ℕ} {k next : ℕ} {after : List ℕ} (p : Pieces f n at before k next after) where
  pub pieces_length : length after ≡ length before
  pieces_length = put_length at (gather f k) before (omega (arith, gather_more f k n p.within)) p.put

  pub pieces_all : n ≤ k → Put at (gather f n) before next after
  pieces_all h = let e : k ≡ n = omega arith in rw e at p.put

  module _ (h : k < n) where
    piece_fits : next + length (f k) ≤ length before
    unfolding gather
    piece_fits = omega (arith, gather_more f (suc k) n h, length-append (gather f k) (f k))

    pub piece_room : next + length (f k) ≤ length after
    piece_room = omega (arith, piece_fits, pieces_length)

    pub piece_then : {end : ℕ} {final : List ℕ} → Put next (f k) after end final → Pieces f n at before (k + 1) end final
    unfolding gather
    piece_then q =
        record { room = p.room; within = omega arith; put = rw (add-one k) (put_then at (gather f k) (f k) before piece_fits p.put q) }

-- ---- words stored from a place on

module _ (at : ℕ) (lent : List ℕ) where
  -- a gate's words, stored side by side
  pub laid_gate : (a b x y : ℕ) → at + 1 < length lent → x ≡ max a b → y ≡ min a b
      → set (set lent at x) (at + 1) y ≡ laid at (larger_first a b) lent
  unfolding larger_first
  laid_gate a b x y h p q = rw (add-one, sym p, sym q) (put_bytes at (x ∷ y ∷ []) lent (omega arith)).1

  pub take_laid : (xs : List ℕ) → at ≤ length lent → take (at + length xs) (laid at xs lent) ≡ take at lent ++ xs
  unfolding laid
  take_laid xs h =
      take_at (take at lent ++ xs) (drop (at + length xs) lent) (at + length xs)
      (length-append (take at lent) xs ∙ ap (λ (n : ℕ). n + length xs) (length-take-le at lent h))

-- ---- and from the front

module _ (xs lent : List ℕ) where
  written_is : (n : ℕ) → n ≤ length xs → written (take n xs) lent ≡ paste lent 0 xs n
  unfolding written
  written_is n h = let e : length (take n xs) ≡ 0 + n = length-take-le n xs h ∙ omega arith in ap (λ (m : ℕ). take n xs ++ drop m lent) e

  pub written_more : (k : ℕ) → k < length xs → k < length lent
      → set (written (take k xs) lent) k (get_or xs k 0) ≡ written (take (k + 1) xs) lent
  written_more k h l =
      let place : k ≡ 0 + k = omega arith in
      rw (add-one, written_is k (omega arith), written_is (suc k) h)
      (ap (λ (i : ℕ). set (paste lent 0 xs k) i (get_or xs k 0)) place ∙ paste-suc lent 0 xs k 0 (omega arith) h)
