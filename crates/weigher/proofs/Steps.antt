-- Gates are listed and marked one after another: each step keeps what stood before it, and the marks can be taken off again.
-- Assumes nothing.
use mathlib.Core.Path.{◌≡◌, refl, sym, ap, ◌∙◌, subst}
use mathlib.Core.Bool.{Bool, true, false, cond, false≢true}
use mathlib.Core.List.{List, [], ◌∷◌, ◌++◌}
use mathlib.Core.Logic.{◌⊎◌, inl, inr, ⊎_elim}
use Prim.Native.Nat.{ℕ, suc, ◌+◌, ◌≤◌, ◌<◌}
use native.Mathlib.Nat.{le_refl}
use native.Mathlib.Numerals.{add-one}
use native.Mathlib.Omega.{arith}
use borrow.Author.Tests.{lt-ltb, le-ltb}
use lib.ListN.{length, get_or, set, take, length-set, get_or-eq_default}
use lib.Seq.{get_or-set_same, get_or-set_other, take-suc, take-suc-set, ext_get_or}
use Rattle.graph.specs.Lists.{◌∈◌, here, later}
use Rattle.graph.specs.Graph.{Net, over, free, size, last, IsGate}
use Rattle.graph.specs.Use.{Reached, count_marks}
use Rattle.graph.proofs.Lists.{at_most_or_above, equal_or_not, true_or_false}
use Rattle.graph.proofs.Members.{place_of}
use Rattle.graph.proofs.Marks.{Marked}
use Rattle.graph.proofs.Renumber.{count_most}
use Rattle.replacement.proofs.Counts.{but_root}
use Rattle.weigher.specs.Held.{set_each, unmarked, Walked, walked_to, held}

-- ---- marks that are set or taken off one after another

pub set_each_length : (b : Bool) (vs : List ℕ) (ms : List Bool) → length (set_each b vs ms) ≡ length ms
unfolding set_each
set_each_length b [] ms = refl
set_each_length b (v ∷ vs) ms = set_each_length b vs (set ms v b) ∙ length-set ms v b

set_each_more : (b : Bool) (vs : List ℕ) (v : ℕ) (ms : List Bool) → set_each b (vs ++ (v ∷ [])) ms ≡ set (set_each b vs ms) v b
unfolding set_each
set_each_more b [] v ms = refl
set_each_more b (u ∷ vs) v ms = set_each_more b vs v (set ms u b)

pub set_each_next : (b : Bool) (vs : List ℕ) (k : ℕ) (ms : List Bool) → k < length vs
    → set (set_each b (take k vs) ms) (get_or vs k 0) b ≡ set_each b (take (k + 1) vs) ms
set_each_next b vs k ms h = rw (add-one k, take-suc vs k 0 h) (sym (set_each_more b (take k vs) (get_or vs k 0) ms))

-- the mark of a variable that is not listed stays
listed_or_not : (vs : List ℕ) (u : ℕ)
    → (u ∈ vs) ⊎ ((b : Bool) (ms : List Bool) → get_or (set_each b vs ms) u false ≡ get_or ms u false)
unfolding set_each
listed_or_not [] u = inr (λ b ms. refl)
listed_or_not (v ∷ vs) u = ⊎_elim
    (λ e. inl (here e))
    (λ n. ⊎_elim (λ l. inl (later l)) (λ k. inr (λ b ms. k b (set ms v b) ∙ get_or-set_other ms v u b false n)) (listed_or_not vs u))
    (equal_or_not u v)

listed_has : (b : Bool) (vs : List ℕ) (ms : List Bool) (u : ℕ) → u < length ms → u ∈ vs → get_or (set_each b vs ms) u false ≡ b
unfolding set_each
listed_has b [] ms u h i = elim i [ ]
listed_has b (v ∷ vs) ms u h (here e) = ⊎_elim
    (λ l. listed_has b vs (set ms v b) u (omega (arith, length-set ms v b)) l)
    (λ k. k b (set ms v b) ∙ ap (λ (w : ℕ). get_or (set ms w b) u false) (sym e) ∙ get_or-set_same ms u b false h)
    (listed_or_not vs u)
listed_has b (v ∷ vs) ms u h (later l) = listed_has b vs (set ms v b) u (omega (arith, length-set ms v b)) l

marked_within : (ms : List Bool) (u : ℕ) → Marked ms u → u < length ms
marked_within ms u m = ⊎_elim
    (λ h. absurd (false≢true (sym (get_or-eq_default ms false h) ∙ m))) (λ h. h) (at_most_or_above (length ms) u)

module _ (vs : List ℕ) (ms : List Bool) where
  pub set_each_keeps : (u : ℕ) → Marked ms u → Marked (set_each true vs ms) u
  set_each_keeps u m = ⊎_elim (λ l. listed_has true vs ms u (marked_within ms u m) l) (λ k. k true ms ∙ m) (listed_or_not vs u)

  pub set_each_only : (u : ℕ) → Marked (set_each true vs ms) u → (u ∈ vs) ⊎ Marked ms u
  set_each_only u m = ⊎_elim (λ l. inl l) (λ k. inr (sym (k true ms) ∙ m)) (listed_or_not vs u)

  -- marks that were not there before are taken off again
  pub set_each_undone : ((j : ℕ) → j < length vs → get_or ms (get_or vs j 0) false ≡ false) → set_each false vs (set_each true vs ms) ≡ ms
  set_each_undone none =
      let long = set_each_length false vs (set_each true vs ms) in
      let same = set_each_length true vs ms in
      ext_get_or false (set_each false vs (set_each true vs ms)) ms (long ∙ same) (λ i h. ⊎_elim
      (λ l. listed_has false vs (set_each true vs ms) i (omega arith) l ∙ sym (unset i l))
      (λ k. k false (set_each true vs ms) ∙ k true ms)
      (listed_or_not vs i))
    where
      unset : (u : ℕ) → u ∈ vs → get_or ms u false ≡ false
      unset u l = let p = place_of 0 l in subst (λ (w : ℕ). get_or ms w false ≡ false) p.2 (none p.0 p.1)

-- ---- one variable more

module _ (inputs v : ℕ) (s : Walked) where
  pub held_input : v ≤ inputs → held inputs v s ≡ s
  unfolding held unmarked
  held_input h = rw (held, le-ltb inputs v h)

  pub held_marked : Marked s.marks v → held inputs v s ≡ s
  unfolding held unmarked
  held_marked m = ⊎_elim held_input (λ h. rw (held, lt-ltb inputs v h, m)) (at_most_or_above v inputs)

  pub held_new : inputs < v → get_or s.marks v false ≡ false
      → held inputs v s ≡ walked_to (set s.marks v true) (set s.list s.count v) (suc s.count)
  unfolding held unmarked
  held_new h m = rw (held, lt-ltb inputs v h, m)

  -- what a step does, by its two tests
  data Does : Type 0 where
    nothing : held inputs v s ≡ s → (inputs < v → Marked s.marks v) → Does
    lists : inputs < v → get_or s.marks v false ≡ false
        → held inputs v s ≡ walked_to (set s.marks v true) (set s.list s.count v) (suc s.count) → Does

  does : Does
  does = ⊎_elim
      (λ h. nothing (held_input h) (λ l. absurd (omega arith)))
      (λ h. ⊎_elim (λ m. nothing (held_marked m) (λ l. m)) (λ m. lists h m (held_new h m)) (true_or_false (get_or s.marks v false)))
      (at_most_or_above v inputs)

-- marks and what is listed stay, and more may come
pub record Grown (s t : Walked) : Type 0 where
  pub more : s.count ≤ t.count
  pub same_list : (j : ℕ) → j < s.count → get_or t.list j 0 ≡ get_or s.list j 0
  pub same_room : length t.list ≡ length s.list
  pub keeps : (u : ℕ) → Marked s.marks u → Marked t.marks u

pub grown_on : {s t r : Walked} → Grown s t → Grown t r → Grown s r
grown_on a b = record {
  more = let m = a.more in let n = b.more in omega arith;
  same_list = λ j h. b.same_list j (let m = a.more in omega arith) ∙ a.same_list j h;
  same_room = b.same_room ∙ a.same_room;
  keeps = λ u m. b.keeps u (a.keeps u m);
}

module _ (inputs v : ℕ) (s : Walked) where
  pub held_grows : Grown s (held inputs v s)
  held_grows = go (does inputs v s)
    where
      stays : Grown s s
      stays = record { more = le_refl _; same_list = λ j h. refl; same_room = refl; keeps = λ u m. m }

      comes : Grown s (walked_to (set s.marks v true) (set s.list s.count v) (suc s.count))
      comes = record {
        more = omega arith;
        same_list = λ j h. get_or-set_other s.list s.count j v 0 (λ e. omega arith);
        same_room = length-set s.list s.count v;
        keeps = unfold set_each in set_each_keeps (v ∷ []) s.marks;
      }

      go : Does inputs v s → Grown s (held inputs v s)
      go (nothing e m) = subst (Grown s) (sym e) stays
      go (lists h m e) = subst (Grown s) (sym e) comes

  pub held_few : (held inputs v s).count ≤ suc s.count
  held_few = go (does inputs v s)
    where
      go : Does inputs v s → (held inputs v s).count ≤ suc s.count
      go (nothing e m) = rw e (omega arith)
      go (lists h m e) = rw e (le_refl _)

  pub held_has : v < length s.marks → inputs < v → Marked (held inputs v s).marks v
  held_has room h = go (does inputs v s)
    where
      go : Does inputs v s → Marked (held inputs v s).marks v
      go (nothing e m) = subst (λ (t : Walked). Marked t.marks v) (sym e) (m h)
      go (lists l m e) = subst (λ (t : Walked). Marked t.marks v) (sym e) (get_or-set_same s.marks v true false room)

module _ (inputs : ℕ) (s : Walked) where
  pub few_held : (v : ℕ) {t : Walked} → t ≡ held inputs v s → t.count ≤ suc s.count
  few_held v e = rw e (held_few inputs v s)

  -- one step after the other, where the inputs and the two variables have other names too
  pub two_held : {i x y a b : ℕ} {t r : Walked} → t ≡ held i x s → r ≡ held i y t → i ≡ inputs → x ≡ a → y ≡ b
      → r ≡ held inputs b (held inputs a s)
  two_held e f n p q = rw (f, e, n, p, q)

-- ---- what is listed: gates that had no mark, that literals reach, as many as marks came

pub record Listing (net : Net) (ls : List ℕ) (ms : List Bool) (s : Walked) : Type 0 where
  pub fits : s.count ≤ length s.list
  pub marks_are : s.marks ≡ set_each true (take s.count s.list) ms
  pub gates : (j : ℕ) → j < s.count → IsGate net (get_or s.list j 0)
  pub had_none : (j : ℕ) → j < s.count → get_or ms (get_or s.list j 0) false ≡ false
  pub reached : (j : ℕ) → j < s.count → Reached (over net ls) (get_or s.list j 0)
  pub counted : count_marks net s.marks (size net) ≡ count_marks net ms (size net) + s.count

pub marks_stay : (net : Net) (ls : List ℕ) (ms : List Bool) (s : Walked) → Listing net ls ms s → length s.marks ≡ length ms
marks_stay net ls ms s l = ap length l.marks_are ∙ set_each_length true (take s.count s.list) ms

-- so many at most
pub listed_most : {net : Net} {ls : List ℕ} {ms : List Bool} {s : Walked} → Listing net ls ms s → s.count ≤ size net
listed_most {net = net} {s = s} l = omega (arith, l.counted, count_most net s.marks (size net))

module _ (net : Net) (ls : List ℕ) (ms : List Bool) where
  pub nothing_listed : (list : List ℕ) → Listing net ls ms (walked_to ms list 0)
  unfolding set_each
  nothing_listed list = record {
    fits = omega arith;
    marks_are = refl;
    gates = λ j h. absurd (omega arith);
    had_none = λ j h. absurd (omega arith);
    reached = λ j h. absurd (omega arith);
    counted = omega arith;
  }

  module _ (room : last net < length ms) (s : Walked) (before : Listing net ls ms s) where
    pub marks_room : last net < length s.marks
    marks_room = omega (arith, marks_stay net ls ms s before, room)

    module _ (v : ℕ) (within : v ≤ last net) (r : Reached (over net ls) v) (space : s.count < length s.list) where
      with_last : (P : ℕ → Type 0) → ((j : ℕ) → j < s.count → P (get_or s.list j 0)) → P v
          → (j : ℕ) → j < suc s.count → P (get_or (set s.list s.count v) j 0)
      with_last P each p j h = ⊎_elim
          (λ e. rw e (subst P (sym (get_or-set_same s.list s.count v 0 space)) p))
          (λ n. subst P (sym (get_or-set_other s.list s.count j v 0 n)) (each j (omega arith)))
          (equal_or_not j s.count)

      listed_last : IsGate net v → get_or s.marks v false ≡ false
          → Listing net ls ms (walked_to (set s.marks v true) (set s.list s.count v) (suc s.count))
      listed_last i m =
          let on = get_or-set_same s.marks v true false (omega (arith, marks_room)) in
          let none : get_or ms v false ≡ false =
          ⊎_elim (λ k. absurd (false≢true (sym m ∙ rw before.marks_are (set_each_keeps (take s.count s.list) ms v k)))) (λ k. k)
          (true_or_false (get_or ms v false)) in
          let one = but_root net (set s.marks v true) s.marks v i (λ u j n. get_or-set_other s.marks v u true false n) m in
          let more : cond {A = ℕ} (get_or (set s.marks v true) v false) 1 0 ≡ 1 = rw on in
          record {
            fits = omega (arith, length-set s.list s.count v);
            marks_are =
                ap (λ (ns : List Bool). set ns v true) before.marks_are
                ∙ sym (set_each_more true (take s.count s.list) v ms)
                ∙ ap (λ (vs : List ℕ). set_each true vs ms) (sym (take-suc-set s.list s.count v space));
            gates = with_last (IsGate net) before.gates i;
            had_none = with_last (λ u. get_or ms u false ≡ false) before.had_none none;
            reached = with_last (Reached (over net ls)) before.reached r;
            counted = omega (arith, one, more, before.counted);
          }

      pub held_listing : Listing net ls ms (held (free net) v s)
      held_listing = go (does (free net) v s)
        where
          go : Does (free net) v s → Listing net ls ms (held (free net) v s)
          go (nothing e m) = subst (Listing net ls ms) (sym e) before
          go (lists h m e) = subst (Listing net ls ms) (sym e) (listed_last (record { above = h; within = within }) m)
