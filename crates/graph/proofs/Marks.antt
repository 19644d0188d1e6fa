-- What marking changes: the variables of the literals marked, and nothing else.
-- Assumes nothing.
use mathlib.Core.Path.{◌≡◌, refl, sym, ap, ◌∙◌}
use mathlib.Core.Bool.{Bool, true, false}
use mathlib.Core.List.{List, [], ◌∷◌}
use mathlib.Core.Logic.{◌⊎◌, inl, inr, ⊎_elim}
use Prim.Native.Nat.{ℕ, zero, suc, ◌<◌}
use native.Mathlib.Nat.{not-suc-le-zero}
use native.Mathlib.Omega.{arith}
use lib.ListN.{length, get_or, set, length-set}
use lib.Seq.{get_or-set_same, get_or-set_other, set_out}
use Rattle.graph.specs.Literal.{var_of}
use Rattle.graph.specs.Graph.{Net, first, second}
use Rattle.graph.specs.Use.{mark_each, mark_fanins}
use Rattle.graph.proofs.Lists.{at_most_or_above, equal_or_not, true_or_false}

abbrev pub Marked : List Bool → ℕ → Type 0
Marked ms v = get_or ms v false ≡ true

-- ---- one mark

module _ (ms : List Bool) (u : ℕ) where
  set_marks : u < length ms → Marked (set ms u true) u
  set_marks l = get_or-set_same ms u true false l

  set_keeps : (v : ℕ) → Marked ms v → Marked (set ms u true) v
  set_keeps v m = ⊎_elim
      (λ e. ⊎_elim
      (λ l. ap (λ (k : ℕ). get_or (set ms u true) k false) e ∙ set_marks l)
      (λ l. ap (λ (xs : List Bool). get_or xs v false) (set_out ms u true (omega arith)) ∙ m) (at_most_or_above (suc u) (length ms)))
      (λ n. get_or-set_other ms u v true false n ∙ m) (equal_or_not v u)

  set_only : (v : ℕ) → Marked (set ms u true) v → (u ≡ v) ⊎ Marked ms v
  set_only v m = ⊎_elim (λ e. inl (sym e)) (λ n. inr (sym (get_or-set_other ms u v true false n) ∙ m)) (equal_or_not v u)

-- ---- the variables of a list of literals

-- v is the variable of one of the literals
pub record NamedBy (ls : List ℕ) (v : ℕ) : Type 0 where
  pub place : ℕ
  pub within : place < length ls
  pub names : var_of (get_or ls place 0) ≡ v

named_later : {l : ℕ} {ls : List ℕ} {v : ℕ} → NamedBy ls v → NamedBy (l ∷ ls) v
named_later n = record { place = suc n.place; within = let h = n.within in omega arith; names = n.names }

pub each_length : (ls : List ℕ) (ms : List Bool) → length (mark_each ls ms) ≡ length ms
unfolding mark_each
each_length [] ms = refl
each_length (l ∷ ls) ms = each_length ls (set ms (var_of l) true) ∙ length-set ms (var_of l) true

pub each_keeps : (ls : List ℕ) (ms : List Bool) (v : ℕ) → Marked ms v → Marked (mark_each ls ms) v
unfolding mark_each
each_keeps [] ms v m = m
each_keeps (l ∷ ls) ms v m = each_keeps ls (set ms (var_of l) true) v (set_keeps ms (var_of l) v m)

pub each_marks : (ls : List ℕ) (ms : List Bool) (j : ℕ) → j < length ls → var_of (get_or ls j 0) < length ms
    → Marked (mark_each ls ms) (var_of (get_or ls j 0))
unfolding mark_each
each_marks [] ms j h b = absurd (not-suc-le-zero h)
each_marks (l ∷ ls) ms zero h b = each_keeps ls (set ms (var_of l) true) (var_of l) (set_marks ms (var_of l) b)
each_marks (l ∷ ls) ms (suc j) h b = each_marks ls (set ms (var_of l) true) j (omega arith) (omega (arith, length-set ms (var_of l) true))

pub each_only : (ls : List ℕ) (ms : List Bool) (v : ℕ) → Marked (mark_each ls ms) v → NamedBy ls v ⊎ Marked ms v
unfolding mark_each
each_only [] ms v m = inr m
each_only (l ∷ ls) ms v m = ⊎_elim
    (λ n. inl (named_later n))
    (λ s. ⊎_elim (λ e. inl (record { place = 0; within = omega arith; names = e })) (λ k. inr k) (set_only ms (var_of l) v s))
    (each_only ls (set ms (var_of l) true) v m)

-- ---- the fanins of a variable, if it is marked

module _ (net : Net) (v : ℕ) where
  fanins : List ℕ
  fanins = first net v ∷ second net v ∷ []

  fanins_on : (ms : List Bool) → Marked ms v → mark_fanins net v ms ≡ mark_each fanins ms
  unfolding mark_fanins fanins
  fanins_on ms m = rw m

  fanins_off : (ms : List Bool) → get_or ms v false ≡ false → mark_fanins net v ms ≡ ms
  unfolding mark_fanins
  fanins_off ms m = rw m

  pub fanins_length : (ms : List Bool) → length (mark_fanins net v ms) ≡ length ms
  fanins_length ms =
      ⊎_elim (λ m. rw (fanins_on ms m) (each_length fanins ms)) (λ m. rw (fanins_off ms m)) (true_or_false (get_or ms v false))

  pub fanins_keep : (ms : List Bool) (u : ℕ) → Marked ms u → Marked (mark_fanins net v ms) u
  fanins_keep ms u k =
      ⊎_elim (λ m. rw (fanins_on ms m) (each_keeps fanins ms u k)) (λ m. rw (fanins_off ms m) k) (true_or_false (get_or ms v false))

  pub first_marked : (ms : List Bool) → Marked ms v → var_of (first net v) < length ms → Marked (mark_fanins net v ms) (var_of (first net v))
  unfolding fanins
  first_marked ms m b = rw (fanins_on ms m) (each_marks fanins ms 0 (omega arith) b)

  pub second_marked : (ms : List Bool) → Marked ms v → var_of (second net v) < length ms
      → Marked (mark_fanins net v ms) (var_of (second net v))
  unfolding fanins
  second_marked ms m b = rw (fanins_on ms m) (each_marks fanins ms 1 (omega arith) b)

  -- a mark was there before, or v is marked and this is one of its fanins
  pub fanins_only : (ms : List Bool) (u : ℕ) → Marked (mark_fanins net v ms) u
      → Marked ms u ⊎ (Marked ms v × ((var_of (first net v) ≡ u) ⊎ (var_of (second net v) ≡ u)))
  unfolding fanins
  fanins_only ms u k = ⊎_elim
      (λ m. ⊎_elim (λ n. inr (m, which n)) inl (each_only fanins ms u (rw (fanins_on ms m) at k)))
      (λ m. inl (rw (fanins_off ms m) at k)) (true_or_false (get_or ms v false))
    where
      which : NamedBy fanins u → (var_of (first net v) ≡ u) ⊎ (var_of (second net v) ≡ u)
      which n = at n.place n.within n.names
        where
          at : (j : ℕ) → j < 2 → var_of (get_or fanins j 0) ≡ u → (var_of (first net v) ≡ u) ⊎ (var_of (second net v) ≡ u)
          at zero h e = inl e
          at (suc zero) h e = inr e
          at (suc (suc j)) h e = absurd (omega arith)
