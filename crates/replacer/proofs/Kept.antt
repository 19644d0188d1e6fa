-- What is left of a net by marks and new numbers in lent memory: the numbers one by one, and that the gates and outputs are the
-- definition's.
-- Assumes nothing.
use mathlib.Core.Path.{◌≡◌, refl, sym, ap, ◌∙◌}
use mathlib.Core.Bool.{Bool, true, false, cond, ◌||◌}
use mathlib.Core.List.{List, [], ◌∷◌, map, map-map}
use mathlib.Core.Logic.{⊎_elim}
use Prim.Native.Nat.{ℕ, zero, suc, ◌+◌, ◌-◌, ◌*◌, ◌%◌, ◌≤◌, ◌<◌}
use native.Mathlib.Nat.{le_refl}
use native.Mathlib.Numerals.{add-one}
use native.Mathlib.Omega.{arith}
use borrow.Author.Tests.{le-leb, lt-leb}
use mir.Val.{bool_byte}
use lib.Dec.{leb}
use lib.ListN.{length, get_or, set, drop, replicate, length-append}
use lib.Seq.{get_or-append-add, get_or-drop}
use Rattle.graph.specs.Lists.{gather}
use Rattle.graph.specs.Literal.{var_of, LiteralsBelow}
use Rattle.graph.specs.Lent.{written}
use Rattle.graph.specs.Graph.{Net, Graph, graph_of, free, size, last, first, second, IsGate, Lawful, WellFormedNet}
use Rattle.graph.specs.Use.{count_marks}
use Rattle.graph.specs.Drop.{new_number, renumbered, kept_gate, kept_net}
use Rattle.graph.proofs.Lists.{at_most_or_above, true_or_false, map_same}
use Rattle.graph.proofs.Gather.{gather_same}
use Rattle.graph.proofs.Singles.{singles, length_singles, get_d_singles}
use Rattle.graph.proofs.Swept.{written_at, written_next}
use Rattle.graph.proofs.Renumber.{count_most, number_low, number_most}
use Rattle.window.proofs.LeavesLaws.{replicate_at}
use Rattle.checker.proofs.Marking.{count_same, count_more}
use Rattle.replacement.specs.declared.types.Proposal.{Proposal}
use Rattle.replacement.specs.Rewire.{Wires, redirected, rewired_net, rewired}
use Rattle.replacement.proofs.Rewire.{redirected_low, rewired_free, rewired_size, rewired_lawful}
use Rattle.replacement.proofs.Counts.{same_count}
use Rattle.replacer.specs.Finishing.{new_numbers, SmallNumbers, by_numbers, kept_words, kept_gates}

-- past what is written fresh memory holds 0
fresh_past : (xs : List ℕ) (n v : ℕ) → length xs ≤ v → get_or (written xs (replicate n 0)) v 0 ≡ 0
unfolding written
fresh_past xs n v h =
    let e : v ≡ length xs + (v - length xs) = omega arith in
    ap (λ (i : ℕ). get_or (written xs (replicate n 0)) i 0) e
    ∙ get_or-append-add xs (drop (length xs) (replicate n 0)) (v - length xs) 0
    ∙ get_or-drop (length xs) (replicate n 0) (v - length xs) 0
    ∙ replicate_at 0 n (length xs + (v - length xs))

-- ---- the new numbers, one variable after another

module _ (net : Net) (ms : List Bool) where
  -- past the inputs a number counts marks
  pub number_counts : (k : ℕ) → new_number net ms (free net + k) ≡ free net + count_marks net ms k
  unfolding new_number count_marks
  number_counts zero = let e : free net + 0 ≡ free net = omega arith in rw (e, le-leb (free net) (free net) (le_refl _))
  number_counts (suc k) =
      let e : free net + suc k - free net ≡ suc k = omega arith in rw (lt-leb (free net + suc k) (free net) (omega arith), e)

  -- the next variable's number is one more where that stays, as a cast gives it
  pub number_next : (n : ℕ) {number : ℕ} {stays : Bool} → number ≡ new_number net ms n
      → stays ≡ leb (n + 1) (free net) || get_or ms (n + 1) false → number + bool_byte stays ≡ new_number net ms (n + 1)
  number_next n is stays = rw (is, stays) (⊎_elim
      (λ (l : n + 1 ≤ free net).
      rw (le-leb (n + 1) (free net) l) (omega (arith, number_low net ms n (omega arith), number_low net ms (n + 1) l)))
      (λ (l : free net < n + 1).
      let here : free net + (n - free net) ≡ n = omega arith in
      let next : free net + (n - free net + 1) ≡ n + 1 = omega arith in
      let place : free net + (n - free net) + 1 ≡ n + 1 = omega arith in
      let number = rw here at (number_counts (n - free net)) in
      let counted = rw next at (number_counts (n - free net + 1)) in
      let marked = rw place at (count_more net ms (n - free net)) in
      rw (lt-leb (n + 1) (free net) l) (omega arith))
      (at_most_or_above (n + 1) (free net)))

  -- the last counts all marks
  pub number_last : (n : ℕ) {number : ℕ} → number ≡ new_number net ms n → n ≡ last net
      → number ≡ free net + count_marks net ms (size net)
  number_last n is all = is ∙ ap (new_number net ms) all ∙ number_counts (size net)

  -- no number is above the highest variable
  pub number_small : (v : ℕ) → v ≤ last net → new_number net ms v ≤ last net
  number_small v h = omega (arith, number_most net ms v h, count_most net ms (size net))

  -- ---- in lent memory

  -- the numbers of the variables 0 to n
  abbrev pub numbers_to : ℕ → List ℕ
  numbers_to n = singles (new_number net ms) (suc n)

  -- variable 0 keeps its number
  pub numbers_start : (n : ℕ) → replicate (suc n) 0 ≡ written (numbers_to 0) (replicate (suc n) 0)
  unfolding gather written
  numbers_start n = ap (λ (x : ℕ). x ∷ replicate n 0) (sym (number_low net ms 0 (omega arith)))

  pub numbers_more : (n : ℕ) (lent : List ℕ) → n + 1 < length lent
      → set (written (numbers_to n) lent) (n + 1) (new_number net ms (n + 1)) ≡ written (numbers_to (n + 1)) lent
  unfolding gather
  numbers_more n lent h =
      let long = length_singles (new_number net ms) (suc n) in
      rw (add-one n)
      (ap (λ (k : ℕ). set (written (numbers_to n) lent) k (new_number net ms (suc n))) (sym long)
      ∙ written_next (numbers_to n) (new_number net ms (suc n)) lent (omega arith))

  pub numbers_all : (n : ℕ) (lent : List ℕ) {ns : List ℕ} → ns ≡ written (numbers_to n) lent → n ≡ last net
      → ns ≡ written (new_numbers net ms) lent
  unfolding new_numbers
  numbers_all n lent is all = is ∙ ap (λ (k : ℕ). written (numbers_to k) lent) all

  all_numbers : length (new_numbers net ms) ≡ suc (last net)
  unfolding new_numbers
  all_numbers = length_singles (new_number net ms) (suc (last net))

  module _ (lent : List ℕ) where
    numbers_at : (v : ℕ) → v ≤ last net → get_or (written (new_numbers net ms) lent) v 0 ≡ new_number net ms v
    unfolding new_numbers
    numbers_at v h =
        written_at (new_numbers net ms) lent v 0 (omega (arith, all_numbers))
        ∙ get_d_singles (new_number net ms) (suc (last net)) v 0 (omega arith)

  pub numbers_small : WellFormedNet net → (n : ℕ) → SmallNumbers (written (new_numbers net ms) (replicate n 0))
  numbers_small ok n = record {
    small = λ v. ⊎_elim
        (λ l. omega (arith, numbers_at (replicate n 0) v l, number_small v l, ok.inputs_few, ok.gates_few))
        (λ l. omega (arith, fresh_past (new_numbers net ms) n v (omega (arith, all_numbers))))
        (at_most_or_above v (last net));
  }

-- ---- rewiring leaves the numbers as they are

module _ (net : Net) (root : ℕ) (p : Proposal) (ms : List Bool) where
  pub same_counts : (k : ℕ) → count_marks (rewired_net net root p) ms k ≡ count_marks net ms k
  same_counts = same_count (rewired_net net root p) net ms (rewired_free net root p)

  same_number : (v : ℕ) → new_number (rewired_net net root p) ms v ≡ new_number net ms v
  unfolding new_number rewired_net
  same_number v = ap (λ (c : ℕ). cond (leb v (free net)) v (free net + c)) (same_counts (v - free net))

  same_numbers : new_numbers (rewired_net net root p) ms ≡ new_numbers net ms
  unfolding new_numbers
  same_numbers =
      let n = rewired_size net root p in
      let f = rewired_free net root p in
      let e : suc (last (rewired_net net root p)) ≡ suc (last net) = omega arith in
      ap (λ (k : ℕ). singles (new_number (rewired_net net root p) ms) k) e
      ∙ gather_same _ _ (suc (last net)) (λ v h. ap (λ (x : ℕ). x ∷ []) (same_number v))

  -- so they serve the rewired net
  pub rewired_numbers_at : (lent : List ℕ) (v : ℕ) → v ≤ last (rewired_net net root p)
      → get_or (written (new_numbers net ms) lent) v 0 ≡ new_number (rewired_net net root p) ms v
  rewired_numbers_at lent v h =
      ap (λ (xs : List ℕ). get_or (written xs lent) v 0) (sym same_numbers) ∙ numbers_at (rewired_net net root p) ms lent v h

-- ---- what is left of the gates

module _ (net : Net) (ms : List Bool) (ns : List ℕ) where
  pub words_on : (v : ℕ) → get_or ms v false ≡ true → kept_words net ms ns v ≡ by_numbers ns (first net v) ∷ by_numbers ns (second net v) ∷ []
  unfolding kept_words
  words_on v m = rw m

  pub words_off : (v : ℕ) → get_or ms v false ≡ false → kept_words net ms ns v ≡ []
  unfolding kept_words
  words_off v m = rw m

  pub kept_count : length (kept_gates net ms ns) ≡ 2 * count_marks net ms (size net)
  unfolding kept_gates gather count_marks
  kept_count = go (size net)
    where
      two : (v : ℕ) → length (kept_words net ms ns v) ≡ 2 * cond (get_or ms v false) 1 0
      two v = ⊎_elim
          (λ m. ap length (words_on v m) ∙ ap (λ (b : Bool). 2 * cond b 1 0) (sym m))
          (λ m. ap length (words_off v m) ∙ ap (λ (b : Bool). 2 * cond b 1 0) (sym m))
          (true_or_false (get_or ms v false))

      go : (k : ℕ) → length (gather (λ j. kept_words net ms ns (suc (free net + j))) k) ≡ 2 * count_marks net ms k
      go zero = refl
      go (suc k) =
          length-append (gather (λ j. kept_words net ms ns (suc (free net + j))) k) (kept_words net ms ns (suc (free net + k)))
          ∙ omega (arith, go k, two (suc (free net + k)))

-- ---- the definition's gates and outputs

-- the fanins of gates have numbers
abbrev FaninsWithin : Net → Type 0
FaninsWithin net = (v : ℕ) → IsGate net v → (var_of (first net v) ≤ last net) × (var_of (second net v) ≤ last net)

lawful_within : (g : Graph) → Lawful g → FaninsWithin g.net
lawful_within g ok v i =
    let w = i.within in let o = ok.ordered v i in let b = ok.below v i in (omega arith, omega arith)

pub rewired_within : (net : Net) (root : ℕ) (p : Proposal) → WellFormedNet net → IsGate net root → Wires root p
    → FaninsWithin (rewired_net net root p)
unfolding rewired
rewired_within net root p ok gate wires =
    let g = graph_of net.inputs net.gates [] in
    lawful_within (rewired g root p) (rewired_lawful g ok.lawful root gate p wires)

-- and so do outputs that are redirected
pub redirected_below : (root : ℕ) (p : Proposal) → Wires root p → (os : List ℕ) (n : ℕ) → LiteralsBelow os n
    → (j : ℕ) → j < length os → var_of (redirected root p (get_or os j 0)) < n
redirected_below root p wires os n below j h =
    let within = below.within j h in
    omega (arith, redirected_low root p wires (get_or os j 0) n (omega arith))

module _ (net : Net) (ms ms' : List Bool) (same : (v : ℕ) → IsGate net v → get_or ms v false ≡ get_or ms' v false) (ns : List ℕ)
    (numbers : (v : ℕ) → v ≤ last net → get_or ns v 0 ≡ new_number net ms v) where
  -- numbers go by the marks of gates
  number_same_marks : (v : ℕ) → v ≤ last net → new_number net ms v ≡ new_number net ms' v
  unfolding new_number
  number_same_marks v h =
      ap (λ (c : ℕ). cond (leb v (free net)) v (free net + c)) (count_same net ms ms' same (v - free net) (omega arith))

  literal_is : (l : ℕ) → var_of l ≤ last net → by_numbers ns l ≡ renumbered net ms' l
  unfolding by_numbers renumbered
  literal_is l h = ap (λ (x : ℕ). 2 * x + l % 2) (numbers (var_of l) h ∙ number_same_marks (var_of l) h)

  words_are : FaninsWithin net → (v : ℕ) → IsGate net v → kept_words net ms ns v ≡ kept_gate net ms' v
  unfolding kept_words kept_gate
  words_are low v i =
      let l = low v i in
      rw (same v i, literal_is (first net v) l.0, literal_is (second net v) l.1)

  pub kept_gates_are : FaninsWithin net → kept_gates net ms ns ≡ (kept_net net ms').gates
  unfolding kept_gates kept_net
  kept_gates_are low =
      gather_same _ _ (size net) (λ k h. words_are low (suc (free net + k)) (record { above = omega arith; within = omega arith }))

  pub outputs_are : (root : ℕ) (p : Proposal) (os : List ℕ)
      → ((j : ℕ) → j < length os → var_of (redirected root p (get_or os j 0)) ≤ last net)
      → map (λ l. by_numbers ns (redirected root p l)) os ≡ map (renumbered net ms') (map (redirected root p) os)
  outputs_are root p os low =
      map_same (λ l. by_numbers ns (redirected root p l)) (λ l. renumbered net ms' (redirected root p l)) 0 os
      (λ j h. literal_is (redirected root p (get_or os j 0)) (low j h))
      ∙ sym (map-map (renumbered net ms') (redirected root p) os)
