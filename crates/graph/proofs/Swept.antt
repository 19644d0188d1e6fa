-- A sweep in lent memory: the values of the variables 0 to n stand at the front, and the next one is set down after them.
-- Assumes nothing.
use mathlib.Core.Path.{◌≡◌, refl, sym, ap, ap₂, ◌∙◌}
use mathlib.Core.List.{List, [], ◌∷◌, ◌++◌}
use mathlib.Core.Logic.{⊎_elim}
use mathlib.Core.Option
use mathlib.Core.Option.{Option}
use Prim.Native.Nat.{ℕ, suc, ◌≤◌, ◌<◌}
use native.Mathlib.Omega.{arith}
use lib.ListN.{length, get_or, set, drop, length-append, length-drop, get_or-append}
use Rattle.graph.specs.Literal.{var_of, is_odd}
use Rattle.graph.specs.Lent.{written}
use Rattle.graph.specs.Graph.{Net, free, last, first, second, IsGate, WellFormedNet}
use Rattle.graph.specs.Sweep.{Algebra, turned, lit_value, by_gate, values}
use Rattle.graph.proofs.Lists.{at_most_or_above}
use Rattle.graph.proofs.Sweep.{values_length, by_gate_free, by_gate_gate}

-- ---- one more at the front of a lent list

module _ {A : Type 0} where
  pub written_length : (xs lent : List A) → length xs ≤ length lent → length (written xs lent) ≡ length lent
  unfolding written
  written_length xs lent h = omega (arith, length-append xs (drop (length xs) lent), length-drop (length xs) lent)

  pub written_at : (xs lent : List A) (k : ℕ) (d : A) → k < length xs → get_or (written xs lent) k d ≡ get_or xs k d
  unfolding written
  written_at xs lent k d h = get_or-append xs (drop (length xs) lent) d k h

  -- what stood at place 0 does not count, as it is written over
  pub written_over : (xs lent : List A) (y : A) → 0 < length xs → written xs (set lent 0 y) ≡ written xs lent
  unfolding written
  written_over [] lent y h = absurd (omega arith)
  written_over (x ∷ xs) [] y h = refl
  written_over (x ∷ xs) (z ∷ lent) y h = refl

  pub written_next : (xs : List A) (x : A) (lent : List A) → length xs < length lent
      → set (written xs lent) (length xs) x ≡ written (xs ++ (x ∷ [])) lent
  unfolding written
  written_next [] x [] h = absurd (omega arith)
  written_next [] x (y ∷ ys) h = refl
  written_next (z ∷ xs) x [] h = absurd (omega arith)
  written_next (z ∷ xs) x (y ∷ ys) h = ap (λ (zs : List A). z ∷ zs) (written_next xs x ys (omega arith))

-- ---- the sweep

module _ {A : Type 0} (K : Algebra A) (own : ℕ → Option A) (net : Net) (lent : List A) where
  -- the lent list once the variables 0 to n are swept
  abbrev pub Swept : ℕ → List A
  Swept n = written (values K own net n) lent

  pub swept_length : (n : ℕ) → n < length lent → length (Swept n) ≡ length lent
  swept_length n h = written_length (values K own net n) lent (omega (arith, values_length K own net n))

  pub swept_zero : 0 < length lent → set lent 0 K.no ≡ Swept 0
  unfolding values written
  swept_zero h = written_next [] K.no lent h

  pub swept_literal : (n l : ℕ) → var_of l ≤ n → lit_value K (Swept n) l ≡ lit_value K (values K own net n) l
  unfolding lit_value
  swept_literal n l h =
      ap (turned K (is_odd l)) (written_at (values K own net n) lent (var_of l) K.no (omega (arith, values_length K own net n)))

  -- the values below variable suc n are all that its gate looks at
  swept_gate : WellFormedNet net → (n : ℕ) → suc n ≤ last net → by_gate K net (suc n) (Swept n) ≡ by_gate K net (suc n) (values K own net n)
  swept_gate ok n h = ⊎_elim
      (λ f. by_gate_free K net (suc n) (Swept n) f ∙ sym (by_gate_free K net (suc n) (values K own net n) f))
      (λ f.
      let gate : IsGate net (suc n) = record { above = f; within = h } in
      let low = ok.lawful.below (suc n) gate in
      let order = ok.lawful.ordered (suc n) gate in
      by_gate_gate K net (suc n) (Swept n) f
      ∙ ap₂ K.conj (swept_literal n (first net (suc n)) (omega arith)) (swept_literal n (second net (suc n)) (omega arith))
      ∙ sym (by_gate_gate K net (suc n) (values K own net n) f))
      (at_most_or_above (suc n) (free net))

  -- one variable more
  pub swept_more : WellFormedNet net → (n : ℕ) (x : A) → suc n ≤ last net → suc n < length lent
      → x ≡ Option.get_or (own (suc n)) (by_gate K net (suc n) (Swept n)) → set (Swept n) (suc n) x ≡ Swept (suc n)
  unfolding values
  swept_more ok n x h room e =
      let top = e ∙ ap (Option.get_or (own (suc n))) (swept_gate ok n h) in
      ap (λ (k : ℕ). set (Swept n) k x) (sym (values_length K own net n))
      ∙ written_next (values K own net n) x lent (omega (arith, values_length K own net n))
      ∙ ap (λ (y : A). written (values K own net n ++ (y ∷ [])) lent) top
