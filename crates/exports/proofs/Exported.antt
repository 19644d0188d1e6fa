-- A call's answer in numbers: where it is the answer of the call's effect, so are its number, its values and what is left in lent memory.
-- Assumes nothing.
use mathlib.Core.Path.{◌≡◌, ap, ◌∙◌}
use mathlib.Core.List.{List}
use Prim.Native.Nat.{ℕ}
use Rattle.graph.specs.Refuse.{Outcome}
use Rattle.graph.specs.Lent.{written, Effect, ◌leaving◌}
use Rattle.exports.specs.Exported.{Told, no_lists}

pub answer_told : {A L : Type 0} (out : A → Outcome) (e : Effect A L) (x : A) (l : L) → x leaving l ≡ e → (n : ℕ) → n ≡ (out x).number
    → (before after : List ℕ) → after ≡ written (out x).values before → Told (out e.answer) e.lent before n after l
answer_told {A} {L} out e x l is n number before after values = record {
  number = number ∙ ap (λ (f : Effect A L). (out f.answer).number) is;
  values = values ∙ ap (λ (f : Effect A L). written (out f.answer).values before) is;
  lists = ap (λ (f : Effect A L). f.lent) is;
}

-- the same of a call that no list is lent to
pub value_told : {A : Type 0} (out : A → Outcome) (e x : A) → x ≡ e → (n : ℕ) → n ≡ (out x).number
    → (before after : List ℕ) → after ≡ written (out x).values before → Told (out e) no_lists before n after no_lists
value_told out e x is = answer_told out (e leaving no_lists) x no_lists (ap (λ y. y leaving no_lists) is)
