-- What is left of the rewired graph: its marks, the new numbers, and its words by them.
-- Assumes nothing.
use Rattle.std.specs.Prelude.{ℕ, suc, ◌+◌, ◌*◌, ◌%◌, ◌^◌, ◌<◌, ◌≡◌, Bool, false, cond, List, [], ◌∷◌, Result, Err, get_or}
use Rattle.graph.specs.Lists.{gather}
use Rattle.graph.specs.Literal.{var_of}
use Rattle.graph.specs.Lent.{Buffers, no_room_for, Effect, ◌leaving◌}
use Rattle.graph.specs.declared.refusal.Refusal.{Refusal}
use Rattle.graph.specs.declared.refusal.Refusal.TheVariants.{NoGain, NoRoom}
use Rattle.graph.specs.Graph.{Net, Graph, over, free, size, last, first, second, IsGate, Lawful}
use Rattle.graph.specs.Use.{InUse, marks}
use Rattle.graph.specs.Drop.{new_number}
use Rattle.replacement.specs.declared.types.Proposal.{Proposal}
use Rattle.replacement.specs.declared.types.Applied.{Applied}
use Rattle.replacement.specs.Rewire.{rewired, finished, gain, is_at_least_one}
use Rattle.replacement.specs.Calls.{left_in}
use Rattle.replacement.specs.Vanish.{MarksPast}

-- each gate's mark says whether it is in use once the root is replaced
pub record KeptMarks (g : Graph) (root : ℕ) (p : Proposal) (kept : List Bool) : Type 0 where
  pub marks_are : (v : ℕ) → IsGate g.net v → get_or kept v false ≡ get_or (marks (rewired g root p)) v false

-- such marks come of those past the root, whatever graph over the net these are of
abbrev pub KeptPast : Net → List Bool → ℕ → Proposal → List Bool → Type 0
KeptPast net ms root p kept =
    (outputs : List ℕ) → Lawful (over net outputs) → InUse (over net outputs) root → MarksPast (over net outputs) root ms
    → KeptMarks (over net outputs) root p kept

-- the new numbers of all variables
unfoldable pub new_numbers : Net → List Bool → List ℕ
unfolding gather new_number
new_numbers net ms = gather (λ v. new_number net ms v ∷ []) (suc (last net))

-- the numbers are small enough for literals
pub record SmallNumbers (ns : List ℕ) : Type 0 where
  pub small : (v : ℕ) → get_or ns v 0 < 2 ^ 30

-- a literal by the new numbers
unfoldable pub by_numbers : List ℕ → ℕ → ℕ
by_numbers ns l = 2 * get_or ns (var_of l) 0 + l % 2

-- what is left of v's gate
unfoldable pub kept_words : Net → List Bool → List ℕ → ℕ → List ℕ
unfolding by_numbers first second
kept_words net ms ns v = cond (get_or ms v false) (by_numbers ns (first net v) ∷ by_numbers ns (second net v) ∷ []) []

-- what is left of all gates
unfoldable pub kept_gates : Net → List Bool → List ℕ → List ℕ
unfolding gather kept_words
kept_gates net ms ns = gather (λ k. kept_words net ms ns (suc (free net + k))) (size net)

-- what storing the finished graph comes to
unfoldable pub finish_effect : Graph → ℕ → Proposal → Buffers → Effect (Result Applied Refusal) Buffers
unfolding finished no_room_for left_in
finish_effect g root p b =
    let h = finished g root p in cond (no_room_for h b) (Err NoRoom leaving b) (left_in h b)

-- what replacing a root comes to, where only the gain and the room are left to judge
unfoldable pub replace_effect : Graph → ℕ → Proposal → Buffers → Effect (Result Applied Refusal) Buffers
unfolding gain is_at_least_one finish_effect
replace_effect g root p b = cond (is_at_least_one (gain g root p)) (finish_effect g root p b) (Err NoGain leaving b)
