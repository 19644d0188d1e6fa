-- What is answered from the marks past a root, which do not name the outputs: it holds of every graph over the net that has these marks.
-- Assumes nothing.
use Rattle.std.specs.Prelude.{ℕ, ◌≡◌, Bool, List}
use Rattle.graph.specs.Graph.{Net, over, Lawful}
use Rattle.graph.specs.Use.{InUse}
use Rattle.replacement.specs.declared.types.Proposal.{Proposal}
use Rattle.replacement.specs.Rewire.{Wires, gain, positive}
use Rattle.replacement.specs.Vanish.{MarksPast, vanishing, Weighed}

-- n gates go with the root
abbrev pub GoingWith : Net → List Bool → ℕ → ℕ → Type 0
GoingWith net ms root n =
    (outputs : List ℕ) → Lawful (over net outputs) → InUse (over net outputs) root → MarksPast (over net outputs) root ms
    → n ≡ vanishing (over net outputs) root

-- the proposal gains n, or nothing where n is 0
abbrev pub Gains : Net → List Bool → ℕ → Proposal → ℕ → Type 0
Gains net ms going p n =
    (outputs : List ℕ) (root : ℕ) → Weighed (over net outputs) root ms going → Wires root p
    → n ≡ positive (gain (over net outputs) root p)
