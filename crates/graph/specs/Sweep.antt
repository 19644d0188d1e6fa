-- The values of the variables, over any algebra: what variable 0 has, an AND and a complement.
-- Evaluation, coverage, local functions and tables are this one sweep, each over its own algebra.
-- Assumes nothing.
use Prim.Native.Nat.{ℕ, zero, suc}
use Rattle.std.specs.Prelude.{Bool, true, false, cond, not, ◌&&◌, leb}
use mathlib.Core.List.{List, [], ◌∷◌, ◌++◌}
use Rattle.std.proofs.Math.Option
use Rattle.std.proofs.Math.Option.{Option}
use Rattle.std.proofs.Math.ListN.{get_or}
use Rattle.graph.specs.Literal.{var_of, is_odd}
use Rattle.graph.specs.Graph.{Net, free, first, second}

-- an algebra: what variable 0 has, the AND, the complement
pub record Algebra (A : Type 0) : Type 0 where
  pub no : A
  pub conj : A → A → A
  pub neg : A → A

unfoldable pub bools : Algebra Bool
bools = record { no = false; conj = ◌&&◌; neg = not }

-- x, complemented where the test holds
unfoldable pub turned : {A : Type 0} → Algebra A → Bool → A → A
turned K true x = K.neg x
turned K false x = x

-- the value of the literal l, where vs has the values of the variables from 0 on
unfoldable pub lit_value : {A : Type 0} → Algebra A → List A → ℕ → A
unfolding turned
lit_value K vs l = turned K (is_odd l) (get_or vs (var_of l) K.no)

-- what variable v has by its gate, where vs has the values below v; a variable that is no gate has what 0 has
unfoldable pub by_gate : {A : Type 0} → Algebra A → Net → ℕ → List A → A
unfolding first second lit_value
by_gate K net v vs = cond (leb v (free net)) K.no (K.conj (lit_value K vs (first net v)) (lit_value K vs (second net v)))

-- the values of the variables 0 to n; `own` gives an input or a leaf its own value, the others have theirs by their gates
module _ {A : Type 0} (K : Algebra A) (own : ℕ → Option A) (net : Net) where
  unfoldable pub values : ℕ → List A
  unfolding by_gate
  values zero = K.no ∷ []
  values (suc n) = values n ++ (Option.get_or (own (suc n)) (by_gate K net (suc n) (values n)) ∷ [])

  -- the value of variable v alone
  unfoldable pub value_at : ℕ → A
  unfolding values
  value_at v = get_or (values v) v K.no
