-- The two cases of lines read, and of a text read, are apart, and each says what it holds.
-- Assumes nothing.
use mathlib.Core.Path.{◌≡◌, refl, ap}
use mathlib.Core.List.{List, []}
use mathlib.Core.Option.{Option, none, some, some-injective, none-ne-some, some-ne-none}
use Prim.Native.Nat.{ℕ}
use Rattle.graph.specs.declared.refusal.Refusal.{Refusal}
use Rattle.graph.specs.Graph.{Graph}
use Rattle.text.specs.Reading.{Lines, wrong, right, Reading, refuses, yields}

-- ---- lines

wrong_of : Lines → Option Refusal
wrong_of (wrong r) = some r
wrong_of (right nss) = none

lines_in : Lines → List (List ℕ)
lines_in (wrong r) = []
lines_in (right nss) = nss

pub wrong_injective : {q r : Refusal} → wrong q ≡ wrong r → q ≡ r
unfolding wrong_of
wrong_injective {q} {r} e = some-injective q r (ap wrong_of e)

pub right_injective : {mss nss : List (List ℕ)} → right mss ≡ right nss → mss ≡ nss
unfolding lines_in
right_injective e = ap lines_in e

pub wrong_not_right : {r : Refusal} {nss : List (List ℕ)} → ¬ (wrong r ≡ right nss)
unfolding wrong_of
wrong_not_right {r = r} e = some-ne-none r (ap wrong_of e)

-- ---- a text

-- the refusal, if there is one
unfoldable pub refusal_of : Reading → Option Refusal
refusal_of (refuses r) = some r
refusal_of (yields g) = none

pub refusal_is : (x : Reading) (r : Refusal) → refusal_of x ≡ some r → x ≡ refuses r
unfolding refusal_of
refusal_is (refuses q) r e = ap refuses (some-injective q r e)
refusal_is (yields g) r e = absurd (none-ne-some r e)

pub graph_is : (x : Reading) → refusal_of x ≡ none → (g : Graph) × (x ≡ yields g)
unfolding refusal_of
graph_is (refuses q) e = absurd (some-ne-none q e)
graph_is (yields g) e = (g, refl)

pub refuses_not_yields : {r : Refusal} {g : Graph} → ¬ (refuses r ≡ yields g)
unfolding refusal_of
refuses_not_yields {r = r} e = some-ne-none r (ap refusal_of e)

pub yields_injective : {g h : Graph} → yields g ≡ yields h → g ≡ h
yields_injective {g} e = ap graph_of_sections e
  where
    graph_of_sections : Reading → Graph
    graph_of_sections (refuses r) = g
    graph_of_sections (yields f) = f
