-- The order of records goes one way, so a list in this order has no repeats and is determined by its members.
-- Assumes nothing.
use mathlib.Core.Path.{◌≡◌}
use mathlib.Core.List.{List, ◌∷◌}
use mathlib.Core.Logic.{◌↔◌}
use Prim.Native.Nat.{ℕ}
use native.Mathlib.Omega.{arith}
use Rattle.graph.specs.Lists.{◌∈◌}
use Rattle.listing.specs.declared.Candidate.{Candidate}
use Rattle.listing.specs.Listing.{Less, differs, same_then, Before, Ascending, none_left, then_more}
use Rattle.listing.proofs.Sorted.{Sorted, nothing, first, sorted_once, sorted_same}

less_one_way : {ms ns : List ℕ} → Less ms ns → ¬ Less ns ms
less_one_way (differs h) (differs k) = absurd (omega arith)
less_one_way (differs h) (same_then e k) = absurd (omega arith)
less_one_way (same_then e h) (differs k) = absurd (omega arith)
less_one_way (same_then e h) (same_then e' k) = less_one_way h k

before_one_way : (x y : Candidate) → Before x y → ¬ Before y x
before_one_way x y h k = less_one_way h k

-- ---- ascending is sorted by that order

ascending_sorted : {xs : List Candidate} → Ascending xs → Sorted Before xs
ascending_sorted none_left = nothing
ascending_sorted (then_more h a) = first h (ascending_sorted a)

pub sorted_ascending : {xs : List Candidate} → Sorted Before xs → Ascending xs
sorted_ascending nothing = none_left
sorted_ascending (first h s) = then_more h (sorted_ascending s)

-- no record is repeated
pub ascending_once : {x : Candidate} {xs : List Candidate} → Ascending (x ∷ xs) → ¬ (x ∈ xs)
ascending_once a = sorted_once Before before_one_way (ascending_sorted a)

pub ascending_same : (xs ys : List Candidate) → Ascending xs → Ascending ys → ((x : Candidate) → (x ∈ xs) ↔ (x ∈ ys)) → xs ≡ ys
ascending_same xs ys a b h =
    sorted_same Before before_one_way xs ys (ascending_sorted a) (ascending_sorted b) (λ z. (h z).0) (λ z. (h z).1)
