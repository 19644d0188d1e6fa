-- Listing as a call: the refusals in order, the answer, and the lent records afterwards.
-- Assumes nothing.
use Rattle.std.specs.Prelude.{ℕ, ◌<◌, cond, List, [], ◌∷◌, Result, Ok, Err, length}
use Rattle.std.proofs.Math.Option.{none, some}
use Rattle.graph.specs.declared.refusal.Refusal.{Refusal}
use Rattle.graph.specs.declared.refusal.Refusal.TheVariants.{NoRoom}
use Rattle.graph.specs.Lent.{short, written, Effect, ◌leaving◌}
use Rattle.graph.specs.Refuse.{first_refusal, Outcome, accepted, refused, number_of}
use Rattle.graph.specs.Graph.{Graph}
use Rattle.window.specs.declared.leaf_set.Leaves.{Leaves}
use Rattle.window.specs.Calls.{window_refusals, window_rank, WindowGiven}
use Rattle.listing.specs.declared.Candidate.{Candidate}
use Rattle.listing.specs.declared.NotListed.{NotListed}
use Rattle.listing.specs.Listing.{listed}

-- its refusals rank by their numbers
abbrev pub list_rank : Refusal → ℕ
list_rank = window_rank

-- when listing is refused
pub data ListGiven (g : Graph) (root : ℕ) (w : Leaves) (lent : List Candidate) : Refusal → Type 0 where
  by_window : {r : Refusal} → WindowGiven g root w r → ListGiven g root w lent r
  no_room : length lent < length (listed g root w) → ListGiven g root w lent NoRoom

-- NO ROOM also returns the record count needed
unfoldable pub with_list : List Candidate → List Candidate → Effect (Result ℕ NotListed) (List Candidate)
unfolding short written
with_list xs lent =
    cond (short (length xs) lent) (Err (NotListed.NoRoom (length xs)) leaving lent) (Ok (length xs) leaving written xs lent)

unfoldable pub list_effect : Graph → ℕ → Leaves → List Candidate → Effect (Result ℕ NotListed) (List Candidate)
unfolding window_refusals first_refusal listed with_list
list_effect g root w lent =
    elim (first_refusal (window_refusals g root w)) [ some r ↦ Err (NotListed.Refused r) leaving lent | none ↦ with_list (listed g root w) lent ]

unfoldable pub listed_outcome : Result ℕ NotListed → Outcome
listed_outcome (Ok n) = accepted (n ∷ [])
listed_outcome (Err (NotListed.NoRoom n)) = record { number = number_of NoRoom; values = n ∷ [] }
listed_outcome (Err (NotListed.Refused r)) = refused r
