-- Listing: the refusal given is the lowest that holds, and NO ROOM comes with the record count needed.
-- Assumes nothing.
use mathlib.Core.Path.{◌≡◌, refl, sym, ap, subst, ◌∙◌}
use mathlib.Core.Bool.{Bool, true, false}
use mathlib.Core.List.{List, [], ◌∷◌, ◌++◌}
use mathlib.Core.Logic.{◌↔◌, ◌⊎◌, inl, inr}
use mathlib.Core.Option.{Option, none, some, some-injective, none-ne-some, some-ne-none, or_else}
use Prim.Native.Nat.{ℕ, ◌<◌}
use native.Mathlib.Omega.{arith}
use lib.ListN.{length}
use Rattle.graph.specs.declared.refusal.Refusal.{Refusal}
use Rattle.graph.specs.declared.refusal.Refusal.TheVariants.{NoRoom}
use Rattle.graph.specs.Lent.{short}
use Rattle.graph.specs.Refuse.{Row, ◌⇒◌, first_refusal, Outcome, accepted, refused, number_of, Answers}
use Rattle.graph.specs.Graph.{Graph}
use Rattle.graph.proofs.Refuse.{
  number_of_injective,
  number_of_not_zero,
  Settles,
  settles_answers,
  ascends,
  Silent,
  Decides,
  first_settles,
  first_lowest,
  first_join,
  decides_join,
}
use Rattle.graph.proofs.Tests.{test_off}
use Rattle.graph.proofs.Lent.{short_iff}
use Rattle.window.specs.declared.leaf_set.Leaves.{Leaves}
use Rattle.window.specs.Calls.{root_refusals, window_refusals, WindowGiven}
use Rattle.window.proofs.Calls.{window_decides, window_at_most}
use Rattle.listing.specs.declared.Candidate.{Candidate}
use Rattle.listing.specs.Listing.{listed}
use Rattle.listing.specs.Calls.{list_rank, ListGiven, by_window, no_room, with_list, list_effect, listed_outcome}

abbrev number : Outcome → ℕ
number o = o.number

abbrev values : Outcome → List ℕ
values o = o.values

module _ (g : Graph) (root : ℕ) (w : Leaves) (lent : List Candidate) where
  -- what the list needs is more than is lent
  abbrev too_short : Bool
  too_short = short (length (listed g root w)) lent

  short_on : (too_short ≡ true) ↔ (length lent < length (listed g root w))
  short_on = short_iff (length (listed g root w)) lent

  -- the room is asked for after all that a window asks for
  abbrev list_refusals : List Row
  list_refusals = window_refusals g root w ++ (too_short ⇒ NoRoom ∷ [])

  list_complete : (q : Refusal) → ListGiven g root w lent q → WindowGiven g root w q ⊎ (¬ Silent list_rank q list_refusals)
  unfolding window_refusals root_refusals
  list_complete q (by_window h) = inl h
  list_complete q (no_room h) = inr (λ s. test_off _ short_on (s.1.1.1.1.0 refl) h)

  list_decides : Decides list_rank (ListGiven g root w lent) list_refusals
  unfolding window_refusals root_refusals ascends
  list_decides =
      decides_join (λ q. by_window) _ (window_decides g root w) refl (λ _. (λ e. no_room (short_on.0 e), λ _. tt)) list_complete

  -- ---- the outcome, case by case

  abbrev outcome : Outcome
  outcome = listed_outcome (list_effect g root w lent).answer

  by_refusal : (q : Refusal) → first_refusal (window_refusals g root w) ≡ some q → outcome ≡ refused q
  unfolding list_effect listed_outcome
  by_refusal q e = rw (e, list_effect)

  by_no_room : first_refusal (window_refusals g root w) ≡ none → too_short ≡ true
      → outcome ≡ record { number = number_of NoRoom; values = length (listed g root w) ∷ [] }
  unfolding list_effect listed_outcome with_list
  by_no_room e h = rw (e, list_effect, h, with_list)

  by_records : first_refusal (window_refusals g root w) ≡ none → too_short ≡ false → outcome ≡ accepted (length (listed g root w) ∷ [])
  unfolding list_effect listed_outcome with_list
  by_records e h = rw (e, list_effect, h, with_list)

  pub list_answers : Answers list_rank (ListGiven g root w lent) (listed_outcome (list_effect g root w lent).answer).number
  unfolding first_refusal or_else
  list_answers = go (first_refusal (window_refusals g root w)) refl too_short refl
      (subst (Settles list_rank (ListGiven g root w lent)) (first_join (window_refusals g root w) _) (first_settles list_decides))
    where
      go : (o : Option Refusal) → first_refusal (window_refusals g root w) ≡ o → (t : Bool) → too_short ≡ t
          → Settles list_rank (ListGiven g root w lent) (or_else o (first_refusal (t ⇒ NoRoom ∷ [])))
          → Answers list_rank (ListGiven g root w lent) (number outcome)
      go (some q) e t h s =
          settles_answers number_of_injective s _ (λ r k. ap number (by_refusal q e) ∙ ap number_of (some-injective q r k))
          (λ k. absurd (some-ne-none q k))
      go none e true h s =
          settles_answers number_of_injective s _ (λ r k. ap number (by_no_room e h) ∙ ap number_of (some-injective NoRoom r k))
          (λ k. absurd (some-ne-none NoRoom k))
      go none e false h s =
          settles_answers number_of_injective s _ (λ r k. absurd (none-ne-some r k)) (λ _. ap number (by_records e h))

  -- NO ROOM is said of the list alone, since a window's refusals have lower numbers
  pub no_room_counts : (listed_outcome (list_effect g root w lent).answer).number ≡ number_of NoRoom
      → (listed_outcome (list_effect g root w lent).answer).values ≡ length (listed g root w) ∷ []
  no_room_counts n = go (first_refusal (window_refusals g root w)) refl too_short refl
    where
      go : (o : Option Refusal) → first_refusal (window_refusals g root w) ≡ o → (t : Bool) → too_short ≡ t
          → values outcome ≡ length (listed g root w) ∷ []
      go (some q) e t h =
          let l = (first_lowest number_of_injective (window_decides g root w) q).0 e in
          absurd (omega (arith, n, ap number (by_refusal q e), window_at_most g root w l.holds))
      go none e true h = ap values (by_no_room e h)
      go none e false h = absurd (omega (arith, n, ap number (by_records e h)))

  -- a refusal leaves the lent records as they were
  pub list_writes_nothing : (r : Refusal) → (listed_outcome (list_effect g root w lent).answer).number ≡ number_of r
      → (list_effect g root w lent).lent ≡ lent
  unfolding list_effect with_list
  list_writes_nothing r n = go (first_refusal (window_refusals g root w)) refl too_short refl
    where
      go : (o : Option Refusal) → first_refusal (window_refusals g root w) ≡ o → (t : Bool) → too_short ≡ t
          → (list_effect g root w lent).lent ≡ lent
      go (some q) e t h = rw (e, list_effect)
      go none e true h = rw (e, list_effect, h, with_list)
      go none e false h = absurd (number_of_not_zero r (sym (ap number (by_records e h)) ∙ n))
