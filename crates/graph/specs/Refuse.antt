-- What comes back: the refusals by name and number, and which one is given.
-- Assumes nothing.
use Rattle.std.specs.Prelude.{ℕ, ◌<◌, ◌≡◌, Bool, cond, ◌↔◌, List, [], ◌∷◌, Result, Ok, Err}
use Rattle.std.proofs.Math.Option.{Option, none, some}
use Rattle.graph.specs.declared.refusal.Refusal.{Refusal}
use Rattle.graph.specs.declared.refusal.Refusal.TheVariants.{
  BadHeader,
  TooLarge,
  Latches,
  BadCount,
  BadLine,
  BadLiteral,
  BadGraph,
  BadAssignment,
  BadRoot,
  BadLeaves,
  NotACut,
  BadCandidate,
  NotEqual,
  NoGain,
  OrderLost,
  NoRoom,
}

-- their numbers
abbrev pub number_of : Refusal → ℕ
number_of BadHeader = 1
number_of TooLarge = 2
number_of Latches = 3
number_of BadCount = 4
number_of BadLine = 5
number_of BadLiteral = 6
number_of BadGraph = 7
number_of BadAssignment = 8
number_of BadRoot = 9
number_of BadLeaves = 10
number_of NotACut = 11
number_of BadCandidate = 12
number_of NotEqual = 13
number_of NoGain = 14
number_of OrderLost = 15
number_of NoRoom = 16

-- a row of the table of refusals: this refusal is given when the test holds
pub record Row : Type 0 where
  pub holds : Bool
  pub refusal : Refusal

infix 70 ◌⇒◌
abbrev pub ◌⇒◌ : Bool → Refusal → Row
b ⇒ r = record { holds = b; refusal = r }

-- where several rows hold the first is given; none where none holds
unfoldable pub first_refusal : List Row → Option Refusal
first_refusal [] = none
first_refusal (row ∷ rows) = cond row.holds (some row.refusal) (first_refusal rows)

-- what an answer says of refusing: none, or the refusal that is given
unfoldable pub verdict_is : {A : Type 0} → Result A Refusal → Option Refusal
verdict_is (Ok x) = none
verdict_is (Err r) = some r

-- an answer in numbers: 0 and the values, or a refusal's number and what comes with it
pub record Outcome : Type 0 where
  pub number : ℕ
  pub values : List ℕ

abbrev pub accepted : List ℕ → Outcome
accepted xs = record { number = 0; values = xs }

-- a refusal returns its number alone
abbrev pub refused : Refusal → Outcome
refused r = record { number = number_of r; values = [] }

-- of the refusals that are given for something, the one of lowest rank; a call says what ranks them
pub record Lowest (rank : Refusal → ℕ) (given : Refusal → Type 0) (r : Refusal) : Type 0 where
  pub holds : given r
  pub none_lower : (q : Refusal) → rank q < rank r → ¬ given q

-- the number of an answer: the lowest refusal's, or 0 where none is given
pub record Answers (rank : Refusal → ℕ) (given : Refusal → Type 0) (number : ℕ) : Type 0 where
  pub refuses : (r : Refusal) → (number ≡ number_of r) ↔ Lowest rank given r
  pub accepts : (number ≡ 0) ↔ ((q : Refusal) → ¬ given q)
