-- Every call as a list of numbers: what it answers, and then each lent word as it is afterwards.
-- Assumes nothing.
use Rattle.std.specs.Prelude.{ℕ, ◌≡◌, List, ◌∷◌, ◌++◌, map, replicate}
use Rattle.graph.specs.Refuse.{Outcome}
use Rattle.graph.specs.Graph.{Graph}
use Rattle.graph.specs.Lent.{Buffers}
use Rattle.graph.specs.Evaluate.{evaluate_effect, evaluated_outcome}
use Rattle.text.specs.Calls.{read_effect, read_outcome, write_effect, written_outcome}
use Rattle.window.specs.declared.leaf_set.Leaves.{Leaves}
use Rattle.window.specs.Calls.{pick_answer, pick_outcome, table_answer, table_outcome}
use Rattle.replacement.specs.declared.types.Proposal.{Proposal}
use Rattle.replacement.specs.Calls.{apply_effect, applied_outcome}
use Rattle.listing.specs.declared.Candidate.{Candidate}
use Rattle.listing.specs.Listing.{fields}
use Rattle.listing.specs.Calls.{list_effect, listed_outcome}
use Rattle.run.specs.Calls.{run_effect, ran_outcome}

-- 0 or the refusal's number, and the values that come with it
abbrev pub said : Outcome → List ℕ
said o = o.number ∷ o.values

-- what a lent place holds beforehand
abbrev pub unwritten : ℕ
unwritten = 99

-- n lent words
abbrev pub lent : ℕ → List ℕ
lent n = replicate n unwritten

-- n lent records
unfoldable pub lent_records : ℕ → List Candidate
lent_records n = replicate n (record { kind = unwritten; first = unwritten; second = unwritten; turned = unwritten; gain = unwritten })

-- lists lent for a graph: a words for gates and o for outputs
abbrev pub buffers : ℕ → ℕ → Buffers
buffers a o = record { gates = lent a; outputs = lent o }

abbrev held : Buffers → List ℕ
held b = b.gates ++ b.outputs

unfoldable pub read_call : List ℕ → Buffers → List ℕ
unfolding read_effect read_outcome
read_call t b = let e = read_effect t b in said (read_outcome e.answer) ++ held e.lent

unfoldable pub write_call : Graph → ℕ → List ℕ
unfolding write_effect written_outcome
write_call g n = let e = write_effect g (lent n) in said (written_outcome e.answer) ++ e.lent

unfoldable pub evaluate_call : Graph → List ℕ → ℕ → List ℕ
unfolding evaluate_effect evaluated_outcome
evaluate_call g vs n = let e = evaluate_effect g vs (lent n) in said (evaluated_outcome e.answer) ++ e.lent

unfoldable pub pick_call : Graph → ℕ → List ℕ
unfolding pick_answer pick_outcome
pick_call g root = said (pick_outcome (pick_answer g root))

unfoldable pub table_call : Graph → ℕ → Leaves → List ℕ
unfolding table_answer table_outcome
table_call g root w = said (table_outcome (table_answer g root w))

unfoldable pub list_call : Graph → ℕ → Leaves → ℕ → List ℕ
unfolding lent_records list_effect listed_outcome fields
list_call g root w n = let e = list_effect g root w (lent_records n) in said (listed_outcome e.answer) ++ fields e.lent

unfoldable pub apply_call : Graph → ℕ → Leaves → Proposal → Buffers → List ℕ
unfolding apply_effect applied_outcome
apply_call g root w p b = let e = apply_effect g root w p b in said (applied_outcome e.answer) ++ held e.lent

unfoldable pub run_call : Graph → Buffers → Buffers → List ℕ
unfolding run_effect ran_outcome
run_call g result work =
    let e = run_effect g (record { result = result; work = work }) in
    said (ran_outcome e.answer) ++ held e.lent.result ++ held e.lent.work

-- ---- rows of examples

-- what a call gives, and what it should
pub record Example : Type 0 where
  pub given : List ℕ
  pub says : List ℕ

infix 70 ◌gives◌
abbrev pub ◌gives◌ : List ℕ → List ℕ → Example
xs gives ys = record { given = xs; says = ys }

-- each row of a table gives what it should
abbrev pub Agrees : List Example → Type 0
Agrees rows = map (λ (e : Example). e.given) rows ≡ map (λ (e : Example). e.says) rows
