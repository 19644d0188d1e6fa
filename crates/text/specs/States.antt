-- What it means that a text states a graph: its bytes spell numbers, line by line, and the numbers describe the graph.
-- Assumes nothing.
use Rattle.std.specs.Prelude.{ℕ, suc, ◌+◌, ◌*◌, ◌≡◌, Bool, true, false, cond, length, get_or}
use mathlib.Core.List.{List, [], ◌∷◌, ◌++◌, flat_map}
use Rattle.graph.specs.Lists.{gather, joined, is_in}
use Rattle.graph.specs.Graph.{Net, Graph, free, size, last, first, second, Lawful}
use Rattle.text.specs.Line.{line, lines, space}

-- ---- the bytes

-- `aag` and a space
abbrev pub aag : List ℕ
aag = 97 ∷ 97 ∷ 103 ∷ space ∷ []

-- the letters `i`, `o` and `c`
abbrev pub rest_letters : List ℕ
rest_letters = 105 ∷ 111 ∷ 99 ∷ []

-- the rest of a text is skipped if it is empty or starts with one of them
unfoldable pub skipped : List ℕ → Bool
unfolding is_in
skipped [] = true
skipped (b ∷ bs) = is_in b rest_letters

-- the bytes of these lines, the first behind `aag`, and of a rest
unfoldable pub spelling : List (List ℕ) → List ℕ → List ℕ
unfolding flat_map line
spelling nss rest = aag ++ (lines nss ++ rest)

-- the text t is these numbers, line by line, and a rest that is skipped
pub record Spelled (t : List ℕ) (nss : List (List ℕ)) : Type 0 where
  pub rest : List ℕ
  pub is : t ≡ spelling nss rest
  pub rest_skipped : skipped rest ≡ true

-- ---- the numbers

-- the first line has M I L O A; M equals I + A, and there are no latches
abbrev pub counts : Graph → List ℕ
counts g = last g.net ∷ g.net.inputs ∷ 0 ∷ length g.outputs ∷ size g.net ∷ []

-- input line k, from 1, is 2k
unfoldable pub input_numbers : Net → List (List ℕ)
unfolding gather
input_numbers net = gather (λ k. (2 * suc k ∷ []) ∷ []) net.inputs

-- an output line is the output's literal
unfoldable pub output_numbers : List ℕ → List (List ℕ)
unfolding gather
output_numbers os = gather (λ j. (get_or os j 0 ∷ []) ∷ []) (length os)

-- the line of variable v's gate has left side 2v, and its right sides in either order: smaller first where s holds
abbrev pub numbers_of_gate : Net → ℕ → Bool → List ℕ
numbers_of_gate net v s = 2 * v ∷ cond s (second net v) (first net v) ∷ cond s (first net v) (second net v) ∷ []

-- gate line k, from 1, is that of variable I + k; s tells which gates have their smaller right side first
unfoldable pub gate_numbers : Net → (ℕ → Bool) → List (List ℕ)
unfolding gather
gate_numbers net s = gather (λ k. numbers_of_gate net (suc (free net + k)) (s k) ∷ []) (size net)

-- the sections after the first line
unfoldable pub sections_of : Graph → (ℕ → Bool) → List (List (List ℕ))
unfolding input_numbers output_numbers gate_numbers
sections_of g s = input_numbers g.net ∷ output_numbers g.outputs ∷ gate_numbers g.net s ∷ []

-- the numbers of all the lines
unfoldable pub numbers_of : Graph → (ℕ → Bool) → List (List ℕ)
unfolding joined sections_of
numbers_of g s = counts g ∷ joined (sections_of g s)

-- these numbers, line by line, are the graph g
pub record Describes (nss : List (List ℕ)) (g : Graph) : Type 0 where
  pub lawful : Lawful g
  pub swaps : ℕ → Bool
  pub are : nss ≡ numbers_of g swaps

-- ---- the text t states the graph g

pub record States (t : List ℕ) (g : Graph) : Type 0 where
  pub numbers : List (List ℕ)
  pub spelled : Spelled t numbers
  pub describes : Describes numbers g

-- the writer prints the larger right side first and nothing after the gates
unfoldable pub text_of : Graph → List ℕ
unfolding spelling numbers_of
text_of g = spelling (numbers_of g (λ k. false)) []
