-- What a walked function answers, if it is there: the number that stands at a place, or the place behind a byte that must stand there.
-- Assumes nothing.
use mathlib.Core.Path.{◌≡◌, refl}
use mathlib.Core.List.{List, [], ◌∷◌}
use Prim.Native.Nat.{ℕ}
use lib.ListN.{drop}
use denote.Memory.{lone}
use denote.RattleType.{RattleType}
use denote.Builtin.{usize}
use denote.Struct.Field.{usize-field}
use denote.Struct.Laws.{usize-laws, usize-copy}
use denote.Param.Laws.{Laws, Told, of_field, field_told}
use denote.Param.Shared.{copy_shared}
use denote.Enum.Laws as EL
use denote.Enum.Loose.{loose_lawful}
use Rattle.text.specs.Number.{number}
use Rattle.text.specs.Line.{after}
use Rattle.scanner.specs.Tokens.{number_step, byte_step}
use Rattle.std.specs.contracts.option.Option as O
use Rattle.std.proofs.option.Option.TheLaws as O'
use Rattle.scanner.specs.contracts.number.NumberAt as N
use Rattle.scanner.proofs.number.NumberAt.TheLaws as N'
use Rattle.scanner.proofs.Walk.{Answer}

-- a value of a type, if it stands there
abbrev found : (R : RattleType) → Laws R → Told R → (List ℕ → ℕ → (O.the_row R).Denot → Type 0) → Answer
found R laws told right = record {
  row = O.the_row R;
  mir = lone (O.the_row R).mir;
  typed = λ 𝓛 r v is. ((loose_lawful (O.the_type R) (O'.the_loose R laws) tt 𝓛).typed r _ is).0;
  lowered = EL.val (O.the_type R) (O'.the_laws R laws told);
  tells = EL.tells (O.the_type R) (O'.the_laws R laws told);
  right = right;
}

abbrev pub a_number : Answer
a_number = found N.the_row N'.the_row_laws N'.the_told (λ t at r. number_step t r ≡ number (drop at t))

abbrev pub the_byte : ℕ → Answer
the_byte b =
    found usize (of_field usize-field usize-laws refl (copy_shared usize-field usize-copy)) (field_told usize-field usize-laws)
    (λ t at r. byte_step t r ≡ after (b ∷ []) (drop at t))
