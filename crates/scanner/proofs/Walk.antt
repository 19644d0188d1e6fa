-- What the walks by hand over a `TextReader` share. A walked function answers something of a text from a place on: an `Answer` is
-- the result's type with what is said of the bytes, the place and the result.
--     held_ended, held_clauses, Held           the contract of `fn f(self) -> R`
--     plain_ended, plain_clauses, Plain        the contract of `fn f(text: &[u8], at: usize) -> R`
-- Each computes to what `rattle check` makes of such a contract.
--     ends             the end of a walk with four locals whose last statement is a call: the call's result is returned
-- Assumes nothing.
use mathlib.Core.Path.{refl}
use mathlib.Core.List.{List, [], ◌∷◌}
use mathlib.Core.Option.{none, some as just}
use Prim.Native.Nat.{ℕ}
use lib.Dec.{T as Holds}
use seplogic.Ra.Ura.{Ura}
use mir.Syntax.{Ty, place, return}
use mir.Val.{Val, WT, has_ty}
use base.Logic.{SProp, ent, emp}
use base.Fml.{Lft, Share, ftrue, flft}
use prog.Wp.{Calls, Loops}
use types.Logic.{Logic}
use types.Kit.{Item, Go, Seq, lands, at_ret, ‵, raw, ◌⊛◌, ⋆, some, later, ◌$◌, !, by, move, use1, split, pick, await}
use types.Run.{look, init, forget, stop, from, land, returns, free1, free0}
use contract.Lifetimes.{Lfts}
use contract.Monad.{fact}
use denote.RattleType.{RattleType}
use denote.Laws.{Is, shows, Tells}
use denote.Builtin.{u8, usize}
use denote.Signature.{plain, shr_slice_of, named_lft}
use denote.Struct.Declared.{Declared}
use denote.Struct.Laws as LL
use denote.Steps.{peeks, heard}
use denote.Triple.Statement.{Contract}
use denote.Triple.Spec.{triple_of}
use denote.Triple.Clauses.{Clauses, Ended, closing}
use denote.Exit.{yes}
use Rattle.walks.proofs.Locals.{cells, reversed}
use Rattle.scanner.specs.contracts.text_reader.TextReader as T
use Rattle.scanner.proofs.text_reader.TextReader.TheLaws as T'

pub record Answer : Type 2 where
  pub row : RattleType
  pub mir : Ty
  pub typed : {M : Type 1} {𝓤 : Ura M} (𝓛 : Logic 𝓤) →
      (r : row.Denot) (v : Val) → Is row r (v ∷ []) → Holds (has_ty mir v) × WT v
  pub lowered : row.Denot → Val
  pub tells : Tells row (Is row) (λ r. lowered r ∷ [])
  pub right : List ℕ → ℕ → row.Denot → Type 0

-- ---- a reader's type, over a signature's lifetimes
module _ (κs : Lfts 1) where
  abbrev pub reader_row : RattleType
  reader_row = T.the_row (named_lft 1 0 tt κs)

  abbrev pub reader_type : Declared
  reader_type = T.the_type (named_lft 1 0 tt κs)

  abbrev pub reader_laws : LL.Laws reader_type
  reader_laws = T'.the_laws (named_lft 1 0 tt κs)

-- ---- the two contracts
module _ (R : Answer) where
  abbrev pub held_ended : Ended
  held_ended = record {
    signature = record { lifetimes = 1; outlives = []; params = plain reader_row ∷ []; result = plain (λ _. R.row) };
    kept = (yes, tt);
  }

  abbrev pub plain_ended : Ended
  plain_ended = record {
    signature = record {
      lifetimes = 1;
      outlives = [];
      params = shr_slice_of (0 ∷ []) tt (plain (λ _. u8)) ∷ plain (λ _. usize) ∷ [];
      result = plain (λ _. R.row);
    };
    kept = (yes, (yes, tt));
  }

  module _ {M : Type 1} (𝓤 : Ura M) where
    abbrev pub held_clauses : Clauses 𝓤 held_ended
    held_clauses κs a = record {
      ghost = Unit {0};
      requires = λ _. emp 𝓤;
      ensures = λ _ r _. fact 𝓤 (R.right a.0.text.now a.0.at r);
    }

    abbrev pub plain_clauses : Clauses 𝓤 plain_ended
    plain_clauses κs a = record {
      ghost = Unit {0};
      requires = λ _. emp 𝓤;
      ensures = λ _ r _. fact 𝓤 (R.right a.0.now a.1.0 r);
    }

    module _ (𝓛 : Logic 𝓤) where
      abbrev pub Held : Contract 𝓤
      Held = triple_of 𝓛 held_ended.signature (closing 𝓛 held_ended held_clauses)

      abbrev pub Plain : Contract 𝓤
      Plain = triple_of 𝓛 plain_ended.signature (closing 𝓛 plain_ended plain_clauses)

-- ---- the end of a walk
module _ {M : Type 1} {𝓤 : Ura M} (R : Answer) (κ : Lft) (q : Share) where
  -- what a call answers: the token comes back, and the result with what is said of it
  abbrev pub Answered : Val → (R.row.Denot → SProp 𝓤) → Item 𝓤
  Answered u said = later (some (λ (r : R.row.Denot). ((‵ (flft κ q) ⊛ ‵ ftrue) ⊛ ‵ (R.row.own_val r (u ∷ []))) ⊛ raw (said r)))

  module _ (𝓛 : Logic 𝓤) (C : Calls 𝓤 𝓛.H) (Λ : Loops 𝓤 𝓛.H)
      (φ : R.row.Denot → Type 0) (said : R.row.Denot → SProp 𝓤) where
    pub ends : {τ₁ τ₂ τ₃ : Ty} {v₁ v₂ v₃ u : Val} {l₀ l₁ l₂ l₃ : ℕ} (Kf : Val → SProp 𝓤)
        → ((r : R.row.Denot) → ent 𝓤 (said r) (fact 𝓤 (φ r)))
        → ((r : R.row.Denot) → φ r → ent 𝓤 (⋆ 𝓛 (‵ (R.row.own_val r (u ∷ [])) ∷ (‵ (flft κ q) ⊛ ‵ ftrue) ∷ [])) (Kf u))
        → let E : List (Ty × ℕ) = (R.mir, l₀) ∷ (τ₁, l₁) ∷ (τ₂, l₂) ∷ (τ₃, l₃) ∷ [] in
        Seq (Go {0}) 𝓛 (Answered u said ∷ reversed (cells E (none ∷ just v₁ ∷ just v₂ ∷ just v₃ ∷ [])) [])
        (lands C Λ E (place 0 []) u return (at_ret E Kf))
    ends {u = u} Kf known exits =
        await ! tt $ pick ! (λ r.
        split ! $ move ! (1 ∷ []) $ use1 𝓛 (raw (fact 𝓤 (φ r))) (known r) $ heard ! (φ r) (λ e.
        split ! $ move ! (1 ∷ []) $
        -- [the result; the token; _3; …; _2; …; _1; …; room for _0; …]
        peeks ! R.row (Is R.row) (shows 𝓛 R.row) r (u ∷ []) (λ is.
        land ! (from ! (stop !)) (init ! 8 refl (R.typed 𝓛 r u is)) $ returns ! (look ! 8 refl) $
        forget ! 2 refl $ forget ! 4 refl $ forget ! 6 refl $ forget ! 8 refl $
        move ! (8 ∷ 9 ∷ []) $ free1 ! $ move ! (6 ∷ 7 ∷ []) $ free1 ! $
        move ! (4 ∷ 5 ∷ []) $ free1 ! $ move ! (2 ∷ 3 ∷ []) $ free1 ! $ free0 ! $ by ! (exits r e))))
