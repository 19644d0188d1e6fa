-- Every thin method of a `TextReader`, once: `fn f(self) -> R { f_at(self.text, self.at) }`, where `f_at` answers at the bytes and
-- the place, and f at the reader's.
--     thin_fn          its MIR, at the callee's name. It computes to what `rattle check` makes of such a function
--     thin_meets       its routine meets its contract, where the callee's does
-- Assumes nothing.
use mathlib.Core.Path.{◌≡◌, refl}
use mathlib.Core.List.{List, [], ◌∷◌}
use Prim.Native.Nat.{ℕ}
use lib.Dec.{T as Holds}
use lib.ListN.{length}
use seplogic.Ra.Ura.{Ura}
use mir.Syntax.{Ty, Fn, named, erased, imm, w8, w64, ty_int, ty_ref, field, place, copy, local, value_local, seq, assign, call, return, rv_opd}
use mir.Val.{Val, WT, has_ty, vint}
use base.Logic.{SProp, ent, emp, via, fst∗, snd∗, ex_e}
use base.Fml.{Lft, Share, ftrue, flft}
use prog.Model.{Model}
use prog.Routine.{Callee, Routine, Env}
use prog.Wp.{WpFn, Tables, Closed}
use types.Logic.{Logic, sem}
use contract.Monad.{fact}
use contract.Running.{Running, tables}
use types.Kit.{Item, ‵, raw, ◌⊛◌, ⋆, given, ◌$◌, ◌∵◌, !, qed, by, move, use1, join, learn, fsplit, fjoin, suffices, frame, done}
use types.Run.{init, of_opd, and_then, no_more, enter, alloc1, alloc0, params1, pass1, pass0}
use sound.WpLaws.{fm_of}
use denote.RattleType.{owns}
use denote.Ref.{Bor}
use denote.Signature.{plain}
use denote.Slice.{slice_ty, slice_val}
use denote.Steps.{nothing}
use denote.Struct.Laws as LL
use denote.Struct.Rest.{all_own, own_open}
use denote.Triple.Statement.{Contract, Triple}
use denote.Triple.Call.{calls_at}
use denote.Triple.Entry.{on_entry}
use denote.Triple.Clauses.{ensured, lasts}
use denote.Triple.Walked.{says, Stays, stay_dropped, walk_of, Goes-dropped, ends_at}
use denote.Exit.{yes}
use Rattle.scanner.specs.declared.text_reader.TextReader.{TextReader}
use Rattle.scanner.proofs.text_reader.TextReader.TheLaws as T'
use Rattle.scanner.proofs.Walk.{
  Answer,
  reader_row,
  reader_type,
  reader_laws,
  held_ended,
  held_clauses,
  plain_ended,
  plain_clauses,
  Held,
  Plain,
  ends,
}
use Rattle.walks.proofs.Assign.{local_at, field_at_lem, fills}
use Rattle.walks.proofs.Meets.{meets, stands}

abbrev thin_fn : Callee → Ty → Fn
thin_fn callee τ = record {
  lifetimes = 1;
  outlives = [];
  ty_params = [];
  givens = 0;
  params = 1;
  locals =
      local τ value_local
      ∷ local (T'.mir (named 0)) value_local
      ∷ local (slice_ty (ty_ref erased imm (ty_int w8))) value_local
      ∷ local (ty_int w64) value_local
      ∷ [];
  body = seq (assign (place 2 []) (rv_opd (copy (place 1 (field 0 ∷ [])))))
      (seq (assign (place 3 []) (rv_opd (copy (place 1 (field 1 ∷ [])))))
      (seq (call callee (copy (place 2 []) ∷ copy (place 3 []) ∷ []) (place 0 [])) return));
}

module _ (R : Answer) where
  -- nothing is had of the reader at exit
  abbrev stayed : Stays (held_ended R).signature.params (held_ended R).kept
  stayed = (stay_dropped (plain reader_row) yes, tt)

  module _ {M : Type 1} {𝓤 : Ura M} (𝓛 : Logic 𝓤) where
    open 𝓛 use {H}

    abbrev Walk : Contract 𝓤
    Walk = walk_of 𝓛 (held_ended R) stayed (held_clauses R 𝓤)

    module _ (κ : Lft) (q : Share) (d : TextReader) where
      -- the reader's machine value
      abbrev v : Val
      v = T'.lowered d

      -- the fields
      abbrev parts : Bor (List ℕ) × (ℕ × Unit {0})
      parts = (d.text, (d.at, tt))

      -- the callee is passed the fields as they stand
      abbrev to : (Plain R 𝓤 𝓛).Ghost
      to = (((κ, tt), (q, tt), tt, parts, (slice_val d.text.ref_ptr (length d.text.now) ∷ [], (vint w64 d.at ∷ [], tt))), tt)

      abbrev own : Walk.Ghost
      own = (((κ, tt), (q, tt), tt, (d, tt), (v ∷ [], tt)), tt)

      abbrev Entry : SProp 𝓤
      Entry = on_entry 𝓛 (held_ended R).signature (κ, tt) (q, tt) (d, tt) (v ∷ [], tt)

      abbrev Post : Val → SProp 𝓤
      Post = Walk.post own

      -- what is said of the callee's answer
      abbrev is_right : R.row.Denot → Type 0
      is_right = R.right d.text.now d.at

      abbrev token : Item 𝓤
      token = ‵ (flft κ q) ⊛ ‵ ftrue

      asked : ent 𝓤 Entry ((Plain R 𝓤 𝓛).pre to)
      asked =
          qed 𝓛 (token ∷ ‵ (owns (reader_row (κ, tt) ∷ []) (d, tt) (v ∷ [], tt)) ∷ []) ∵
          move ! (1 ∷ []) $ fsplit ! $
          use1 𝓛 (given (v ∷ [] ≡ v ∷ []) (‵ (all_own (reader_type (κ, tt)).parts (reader_laws (κ, tt)) parts)))
          (own_open 𝓛 (reader_type (κ, tt)) (reader_laws (κ, tt)) parts v) $
          learn ! (λ _. move ! (2 ∷ 0 ∷ []) $ join ! $ frame ! $ done !)

      exits : (r : R.row.Denot) (u : Val) → is_right r → ent 𝓤 (⋆ 𝓛 (‵ (R.row.own_val r (u ∷ [])) ∷ token ∷ [])) (Post u)
      exits r u e =
          qed 𝓛 (‵ (R.row.own_val r (u ∷ [])) ∷ token ∷ []) ∵
          suffices ! _ (ends_at 𝓛 (held_ended R) stayed (held_clauses R 𝓤) own u r (tt, tt) (tt, tt)) $ says ! e $
          move ! (1 ∷ []) $ frame ! $ nothing ! $ nothing ! $ fjoin ! $ done !

      -- what the callee ensures says that
      heard_right : (r : R.row.Denot)
          → ent 𝓤 (ensured 𝓛 (plain_ended R) (plain_clauses R 𝓤) (κ, tt) parts tt r) (fact 𝓤 (is_right r))
      heard_right r = ex_e 𝓤 _ (λ ws. snd∗ 𝓤 (sem 𝓛 (lasts (plain_ended R) (κ, tt) parts ws)) (fact 𝓤 (is_right r)))

      module _ (callee : Callee) (𝓣 : Tables 𝓤 H) (known : Triple 𝓤 (𝓣.C callee) (Plain R 𝓤 𝓛)) where
        walk : Holds (has_ty (T'.mir (named 0)) v) × WT v
            → ent 𝓤 Entry (WpFn 𝓤 H 𝓣.C 𝓣.Λ (thin_fn callee R.mir) (v ∷ []) Post)
        walk wt =
            qed 𝓛 (raw Entry ∷ []) ∵ enter ! 𝓣.C 𝓣.Λ (thin_fn callee R.mir) (v ∷ []) _ $
            alloc1 ! (λ l₀. alloc1 ! (λ l₁. alloc1 ! (λ l₂. alloc1 ! (λ l₃. alloc0 ! $
            params1 ! $ pass1 ! (init ! 4 refl wt) $ pass0 ! $
            fills ! (of_opd ! (field_at_lem ! 4 refl refl refl)) 2 refl (tt, wt.1.0) $
            fills ! (of_opd ! (field_at_lem ! 4 refl refl refl)) 0 refl (tt, wt.1.1.0) $
            -- [_3; …; _2; …; _1; …; room for _0; …; what was passed]
            move ! (8 ∷ []) $ use1 𝓛 (raw ((Plain R 𝓤 𝓛).pre to)) asked $
            calls_at ! (fm_of 𝓤 H 𝓛.laws 𝓣) (Plain R 𝓤 𝓛) known to
            (and_then ! (local_at ! 3 refl) (and_then ! (local_at ! 1 refl) (no_more !)))
            (λ u. by ! (ends R κ q 𝓛 𝓣.C 𝓣.Λ is_right _ Post heard_right (λ r. exits r u)).prf)))))

    -- over any tables in which the callee meets its contract
    walks : (callee : Callee) (𝓣 : Tables 𝓤 H) → Triple 𝓤 (𝓣.C callee) (Plain R 𝓤 𝓛)
        → Triple 𝓤 (WpFn 𝓤 H 𝓣.C 𝓣.Λ (thin_fn callee R.mir)) (Held R 𝓤 𝓛)
    walks callee 𝓣 known =
        meets 𝓛 (held_ended R) stayed (Goes-dropped 𝓛 1 (plain reader_row) yes (λ κs x f. refl), tt)
        (held_clauses R 𝓤) (thin_fn callee R.mir) 𝓣
        (λ κs. (LL.vals (reader_type κs) (reader_laws κs), tt)) (λ κs. (LL.tells (reader_type κs) (reader_laws κs), tt))
        (λ κs qs bounds a _ are.
        let wt = ((LL.lawful (reader_type κs) (reader_laws κs) 𝓛).typed a.0 _ are.0).0 in
        via 𝓤 _ (fst∗ 𝓤 _ (emp 𝓤)) (walk κs.0 qs.0 a.0 callee 𝓣 known wt))

  module _ {M : Type 1} {𝓤 : Ura M} (𝓛 : Logic 𝓤) (𝓜 : Model 𝓤 𝓛.H) (𝓡 : Running 𝓤 𝓛.H 𝓜) (γ : Env)
      (here callee : Callee) (r : Routine) where
    open 𝓛 use {H}

    pub thin_meets : Closed 𝓤 H (tables 𝓤 H 𝓜 𝓡 γ).C (tables 𝓤 H 𝓜 𝓡 γ).Λ here (thin_fn callee R.mir) → γ callee ≡ r
        → Triple 𝓤 (𝓡.run r) (Plain R 𝓤 𝓛) → Triple 𝓤 (𝓡.run (γ here)) (Held R 𝓤 𝓛)
    thin_meets closed called known =
        stands 𝓤 H 𝓜 𝓡 γ here callee r (thin_fn callee R.mir) (Held R 𝓤 𝓛) (Plain R 𝓤 𝓛)
        closed called known (walks 𝓛 callee)
