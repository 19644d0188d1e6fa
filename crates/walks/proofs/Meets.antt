-- From the walk of a function's MIR to its contract, whatever its signature.
--     meets                the walk gives `Meets` of the contract
--     stands               from there to the function's routine, where its one callee's routine meets its contract
-- Assumes `Logic`, and that the callee meets its contract.
use mathlib.Core.Path.{◌≡◌}
use mathlib.Core.List.{List}
use seplogic.Ra.Ura.{Ura}
use mir.Syntax.{Fn}
use base.Logic.{ent, sep}
use prog.Model.{Model}
use prog.Routine.{Callee, Routine, Env}
use prog.Wp.{Heap, WpFn, Tables, Closed}
use types.Logic.{Logic}
use sound.WpLaws.{WpFn-mono}
use contract.Lifetimes.{Lfts, Shares, AllOutlive}
use contract.Monad.{Fun}
use contract.Running.{Running, tables, tables_of}
use denote.RattleType.{RattleType, flat}
use denote.Laws.{Are, Ises, Spells, valss, Tellss}
use denote.Signature.{types_at}
use denote.Triple.Entry.{Args, on_entry}
use denote.Triple.Statement.{Contract, Triple}
use denote.Triple.Spec.{Meets}
use denote.Triple.Table.{entered, cited}
use denote.Triple.Clauses.{Clauses, Ended, closing}
use denote.Triple.Walked.{Stays, AllGo, walk_of, walked, walk_Meets}

module _ (T : Ended) where
  abbrev At : Type 0
  At = Lfts T.signature.lifetimes

  -- the parameters' types
  abbrev rows : At → List RattleType
  rows κs = types_at T.signature.params κs

module _ {M : Type 1} {𝓤 : Ura M} (𝓛 : Logic 𝓤) (T : Ended) (hs : Stays T.signature.params T.kept)
    (gs : AllGo 𝓛 T.signature.lifetimes T.signature.params T.kept hs) (c : Clauses 𝓤 T) (f : Fn) (𝓣 : Tables 𝓤 𝓛.H) where
  open 𝓛 use {H}

  abbrev runs : Fun 𝓤
  runs = WpFn 𝓤 H 𝓣.C 𝓣.Λ f

  pub meets : (sp : (κs : At T) → Spells (rows T κs)) → ((κs : At T) → Tellss (rows T κs) (Ises (rows T κs)) (sp κs))
      → ((κs : At T) (qs : Shares T.signature.lifetimes) (bounds : AllOutlive T.signature.lifetimes T.signature.outlives κs)
      (a : Args T.signature κs) (g : (c κs a).ghost)
      → let vs = valss (rows T κs) (sp κs) a in
      Are (rows T κs) (Ises (rows T κs)) a vs
      → ent 𝓤 (sep 𝓤 (on_entry 𝓛 T.signature κs qs a vs) ((c κs a).requires g))
      (runs (flat (rows T κs) vs) ((walk_of 𝓛 T hs c).post ((κs, qs, bounds, a, vs), g))))
      → Meets 𝓛 T.signature runs (closing 𝓛 T c)
  meets sp tl k = walk_Meets 𝓛 T hs gs c runs (WpFn-mono 𝓤 H 𝓛.laws 𝓣 f) (walked 𝓛 T hs c runs sp tl k)

module _ {M : Type 1} (𝓤 : Ura M) (H : Heap 𝓤) (𝓜 : Model 𝓤 H) (𝓡 : Running 𝓤 H 𝓜) (γ : Env) (here callee : Callee) (r : Routine) (f : Fn)
    (mine theirs : Contract 𝓤) where
  pub stands : Closed 𝓤 H (tables 𝓤 H 𝓜 𝓡 γ).C (tables 𝓤 H 𝓜 𝓡 γ).Λ here f → γ callee ≡ r → Triple 𝓤 (𝓡.run r) theirs
      → ((𝓣 : Tables 𝓤 H) → Triple 𝓤 (𝓣.C callee) theirs → Triple 𝓤 (WpFn 𝓤 H 𝓣.C 𝓣.Λ f) mine)
      → Triple 𝓤 (𝓡.run (γ here)) mine
  unfolding tables_of
  stands closed called known walks =
      entered 𝓤 H mine (tables 𝓤 H 𝓜 𝓡 γ).C (tables 𝓤 H 𝓜 𝓡 γ).Λ here f closed
      (walks (tables_of 𝓤 H 𝓜 (tables 𝓤 H 𝓜 𝓡 γ)) (cited 𝓤 H theirs 𝓜 𝓡 γ callee r called known))
