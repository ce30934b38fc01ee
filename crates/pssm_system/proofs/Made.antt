-- What the behaviour of an entry makes, by what is kept of its object.
use Rattle.std.proofs.Common.{◌≡◌, ℤ, List, [], Some, slice_get, refl, sym, ap, ◌∙◌}
use Rattle.std.specs.Option.{option_map_or}
use Rattle.pssm_semantics.specs.declared.entry.ObjectId.{ObjectId}
use Rattle.pssm_semantics.specs.declared.entry.Entry.{Entry}
use Rattle.pssm_semantics.specs.declared.entry.Entry.TheVariants.{Post, Start, Take, Done, Exit, Effect, Enter, Opened, Pick, DoStep}
use Rattle.pssm_semantics.specs.declared.setting.Class.{Class}
use Rattle.pssm_semantics.specs.declared.setting.Outcome.{Outcome}
use Rattle.pssm_semantics.specs.declared.setting.Setting.{Setting}
use Rattle.pssm_semantics.specs.Settings.{class_of}
use Rattle.pssm_semantics.specs.Journal.{object_of}
use Rattle.pssm_semantics.specs.Pool.{told_by, KnownSignals}
use Rattle.pssm_semantics.specs.Values.{Store, Params, outcome_of}
use Rattle.pssm_semantics.specs.Behaviours.{act_of, store_of, params_of, params_at, outcome_at}
use Rattle.pssm_semantics.specs.Work.{Work, outcome_from}
use Rattle.pssm_object.specs.Standing.{Standing}
use Rattle.pssm_object.specs.Following.{params_in, made_by}
use Rattle.pssm_system.specs.Works.{HasMade}
use Rattle.pssm_system.specs.inner.Keeping.{AreObjects}
use Rattle.pssm_system.specs.inner.Stepping.{AreMade}

-- the parameters are those that are kept
params_kept : (told : KnownSignals) (J : List Entry) (x : Standing) (e : Entry) → params_of told J (object_of e) ≡ x.params → params_at told J e ≡ params_in x e
params_kept told J x (Post o g args) is = is
params_kept told J x (Start o) is = is
params_kept told J x (Take o number firing) is = is
params_kept told J x (Done o v firing) is = is
params_kept told J x (Exit o v outs) is = is
params_kept told J x (Effect o t outs) is = is
params_kept told J x (Enter o v outs) is = is
params_kept told J x (Opened o r mode how) is = is
params_kept told J x (Pick o v route) is = is
params_kept told J x (DoStep o v k outs) is = refl

-- what the behaviour of an entry makes of a store under parameters
abbrev made_of : Class → Entry → ObjectId → Store → Params → Outcome
made_of class e o store params = option_map_or (λ act. outcome_of act o store params) (act_of class e) (record { store = store; outs = [] })

made_kept : (class : Class) (told : KnownSignals) (J : List Entry) (x : Standing) (e : Entry) → x.own ≡ object_of e → x.store ≡ store_of class told J x.own
    → x.params ≡ params_of told J x.own → outcome_at class told J e (store_of class told J (object_of e)) ≡ made_by class x e
made_kept class told J x e own store params =
    let stores : store_of class told J (object_of e) ≡ x.store = ap (store_of class told J) (sym own) ∙ sym store in
    let kept = params_kept told J x e (ap (params_of told J) (sym own) ∙ sym params) in
    ap (λ o. made_of class e o (store_of class told J (object_of e)) (params_at told J e)) (sym own)
    ∙ ap (λ s. made_of class e x.own s (params_at told J e)) stores
    ∙ ap (λ ps. made_of class e x.own x.store ps) kept

-- so what made the same made these values
pub made_here : {setting : Setting} {J : List Entry} {objects : List Standing} → AreObjects setting J objects → (e : Entry) (work : Work) → HasMade setting J e work
    → (store : List ℤ) → store ≡ (outcome_from work).store → AreMade setting objects e store
made_here {J = J} are e work made store is = λ class x class_is at.
    let object = are.each (object_of e) class x class_is at in
    is ∙ ap (λ (o : Outcome). o.store) (made class class_is)
    ∙ ap (λ (o : Outcome). o.store)
    (made_kept class (told_by J) J x e object.own object.stands.store_is object.stands.params_is)
