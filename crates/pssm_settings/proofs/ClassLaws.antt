-- How a class is loaded, step by step.
use Rattle.std.proofs.Common.{◌≡◌, ◌≢◌, ◌⊎◌, ◌≤◌, ◌<◌, ℕ, List, length, map, Option, Some, slice_get, get_or, inl, inr, refl, sym, subst, ap, ◌∙◌, arith, Result, Ok, Err, IfErr}
use Rattle.std.proofs.lemmas.List.{length-map, map-id}
use Rattle.std.proofs.lemmas.Option.{get_or_from_slice_get, slice_get_read}
use Rattle.pssm_model.specs.declared.draft_setting.Body.{Body}
use Rattle.pssm_model.specs.declared.draft_setting.Draft.{Draft}
use Rattle.pssm_model.specs.declared.draft_setting.DraftClass.{DraftClass}
use Rattle.pssm_model.specs.declared.draft_setting.DraftObject.{DraftObject}
use Rattle.pssm_model.specs.declared.draft_setting.DraftSignal.{DraftSignal}
use Rattle.pssm_model.specs.declared.draft_setting.DraftVar.{DraftVar}
use Rattle.pssm_model.specs.declared.draft_setting.FlatDraft.{FlatDraft}
use Rattle.pssm_model.specs.declared.elements.DraftMachine.{DraftMachine}
use Rattle.pssm_model.specs.declared.elements.Shape.{Shape}
use Rattle.pssm_model.specs.DraftSettings.{IsInRange}
use Rattle.pssm_model.specs.Shapes.{HasShape, IsShapeFault}
use Rattle.pssm_semantics.specs.declared.setting.Class.{Class}
use Rattle.pssm_semantics.specs.declared.setting.Names.{Names}
use Rattle.pssm_semantics.specs.declared.setting.Program.{Program}
use Rattle.pssm_semantics.specs.declared.setting.SignalDecl.{SignalDecl}
use Rattle.pssm_acts.specs.declared.act_fault.ActFault.{ActFault}
use Rattle.pssm_acts.specs.Indexes.{IsIndexOf}
use Rattle.pssm_heritage.specs.declared.fault.RedefFault.{RedefFault}
use Rattle.pssm_heritage.specs.declared.fault.RedefFault.TheVariants as chains
use Rattle.pssm_redefine.specs.Flattening.{Flattens, IsFaultOfClass}
use Rattle.pssm_bodies.specs.Programs.{IsProgrammed}
use Rattle.pssm_bodies.specs.Faults.{IsBodyFault}
use Rattle.pssm_settings.specs.declared.fault.DraftFault.{DraftFault}
use Rattle.pssm_settings.specs.declared.fault.DraftFault.TheVariants as faults
use Rattle.pssm_settings.specs.Settings.{signal_of, var_of, names_of, IsLoadedClass}
use Rattle.pssm_settings.specs.Failures.{FailsClass, redefined, body, shape}
use Rattle.pssm_settings.specs.inner.Making.{MisshapesClass}

-- The machine cannot be flattened.
pub redefined_so : (draft : Draft) (number : ℕ) (fault : RedefFault) (told : DraftFault) → (told ≡ faults.NoMemory) ⊎ ((told ≡ faults.Redef fault) × (fault ≢ chains.NoMemory))
    → (fault ≡ chains.NoMemory) ⊎ IsFaultOfClass draft number fault → (told ≡ faults.NoMemory) ⊎ FailsClass draft number told
redefined_so draft number fault told (inl none) wrong = inl none
redefined_so draft number fault told (inr is) (inl none) = absurd (is.1 none)
redefined_so draft number fault told (inr is) (inr wrong) = inr (subst (λ (f : DraftFault). FailsClass draft number f) (sym is.0) (redefined wrong))

-- The names of few variables are few.
pub few_names : (draft : Draft) (vars of : List DraftVar) (names : Names) → names ≡ names_of draft vars → vars ≡ of → length of ≤ 64 → length names.vars ≤ 64
few_names draft vars of names is same few =
    let counted : length names.vars ≡ length vars = ap (λ (n : Names). length n.vars) is ∙ length-map vars (λ (v : DraftVar). v.name) in
    let as_many : length vars ≡ length of = ap (λ (vs : List DraftVar). length vs) same in
    omega (arith, counted, as_many, few)

-- So are those of few objects and signals.
pub few_objects : (draft : Draft) (vars : List DraftVar) (names : Names) → names ≡ names_of draft vars → IsInRange draft → length names.objects ≤ 64
few_objects draft vars names is range =
    let counted : length names.objects ≡ length draft.objects = ap (λ (n : Names). length n.objects) is ∙ length-map draft.objects (λ (o : DraftObject). o.name) in
    let few = range.few_objects in
    omega (arith, counted, few)

pub few_signals : (draft : Draft) (vars : List DraftVar) (names : Names) → names ≡ names_of draft vars → IsInRange draft → length names.signals ≤ 256
few_signals draft vars names is range =
    let counted : length names.signals ≡ length draft.signals = ap (λ (n : Names). length n.signals) is ∙ length-map draft.signals signal_of in
    let few = range.few_signals in
    omega (arith, counted, few)

-- An index of the names that are made of a draft's objects is one of its objects' names.
pub objects_indexed : (draft : Draft) (objects : List DraftObject) (names lent : List (List ℕ)) (index : Option (List (List ℕ))) → objects ≡ draft.objects
    → names ≡ map (λ (o : DraftObject). o.name) objects → lent ≡ names → IsIndexOf (map (λ (n : List ℕ). n) lent) index
    → IsIndexOf (map (λ (o : DraftObject). o.name) draft.objects) index
objects_indexed draft objects names lent index from are same of =
    let all = map-id lent ∙ same ∙ are ∙ ap (λ (os : List DraftObject). map (λ (o : DraftObject). o.name) os) from in
    subst (λ (ns : List (List ℕ)). IsIndexOf ns index) all of

-- So it is with its signals.
pub signals_indexed : (draft : Draft) (signals : List DraftSignal) (decls lent : List SignalDecl) (index : Option (List (List ℕ))) → signals ≡ draft.signals
    → decls ≡ map signal_of signals → lent ≡ decls → IsIndexOf (map (λ (d : SignalDecl). d.name) lent) index
    → IsIndexOf (map (λ (d : SignalDecl). d.name) (map signal_of draft.signals)) index
signals_indexed draft signals decls lent index from are same of =
    let all = same ∙ are ∙ ap (λ (ss : List DraftSignal). map signal_of ss) from in
    subst (λ (ds : List SignalDecl). IsIndexOf (map (λ (d : SignalDecl). d.name) ds) index) all of

-- A body has a fault, and this is its id.
pub body_so : (draft : Draft) (number : ℕ) (flat : FlatDraft) (place : ℕ) (fault : ActFault) (bodies : List Body) (one : Body) (id : List ℕ) → Flattens draft number flat
    → IsBodyFault (names_of draft flat.vars) flat place fault → bodies ≡ flat.bodies → id ≡ (get_or bodies place one).id → FailsClass draft number (faults.Act id fault)
body_so draft number flat place fault bodies one id flattens wrong same named =
    let there : slice_get bodies place ≡ Some wrong.body = subst (λ (bs : List Body). slice_get bs place ≡ Some wrong.body) (sym same) wrong.is in
    let read : get_or bodies place one ≡ wrong.body = get_or_from_slice_get bodies place wrong.body one there in
    let is : id ≡ wrong.body.id = named ∙ ap (λ (b : Body). b.id) read in
    subst (λ (text : List ℕ). FailsClass draft number (faults.Act text fault)) (sym is) (body flat place wrong.body flattens wrong wrong.is)

-- The machine lacks the shape of one.
pub shape_so : (draft : Draft) (number : ℕ) (of : DraftClass) (flat : FlatDraft) (machine : DraftMachine) (program : Program) (fault : DraftFault)
    → slice_get draft.classes number ≡ Some of → Flattens draft number flat → IsProgrammed (names_of draft flat.vars) flat machine program
    → (fault ≡ faults.NoMemory) ⊎ ((s : Shape) × (fault ≡ faults.Shape of.name s) × IsShapeFault machine s) → (fault ≡ faults.NoMemory) ⊎ FailsClass draft number fault
shape_so draft number of flat machine program fault is flattens programmed (inl none) = inl none
shape_so draft number of flat machine program fault is flattens programmed (inr why) =
    inr (subst (λ (f : DraftFault). FailsClass draft number f) (sym why.1) (shape of flat machine program is flattens programmed why.2))

-- A class of these parts is the one with the number.
pub loaded_so : (draft : Draft) (number : ℕ) (of : DraftClass) (flat : FlatDraft) (class : Class) → slice_get draft.classes number ≡ Some of → Flattens draft number flat
    → class.name ≡ of.name → class.vars ≡ map var_of flat.vars → IsProgrammed (names_of draft flat.vars) flat class.machine class.program → HasShape class.machine
    → IsLoadedClass draft number class
loaded_so draft number of flat class is flattens name vars programmed shaped =
    record { of = of; is = is; flat = flat; flattened = flattens; name = name; vars = vars; programmed = programmed; shape = shaped }

-- The class with its shape asked for is none, for this cause.
pub made_fails : (draft : Draft) (number : ℕ) (of : DraftClass) (flat : FlatDraft) (machine : DraftMachine) (program : Program) (classes : List DraftClass) (r : Result Class DraftFault)
    → classes ≡ draft.classes → number < length draft.classes → of ≡ get_or classes number of → Flattens draft number flat
    → IsProgrammed (names_of draft flat.vars) flat machine program → IfErr r (MisshapesClass of.name machine)
    → IfErr r (λ fault. (fault ≡ faults.NoMemory) ⊎ FailsClass draft number fault)
made_fails draft number of flat machine program classes (Ok class) same within is flattens programmed wrong = tt
made_fails draft number of flat machine program classes (Err fault) same within is flattens programmed wrong =
    let there : slice_get classes number ≡ Some of = slice_get_read classes (length classes) number of refl (subst (λ (cs : List DraftClass). number < length cs) (sym same) within) is in
    shape_so draft number of flat machine program fault (subst (λ (cs : List DraftClass). slice_get cs number ≡ Some of) same there) flattens programmed wrong
