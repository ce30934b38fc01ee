-- Brief entries: how their names are looked up, and that they name what the setting has.
use Rattle.std.proofs.Common.{◌≡◌, ℕ, ◌<◌, Bool, List, [], ◌∷◌, length, Option, Some, refl, sym, ap, subst, ◌∙◌, ◌↔◌}
use Rattle.std.specs.Prelude.{IsTrue, All, slice_get}
use Rattle.std.specs.Option.{option_map_or}
use Rattle.std.proofs.lemmas.List.Elements.{All-nil, All-head}
use Rattle.pssm_model.specs.declared.ids.SignalId.{SignalId}
use Rattle.pssm_model.specs.declared.ids.TransId.{TransId}
use Rattle.pssm_model.specs.declared.elements.DraftMachine.{DraftMachine}
use Rattle.pssm_model.specs.declared.steps.Route.{Route}
use Rattle.pssm_model.proofs.RouteLaws.{all_of_one}
use Rattle.pssm_semantics.specs.declared.entry.ObjectId.{ObjectId}
use Rattle.pssm_semantics.specs.declared.setting.SignalDecl.{SignalDecl}
use Rattle.pssm_semantics.specs.declared.setting.ObjectDecl.{ObjectDecl}
use Rattle.pssm_semantics.specs.declared.setting.Setting.{Setting}
use Rattle.pssm_semantics.specs.Journal.{object_of}
use Rattle.pssm_semantics.specs.Known.{IsRouteOf, IsFiringOf}
use Rattle.pssm_semantics.specs.Names.{NamesDiffer}
use Rattle.pssm_lines.specs.declared.parts.BriefAct.{BriefAct}
use Rattle.pssm_lines.specs.declared.parts.BriefAct.TheVariants as acts
use Rattle.pssm_lines.specs.Parts.{firing_of_one, line_of_act}
use Rattle.pssm_journal.specs.declared.brief.EntryAct.{EntryAct}
use Rattle.pssm_journal.specs.declared.brief.EntryAct.TheVariants.{Post, Take, Exit, Effect, Enter}
use Rattle.pssm_journal.specs.Briefs.{entry_of_act}
use Rattle.pssm_journal.specs.Entries.{object_name, object_named, signal_named}
use Rattle.pssm_journal.specs.inner.EntryLine.{name_of_object, name_of_signal}
use Rattle.pssm_journal.proofs.NameLaws.{object_named_back, signal_named_back}

-- ---- names

-- the object of its own name
pub object_here : (setting : Setting) (o : ObjectId) (d : ObjectDecl) (name : List ℕ) → NamesDiffer setting → slice_get setting.objects o.0 ≡ Some d → d.name ≡ name → Some o ≡ object_named setting name
object_here setting o d name differ here same =
    let name_is : name_of_object setting o ≡ name = ap (λ (p : Option ObjectDecl). option_map_or (λ x. x.name) p []) here ∙ same in
    sym (subst (λ (n : List ℕ). object_named setting n ≡ Some o) name_is (object_named_back setting o d differ here))

pub signal_here : (setting : Setting) (s : SignalId) (d : SignalDecl) (name : List ℕ) → NamesDiffer setting → slice_get setting.signals s.0 ≡ Some d → d.name ≡ name → Some s ≡ signal_named setting name
signal_here setting s d name differ here same =
    let name_is : name_of_signal setting s ≡ name = ap (λ (p : Option SignalDecl). option_map_or (λ x. x.name) p []) here ∙ same in
    sym (subst (λ (n : List ℕ). signal_named setting n ≡ Some s) name_is (signal_named_back setting s d differ here))

-- ---- what is told

pub name_of_act : (object : List ℕ) (act : BriefAct) → object_name (line_of_act object act) ≡ object
name_of_act object (acts.Post signal) = refl
name_of_act object (acts.Take number start) = refl
name_of_act object (acts.Exit state) = refl
name_of_act object (acts.Effect transition) = refl
name_of_act object (acts.Enter state) = refl

pub object_of_act : (o : ObjectId) (act : EntryAct) → object_of (entry_of_act o act) ≡ o
object_of_act o (Post signal) = refl
object_of_act o (Take number start) = refl
object_of_act o (Exit state) = refl
object_of_act o (Effect transition) = refl
object_of_act o (Enter state) = refl

-- one start is known where its transition is
pub start_known : (m : DraftMachine) (start : TransId) (b : Bool) → IsTrue b ↔ (start.0 < length m.transitions) → IsTrue b ↔ IsFiringOf m (firing_of_one start)
start_known m start b known =
    let r : Route = record { starts = start ∷ []; rest = [] } in
    let P = λ (t : TransId). t.0 < length m.transitions in (
      (λ h. all_of_one (IsRouteOf m) r (all_of_one P start (known.0 h))),
      (λ all. known.1 (All-head P start [] (All-head (IsRouteOf m) r [] all))),
    )

-- no outputs are known
pub alone_known : {X : Type 0} (A : Type 0) (P : X → Type 0) (b : Bool) → IsTrue b ↔ A → IsTrue b ↔ (A × All P [])
alone_known A P b known = ((λ h. (known.0 h, All-nil P)), (λ both. known.1 both.0))
