-- The setting of a draft: its signals, its classes flattened and with their bodies read, and its objects.
use Rattle.std.specs.Prelude.{◌≡◌, ℕ, List, map, length, Some, slice_get}
use Rattle.pssm_model.specs.declared.draft_setting.Draft.{Draft}
use Rattle.pssm_model.specs.declared.draft_setting.DraftClass.{DraftClass}
use Rattle.pssm_model.specs.declared.draft_setting.DraftObject.{DraftObject}
use Rattle.pssm_model.specs.declared.draft_setting.DraftSignal.{DraftSignal}
use Rattle.pssm_model.specs.declared.draft_setting.DraftVar.{DraftVar}
use Rattle.pssm_model.specs.declared.draft_setting.FlatDraft.{FlatDraft}
use Rattle.pssm_model.specs.Shapes.{HasShape}
use Rattle.pssm_semantics.specs.declared.setting.Class.{Class}
use Rattle.pssm_semantics.specs.declared.setting.Names.{Names}
use Rattle.pssm_semantics.specs.declared.setting.ObjectDecl.{ObjectDecl}
use Rattle.pssm_semantics.specs.declared.setting.Setting.{Setting}
use Rattle.pssm_semantics.specs.declared.setting.SignalDecl.{SignalDecl}
use Rattle.pssm_semantics.specs.declared.setting.VarDecl.{VarDecl}
use Rattle.pssm_redefine.specs.Flattening.{Flattens}
use Rattle.pssm_bodies.specs.Programs.{IsProgrammed}

-- ---- one by one

-- a signal; which signal it specializes is not kept
abbrev pub signal_of : DraftSignal → SignalDecl
signal_of s = record { name = s.name; count = s.count }

-- a variable
abbrev pub var_of : DraftVar → VarDecl
var_of v = record { name = v.name; first = v.first }

-- an object
abbrev pub object_of : DraftObject → ObjectDecl
object_of o = record { name = o.name; class = o.class }

-- the names that the behaviours of a class with these variables may use
abbrev pub names_of : Draft → List DraftVar → Names
names_of draft vars =
    record {
      vars = map (λ (v : DraftVar). v.name) vars;
      objects = map (λ (o : DraftObject). o.name) draft.objects;
      signals = map signal_of draft.signals;
    }

-- ---- classes

-- The class is the one with this number: its machine is flattened, the texts of its bodies are read, and it has the shape of a machine.
pub record IsLoadedClass (draft : Draft) (number : ℕ) (class : Class) : Type 0 where
  pub of : DraftClass
  pub is : slice_get draft.classes number ≡ Some of
  pub flat : FlatDraft
  pub flattened : Flattens draft number flat
  pub name : class.name ≡ of.name
  pub vars : class.vars ≡ map var_of flat.vars
  pub programmed : IsProgrammed (names_of draft flat.vars) flat class.machine class.program
  pub shape : HasShape class.machine

-- These are the first classes of the draft, each loaded.
pub record AreLoadedClasses (draft : Draft) (classes : List Class) : Type 0 where
  pub each : (number : ℕ) (class : Class) → slice_get classes number ≡ Some class → IsLoadedClass draft number class

-- ---- the whole

-- the setting of the draft
pub record IsSettingOf (draft : Draft) (setting : Setting) : Type 0 where
  pub signals : setting.signals ≡ map signal_of draft.signals
  pub all : length setting.classes ≡ length draft.classes
  pub classes : AreLoadedClasses draft setting.classes
  pub objects : setting.objects ≡ map object_of draft.objects
