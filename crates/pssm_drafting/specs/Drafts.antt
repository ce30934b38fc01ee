-- The draft of a file: its signals, machines, classes and objects, list by list and field by field.
--
-- Each is computed of any file. It says what the file means where the file has no fault: then each number, kind,
-- truth value and text that is asked for is there.
use Rattle.std.specs.Prelude.{ℕ, List, [], ◌∷◌, length, map, None, option_map, unwrap_or, codes}
use Rattle.std.specs.Option.{option_map_or}
use Rattle.pssm_model.specs.declared.draft_setting.Draft.{Draft}
use Rattle.pssm_model.specs.declared.draft_setting.DraftSignal.{DraftSignal}
use Rattle.pssm_model.specs.declared.draft_setting.DraftClass.{DraftClass}
use Rattle.pssm_model.specs.declared.draft_setting.DraftVar.{DraftVar}
use Rattle.pssm_model.specs.declared.draft_setting.DraftObject.{DraftObject}
use Rattle.pssm_model.specs.declared.draft_setting.DraftParts.{DraftParts}
use Rattle.pssm_xml.specs.Elements.{value_or_empty}
use Rattle.pssm_numbering.specs.Numbering.{ModelFile, children_with, place_in, own_with, signals, machines}
use Rattle.pssm_numbering.specs.Numbering.{classes, is_machine, is_region, is_vertex, is_transition, is_parameter}
use Rattle.pssm_numbering.specs.Meanings.{clean_name_of, id_of, meant_with, behaviour_of, variables, class_of_instance, instances, concrete_classes}
use Rattle.pssm_parts.specs.Elements.{region_at, vertex_at, transition_at}
use Rattle.pssm_parts.specs.FirstValues.{first_value}

-- ---- machines

-- a machine with the elements of its own (UML 2.5.1 14.5.10; extendedStateMachine)
abbrev pub parts_at : ModelFile → ℕ → DraftParts
parts_at file m =
    record {
      id = id_of file m;
      extends = option_map (place_in (machines file)) (meant_with is_machine (codes "extendedStateMachine") file m);
      regions = map (region_at file) (own_with is_region file m);
      vertices = map (vertex_at file) (own_with is_vertex file m);
      transitions = map (transition_at file) (own_with is_transition file m);
    }

-- ---- signals, classes and objects

-- a signal, with as many parameters as it has attributes (UML 2.5.1 10.5.11)
abbrev pub signal_at : ModelFile → ℕ → DraftSignal
signal_at file n = record { name = clean_name_of file n; count = length (children_with is_parameter file n); parent = None }

-- a variable; it keeps its name as it is written
abbrev pub variable_at : ModelFile → ℕ → DraftVar
variable_at file n = record { name = value_or_empty file.doc n (codes "name"); first = first_value file n }

-- an active class (UML 2.5.1 11.8.3)
abbrev pub class_at : ModelFile → ℕ → DraftClass
class_at file c =
    record {
      name = clean_name_of file c;
      vars = map (variable_at file) (variables file c);
      machine = option_map_or (place_in (machines file)) (behaviour_of file c) (length (machines file));
    }

-- an object that has the name of this element, and this class
abbrev pub object_with : ModelFile → ℕ → ℕ → DraftObject
object_with file n class = record { name = clean_name_of file n; class = place_in (classes file) class }

-- the object of an instance specification (UML 2.5.1 9.9.9)
abbrev pub object_at : ModelFile → ℕ → DraftObject
object_at file n = object_with file n (unwrap_or (class_of_instance file n) (length file.doc))

-- the objects of these instance specifications, and where there are none one of each class that is not abstract (this profile's choice)
abbrev pub objects_or : ModelFile → List ℕ → List DraftObject
objects_or file [] = map (λ c. object_with file c c) (concrete_classes file)
objects_or file (n ∷ more) = map (object_at file) (n ∷ more)

-- the objects of a file
abbrev pub objects_of : ModelFile → List DraftObject
objects_of file = objects_or file (instances file)

-- ---- the draft

-- the draft of a file
abbrev pub draft_of : ModelFile → Draft
draft_of file =
    record {
      signals = map (signal_at file) (signals file);
      machines = map (parts_at file) (machines file);
      classes = map (class_at file) (classes file);
      objects = objects_of file;
    }
