-- The lines that say what is wrong with a model.
use Rattle.std.specs.Prelude.{ℕ, List, [], ◌++◌, codes, nat_lt, if◌then◌else◌}
use Rattle.std.specs.List.{flat_map}
use Rattle.std.specs.Fmt.{decimal}
use Rattle.pssm_model.specs.declared.elements.Element.{Element}
use Rattle.pssm_model.specs.declared.elements.Element.TheVariants as elements
use Rattle.pssm_model.specs.declared.elements.FaultPlace.{FaultPlace}
use Rattle.pssm_model.specs.declared.elements.FaultPlace.TheVariants as places
use Rattle.pssm_flat.specs.declared.fault.FlatFault.TheVariants as texts
use Rattle.pssm_flat.specs.Text.{line}
use Rattle.pssm_load.specs.declared.fault.ClassFault.{ClassFault}
use Rattle.pssm_load.specs.declared.fault.LoadFault.{LoadFault}
use Rattle.pssm_load.specs.declared.fault.LoadFault.TheVariants.{Flat, Xmi, Redef, Act, Shape, Faults, NoMemory}
use Rattle.pssm_tool.specs.FaultWords.{shape_word, act_word, act_place}
use Rattle.pssm_tool.specs.FileRefusals.{xmi_text, redefine_text, act_text, shape_text}

-- `r0`, `v5`, `t2`
abbrev pub element_text : Element → List ℕ
element_text (elements.Region r) = codes "r" ++ decimal r.0
element_text (elements.Vertex v) = codes "v" ++ decimal v.0
element_text (elements.Transition t) = codes "t" ++ decimal t.0

-- an element, or `top` for the machine as a whole
abbrev pub place_text : FaultPlace → List ℕ
place_text places.Top = codes "top"
place_text (places.At e) = element_text e

-- `E05`, `E20`: the name of a rule of models
abbrev pub rule_text : ℕ → List ℕ
rule_text n = (if nat_lt n 10 then codes "E0" else codes "E") ++ decimal n

-- `E20 CLASS v5`
abbrev pub fault_line : ClassFault → List ℕ
fault_line f = line (rule_text f.fault.rule ++ codes " " ++ f.class ++ codes " " ++ place_text f.fault.element)

-- `flat line L bad line`, `flat line L shape S`, `flat line L act F byte B`; the line on a model file, on a redefinition, on the text of a behaviour or on
-- the shape of a machine; or a line for each rule that is broken. Want of memory has no line.
abbrev pub load_fault_text : LoadFault → List ℕ
load_fault_text (Flat (texts.BadLine l)) = line (codes "flat line " ++ decimal l ++ codes " bad line")
load_fault_text (Flat (texts.Shape l shape)) = line (codes "flat line " ++ decimal l ++ codes " shape " ++ shape_word shape)
load_fault_text (Flat (texts.Act l fault)) =
    line (codes "flat line " ++ decimal l ++ codes " act " ++ act_word fault ++ codes " byte " ++ decimal (act_place fault))
load_fault_text (Flat texts.NoMemory) = []
load_fault_text (Xmi fault) = xmi_text fault
load_fault_text (Redef fault) = redefine_text fault
load_fault_text (Act id fault) = act_text id fault
load_fault_text (Shape class shape) = shape_text class shape
load_fault_text (Faults list) = flat_map fault_line list
load_fault_text NoMemory = []
