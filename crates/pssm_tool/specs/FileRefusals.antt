-- The lines that say what is wrong with a model file.
use Rattle.std.specs.Prelude.{ℕ, List, [], ◌++◌, codes}
use Rattle.std.specs.Fmt.{decimal}
use Rattle.pssm_model.specs.declared.elements.Shape.{Shape}
use Rattle.pssm_acts.specs.declared.act_fault.ActFault.{ActFault}
use Rattle.pssm_heritage.specs.declared.fault.RedefFault.{RedefFault}
use Rattle.pssm_heritage.specs.declared.fault.RedefFault.TheVariants as redefinitions
use Rattle.pssm_profile.specs.declared.fault.XmiFault.{XmiFault}
use Rattle.pssm_profile.specs.declared.fault.XmiFault.TheVariants as files
use Rattle.pssm_flat.specs.Text.{line}
use Rattle.pssm_tool.specs.FaultWords.{shape_word, act_word, act_place, unread_word}

-- `xmi byte B X`, with the byte of the file, from 0
abbrev pub xmi_line : ℕ → List ℕ → List ℕ
xmi_line at word = line (codes "xmi byte " ++ decimal at ++ codes " " ++ word)

-- `xmi byte B X`, with the name of the fault; `xmi byte B Unsupported K`, with the reason why it is not read; `xmi byte B Missing R`, with what the element
-- lacks. Want of memory has no line.
abbrev pub xmi_text : XmiFault → List ℕ
xmi_text (files.Malformed at) = xmi_line at (codes "Malformed")
xmi_text (files.NotUtf8 at) = xmi_line at (codes "NotUtf8")
xmi_text (files.Doctype at) = xmi_line at (codes "Doctype")
xmi_text (files.DoubleId at) = xmi_line at (codes "DoubleId")
xmi_text (files.UnknownRef at) = xmi_line at (codes "UnknownRef")
xmi_text (files.Unsupported at kind) = xmi_line at (codes "Unsupported " ++ unread_word kind)
xmi_text (files.Missing at role) = xmi_line at (codes "Missing " ++ role)
xmi_text (files.TooDeep at) = xmi_line at (codes "TooDeep")
xmi_text files.NoMemory = []

-- `redefine F ID`
abbrev pub redefine_line : List ℕ → List ℕ → List ℕ
redefine_line word id = line (codes "redefine " ++ word ++ codes " " ++ id)

-- `redefine F ID`, with the name of the fault and the id of the machine or the element; want of memory has no line
abbrev pub redefine_text : RedefFault → List ℕ
redefine_text (redefinitions.Leaf id) = redefine_line (codes "Leaf") id
redefine_text (redefinitions.Cycle id) = redefine_line (codes "Cycle") id
redefine_text (redefinitions.Twice id) = redefine_line (codes "Twice") id
redefine_text (redefinitions.NotInherited id) = redefine_line (codes "NotInherited") id
redefine_text (redefinitions.ChangedSource id) = redefine_line (codes "ChangedSource") id
redefine_text (redefinitions.ChangedTriggers id) = redefine_line (codes "ChangedTriggers") id
redefine_text redefinitions.NoMemory = []

-- `act ID F byte B`, with the id of the behaviour or guard
abbrev pub act_text : List ℕ → ActFault → List ℕ
act_text id fault = line (codes "act " ++ id ++ codes " " ++ act_word fault ++ codes " byte " ++ decimal (act_place fault))

-- `shape CLASS S`, with the name of the class
abbrev pub shape_text : List ℕ → Shape → List ℕ
shape_text class shape = line (codes "shape " ++ class ++ codes " " ++ shape_word shape)
