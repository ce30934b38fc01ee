-- The words that name what is wrong with a model.
use Rattle.std.specs.Prelude.{ℕ, List, [], codes}
use Rattle.pssm_model.specs.declared.elements.Shape.{Shape}
use Rattle.pssm_model.specs.declared.elements.Shape.TheVariants as shapes
use Rattle.pssm_acts.specs.declared.act_fault.ActFault.{ActFault}
use Rattle.pssm_acts.specs.declared.act_fault.ActFault.TheVariants as acts
use Rattle.pssm_profile.specs.declared.flaw.Unread.{Unread}
use Rattle.pssm_profile.specs.declared.flaw.Unread.TheVariants as unread

-- the name of a fault of a machine's shape
abbrev pub shape_word : Shape → List ℕ
shape_word (shapes.BadOwner e) = codes "BadOwner"
shape_word (shapes.BadEnd e) = codes "BadEnd"
shape_word (shapes.TooMany e) = codes "TooMany"
shape_word (shapes.TooDeep e) = codes "TooDeep"
shape_word shapes.NoMemory = []

-- the name of a fault of an action text
abbrev pub act_word : ActFault → List ℕ
act_word (acts.Syntax at) = codes "Syntax"
act_word (acts.UnknownName at) = codes "UnknownName"
act_word (acts.WideNumber at) = codes "WideNumber"
act_word (acts.Arity at) = codes "Arity"
act_word (acts.TooLong at) = codes "TooLong"
act_word acts.NoMemory = []

-- the byte of the action text at which it stands, from 0
abbrev pub act_place : ActFault → ℕ
act_place (acts.Syntax at) = at
act_place (acts.UnknownName at) = at
act_place (acts.WideNumber at) = at
act_place (acts.Arity at) = at
act_place (acts.TooLong at) = at
act_place acts.NoMemory = 0

-- the name of the reason why an element of a model file is not read
abbrev pub unread_word : Unread → List ℕ
unread_word unread.Root = codes "Root"
unread_word unread.Href = codes "Href"
unread_word unread.Submachine = codes "Submachine"
unread_word unread.Event = codes "Event"
unread_word unread.OtherType = codes "OtherType"
unread_word unread.Several = codes "Several"
unread_word unread.Language = codes "Language"
unread_word unread.DoubleName = codes "DoubleName"
unread_word unread.LongName = codes "LongName"
unread_word unread.Value = codes "Value"
unread_word unread.TooMany = codes "TooMany"
