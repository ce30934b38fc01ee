-- What it is to answer as is due, where memory may be wanting.
use Rattle.std.specs.Prelude.{◌≡◌, List, Result, Ok, Err, Vec}
use Rattle.std.specs.declared.alloc.Global.{Global}
use Rattle.pssm_acts.specs.declared.act_fault.ActFault.{ActFault}
use Rattle.pssm_acts.specs.declared.act_fault.ActFault.TheVariants.{NoMemory}
use Rattle.pssm_semantics.specs.declared.tree.Act.{Act}

-- The answer is the one that is due, or memory was wanting.
abbrev pub Answers : {A : Type 0} → Result A ActFault → Result A ActFault → Type 0
Answers due (Err NoMemory) = Unit {0}
Answers due (Err fault) = due ≡ Err fault
Answers due (Ok x) = due ≡ Ok x

-- The answer, with the marks that it leaves, is the one that is due; or memory was wanting.
abbrev pub AnswersWith : {A M : Type 0} → Result (A × M) ActFault → Result A ActFault → M → Type 0
AnswersWith due (Err NoMemory) left = Unit {0}
AnswersWith due (Err fault) left = due ≡ Err fault
AnswersWith due (Ok x) left = due ≡ Ok (x, left)

-- The fault is such a one, or memory was wanting.
abbrev pub Faults : (ActFault → Type 0) → ActFault → Type 0
Faults IsDue NoMemory = Unit {0}
Faults IsDue fault = IsDue fault

-- the steps of an answer, as a list
abbrev pub listed : Result (Vec Act Global) ActFault → Result (List Act) ActFault
listed (Ok steps) = Ok steps.items
listed (Err fault) = Err fault
