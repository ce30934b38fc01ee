-- The outputs of a line of any kind.
use Rattle.std.specs.Prelude.{List, []}
use Rattle.std.specs.List.{AllByRecursion}
use Rattle.pssm_semantics.specs.declared.line.Line.{Line}
use Rattle.pssm_semantics.specs.declared.line.Line.TheVariants.{Exit, Effect, Enter, DoStep}
use Rattle.pssm_semantics.specs.declared.line.LineOut.{LineOut}
use Rattle.pssm_lines.specs.Grammar.{IsSpelledOut}

-- the outputs, none of a line of a kind that has none
abbrev pub outs_of_line : Line → List LineOut
outs_of_line (Exit object state outs) = outs
outs_of_line (Effect object transition outs) = outs
outs_of_line (Enter object state outs) = outs
outs_of_line (DoStep object state step outs) = outs
outs_of_line _ = []

-- The outputs are spelled as outputs are.
abbrev pub HasSpelledOuts : Line → Type 0
HasSpelledOuts l = AllByRecursion IsSpelledOut (outs_of_line l)

-- The line is of a kind that has no outputs.
abbrev pub HasNoOuts : Line → Type 0
HasNoOuts (Exit object state outs) = ⊥
HasNoOuts (Effect object transition outs) = ⊥
HasNoOuts (Enter object state outs) = ⊥
HasNoOuts (DoStep object state step outs) = ⊥
HasNoOuts _ = Unit {0}
