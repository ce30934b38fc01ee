-- at the end of the search the marks are right
use Rattle.std.proofs.Common.{◌<◌, ◌+◌, length, arith}
use Rattle.std.proofs.lemmas.Bool.{false≢true}
use Rattle.pssm_wellformed.proofs.Searching.{search_ends}
use Rattle.pssm_wellformed.proofs.cycles.cyclic_numbers.Goals as goal

pub returns-clause-marks : goal.returns-clause-marks
returns-clause-marks c =
    let s = c.loop-search.search in
    let over : 0 < length s.ahead.items + length s.groups.items → ⊥ = λ more. false≢true (c.loop-search-test.ensures.1 more) in
    search_ends c.args.onward.now s.stages.items s.opened.items s.groups.items s.ahead.items s.cyclic.items c.loop-search.invariant (omega arith) (omega arith)
