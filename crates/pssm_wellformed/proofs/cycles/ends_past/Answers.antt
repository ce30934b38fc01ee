-- each group begins no later than the last
use Rattle.std.proofs.Common.{sym, subst, arith}
use Rattle.std.specs.List.{AllPairs}
use Rattle.std.specs.Prelude.{Contains}
use Rattle.std.proofs.lemmas.Bool.{ltb-false}
use Rattle.pssm_wellformed.specs.inner.Cycles.{IsEarlierGroup}
use Rattle.pssm_wellformed.proofs.Groups.{last_got, up_to_last}
use Rattle.pssm_wellformed.proofs.cycles.ends_past.Goals as goal

pub returns-in-Some-clause-upto : goal.returns-in-Some-clause-upto
returns-in-Some-clause-upto c off x there =
    let last = last_got c.args.groups.now c.in-Some.group.now (sym c.in-Some.ensures.value) in
    let earlier = up_to_last last.0 c.in-Some.group.now x (subst (AllPairs IsEarlierGroup) last.1 c.requires.ascending) (subst (λ xs. Contains xs x) last.1 there) in
    let le = earlier.0 in
    let low = ltb-false c.args.place c.in-Some.group.now.first off in
    omega arith
