use Rattle.std.proofs.Common.{subst}
use Rattle.std.proofs.lemmas.Result.{IfOk-weaker}
use Rattle.pssm_tally.specs.Tallies.{CountsTo, HasKind, kind_meant}
use Rattle.pssm_tally.specs.inner.Steps.{IsWithName}
use Rattle.pssm_tally.proofs.TallyLaws.{counts_other, counts_on}
use Rattle.pssm_tally.proofs.tally.Tally.with_element.Goals as goal

pub returns-in-None : goal.returns-in-None
returns-in-None c =
    counts_other c.args.elements.now c.args.n c.args.self (subst (HasKind c.args.elements.now c.args.n) c.in-None.is c.requires.kind) c.requires.tally

pub returns-in_ok-name-in-Some : goal.returns-in_ok-name-in-Some
returns-in_ok-name-in-Some c =
    let doc = c.args.elements.now in let n = c.args.n in let kind = c.in-Some.kind in
    let own = subst (HasKind doc n) c.in-Some.is c.requires.kind in
    IfOk-weaker c.with_name.result (IsWithName c.args.self kind _) (CountsTo doc _)
    (λ more with_name.
    counts_on doc n c.args.self more kind _ (λ j has. c.one_kind.ensures doc n (kind_meant kind) j own has) own c.in_ok-name-in-Some.ensures c.requires.tally with_name)
    c.with_name.ensures
