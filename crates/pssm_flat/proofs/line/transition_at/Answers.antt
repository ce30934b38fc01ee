use Rattle.std.proofs.Common.{sym}
use Rattle.pssm_flat.proofs.LineSteps.{transition_steps}
use Rattle.pssm_flat.proofs.line.transition_at.Goals as goal

pub returns : goal.returns
returns c =
    sym (transition_steps c.args.bytes.now c.in_ok-digits.digits.now c.in_ok-number.rest.now c.in_ok-source.rest.now c.in_ok-target.rest.now c.in_ok-word.word.now
    c.in_ok-number.number c.in_ok-source.source c.in_ok-target.target c.in_ok-kind.kind
    (sym c.in_ok-digits.ensures) (sym c.in_ok-number.ensures) (sym c.in_ok-source.ensures) (sym c.in_ok-target.ensures) (sym c.in_ok-word.ensures) (sym c.in_ok-kind.ensures))
