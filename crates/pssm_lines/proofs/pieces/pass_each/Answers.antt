use Rattle.std.proofs.Common.{sym, ap, ◌∙◌, arith}
use Rattle.std.specs.Option.{option_map}
use Rattle.pssm_lines.proofs.Readers.{turn_end, turn_full, turn_none, turn_rest}
use Rattle.pssm_lines.proofs.pieces.pass_each.Goals as goal

pub returns-then-left-eq0 : goal.returns-then-left-eq0
returns-then-left-eq0 g c =
    let full = turn_full c.args.before g.T.Passed.taken c.loop-after.left c.loop-after.rest.now c.in-Some.after.now (sym c.in-Some.ensures) c.if-left-eq0.true in
    ap (λ o. option_map (λ x. x.1) o) (sym full) ∙ c.loop-after.invariant

pub returns : goal.returns
returns g c =
    let end = turn_end c.args.before g.T.Passed.taken c.loop-after.left c.loop-after.rest.now (sym c.in_default.ensures) in
    ap (λ o. option_map (λ x. x.1) o) (sym end) ∙ c.loop-after.invariant

pub returns-in_default-pass : goal.returns-in_default-pass
returns-in_default-pass g c =
    sym (turn_none c.args.before g.T.Passed.taken c.loop-after.left c.loop-after.rest.now c.in-Some.after.now (sym c.in-Some.ensures) (omega arith) (sym c.in_default-pass.ensures))
    ∙ c.loop-after.invariant

pub loop-after-preserved : goal.loop-after-preserved
loop-after-preserved g c =
    sym (turn_rest c.args.before g.T.Passed.taken c.loop-after.left c.loop-after.rest.now c.in-Some.after.now c.in-Some-pass.more.now (sym c.in-Some.ensures) (omega arith) (sym c.in-Some-pass.ensures))
    ∙ c.loop-after.invariant
