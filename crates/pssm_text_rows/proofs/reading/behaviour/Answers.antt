use Rattle.std.proofs.Common.{◌≤◌, All, subst}
use Rattle.pssm_acts.proofs.SendLaws.{named_runs}
use Rattle.pssm_text_rows.proofs.reading.behaviour.Goals as goal

pub returns-in-Ok : goal.returns-in-Ok
returns-in-Ok c =
    let few = subst (λ signals. All (λ d. d.count ≤ 8) signals) c.as_slice-else-not-are_few.ensures (c.if-not-are_signals.ensures cc) in
    named_runs c.args.names.now c.read_act.new.marks.items few c.in-Ok.act c.in-Ok.ensures.fits
