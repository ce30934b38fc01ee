use Rattle.std.proofs.Common.{IsTrue, subst}
use Rattle.pssm_plan.specs.inner.ByWays.{calls_by}
use Rattle.pssm_plan.specs.inner.Marks.{IsListed}
use Rattle.pssm_plan.proofs.DirectWays.{direct_may}
use Rattle.pssm_plan.proofs.QuietRegions.{exit_placed}
use Rattle.pssm_plan.proofs.MetItems.{exit_or_other}
use Rattle.pssm_plan.proofs.meeting.meets_quietly.Goals as goal

pub returns-else-exit_listed : goal.returns-else-exit_listed
returns-else-exit_listed c = λ h.
    let m = c.args.machine.now in
    let way = c.args.way.now in
    let shape = c.regions-shaped.ensures.shaped in
    let may = direct_may shape c.requires.rules way c.requires.way c.args.r c.requires.direct h.0 h.2 in
    exit_or_other h.0 (IsTrue c.other_listed.result)
    (λ s e.
    let listed = subst (IsListed c.args.calls.now.items) e h.1 in
    let active = c.requires.active s listed in
    let placed = exit_placed shape c.args.r c.requires.quiet c.requires.rules way c.requires.way c.requires.direct c.args.config.now c.requires.fits
    s active (subst (calls_by m way) e h.2) in
    let met = c.exit_listed.ensures m s c.requires.fits placed active listed in
    let no = c.if-exit_listed.false in absurd (cc (met, no)))
    (λ other. c.other_listed.ensures h.0 h.1 other may)
