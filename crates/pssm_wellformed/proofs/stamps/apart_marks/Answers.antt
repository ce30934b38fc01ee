-- the mark of one vertex after the other is put behind
use Rattle.std.proofs.Common.{◌+◌, sym, subst}
use Rattle.pssm_wellformed.specs.inner.Apart.{AreApartMarks}
use Rattle.pssm_wellformed.proofs.Stamping.{marks_pushed}
use Rattle.pssm_wellformed.proofs.stamps.apart_marks.Goals as goal

pub loop-number-preserved : goal.loop-number-preserved
loop-number-preserved c =
    let m = c.args.machine.now in
    let n = c.loop-number.number in (
      subst (AreApartMarks m c.args.near c.args.far (n + 1)) (sym c.in_ok-push.ensures.items)
          (marks_pushed m c.args.near c.args.far n c.lie_apart_around-apart.result c.loop-number.marks.items c.lie_apart_around-apart.ensures.apart c.loop-number.invariant.0),
      c.lie_apart_around-apart.ensures.stamps,
    )
