use Rattle.std.proofs.Common.{◌<◌, length, sym, subst, arith}
use Rattle.pssm_limits.specs.inner.Variables.{AreNames, name_of, belongs}
use Rattle.pssm_limits.proofs.ListLaws.{taken_read}
use Rattle.pssm_limits.proofs.names.names_of.Goals as goal

pub loop-n-preserved : goal.loop-n-preserved
loop-n-preserved c =
    let test = c.loop-n-test.true in
    let lt : c.loop-n.n-index < length c.as_slice-n-items.result.now = grind (arith, test) in (
      subst
          (λ seen. AreNames (name_of c.args.file.now) (belongs c.args.file.now c.args.marks.now c.args.c) seen c.in_ok-found.found.items)
          (sym (taken_read c.as_slice-n-items.result.now c.args.classes.now.variables.items c.as_slice-n-items.ensures.value c.loop-n.n-index _ lt))
          (c.in_ok-found.ensures.names _ c.loop-n.invariant.0),
      c.in_ok-found.ensures.within,
    )
