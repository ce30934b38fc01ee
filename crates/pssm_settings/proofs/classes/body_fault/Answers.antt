use Rattle.std.proofs.Common.{inr}
use Rattle.pssm_settings.proofs.ClassLaws.{body_so}
use Rattle.pssm_settings.proofs.classes.body_fault.Goals as goal

pub returns-in-Ok : goal.returns-in-Ok
returns-in-Ok c =
    inr (body_so c.args.draft.now c.args.number c.args.flat.now c.args.place c.args.fault c.as_slice.result.now c.index-as_slice-place.result c.in-Ok.id
    c.requires.flattened c.requires.fault c.as_slice.ensures (c.in-Ok.ensures {u = tt}))
