use Rattle.pssm_limits.proofs.ClassLaws.{held_read}
use Rattle.pssm_limits.proofs.classes.Classes.machine_held.Goals as goal

pub returns : goal.returns
returns c =
    held_read c.args.numbering.now c.args.file.now c.requires.same c.args.self.now.machines.items c.requires.machines.machines c.args.p c.class_place.result
    c.index.result.now c.requires.within c.requires.class c.class_place.ensures c.index.ensures
