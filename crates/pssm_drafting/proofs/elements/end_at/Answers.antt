use Rattle.pssm_drafting.proofs.OwnLaws.{end_there}
use Rattle.pssm_drafting.proofs.elements.end_at.Goals as goal

pub returns-in-Some : goal.returns-in-Some
returns-in-Some c =
    end_there c.args.name.now c.args.file.now c.args.numbering.now c.args.n c.in-Some.vertex c.in_ok-vertex.field-0 c.ref_of.result
    c.in_ok-vertex.ensures.means c.in-Some.is c.requires.same c.ref_of.ensures
