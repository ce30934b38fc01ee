use Rattle.pssm_xmi.proofs.FaultlessLaws.{faultless}
use Rattle.pssm_xmi.proofs.reading.faultless.Goals as goal

pub returns : goal.returns
returns c =
    let file = c.args.file.now in let text = c.requires.text.text in
    faultless c.one_role.ensures file c.requires.text.roles c.requires.second
    (c.ordered_document.ensures text.pieces file.doc text.document) c.requires.first
