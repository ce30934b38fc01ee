use Rattle.std.proofs.Common.{◌∙◌, sym, subst, inr, List}
use Rattle.pssm_xml.specs.Documents.{Element}
use Rattle.pssm_xml.specs.TextFaults.{HasElements}
use Rattle.pssm_xml.specs.inner.Frames.{state_of}
use Rattle.pssm_xml.proofs.DocumentLaws.{end_within, whole_by_test, doctype_by_test, malformed_by_tests}
use Rattle.pssm_xml.proofs.document.finished.Goals as goal

pub split_at-requires : goal.split_at-requires
split_at-requires c = end_within c.args.bytes.now c.args.at (state_of c.args.progress) c.requires.end

pub returns-then-is_whole-clause-read : goal.returns-then-is_whole-clause-read
returns-then-is_whole-clause-read c =
    subst (λ (es : List Element). HasElements c.args.bytes.now es) (sym c.linked.ensures)
    (whole_by_test c.args.bytes.now c.split_at.result.1.now c.args.at (state_of c.args.progress) c.requires.utf8 c.requires.end c.split_at.ensures.back (sym c.is_whole.ensures ∙ c.if-is_whole.true))

pub returns-then-begins_doctype-clause-fault : goal.returns-then-begins_doctype-clause-fault
returns-then-begins_doctype-clause-fault c =
    inr (doctype_by_test c.args.bytes.now c.split_at.result.1.now c.args.at (state_of c.args.progress) c.requires.utf8 c.requires.end c.split_at.ensures.back
    (sym c.begins_doctype.ensures ∙ c.if-begins_doctype.true))

pub returns-clause-fault : goal.returns-clause-fault
returns-clause-fault c =
    inr (malformed_by_tests c.args.bytes.now c.split_at.result.1.now c.args.at (state_of c.args.progress) c.requires.utf8 c.requires.end c.split_at.ensures.back
    (sym c.is_whole.ensures ∙ c.if-is_whole.false) (sym c.begins_doctype.ensures ∙ c.if-begins_doctype.false))
