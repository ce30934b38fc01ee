use Rattle.pssm_lines.proofs.BriefLengths.{standing_journal, standing_text}
use Rattle.pssm_lines.proofs.brief.brief_at.Goals as goal

pub returns-clause-journal : goal.returns-clause-journal
returns-clause-journal c = standing_journal c.args.bytes.now c.form_at.result c.form_at.ensures

pub returns-clause-text : goal.returns-clause-text
returns-clause-text c = standing_text c.args.bytes.now c.form_at.result c.form_at.ensures
