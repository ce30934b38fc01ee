use Rattle.std.proofs.Common.{sym}
use Rattle.pssm_journal.specs.Briefs.{brief_entry}
use Rattle.pssm_journal.proofs.EntryLaws.{keeps_by_class, keeps_by_none}
use Rattle.pssm_journal.proofs.BriefLaws.{object_of_act}
use Rattle.pssm_journal.proofs.brief.keeps_names.Goals as goal

pub returns-in-Some : goal.returns-in-Some
returns-in-Some c =
    keeps_by_class c.args.setting.now (brief_entry c.args.entry) c.args.entry.object c.in-Some.class.now c.is_known.result (sym (object_of_act c.args.entry.object c.args.entry.act)) c.in-Some.ensures (c.is_known.ensures c.args.entry.object)

pub returns-in-None : goal.returns-in-None
returns-in-None c = keeps_by_none c.args.setting.now (brief_entry c.args.entry) c.args.entry.object (sym (object_of_act c.args.entry.object c.args.entry.act)) c.in-None.ensures
