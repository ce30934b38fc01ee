use Rattle.pssm_journal.proofs.EntryLaws.{keeps_by_class, keeps_by_none}
use Rattle.pssm_journal.proofs.known.keeps_names.Goals as goal

pub returns-in-Some : goal.returns-in-Some
returns-in-Some c = keeps_by_class c.args.setting.now c.args.entry.now c.object_of.result c.in-Some.class.now c.are_names_known.result c.object_of.ensures c.in-Some.ensures c.are_names_known.ensures

pub returns-in-None : goal.returns-in-None
returns-in-None c = keeps_by_none c.args.setting.now c.args.entry.now c.object_of.result c.object_of.ensures c.in-None.ensures
