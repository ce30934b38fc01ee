use Rattle.std.proofs.Common.{◌↔◌, sym, subst}
use Rattle.std.specs.Prelude.{IsTrue}
use Rattle.pssm_semantics.specs.Known.{NamesKnown}
use Rattle.pssm_journal.specs.declared.brief.EntryAct.{EntryAct}
use Rattle.pssm_journal.specs.Briefs.{entry_of_act}
use Rattle.pssm_journal.proofs.BriefLaws.{start_known}
use Rattle.pssm_journal.proofs.brief.is_known.Goals as goal

-- a take by one start
pub returns-in-Take : goal.returns-in-Take
returns-in-Take c = λ own.
    subst (λ (act : EntryAct). IsTrue c.is_transition_of.result ↔ NamesKnown c.args.setting.now c.args.class.now (entry_of_act own act)) (sym c.in-Take.is)
    (start_known c.args.class.now.machine c.in-Take.start c.is_transition_of.result c.is_transition_of.ensures)
