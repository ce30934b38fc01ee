use Rattle.pssm_totals.proofs.CircleLaws.{done_all}
use Rattle.pssm_totals.proofs.totals.visit.Goals as goal

pub returns-clause-done : goal.returns-clause-done
returns-clause-done c = done_all c.in_ok-way.ensures.start c.note_totals.ensures.kept c.note_totals.ensures.done
