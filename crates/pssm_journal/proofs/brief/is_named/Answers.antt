use Rattle.std.proofs.lemmas.Bool.Decides.{Decides-eqb}
use Rattle.std.proofs.lemmas.Slice.Eq.{slice_eq-Decides}
use Rattle.pssm_journal.proofs.brief.is_named.Goals as goal

pub returns : goal.returns
returns c = slice_eq-Decides Decides-eqb c.args.own.now c.args.name.now c.eq.result c.eq.ensures
