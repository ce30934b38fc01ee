use Rattle.std.proofs.Common.{◌∙◌, sym}
use Rattle.pssm_breaches.proofs.TableLaws.{one_more}
use Rattle.pssm_breaches.proofs.walk.note.Goals as goal

pub returns-in-Some : goal.returns-in-Some
returns-in-Some c =
    one_more c.args._draft.now c.args._m c.args.kind c.args.heritage.now c.requires.lineage c.args.e c.requires.within c.in-Some.number
    (sym c.number_of.ensures ∙ c.in-Some.is) c.args.latest.now.items c.requires.table
