use Rattle.pssm_acts.proofs.IndexLaws.{index_place}
use Rattle.pssm_acts.proofs.index.Index.place.Goals as goal

-- The index finds the name where it stands.
pub returns-in-Some-clause-gives : goal.returns-in-Some-clause-gives
returns-in-Some-clause-gives g c =
    index_place g.T.Named.name_of c.self.inside.keys c.in-Some.keys c.args.self.now c.args.items.now c.args.name.now c.get_index_of.result
    c.self.view_is c.in-Some.is c.requires c.get_index_of.ensures.index
