-- The top regions are those that the machine lists.
use Rattle.pssm_object.proofs.ending.tops_are_final.Goals as goal

pub returns : goal.returns
returns c = (
  λ yes r top. c.are_final.ensures.0 yes r ((c.top_regions.ensures.items r).1 top),
  λ all. c.are_final.ensures.1 (λ r inside. all r ((c.top_regions.ensures.items r).0 inside)),
)
