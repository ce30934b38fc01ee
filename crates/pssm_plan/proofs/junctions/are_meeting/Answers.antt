use Rattle.pssm_plan.proofs.junctions.are_meeting.Goals as goal

pub returns-then-leaves : goal.returns-then-leaves
returns-then-leaves c = λ ok. (c.target-v.result, c.has_kind.ensures.0 ok, c.target-v.ensures.enters, c.leaves.ensures c.if-leaves.true)
