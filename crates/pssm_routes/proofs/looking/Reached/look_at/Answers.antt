-- the transition is not open, or leads out, or comes to a vertex
use Rattle.pssm_enabled.specs.Ways.LeadsOut.{ends}
use Rattle.pssm_enabled.proofs.ListPlaces.{refuted}
use Rattle.pssm_routes.proofs.Looks.{looks_shut, looks_to, there_more}
use Rattle.pssm_routes.proofs.looking.Reached.look_at.Goals as goal

pub returns-then-not-is_open-clause-sight : goal.returns-then-not-is_open-clause-sight
returns-then-not-is_open-clause-sight g c = λ values tells.
    looks_shut c.args.t c.args.self.now (λ opened. refuted c.is_open.result c.if-not-is_open.true (c.is_open.ensures values tells) opened)

pub returns-then-not-is_passed_over-clause-sight : goal.returns-then-not-is_passed_over-clause-sight
returns-then-not-is_passed_over-clause-sight g c = λ values tells.
    ends ((c.is_open.ensures values tells).0 c.if-not-is_open.false) c.target-v.ensures.enters
    (λ passed. refuted c.is_passed_over.result c.if-not-is_passed_over.true c.is_passed_over.ensures passed)

pub returns-then-come_to-clause-sight : goal.returns-then-come_to-clause-sight
returns-then-come_to-clause-sight g c = λ values tells.
    looks_to c.args.t c.target-v.result c.args.self.now c.come_to.new.self ((c.is_open.ensures values tells).0 c.if-not-is_open.false)
    c.target-v.ensures.enters (c.is_passed_over.ensures.0 c.if-not-is_passed_over.false) (c.come_to.ensures.come c.if-come_to.true)

pub returns-then-come_to-clause-room : goal.returns-then-come_to-clause-room
returns-then-come_to-clause-room g c =
    there_more c.args.machine.now c.args.self.now c.come_to.new.self c.target-v.result c.requires.room c.target-v.ensures.there c.come_to.ensures.room
    (c.come_to.ensures.come c.if-come_to.true)
