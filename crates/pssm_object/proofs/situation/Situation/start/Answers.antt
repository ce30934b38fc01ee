-- a start begins a plan
use Rattle.std.proofs.Common.{Some, refl}
use Rattle.pssm_object.specs.Standing.{Standing}
use Rattle.pssm_object.specs.inner.Situations.{standing_of}
use Rattle.pssm_object.proofs.Going.{begins}
use Rattle.pssm_object.proofs.situation.Situation.start.Goals as goal

pub returns-clause-ok : goal.returns-clause-ok
returns-clause-ok c =
    let made = c.in_ok-of_start.ensures in
    let old : Standing = standing_of c.args.self.now in
    let new : Standing = record {
      own = old.own;
      config = old.config;
      plan = Some c.in_ok-of_start.field-0;
      store = old.store;
      params = old.params;
      queue = old.queue;
      ended = old.ended;
      doers = old.doers;
    } in
    begins c.args.machine.now old new c.in_ok-of_start.field-0 refl refl refl refl refl refl refl refl made.head made.at_head made.none_ran made.plan
