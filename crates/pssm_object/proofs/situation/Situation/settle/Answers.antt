-- the queue and the end go on as the item says
use Rattle.std.proofs.Common.{refl}
use Rattle.pssm_object.proofs.situation.Situation.settle.Goals as goal

pub returns-clause-settled : goal.returns-clause-settled
returns-clause-settled c =
    record {
      own = refl;
      fits = c.change.ensures.fits;
      changed = c.change.ensures.changed;
      store = refl;
      params = refl;
      room = c.settle_by.ensures.room;
      queue = c.settle_by.ensures.goes_on c.args.self.now.config c.args.how.now c.due_by-due.ensures.due;
      ended = c.ends_by-self.ensures;
      doers = refl;
    }
