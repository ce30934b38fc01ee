-- a take begins a plan, and brings the parameters
use Rattle.std.proofs.Common.{IsSomeAnd, refl}
use Rattle.std.specs.Option.{option_copied}
use Rattle.pssm_semantics.specs.Values.{eight_of}
use Rattle.pssm_object.specs.Standing.{Standing}
use Rattle.pssm_object.specs.inner.Situations.{standing_of}
use Rattle.pssm_object.specs.inner.Advancing.{FiresOn}
use Rattle.pssm_object.proofs.situation.Situation.take.Goals as goal

pub returns-clause-ok : goal.returns-clause-ok
returns-clause-ok c =
    let fired = c.in_ok-fire.ensures.ok in
    let old : Standing = standing_of c.args.self.now in
    let new : Standing = record {
      own = old.own;
      config = old.config;
      plan = c.fire.new.plan;
      store = old.store;
      params = c.renew_params.new.params;
      queue = old.queue;
      ended = old.ended;
      doers = old.doers;
    } in
    let fires : IsSomeAnd (option_copied c.args.signal) (λ w. FiresOn c.args.machine.now old c.args.firing.now.routes (eight_of w.args) new) =
    rw c.in-Some.is
    (record { own = refl; plan = fired.0; at_head = fired.1; config = refl; store = refl; params_is = c.renew_params.ensures; ended = refl; doers = refl }) in
    record { fires = fires; queue = refl }
