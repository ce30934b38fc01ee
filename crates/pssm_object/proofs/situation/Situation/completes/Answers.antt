-- the completion has no parameters
use Rattle.std.proofs.Common.{◌∙◌}
use Rattle.pssm_object.specs.inner.Situations.{standing_of}
use Rattle.pssm_object.proofs.Going.{completes_by}
use Rattle.pssm_object.proofs.situation.Situation.completes.Goals as goal

pub returns : goal.returns
returns c =
    completes_by c.args.class.now (standing_of c.args.self.now) c.args.state c.args.firing.now.routes c.as_slice-store.result.now c.from_vec-none.result
    c.fires.result c.as_slice-store.ensures.value (c.from_vec-none.ensures ∙ c.new.ensures.items) c.fires.ensures
