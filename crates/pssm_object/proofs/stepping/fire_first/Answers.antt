-- the routes fire in a new plan
use Rattle.std.proofs.Common.{refl}
use Rattle.pssm_object.proofs.stepping.fire_first.Goals as goal

pub returns-clause-ok : goal.returns-clause-ok
returns-clause-ok c =
    let made = c.in_ok-of_firing.ensures in (
      record {
        now = c.in_ok-of_firing.field-0;
        now_is = refl;
        head_is = made.head;
        ran = made.none_ran;
        is_plan = made.plan;
      },
      made.at_head,
    )
