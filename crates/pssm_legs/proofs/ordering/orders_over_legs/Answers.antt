-- nothing comes behind what is called at an end
use Rattle.std.proofs.Common.{◌≡◌, true}
use Rattle.pssm_legs.proofs.OneCalls.{only_starts}
use Rattle.pssm_legs.proofs.ordering.orders_over_legs.Goals as goal

pub returns-else-comes_before_later : goal.returns-else-comes_before_later
returns-else-comes_before_later c = λ p are. (
  λ t. absurd (let no = c.if-comes_before_later.false in cc (no, t)),
  λ h. absurd (let yes : c.comes_before_later.result ≡ true = c.comes_before_later.ensures.1
      (only_starts c.regions-shaped.ensures.shaped c.requires.rules p c.args.legs.now are c.args.fires c.args.first c.args.second h) in
      let no = c.if-comes_before_later.false in cc (yes, no)),
)
