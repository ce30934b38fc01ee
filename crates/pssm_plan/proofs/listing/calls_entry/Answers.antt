-- an entry that the way calls is near an end of it
use Rattle.std.proofs.Common.{◌≡◌, true}
use Rattle.pssm_plan.proofs.NearItems.{enters_near}
use Rattle.pssm_plan.proofs.listing.calls_entry.Goals as goal

pub returns-else-comes_near : goal.returns-else-comes_near
returns-else-comes_near c =
    let near = enters_near c.args.way.now c.requires.way c.args.s in (
      λ t. absurd (let yes = t in let no = c.if-comes_near.false in cc),
      λ h. absurd (let yes : c.comes_near.result ≡ true = c.comes_near.ensures.1 (near h) in let no = c.if-comes_near.false in cc),
    )
