use Rattle.std.proofs.Common.{sym, subst, ◌↔◌, IsTrue}
use Rattle.pssm_profile.specs.declared.flaw.Unread.{Unread}
use Rattle.pssm_profile.specs.Flaws.{IsUnread}
use Rattle.pssm_flaws.proofs.first.is_unread.Goals as goal

pub returns-in-TooMany : goal.returns-in-TooMany
returns-in-TooMany c =
    subst (λ (why : Unread). IsTrue c.args.counted.many ↔ IsUnread c.args.elements.now c.args.n c.args.role why) (sym c.in-TooMany.is) c.requires.counted.many
