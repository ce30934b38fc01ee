use Rattle.std.proofs.Common.{◌<◌, Contains, subst}
use Rattle.pssm_wellformed.proofs.marks.marks_of.Goals as goal

pub walk_from-requires-clause-there : goal.walk_from-requires-clause-there
walk_from-requires-clause-there c b h =
    subst (λ n. b < n) c.requires.width ((c.in_ok-tails.ensures b).0 (subst (λ xs. Contains xs b) c.as_slice.ensures.value h)).0
