use Rattle.pssm_routes.proofs.Listing.{FirstAreListed}
use Rattle.pssm_routes.proofs.set.are_listed.Given as goal

-- the routes so far are in order
abbrev pub invariant-loop-i : goal.invariant-loop-i
invariant-loop-i l = FirstAreListed l.routes l.i
