-- exactly the vertices from which a way leads on are marked
use Rattle.pssm_enabled.proofs.tracing.transitions_from.Goals as goal

pub returns : goal.returns
returns g c values tells on = c.go_on_all.ensures values tells (c.of-points.ensures values tells) on
