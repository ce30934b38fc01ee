-- a transition that ends on no junction or exit point leads out where it is open
use Rattle.pssm_enabled.proofs.ListPlaces.{refuted}
use Rattle.pssm_routes.proofs.Looks.{open_leads, open_alone}
use Rattle.pssm_routes.proofs.looking.look.Goals as goal

pub returns : goal.returns
returns g c values tells = (
  λ e. open_alone c.args.start (λ inside. refuted c.ends_inside.result c.if-ends_inside.false c.ends_inside.ensures inside)
      ((c.is_open.ensures values tells).0 e),
  λ leads. (c.is_open.ensures values tells).1 (open_leads c.args.start leads),
)
