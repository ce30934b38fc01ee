-- the sources of the route are those of its starts
use Rattle.std.proofs.Common.{Contains, sym, subst}
use Rattle.pssm_enabled.proofs.Members.{all_of_members}
use Rattle.pssm_enabled.proofs.StartLaws.{start_there}
use Rattle.pssm_routes.proofs.set.starts_among.Goals as goal

pub leave_among-requires : goal.leave_among-requires
leave_among-requires c = record {
  there = all_of_members _ c.as_slice.result.now (λ t inside.
      start_there c.args.machine.now c.args.route.now t c.requires.route.0 (subst (λ ts. Contains ts t) c.as_slice.ensures inside));
}

pub returns : goal.returns
returns c = (
  λ h s source. c.leave_among.ensures.0 h source.0 s (subst (λ ts. Contains ts source.0) (sym c.as_slice.ensures) source.1) source.2,
  λ all. c.leave_among.ensures.1 (λ t s inside leaves. all s (t, subst (λ ts. Contains ts t) c.as_slice.ensures inside, leaves)),
)
