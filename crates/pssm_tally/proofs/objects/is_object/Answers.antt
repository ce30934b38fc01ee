use Rattle.std.proofs.Common.{ap, map, ◌∙◌}
use Rattle.pssm_roles.specs.inner.Seen.{seen}
use Rattle.pssm_tally.proofs.ObjectLaws.{is_instance}
use Rattle.pssm_tally.proofs.objects.is_object.Goals as goal

pub returns : goal.returns
returns c =
    is_instance c.args.elements.now c.args.n (map seen c.deref.result.now) c.any_means_active.result c.requires.instance
    (ap (map seen) c.deref.ensures.value ∙ c.in_ok-found.ensures) c.any_means_active.ensures
