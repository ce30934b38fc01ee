use Rattle.pssm_drafting.proofs.ListLaws.{class_fits}
use Rattle.pssm_drafting.proofs.objects.object_with.Goals as goal

pub overflow_cast-result : goal.overflow_cast-result
overflow_cast-result c = class_fits c.args.file.now c.args.numbering.now c.args.class c.class_place.result c.requires.same c.requires.few c.class_place.ensures
