-- before any entry nothing is active, the variables have their first values and the queue is empty
use Rattle.std.proofs.Common.{◌∙◌, List, ap, map}
use Rattle.pssm_semantics.specs.declared.setting.VarDecl.{VarDecl}
use Rattle.pssm_object.proofs.Views.{starts_so}
use Rattle.pssm_object.proofs.object.Object.new.Goals as goal

pub returns-clause-start : goal.returns-clause-start
returns-clause-start c =
    starts_so c.args.class.now c.args.own c.in_ok-config.config c.in_ok-store.store.items c.in_ok-params.params c.in_ok-queue.queue c.top_regions.result.now
    c.is_empty-ended.result c.doers_of.result c.in_ok-config.ensures.fits c.in_ok-config.ensures.nothing
    (c.in_ok-store.ensures ∙ ap (λ (vars : List VarDecl). map (λ x. x.first) vars) c.as_slice.ensures) c.in_ok-params.ensures c.in_ok-queue.ensures.empty
    c.in_ok-queue.ensures.room c.top_regions.ensures.items c.is_empty-ended.ensures c.doers_of.ensures
