use Rattle.std.proofs.Common.{◌≡◌, arith, subst, length}
use Rattle.std.proofs.lemmas.List.{get_or_default}
use Rattle.pssm_model.specs.inner.Tables.{IsInnermost}
use Rattle.pssm_model.proofs.Nesting.{level_at}
use Rattle.pssm_model.proofs.Scopes.{innermost_more, no_scope, innermost_is_scope}
use Rattle.pssm_model.proofs.forest.Forest.scope.Goals as goal

pub returns-in-None-clause-none : goal.returns-in-None-clause-none
returns-in-None-clause-none c =
    no_scope _ _ c.loop-v.v-index _ c.loop-v.common c.home.result c.loop-v-test.true (get_or_default c.args.list.now c.loop-v.v-index _ _ c.loop-v-test.true)
    c.loop-v.invariant.0 c.home.ensures.home c.in-None.ensures.none

pub loop-v-preserved : goal.loop-v-preserved
loop-v-preserved c = (
  innermost_more _ _ c.loop-v.v-index _ c.loop-v.common c.home.result c.in-Some.meet c.loop-v-test.true
      (get_or_default c.args.list.now c.loop-v.v-index _ _ c.loop-v-test.true)
      c.loop-v.invariant.0 c.home.ensures.home c.in-Some.ensures.meet,
  c.in-Some.ensures.inside,
)

pub returns-clause-scope : goal.returns-clause-scope
returns-clause-scope c =
    let all : c.loop-v.v-index ≡ length c.args.list.now = omega arith in
    innermost_is_scope _ _ _ _ c.requires.some
    (level_at _ c.requires.tables c.loop-v.common c.loop-v.invariant.1)
    (subst (λ count. IsInnermost c.args.draft.now c.args.list.now count c.loop-v.common) all c.loop-v.invariant.0)
