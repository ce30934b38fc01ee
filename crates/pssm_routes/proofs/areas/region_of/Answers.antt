-- the vertices that are met are all of the route
use Rattle.std.proofs.Common.{◌<◌, [], length, Contains, sym, subst, inl, inr}
use Rattle.pssm_model.specs.Forest.{IsScope}
use Rattle.pssm_model.proofs.ElementLaws.{nothing_in_nil}
use Rattle.pssm_routes.specs.inner.Spans.{IsMetBy, AreAllNear}
use Rattle.pssm_enabled.proofs.Members.{all_of_members}
use Rattle.pssm_routes.proofs.Spans.{met_is_end, all_near, one_start_alone}
use Rattle.pssm_enabled.proofs.StartLaws.{start_there, further_there}
use Rattle.pssm_routes.proofs.areas.region_of.Goals as goal

pub region_of_all-requires-clause-first : goal.region_of_all-requires-clause-first
region_of_all-requires-clause-first c = start_there c.args.machine.now c.args.route.now c.args.start c.requires.route.0 c.requires.start

pub region_of_all-requires-clause-rest : goal.region_of_all-requires-clause-rest
region_of_all-requires-clause-rest c =
    all_of_members _ c.as_slice-rest.result.now (λ t inside.
    further_there c.args.machine.now c.args.route.now t c.requires.route.0 (subst (λ ts. Contains ts t) c.as_slice-rest.ensures inside))

pub region_of_all-requires-clause-near : goal.region_of_all-requires-clause-near
region_of_all-requires-clause-near c =
    let p = c.args.route.now in
    let t = c.args.start in
    let few : length p.starts < 2 = subst (λ ts. length ts < 2) c.as_slice-starts.ensures c.if-starts-lt2.true in
    subst (AreAllNear c.args.machine.now t []) (sym c.as_slice-rest.ensures)
    (all_near c.regions-shaped.ensures.shaped c.requires.rules p c.requires.route t c.requires.start []
    (λ u first. inl (one_start_alone p.starts t few c.requires.start u first)) (λ u none. absurd (nothing_in_nil u none)))

pub returns-then-starts-lt2-clause-area : goal.returns-then-starts-lt2-clause-area
returns-then-starts-lt2-clause-area c =
    let p = c.args.route.now in
    let t = c.args.start in
    let few : length p.starts < 2 = subst (λ ts. length ts < 2) c.as_slice-starts.ensures c.if-starts-lt2.true in (
      c.requires.external,
      met_is_end c.regions-shaped.ensures.shaped c.requires.rules p c.requires.route t c.requires.start []
          (λ u first. inl (one_start_alone p.starts t few c.requires.start u first)) (λ u none. absurd (nothing_in_nil u none)) c.region_of_all.result
          (subst (λ ts. IsScope c.args.machine.now (IsMetBy c.args.machine.now t [] ts) c.region_of_all.result) c.as_slice-rest.ensures
          c.region_of_all.ensures.scope),
    )

pub region_of_all-requires-2-clause-first : goal.region_of_all-requires-2-clause-first
region_of_all-requires-2-clause-first c = start_there c.args.machine.now c.args.route.now c.args.start c.requires.route.0 c.requires.start

pub region_of_all-requires-2-clause-more : goal.region_of_all-requires-2-clause-more
region_of_all-requires-2-clause-more c =
    all_of_members _ c.as_slice-starts.result.now (λ t inside.
    start_there c.args.machine.now c.args.route.now t c.requires.route.0 (subst (λ ts. Contains ts t) c.as_slice-starts.ensures inside))

pub region_of_all-requires-2-clause-rest : goal.region_of_all-requires-2-clause-rest
region_of_all-requires-2-clause-rest c =
    all_of_members _ c.as_slice-rest.result.now (λ t inside.
    further_there c.args.machine.now c.args.route.now t c.requires.route.0 (subst (λ ts. Contains ts t) c.as_slice-rest.ensures inside))

pub region_of_all-requires-2-clause-near : goal.region_of_all-requires-2-clause-near
region_of_all-requires-2-clause-near c =
    let m = c.args.machine.now in
    let p = c.args.route.now in
    let t = c.args.start in
    subst (AreAllNear m t c.as_slice-starts.result.now) (sym c.as_slice-rest.ensures)
    (subst (λ ts. AreAllNear m t ts p.rest) (sym c.as_slice-starts.ensures)
    (all_near c.regions-shaped.ensures.shaped c.requires.rules p c.requires.route t c.requires.start p.starts (λ u first. inr first) (λ u first. first)))

pub returns-clause-area : goal.returns-clause-area
returns-clause-area c =
    let m = c.args.machine.now in
    let p = c.args.route.now in
    let t = c.args.start in
    let r = c.region_of_all-2.result in
    let scope = subst (λ ts. IsScope m (IsMetBy m t ts p.rest) r) c.as_slice-starts.ensures
    (subst (λ ts. IsScope m (IsMetBy m t c.as_slice-starts.result.now ts) r) c.as_slice-rest.ensures c.region_of_all-2.ensures.scope) in (
      c.requires.external,
      met_is_end c.regions-shaped.ensures.shaped c.requires.rules p c.requires.route t c.requires.start p.starts (λ u first. inr first) (λ u first. first) r
          scope,
    )
