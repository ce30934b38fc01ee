-- Each turn looks at one vertex more.
use Rattle.std.proofs.Common.{◌<◌, ◌≤◌, ◌∙◌, List, Vec, Global, None, All, length, ap, sym, subst, refl, arith}
use Rattle.std.proofs.lemmas.Bool.{true≢false}
use Rattle.std.proofs.lemmas.List.Elements.{All-nil, All-same}
use Rattle.pssm_model.specs.declared.ids.VertexId.{VertexId}
use Rattle.pssm_config.specs.Tables.{configuration_of}
use Rattle.pssm_enabled.specs.declared.seeking.Search.{Search}
use Rattle.pssm_routes.specs.inner.Starts.{HasSearch}
use Rattle.pssm_enabled.specs.Steps.{KnowsDeadEnds}
use Rattle.pssm_enabled.proofs.OneSearch.{where_wanted}
use Rattle.pssm_routes.proofs.Fruitless.{all_more, reacting_start, reacting_more, reacting_same, reacting_end}
use Rattle.pssm_routes.proofs.candidates.reacting_by_search.Goals.{then-reacts_afresh+in_ok-push, else-reacts_afresh}
use Rattle.pssm_routes.proofs.candidates.reacting_by_search.Goals as goal

pub loop-number-init : goal.loop-number-init
loop-number-init g c =
    let There : VertexId → Type 0 = λ s. s.0 < length c.args.machine.now.vertices in (
      subst (All There) (sym c.new-found.ensures.items) (All-nil There),
      λ t u started on ends. subst (λ (search : List Search). 0 < length search) (sym c.as_mut_slice-search.ensures.value)
          (where_wanted c.some_start_search.result (0 < length c.in_ok-made.made.items) (λ never. c.some_start_search.ensures never t u started on ends)
          c.in_ok-made.ensures.room),
      λ values tells. reacting_start c.args.machine.now (configuration_of c.args.config.now) values c.args.event c.new-found.result.items
          c.as_mut_slice-search.result.now c.new-found.ensures.items
          (subst (KnowsDeadEnds c.args.machine.now values None) (sym c.as_mut_slice-search.ensures.value)
          (c.in_ok-made.ensures.nothing c.args.machine.now values None)),
    )

pub loop-number-preserved : goal.loop-number-preserved
loop-number-preserved g c =
    let m = c.args.machine.now in
    let now = configuration_of c.args.config.now in
    let at : VertexId = record { 0 = c.loop-number.number } in
    let There : VertexId → Type 0 = λ s. s.0 < length m.vertices in
    let before = c.loop-number.invariant in
    let kept : HasSearch m now c.args.event c.reacts_afresh.new.search =
    λ t u started on ends. subst (λ n. 0 < n) (sym c.reacts_afresh.ensures.same) (before.1 t u started on ends) in
    let inside : There at = let test = c.loop-number-test.true in let e = c.vertices-number-end.ensures in omega (arith, test, e) in
    elim c.if-reacts_afresh.branch [
      | then-reacts_afresh+in_ok-push w ↦
          let is = ap (λ (v : Vec VertexId Global). v.items) w.found-is ∙ w.in_ok-push.ensures.items in (
            all_more There c.loop-number.found.items c.if-reacts_afresh.found.items at is before.0 inside,
            kept,
            λ values tells. reacting_more m now values c.args.event c.loop-number.found.items c.if-reacts_afresh.found.items c.loop-number.number
                at c.loop-number.search c.reacts_afresh.new.search is refl (before.2 values tells)
                (c.reacts_afresh.ensures.dead values tells (before.2 values tells).dead)
                ((c.reacts_afresh.ensures.reacts values tells (before.2 values tells).dead).0 w.if-reacts_afresh.true),
          )
      | else-reacts_afresh w ↦
          let is = ap (λ (v : Vec VertexId Global). v.items) w.found-is in (
            All-same There c.if-reacts_afresh.found.items c.loop-number.found.items is before.0,
            kept,
            λ values tells. reacting_same m now values c.args.event c.loop-number.found.items c.if-reacts_afresh.found.items c.loop-number.number
                at c.loop-number.search c.reacts_afresh.new.search is refl (before.2 values tells)
                (c.reacts_afresh.ensures.dead values tells (before.2 values tells).dead)
                (λ reacting. true≢false (sym ((c.reacts_afresh.ensures.reacts values tells (before.2 values tells).dead).1 reacting)
                ∙ w.if-reacts_afresh.false)),
          )
    ]

pub returns : goal.returns
returns g c =
    let enough : length c.args.machine.now.vertices ≤ c.loop-number.number =
    let test = c.loop-number-test.false in let e = c.vertices-number-end.ensures in omega (arith, test, e) in
    record {
      states = λ values tells. reacting_end c.args.machine.now (configuration_of c.args.config.now) values c.args.event c.requires.fits.shape
          c.loop-number.found.items c.loop-number.number c.loop-number.search enough (c.loop-number.invariant.2 values tells);
      there = c.loop-number.invariant.0;
    }
