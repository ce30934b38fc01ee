-- the first that leads on is the one by which the route goes on
use Rattle.std.proofs.Common.{◌≡◌, ◌<◌, ◌≤◌, [], ◌∷◌, Vec, Global, All, length, get_or, sym, subst, arith}
use Rattle.std.proofs.lemmas.List.Elements.{All-nil, Contains-get_or}
use Rattle.std.proofs.lemmas.Result.{IfOk-weaker}
use Rattle.pssm_model.specs.declared.ids.TransId.{TransId}
use Rattle.pssm_model.specs.declared.ids.VertexId.{VertexId}
use Rattle.pssm_model.specs.Legs.{Enters}
use Rattle.pssm_model.specs.Routes.{IsTrueAt}
use Rattle.pssm_model.proofs.RouteLaws.{all_of_one}
use Rattle.pssm_model_laws.proofs.Through.{target_there}
use Rattle.pssm_enabled.specs.inner.Fitting.{IsMarked}
use Rattle.pssm_enabled.specs.inner.Behind.{GoesOnAtOnce}
use Rattle.pssm_enabled.proofs.Leaving.{leaving_is_there}
use Rattle.pssm_enabled.proofs.Scanning.{holds_of_more, holds_of_all, refuted}
use Rattle.pssm_enabled.proofs.Expanding.{at_once_over, some_leads}
use Rattle.pssm_enabled.proofs.tracing.one_onward.Goals as goal

pub returns-then-leads_on-clause-there : goal.returns-then-leads_on-clause-there
returns-then-leads_on-clause-there g c =
    let There : TransId → Type 0 = λ t. t.0 < length c.args.machine.now.transitions in
    let d : TransId = record { 0 = 0 } in
    let items = c.outgoing-t-items.result.now in
    let more : c.loop-t.t-index < length items =
    let less = c.loop-t-test.true in let upto = c.loop-t.auto.t-index-end in omega (arith, less, upto) in
    let t = get_or items c.loop-t.t-index d in
    let leaves = (c.outgoing-t-items.ensures.items t).0 (Contains-get_or items c.loop-t.t-index d more) in
    IfOk-weaker c.alone.result (λ (list : Vec TransId Global). list.items ≡ t ∷ []) (λ (list : Vec TransId Global). All There list.items)
    (λ list is. subst (All There) (sym is) (all_of_one There t (leaving_is_there c.args.machine.now t c.args.v leaves))) c.alone.ensures

pub returns-then-leads_on-clause-goes : goal.returns-then-leads_on-clause-goes
returns-then-leads_on-clause-goes g c values tells known on =
    let m = c.args.machine.now in
    let d : TransId = record { 0 = 0 } in
    let items = c.outgoing-t-items.result.now in
    let more : c.loop-t.t-index < length items =
    let less = c.loop-t-test.true in let upto = c.loop-t.auto.t-index-end in omega (arith, less, upto) in
    let t = get_or items c.loop-t.t-index d in
    let leaves = (c.outgoing-t-items.ensures.items t).0 (Contains-get_or items c.loop-t.t-index d more) in
    let leads = (c.leads_on.ensures values tells).0 c.if-leads_on.true in
    let once = at_once_over c.requires.rules values c.args.v c.requires.passed t leaves leads.0
    (λ w enters. (known w (target_there c.regions-shaped.ensures.shaped t w enters)).0 (leads.1 w enters)) in
    IfOk-weaker c.alone.result (λ (list : Vec TransId Global). list.items ≡ t ∷ []) (λ (list : Vec TransId Global). GoesOnAtOnce m values c.args.v list.items)
    (λ list is. subst (GoesOnAtOnce m values c.args.v) (sym is) once) c.alone.ensures

pub loop-t-preserved : goal.loop-t-preserved
loop-t-preserved g c values tells =
    let items = c.outgoing-t-items.result.now in
    let more : c.loop-t.t-index < length items =
    let less = c.loop-t-test.true in let upto = c.loop-t.auto.t-index-end in omega (arith, less, upto) in
    holds_of_more
    (λ (t : TransId). IsTrueAt c.args.machine.now values t × ((w : VertexId) → Enters c.args.machine.now t w → IsMarked c.args.good.now w.0) → ⊥)
    items c.loop-t.t-index (record { 0 = 0 }) more
    (refuted c.leads_on.result c.if-leads_on.false (c.leads_on.ensures values tells)) (c.loop-t.invariant values tells)

pub returns-clause-goes : goal.returns-clause-goes
returns-clause-goes g c values tells known on =
    let items = c.outgoing-t-items.result.now in
    let all : length items ≤ c.loop-t.t-index =
    let last = c.loop-t-test.false in let upto = c.loop-t.auto.t-index-end in omega (arith, last, upto) in
    absurd (some_leads c.requires.rules values c.args.v c.regions-shaped.ensures.shaped c.args.good.now known c.requires.passed on.0
    (λ t leaves. holds_of_all
    (λ (u : TransId). IsTrueAt c.args.machine.now values u × ((w : VertexId) → Enters c.args.machine.now u w → IsMarked c.args.good.now w.0) → ⊥)
    items c.loop-t.t-index all (c.loop-t.invariant values tells) t ((c.outgoing-t-items.ensures.items t).1 leaves)))

pub returns-clause-there : goal.returns-clause-there
returns-clause-there g c =
    let There : TransId → Type 0 = λ t. t.0 < length c.args.machine.now.transitions in
    subst (All There) (sym c.new.ensures.items) (All-nil There)
