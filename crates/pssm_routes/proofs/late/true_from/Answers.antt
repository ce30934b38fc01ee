-- Each turn looks at one transition more.
use Rattle.std.proofs.Common.{◌<◌, ◌≤◌, Vec, Global, All, length, get_or, ap, subst, sym, ◌∙◌, arith}
use Rattle.std.proofs.lemmas.Bool.{true≢false}
use Rattle.std.proofs.lemmas.List.Elements.{All-push, Contains-get_or}
use Rattle.pssm_model.specs.declared.ids.TransId.{TransId}
use Rattle.pssm_model.specs.Legs.{Leaves}
use Rattle.pssm_model.specs.Routes.{IsTrueAt}
use Rattle.pssm_routes.proofs.TrueOnes.{up_more, up_same, up_all}
use Rattle.pssm_routes.proofs.late.true_from.Goals.{then-is_true_at+in_ok-push, else-is_true_at}
use Rattle.pssm_routes.proofs.late.true_from.Goals as goal

pub loop-t-preserved : goal.loop-t-preserved
loop-t-preserved g c =
    let d : TransId = record { 0 = 0 } in
    let items = c.outgoing-t-items.result.now in
    let Leaves_it : TransId → Type 0 = λ t. Leaves c.args.machine.now t c.args.origin in
    let lt : c.loop-t.t-index < length items = let less = c.loop-t-test.true in let upto = c.loop-t.auto.t-index-end in omega (arith, less, upto) in
    elim c.if-is_true_at.branch [
      | then-is_true_at+in_ok-push w ↦
          let pushed = ap (λ (v : Vec TransId Global). v.items) w.found-is ∙ w.in_ok-push.ensures.items in (
            subst (All Leaves_it) (sym pushed) (All-push Leaves_it c.loop-t.found.items (get_or items c.loop-t.t-index d) c.loop-t.invariant.0
                ((c.outgoing-t-items.ensures.items (get_or items c.loop-t.t-index d)).0 (Contains-get_or items c.loop-t.t-index d lt))),
            λ values tells. up_more (IsTrueAt c.args.machine.now values) items c.loop-t.t-index d c.loop-t.found.items c.if-is_true_at.found.items lt
                (c.loop-t.invariant.1 values tells) pushed
                c.outgoing-t-items.ensures.ascending ((c.is_true_at.ensures values tells).0 w.if-is_true_at.true),
          )
      | else-is_true_at w ↦
          let same = ap (λ (v : Vec TransId Global). v.items) w.found-is in (
            subst (All Leaves_it) (sym same) c.loop-t.invariant.0,
            λ values tells. up_same (IsTrueAt c.args.machine.now values) items c.loop-t.t-index d c.loop-t.found.items c.if-is_true_at.found.items lt
                (c.loop-t.invariant.1 values tells) same
                (λ is. true≢false (sym ((c.is_true_at.ensures values tells).1 is) ∙ w.if-is_true_at.false)),
          )
    ]

pub returns-clause-true_ones : goal.returns-clause-true_ones
returns-clause-true_ones g c values tells =
    let items = c.outgoing-t-items.result.now in
    let over : length items ≤ c.loop-t.t-index =
    let last = c.loop-t-test.false in let upto = c.loop-t.auto.t-index-end in omega (arith, last, upto) in
    let all = up_all (IsTrueAt c.args.machine.now values) items c.loop-t.t-index c.loop-t.found.items over (c.loop-t.invariant.1 values tells) in
    record {
      members = λ t. (
        λ inside. ((c.outgoing-t-items.ensures.items t).0 ((all.0 t).0 inside).0, ((all.0 t).0 inside).1),
        λ h. (all.0 t).1 ((c.outgoing-t-items.ensures.items t).1 h.0, h.1),
      );
      ascending = all.1;
    }
