use Rattle.std.proofs.Common.{subst, ap, ◌∙◌, arith, length, take, drop, get_or, ◌≡◌, ◌-◌, ◌<◌, sym}
use Rattle.std.specs.List.{All}
use Rattle.std.proofs.lemmas.List.{take_rest}
use Rattle.std.proofs.lemmas.List.Elements.{All-take, All-drop}
use Rattle.pssm_totals.proofs.CircleLaws.{closed_at}
use Rattle.pssm_totals.proofs.settling.close.Goals as goal

pub sum_over-requires : goal.sum_over-requires
sum_over-requires c =
    let within = subst (All (λ x. x < length c.args.own.now)) (sym c.as_slice-2.ensures.value) c.requires.within in
    All-take (λ x. x < length c.args.own.now) (length c.as_slice-2.result.now - c.place_of-start.result) (drop c.place_of-start.result c.as_slice-2.result.now)
    (All-drop (λ x. x < length c.args.own.now) c.place_of-start.result c.as_slice-2.result.now within)

pub fill-requires : goal.fill-requires
fill-requires c =
    let all = subst (λ n. All (λ x. x < n) c.args.path.items) (sym c.requires.width) c.requires.within in
    let within = subst (All (λ x. x < length c.args.marks.now)) (sym c.as_slice-2.ensures.value) all in
    All-take (λ x. x < length c.args.marks.now) (length c.as_slice-2.result.now - c.place_of-start.result) (drop c.place_of-start.result c.as_slice-2.result.now)
    (All-drop (λ x. x < length c.args.marks.now) c.place_of-start.result c.as_slice-2.result.now within)

pub returns : goal.returns
returns c =
    let same = c.as_slice.ensures.value in
    let again = c.as_slice-2.ensures.value in
    closed_at c.args.own.now c.args.marks.now c.fill.new.marks c.args.path.items c.truncate.new.self.items
    (take (length c.as_slice-2.result.now - c.place_of-start.result) (drop c.place_of-start.result c.as_slice-2.result.now))
    c.place_of-start.result c.args.m c.sum_over.result
    (let v = c.place_of-start.ensures.there in let e = ap length same in omega arith)
    (subst (λ xs. get_or xs c.place_of-start.result c.args.m ≡ c.args.m) same c.place_of-start.ensures.is)
    c.truncate.ensures.items
    (take_rest c.as_slice-2.result.now c.place_of-start.result ∙ ap (drop c.place_of-start.result) again)
    c.sum_over.ensures c.fill.ensures
