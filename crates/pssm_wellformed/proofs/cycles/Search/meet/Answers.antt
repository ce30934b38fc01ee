-- by the stage of the number
use Rattle.std.proofs.Common.{◌≡◌, ◌<◌, sym, subst, ◌∙◌}
use Rattle.std.proofs.lemmas.List.{get_or_default}
use Rattle.std.proofs.lemmas.List.Elements.{Contains-push}
use Rattle.pssm_wellformed.specs.declared.cycles.Stage.TheVariants.{New, Open, Closed}
use Rattle.pssm_wellformed.specs.inner.Cycles.{stage_at}
use Rattle.pssm_wellformed.proofs.Searching.{meets_closed, meets_open}
use Rattle.pssm_wellformed.proofs.cycles.Search.meet.Goals as goal

pub index-requires : goal.index-requires
index-requires c =
    let before = c.requires.before in
    let low = before.there c.args.number (Contains-push c.args.self.now.ahead.items c.args.number) in
    subst (λ n. c.args.number < n) (sym before.stages_width ∙ sym c.args.self.now.stages.ok.0) low

pub returns-in-Open-clause-search : goal.returns-in-Open-clause-search
returns-in-Open-clause-search c =
    let s = c.args.self.now in
    let before = c.requires.before in
    let low = subst (λ n. c.args.number < n) (sym before.stages_width) (before.there c.args.number (Contains-push s.ahead.items c.args.number)) in
    let is : stage_at s.stages.items c.args.number ≡ Open c.in-Open.place =
    get_or_default s.stages.items c.args.number New c.index.result.now low ∙ sym c.index.ensures ∙ c.in-Open.is in
    meets_open c.args.onward.now s.stages.items s.opened.items s.groups.items c.join.new.groups.items s.ahead.items s.cyclic.items c.args.number c.in-Open.place
    before c.requires.last is c.join.ensures.joined c.join.ensures.upto

pub returns-in-Closed-clause-search : goal.returns-in-Closed-clause-search
returns-in-Closed-clause-search c =
    let s = c.args.self.now in
    let before = c.requires.before in
    let low = subst (λ n. c.args.number < n) (sym before.stages_width) (before.there c.args.number (Contains-push s.ahead.items c.args.number)) in
    let is : stage_at s.stages.items c.args.number ≡ Closed =
    get_or_default s.stages.items c.args.number New c.index.result.now low ∙ sym c.index.ensures ∙ c.in-Closed.is in
    meets_closed c.args.onward.now s.stages.items s.opened.items s.groups.items s.ahead.items s.cyclic.items c.args.number before c.requires.last is
