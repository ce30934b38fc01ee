-- the last group goes as long as it begins past the place
use Rattle.std.proofs.Common.{◌-◌, ◌∷◌, [], ◌++◌, take, refl, sym, subst, ap, ◌∙◌, Contains}
use Rattle.pssm_wellformed.proofs.Groups.{joined_more, without_last}
use Rattle.pssm_wellformed.proofs.cycles.join.Goals as goal

pub loop-groups-preserved : goal.loop-groups-preserved
loop-groups-preserved c =
    let items = c.loop-groups.groups.items in
    let past = c.loop-groups-test.ensures.past refl in
    let is = sym c.as_slice.ensures.value ∙ past.1.1 in
    let rest = without_last past.1.0 items c.pop.new.self.items past.0 is (c.pop.ensures.rest ∙ ap (λ n. take (n - 1) items) c.loop-groups.groups.ok.0) in
    joined_more c.args.place c.args.groups.now.items items c.pop.new.self.items past.0 (is ∙ ap (λ xs. xs ++ past.0 ∷ []) (sym rest)) past.2 c.loop-groups.invariant

pub returns-clause-upto : goal.returns-clause-upto
returns-clause-upto c x there = c.loop-groups-test.ensures.upto refl x (subst (λ xs. Contains xs x) (sym c.as_slice.ensures.value) there)
