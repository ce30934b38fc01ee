-- none of the objects from the first on has one, so it is sought before
use Rattle.std.proofs.Common.{◌%◌, List, length, ap, subst}
use Rattle.pssm_object.specs.Standing.{Standing}
use Rattle.pssm_system.specs.inner.Choosing.{NoneMayCome, FindsAmong}
use Rattle.pssm_system.proofs.Found.{found_before}
use Rattle.pssm_system.proofs.situation.Situation.choose.Goals as goal

pub returns-in-None : goal.returns-in-None
returns-in-None c =
    let mid = c.args.word % c.from.result in
    let count = ap (λ (xs : List Standing). length xs) c.as_slice.ensures.value in
    let none = subst (FindsAmong c.args.setting.now c.args.self.now c.args.wanted mid (length c.as_slice.result.now)) c.in-None.is c.in_ok-entry.ensures in
    found_before c.args.setting.now c.args.self.now c.args.wanted mid (length c.args.self.now.objects.items) c.choose_among-in-None.result
    (subst (λ n. NoneMayCome c.args.setting.now c.args.self.now c.args.wanted mid n) count none) c.choose_among-in-None.ensures
