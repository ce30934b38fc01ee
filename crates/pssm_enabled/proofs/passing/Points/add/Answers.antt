-- one vertex more, where it was not found before
use Rattle.std.proofs.Common.{◌≡◌, length, rules}
use Rattle.pssm_enabled.proofs.PassingLaws.{found_room, further_added, once_added, further_same}
use Rattle.pssm_enabled.proofs.passing.Points.add.Goals as goal

pub bounds-self-self : goal.bounds-self-self
bounds-self-self c =
    let marks : length c.args.self.now.good ≡ 4096 = search rules in
    let places : length c.args.self.now.found ≡ 4096 = search rules in
    found_room c.args.v c.requires.once (λ h. search (rules, h)) c.requires.there marks places c.regions-shaped.ensures.shaped.limits.vertices

pub returns-then-not-self-v-clause-once : goal.returns-then-not-self-v-clause-once
returns-then-not-self-v-clause-once c =
    let marks : length c.args.self.now.good ≡ 4096 = search rules in
    let places : length c.args.self.now.found ≡ 4096 = search rules in
    once_added c.args.v c.requires.once (λ h. search (rules, h)) c.requires.there marks places c.regions-shaped.ensures.shaped.limits.vertices

pub returns-then-not-self-v-clause-further : goal.returns-then-not-self-v-clause-further
returns-then-not-self-v-clause-further c =
    let marks : length c.args.self.now.good ≡ 4096 = search rules in
    let places : length c.args.self.now.found ≡ 4096 = search rules in
    further_added c.args.v c.requires.once (λ h. search (rules, h)) c.requires.there marks places c.regions-shaped.ensures.shaped.limits.vertices

pub returns-else-not-self-v-clause-further : goal.returns-else-not-self-v-clause-further
returns-else-not-self-v-clause-further c = further_same c.args.v c.if-not-self-v.false
