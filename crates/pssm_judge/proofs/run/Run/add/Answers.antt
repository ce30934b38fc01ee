use Rattle.std.proofs.Common.{◌≡◌, ◌+◌, ◌∷◌, ◌++◌, [], Option, IfNone, IfSome, sym, ap, subst, ◌∙◌}
use Rattle.pssm_semantics.specs.declared.entry.Rule.{Rule}
use Rattle.pssm_semantics.specs.Pool.{output_count}
use Rattle.pssm_semantics.specs.Rules.{Holds}
use Rattle.pssm_semantics.specs.Admissible.{MayFollow}
use Rattle.pssm_semantics.specs.Verdict.{IsFirstBroken}
use Rattle.pssm_journal.specs.Judged.{line_output_count, by_entry}
use Rattle.pssm_system.specs.History.{History}
use Rattle.pssm_judge.specs.declared.run.Stop.TheVariants.{Refuse}
use Rattle.pssm_judge.specs.inner.Following.{TakesLine, StopsAt}
use Rattle.pssm_judge.proofs.RunLaws.{told_same, limits_push, outputs_push, takes_line}
use Rattle.pssm_judge.proofs.run.Run.add.Goals as goal

-- The entry's names are known.
pub allows-requires : goal.allows-requires
allows-requires c =
    let t = told_same c.self.inside.follower c.args.self.now c.requires.0 c.args.entry c.args.outputs c.args.told.now c.self.view_is c.requires.1 in
    record { names = t.known c.self.inside.follower.journal }

-- The entry breaks a rule.
pub returns-in-Some-clause-stops : goal.returns-in-Some-clause-stops
returns-in-Some-clause-stops c = λ line told.
    let t = told_same c.self.inside.follower c.args.self.now line c.args.entry c.args.outputs c.args.told.now c.self.view_is told in
    let broken = subst (λ (o : Option Rule). IfSome o (λ rule. IsFirstBroken (Holds c.self.inside.follower.setting) c.self.inside.follower.journal c.args.told.now rule)) c.in-Some.is c.in_ok-rule.ensures.breaks in
    subst (λ (h : History). StopsAt h.setting h.journal line (Refuse c.args.entry c.in-Some.rule)) c.self.view_is (t.placed, t.within, by_entry c.args.told.now t.writes broken)

-- The line does not pass the limits.
pub apply-requires-clause-limits : goal.apply-requires-clause-limits
apply-requires-clause-limits c =
    let t = told_same c.self.inside.follower c.args.self.now c.requires.0 c.args.entry c.args.outputs c.args.told.now c.self.view_is c.requires.1 in
    limits_push c.self.inside.follower.setting c.self.inside.follower.journal c.requires.0 c.args.told.now t.writes t.within

-- The outputs of the line are counted.
pub invariant_of-self-2 : goal.invariant_of-self-2
invariant_of-self-2 c =
    let line = c.requires.0 in
    let t = told_same c.self.inside.follower c.args.self.now line c.args.entry c.args.outputs c.args.told.now c.self.view_is c.requires.1 in
    let after : c.apply.new.self.journal ≡ c.self.inside.follower.journal ++ c.args.told.now ∷ [] = c.in_ok-apply.ensures.ok in
    let counted : output_count c.apply.new.self.journal ≡ output_count c.self.inside.follower.journal + line_output_count line =
    ap output_count after ∙ outputs_push c.self.inside.follower.setting c.self.inside.follower.journal line c.args.told.now t.writes in
    (c.self.invariant.0 ∙ sym c.in_ok-apply.ensures.setting, rw (c.self.invariant.1, t.counted) (sym counted))

-- The run has taken the entry.
pub returns-clause-takes : goal.returns-clause-takes
returns-clause-takes c = λ line told.
    let t = told_same c.self.inside.follower c.args.self.now line c.args.entry c.args.outputs c.args.told.now c.self.view_is told in
    let follows = subst (λ (o : Option Rule). IfNone o (MayFollow c.self.inside.follower.setting c.self.inside.follower.journal c.args.told.now)) c.in_default.is c.in_ok-rule.ensures.keeps in
    subst (λ (h : History). TakesLine h c.apply.new.self line) c.self.view_is
    (takes_line c.self.inside.follower c.apply.new.self line c.args.told.now t.admissible t.writes t.within follows c.in_ok-apply.ensures.setting c.in_ok-apply.ensures.ok)
