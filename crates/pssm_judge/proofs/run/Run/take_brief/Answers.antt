use Rattle.std.proofs.Common.{IfNone, IfSome, sym, subst}
use Rattle.std.specs.Prelude.{IfOk}
use Rattle.pssm_lines.specs.declared.parts.BriefAct.{BriefAct}
use Rattle.pssm_lines.specs.Grammar.{IsLine}
use Rattle.pssm_lines.specs.Parts.{line_of_act}
use Rattle.pssm_judge.specs.inner.Following.{TakesLine, StopsAt}
use Rattle.pssm_judge.proofs.run.Run.take_brief.Goals as goal

-- a post
pub take_post-requires : goal.take_post-requires
take_post-requires c = subst (λ (act : BriefAct). IsLine (line_of_act c.args.parts.object.now act)) c.in-Post.is c.requires

pub returns-in-Post-clause-takes : goal.returns-in-Post-clause-takes
returns-in-Post-clause-takes c =
    subst (λ (act : BriefAct). IfOk c.take_post.result (λ stop. IfNone stop (TakesLine c.args.self.now c.take_post.new.self (line_of_act c.args.parts.object.now act)))) (sym c.in-Post.is) c.take_post.ensures.takes

pub returns-in-Post-clause-stops : goal.returns-in-Post-clause-stops
returns-in-Post-clause-stops c =
    subst (λ (act : BriefAct). IfOk c.take_post.result (λ stop. IfSome stop (StopsAt c.args.self.now.setting c.args.self.now.journal (line_of_act c.args.parts.object.now act)))) (sym c.in-Post.is) c.take_post.ensures.stops

-- a take
pub take_start-requires : goal.take_start-requires
take_start-requires c = subst (λ (act : BriefAct). IsLine (line_of_act c.args.parts.object.now act)) c.in-Take.is c.requires

pub returns-in-Take-clause-takes : goal.returns-in-Take-clause-takes
returns-in-Take-clause-takes c =
    subst (λ (act : BriefAct). IfOk c.take_start.result (λ stop. IfNone stop (TakesLine c.args.self.now c.take_start.new.self (line_of_act c.args.parts.object.now act)))) (sym c.in-Take.is) c.take_start.ensures.takes

pub returns-in-Take-clause-stops : goal.returns-in-Take-clause-stops
returns-in-Take-clause-stops c =
    subst (λ (act : BriefAct). IfOk c.take_start.result (λ stop. IfSome stop (StopsAt c.args.self.now.setting c.args.self.now.journal (line_of_act c.args.parts.object.now act)))) (sym c.in-Take.is) c.take_start.ensures.stops

-- an exit
pub take_exit-requires : goal.take_exit-requires
take_exit-requires c = subst (λ (act : BriefAct). IsLine (line_of_act c.args.parts.object.now act)) c.in-Exit.is c.requires

pub returns-in-Exit-clause-takes : goal.returns-in-Exit-clause-takes
returns-in-Exit-clause-takes c =
    subst (λ (act : BriefAct). IfOk c.take_exit.result (λ stop. IfNone stop (TakesLine c.args.self.now c.take_exit.new.self (line_of_act c.args.parts.object.now act)))) (sym c.in-Exit.is) c.take_exit.ensures.takes

pub returns-in-Exit-clause-stops : goal.returns-in-Exit-clause-stops
returns-in-Exit-clause-stops c =
    subst (λ (act : BriefAct). IfOk c.take_exit.result (λ stop. IfSome stop (StopsAt c.args.self.now.setting c.args.self.now.journal (line_of_act c.args.parts.object.now act)))) (sym c.in-Exit.is) c.take_exit.ensures.stops

-- an effect
pub take_effect-requires : goal.take_effect-requires
take_effect-requires c = subst (λ (act : BriefAct). IsLine (line_of_act c.args.parts.object.now act)) c.in-Effect.is c.requires

pub returns-in-Effect-clause-takes : goal.returns-in-Effect-clause-takes
returns-in-Effect-clause-takes c =
    subst (λ (act : BriefAct). IfOk c.take_effect.result (λ stop. IfNone stop (TakesLine c.args.self.now c.take_effect.new.self (line_of_act c.args.parts.object.now act)))) (sym c.in-Effect.is) c.take_effect.ensures.takes

pub returns-in-Effect-clause-stops : goal.returns-in-Effect-clause-stops
returns-in-Effect-clause-stops c =
    subst (λ (act : BriefAct). IfOk c.take_effect.result (λ stop. IfSome stop (StopsAt c.args.self.now.setting c.args.self.now.journal (line_of_act c.args.parts.object.now act)))) (sym c.in-Effect.is) c.take_effect.ensures.stops

-- an entry of a State
pub take_enter-requires : goal.take_enter-requires
take_enter-requires c = subst (λ (act : BriefAct). IsLine (line_of_act c.args.parts.object.now act)) c.in-Enter.is c.requires

pub returns-in-Enter-clause-takes : goal.returns-in-Enter-clause-takes
returns-in-Enter-clause-takes c =
    subst (λ (act : BriefAct). IfOk c.take_enter.result (λ stop. IfNone stop (TakesLine c.args.self.now c.take_enter.new.self (line_of_act c.args.parts.object.now act)))) (sym c.in-Enter.is) c.take_enter.ensures.takes

pub returns-in-Enter-clause-stops : goal.returns-in-Enter-clause-stops
returns-in-Enter-clause-stops c =
    subst (λ (act : BriefAct). IfOk c.take_enter.result (λ stop. IfSome stop (StopsAt c.args.self.now.setting c.args.self.now.journal (line_of_act c.args.parts.object.now act)))) (sym c.in-Enter.is) c.take_enter.ensures.stops
