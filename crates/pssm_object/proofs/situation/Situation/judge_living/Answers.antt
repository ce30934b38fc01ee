-- the verdict by the kind of the entry
use Rattle.pssm_object.proofs.situation.Situation.judge_living.Goals as goal

pub returns-in-Exit : goal.returns-in-Exit
returns-in-Exit c = rw c.in-Exit.is c.judge_work.ensures

pub returns-in-Effect : goal.returns-in-Effect
returns-in-Effect c = rw c.in-Effect.is c.judge_work-in-Effect.ensures

pub returns-in-Enter : goal.returns-in-Enter
returns-in-Enter c = rw c.in-Enter.is c.judge_work-in-Enter.ensures

pub returns-in-Opened : goal.returns-in-Opened
returns-in-Opened c = rw c.in-Opened.is c.judge_opened.ensures

pub returns-in-Pick : goal.returns-in-Pick
returns-in-Pick c = rw c.in-Pick.is c.judge_pick.ensures

pub returns-in-Done : goal.returns-in-Done
returns-in-Done c = rw c.in-Done.is c.judge_done.ensures
