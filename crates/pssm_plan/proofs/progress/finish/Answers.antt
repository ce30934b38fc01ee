use Rattle.pssm_plan.proofs.ApartCalls.{noted_new}
use Rattle.pssm_plan.proofs.Caught.{caught_told}
use Rattle.pssm_plan.proofs.Following.{noted_items, told_noted}
use Rattle.pssm_plan.proofs.Passes.{told_left}
use Rattle.pssm_plan.proofs.RunBefore.{run_told}
use Rattle.pssm_plan.proofs.StandingItems.{is_false}
use Rattle.pssm_plan.specs.inner.Sequence.{IsSequence}
use Rattle.pssm_plan.proofs.progress.finish.Goals as goal

pub settle_anew-requires-clause-items : goal.settle_anew-requires-clause-items
settle_anew-requires-clause-items c =
    noted_items c.args.machine.now c.args.item c.args.roster.now.calls.items c.tell-ran.new.self.calls.items
    (told_noted c.args.item _ _ c.tell-ran.ensures.told) c.requires.roster.items

pub settle_anew-requires-clause-few : goal.settle_anew-requires-clause-few
settle_anew-requires-clause-few c = (caught_told _ c.args.item _ _ c.tell-ran.ensures.told c.requires.caught).few

pub settle_anew-requires-clause-room : goal.settle_anew-requires-clause-room
settle_anew-requires-clause-room c = (caught_told _ c.args.item _ _ c.tell-ran.ensures.told c.requires.caught).room

pub settle-requires-clause-items : goal.settle-requires-clause-items
settle-requires-clause-items c =
    noted_items c.args.machine.now c.args.item c.args.roster.now.calls.items c.tell-ran.new.self.calls.items
    (told_noted c.args.item _ _ c.tell-ran.ensures.told) c.requires.roster.items

pub settle-requires-clause-caught : goal.settle-requires-clause-caught
settle-requires-clause-caught c = caught_told _ c.args.item _ _ c.tell-ran.ensures.told c.requires.caught

pub settle-requires-clause-new : goal.settle-requires-clause-new
settle-requires-clause-new c =
    noted_new c.args.machine.now c.args.ways.now c.args.item c.args.roster.now.calls.items c.tell-ran.new.self.calls.items c.args.since
    (told_noted c.args.item _ _ c.tell-ran.ensures.told) (c.requires.new (is_false c.args.anew c.if-anew.false))

pub settle-requires-clause-left : goal.settle-requires-clause-left
settle-requires-clause-left c =
    told_left (IsSequence c.args.machine.now c.args.ways.now) c.args.since.calls c.tell-ran.result c.args.item
    c.args.roster.now.calls.items c.tell-ran.new.self.calls.items c.tell-ran.ensures.told c.tell-ran.ensures.place
    (c.requires.left (is_false c.args.anew c.if-anew.false))

pub returns-then-anew-clause-finished : goal.returns-then-anew-clause-finished
returns-then-anew-clause-finished c = record {
  now = c.tell-ran.new.self.calls.items;
  noted = told_noted c.args.item _ _ c.tell-ran.ensures.told;
  alike = c.settle_anew.ensures.alike;
  sure = c.settle_anew.ensures.sure;
}

pub returns-else-anew-clause-finished : goal.returns-else-anew-clause-finished
returns-else-anew-clause-finished c = record {
  now = c.tell-ran.new.self.calls.items;
  noted = told_noted c.args.item _ _ c.tell-ran.ensures.told;
  alike = c.settle.ensures.alike;
  sure = c.settle.ensures.sure;
}

pub settle-requires-clause-done : goal.settle-requires-clause-done
settle-requires-clause-done c =
    run_told c.args.item c.args.roster.now.calls.items c.tell-ran.new.self.calls.items c.args.done c.tell-ran.ensures.told c.requires.done
