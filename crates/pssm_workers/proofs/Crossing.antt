-- A book may go to another thread, so a lock with one may be shared.
use denote.RattleType.{RattleType}
use denote.Param.Send.{IsSend, IsSync, sendable, struct_send, struct_sync, recorded_send, recorded_sync}
use denote.Struct.Declared.{shape}
use Rattle.std.specs.declared.sync.ledger.Ledger.{Ghosts}
use Rattle.std.proofs.option.Option.TheSendSync as option
use Rattle.std.proofs.sync.ledger.Book.TheSendSync as tally
use Rattle.std.specs.contracts.sync.ledger.Book as counter
use Rattle.std.proofs.alloc.Global.TheSendSync as heap
use Rattle.std.proofs.Crossing.{crosses, Vec-send, Vec-sync}
use Rattle.pssm_model.proofs.boxed.Boxed.TheSendSync as boxed
use Rattle.pssm_model.proofs.row.Row.TheSendSync as row
use Rattle.pssm_model.proofs.text.Text.TheSendSync as text
use Rattle.pssm_model.proofs.machine.Machine.TheSendSync as machine
use Rattle.pssm_semantics.proofs.shared.Shared.TheSendSync as shared
use Rattle.pssm_semantics.proofs.tree.Expr.TheLaws.TheKnot as exprs
use Rattle.pssm_semantics.proofs.tree.Cond.TheLaws.TheKnot as conds
use Rattle.pssm_semantics.proofs.tree.Stmt.TheLaws.TheKnot as stmts
use Rattle.pssm_semantics.proofs.entry.Entry.TheSendSync as entry
use Rattle.pssm_semantics.proofs.stimulus.Stimulus.TheSendSync as stimulus
use Rattle.pssm_semantics.proofs.stimulus.Task.TheSendSync as task
use Rattle.pssm_config.proofs.config.Config.TheSendSync as config
use Rattle.pssm_legs.proofs.legs.Legs.TheSendSync as legs
use Rattle.pssm_pool.proofs.pools.Pools.TheSendSync as pools
use Rattle.pssm_semantics.proofs.args.Args.TheSendSync as args
use Rattle.pssm_semantics.proofs.entry.ObjectId.TheSendSync as object_id
use Rattle.pssm_plan.proofs.roster.Roster.TheSendSync as roster
use Rattle.pssm_plan.proofs.progress.Restored.TheSendSync as restored
use Rattle.pssm_object.proofs.queue.Queue.TheSendSync as queue
use Rattle.pssm_semantics.specs.contracts.tree.Expr as expr
use Rattle.pssm_semantics.specs.contracts.tree.Cond as cond
use Rattle.pssm_semantics.specs.contracts.tree.Stmt as stmt
use Rattle.pssm_semantics.specs.contracts.tree.Act as act
use Rattle.pssm_semantics.specs.contracts.setting.Class as class
use Rattle.pssm_semantics.specs.contracts.setting.Setting as setting
use Rattle.pssm_plan.specs.contracts.ways.Way as way
use Rattle.pssm_plan.specs.contracts.progress.Progress as progress
use Rattle.pssm_plan.specs.contracts.plan.Step as step
use Rattle.pssm_plan.specs.contracts.plan.Beginning as beginning
use Rattle.pssm_plan.specs.contracts.plan.Plan as plan
use Rattle.pssm_object.specs.contracts.situation.Situation as standing
use Rattle.pssm_object.specs.contracts.object.Object as object
use Rattle.pssm_system.specs.contracts.situation.Situation as situation
use Rattle.pssm_system.specs.contracts.follower.Told as told
use Rattle.pssm_system.specs.contracts.follower.Follower as follower
use Rattle.pssm_system.specs.contracts.follower.Follower.TheInside as follower_inside
use Rattle.pssm_system.specs.contracts.system.System as system
use Rattle.pssm_book.specs.contracts.desk.Desk as desk
use Rattle.pssm_book.specs.contracts.book.Book as book
use Rattle.std.proofs.sync.Condvar.TheSendSync as condvar
use Rattle.std.proofs.sync.Mutex.TheSendSync as mutex
use Rattle.std.specs.contracts.sync.Mutex as lock
use Rattle.pssm_workers.specs.declared.scene.Scene.{Ghosts as Scenes}
use Rattle.pssm_workers.proofs.seat.Seat.TheSendSync as seats
use Rattle.pssm_workers.specs.contracts.hall.Hall as hall
use Rattle.pssm_workers.specs.contracts.floor.Floor as floor
use Rattle.pssm_workers.specs.contracts.seat.Seat as seat
use Rattle.pssm_workers.specs.contracts.shift.Shift as shift
use Rattle.pssm_book.specs.contracts.book.Book.TheInside as book_inside

-- ---- a setting

expr_send : IsSend expr.the_row
expr_send = search (sendable, crosses, boxed.the_send, exprs.crosses) depth 40

cond_send : IsSend cond.the_row
cond_send = search (sendable, crosses, boxed.the_send, exprs.crosses, conds.crosses) depth 60 fits 20000

stmt_send : IsSend stmt.the_row
stmt_send = search (sendable, crosses, row.the_send, boxed.the_send, object_id.the_send, expr_send, exprs.crosses, conds.crosses, stmts.crosses) depth 60 fits 20000

expr_sync : IsSync expr.the_row
expr_sync = search (sendable, crosses, boxed.the_sync, exprs.crosses) depth 40

cond_sync : IsSync cond.the_row
cond_sync = search (sendable, crosses, boxed.the_sync, exprs.crosses, conds.crosses) depth 60 fits 20000

stmt_sync : IsSync stmt.the_row
stmt_sync = search (sendable, crosses, row.the_sync, boxed.the_sync, object_id.the_sync, expr_sync, exprs.crosses, conds.crosses, stmts.crosses) depth 60 fits 20000

-- behaviours share their statements
act_send : IsSend act.the_row
act_send = search (sendable, shared.the_send, row.the_send, row.the_sync, stmt_send, stmt_sync) depth 60 fits 20000

class_send : IsSend class.the_row
class_send = search (sendable, text.the_send, machine.the_send, row.the_send, act_send, cond_send) depth 60 fits 20000

-- ---- a step and an object

way_send : IsSend way.the_row
way_send = search (sendable, crosses, legs.the_send) depth 60 fits 20000

progress_send : IsSend progress.the_row
progress_send = search (sendable, crosses, roster.the_send, restored.the_send, way_send) depth 60 fits 20000

step_send : IsSend step.the_row
step_send = search (sendable, crosses) depth 60 fits 20000

beginning_send : IsSend beginning.the_row
beginning_send = search (sendable, crosses) depth 60 fits 20000

plan_send : IsSend plan.the_row
plan_send = search (sendable, crosses, progress_send, step_send, beginning_send) depth 60 fits 20000

standing_send : IsSend standing.the_row
standing_send = search (sendable, crosses, option.the_send, config.the_send, args.the_send, queue.the_send, object_id.the_send, plan_send) depth 60 fits 20000

object_send : IsSend object.the_row
object_send = search (sendable, crosses, standing_send) depth 60 fits 20000

-- ---- a system and a book

setting_field : IsSend (setting.the_field).row
setting_field = search (sendable, crosses, class_send) depth 60 fits 20000

situation_field : IsSend (situation.the_field).row
situation_field = search (sendable, crosses, pools.the_send, object_send) depth 60 fits 20000

told_send : IsSend told.the_row
told_send = search (sendable, crosses) depth 60 fits 20000

follower_parts : IsSend follower_inside.the_row
follower_parts =
    recorded_send follower_inside.the_field.row _ _ follower_inside.the_type.to_one
    (struct_send (shape follower_inside.the_type) (heap.the_field_send, (setting_field, (Vec-send told.the_row told_send, (situation_field, tt)))))

follower_field : IsSend (follower.the_field).row
follower_field = search (sendable, follower_parts) depth 10

system_field : IsSend (system.the_field).row
system_field = search (sendable, crosses, entry.the_send, follower_field) depth 60 fits 20000

desk_field : IsSend (desk.the_field).row
desk_field = search (sendable, crosses, stimulus.the_send, task.the_send, task.the_field_send, object_id.the_send, object_id.the_field_send, system_field) depth 60 fits 20000

book_parts : (L : RattleType) (g : Ghosts L.Denot) → IsSend (book_inside.the_row L g)
book_parts L g =
    let count : IsSend (counter.the_row L g) = search (sendable, tally.the_send) depth 20 in
    recorded_send (book_inside.the_field L g).row _ _ (book_inside.the_type L g).to_one
    (struct_send (shape (book_inside.the_type L g)) (heap.the_field_send, (desk_field, (count, tt))))

pub book_send : (L : RattleType) (g : Ghosts L.Denot) → IsSend (book.the_row L g)
book_send L g = search (sendable, book_parts) depth 10

-- ---- a shift

hall_send : (L V : RattleType) (v : Scenes V.Denot) (g : Ghosts L.Denot) → IsSend (hall.the_row L V v g)
hall_send L V v g = search (sendable, book_send) depth 20

floor_sync : (L V : RattleType) (v : Scenes V.Denot) (g : Ghosts L.Denot) → IsSync (floor.the_field L V v g).row
floor_sync L V v g = search (sendable, crosses, mutex.the_sync, condvar.the_sync, hall_send) depth 60 fits 20000

seat_sync : (L : RattleType) (g : Ghosts L.Denot) → IsSync (lock.the_row (seat.the_row L g))
seat_sync L g = search (sendable, mutex.the_sync, seats.the_send) depth 30

-- Several workers may share what they have in common.
pub shift_sync : (L V : RattleType) (v : Scenes V.Denot) (g : Ghosts L.Denot) → IsSync (shift.the_row L V v g)
shift_sync L V v g =
    recorded_sync (shift.the_field L V v g).row _ _ (shift.the_type L V v g).to_one
    (struct_sync (shape (shift.the_type L V v g)) (
      heap.the_field_sync,
      (floor_sync L V v g, (Vec-sync (lock.the_row (seat.the_row L g)) (seat_sync L g), (search sendable depth 10, tt))),
    ))
