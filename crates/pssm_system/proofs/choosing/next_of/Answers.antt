-- a move of the object
use Rattle.std.specs.Option.{option_copied}
use Rattle.pssm_system.proofs.Views.{next_move}
use Rattle.pssm_system.proofs.choosing.next_of.Goals as goal

pub returns-in-Move : goal.returns-in-Move
returns-in-Move c =
    rw c.in-Move.is (next_move c.args.class.now c.args.object.now (option_copied c.args.signal) c.choose_move.result c.choose_move.ensures.moves
    c.choose_move.ensures.own c.choose_move.ensures.places c.choose_move.ensures.follows c.choose_move.ensures.none)
