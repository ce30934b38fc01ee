use Rattle.std.proofs.Common.{Some, None}
use Rattle.pssm_journal.proofs.PlaceLaws.{own_mark_is}
use Rattle.pssm_journal.proofs.names.SettingNames.mark.Goals as goal

-- The class has no such mark.
pub returns-in_err-place_among : goal.returns-in_err-place_among
returns-in_err-place_among c =
    own_mark_is c.args.self.now c.args.own c.in_ok-class.class.now c.args.name.now None c.from_residual-in_err-place_among.result c.in_ok-class.ensures
    (rw c.as_slice.ensures at c.in_err-place_among.ensures) c.from_residual-in_err-place_among.ensures

pub returns : goal.returns
returns c =
    own_mark_is c.args.self.now c.args.own c.in_ok-class.class.now c.args.name.now (Some c.in_ok-place_among.field-0) c.mark_id.result c.in_ok-class.ensures
    (rw c.as_slice.ensures at c.in_ok-place_among.ensures) c.mark_id.ensures
