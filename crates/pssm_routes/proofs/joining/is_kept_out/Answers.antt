-- what touches the anchor clashes
use Rattle.std.proofs.Common.{inl, inr}
use Rattle.pssm_routes.proofs.Rooms.{touched_is_shut}
use Rattle.pssm_routes.proofs.joining.is_kept_out.Goals as goal

pub returns-then-is_join : goal.returns-then-is_join
returns-then-is_join c holds =
    let (a, inside, same) = c.is_anchor.ensures.0 holds in
    touched_is_shut c.requires.rules c.regions-shaped.ensures.shaped c.args.footprints.now c.args.t c.anchor_of.result c.anchor_of.ensures.anchor
    (a, inside, inr (inl (inl same)))
