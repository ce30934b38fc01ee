-- the one transition
use Rattle.std.proofs.Common.{◌≡◌, length, get_or, subst, arith}
use Rattle.pssm_model.specs.declared.ids.TransId.{TransId}
use Rattle.pssm_model.specs.Legs.{Leaves}
use Rattle.pssm_enabled.proofs.Started.{one_of_length, length_of_one, the_one}
use Rattle.pssm_routes.proofs.late.start_late.Goals as goal

pub returns-then-starts-eq1 : goal.returns-then-starts-eq1
returns-then-starts-eq1 c =
    let d : TransId = record { 0 = 0 } in
    let t = get_or c.args.starts.now 0 d in
    let long : length c.args.starts.now ≡ 1 = c.if-starts-eq1.true in
    let one = one_of_length c.args.starts.now d long in (
      λ holds. (let h = c.starts_late.ensures.0 holds in (h.0, (t, one, h.1))),
      λ h. c.starts_late.ensures.1
          (h.0, subst (λ u. Leaves c.args.machine.now u c.args.origin) (the_one c.args.starts.now h.1.0 t h.1.1 one) h.1.2),
    )

pub returns : goal.returns
returns c = (
  λ wrong. absurd (cc),
  λ h. absurd (let one = length_of_one c.args.starts.now h.1.0 h.1.1 in let more = c.if-starts-eq1.false in omega (arith, one, more)),
)
