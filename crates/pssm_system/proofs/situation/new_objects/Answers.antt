-- one object more, before its start
use Rattle.std.proofs.Common.{◌+◌, List, length, sym, ap, subst, arith}
use Rattle.pssm_semantics.specs.declared.setting.ObjectDecl.{ObjectDecl}
use Rattle.pssm_system.proofs.Fresh.{AreFresh, fresh-more, all-fresh}
use Rattle.pssm_system.proofs.situation.new_objects.Goals as goal

pub loop-k-preserved : goal.loop-k-preserved
loop-k-preserved c =
    let new = c.in_ok-new.ensures in
    let push = c.in_ok-push.ensures in
    subst (AreFresh c.args.setting.now (c.loop-k.k + 1)) (sym push.items)
    (fresh-more c.args.setting.now c.loop-k.k c.loop-k.objects.items c.class_of.result.now c.in_ok-new.field-0 c.class_of.ensures new.own new.start
    c.loop-k.invariant)

pub returns : goal.returns
returns c =
    let count = ap (λ (xs : List ObjectDecl). length xs) c.as_slice.ensures in
    all-fresh c.args.setting.now c.loop-k.k c.loop-k.objects.items (omega (arith, count)) c.loop-k.invariant
