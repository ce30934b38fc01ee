-- an object is quiet exactly where it has no next entry under the first signal that waits and is not deferred
use Rattle.std.proofs.Common.{MatchBool, true, false, is_some, sym, ap, subst}
use Rattle.std.specs.Option.{option_copied}
use Rattle.pssm_object.specs.Following as objects
use Rattle.pssm_system.proofs.Members.{member, stands_somewhere}
use Rattle.pssm_system.proofs.Found.{quiet_own, busy_own}
use Rattle.pssm_system.proofs.situation.Situation.is_quiet_of.Goals as goal

pub quiet-requires : goal.quiet-requires
quiet-requires c =
    let m = member c.requires.well_formed c.requires.stands.1.objects c.args.own c.class_of-class.result.now c.index-object.result.now c.from.result
    c.class_of-class.ensures c.from.ensures c.index-object.ensures in
    record { class = m.well_formed; stands = stands_somewhere m }

pub quiet-requires-in-Some : goal.quiet-requires-in-Some
quiet-requires-in-Some c =
    let m = member c.requires.well_formed c.requires.stands.1.objects c.args.own c.class_of-class.result.now c.index-object.result.now c.from.result
    c.class_of-class.ensures c.from.ensures c.index-object.ensures in
    record { class = m.well_formed; stands = stands_somewhere m }

-- something is to be done without a signal
pub returns-then-not-quiet : goal.returns-then-not-quiet
returns-then-not-quiet c =
    let m = member c.requires.well_formed c.requires.stands.1.objects c.args.own c.class_of-class.result.now c.index-object.result.now c.from.result
    c.class_of-class.ensures c.from.ensures c.index-object.ensures in
    busy_own c.requires.well_formed c.args.self.now m
    (λ J signal s handed.
    subst (λ q. MatchBool q (objects.IsQuiet c.class_of-class.result.now c.index-object.result.now signal J)
    (objects.HasNext c.class_of-class.result.now c.index-object.result.now signal J)) c.if-not-quiet.true (c.quiet.ensures J signal s handed))

-- a signal waits
pub returns-in-Some : goal.returns-in-Some
returns-in-Some c =
    let m = member c.requires.well_formed c.requires.stands.1.objects c.args.own c.class_of-class.result.now c.index-object.result.now c.from.result
    c.class_of-class.ensures c.from.ensures c.index-object.ensures in
    quiet_own c.requires.well_formed c.args.self.now m (option_copied c.first_for.result) c.first_for.ensures true
    (sym (ap (λ r. is_some (option_copied r)) c.in-Some.is)) c.quiet-in-Some.result c.quiet-in-Some.ensures

-- none waits
pub returns-in-None : goal.returns-in-None
returns-in-None c =
    let m = member c.requires.well_formed c.requires.stands.1.objects c.args.own c.class_of-class.result.now c.index-object.result.now c.from.result
    c.class_of-class.ensures c.from.ensures c.index-object.ensures in
    quiet_own c.requires.well_formed c.args.self.now m (option_copied c.first_for.result) c.first_for.ensures false
    (sym (ap (λ r. is_some (option_copied r)) c.in-None.is)) true
    (λ J signal s handed.
    subst (λ q. MatchBool q (objects.IsQuiet c.class_of-class.result.now c.index-object.result.now signal J)
    (objects.HasNext c.class_of-class.result.now c.index-object.result.now signal J)) c.if-not-quiet.false (c.quiet.ensures J signal s handed))
