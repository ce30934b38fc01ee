-- an object is quiet exactly where it has no next entry under the first signal that waits and is not deferred
use Rattle.std.proofs.Common.{◌+◌, MatchBool, subst, ◌∙◌, arith}
use Rattle.pssm_semantics.specs.declared.entry.ObjectId.{ObjectId}
use Rattle.pssm_object.specs.Following as objects
use Rattle.pssm_system.specs.declared.choosing.Wanted.TheVariants.{AnyEntry}
use Rattle.std.specs.Option.{option_copied}
use Rattle.pssm_system.proofs.Members.{member, stands_somewhere}
use Rattle.pssm_system.proofs.Choices.{none-both}
use Rattle.pssm_system.proofs.Found.{copied_some, quiet_here, busy_here, all_quiet}
use Rattle.pssm_system.proofs.situation.Situation.is_quiet.Goals as goal

pub quiet-requires : goal.quiet-requires
quiet-requires c =
    let m = member c.requires.well_formed c.requires.stands.1.objects (record { 0 = c.loop-k.k }) c.class_of.result.now c.index-object.result.now c.from.result
    c.class_of.ensures c.from.ensures c.index-object.ensures in
    record { class = m.well_formed; stands = stands_somewhere m }

pub returns-then-not-quiet : goal.returns-then-not-quiet
returns-then-not-quiet c =
    let stands = c.requires.stands.1 in
    let o : ObjectId = record { 0 = c.loop-k.k } in
    let m = member c.requires.well_formed stands.objects o c.class_of.result.now c.index-object.result.now c.from.result c.class_of.ensures c.from.ensures
    c.index-object.ensures in
    busy_here c.requires.well_formed c.args.self.now m (option_copied c.first_for.result) c.first_for.ensures c.is_some-waiting.result
    (c.is_some-waiting.ensures ∙ copied_some c.first_for.result)
    (λ J signal s handed.
    subst (λ q. MatchBool q (objects.IsQuiet c.class_of.result.now c.index-object.result.now signal J)
    (objects.HasNext c.class_of.result.now c.index-object.result.now signal J)) c.if-not-quiet.true (c.quiet.ensures J signal s handed))

pub loop-k-preserved : goal.loop-k-preserved
loop-k-preserved c =
    let stands = c.requires.stands.1 in
    let o : ObjectId = record { 0 = c.loop-k.k } in
    let m = member c.requires.well_formed stands.objects o c.class_of.result.now c.index-object.result.now c.from.result c.class_of.ensures c.from.ensures
    c.index-object.ensures in
    none-both c.args.setting.now c.args.self.now AnyEntry 0 c.loop-k.k (c.loop-k.k + 1) c.loop-k.invariant
    (quiet_here c.requires.well_formed c.args.self.now m (option_copied c.first_for.result) c.first_for.ensures c.is_some-waiting.result
    (c.is_some-waiting.ensures ∙ copied_some c.first_for.result)
    (λ J signal s handed.
    subst (λ q. MatchBool q (objects.IsQuiet c.class_of.result.now c.index-object.result.now signal J)
    (objects.HasNext c.class_of.result.now c.index-object.result.now signal J)) c.if-not-quiet.false (c.quiet.ensures J signal s handed)))

pub returns : goal.returns
returns c = all_quiet (λ J e stands le lt no_post may. c.loop-k.invariant J e stands le (omega arith) no_post may)
