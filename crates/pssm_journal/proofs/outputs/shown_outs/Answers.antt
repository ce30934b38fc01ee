use Rattle.std.proofs.Common.{List, Option, Some, ap, subst, ◌∙◌}
use Rattle.pssm_semantics.specs.declared.entry.Out.{Out}
use Rattle.pssm_lines.specs.declared.parts.OutsText.{OutsText}
use Rattle.pssm_lines.specs.declared.parts.OutParts.{OutParts}
use Rattle.pssm_journal.proofs.EntryLaws.{IsNextOut, partly_stop, partly_more, partly_all}
use Rattle.pssm_journal.proofs.outputs.shown_outs.Goals as goal

-- An output names what is not known.
pub returns-in-None : goal.returns-in-None
returns-in-None g c = λ line are shown.
    let next = subst (λ (o : Option (OutParts × OutsText)). IsNextOut c.loop-known.rest o) c.in-Some.is c.in_ok-out.ensures.next in
    partly_stop (g.N.Names.setting c.args.names.now) c.args.own c.loop-known.known.items c.loop-known.rest c.in-Some.others c.in-Some.out c.shown_out.result line
    (c.loop-known.invariant line are shown) next c.shown_out.ensures c.in-None.is

-- One output more is known.
pub loop-known-preserved : goal.loop-known-preserved
loop-known-preserved g c = λ line are shown.
    let next = subst (λ (o : Option (OutParts × OutsText)). IsNextOut c.loop-known.rest o) c.in-Some.is c.in_ok-out.ensures.next in
    partly_more (g.N.Names.setting c.args.names.now) c.args.own c.loop-known.known.items c.push.new.self.items c.loop-known.rest c.in-Some.others c.in-Some.out c.shown_out.result
    c.in-Some-shown_out.out line (c.loop-known.invariant line are shown) next c.shown_out.ensures c.in-Some-shown_out.is c.in_ok-push-in-Some-shown_out.ensures.items

-- All are.
pub returns : goal.returns
returns g c = λ line are shown.
    let next = subst (λ (o : Option (OutParts × OutsText)). IsNextOut c.loop-known.rest o) c.in_default.is c.in_ok-out.ensures.next in
    ap (λ (xs : List Out). Some xs) c.from_vec.ensures
    ∙ partly_all (g.N.Names.setting c.args.names.now) c.args.own c.loop-known.known.items c.loop-known.rest line (c.loop-known.invariant line are shown) next
