use Rattle.std.proofs.Common.{◌≡◌, ◌+◌, ap, sym, ◌∙◌, ◌∷◌, [], List, Some, drop, arith}
use Rattle.std.proofs.lemmas.List.{drop_more, drop_all}
use Rattle.pssm_semantics.specs.declared.entry.Out.{Out}
use Rattle.pssm_semantics.specs.declared.line.LineOut.{LineOut}
use Rattle.pssm_journal.specs.Entries.{outs_named}
use Rattle.pssm_journal.proofs.EntryLaws.{with_front, outs_more, outs_stop, outs_end}
use Rattle.pssm_journal.proofs.outputs.line_outs.Goals as goal

pub returns-in-None : goal.returns-in-None
returns-in-None g c =
    let rest = drop (c.loop-out.out-index + 1) c.args.outs.now in
    let rest_is : drop c.loop-out.out-index c.args.outs.now ≡ c.out-item.result ∷ rest = drop_more c.args.outs.now c.loop-out.out-index c.out-item.result (omega arith) ∙ ap (λ (x : LineOut). x ∷ rest) (sym c.out-item.is) in
    sym (outs_stop (g.N.Names.setting c.args.names.now) c.args.own c.loop-out.known.items c.out-item.result rest (sym c.in_ok-out.ensures ∙ c.in-None.is))
    ∙ ap (λ (xs : List LineOut). with_front c.loop-out.known.items (outs_named (g.N.Names.setting c.args.names.now) c.args.own xs)) (sym rest_is)
    ∙ c.loop-out.invariant

pub loop-out-preserved : goal.loop-out-preserved
loop-out-preserved g c =
    let rest = drop (c.loop-out.out-index + 1) c.args.outs.now in
    let rest_is : drop c.loop-out.out-index c.args.outs.now ≡ c.out-item.result ∷ rest = drop_more c.args.outs.now c.loop-out.out-index c.out-item.result (omega arith) ∙ ap (λ (x : LineOut). x ∷ rest) (sym c.out-item.is) in
    ap (λ (front : List Out). with_front front (outs_named (g.N.Names.setting c.args.names.now) c.args.own rest)) c.in_ok-push-in-Some.ensures.items
    ∙ sym (outs_more (g.N.Names.setting c.args.names.now) c.args.own c.loop-out.known.items c.out-item.result rest c.in-Some.out (sym c.in_ok-out.ensures ∙ c.in-Some.is))
    ∙ ap (λ (xs : List LineOut). with_front c.loop-out.known.items (outs_named (g.N.Names.setting c.args.names.now) c.args.own xs)) (sym rest_is)
    ∙ c.loop-out.invariant

pub returns : goal.returns
returns g c =
    let setting = g.N.Names.setting c.args.names.now in
    let nothing : drop c.loop-out.out-index c.args.outs.now ≡ [] = drop_all c.loop-out.out-index c.args.outs.now (omega arith) in
    ap (λ (xs : List Out). Some xs) c.from_vec.ensures ∙ sym (outs_end setting c.args.own c.loop-out.known.items)
    ∙ ap (λ (xs : List LineOut). with_front c.loop-out.known.items (outs_named setting c.args.own xs)) (sym nothing) ∙ c.loop-out.invariant
