-- the vertex at the place was found, and each turn goes back over one transition into it more
use Rattle.std.proofs.Common.{◌≡◌, ◌<◌, length, get_or, refl, arith, rules}
use Rattle.std.proofs.lemmas.List.Elements.{Contains-get_or}
use Rattle.pssm_model.specs.declared.ids.VertexId.{VertexId}
use Rattle.pssm_model.specs.declared.ids.TransId.{TransId}
use Rattle.pssm_enabled.proofs.PassingLaws.{found_at, back_begins, back_more, gone_on}
use Rattle.pssm_enabled.proofs.passing.Points.add_sources.Goals as goal

pub incoming-t-items-requires : goal.incoming-t-items-requires
incoming-t-items-requires g c =
    let places : length c.args.self.now.found ≡ 4096 = search rules in
    c.requires.once.there _ (found_at c.args.machine.now c.args.self.now c.args.place _ c.requires.once places c.requires.place)

pub loop-t-init : goal.loop-t-init
loop-t-init g c = back_begins c.args.machine.now _ c.incoming-t-items.result.now c.args.self.now c.requires.once

pub loop-t-preserved : goal.loop-t-preserved
loop-t-preserved g c =
    let e : VertexId = record { 0 = 0 } in
    let d : TransId = record { 0 = 0 } in
    let m = c.args.machine.now in
    let items = c.incoming-t-items.result.now in
    let places : length c.args.self.now.found ≡ 4096 = search rules in
    let more : c.loop-t.t-index < length items =
    let less = c.loop-t-test.true in let upto = c.loop-t.auto.t-index-end in omega (arith, less, upto) in
    let t = get_or items c.loop-t.t-index d in
    let x = get_or c.args.self.now.found c.args.place e in
    back_more m _ items c.args.self.now c.loop-t.self c.add_source.new.self c.loop-t.t-index t x
    ((c.incoming-t-items.ensures.items t).0 (Contains-get_or items c.loop-t.t-index d more))
    (c.loop-t.invariant.grows.marks x ((c.requires.once.marks x).1 (found_at m c.args.self.now c.args.place e c.requires.once places c.requires.place)))
    c.loop-t.invariant c.add_source.ensures.grows d more refl c.add_source.ensures.once c.add_source.ensures.further

pub returns-clause-once : goal.returns-clause-once
returns-clause-once g c = c.loop-t.invariant.once

pub returns-clause-kept : goal.returns-clause-kept
returns-clause-kept g c = c.loop-t.invariant.grows.marks

pub returns-clause-gone : goal.returns-clause-gone
returns-clause-gone g c values tells gone =
    let e : VertexId = record { 0 = 0 } in
    let m = c.args.machine.now in
    let items = c.incoming-t-items.result.now in
    let places : length c.args.self.now.found ≡ 4096 = search rules in
    let all : length items ≡ c.loop-t.t-index =
    let last = c.loop-t-test.false in let upto = c.loop-t.auto.t-index-end in omega (arith, last, upto) in
    gone_on m _ values c.args.self.now c.loop-t.self c.args.place e items c.loop-t.t-index c.requires.once places
    c.requires.place c.incoming-t-items.ensures.items all c.loop-t.invariant tells gone

pub returns-clause-lead : goal.returns-clause-lead
returns-clause-lead g c values tells lead = c.loop-t.invariant.lead values tells lead
