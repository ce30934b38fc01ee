-- the number of each region leads to its initial vertices
use Rattle.std.proofs.Common.{◌≡◌, ◌+◌, ℕ, length, map, [], ◌++◌, ◌==◌, if◌then◌else◌, subst, ap, ◌∙◌, arith}
use Rattle.pssm_model.specs.declared.ids.VertexId.{VertexId}
use Rattle.pssm_wellformed.specs.inner.Lists.{list_at}
use Rattle.pssm_wellformed.specs.inner.Ends.{region_number}
use Rattle.pssm_wellformed.specs.inner.Walks.{AreArrowsWith, LeadsOut, LeadsFromRegion}
use Rattle.pssm_wellformed.proofs.Arrows.{with_begins, with_more, with_ends, from_region_there, region_leads}
use Rattle.pssm_wellformed.proofs.walks.leads_of.Goals as goal

pub loop-number-init : goal.loop-number-init
loop-number-init c =
    let m = c.args.machine.now in
    with_begins (length m.vertices) (length m.vertices + 0) (length m.vertices + 0) (LeadsOut m) (LeadsFromRegion m) c.in_ok-onward.onward.items
    (λ a b d. let le = (from_region_there m c.requires a b d).0 in omega arith) (omega arith) c.in_ok-onward.ensures

pub loop-number-preserved : goal.loop-number-preserved
loop-number-preserved c =
    let m = c.args.machine.now in
    let count = length m.vertices + c.loop-number.number in
    let old = c.loop-number.onward.items in
    let new = c.put_behind.new.lists.items in
    let items = map (λ (v : VertexId). v.0) c.initials_of.result.now in
    let more : count + 1 ≡ length m.vertices + (c.loop-number.number + 1) = omega arith in
    subst (λ k. AreArrowsWith k k (LeadsOut m) (LeadsFromRegion m) new) more
    (with_more count (count + 1) count (LeadsOut m) (LeadsFromRegion m) old new items
    (region_leads m (region_number c.loop-number.number) c.initials_of.result.now c.initials_of.ensures.items)
    (c.in_ok-put_behind.ensures.width ∙ ap (λ k. k + 1) c.loop-number.invariant.width)
    (subst (λ n. (k : ℕ) → list_at new k ≡ list_at old k ++ (if k == n then items else [])) c.loop-number.invariant.width c.in_ok-put_behind.ensures.puts)
    c.loop-number.invariant)

pub returns : goal.returns
returns c =
    let m = c.args.machine.now in
    let count = length m.vertices + c.loop-number.number in
    let last = c.loop-number-test.false in
    let upto = c.loop-number.auto.number-end in
    let is = c.regions-number-end.ensures in
    with_ends count (length m.vertices + length m.regions) count (LeadsOut m) (LeadsFromRegion m) c.loop-number.onward.items
    (λ a b d. let lt = (from_region_there m c.requires a b d).1 in omega arith)
    (omega arith) c.loop-number.invariant
