-- each history vertex without transitions leads to the number of its region
use Rattle.std.proofs.Common.{◌≡◌, ◌+◌, ℕ, refl, length, [], ◌∷◌, ◌++◌, ◌==◌, if◌then◌else◌, sym, subst, ◌∙◌, arith, Vec, Global}
use Rattle.pssm_wellformed.specs.inner.Lists.{list_at}
use Rattle.pssm_wellformed.specs.inner.Ends.{vertex_number}
use Rattle.pssm_wellformed.specs.inner.Walks.{AreArrowsWith, LeadsThrough, LeadsToRegion}
use Rattle.pssm_wellformed.proofs.Places.{owning_region_there}
use Rattle.pssm_wellformed.proofs.Arrows.{through_along, with_begins, with_more, with_none, with_ends, only_default, to_region_there}
use Rattle.pssm_wellformed.proofs.walks.leads_out.Goals as goal
use Rattle.pssm_wellformed.proofs.walks.leads_out.Goals.{in-Some+in_ok-put-in-Some, in-None}

pub loop-number-init : goal.loop-number-init
loop-number-init c =
    let m = c.args.machine.now in
    let onward = c.in_ok-onward.onward.items in
    with_begins (length m.vertices) (length m.vertices) 0 (LeadsThrough m) (LeadsToRegion m) onward (λ a b d. omega arith) refl (through_along m onward c.in_ok-onward.ensures)

pub number_behind-requires-clause-there : goal.number_behind-requires-clause-there
number_behind-requires-clause-there c =
    owning_region_there c.args.machine.now c.requires (vertex_number c.loop-number.number) c.in-Some.region c.in-Some.ensures.2

pub loop-number-preserved : goal.loop-number-preserved
loop-number-preserved c =
    let m = c.args.machine.now in
    let n = c.loop-number.number in
    let count = length m.vertices in
    let old = c.loop-number.onward.items in
    elim c.match-default_region.branch [
      | in-Some+in_ok-put-in-Some w ↦ with_more count count n (LeadsThrough m) (LeadsToRegion m) old c.match-default_region.onward.items (w.number_behind.result ∷ [])
          (only_default m (vertex_number n) w.in-Some.region w.number_behind.result w.number_behind.ensures w.in-Some.ensures)
          (subst (λ (v : Vec (Vec ℕ Global) Global). length v.items ≡ length old) (sym w.onward-is) w.in_ok-put-in-Some.ensures.width ∙ c.loop-number.invariant.width)
          (subst (λ (v : Vec (Vec ℕ Global) Global). (k : ℕ) → list_at v.items k ≡ list_at old k ++ (if k == n then w.number_behind.result ∷ [] else []))
          (sym w.onward-is) w.in_ok-put-in-Some.ensures.puts)
          c.loop-number.invariant
      | in-None w ↦ subst (λ (v : Vec (Vec ℕ Global) Global). AreArrowsWith count (n + 1) (LeadsThrough m) (LeadsToRegion m) v.items) (sym w.onward-is)
          (with_none count n (LeadsThrough m) (LeadsToRegion m) old (λ b d. w.in-None.ensures d.0 d.2) c.loop-number.invariant)
    ]

pub returns : goal.returns
returns c =
    let m = c.args.machine.now in
    with_ends (length m.vertices) (length m.vertices) c.loop-number.number (LeadsThrough m) (LeadsToRegion m) c.loop-number.onward.items
    (λ a b d. let lt = (to_region_there m c.requires a b d).0 in let last = c.loop-number-test.false in let is = c.vertices-number-end.ensures in omega arith)
    refl c.loop-number.invariant
