-- what has a place is put there, and what has none is passed over
use Rattle.std.proofs.Common.{arith}
use Rattle.pssm_model.specs.inner.Listed.{IsListed, width_of}
use Rattle.pssm_model.proofs.ListsFilled.{lists_skip, lists_put, lists_end, listed_once, listed_there}
use Rattle.pssm_model.proofs.listing.lists_of.Goals as goal
use Rattle.pssm_model.proofs.listing.lists_of.Goals.{in-Some+in_ok-put-in-Some, in-None}

pub put-requires : goal.put-requires
put-requires g c =
    let there = (listed_there c.args.draft.now c.requires c.args.listing c.in-Some.place c.loop-number.number c.in-Some.ensures).0 in
    let all = c.loop-number.invariant.all in
    omega arith

pub loop-number-preserved : goal.loop-number-preserved
loop-number-preserved g c =
    let m = c.args.draft.now in
    let n = c.loop-number.number in
    let Of = IsListed m c.args.listing in
    elim c.match-place_of.branch [
      | in-Some+in_ok-put-in-Some w ↦
          let there = (listed_there m c.requires c.args.listing w.in-Some.place n w.in-Some.ensures).0 in
          let all = c.loop-number.invariant.all in
          rw (w.lists-is, w.in_ok-put-in-Some.ensures)
          (lists_put g.T.Numbered.number_of (width_of m c.args.listing) Of g.met.T.Numbered.only n w.in-Some.place w.numbered.result w.numbered.ensures
          c.loop-number.lists.items w.in-Some.ensures (λ k h. listed_once m c.args.listing k w.in-Some.place n h w.in-Some.ensures) (omega arith)
          c.loop-number.invariant)
      | in-None w ↦ rw w.lists-is
          (lists_skip g.T.Numbered.number_of (width_of m c.args.listing) Of n c.loop-number.lists.items w.in-None.ensures c.loop-number.invariant)
    ]

pub returns : goal.returns
returns g c =
    rw c.from_vec.ensures
    (lists_end g.T.Numbered.number_of (width_of c.args.draft.now c.args.listing) (IsListed c.args.draft.now c.args.listing) c.loop-number.number
    c.loop-number.lists.items
    (λ k i h.
    let there = (listed_there c.args.draft.now c.requires c.args.listing k i h).1 in
    let last = c.loop-number-test.false in
    let is = c.count_of-number-end.ensures in
    omega arith)
    c.loop-number.invariant)
