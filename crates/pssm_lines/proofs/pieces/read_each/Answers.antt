use Rattle.std.proofs.Common.{◌≡◌, ◌-◌, ◌++◌, ◌∷◌, [], None, sym, ap, ◌∙◌, arith}
use Rattle.pssm_lines.specs.inner.LineReading.{behind_first, each_taken}
use Rattle.pssm_lines.proofs.Readers.{got, turn_end, turn_full, turn_bad, turn_more, behind_more, behind_none}
use Rattle.pssm_lines.proofs.pieces.read_each.Goals as goal

pub returns-then-left-eq0 : goal.returns-then-left-eq0
returns-then-left-eq0 g c =
    let full = turn_full c.args.before g.T.Piece.taken c.loop-after.left c.loop-after.rest.now c.in-Some.after.now (sym c.in-Some.ensures) c.if-left-eq0.true in
    ap (λ o. behind_first c.loop-after.items.items o) (sym full) ∙ c.loop-after.invariant

pub returns-in_default-2 : goal.returns-in_default-2
returns-in_default-2 g c =
    let none : g.T.Piece.taken c.in-Some.after.now ≡ None = sym (rw c.in_default-2.is at c.in_ok-item.ensures) in
    let bad = turn_bad c.args.before g.T.Piece.taken c.loop-after.left c.loop-after.rest.now c.in-Some.after.now (sym c.in-Some.ensures) (omega arith) none in
    ap (λ o. behind_first c.loop-after.items.items o) (sym bad) ∙ c.loop-after.invariant

pub loop-after-preserved : goal.loop-after-preserved
loop-after-preserved g c =
    let read : g.T.Piece.taken c.in-Some.after.now ≡ got c.in-Some-2.item c.in-Some-2.more.now = sym (rw c.in-Some-2.is at c.in_ok-item.ensures) in
    let more = turn_more c.args.before g.T.Piece.taken c.loop-after.left c.loop-after.rest.now c.in-Some.after.now c.in-Some-2.item c.in-Some-2.more.now (sym c.in-Some.ensures) (omega arith) read in
    let others = each_taken c.args.before g.T.Piece.taken (c.loop-after.left - 1) c.in-Some-2.more.now in
    let pushed : c.push.new.self.items ≡ c.loop-after.items.items ++ c.in-Some-2.item ∷ [] = c.in_ok-push.ensures.items in
    ap (λ xs. behind_first xs others) pushed
    ∙ behind_more c.loop-after.items.items c.in-Some-2.item others
    ∙ ap (λ o. behind_first c.loop-after.items.items o) (sym more)
    ∙ c.loop-after.invariant

pub returns : goal.returns
returns g c =
    let end = turn_end c.args.before g.T.Piece.taken c.loop-after.left c.loop-after.rest.now (sym c.in_default.ensures) in
    behind_none c.loop-after.items.items c.loop-after.rest.now
    ∙ ap (λ o. behind_first c.loop-after.items.items o) (sym end)
    ∙ c.loop-after.invariant
