use Rattle.std.proofs.Common.{◌≡◌, ◌<◌, List, Bool, false, length, get_or, sym, subst, ap, ◌∙◌}
use Rattle.std.proofs.lemmas.Bool.{false≢true}
use Rattle.std.proofs.lemmas.List.{get_or_default}
use Rattle.pssm_wellformed.specs.inner.Walks.{LiesIn}
use Rattle.pssm_wellformed.specs.inner.Marks.{marks_at}
use Rattle.pssm_wellformed.proofs.Marking.{strays_at_once, marks_there}
use Rattle.pssm_wellformed.proofs.marks.strays.Goals as goal

pub returns-then-not-lies_in : goal.returns-then-not-lies_in
returns-then-not-lies_in c g marks =
    strays_at_once c.args.machine.now c.args.start c.args.place (λ h. false≢true (sym c.if-not-lies_in.true ∙ c.lies_in.ensures.1 h)) g

pub index-requires : goal.index-requires
index-requires c =
    let m = c.args.machine.now in
    let k = c.level.result in
    let list = c.index-levels-level.result in
    let lies : LiesIn m c.args.start c.args.place = c.lies_in.ensures.0 c.if-not-lies_in.false in
    let there = c.requires.room.high c.args.start c.args.place k c.requires.there lies c.level.ensures.level in
    let is = marks_there c.args.levels.now k list there c.index-levels-level.is in
    let width = c.requires.room.width k there in
    let lt : c.args.start.0 < length list.items = subst (λ n. c.args.start.0 < n) (sym width ∙ ap length is) c.requires.there in
    subst (λ n. c.args.start.0 < n) (sym list.ok.0) lt

pub returns : goal.returns
returns c g marks =
    let m = c.args.machine.now in
    let v = c.args.start in
    let k = c.level.result in
    let list = c.index-levels-level.result in
    let lies : LiesIn m v c.args.place = c.lies_in.ensures.0 c.if-not-lies_in.false in
    let there = c.requires.room.high v c.args.place k c.requires.there lies c.level.ensures.level in
    let is = marks_there c.args.levels.now k list there c.index-levels-level.is in
    let lt : v.0 < length list.items = subst (λ n. v.0 < n) (sym (c.requires.room.width k there) ∙ ap length is) c.requires.there in
    let mark : c.index.result.now ≡ get_or (marks_at c.args.levels.now k) v.0 false =
    c.index.ensures ∙ get_or_default list.items v.0 c.index.result.now false lt ∙ ap (λ (xs : List Bool). get_or xs v.0 false) (sym is) in
    let iff = marks v c.args.place k c.requires.there lies c.level.ensures.level in
    (λ t. iff.0 (sym mark ∙ t), λ s. mark ∙ iff.1 s)
