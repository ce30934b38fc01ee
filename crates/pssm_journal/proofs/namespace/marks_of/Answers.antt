use Rattle.std.proofs.Common.{◌++◌, ◌∷◌, [], List, take, sym, ap, subst, ◌∙◌}
use Rattle.std.proofs.lemmas.List.{take_more}
use Rattle.pssm_semantics.specs.declared.setting.Class.{Class}
use Rattle.pssm_journal.specs.inner.Places.{Places, HoldsPlaces, HoldsMarks}
use Rattle.pssm_journal.proofs.PlaceLaws.{marks_more}
use Rattle.pssm_journal.proofs.namespace.marks_of.Goals as goal

-- The marks of one class more have their places.
pub loop-class-preserved : goal.loop-class-preserved
loop-class-preserved c =
    let classes = c.args.classes.now in
    let first = take c.loop-class.class-index classes in
    let class = c.class-item.result in
    let here = subst (λ (ms : List (List _)). HoldsPlaces (λ mark. mark) ms c.in_ok-places_of.field-0) c.as_slice.ensures c.in_ok-places_of.ensures in
    let one_more = take_more classes c.loop-class.class-index class c.loop-class-test.true ∙ ap (λ (x : Class). first ++ x ∷ []) (sym c.class-item.is) in
    subst (λ (cs : List Class). HoldsMarks cs c.push.new.self.items) (sym one_more)
    (subst (λ ps. HoldsMarks (first ++ class ∷ []) ps) (sym {A = List (Places _)} c.in_ok-push.ensures.items)
    (marks_more first c.loop-class.marks.items class c.in_ok-places_of.field-0 c.loop-class.invariant here))
