use Rattle.std.proofs.Common.{◌≡◌, ◌==◌, false, ◌<◌, ◌≤◌, ◌+◌, ◌++◌, ◌∷◌, [], List, length, sym, subst, ◌∙◌, eqb-true}
use Rattle.std.specs.List.{remove}
use Rattle.std.proofs.lemmas.List.{nil_from_length}
use Rattle.pssm_semantics.specs.declared.tree.Act.{Act}
use Rattle.pssm_model.specs.declared.ids.ActId.{ActId}
use Rattle.pssm_bodies.proofs.ActLaws.{first_out, one_fewer, some_left}
use Rattle.pssm_bodies.proofs.ThroughLaws.{IsNumberedTo, one_numbered, all_numbered}
use Rattle.pssm_bodies.proofs.numbered.with_acts.Goals as goal

pub returns : goal.returns
returns c =
    let l = c.loop-acts in
    let none : l.acts.items ≡ [] = nil_from_length l.acts.items (sym l.acts.ok.0 ∙ eqb-true l.acts.len 0 (sym c.is_empty.ensures ∙ c.loop-acts-test.false)) in
    all_numbered c.args.program c.args.acts.items l.numbers.items l.program
    (subst (λ (left : List Act). IsNumberedTo c.args.program c.args.acts.items l.numbers.items l.program left) none l.invariant.numbers)

pub loop-acts-preserved : goal.loop-acts-preserved
loop-acts-preserved c =
    let l = c.loop-acts in
    let act = c.remove-act.result in
    let some : 0 < length l.acts.items = some_left l.acts.items (subst (λ n. (n == 0) ≡ false) l.acts.ok.0 (sym c.is_empty.ensures ∙ c.loop-acts-test.true)) in
    let left = c.remove-act.new.self.items in
    let whole = subst (λ (acts : List Act). IsNumberedTo c.args.program c.args.acts.items l.numbers.items l.program acts)
    (first_out l.acts.items act some c.remove-act.ensures.value) l.invariant.numbers in
    let more = one_numbered c.args.program c.args.acts.items l.numbers.items l.program act
    (remove l.acts.items 0) c.in_ok-number.number c.in_ok-number.next whole c.in_ok-number.ensures.number c.in_ok-number.ensures.program in
    record {
      numbers = subst (λ (numbers : List ActId). IsNumberedTo c.args.program c.args.acts.items numbers c.in_ok-number.next left)
          (sym c.in_ok-push.ensures.items)
          (subst (λ (acts : List Act). IsNumberedTo c.args.program c.args.acts.items
          (l.numbers.items ++ c.in_ok-number.number ∷ []) c.in_ok-number.next acts) (sym c.remove-act.ensures.items) more);
      room = subst (λ (acts : List Act). length c.in_ok-number.next.acts + length acts ≤ 65535) (sym c.remove-act.ensures.items)
          (one_fewer l.program c.in_ok-number.next act l.acts.items some c.remove-act.ensures.value c.in_ok-number.ensures.program l.invariant.room);
    }
