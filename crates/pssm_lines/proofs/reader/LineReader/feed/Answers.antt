use Rattle.std.proofs.Common.{◌≡◌, ◌++◌, ◌∙◌, Option, None, refl, ap, subst, sym, List, ℕ, arith}
use Rattle.pssm_lines.specs.declared.fault.LineFault.{LineFault}
use Rattle.pssm_lines.specs.Reading.{Reading}
use Rattle.pssm_lines.specs.inner.Batches.{IsBatch}
use Rattle.pssm_lines.proofs.Streams.{feeds_of, fed_at, some_fault, none_at_all}
use Rattle.pssm_lines.proofs.reader.LineReader.feed.Goals as goal

pub batch_of-requires : goal.batch_of-requires
batch_of-requires c =
    let number_is : c.self.inside.number ≡ c.args.self.now.number = ap (λ (r : Reading). r.number) c.self.view_is in
    let text : c.as_slice-2.result.now ≡ c.self.inside.pending.items ++ c.args.piece.now = c.as_slice-2.ensures.value ∙ c.in_ok-extend_from_slice.ensures.items ∙ ap (λ (t : List ℕ). t ++ c.args.piece.now) (c.in_ok-text.ensures.items ∙ c.as_slice.ensures.value) in
    let feeds = feeds_of c.self.inside.pending.items c.args.piece.now c.as_slice-2.result.now text c.self.invariant.one_line in
    omega (arith, number_is, feeds, c.requires)

pub returns-clause-counted : goal.returns-clause-counted
returns-clause-counted c =
    let number_is : c.self.inside.number ≡ c.args.self.now.number = ap (λ (r : Reading). r.number) c.self.view_is in
    let text : c.as_slice-2.result.now ≡ c.self.inside.pending.items ++ c.args.piece.now = c.as_slice-2.ensures.value ∙ c.in_ok-extend_from_slice.ensures.items ∙ ap (λ (t : List ℕ). t ++ c.args.piece.now) (c.in_ok-text.ensures.items ∙ c.as_slice.ensures.value) in
    let feeds = feeds_of c.self.inside.pending.items c.args.piece.now c.as_slice-2.result.now text c.self.invariant.one_line in
    omega (arith, number_is, feeds, c.in_ok-lines.ensures.counted)

pub returns-then-is_some-clause-read : goal.returns-then-is_some-clause-read
returns-then-is_some-clause-read c = λ sound.
    let text : c.as_slice-2.result.now ≡ c.args.self.now.pending ++ c.args.piece.now = c.as_slice-2.ensures.value ∙ c.in_ok-extend_from_slice.ensures.items ∙ ap (λ (t : List ℕ). t ++ c.args.piece.now) (c.in_ok-text.ensures.items ∙ c.as_slice.ensures.value ∙ ap (λ (r : Reading). r.pending) c.self.view_is) in
    rw c.from_vec-lines.ensures (fed_at c.args.self.now _ c.args.piece.now c.as_slice-2.result.now c.self.inside.begun c.self.inside.number c.in_ok-lines.field-0.lines.items c.in_ok-lines.field-0.begun c.in_ok-lines.field-0.number c.in_ok-lines.field-0.rest.now c.in_ok-lines.field-0.fault
    (ap (λ (r : Reading). r.begun) c.self.view_is) (ap (λ (r : Reading). r.number) c.self.view_is) text c.in_ok-lines.ensures.read (λ none. absurd (some_fault c.in_ok-lines.field-0.fault (sym c.is_some.ensures ∙ c.if-is_some.true) none)))

pub returns-clause-read : goal.returns-clause-read
returns-clause-read c = λ sound.
    let text : c.as_slice-2.result.now ≡ c.args.self.now.pending ++ c.args.piece.now = c.as_slice-2.ensures.value ∙ c.in_ok-extend_from_slice.ensures.items ∙ ap (λ (t : List ℕ). t ++ c.args.piece.now) (c.in_ok-text.ensures.items ∙ c.as_slice.ensures.value ∙ ap (λ (r : Reading). r.pending) c.self.view_is) in
    let none = none_at_all c.in_ok-lines.field-0.fault (sym c.is_some.ensures ∙ c.if-is_some.false) in
    let batch = subst (λ (o : Option LineFault). IsBatch c.self.inside.begun c.self.inside.number c.as_slice-2.result.now c.in_ok-lines.field-0.lines.items c.in_ok-lines.field-0.begun c.in_ok-lines.field-0.number c.in_ok-lines.field-0.rest.now o) none c.in_ok-lines.ensures.read in
    rw c.from_vec-lines.ensures (fed_at c.args.self.now _ c.args.piece.now c.as_slice-2.result.now c.self.inside.begun c.self.inside.number c.in_ok-lines.field-0.lines.items c.in_ok-lines.field-0.begun c.in_ok-lines.field-0.number c.in_ok-lines.field-0.rest.now None
    (ap (λ (r : Reading). r.begun) c.self.view_is) (ap (λ (r : Reading). r.number) c.self.view_is) text batch (λ _. (refl, refl, c.in_ok-self-inside.ensures.items)))
