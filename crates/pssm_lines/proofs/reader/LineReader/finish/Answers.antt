use Rattle.std.proofs.Common.{◌≡◌, ◌==◌, length, [], refl, ap, subst, true, false, ◌∙◌, List, ℕ, Bool, sym}
use Rattle.pssm_lines.specs.declared.fault.LineFault.TheVariants.{NoEnd}
use Rattle.pssm_lines.specs.Faults.{IsOpen, HasFault}
use Rattle.pssm_lines.specs.Reading.{Reading}
use Rattle.pssm_lines.proofs.Streams.{no_end}
use Rattle.pssm_lines.proofs.reader.LineReader.finish.Goals as goal
use Rattle.pssm_lines.proofs.reader.LineReader.finish.Goals.{else-self-via-then-self+else-is_empty, else-self-via-else-self}

pub returns-clause-bad : goal.returns-clause-bad
returns-clause-bad c = λ sound came lines read.
    let pending_is : c.self.inside.pending.items ≡ c.args.self.now.pending = ap (λ (r : Reading). r.pending) c.self.view_is in
    let begun_is : c.self.inside.begun ≡ c.args.self.now.begun = ap (λ (r : Reading). r.begun) c.self.view_is in
    let number_is : c.self.inside.number ≡ c.args.self.now.number = ap (λ (r : Reading). r.number) c.self.view_is in
    let is_open = subst (λ (b : Bool). IsOpen b c.args.self.now.pending) begun_is (subst (λ (t : List ℕ). IsOpen c.self.inside.begun t) pending_is c.self.invariant) in
    subst (λ (n : ℕ). HasFault came lines (NoEnd n)) (sym number_is)
    (no_end c.args.self.now came lines read is_open (λ whole. elim c.else-self.branch [
      | else-self-via-then-self+else-is_empty w ↦ let none : w.as_slice.result.now ≡ [] = w.as_slice.ensures.value ∙ pending_is ∙ whole.1 in let yes : (length w.as_slice.result.now == 0) ≡ true = rw none refl in absurd (cc (w.is_empty.ensures, w.if-is_empty.false, yes))
      | else-self-via-else-self w ↦ let no : c.self.inside.begun ≡ false = w.if-self.false in absurd (cc (whole.0, begun_is, no))
    ]))
