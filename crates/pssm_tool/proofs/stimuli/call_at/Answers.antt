use Rattle.std.proofs.Common.{true, inl, inr, sym, subst}
use Rattle.std.proofs.lemmas.Bool.{false≢true}
use Rattle.pssm_lines.specs.declared.front.Front.{Front}
use Rattle.pssm_lines.specs.Reading.{IsFront}
use Rattle.pssm_tool.proofs.CallLaws.{kept_call, dropped_call, no_call_open, no_call_at_fault}
use Rattle.pssm_tool.proofs.stimuli.call_at.Goals as goal

-- A line stands there.
pub returns-in-Line-clause-call : goal.returns-in-Line-clause-call
returns-in-Line-clause-call c = λ word is.
    let f = subst (λ (x : Front). IsFront true 1 c.args.text.now x) c.in-Line.is c.in_ok-parts.ensures in
    kept_call word c.args.text.now c.in-Line.parts c.in-Line.rest.now f.0 is f.2 f.3 f.4 c.only_post.result c.only_post.ensures.some

pub returns-in-Line-clause-none : goal.returns-in-Line-clause-none
returns-in-Line-clause-none c = λ word is.
    let f = subst (λ (x : Front). IsFront true 1 c.args.text.now x) c.in-Line.is c.in_ok-parts.ensures in
    dropped_call word c.args.text.now c.in-Line.parts c.in-Line.rest.now f.0 is f.2 f.3 f.4 c.only_post.result c.only_post.ensures.none

-- None does.
pub returns-in-Header : goal.returns-in-Header
returns-in-Header c = record {
  call = λ word is. tt;
  none = λ word is text. elim c.in-Header.is [
    | inl e ↦
        let f = subst (λ (x : Front). IsFront true 1 c.args.text.now x) e.1 c.in_ok-parts.ensures in
        false≢true (sym f.0)
    | inr more ↦ elim more [
      | inl e ↦ no_call_open word c.args.text.now is (subst (λ (x : Front). IsFront true 1 c.args.text.now x) e c.in_ok-parts.ensures) text
      | inr e ↦ no_call_at_fault word c.args.text.now e.0 is (subst (λ (x : Front). IsFront true 1 c.args.text.now x) e.1 c.in_ok-parts.ensures) text
    ]
  ];
}
