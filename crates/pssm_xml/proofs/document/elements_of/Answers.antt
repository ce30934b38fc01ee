use Rattle.std.proofs.Common.{◌≡◌, ◌∙◌, sym, ap, inr, arith, subst, ℕ}
use Rattle.pssm_xml.specs.declared.fault.TextFault.TheVariants as faults
use Rattle.pssm_xml.specs.Faults.{IsTextFault}
use Rattle.std.specs.Str.{chars}
use Rattle.pssm_xml.specs.inner.Reading.{good_bytes}
use Rattle.pssm_xml.proofs.GoodLaws.{good_within, good_slice}
use Rattle.pssm_xml.proofs.DocumentLaws.{no_text}
use Rattle.pssm_xml.proofs.document.elements_of.Goals as goal

pub split_at-requires : goal.split_at-requires
split_at-requires c =
    let utf8 = c.in-Ok.ensures.cases.1 in let within = good_within c.args.bytes.now utf8 in
    let is : c.good_len.result ≡ good_bytes (chars c.args.bytes.now) = c.good_len.ensures ∙ ap (λ t. good_bytes (chars t)) c.in-Ok.ensures.cases.0 in
    omega (arith, within, is)

pub read-requires-clause-utf8 : goal.read-requires-clause-utf8
read-requires-clause-utf8 c = c.in-Ok.ensures.cases.1

pub read-requires-clause-good : goal.read-requires-clause-good
read-requires-clause-good c =
    good_slice c.args.bytes.now c.split_at.result.0.now c.good_len.result c.in-Ok.ensures.cases.1
    (c.good_len.ensures ∙ ap (λ t. good_bytes (chars t)) c.in-Ok.ensures.cases.0) c.split_at.ensures.front

pub returns-in-Err-clause-fault : goal.returns-in-Err-clause-fault
returns-in-Err-clause-fault c =
    inr (subst (λ (k : ℕ). IsTextFault c.args.bytes.now (faults.NotUtf8 k)) (sym c.valid_up_to.ensures) (no_text c.args.bytes.now _ c.in-Err.ensures.cases.1))
