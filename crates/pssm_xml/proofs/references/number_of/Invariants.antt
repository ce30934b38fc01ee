use Rattle.std.proofs.Common.{◌≡◌, ◌≤◌, drop}
use Rattle.pssm_xml.specs.inner.Reading.{number_after}
use Rattle.pssm_xml.proofs.references.number_of.Given as goal

abbrev pub invariant-loop-digit : goal.invariant-loop-digit
invariant-loop-digit l = (l.value ≤ 1114112) × (number_after l.radix 0 l.digits ≡ number_after l.radix l.value (drop l.digit-index l.digits))
