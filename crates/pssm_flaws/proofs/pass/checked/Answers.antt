use Rattle.std.proofs.Common.{◌≡◌, ◌⊎◌, ◌+◌, ℕ, suc, length, ◌≤◌, subst, arith}
use Rattle.pssm_profile.specs.declared.fault.XmiFault.TheVariants as xmi_faults
use Rattle.pssm_profile.specs.Faults.{IsProfileFault}
use Rattle.pssm_tally.specs.Tallies.{CountsTo}
use Rattle.pssm_flaws.proofs.PassLaws.{first_in_file, handed_on, none_before_next, none_in_file}
use Rattle.pssm_flaws.proofs.pass.checked.Goals as goal

pub loop-n-preserved : goal.loop-n-preserved
loop-n-preserved c =
    let doc = c.args.elements.now in let n = c.loop-n.n in
    let next : suc n ≡ n + 1 = omega arith in (
      subst (λ (k : ℕ). CountsTo doc k c.in_ok-more.more) next c.in_ok-more.ensures.counts,
      none_before_next doc n c.loop-n.invariant.1 c.in_ok-more.ensures.sound,
    )

pub returns-clause-sound : goal.returns-clause-sound
returns-clause-sound c =
    let doc = c.args.elements.now in let end = c.loop-n-test.false in let count = c.len-n-end.ensures.count in
    let over : length doc ≤ c.loop-n.n = omega (arith, end, count) in none_in_file doc c.loop-n.n over c.loop-n.invariant.1

pub returns-in_err-more-clause-fault : goal.returns-in_err-more-clause-fault
returns-in_err-more-clause-fault c =
    let doc = c.args.elements.now in let fault = c.in_err-more.field-0.0 in
    handed_on (λ f. (f ≡ xmi_faults.NoMemory) ⊎ IsProfileFault doc f) c.from_residual.result fault c.from_residual.ensures.1
    (first_in_file doc c.loop-n.n fault c.loop-n.invariant.1 c.in_err-more.ensures.fault)
