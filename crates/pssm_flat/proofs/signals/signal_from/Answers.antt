use Rattle.std.proofs.Common.{◌≡◌, ◌≤◌, ℕ, List, length, Some, sym, ap, subst, ◌∙◌}
use Rattle.std.specs.Str.{bytes_eq}
use Rattle.pssm_semantics.specs.declared.setting.Names.{Names}
use Rattle.pssm_semantics.specs.declared.setting.SignalDecl.{SignalDecl}
use Rattle.pssm_flat.proofs.FoundLaws.{some_later}
use Rattle.pssm_flat.proofs.signals.signal_from.Goals as goal

-- The first of all does not stand before that number.
pub returns-else-place-from-clause-gives : goal.returns-else-place-from-clause-gives
returns-else-place-from-clause-gives c =
    let signals = c.args.names.now.signals in
    let lent = c.as_slice-signals.ensures ∙ ap (λ (n : Names). n.signals) c.names.ensures in
    let within : c.args.from ≤ length signals = subst (λ (l : List SignalDecl). c.args.from ≤ length l) lent c.if-from-signals.false in
    sym (some_later (λ (s : SignalDecl). bytes_eq s.name c.args.name.now) signals c.args.from c.in-Some.place within
    (sym c.signal.ensures.gives ∙ c.in-Some.is) c.if-place-from.false)
