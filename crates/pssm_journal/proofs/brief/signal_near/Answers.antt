use Rattle.std.proofs.Common.{◌≡◌, Some, List, sym, ap, subst, ◌∙◌}
use Rattle.std.specs.Prelude.{slice_get}
use Rattle.std.proofs.lemmas.Option.{slice_get-get_or}
use Rattle.pssm_semantics.specs.declared.setting.SignalDecl.{SignalDecl}
use Rattle.pssm_journal.proofs.BriefLaws.{signal_here}
use Rattle.pssm_journal.proofs.brief.signal_near.Goals as goal

pub returns-then-is_named : goal.returns-then-is_named
returns-then-is_named c =
    let d = c.in-Some.declared.now in
    let at = c.in-Some.ensures.lookup in
    let some : slice_get c.as_slice.result.now c.args.near.0 ≡ Some d = slice_get-get_or c.as_slice.result.now c.args.near.0 d at.3.0 ∙ ap (λ (x : SignalDecl). Some x) (sym at.1) in
    signal_here c.args.setting.now c.args.near d c.args.name.now c.requires.differ (subst (λ (ds : List SignalDecl). slice_get ds c.args.near.0 ≡ Some d) c.as_slice.ensures some)
    (sym c.as_slice-in-Some.ensures ∙ c.is_named.ensures.0 c.if-is_named.true)
