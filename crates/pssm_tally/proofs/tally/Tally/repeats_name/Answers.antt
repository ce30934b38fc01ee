use Rattle.std.proofs.Common.{List, ℕ, Bool, subst, sym, ap₂, bytes_eq, IsTrue, ◌↔◌, ◌∙◌}
use Rattle.std.specs.List.{list_any}
use Rattle.pssm_profile.specs.Flaws.{RepeatsName}
use Rattle.pssm_tally.specs.Tallies.{HasKind, kind_meant, names_held}
use Rattle.pssm_tally.proofs.TallyLaws.{repeats_where}
use Rattle.pssm_tally.proofs.tally.Tally.repeats_name.Goals as goal

pub returns-in_ok-name-in-Some : goal.returns-in_ok-name-in-Some
returns-in_ok-name-in-Some c =
    let doc = c.args.elements.now in let n = c.args.n in let kind = c.in-Some.kind in
    let own = subst (HasKind doc n) c.in-Some.is c.requires.kind in
    let so = repeats_where doc n (kind_meant kind) (names_held c.args.self.now kind)
    (λ j has. c.one_kind.ensures doc n (kind_meant kind) j own has) own (c.requires.tally kind) in
    subst (λ (b : Bool). IsTrue b ↔ RepeatsName doc n)
    (sym (c.has.ensures ∙ ap₂ (λ (w : List ℕ) (l : List (List ℕ)). list_any (bytes_eq w) l) (c.as_slice.ensures ∙ c.in_ok-name-in-Some.ensures) c.names.ensures)) so
