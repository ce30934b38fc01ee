use Rattle.std.proofs.Common.{ap, ◌∙◌, not, map, Bor, List, ℕ}
use Rattle.pssm_xml.specs.inner.Cuts.{lent, repeats, given_name}
use Rattle.pssm_xml.proofs.DifferentLaws.{sorted_names}
use Rattle.pssm_xml.proofs.different.are_different.Goals as goal

pub returns : goal.returns
returns c =
    let repeated = c.has_repeated.ensures ∙ ap (λ (ys : List (Bor (List ℕ))). repeats (map lent ys)) c.deref.ensures.value in
    ap not repeated
    ∙ sorted_names c.in_ok-names.names.items _ (map given_name c.args.attributes.now) c.in_ok-names.ensures c.in_ok-sort.ensures.permutation c.in_ok-sort.ensures.sorted
