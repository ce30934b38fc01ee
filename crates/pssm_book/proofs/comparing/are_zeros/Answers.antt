-- what is compared are lists of numbers
use Rattle.std.proofs.Common.{◌≡◌, sym, ◌∙◌}
use Rattle.std.proofs.lemmas.Bool.Decides.{Decides-int_eq}
use Rattle.std.proofs.lemmas.Slice.Eq.{slice_eq-Decides}
use Rattle.std.specs.Ordering.{int_eq}
use Rattle.pssm_semantics.specs.Values.{no_params}
use Rattle.pssm_book.proofs.comparing.are_zeros.Goals as goal

pub returns : goal.returns
returns c =
    let d = slice_eq-Decides {E = int_eq} Decides-int_eq c.as_slice.result.now c.as_slice-2.result.now c.eq.result c.eq.ensures in
    let right : c.as_slice-2.result.now ≡ no_params = c.as_slice-2.ensures in
    (λ t. sym c.as_slice.ensures.values ∙ d.0 t ∙ right, λ e. d.1 (c.as_slice.ensures.values ∙ e ∙ sym right))
