-- the arguments and as many zeros as are missing
use Rattle.std.proofs.Common.{◌++◌, List, ℤ, ap}
use Rattle.pssm_object.proofs.Eights.{eight_is}
use Rattle.pssm_object.proofs.working.overwrite.Goals as goal

pub returns : goal.returns
returns c =
    let rest : List ℤ = c.split_at_mut-front.result.1.now in
    eight_is c.args.args.now c.copy_from_slice.new.self rest (c.copy_from_slice-2.new.self ++ rest) c.requires.few c.copy_from_slice.ensures.after
    c.split_at_mut-front.ensures.back (ap (λ (xs : List ℤ). xs ++ rest) c.copy_from_slice-2.ensures.after)
