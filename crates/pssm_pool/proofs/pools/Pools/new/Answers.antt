-- empty lists
use Rattle.std.proofs.Common.{ℕ, zero, suc, List, [], length, replicate, refl, sym, ap, subst, ◌∙◌}
use Rattle.pssm_pool.specs.declared.pools.Waiting.{Waiting}
use Rattle.pssm_links.specs.Chained.{Linked}
use Rattle.pssm_pool.proofs.Fronts.{fronts-empty, length-empty}
use Rattle.pssm_pool.proofs.Linking.{each, each-none}
use Rattle.pssm_pool.proofs.pools.Pools.new.Goals as goal

pub returns : goal.returns
returns c =
    ap (each (λ e. e.value)) c.in_ok-new.ensures
    ∙ each-none (λ e. e.value) c.from.result
    ∙ ap (λ n. let empty : List (List Waiting) = replicate n [] in empty) c.from.ensures

pub invariant_of-result : goal.invariant_of-result
invariant_of-result c =
    let count = ap length c.in_ok-new.ensures ∙ length-empty c.from.result ∙ c.from.ensures in
    (sym count, fronts-empty c.in_ok-new.field-0.lists c.in_ok-new_fronts.field-0.items (c.in_ok-new_fronts.ensures.count ∙ sym count) c.in_ok-new_fronts.ensures.empty)
