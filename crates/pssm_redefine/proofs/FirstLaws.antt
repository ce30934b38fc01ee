-- First forms are few: they are among the elements of the chain's machines.
use Rattle.std.proofs.Common.{◌≡◌, ◌≤◌, ℕ, List, length, sym, ◌∙◌, ap, arith, Some, slice_get}
use Rattle.std.specs.Option.{option_map_or}
use Rattle.std.proofs.lemmas.List.Concat.{length-flat_map}
use Rattle.std.proofs.lemmas.List.FromFn.{length-map-range_with_len}
use Rattle.pssm_model.specs.declared.draft_setting.ElementRef.{ElementRef}
use Rattle.pssm_model.specs.declared.draft_setting.Draft.{Draft}
use Rattle.pssm_model.specs.declared.draft_setting.DraftParts.{DraftParts}
use Rattle.pssm_model.specs.DraftSettings.{IsFew, IsInRange}
use Rattle.pssm_heritage.specs.declared.kinds.ElementKind.{ElementKind}
use Rattle.pssm_heritage.specs.declared.kinds.ElementKind.TheVariants.{Vertex, Transition}
use Rattle.pssm_heritage.specs.Elements.{count_in}
use Rattle.pssm_heritage.specs.Numbers.{own_elements, elements_of, IsSiftedBy}
use Rattle.pssm_heritage.specs.Heritages.{Lineage, IsLineage, AreNumbersOf, Numbering}
use Rattle.pssm_heritage.specs.Chains.{IsChain}
use Rattle.pssm_redefine.proofs.SumLaws.{added, added_is}
use Rattle.pssm_redefine.proofs.ChainSums.{added_few, small_chain}

sifted_le : (P : ElementRef → Type 0) (es left : List ElementRef) → IsSiftedBy P es left → length left ≤ length es
sifted_le P _ _ IsSiftedBy.nothing = omega arith
sifted_le P _ _ (IsSiftedBy.taken {es = es} {left = left} p more) = omega (arith, sifted_le P es left more)
sifted_le P _ _ (IsSiftedBy.passed {es = es} {left = left} p more) = omega (arith, sifted_le P es left more)

own_at : (draft : Draft) (kind : ElementKind) (x : ℕ) (p : DraftParts) → slice_get draft.machines x ≡ Some p → length (own_elements draft kind x) ≡ count_in kind p
own_at draft kind x p is =
    length-map-range_with_len (λ i. let e : ElementRef = record { machine = x; element = i } in e) 0 (option_map_or (count_in kind) (slice_get draft.machines x) 0)
    ∙ ap (λ o. option_map_or (count_in kind) o 0) is

elements_few : (draft : Draft) (m : ℕ) (machines : List ℕ) (kind : ElementKind) → IsInRange draft → IsChain draft m machines → IsFew draft (count_in kind) m
    → length (elements_of draft kind machines) ≤ 65535
elements_few draft m machines kind range chain few =
    let sum = added_few draft m machines (λ x. length (own_elements draft kind x)) (count_in kind) range chain few (λ x p is. let e = own_at draft kind x p is in omega arith) in
    let same : length (elements_of draft kind machines) ≡ added (λ x. length (own_elements draft kind x)) machines =
    length-flat_map (own_elements draft kind) machines ∙ sym (added_is (λ x. length (own_elements draft kind x)) machines) in
    omega arith

firsts_few : (draft : Draft) (m : ℕ) (machines : List ℕ) (kind : ElementKind) (numbering : Numbering) → IsInRange draft → IsChain draft m machines
    → AreNumbersOf draft m machines kind numbering → IsFew draft (count_in kind) m → length numbering.firsts ≤ 65535
firsts_few draft m machines kind numbering range chain h few =
    let all = elements_few draft m machines kind range chain few in
    let less = sifted_le _ (elements_of draft kind machines) numbering.firsts h.order in
    omega arith

-- first forms of vertices
pub few_vertices : (draft : Draft) (m : ℕ) (lineage : Lineage) → IsInRange draft → IsLineage draft m lineage → length lineage.vertices.firsts ≤ 65535
few_vertices draft m lineage range h =
    firsts_few draft m lineage.machines Vertex lineage.vertices range h.chain h.vertices ((small_chain draft m lineage.machines range h.chain).vertices)

-- and of transitions
pub few_transitions : (draft : Draft) (m : ℕ) (lineage : Lineage) → IsInRange draft → IsLineage draft m lineage → length lineage.transitions.firsts ≤ 65535
few_transitions draft m lineage range h =
    firsts_few draft m lineage.machines Transition lineage.transitions range h.chain h.transitions ((small_chain draft m lineage.machines range h.chain).transitions)
