-- What a machine inherits is known, or it extends a machine that extends itself.
use Rattle.std.proofs.Common.{◌≡◌, ◌⊎◌, ◌+◌, ◌<◌, ◌≤◌, ℕ, zero, suc, Bool, true, false, List, [], ◌∷◌, ◌++◌, length, take, replicate, set, Option, Some, None, get_or, refl, ap, subst, ◌∙◌, inl, inr, ⊎_elim, arith, slice_get, option_and_then, append-nil, add-one, sum_by}
use Rattle.std.proofs.lemmas.Bool.{cases_lt}
use Rattle.std.proofs.lemmas.List.Elements.{Contains-append_left, Contains-append_right, Contains-append_cases}
use Rattle.pssm_model.specs.declared.draft_setting.ElementRef.{ElementRef}
use Rattle.pssm_model.specs.declared.draft_setting.Draft.{Draft}
use Rattle.pssm_model.specs.declared.draft_setting.DraftParts.{DraftParts}
use Rattle.pssm_model.specs.DraftSettings.{IsInRange}
use Rattle.pssm_model.proofs.ElementLaws.{some_at}
use Rattle.pssm_heritage.specs.declared.fault.RedefFault.{RedefFault}
use Rattle.pssm_heritage.specs.declared.fault.RedefFault.TheVariants as faults
use Rattle.pssm_heritage.specs.declared.kinds.ElementKind.{ElementKind}
use Rattle.pssm_heritage.specs.declared.kinds.ElementKind.TheVariants.{Region, Vertex, Transition}
use Rattle.pssm_heritage.specs.Becoming.{Became}
use Rattle.pssm_heritage.specs.Chains.{IsChain, IsFirstCyclic}
use Rattle.pssm_heritage.specs.Faults.{IsCycleFault}
use Rattle.pssm_heritage.specs.Heritages.{Numbering, AreNumbersOf, Lineage, IsLineage}
use Rattle.pssm_heritage.specs.Numbers.{elements_of, IsSiftedBy}
use Rattle.pssm_heritage.specs.inner.Walks.{unseen, IsWalking, HasWalked, IsLeast}
use Rattle.pssm_heritage.specs.inner.Tables.{AreChain, element_at, own_count, above, with_number, IsNumbering}
use Rattle.pssm_heritage.specs.inner.Tables.IsNumbered.{inherits, begins}
use Rattle.pssm_heritage.proofs.ChainLaws.{is_one, the_one, nothing_in}
use Rattle.pssm_heritage.proofs.RowLaws.{take_all}
use Rattle.pssm_heritage.proofs.WalkLaws.{walk_starts, walk_goes_on, walk_ends, walk_closes, fewer_unseen, first_of_round}
use Rattle.pssm_heritage.proofs.NumberLaws.{or_below, machine_below, cut_of, goes_on, next_machine, numbers_start, whole_visited, visited_whole}

-- ---- a way up ends, or comes back

module _ (draft : Draft) (m : ℕ) (range : IsInRange draft) where
  abbrev HasWay : Type 0
  HasWay = (path : List ℕ) × (back : Option ℕ) × HasWalked draft m path back

  -- where fewer machines than this are unseen
  abbrev WalksOn : ℕ → Type 0
  WalksOn fewer = (at : ℕ) (path : List ℕ) (seen : List Bool) → IsWalking draft m path at seen → sum_by unseen seen < fewer → HasWay

  one_step : (fewer : ℕ) → WalksOn fewer → WalksOn (suc fewer)
  one_step fewer more at path seen h lt = by_seen (get_or seen at false) refl
    where
      by_base : (o : Option ℕ) → get_or seen at false ≡ false → option_and_then (λ (p : DraftParts). p.extends) (slice_get draft.machines at) ≡ o → HasWay
      by_base None new none = (path ++ at ∷ [], None, walk_ends draft m at path seen h none)
      by_base (Some base) new some =
          let less = fewer_unseen seen at (let w = h.width in let b = h.below in omega arith) new in
          more base (path ++ at ∷ []) (set seen at true) (walk_goes_on draft m at base path seen range h some) (omega arith)

      by_seen : (b : Bool) → get_or seen at false ≡ b → HasWay
      by_seen true e = (path, Some at, walk_closes draft m at path seen h e)
      by_seen false e = by_base (option_and_then (λ (p : DraftParts). p.extends) (slice_get draft.machines at)) e refl

  walks_on : (fewer : ℕ) → WalksOn fewer
  walks_on zero at path seen h lt = absurd (omega arith)
  walks_on (suc fewer) at path seen h lt = one_step fewer (walks_on fewer) at path seen h lt

  some_way : m < length draft.machines → HasWay
  some_way lt =
      let seen : List Bool = replicate (length draft.machines) false in
      walks_on (sum_by unseen seen + 1) m [] seen (walk_starts draft m lt) (omega arith)

-- ---- the least of some numbers

one_less : (first other least : ℕ) (others : List ℕ) → IsLeast first others least → (other < least) ⊎ (least ≤ other) → (n : ℕ) × IsLeast first (other ∷ others) n
one_less first other least others h by =
    ⊎_elim
    (λ lt. (
      other,
      record {
        is = inr (Contains-append_left (other ∷ []) others other (is_one other other refl));
        below_first = let b = h.below_first in omega arith;
        below = λ x is. ⊎_elim
            (λ same. let e = the_one other x same in omega arith)
            (λ on. let b = h.below x on in omega arith)
            (Contains-append_cases (other ∷ []) others x is);
      },
    ))
    (λ le. (
      least,
      record {
        is = ⊎_elim (λ e. inl e) (λ on. inr (Contains-append_right (other ∷ []) others least on)) h.is;
        below_first = h.below_first;
        below = λ x is. ⊎_elim
            (λ same. let e = the_one other x same in omega arith)
            (λ on. h.below x on)
            (Contains-append_cases (other ∷ []) others x is);
      },
    ))
    by

some_least : (first : ℕ) (others : List ℕ) → (n : ℕ) × IsLeast first others n
some_least first [] = (first, record { is = inl refl; below_first = omega arith; below = λ x is. absurd (nothing_in x is) })
some_least first (other ∷ others) = let least = some_least first others in one_less first other least.0 others least.1 (cases_lt other least.0)

-- ---- the numbers of the elements

module _ (draft : Draft) (kind : ElementKind) (machines : List ℕ) (range : IsInRange draft) (chain : AreChain draft machines) where
  abbrev AreNoted : ℕ → ℕ → Type 0
  AreNoted k i = (rows : List (List ℕ)) × (firsts : List ElementRef) × IsNumbering draft kind machines k i rows firsts

  one_noted : (k i : ℕ) → k < length machines → i < own_count draft kind (get_or machines k 0) → AreNoted k i → AreNoted k (i + 1)
  one_noted k i lt less noted = by_above (above draft kind noted.0 (element_at machines k i)) refl
    where
      by_above : (o : Option ℕ) → above draft kind noted.0 (element_at machines k i) ≡ o → AreNoted k (i + 1)
      by_above None none = (
        with_number noted.0 (get_or machines k 0) (length noted.1),
        noted.1 ++ element_at machines k i ∷ [],
        goes_on draft kind machines k i noted.0 noted.1 range (cut_of draft machines k chain lt) noted.2 (length noted.1) (noted.1 ++ element_at machines k i ∷ []) lt
            (machine_below draft machines k range chain lt) less (begins none refl refl),
      )
      by_above (Some n) some = (
        with_number noted.0 (get_or machines k 0) n,
        noted.1,
        goes_on draft kind machines k i noted.0 noted.1 range (cut_of draft machines k chain lt) noted.2 n noted.1 lt
            (machine_below draft machines k range chain lt) less (inherits some refl),
      )

  -- those of one machine
  row_noted : (k : ℕ) → k < length machines → AreNoted k 0 → (i : ℕ) → i ≤ own_count draft kind (get_or machines k 0) → AreNoted k i
  row_noted k lt noted zero le = noted
  row_noted k lt noted (suc i) le = subst (AreNoted k) (add-one i) (one_noted k i lt (omega arith) (row_noted k lt noted i (omega arith)))

  machine_noted : (k : ℕ) → k < length machines → AreNoted k 0 → AreNoted (k + 1) 0
  machine_noted k lt noted =
      let row = row_noted k lt noted (own_count draft kind (get_or machines k 0)) (omega arith) in
      (row.0, row.1, next_machine draft kind machines k row.0 row.1 range chain lt row.2)

  all_noted : (k : ℕ) → k ≤ length machines → AreNoted k 0
  all_noted zero le = (replicate (length draft.machines) [], [], numbers_start draft kind machines)
  all_noted (suc k) le = subst (λ n. AreNoted n 0) (add-one k) (machine_noted k (omega arith) (all_noted k (omega arith)))

pub some_numbering : (draft : Draft) (m : ℕ) (machines : List ℕ) (kind : ElementKind) → IsInRange draft → IsChain draft m machines
    → (numbering : Numbering) × AreNumbersOf draft m machines kind numbering
some_numbering draft m machines kind range chain = (
  record { rows = noted.0; firsts = noted.1 },
  record {
    sound = λ e n is. let s = noted.2.sound e n is in (visited_whole draft kind m machines e chain s.0, s.0.element, s.1);
    all = λ e is up. noted.2.all e (whole_visited draft kind m machines e chain is up);
    single = noted.2.single;
    order = subst (λ es. IsSiftedBy (λ x. Became draft kind x x) es noted.1)
        (append-nil (elements_of draft kind (take (length machines) machines)) ∙ ap (elements_of draft kind) (take_all machines))
        noted.2.order;
  },
)
  where
    noted : AreNoted draft kind machines range (record { last = m; chain = chain }) (length machines) 0
    noted = all_noted draft kind machines range (record { last = m; chain = chain }) (length machines) (omega arith)

-- ---- the whole

pub lineage_of_chain : (draft : Draft) (m : ℕ) (machines : List ℕ) → IsInRange draft → IsChain draft m machines → (lineage : Lineage) × IsLineage draft m lineage
lineage_of_chain draft m machines range chain =
    let regions = some_numbering draft m machines Region range chain in
    let vertices = some_numbering draft m machines Vertex range chain in
    let transitions = some_numbering draft m machines Transition range chain in (
      record { machines = machines; regions = regions.0; vertices = vertices.0; transitions = transitions.0 },
      record { chain = chain; regions = regions.1; vertices = vertices.1; transitions = transitions.1 },
    )

circle_told : (draft : Draft) (m x : ℕ) → IsInRange draft → m < length draft.machines → IsFirstCyclic draft m x → (fault : RedefFault) × IsCycleFault draft m fault
circle_told draft m x range lt first =
    let parts = some_at draft.machines x (or_below draft m x range lt first.reached) in
    (faults.Cycle parts.0.id, (x, parts.0, first, parts.1, refl))

-- A machine has a lineage, or the fault of a circle.
pub lineage_or_circle : (draft : Draft) (m : ℕ) → IsInRange draft → m < length draft.machines
    → ((lineage : Lineage) × IsLineage draft m lineage) ⊎ ((fault : RedefFault) × IsCycleFault draft m fault)
lineage_or_circle draft m range lt = let way = some_way draft m range lt in by_end way.0 way.1 way.2
  where
    by_end : (path : List ℕ) (back : Option ℕ) → HasWalked draft m path back
        → ((lineage : Lineage) × IsLineage draft m lineage) ⊎ ((fault : RedefFault) × IsCycleFault draft m fault)
    by_end path None walked = inl (lineage_of_chain draft m _ range walked.ended)
    by_end path (Some back) walked =
        let round = some_way draft back range walked.ended.2 in
        let least = some_least back round.0 in
        inr (circle_told draft m least.0 range lt
        (first_of_round draft m back least.0 round.0 round.1 walked.ended.0 walked.ended.1 round.2 least.1))

pub some_lineage : (draft : Draft) (m : ℕ) → IsInRange draft → m < length draft.machines → ((lineage : Lineage) → IsLineage draft m lineage → ⊥)
    → ((fault : RedefFault) → IsCycleFault draft m fault → ⊥) → ⊥
some_lineage draft m range lt none_known none_told =
    ⊎_elim (λ known. none_known known.0 known.1) (λ told. none_told told.0 told.1) (lineage_or_circle draft m range lt)
