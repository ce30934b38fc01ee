-- The table of last forms and the first breach, side by side: at the start, one element more, one machine more, and at the end.
use Rattle.std.proofs.Common.{◌<◌, ◌+◌, ℕ, None, Option, List, length, get_or}
use Rattle.pssm_model.specs.declared.draft_setting.ElementRef.{ElementRef}
use Rattle.pssm_model.specs.declared.draft_setting.Draft.{Draft}
use Rattle.pssm_heritage.specs.declared.kinds.ElementKind.{ElementKind}
use Rattle.pssm_heritage.specs.declared.kinds.RedefRule.{RedefRule}
use Rattle.pssm_heritage.specs.Heritages.{Lineage, IsLineage, numbering_of}
use Rattle.pssm_heritage.specs.inner.Tables.{element_at, own_count}
use Rattle.pssm_breaches.specs.declared.breach.Breach.{Breach}
use Rattle.pssm_breaches.specs.Broken.{IsBroken}
use Rattle.pssm_breaches.specs.Latest.{AreLatestBefore}
use Rattle.pssm_breaches.specs.inner.Walks.{after, IsFirstOfTwo, IsFirstIfAny, IsOfKind, AreSearched, breach_of}
use Rattle.pssm_breaches.proofs.TableLaws.{at_start, next_machine}
use Rattle.pssm_breaches.proofs.SearchLaws.{starts, one_more, next, ends}

module _ (draft : Draft) (m : ℕ) (kind : ElementKind) (lineage : Lineage) (h : IsLineage draft m lineage) where
  pub search_starts : AreSearched draft m kind lineage 0 0 (numbering_of kind lineage).firsts None
  search_starts = record { table = λ lt. at_start draft m kind lineage h lt; first = starts draft m kind lineage.machines }

  pub search_goes_on : (k i : ℕ) (latest later : List ElementRef) (broken : Option RedefRule) (found first : Option Breach) → AreSearched draft m kind lineage k i latest found
      → IsBroken draft m kind (element_at lineage.machines k i) broken → AreLatestBefore draft kind (after (element_at lineage.machines k i)) (numbering_of kind lineage).firsts later
      → IsFirstOfTwo draft found (breach_of kind (element_at lineage.machines k i) broken) first → AreSearched draft m kind lineage k (i + 1) later first
  search_goes_on k i latest later broken found first s is table two = record {
    table = λ lt. table;
    first = one_more draft m kind lineage.machines k i broken found first s.first is two;
  }

  pub search_next : (k : ℕ) (latest : List ElementRef) (found : Option Breach) → k < length lineage.machines
      → AreSearched draft m kind lineage k (own_count draft kind (get_or lineage.machines k 0)) latest found → AreSearched draft m kind lineage (k + 1) 0 latest found
  search_next k latest found lt s = record {
    table = λ more. next_machine draft m kind lineage h k latest more (s.table lt);
    first = next draft m kind lineage.machines k found lt s.first;
  }

  pub search_ends : (latest : List ElementRef) (found : Option Breach) → AreSearched draft m kind lineage (length lineage.machines) 0 latest found
      → IsFirstIfAny draft m (IsOfKind draft m kind) found
  search_ends latest found s = ends draft m kind lineage.machines found h.chain s.first
