-- What a tally holds before an element.
use Rattle.std.proofs.Common.{◌≡◌, ◌≢◌, ◌↔◌, ◌⊎◌, ℕ, suc, inl, inr, List, [], ◌∷◌, ◌++◌, length, map, None, refl, sym, ap, subst, ◌∙◌}
use Rattle.std.specs.Prelude.{IsTrue, bytes_eq}
use Rattle.std.specs.List.{list_any}
use Rattle.std.proofs.lemmas.List.{map-append, length-map}
use Rattle.pssm_xml.specs.Documents.{Element}
use Rattle.pssm_roles.specs.Roles.{HasRole}
use Rattle.pssm_roles.specs.declared.role.Role.TheVariants as role
use Rattle.pssm_profile.specs.Kinds.{Kind, signals, classes, objects, IsOfKind, StandBefore, name_of}
use Rattle.pssm_profile.specs.Kinds.AreBefore.{none, one_more, other}
use Rattle.pssm_profile.specs.Flaws.{RepeatsName, PassesLimit, at_most}
use Rattle.pssm_profile.specs.Flaws.PassesLimit.{kind, parameters}
use Rattle.pssm_tally.specs.Tallies.{kind_meant, HasKind, AreNamesBefore, CountsTo, names_held}
use Rattle.pssm_tally.specs.declared.counted_kind.CountedKind.{CountedKind}
use Rattle.pssm_tally.specs.declared.counted_kind.CountedKind.TheVariants as counted
use Rattle.pssm_tally.specs.declared.tally.Tally.{Tally}
use Rattle.pssm_tally.specs.inner.Parameters.{PassesParameters}
use Rattle.pssm_tally.specs.inner.Steps.{IsWithName}
use Rattle.pssm_tally.proofs.BeforeLaws.{same_count, found, finds}

-- ---- names

pub first_names : (doc : List Element) (k : Kind) → AreNamesBefore doc k 0 []
first_names doc k = record { numbers = []; all = none; named = refl }

pub names_on : (doc : List Element) (k : Kind) (n : ℕ) (names : List (List ℕ)) → AreNamesBefore doc k n names → IsOfKind doc k n
    → AreNamesBefore doc k (suc n) (names ++ name_of doc n ∷ [])
names_on doc k n names are is = record {
  numbers = are.numbers ++ n ∷ [];
  all = one_more are.all is;
  named = ap (λ (l : List (List ℕ)). l ++ name_of doc n ∷ []) are.named ∙ sym (map-append (name_of doc) are.numbers (n ∷ []));
}

pub names_stay : (doc : List Element) (k : Kind) (n : ℕ) (names : List (List ℕ)) → AreNamesBefore doc k n names → (IsOfKind doc k n → ⊥)
    → AreNamesBefore doc k (suc n) names
names_stay doc k n names are free = record { numbers = are.numbers; all = other are.all free; named = are.named }

-- A name is among those before where it repeats one.
pub repeats_where : (doc : List Element) (n : ℕ) (k : Kind) (names : List (List ℕ)) → ((j : Kind) → IsOfKind doc j n → k ≡ j) → IsOfKind doc k n
    → AreNamesBefore doc k n names
    → IsTrue (list_any (bytes_eq (name_of doc n)) names) ↔ RepeatsName doc n
repeats_where doc n k names one is are = (there, back) where
  same : list_any (bytes_eq (name_of doc n)) names ≡ list_any (bytes_eq (name_of doc n)) (map (name_of doc) are.numbers)
  same = ap (list_any (bytes_eq (name_of doc n))) are.named

  there : IsTrue (list_any (bytes_eq (name_of doc n)) names) → RepeatsName doc n
  there so =
      let m = found (IsOfKind doc k) (name_of doc) (name_of doc n) are.all (sym same ∙ so) in
      record { kind = k; of = is; earlier = m.0; before = m.1; same = (m.2, m.3) }

  back : RepeatsName doc n → IsTrue (list_any (bytes_eq (name_of doc n)) names)
  back r =
      let equal = one r.kind r.of in
      same ∙ finds (IsOfKind doc k) (name_of doc) (name_of doc n) are.all r.earlier r.before
      (subst (λ (j : Kind). IsOfKind doc j r.earlier) (sym equal) r.same.0) r.same.1

-- ---- numbers

pub stand_before : (doc : List Element) (k : Kind) (n : ℕ) (names : List (List ℕ)) → AreNamesBefore doc k n names
    → StandBefore (IsOfKind doc k) n (length names)
stand_before doc k n names are = record { numbers = are.numbers; all = are.all; counted = sym (ap length are.named ∙ length-map are.numbers (name_of doc)) }

-- The limit is passed where as many stand before as there can be.
pub passes_where : (doc : List Element) (n : ℕ) (k : Kind) (count : ℕ) → ((j : Kind) → IsOfKind doc j n → k ≡ j) → (HasRole doc n role.Parameter → ⊥)
    → IsOfKind doc k n
    → StandBefore (IsOfKind doc k) n count → (count ≡ at_most k) ↔ PassesLimit doc n
passes_where doc n k count one free is stand = (λ full. kind k is (subst (StandBefore (IsOfKind doc k) n) full stand), back) where
  back : PassesLimit doc n → count ≡ at_most k
  back (kind j has more) =
      let equal : k ≡ j = one j has in
      same_count (IsOfKind doc k) n count (at_most k) stand (subst (λ (i : Kind). StandBefore (IsOfKind doc i) n (at_most i)) (sym equal) more)
  back (parameters signal own more) = absurd (free own.0)

pub passes_other : (doc : List Element) (n : ℕ) → HasKind doc n None → PassesParameters doc n ↔ PassesLimit doc n
passes_other doc n free = (λ p. parameters p.signal p.own p.before, back) where
  back : PassesLimit doc n → PassesParameters doc n
  back (kind j has more) = absurd (free j has)
  back (parameters signal own more) = record { signal = signal; own = own; before = more }

-- ---- tallies

kinds_differ : (k j : CountedKind) → kind_meant k ≡ kind_meant j → k ≡ j
kinds_differ counted.Signal counted.Signal is = refl
kinds_differ counted.Signal counted.Class is = absurd cc
kinds_differ counted.Signal counted.Object is = absurd cc
kinds_differ counted.Class counted.Signal is = absurd cc
kinds_differ counted.Class counted.Class is = refl
kinds_differ counted.Class counted.Object is = absurd cc
kinds_differ counted.Object counted.Signal is = absurd cc
kinds_differ counted.Object counted.Class is = absurd cc
kinds_differ counted.Object counted.Object is = refl

same_kind : (k j : CountedKind) → (k ≡ j) ⊎ (k ≢ j)
same_kind counted.Signal counted.Signal = inl refl
same_kind counted.Signal counted.Class = inr (λ is. absurd cc)
same_kind counted.Signal counted.Object = inr (λ is. absurd cc)
same_kind counted.Class counted.Signal = inr (λ is. absurd cc)
same_kind counted.Class counted.Class = inl refl
same_kind counted.Class counted.Object = inr (λ is. absurd cc)
same_kind counted.Object counted.Signal = inr (λ is. absurd cc)
same_kind counted.Object counted.Class = inr (λ is. absurd cc)
same_kind counted.Object counted.Object = inl refl

pub counts_other : (doc : List Element) (n : ℕ) (tally : Tally) → HasKind doc n None → CountsTo doc n tally → CountsTo doc (suc n) tally
counts_other doc n tally free counts k = names_stay doc (kind_meant k) n (names_held tally k) (counts k) (free (kind_meant k))

pub counts_on : (doc : List Element) (n : ℕ) (tally more : Tally) (k : CountedKind) (name : List ℕ) → ((j : Kind) → IsOfKind doc j n → kind_meant k ≡ j)
    → IsOfKind doc (kind_meant k) n → name ≡ name_of doc n → CountsTo doc n tally → IsWithName tally k name more → CountsTo doc (suc n) more
counts_on doc n tally more k name one is called counts with_name j = by_kind (same_kind j k) where
  by_kind : (j ≡ k) ⊎ (j ≢ k) → AreNamesBefore doc (kind_meant j) (suc n) (names_held more j)
  by_kind (inl same) =
      let held : names_held more k ≡ names_held tally k ++ name_of doc n ∷ [] = with_name.own ∙ ap (λ (w : List ℕ). names_held tally k ++ w ∷ []) called in
      let names = subst (AreNamesBefore doc (kind_meant k) (suc n)) (sym held) (names_on doc (kind_meant k) n (names_held tally k) (counts k) is) in
      subst (λ (i : CountedKind). AreNamesBefore doc (kind_meant i) (suc n) (names_held more i)) (sym same) names
  by_kind (inr differ) =
      let free : IsOfKind doc (kind_meant j) n → ⊥ = λ has. differ (kinds_differ j k (sym (one (kind_meant j) has))) in
      subst (AreNamesBefore doc (kind_meant j) (suc n)) (sym (with_name.others j differ)) (names_stay doc (kind_meant j) n (names_held tally j) (counts j) free)

pub first_tally : (tally : Tally) → tally.signals ≡ [] → tally.classes ≡ [] → tally.objects ≡ [] → (doc : List Element) → CountsTo doc 0 tally
first_tally tally one two three doc counted.Signal = subst (AreNamesBefore doc signals 0) (sym one) (first_names doc signals)
first_tally tally one two three doc counted.Class = subst (AreNamesBefore doc classes 0) (sym two) (first_names doc classes)
first_tally tally one two three doc counted.Object = subst (AreNamesBefore doc objects 0) (sym three) (first_names doc objects)
