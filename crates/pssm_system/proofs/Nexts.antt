-- What an object may do next is what may follow in the setting.
use Rattle.std.proofs.Common.{◌≡◌, ◌<◌, ◌⊎◌, ℕ, List, [], length, Option, Some, None, IsSomeAnd, unwrap_or, slice_get, refl, sym, ap, subst, ◌∙◌, inl, inr, ⊎_elim}
use Rattle.std.proofs.lemmas.Option.{get_or_from_slice_get}
use Rattle.pssm_model.proofs.ElementLaws.{some_at, some_and}
use Rattle.pssm_model.specs.declared.steps.Firing.{Firing}
use Rattle.pssm_semantics.specs.declared.entry.ObjectId.{ObjectId}
use Rattle.pssm_semantics.specs.declared.entry.Entry.{Entry}
use Rattle.pssm_semantics.specs.declared.entry.Entry.TheVariants.{Take}
use Rattle.pssm_semantics.specs.declared.entry.Rule.{Rule}
use Rattle.pssm_semantics.specs.declared.entry.Rule.TheVariants.{A1, A2, A3, A4, A5, A6, A12}
use Rattle.pssm_semantics.specs.declared.setting.Class.{Class}
use Rattle.pssm_semantics.specs.declared.setting.Setting.{Setting}
use Rattle.pssm_semantics.specs.Settings.{class_of}
use Rattle.pssm_semantics.specs.Journal.{IsPost, object_of}
use Rattle.pssm_semantics.specs.Pool.{told_by}
use Rattle.pssm_semantics.specs.Known.{NamesKnown}
use Rattle.pssm_semantics.specs.Rules.{IsFirstWaiting, KeepsPool, KeepsOwn, taken_by}
use Rattle.pssm_semantics.specs.Admissible.{MayFollow}
use Rattle.pssm_semantics.specs.Proper.{IsWellFormed}
use Rattle.pssm_semantics_laws.proofs.Outcomes.{known_outs}
use Rattle.pssm_pool.specs.declared.pools.Waiting.{Waiting}
use Rattle.pssm_object.specs.Standing.{Standing}
use Rattle.pssm_object.specs.Following.{NamesPlaces, NamesSignal, AwaitsSignal, IsCandidate, IsTold, KeepsRules, stimulus_of, stimulus_for}
use Rattle.pssm_system.specs.declared.situation.Situation.{Situation}
use Rattle.pssm_system.specs.inner.Deferring.{ComesFirst, IsFirstFree, IsFirstFor, if_numbered, ComesWith}
use Rattle.pssm_system.specs.inner.Keeping.{StandsSo}
use Rattle.pssm_system.specs.inner.Judging.{IsKnown, Says, IsVerdict}
use Rattle.pssm_system.proofs.Following.{IsNoTake, own_alike, object_there, pool_kept, names_of}
use Rattle.pssm_system.proofs.Signals.{IsFirst, first-told, may-take, taken-first, numbered-so, numbered-is}
use Rattle.pssm_system.proofs.Judged.{TakeOrNot, is_take, no_take, take_or_not, no_pool, comes_none, taken_none, names_none, told_none, known_by, IsPart, is_part, shown, asked, same_verdict, verdict_alone}

-- the signal that comes with an entry: of a take the first that waits and is not deferred, with the number that the take names
pub record HasSignal (J : List Entry) (class : Class) (o : ObjectId) (e : Entry) (signal : Option Waiting) : Type 0 where
  pub pool : KeepsPool class J e
  pub signal_is : taken_by (told_by J) e ≡ stimulus_for o signal
  pub names : NamesSignal signal e
  pub told : IsTold J (stimulus_for o signal) e

module _ {setting : Setting} {J : List Entry} {pools : List (List Waiting)} {o : ObjectId} {class : Class} {x : Standing} (p : IsPart setting J pools o class x) where
  pub no_take-has : (e : Entry) (signal : Option Waiting) → IsNoTake e → signal ≡ None → HasSignal J class o e signal
  no_take-has e signal free none = record {
    pool = no_pool class J e free;
    signal_is = taken_none (told_by J) e free ∙ sym (ap (stimulus_for o) none);
    names = names_none signal e free;
    told = told_none J (stimulus_for o signal) e free;
  }

  -- what the object may do next without a signal may follow
  pub alone_follows : (e : Entry) → IsCandidate o None e → NamesPlaces class.machine e → KeepsRules class x None J e → IsNoTake e → MayFollow setting J e
  alone_follows e c places keeps free =
      let known : NamesKnown setting class e =
      known_by setting class e c.no_post places
      (known_outs setting class p.fits o (object_there setting o class p.class_is) (told_by J) J e c.own (keeps A12)) in
      let none = no_take-has e None free refl in
      λ rule. asked p None e c.own known none.pool none.signal_is rule (keeps rule)

  -- where the object waits for no signal, no take of it may follow
  no_take_there : (AwaitsSignal class.machine J o → ⊥) → (number : ℕ) (firing : Firing) → MayFollow setting J (Take o number firing) → ⊥
  no_take_there still number firing may = still (record {
    living = may A2 class p.class_is;
    started = may A3 class p.class_is;
    finished = may A4 class p.class_is;
    empty = may A5 class p.class_is;
  })

  -- and what may follow the object may do next without a signal
  pub follows_alone : (AwaitsSignal class.machine J o → ⊥) → (e : Entry) → object_of e ≡ o → (IsPost e → ⊥) → MayFollow setting J e
      → IsCandidate o None e × KeepsRules class x None J e
  follows_alone still e own no_post may = by (take_or_not e)
    where
      here : class_of setting (object_of e) ≡ Some class
      here = ap (λ q. class_of setting q) own ∙ p.class_is

      by : TakeOrNot e → IsCandidate o None e × KeepsRules class x None J e
      by (no_take free) =
          let has : HasSignal J class o e None = no_take-has e None free refl in (
            record { own = own; no_post = no_post; names = names_none None e free },
            λ rule. shown p None e own (names_of setting J e class here (may A1)) has.pool has.signal_is rule (may rule),
          )
      by (is_take q number firing is) =
          let owner : q ≡ o = sym (ap object_of is) ∙ own in
          let at : e ≡ Take o number firing = is ∙ ap (λ r. Take r number firing) owner in
          absurd (no_take_there still number firing (subst (MayFollow setting J) at may))

  -- the first signal that waits and is not deferred
  module _ {first : Option Waiting} (f : IsFirst pools o class x first) where
    take-has : (number : ℕ) (firing : Firing) (w : Waiting) → first ≡ Some w → number ≡ w.number → HasSignal J class o (Take o number firing) (Some w)
    take-has number firing w is same =
        let comes : ComesFirst class x f.pool w = subst (IsFirstFree class x f.pool) is f.first_is in
        let told : told_by J number ≡ Some (stimulus_of o w) = ap (told_by J) same ∙ first-told p.pools_are o f.pool f.there class x p.object w comes in
        record {
          pool = subst (IsFirstWaiting class J o) (sym same) (may-take p.pools_are o f.pool f.there class x p.object w comes);
          signal_is = told;
          names = same;
          told = told;
        }

    -- no other may be taken
    no_other : (number : ℕ) (firing : Firing) → KeepsPool class J (Take o number firing) → (w : Waiting) × (first ≡ Some w) × (number ≡ w.number)
    no_other number firing pool = taken-first p.pools_are o f.pool f.there class x p.object first f.first_is number pool

    -- a take comes with the first signal, or is a take of another one
    pub of_take : (number : ℕ) (firing : Firing) (signal : Option Waiting) → if_numbered number first ≡ signal
        → HasSignal J class o (Take o number firing) signal ⊎ ((signal ≡ None) × (KeepsPool class J (Take o number firing) → ⊥))
    of_take number firing None none =
        inr (
          refl,
          λ pool.
              let at = no_other number firing pool in
              let clash : None ≡ Some at.0 = sym none ∙ ap (if_numbered number) at.1 ∙ numbered-so number at.0 at.2 in
              cc,
        )
    of_take number firing (Some w) there = let at = numbered-is number first w there in inl (take-has number firing w at.0 at.1)

    -- an entry that names the first signal, if it is a take
    names_first : (e : Entry) → object_of e ≡ o → NamesSignal first e → TakeOrNot e → IsNoTake e ⊎ HasSignal J class o e first
    names_first e own names (no_take free) = inl free
    names_first e own names (is_take q number firing is) =
        let owner : q ≡ o = sym (ap object_of is) ∙ own in
        let here : e ≡ Take o number firing = is ∙ ap (λ r. Take r number firing) owner in
        let at = some_and (λ (w : Waiting). number ≡ w.number) first (subst (NamesSignal first) here names) in
        inr (subst (λ g. HasSignal J class o g first) (sym here)
        (subst (HasSignal J class o (Take o number firing)) (sym at.1) (take-has number firing at.0 at.1 at.2)))

    there : o.0 < length setting.objects
    there = object_there setting o class p.class_is

    -- what the object may do next may follow
    pub next_follows : (e : Entry) → IsCandidate o first e → NamesPlaces class.machine e → KeepsRules class x first J e → MayFollow setting J e
    next_follows e c places keeps =
        let known : NamesKnown setting class e =
        known_by setting class e c.no_post places (known_outs setting class p.fits o there (told_by J) J e c.own (keeps A12)) in
        ⊎_elim
        (λ free.
        let none = no_take-has e None free refl in
        λ rule. asked p None e c.own known none.pool none.signal_is rule
        (own_alike class (told_by J) (stimulus_for x.own first) (stimulus_for x.own None) J rule e free (keeps rule)))
        (λ has. λ rule. asked p first e c.own known has.pool has.signal_is rule (keeps rule))
        (names_first e c.own c.names (take_or_not e))

    -- and what may follow the object may do next
    pub follows_next : (e : Entry) → object_of e ≡ o → (IsPost e → ⊥) → MayFollow setting J e → IsCandidate o first e × KeepsRules class x first J e
    follows_next e own no_post may = by (take_or_not e)
      where
        here : class_of setting (object_of e) ≡ Some class
        here = ap (λ q. class_of setting q) own ∙ p.class_is

        known : NamesKnown setting class e
        known = names_of setting J e class here (may A1)

        with_signal : (signal : Option Waiting) → HasSignal J class o e signal → (rule : Rule) → KeepsOwn class (told_by J) (stimulus_for x.own signal) rule J e
        with_signal signal has rule = shown p signal e own known has.pool has.signal_is rule (may rule)

        by : TakeOrNot e → IsCandidate o first e × KeepsRules class x first J e
        by (no_take free) = (
          record { own = own; no_post = no_post; names = names_none first e free },
          λ rule. own_alike class (told_by J) (stimulus_for x.own None) (stimulus_for x.own first) J rule e free
              (with_signal None (no_take-has e None free refl) rule),
        )
        by (is_take q number firing is) =
            let owner : q ≡ o = sym (ap object_of is) ∙ own in
            let at : e ≡ Take o number firing = is ∙ ap (λ r. Take r number firing) owner in
            let one = no_other number firing (subst (KeepsPool class J) at (pool_kept setting J e class here (may A6))) in
            let has : HasSignal J class o e (Some one.0) =
            subst (λ g. HasSignal J class o g (Some one.0)) (sym at) (take-has number firing one.0 one.1 one.2) in
            let has_first : HasSignal J class o e first = subst (HasSignal J class o e) (sym one.1) has in (
              record { own = own; no_post = no_post; names = has_first.names },
              with_signal first has_first,
            )

-- The first signal of an object of the setting is the first of its pool.
pub first_in : {setting : Setting} {s : Situation} {J : List Entry} → StandsSo setting J s → (o : ObjectId) (class : Class) (x : Standing)
    → class_of setting o ≡ Some class → slice_get s.objects.items o.0 ≡ Some x → (first : Option Waiting) → IsFirstFor setting s o first
    → IsFirst s.pools.waiting o class x first
first_in {setting = setting} {s = s} stands o class x is at first f =
    let pool = some_at s.pools.waiting o.0 (subst (λ n. o.0 < n) (sym stands.pools.count) (object_there setting o class is)) in
    record {
      pool = pool.0;
      there = pool.1;
      first_is = subst (λ (ws : List Waiting). IsFirstFree class x ws first) (get_or_from_slice_get s.pools.waiting o.0 pool.0 [] pool.1) (f class x is at);
    }

-- The verdict, where what the object says is known.
module _ {setting : Setting} (b : IsWellFormed setting) {J : List Entry} {s : Situation} (stands : StandsSo setting J s) (e : Entry) (known : IsKnown setting e)
    (answer : Option Rule) (signal : Option Waiting) (comes : ComesWith setting s e signal)
    (says : (class : Class) (x : Standing) → class_of setting (object_of e) ≡ Some class → slice_get s.objects.items (object_of e).0 ≡ Some x
    → Says class x signal e answer) where
  at : (x : Standing) × (slice_get s.objects.items (object_of e).0 ≡ Some x)
  at = some_at s.objects.items (object_of e).0
      (subst (λ n. (object_of e).0 < n) (sym stands.objects.count) (object_there setting (object_of e) known.0 known.1))

  part : IsPart setting J s.pools.waiting (object_of e) known.0 at.0
  part = is_part b stands.objects stands.pools (object_of e) known.0 at.0 known.1 at.1

  says_here : Says known.0 at.0 signal e answer
  says_here = says known.0 at.0 known.1 at.1

  -- it comes with its signal, or is a take of another signal than the first
  has_signal : HasSignal J known.0 (object_of e) e signal
      ⊎ ((number : ℕ) × (firing : Firing) × (e ≡ Take (object_of e) number firing) × (signal ≡ None) × (KeepsPool known.0 J e → ⊥))
  has_signal = by (take_or_not e)
    where
      by : TakeOrNot e → HasSignal J known.0 (object_of e) e signal
          ⊎ ((number : ℕ) × (firing : Firing) × (e ≡ Take (object_of e) number firing) × (signal ≡ None) × (KeepsPool known.0 J e → ⊥))
      by (no_take free) = inl (no_take-has part e signal free (comes_none setting s e signal free comes))
      by (is_take q number firing is) =
          let here : e ≡ Take (object_of e) number firing = is ∙ ap (λ r. Take r number firing) (sym (ap object_of is)) in
          let with : ComesWith setting s (Take (object_of e) number firing) signal = subst (λ g. ComesWith setting s g signal) here comes in
          ⊎_elim
          (λ has. inl (subst (λ g. HasSignal J known.0 (object_of e) g signal) (sym here) has))
          (λ none. inr (number, firing, here, none.0, λ pool. none.1 (subst (KeepsPool known.0 J) here pool)))
          (of_take part (first_in stands (object_of e) known.0 at.0 known.1 at.1 with.0 with.1) number firing signal (sym with.2))

  pub judged : (IsNoTake e ⊎ ((w : Waiting) × (signal ≡ Some w))) → IsVerdict setting J e answer
  judged why =
      ⊎_elim
      (λ has. same_verdict part signal e refl known.2 has.pool has.signal_is answer says_here)
      (λ other. absurd (⊎_elim
      (λ free. subst IsNoTake other.2 free)
      (λ some. let clash : None ≡ Some some.0 = sym other.3 ∙ some.1 in cc)
      why))
      has_signal

  pub judged_alone : (q : ObjectId) (number : ℕ) (firing : Firing) → e ≡ Take q number firing → signal ≡ None → IsVerdict setting J e (Some (unwrap_or answer A6))
  judged_alone q number firing is none =
      ⊎_elim
      (λ has. absurd (let named = subst (NamesSignal signal) is has.names in subst (λ o. IsSomeAnd o (λ (w : Waiting). number ≡ w.number)) none named))
      (λ other.
      let here : e ≡ Take (object_of e) other.0 other.1 = other.2 in
      subst (λ g. IsVerdict setting J g (Some (unwrap_or answer A6))) (sym here)
      (verdict_alone part other.0 other.1 (subst (NamesKnown setting known.0) here known.2) (λ pool. other.4 (subst (KeepsPool known.0 J) (sym here) pool)) answer
      (subst (λ g. Says known.0 at.0 None g answer) here (subst (λ o. Says known.0 at.0 o e answer) none says_here))))
      has_signal
