-- What was found for one object, as what may follow in the setting.
use Rattle.std.proofs.Common.{◌≡◌, ◌+◌, ◌↔◌, ℕ, List, length, Bool, true, false, IsTrue, MatchBool, Option, Some, None, Result, Ok, Err, IfOk, is_some, Bor, refl, sym, ap, subst, inl, inr, arith}
use Rattle.std.specs.Option.{option_copied}
use Rattle.std.proofs.lemmas.Bool.{false≢true}
use Rattle.pssm_semantics.specs.declared.entry.ObjectId.{ObjectId}
use Rattle.pssm_semantics.specs.declared.entry.Entry.{Entry}
use Rattle.pssm_semantics.specs.declared.setting.Class.{Class}
use Rattle.pssm_semantics.specs.declared.setting.Setting.{Setting}
use Rattle.pssm_semantics.specs.Journal.{object_of}
use Rattle.pssm_semantics.specs.Admissible.{IsQuiet}
use Rattle.pssm_semantics.specs.Proper.{IsWellFormed}
use Rattle.pssm_pool.specs.declared.pools.Waiting.{Waiting}
use Rattle.pssm_object.specs.Standing.{Standing, StandsAfter}
use Rattle.pssm_object.specs.Following as objects
use Rattle.pssm_system.specs.declared.situation.Situation.{Situation}
use Rattle.pssm_system.specs.declared.choosing.Wanted.{Wanted}
use Rattle.pssm_system.specs.declared.choosing.Wanted.TheVariants.{AnyEntry}
use Rattle.pssm_system.specs.Tasks.{IsQuietOf}
use Rattle.pssm_system.specs.inner.Deferring.{IsFirstFor, IsAwaited}
use Rattle.pssm_system.specs.inner.Keeping.{StandsSo}
use Rattle.pssm_system.specs.inner.Choosing.{Finds, NoneMayCome, FindsAmong}
use Rattle.pssm_system.proofs.Judged.{IsPart, is_part}
use Rattle.pssm_system.proofs.Members.{IsMember}
use Rattle.pssm_system.proofs.Choices.{wanted-no_post, no_take_of, part, found-follows, none-follows, quiet-none, next-some, next-own, alone-own, handed_in, none-both, none-of_all}
use Rattle.pssm_system.proofs.Nexts.{alone_follows, follows_alone}

-- objects with the same number are one
same_number : (o p : ObjectId) → o.0 ≡ p.0 → o ≡ p
same_number o p e = ap (λ n. let x : ObjectId = record { 0 = n } in x) e

module _ {setting : Setting} (b : IsWellFormed setting) (s : Situation) {K : List Entry} {o : ObjectId} {class : Class} {x : Standing}
    (m : IsMember setting K s.objects.items o class x) (first : Option Waiting) (f : IsFirstFor setting s o first) where
  -- the entry that was found, or that there is none
  found_one : (wanted : Wanted) (chosen : Option Entry) → Finds class x first wanted chosen → FindsAmong setting s wanted o.0 (o.0 + 1) chosen
  found_one wanted None finds = λ J e stands le lt is may.
      none-follows b stands o class x m.class_is m.there first f wanted finds e (same_number (object_of e) o (omega arith)) is may
  found_one wanted (Some e) finds = record {
    wanted_is = finds.wanted_is;
    follows = λ J stands. found-follows b stands o class x m.class_is m.there first f wanted e finds;
  }

  pub found_of : {E : Type 0} (wanted : Wanted) (r : Result (Option Entry) E) → IfOk r (Finds class x first wanted)
      → IfOk r (FindsAmong setting s wanted o.0 (o.0 + 1))
  found_of wanted (Ok chosen) finds = found_one wanted chosen finds
  found_of wanted (Err none) finds = tt

  -- a quiet object has no next entry
  pub quiet_here : (waiting : Bool) → waiting ≡ is_some first
      → ((J : List Entry) (signal : Option Waiting) → StandsAfter class J x → objects.IsHandedIn waiting signal
      → MatchBool true (objects.IsQuiet class x signal J) (objects.HasNext class x signal J)) → NoneMayCome setting s AnyEntry o.0 (o.0 + 1)
  quiet_here waiting is says J e stands le lt no_post may =
      let p = part b stands o class x m.class_is m.there first f in
      let quiet = says J first p.object.stands (handed_in first waiting is) in
      quiet-none b stands o class x m.class_is m.there first f quiet e (same_number (object_of e) o (omega arith)) no_post may

  -- where an object is not quiet, the setting is not
  pub busy_here : (waiting : Bool) → waiting ≡ is_some first
      → ((J : List Entry) (signal : Option Waiting) → StandsAfter class J x → objects.IsHandedIn waiting signal
      → MatchBool false (objects.IsQuiet class x signal J) (objects.HasNext class x signal J)) → (J : List Entry) → StandsSo setting J s
      → IsTrue false ↔ IsQuiet setting J
  busy_here waiting is says J stands =
      let p = part b stands o class x m.class_is m.there first f in
      let next = says J first p.object.stands (handed_in first waiting is) in
      ((λ yes'. absurd (false≢true yes')), (λ quiet. absurd (next-some b stands o class x m.class_is m.there first f next quiet)))

  -- an object is quiet exactly where it says so
  pub quiet_own : (waiting : Bool) → waiting ≡ is_some first → (answer : Bool)
      → ((J : List Entry) (signal : Option Waiting) → StandsAfter class J x → objects.IsHandedIn waiting signal
      → MatchBool answer (objects.IsQuiet class x signal J) (objects.HasNext class x signal J)) → (J : List Entry) → StandsSo setting J s
      → IsTrue answer ↔ IsQuietOf setting J o
  quiet_own waiting is true says J stands =
      let p = part b stands o class x m.class_is m.there first f in
      let quiet = says J first p.object.stands (handed_in first waiting is) in
      ((λ yes. λ e own no_post may. quiet-none b stands o class x m.class_is m.there first f quiet e own no_post may), (λ told. refl))
  quiet_own waiting is false says J stands =
      let p = part b stands o class x m.class_is m.there first f in
      let next = says J first p.object.stands (handed_in first waiting is) in
      ((λ yes. absurd (false≢true yes)), (λ quiet. absurd (next-own b stands o class x m.class_is m.there first f next quiet)))

-- What was found without a signal for an object that waits for none.
module _ {setting : Setting} (b : IsWellFormed setting) (s : Situation) {K : List Entry} {o : ObjectId} {class : Class} {x : Standing}
    (m : IsMember setting K s.objects.items o class x) (still : objects.TellsWait class x false) where
  alone : (J : List Entry) → StandsSo setting J s → IsPart setting J s.pools.waiting o class x
  alone J stands = is_part b stands.objects stands.pools o class x m.class_is m.there

  awaits_none : (J : List Entry) → StandsSo setting J s → objects.AwaitsSignal class.machine J o → ⊥
  awaits_none J stands h =
      let p = alone J stands in
      false≢true ((still J p.object.stands).1 (subst (objects.AwaitsSignal class.machine J) (sym p.object.own) h))

  still_one : (wanted : Wanted) (chosen : Option Entry) → Finds class x None wanted chosen → FindsAmong setting s wanted o.0 (o.0 + 1) chosen
  still_one wanted None finds = λ J e stands le lt is may.
      let p = alone J stands in
      let next = follows_alone p (awaits_none J stands) e (same_number (object_of e) o (omega arith)) (wanted-no_post wanted e is) may in
      finds J e p.object.stands is (subst (λ q. objects.IsCandidate q None e) (sym p.object.own) next.0) next.1
  still_one wanted (Some e) finds = record {
    wanted_is = finds.wanted_is;
    follows = λ J stands.
        let p = alone J stands in
        alone_follows p e (subst (λ q. objects.IsCandidate q None e) p.object.own finds.candidate) finds.places (finds.keeps J p.object.stands)
        (no_take_of e finds.candidate.names);
  }

  pub still_found : {E : Type 0} (wanted : Wanted) (r : Result (Option Entry) E) → IfOk r (Finds class x None wanted)
      → IfOk r (FindsAmong setting s wanted o.0 (o.0 + 1))
  still_found wanted (Ok chosen) finds = still_one wanted chosen finds
  still_found wanted (Err none) finds = tt

-- what was found for the signal that the object waits for
pub awaited_found : {E : Type 0} {setting : Setting} (b : IsWellFormed setting) (s : Situation) {K : List Entry} {o : ObjectId} {class : Class} {x : Standing}
    (m : IsMember setting K s.objects.items o class x) (signal : Option Waiting) → IsAwaited setting s o signal → (wanted : Wanted)
    (r : Result (Option Entry) E) → IfOk r (Finds class x signal wanted) → IfOk r (FindsAmong setting s wanted o.0 (o.0 + 1))
awaited_found b s m signal (inl f) wanted r finds = found_of b s m signal f wanted r finds
awaited_found b s {class = class} {x = x} m signal (inr (none, still)) wanted r finds =
    still_found b s m (still class x m.class_is m.there) wanted r (subst (λ g. IfOk r (Finds class x g wanted)) none finds)

-- an object that has something to do without a signal is not quiet
pub busy_own : {setting : Setting} (b : IsWellFormed setting) (s : Situation) {K : List Entry} {o : ObjectId} {class : Class} {x : Standing}
    → IsMember setting K s.objects.items o class x
    → ((J : List Entry) (signal : Option Waiting) → StandsAfter class J x → objects.IsHandedIn false signal
    → MatchBool false (objects.IsQuiet class x signal J) (objects.HasNext class x signal J)) → (J : List Entry) → StandsSo setting J s
    → IsTrue false ↔ IsQuietOf setting J o
busy_own b s {o = o} {class = class} {x = x} m says J stands =
    let p = is_part b stands.objects stands.pools o class x m.class_is m.there in
    let next = says J None p.object.stands (handed_in None false refl) in
    ((λ yes. absurd (false≢true yes)), (λ quiet. absurd (alone-own p next quiet)))

-- where no object has a next entry, the setting is quiet
pub all_quiet : {setting : Setting} {s : Situation} → NoneMayCome setting s AnyEntry 0 (length s.objects.items) → (J : List Entry) → StandsSo setting J s
    → IsTrue true ↔ IsQuiet setting J
all_quiet none J stands = ((λ always. λ e no_post may. none-of_all stands AnyEntry none e no_post may), (λ quiet. refl))

-- what was found before some objects that have none was found for all
pub found_before : {E : Type 0} (setting : Setting) (s : Situation) (wanted : Wanted) (mid to : ℕ) (r : Result (Option Entry) E)
    → NoneMayCome setting s wanted mid to → IfOk r (FindsAmong setting s wanted 0 mid) → IfOk r (FindsAmong setting s wanted 0 to)
found_before setting s wanted mid to (Ok None) none found = none-both setting s wanted 0 mid to found none
found_before setting s wanted mid to (Ok (Some e)) none found = found
found_before setting s wanted mid to (Err no_memory) none found = tt

-- whether there is a reference is whether there is what it points to
pub copied_some : (r : Option (Bor Waiting)) → is_some r ≡ is_some (option_copied r)
copied_some None = refl
copied_some (Some w) = refl
