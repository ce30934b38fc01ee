-- What the calls of an object promise, in the words of this crate.
use Rattle.std.proofs.Common.{◌≡◌, ◌++◌, ℕ, List, [], ◌∷◌, length, Option, Some, None, Result, Ok, Err, IfOk, IfNone, IfSome, OnOk, slice_get, refl, sym, ap, subst, ◌∙◌, ⊎_elim, arith}
use Rattle.std.proofs.Math.ListN.{set, length-set}
use Rattle.std.proofs.lemmas.Option.{slice_get_within}
use Rattle.std.proofs.lemmas.Bool.Decides.{eqb_tells}
use Rattle.pssm_semantics.specs.declared.entry.ObjectId.{ObjectId}
use Rattle.pssm_semantics.specs.declared.entry.Entry.{Entry}
use Rattle.pssm_semantics.specs.declared.entry.Rule.{Rule}
use Rattle.pssm_semantics.specs.declared.setting.Class.{Class}
use Rattle.pssm_semantics.specs.declared.setting.Setting.{Setting}
use Rattle.pssm_semantics.specs.declared.stimulus.Task.{Task}
use Rattle.pssm_semantics.specs.Settings.{class_of}
use Rattle.pssm_semantics.specs.Journal.{object_of}
use Rattle.pssm_semantics.specs.Pool.{told_by}
use Rattle.pssm_semantics.specs.Rules.{KeepsOwn}
use Rattle.pssm_semantics.specs.Verdict.{IsFirstBroken}
use Rattle.pssm_semantics.specs.Classes.{IsWellFormedClass}
use Rattle.pssm_semantics.specs.Proper.{IsWellFormed}
use Rattle.pssm_pool.specs.declared.pools.Waiting.{Waiting}
use Rattle.pssm_object.specs.Standing.{Standing, StandsAfter}
use Rattle.pssm_object.specs.Following.{NamesPlaces, KeepsRule, KeepsRules, IsCandidate, IsMove, IsTold, CanCome, stimulus_for}
use Rattle.pssm_object.specs.Tasks.{ready_tasks, Does}
use Rattle.pssm_object.proofs.Advancing.{other_entries}
use Rattle.pssm_system.specs.declared.choosing.Wanted.TheVariants.{AnyEntry, Move}
use Rattle.pssm_system.specs.inner.Keeping.{IsObject, AreObjects}
use Rattle.pssm_system.specs.inner.Judging.{Says}
use Rattle.pssm_system.specs.inner.Stepping.{CanStep, HaveStepped}
use Rattle.pssm_system.specs.inner.Choosing.{IsNext, HasNoNext, Finds}
use Rattle.pssm_system.proofs.Places.{get-set_same, get-set_other}
use Rattle.pssm_system.proofs.Following.{one_class}
use Rattle.pssm_system.proofs.Choices.{move-no_post, only-moves, task-next}
use Rattle.pssm_system.proofs.Members.{IsMember, of_member}

-- what an object says of an entry
pub says : {E : Type 0} (class : Class) (x : Standing) (signal : Option Waiting) (e : Entry) (r : Result (Option Rule) E)
    → IfOk r (λ rule. IfNone rule ((J : List Entry) → StandsAfter class J x → KeepsRules class x signal J e))
    → IfOk r (λ rule. IfSome rule (λ broken. (J : List Entry) → StandsAfter class J x → IsFirstBroken (KeepsRule class x signal) J e broken))
    → IfOk r (Says class x signal e)
says class x signal e (Ok None) keeps breaks = keeps
says class x signal e (Ok (Some rule)) keeps breaks = breaks
says class x signal e (Err none) keeps breaks = tt

-- what the object that was looked up says
pub says_of_member : {E : Type 0} {setting : Setting} {J : List Entry} {objects : List Standing} {o : ObjectId} {class : Class} {x : Standing}
    → IsMember setting J objects o class x → (signal : Option Waiting) (e : Entry) → o ≡ object_of e → (r : Result (Option Rule) E) → IfOk r (Says class x signal e)
    → IfOk r (λ answer. (k : Class) (y : Standing) → class_of setting (object_of e) ≡ Some k → slice_get objects (object_of e).0 ≡ Some y → Says k y signal e answer)
says_of_member {setting = setting} {objects = objects} m signal e own (Ok answer) said = λ k y is at.
    of_member m (λ c z. Says c z signal e answer) said k y (ap (class_of setting) own ∙ is) (ap (λ (q : ObjectId). slice_get objects q.0) own ∙ at)
says_of_member m signal e own (Err none) said = tt

-- what an object may do next
pub next_move : {E : Type 0} (class : Class) (x : Standing) (signal : Option Waiting) (r : Result (Option Entry) E)
    → IfOk r (λ chosen. IfSome chosen IsMove) → IfOk r (λ chosen. IfSome chosen (IsCandidate x.own signal))
    → IfOk r (λ chosen. IfSome chosen (NamesPlaces class.machine))
    → IfOk r (λ chosen. IfSome chosen (λ e. (J : List Entry) → StandsAfter class J x → KeepsRules class x signal J e))
    → IfOk r (λ chosen. IfNone chosen ((J : List Entry) → StandsAfter class J x → (e : Entry) → IsMove e → IsCandidate x.own signal e
    → KeepsRules class x signal J e → ⊥)) → IfOk r (Finds class x signal Move)
next_move class x signal (Ok None) moves own places follows none = λ J e s move c keeps. none J s e move c keeps
next_move class x signal (Ok (Some e)) moves own places follows none = record { wanted_is = moves; candidate = own; places = places; keeps = follows }
next_move class x signal (Err no_memory) moves own places follows none = tt

-- a move is an entry other than a post
pub move_is_any : (class : Class) (x : Standing) (signal : Option Waiting) (e : Entry) → IsNext class x signal Move e → IsNext class x signal AnyEntry e
move_is_any class x signal e n = record { wanted_is = move-no_post e n.wanted_is; candidate = n.candidate; places = n.places; keeps = n.keeps }

-- where there is no move and no task is ready, there is nothing
pub nothing_next : (class : Class) (b : IsWellFormedClass class) (x : Standing) (signal : Option Waiting) → ready_tasks class.machine x ≡ [] → HasNoNext class x signal Move
    → HasNoNext class x signal AnyEntry
nothing_next class b x signal empty none J e s is_wanted c keeps = none J e s (only-moves class b s signal empty e c keeps) c keeps

-- the object of an entry goes on by it, and the others stay where they are
module _ {setting : Setting} (b : IsWellFormed setting) {objects : List Standing} {signal : Option Waiting} {e : Entry} (can : CanStep setting objects signal e)
    (class : Class) (x new : Standing) (m : IsMember setting can.before objects (object_of e) class x) where
  pub can_come : CanCome class x signal e
  can_come = record {
    own = sym m.object.own;
    names = can.names;
    before = can.before;
    stands = m.object.stands;
    keeps = λ rule.
        subst (λ q. KeepsOwn class (told_by can.before) (stimulus_for q signal) rule can.before e) (sym m.object.own)
        (subst (λ k. KeepsOwn k (told_by can.before) (stimulus_for (object_of e) signal) rule can.before e)
        (one_class setting (object_of e) can.class class can.class_is m.class_is) (can.keeps rule));
  }

  stands_new : (J : List Entry) → AreObjects setting J objects → new.own ≡ x.own
      → ((J : List Entry) → StandsAfter class J x → IsTold J (stimulus_for x.own signal) e → StandsAfter class (J ++ e ∷ []) new)
      → IsTold J (stimulus_for (object_of e) signal) e → IsObject class (J ++ e ∷ []) (object_of e) new
  stands_new J are own goes told =
      let was = are.each (object_of e) class x m.class_is m.there in
      record {
        own = own ∙ was.own;
        stands = goes J was.stands (subst (λ q. IsTold J (stimulus_for q signal) e) (sym was.own) told);
      }

  pub have_stepped : new.own ≡ x.own
      → ((J : List Entry) → StandsAfter class J x → IsTold J (stimulus_for x.own signal) e → StandsAfter class (J ++ e ∷ []) new)
      → HaveStepped setting objects signal e (set objects (object_of e).0 new)
  have_stepped own goes J are told = record {
    count = length-set objects (object_of e).0 new ∙ are.count;
    each = λ q k y is at.
        ⊎_elim
        (λ same.
        let one : object_of e ≡ q = ap (λ n. let p : ObjectId = record { 0 = n } in p) (sym same.1) in
        let here : slice_get (set objects (object_of e).0 new) (object_of e).0 ≡ Some new =
        get-set_same objects (object_of e).0 new (slice_get_within objects (object_of e).0 x m.there) in
        let there : slice_get (set objects (object_of e).0 new) (object_of e).0 ≡ Some y =
        subst (λ (p : ObjectId). slice_get (set objects (object_of e).0 new) p.0 ≡ Some y) (sym one) at in
        let new_is : new ≡ y = cc in
        subst (λ p. IsObject k (J ++ e ∷ []) p y) one
        (subst (λ c. IsObject c (J ++ e ∷ []) (object_of e) y)
        (one_class setting (object_of e) class k m.class_is (subst (λ p. class_of setting p ≡ Some k) (sym one) is))
        (subst (λ z. IsObject class (J ++ e ∷ []) (object_of e) z) new_is (stands_new J are own goes told))))
        (λ other.
        let was = are.each q k y is (sym (get-set_other objects (object_of e).0 q.0 new other.1) ∙ at) in
        record {
          own = was.own;
          stands = other_entries k was.stands e
              (λ mine. absurd (other.1 (sym (ap (λ (p : ObjectId). p.0) (mine ∙ was.own)))));
        })
        (eqb_tells q.0 (object_of e).0);
  }

  pub stepped : {E : Type 0} (k : ℕ) → k ≡ (object_of e).0 → (r : Result (Unit {0}) E) → new.own ≡ x.own
      → OnOk r ((J : List Entry) → StandsAfter class J x → IsTold J (stimulus_for x.own signal) e → StandsAfter class (J ++ e ∷ []) new)
      → OnOk r (HaveStepped setting objects signal e (set objects k new))
  stepped k at (Ok done) own goes = subst (λ n. HaveStepped setting objects signal e (set objects n new)) (sym at) (have_stepped own goes)
  stepped k at (Err none) own goes = tt

-- the entry of a ready task
pub task_found_next : {E : Type 0} (class : Class) (x : Standing) (task : Task) (r : Result Entry E) → IfOk r (Does x.own task)
    → IfOk r (NamesPlaces class.machine) → IfOk r (λ e. (J : List Entry) → StandsAfter class J x → KeepsRules class x None J e)
    → IfOk r (λ e. (signal : Option Waiting) → IsNext class x signal AnyEntry e)
task_found_next class x task (Ok e) does places follows = λ signal. task-next class x task e does places follows signal
task_found_next class x task (Err none) does places follows = tt

pub none_of_zero : {X : Type 0} (xs : List X) → length xs ≡ 0 → xs ≡ []
none_of_zero [] none = refl
none_of_zero (x ∷ xs) none = absurd (omega arith)
