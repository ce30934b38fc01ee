-- What is kept of the journal once one more entry has come.
use Rattle.std.proofs.Common.{◌≡◌, ◌≤◌, ◌<◌, ◌+◌, ◌++◌, ℕ, List, [], ◌∷◌, length, Option, Some, All, slice_get, refl, sym, ap, subst, ◌∙◌, arith, length-append}
use Rattle.std.specs.List.{flat_map}
use Rattle.std.proofs.Math.ListN.{length-set}
use Rattle.std.proofs.lemmas.List.Elements.{All-head, All-tail}
use Rattle.std.proofs.lemmas.Option.{slice_get_within, get_or_from_slice_get}
use Rattle.pssm_model.proofs.ElementLaws.{some_at}
use Rattle.pssm_semantics.specs.declared.entry.ObjectId.{ObjectId}
use Rattle.pssm_semantics.specs.declared.entry.Out.{Out}
use Rattle.pssm_semantics.specs.declared.entry.Out.TheVariants as outs
use Rattle.pssm_semantics.specs.declared.entry.Entry.{Entry}
use Rattle.pssm_semantics.specs.declared.entry.Entry.TheVariants.{Post, Start, Take, Done, Exit, Effect, Enter, Opened, Pick, DoStep}
use Rattle.pssm_semantics.specs.declared.entry.Rule.TheVariants.{A1, A6}
use Rattle.pssm_semantics.specs.declared.stimulus.Stimulus.{Stimulus}
use Rattle.pssm_semantics.specs.declared.setting.Class.{Class}
use Rattle.pssm_semantics.specs.declared.setting.Setting.{Setting}
use Rattle.pssm_semantics.specs.Settings.{class_of}
use Rattle.pssm_semantics.specs.Journal.{object_of, IsPost}
use Rattle.pssm_semantics.specs.Pool.{signals_of_out, signals_of_entry, signals_of, pool_of, told_by}
use Rattle.pssm_semantics.specs.Known.{IsOutOf, NamesKnown}
use Rattle.pssm_semantics.specs.Rules.{KeepsPool, KeepsOwn}
use Rattle.pssm_semantics.specs.Admissible.{MayFollow}
use Rattle.pssm_semantics.specs.Proper.{IsWellFormed}
use Rattle.pssm_semantics_laws.proofs.Waiting.{signals_of-append}
use Rattle.pssm_pool.specs.declared.pools.Waiting.{Waiting}
use Rattle.pssm_pool.specs.Waits.{held_in}
use Rattle.pssm_object.specs.Standing.{Standing, HasSignalsTaken}
use Rattle.pssm_system.specs.declared.situation.Situation.{Situation}
use Rattle.pssm_system.specs.inner.Pooling.{with_number, signal_taken, delivered, left_by, HavePools, numbered_for}
use Rattle.pssm_system.specs.inner.Keeping.{AreObjects, ArePools, StandsSo, CanCome, IsUnchanged}
use Rattle.pssm_system.specs.inner.Stepping.{CanStep, HaveStepped, HasPosted, Brings}
use Rattle.pssm_system.proofs.Pools.{held-left, held-delivered}
use Rattle.pssm_system.proofs.Following.{object_there, own_of, pool_kept, names_of}
use Rattle.pssm_system.proofs.Arriving.{HaveWaiting, HasPool, arrived, left}
use Rattle.pssm_system.proofs.Signals.{numbered-there}
use Rattle.pssm_system.proofs.Judged.{TakeOrNot, is_take, no_take, take_or_not, no_signal, IsPart, is_part}
use Rattle.pssm_system.proofs.Nexts.{HasSignal, no_take-has}
use Rattle.pssm_system.proofs.Coming.{class_exists}
use Rattle.pssm_object.proofs.Advancing.{other_entries}

-- the pools stay as many
length-delivered : (n : ℕ) (xs : List Stimulus) (pools : List (List Waiting)) → length (delivered n xs pools) ≡ length pools
length-delivered n [] pools = refl
length-delivered n (x ∷ rest) pools = length-delivered (n + 1) rest _ ∙ length-set pools x.object.0 _

pub length-left : (e : Entry) (pools : List (List Waiting)) → length (left_by e pools) ≡ length pools
length-left (Take o number firing) pools = length-set pools o.0 _
length-left (Post o g args) pools = refl
length-left (Start o) pools = refl
length-left (Done o v firing) pools = refl
length-left (Exit o v outs) pools = refl
length-left (Effect o v outs) pools = refl
length-left (Enter o v outs) pools = refl
length-left (Opened o r mode how) pools = refl
length-left (Pick o v route) pools = refl
length-left (DoStep o v k outs) pools = refl

-- the objects to which an entry sends are those of the setting
sends-there : (setting : Setting) (class : Class) (xs : List Out) → All (IsOutOf setting class) xs → HavePools (flat_map signals_of_out xs) (length setting.objects)
sends-there setting class [] all = tt
sends-there setting class (outs.Mark mark args ∷ rest) all =
    sends-there setting class rest (All-tail (IsOutOf setting class) (outs.Mark mark args) rest all)
sends-there setting class (outs.Send object signal args ∷ rest) all = (
  (All-head (IsOutOf setting class) (outs.Send object signal args) rest all).0,
  sends-there setting class rest (All-tail (IsOutOf setting class) (outs.Send object signal args) rest all),
)

pub signals-there : (setting : Setting) (class : Class) (e : Entry) → (object_of e).0 < length setting.objects → NamesKnown setting class e
    → HavePools (signals_of_entry e) (length setting.objects)
signals-there setting class (Post o g args) there known = (there, tt)
signals-there setting class (Start o) there known = tt
signals-there setting class (Take o number firing) there known = tt
signals-there setting class (Done o v firing) there known = tt
signals-there setting class (Exit o v xs) there known = sends-there setting class xs known.1
signals-there setting class (Effect o v xs) there known = sends-there setting class xs known.1
signals-there setting class (Enter o v xs) there known = sends-there setting class xs known.1
signals-there setting class (Opened o r mode how) there known = tt
signals-there setting class (Pick o v route) there known = tt
signals-there setting class (DoStep o v k xs) there known = sends-there setting class xs known.1

module _ {setting : Setting} (b : IsWellFormed setting) {J : List Entry} {s : Situation} (stands : StandsSo setting J s) (e : Entry) (may : MayFollow setting J e) where
  -- the object of the entry with its class
  pub class_here : (class : Class) × (class_of setting (object_of e) ≡ Some class)
  class_here = ((may A1).0, (may A1).1)

  pub here_there : (object_of e).0 < length setting.objects
  here_there = object_there setting (object_of e) (may A1).0 (may A1).1

  pub standing_here : (x : Standing) × (slice_get s.objects.items (object_of e).0 ≡ Some x)
  standing_here = some_at s.objects.items (object_of e).0 (subst (λ n. (object_of e).0 < n) (sym stands.objects.count) here_there)

  pub part_here : IsPart setting J s.pools.waiting (object_of e) (may A1).0 standing_here.0
  part_here = is_part b stands.objects stands.pools (object_of e) (may A1).0 standing_here.0 (may A1).1 standing_here.1

  pub pool_here : (object_of e).0 < length s.pools.waiting
  pool_here = subst (λ n. (object_of e).0 < n) (sym stands.pools.count) here_there

  -- it comes with its signal: of a take the one with its number
  pub signal_here : HasSignal J (may A1).0 (object_of e) e (signal_taken s.pools.waiting e)
  signal_here = by (take_or_not e)
    where
      by : TakeOrNot e → HasSignal J (may A1).0 (object_of e) e (signal_taken s.pools.waiting e)
      by (no_take free) = no_take-has part_here e (signal_taken s.pools.waiting e) free (no_signal s.pools.waiting e free)
      by (is_take q number firing is) =
          let here : e ≡ Take (object_of e) number firing = is ∙ ap (λ r. Take r number firing) (sym (ap object_of is)) in
          let pool : KeepsPool (may A1).0 J (Take (object_of e) number firing) =
          subst (KeepsPool (may A1).0 J) here (pool_kept setting J e (may A1).0 (may A1).1 (may A6)) in
          let at = some_at s.pools.waiting (object_of e).0 pool_here in
          let w = numbered-there stands.pools (object_of e) at.0 at.1 (may A1).0 number pool in
          let taken : signal_taken s.pools.waiting (Take (object_of e) number firing) ≡ Some w.0 =
          ap (with_number number) (get_or_from_slice_get s.pools.waiting (object_of e).0 at.0 [] at.1) ∙ w.1 in
          subst (λ g. HasSignal J (may A1).0 (object_of e) g (signal_taken s.pools.waiting g)) (sym here)
          (subst (HasSignal J (may A1).0 (object_of e) (Take (object_of e) number firing)) (sym taken)
          (record { pool = pool; signal_is = w.3; names = w.2; told = w.3 }))

  -- so its object may go on by it
  pub can_step : CanStep setting s.objects.items (signal_taken s.pools.waiting e) e
  can_step = record {
    before = J;
    are = stands.objects;
    class = (may A1).0;
    class_is = (may A1).1;
    names = signal_here.names;
    keeps = λ rule. subst (λ g. KeepsOwn (may A1).0 (told_by J) g rule J e) signal_here.signal_is (own_of setting J e (may A1).0 (may A1).1 rule (may rule));
  }

  -- each object that has a pool has it still
  has_pool : (q : ObjectId) → q.0 < length setting.objects → HasPool J s.pools.waiting q
  has_pool q lt =
      let at = some_at s.pools.waiting q.0 (subst (λ n. q.0 < n) (sym stands.pools.count) lt) in
      let class = class_exists setting b q lt in
      let x = some_at s.objects.items q.0 (subst (λ n. q.0 < n) (sym stands.objects.count) lt) in
      let is = stands.objects.each q class.0 x.0 class.1 x.1 in
      (at, subst (HasSignalsTaken J) is.own is.stands.told)

  have_waiting : HaveWaiting J s.pools.waiting
  have_waiting q waiting at = stands.pools.each q waiting at

  -- what waits for an object once the entry has come
  pool_after : TakeOrNot e → (q : ObjectId) → q.0 < length setting.objects → (waiting : List Waiting)
      → slice_get (delivered (s.told + 1) (signals_of_entry e) (left_by e s.pools.waiting)) q.0 ≡ Some waiting
      → pool_of (J ++ e ∷ []) q ≡ numbered_for q waiting
  pool_after (no_take free) q lt waiting at = arrived J e s.pools.waiting s.told q free stands.told have_waiting (has_pool q lt) waiting at
  pool_after (is_take r number firing is) q lt waiting at =
      let here : r.0 < length s.pools.waiting = subst (λ (p : ObjectId). p.0 < length s.pools.waiting) (ap object_of is) pool_here in
      let old = some_at s.pools.waiting r.0 here in
      subst (λ f. pool_of (J ++ f ∷ []) q ≡ numbered_for q waiting) (sym is)
      (left J r old.0 number firing s.pools.waiting q old.1 have_waiting waiting
      (subst (λ f. slice_get (delivered (s.told + 1) (signals_of_entry f) (left_by f s.pools.waiting)) q.0 ≡ Some waiting) is at))

  -- what waits once the entry has come
  abbrev next_pools : List (List Waiting)
  next_pools = delivered (s.told + 1) (signals_of_entry e) (left_by e s.pools.waiting)

  next_count : length next_pools ≡ length setting.objects
  next_count =
      length-delivered (s.told + 1) (signals_of_entry e) (left_by e s.pools.waiting) ∙ length-left e s.pools.waiting ∙ stands.pools.count

  pub pools_after : (new : List (List Waiting)) → new ≡ next_pools → ArePools setting (J ++ e ∷ []) new
  pools_after new is = subst (ArePools setting (J ++ e ∷ [])) (sym is) (record {
    count = next_count;
    each = λ q waiting at.
        pool_after (take_or_not e) q (subst (λ n. q.0 < n) next_count (slice_get_within next_pools q.0 waiting at)) waiting at;
  })

  -- no more signals wait than were told
  pub held_after : (new : List (List Waiting)) → new ≡ next_pools → held_in new ≤ s.told + length (signals_of_entry e)
  held_after new is =
      let came = held-delivered (s.told + 1) (signals_of_entry e) (left_by e s.pools.waiting) in
      let fewer = held-left e s.pools.waiting in
      let were = stands.held in
      subst (λ ws. held_in ws ≤ s.told + length (signals_of_entry e)) (sym is) (omega (arith, came, fewer, were))

  -- how many signals there are
  pub told_after : s.told + length (signals_of_entry e) ≡ length (signals_of (J ++ e ∷ []))
  told_after =
      ap (λ n. n + length (signals_of_entry e)) stands.told ∙ sym (length-append (signals_of J) (signals_of_entry e)) ∙ sym (ap length (signals_of-append J e))

  -- All that is kept is so of the longer journal.
  pub stands_after : (new : Situation) → HaveStepped setting s.objects.items (signal_taken s.pools.waiting e) e new.objects.items
      → new.pools.waiting ≡ delivered (s.told + 1) (signals_of_entry e) (left_by e s.pools.waiting)
      → new.told ≡ s.told + length (signals_of_entry e) → StandsSo setting (J ++ e ∷ []) new
  stands_after new stepped pools told = record {
    objects = stepped J stands.objects signal_here.told;
    pools = pools_after new.pools.waiting pools;
    told = told ∙ told_after;
    held = subst (λ n. held_in new.pools.waiting ≤ n) (sym told) (held_after new.pools.waiting pools);
  }

-- A post changes the pool of its object alone.
pub brings-posted : {setting : Setting} → IsWellFormed setting → (old new : Situation) (e : Entry) (x : Stimulus) → e ≡ Post x.object x.signal x.args
    → HasPosted old x new → Brings setting old e new
brings-posted {setting = setting} b old new e x is h = λ J stands may.
    let post : IsPost e = subst IsPost (sym is) tt in
    let first = old.pools.waiting in
    stands_after b stands e may new
    (λ K are told. subst (AreObjects setting (K ++ e ∷ [])) (sym h.objects) (record {
      count = are.count;
      each = λ q k y class_is at.
          let was = are.each q k y class_is at in
          record { own = was.own; stands = other_entries k was.stands e (λ own. post) };
    }))
    (h.pools ∙ sym (ap (λ f. delivered (old.told + 1) (signals_of_entry f) (left_by f first)) is))
    (h.told ∙ sym (ap (λ f. old.told + length (signals_of_entry f)) is))

-- Where nothing has changed but room, the same stands so.
pub stands_unchanged : {setting : Setting} {J : List Entry} {s new : Situation} → StandsSo setting J s → IsUnchanged s new → StandsSo setting J new
stands_unchanged {setting = setting} {J = J} {s = s} {new = new} stands same = record {
  objects = subst (AreObjects setting J) (sym same.objects) stands.objects;
  pools = subst (ArePools setting J) (sym same.pools) stands.pools;
  told = same.told ∙ stands.told;
  held = subst (λ ws. held_in ws ≤ new.told) (sym same.pools) (subst (λ n. held_in s.pools.waiting ≤ n) (sym same.told) stands.held);
}

-- What an entry that can come asks of the parts, before it comes.
module _ {setting : Setting} (b : IsWellFormed setting) {s : Situation} {e : Entry} (can : CanCome setting s e) where
  pub pools_there : HavePools (signals_of_entry e) (length s.pools.waiting)
  pools_there =
      subst (HavePools (signals_of_entry e)) (sym can.stands.pools.count)
      (signals-there setting (can.follows A1).0 e (here_there b can.stands e can.follows)
      (names_of setting can.before e (can.follows A1).0 (can.follows A1).1 (can.follows A1)))

  pub can_step_now : (pools : List (List Waiting)) → pools ≡ s.pools.waiting → (signal : Option Waiting) → signal ≡ signal_taken pools e
      → CanStep setting s.objects.items signal e
  can_step_now pools same signal is =
      subst (λ g. CanStep setting s.objects.items g e) (sym (is ∙ ap (λ ws. signal_taken ws e) same)) (can_step b can.stands e can.follows)
