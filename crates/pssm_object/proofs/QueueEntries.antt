-- What each kind of entry does to the completion queue of an object.
use Rattle.std.proofs.Common.{◌≡◌, ◌⊎◌, ◌++◌, ℕ, List, [], ◌∷◌, Option, Some, None, refl, sym, ap, subst, inl, inr, ⊎_elim, arith}
use Rattle.std.specs.List.{AllByRecursion}
use Rattle.std.proofs.lemmas.Bool.{cases_eq}
use Rattle.pssm_model.specs.declared.ids.VertexId.{VertexId}
use Rattle.pssm_model.specs.declared.elements.DraftMachine.{DraftMachine}
use Rattle.pssm_model.specs.declared.steps.How.{How}
use Rattle.pssm_model.specs.declared.steps.How.TheVariants.{By, Nothing}
use Rattle.pssm_model.specs.declared.steps.Item.{Item}
use Rattle.pssm_model.specs.declared.steps.Item.TheVariants as items
use Rattle.pssm_model.specs.declared.steps.Firing.{Firing}
use Rattle.pssm_model.specs.Configuration.{Configuration}
use Rattle.pssm_model.specs.Changes.{Agree}
use Rattle.pssm_object.proofs.Agreeing.{Agree-refl}
use Rattle.pssm_semantics.specs.declared.entry.ObjectId.{ObjectId}
use Rattle.pssm_semantics.specs.declared.entry.Out.{Out}
use Rattle.pssm_semantics.specs.declared.entry.Entry.{Entry}
use Rattle.pssm_semantics.specs.declared.entry.Entry.TheVariants.{Post, Start, Take, Done, Exit, Effect, Enter, Opened, Pick, DoStep}
use Rattle.pssm_semantics.specs.Journal.{IsPost, object_of, configuration_after}
use Rattle.pssm_semantics.specs.Steps.{item_of}
use Rattle.pssm_semantics.proofs.Appended.{AllByRecursion-front, AllByRecursion-back, never_ends, from_the_end}
use Rattle.pssm_object.proofs.Configurations.{configuration-other}
use Rattle.pssm_object.specs.Queue.{IsQueueOf}
use Rattle.pssm_object.specs.inner.Queueing.{completing, leaving, without, QueueGoesOn}
use Rattle.pssm_object.proofs.QueueLists.{nothing_in}
use Rattle.pssm_object.proofs.QueueChanges.{completes_of, leaves_of, none_becomes}
use Rattle.pssm_object.proofs.QueueLaws.{Untouched, enters_own, exits_own, dones_own, rest_is_queue, queue_goes_on}

same_object : (o p : ObjectId) → (o ≡ p) ⊎ (o ≡ p → ⊥)
same_object o p =
    ⊎_elim (λ same. inl (ap (λ n. let x : ObjectId = record { 0 = n } in x) same)) (λ apart. inr (λ is. apart (ap (λ (x : ObjectId). x.0) is)))
    (cases_eq o.0 p.0)

-- a post takes nothing out of a queue, and makes nothing complete
post_leaves : (e : Entry) → IsPost e → leaves_of e ≡ None
post_leaves (Post o g args) post = refl
post_leaves (Start o) post = absurd post
post_leaves (Take o n firing) post = absurd post
post_leaves (Done o v firing) post = absurd post
post_leaves (Exit o v outs) post = absurd post
post_leaves (Effect o t outs) post = absurd post
post_leaves (Enter o v outs) post = absurd post
post_leaves (Opened o r mode how) post = absurd post
post_leaves (Pick o v route) post = absurd post
post_leaves (DoStep o v k outs) post = absurd post

post_completes : (m : DraftMachine) (e : Entry) → IsPost e → completes_of m e ≡ None
post_completes m (Post o g args) post = refl
post_completes m (Start o) post = absurd post
post_completes m (Take o n firing) post = absurd post
post_completes m (Done o v firing) post = absurd post
post_completes m (Exit o v outs) post = absurd post
post_completes m (Effect o t outs) post = absurd post
post_completes m (Enter o v outs) post = absurd post
post_completes m (Opened o r mode how) post = absurd post
post_completes m (Pick o v route) post = absurd post
post_completes m (DoStep o v k outs) post = absurd post

-- an entry that runs an item takes out and makes complete what the item does
leaves_as_item : (x y : Item × How) → Some x ≡ Some y → leaving x.0 ≡ leaving y.0
leaves_as_item x y is = let same : x ≡ y = cc in ap (λ (z : Item × How). leaving z.0) same

item_leaves : (e : Entry) (item : Item) (how : How) → item_of e ≡ Some (item, how) → leaves_of e ≡ leaving item
item_leaves (Exit o v outs) item how runs = leaves_as_item (items.Exit v, Nothing) (item, how) runs
item_leaves (Effect o t outs) item how runs = leaves_as_item (items.Effect t, Nothing) (item, how) runs
item_leaves (Enter o v outs) item how runs = leaves_as_item (items.Enter v, Nothing) (item, how) runs
item_leaves (Opened o r mode way) item how runs = leaves_as_item (items.Opened r mode, way) (item, how) runs
item_leaves (Pick o v route) item how runs = leaves_as_item (items.Pick v, By route) (item, how) runs
item_leaves (Post o g args) item how runs = absurd (cc)
item_leaves (Start o) item how runs = absurd (cc)
item_leaves (Take o n firing) item how runs = absurd (cc)
item_leaves (Done o v firing) item how runs = absurd (cc)
item_leaves (DoStep o v k outs) item how runs = absurd (cc)

as_item : (m : DraftMachine) (x y : Item × How) → Some x ≡ Some y → completing m x.0 x.1 ≡ completing m y.0 y.1
as_item m x y is = let same : x ≡ y = cc in ap (λ (z : Item × How). completing m z.0 z.1) same

item_completes : (m : DraftMachine) (e : Entry) (item : Item) (how : How) → item_of e ≡ Some (item, how) → completes_of m e ≡ completing m item how
item_completes m (Exit o v outs) item how runs = as_item m (items.Exit v, Nothing) (item, how) runs
item_completes m (Effect o t outs) item how runs = as_item m (items.Effect t, Nothing) (item, how) runs
item_completes m (Enter o v outs) item how runs = as_item m (items.Enter v, Nothing) (item, how) runs
item_completes m (Opened o r mode way) item how runs = as_item m (items.Opened r mode, way) (item, how) runs
item_completes m (Pick o v route) item how runs = as_item m (items.Pick v, By route) (item, how) runs
item_completes m (Post o g args) item how runs = absurd (cc)
item_completes m (Start o) item how runs = absurd (cc)
item_completes m (Take o n firing) item how runs = absurd (cc)
item_completes m (Done o v firing) item how runs = absurd (cc)
item_completes m (DoStep o v k outs) item how runs = absurd (cc)

none_is : (x : Option VertexId) (s : VertexId) → x ≡ None → x ≡ Some s → ⊥
none_is x s none is = cc

module _ {m : DraftMachine} {J : List Entry} {o : ObjectId} {queue : List VertexId} (h : IsQueueOf m J o queue) where
  abbrev then : Configuration
  then = configuration_after m J o

  -- an entry of the object that makes nothing complete takes a State out or not
  pub queue_without : (e : Entry) → object_of e ≡ o → completes_of m e ≡ None → IsQueueOf m (J ++ e ∷ []) o (without (leaves_of e) queue)
  queue_without e own none =
      queue_goes_on h e own then (configuration_after m (J ++ e ∷ []) o) (Agree-refl then) (Agree-refl (configuration_after m (J ++ e ∷ []) o))
      (without (leaves_of e) queue)
      (inr ((λ s comes. absurd (none_is (completes_of m e) s none comes.may)), refl))

  -- one that takes nothing out either leaves the queue as it is: a start, a take, an effect, a pick
  pub queue_kept : (e : Entry) → object_of e ≡ o → leaves_of e ≡ None → completes_of m e ≡ None → IsQueueOf m (J ++ e ∷ []) o queue
  queue_kept e own no_leave none = subst (λ x. IsQueueOf m (J ++ e ∷ []) o (without x queue)) no_leave (queue_without e own none)

  -- the dispatch of a completion takes its State out
  pub queue_done : (s : VertexId) (firing : Firing) → IsQueueOf m (J ++ Done o s firing ∷ []) o (without (Some s) queue)
  queue_done s firing = queue_without (Done o s firing) refl refl

  other_untouched : (e : Entry) → (object_of e ≡ o → ⊥) → (s : VertexId) → Untouched e o s
  other_untouched e apart s = record {
    entered = λ enters. apart (enters_own e o s enters);
    exited = λ exits. apart (exits_own e o s exits);
    done = λ dones. apart (dones_own e o s dones);
  }

  -- an entry of another object, and a post, leaves the queue as it is
  pub queue_other : (e : Entry) → ((object_of e ≡ o) → IsPost e) → IsQueueOf m (J ++ e ∷ []) o queue
  queue_other e other =
      ⊎_elim
      (λ own. queue_kept e own (post_leaves e (other own)) (post_completes m e (other own)))
      (λ apart.
      rest_is_queue h e None (λ s none. other_untouched e apart s) (λ s none is. cc)
      (λ s transition becomes. absurd
      (none_becomes m J e o s (configuration-other m J o e apart) (λ enters. apart (enters_own e o s enters)) becomes)))
      (same_object (object_of e) o)

  -- an entry that runs an item of the object, by the configurations before and after it
  pub queue_ran : (e : Entry) (item : Item) (how : How) → object_of e ≡ o → item_of e ≡ Some (item, how) → (was now : Configuration)
      → Agree was (configuration_after m J o) → Agree now (configuration_after m (J ++ e ∷ []) o)
      → (new : List VertexId) → QueueGoesOn m was now (leaving item) (completing m item how) queue new → IsQueueOf m (J ++ e ∷ []) o new
  queue_ran e item how own runs was now first last new goes =
      queue_goes_on h e own was now first last new
      (subst (λ x. QueueGoesOn m was now x (completes_of m e) queue new) (sym (item_leaves e item how runs))
      (subst (λ x. QueueGoesOn m was now (leaving item) x queue new) (sym (item_completes m e item how runs)) goes))

  -- a do step
  pub queue_stepped : (s : VertexId) (k : ℕ) (outs : List Out) (was now : Configuration)
      → Agree was (configuration_after m J o) → Agree now (configuration_after m (J ++ DoStep o s k outs ∷ []) o)
      → (new : List VertexId) → QueueGoesOn m was now None (Some s) queue new → IsQueueOf m (J ++ DoStep o s k outs ∷ []) o new
  queue_stepped s k outs was now first last new goes = queue_goes_on h (DoStep o s k outs) refl was now first last new goes

-- before the start the queue is empty
pub queue_before_all : (m : DraftMachine) (o : ObjectId) → IsQueueOf m [] o []
queue_before_all m o = record {
  waiting = λ s inside. absurd (nothing_in s inside);
  listed = λ s i h. absurd (never_ends h.entry h.before h.after h.splits);
  order = λ i j d lt within. absurd (omega (arith, within));
}

pub queue_before_start : (m : DraftMachine) (o : ObjectId) (J : List Entry) → AllByRecursion (λ f. (object_of f ≡ o) → IsPost f) J → IsQueueOf m J o []
queue_before_start m o J =
    from_the_end (λ xs. AllByRecursion (λ f. (object_of f ≡ o) → IsPost f) xs → IsQueueOf m xs o [])
    (λ all. queue_before_all m o)
    (λ xs e before all.
    queue_other (before (AllByRecursion-front (λ f. (object_of f ≡ o) → IsPost f) xs (e ∷ []) all)) e
    (AllByRecursion-back (λ f. (object_of f ≡ o) → IsPost f) xs (e ∷ []) all).0)
    J
