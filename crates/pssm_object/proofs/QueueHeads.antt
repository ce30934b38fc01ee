-- What the completion queue of an object says of the States in it: which is the head, and that each is an active State of the machine, listed once.
use Rattle.std.proofs.Common.{◌≡◌, ◌≢◌, ◌↔◌, ◌<◌, ◌≤◌, ℕ, List, [], ◌∷◌, length, Some, None, Contains, All, AllPairs, slice_index_or, slice_get, refl, sym, ap, subst, ⊎_elim, arith}
use Rattle.std.proofs.lemmas.List.Elements.{Contains-get_or}
use Rattle.pssm_model.specs.declared.ids.VertexId.{VertexId}
use Rattle.pssm_model.specs.declared.elements.DraftMachine.{DraftMachine}
use Rattle.pssm_model.specs.declared.elements.VertexKind.TheVariants as kinds
use Rattle.pssm_model.specs.Forest.{HasKind}
use Rattle.pssm_semantics.specs.declared.entry.ObjectId.{ObjectId}
use Rattle.pssm_semantics.specs.declared.entry.Entry.{Entry}
use Rattle.pssm_semantics.specs.Journal.{IsActive}
use Rattle.pssm_semantics.specs.Completion.{HasCompletionTransition, IsQueuedAt, IsQueueHead, IsQueueEmpty}
use Rattle.pssm_object.specs.Queue.{WaitsSince, WaitsBefore, IsQueueOf, CompletionQueue}
use Rattle.pssm_object.specs.inner.Queueing.{QueueFits}
use Rattle.pssm_object.proofs.QueueLists.{kind_there, nothing_in, is_first, first_or_behind, in_order_too, first_before}

module _ (m : DraftMachine) (J : List Entry) (o : ObjectId) where
  -- the empty list is the queue exactly where no completion waits
  pub none_waits : IsQueueOf m J o [] → IsQueueEmpty m J o
  none_waits h s i queued = nothing_in s (h.listed s i queued)

  pub empty_queue : IsQueueEmpty m J o → IsQueueOf m J o []
  empty_queue none = record {
    waiting = λ s inside. absurd (nothing_in s inside);
    listed = λ s i queued. absurd (none s i queued);
    order = λ i j d lt within. absurd (omega (arith, within));
  }

  -- the first of the queue is its head, and no other
  module _ (s : VertexId) (rest : List VertexId) (h : IsQueueOf m J o (s ∷ rest)) where
    no_earlier : (i : ℕ) → WaitsSince m J o s i → (q : VertexId) (j : ℕ) → IsQueuedAt m J o q j → i ≤ j
    no_earlier i since q j queued =
        ⊎_elim
        (λ same. since.1 j (subst (λ x. IsQueuedAt m J o x j) (sym same) queued))
        (λ behind.
        let before = first_before (WaitsBefore m J o) s rest h.order q behind in
        let least = since.1 before.0 before.1.0 in
        let lt = before.2 j queued in
        omega (arith, least, lt))
        (first_or_behind s q rest (h.listed q j queued))

    pub first_is_head : IsQueueHead m J o s
    first_is_head = let since = h.waiting s (is_first s rest) in (since.0, since.1.0, no_earlier since.0 since.1)

    pub head_is_first : (q : VertexId) → IsQueueHead m J o q → q ≡ s
    head_is_first q (i, queued, least) =
        ⊎_elim
        (λ same. sym same)
        (λ behind.
        let before = first_before (WaitsBefore m J o) s rest h.order q behind in
        let lt = before.2 i queued in
        let le = least s before.0 before.1.0 in
        absurd (omega (arith, lt, le)))
        (first_or_behind s q rest (h.listed q i queued))

  -- the same of the first element of any queue
  pub head_of_queue : (queue : List VertexId) → IsQueueOf m J o queue → (q : VertexId) → (slice_get queue 0 ≡ Some q) ↔ IsQueueHead m J o q
  head_of_queue [] h q = (λ is. absurd (cc), λ head. absurd (none_waits h q head.0 head.1))
  head_of_queue (s ∷ rest) h q = (
    λ is. (let same : s ≡ q = cc in subst (IsQueueHead m J o) same (first_is_head s rest h)),
    λ head. ap (λ (x : VertexId). Some x) (sym (head_is_first s rest h q head)),
  )

  pub end_of_queue : (queue : List VertexId) → IsQueueOf m J o queue → (slice_get queue 0 ≡ None) ↔ IsQueueEmpty m J o
  end_of_queue [] h = (λ is. none_waits h, λ none. refl)
  end_of_queue (s ∷ rest) h = (λ is. absurd (cc), λ none. let head = first_is_head s rest h in absurd (none s head.0 head.1))

module _ {m : DraftMachine} {J : List Entry} {o : ObjectId} {queue : List VertexId} (h : IsQueueOf m J o queue) where
  -- what waits is an active State out of which a transition without triggers leads
  pub member_active : (s : VertexId) → Contains queue s → IsActive J o s
  member_active s inside = (h.waiting s inside).1.0.active

  pub member_state : (s : VertexId) → Contains queue s → HasKind m s kinds.State
  member_state s inside = (h.waiting s inside).1.0.becomes.0.state

  pub member_completes : (s : VertexId) → Contains queue s → HasCompletionTransition m s
  member_completes s inside = (h.waiting s inside).1.0.transition

  pub member_there : (s : VertexId) → Contains queue s → s.0 < length m.vertices
  member_there s inside = kind_there m s kinds.State (member_state s inside)

  pub all_there : All (λ s. s.0 < length m.vertices) queue
  all_there k d lt = member_there (slice_index_or queue k d) (Contains-get_or queue k d lt)

  -- no State waits before itself, so that each is listed once
  pub all_once : AllPairs (λ s q. s ≢ q) queue
  all_once =
      in_order_too (WaitsBefore m J o) (λ s q. s ≢ q) queue
      (λ s q first second before same.
      let lt = before.2 before.0 (subst (λ x. IsQueuedAt m J o x before.0) same before.1.0) in omega (arith, lt))
      h.order

-- a queue of an object, with room for all vertices, fits the machine
pub queue_fits : (m : DraftMachine) (J : List Entry) (o : ObjectId) (queue : CompletionQueue) → IsQueueOf m J o queue.states
    → length m.vertices ≤ queue.room → QueueFits m queue
queue_fits m J o queue h room = record { within = all_there h; once = all_once h; room = room }
