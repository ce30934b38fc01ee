-- What a step remembers so far is known, where it is known what was remembered at its head.
use Rattle.std.proofs.Common.{◌≡◌, ◌++◌, List, [], ◌∷◌, Option, Some, None, refl, ap, subst, ◌∙◌, inl, inr, ⊎_elim}
use Rattle.std.specs.List.{AllByRecursion}
use Rattle.pssm_model.specs.declared.ids.VertexId.{VertexId}
use Rattle.pssm_model.specs.declared.ids.RegionId.{RegionId}
use Rattle.pssm_model.specs.declared.elements.DraftMachine.{DraftMachine}
use Rattle.pssm_model.specs.declared.elements.VertexKind.TheVariants as kinds
use Rattle.pssm_model.specs.declared.elements.Owner.TheVariants.{Region, State}
use Rattle.pssm_model.specs.declared.steps.How.{How}
use Rattle.pssm_model.specs.declared.steps.Item.{Item}
use Rattle.pssm_model.specs.declared.steps.Item.TheVariants as items
use Rattle.pssm_model.specs.Configuration.{Configuration, IsDirect}
use Rattle.pssm_model.specs.Course.{Head, ExitsFrom, HasExitedLast, RemembersSoFar}
use Rattle.pssm_model.specs.Order.{course_by}
use Rattle.pssm_model_laws.proofs.Known.{Known, known_as, known_both, known_either, known_not, known_vertex}
use Rattle.pssm_model_laws.proofs.KnownPlaces.{known_owner, known_vertex_kind}
use Rattle.pssm_semantics.proofs.Appended.{LastOf, LastOf-nil}
use Rattle.pssm_object.proofs.Latest.{LastOf-cons, LastOf-later, LastOf-first}

-- whether a table names this vertex
pub known_named : (named : Option VertexId) (s : VertexId) → Known (named ≡ Some s)
known_named None s = inr (λ e. cc)
known_named (Some v) s = known_as (λ e. ap Some e) (λ e. cc) (known_vertex v s)

-- whether some element is the last of its kind
module _ {X : Type 0} (P Q : X → Type 0) (p : (x : X) → Known (P x)) (q : (x : X) → Known (Q x)) where
  pub known_every : (xs : List X) → Known (AllByRecursion Q xs)
  known_every [] = inl tt
  known_every (x ∷ xs) = known_both (q x) (known_every xs)

  pub known_last : (xs : List X) → Known (LastOf P Q xs)
  known_last [] = inr (LastOf-nil P Q)
  known_last (x ∷ xs) =
      known_as
      (λ h. ⊎_elim (LastOf-later P Q x xs) (λ here. LastOf-first P Q x xs here.0 here.1) h)
      (LastOf-cons P Q x xs)
      (known_either (known_last xs) (known_both (p x) (known_every xs)))

module _ (m : DraftMachine) where
  known_direct : (s : VertexId) (r : RegionId) → Known (IsDirect m s r)
  known_direct s r =
      known_both (known_owner m (State s) (Region r)) (known_either (known_vertex_kind m s kinds.State) (known_vertex_kind m s kinds.Final))

  -- whether an item exits a vertex, and whether it exits one of a region
  known_exit_of : (item : Item) (s : VertexId) → Known (item ≡ items.Exit s)
  known_exit_of (items.Exit v) s = known_as (λ e. ap items.Exit e) (λ e. cc) (known_vertex v s)
  known_exit_of (items.Effect t) s = inr (λ e. cc)
  known_exit_of (items.Enter v) s = inr (λ e. cc)
  known_exit_of (items.Opened r mode) s = inr (λ e. cc)
  known_exit_of (items.Pick c) s = inr (λ e. cc)

  exited_one : (s q : VertexId) → items.Exit s ≡ items.Exit q → q ≡ s
  exited_one s q e = cc

  known_exits : (item : Item) (r : RegionId) → Known (ExitsFrom m item r)
  known_exits (items.Exit s) r =
      known_as (λ direct. (s, direct, refl)) (λ h. subst (λ q. IsDirect m q r) (exited_one s h.0 h.2) h.1) (known_direct s r)
  known_exits (items.Effect t) r = inr (λ h. let e = h.2 in cc)
  known_exits (items.Enter s) r = inr (λ h. let e = h.2 in cc)
  known_exits (items.Opened q mode) r = inr (λ h. let e = h.2 in cc)
  known_exits (items.Pick c) r = inr (λ h. let e = h.2 in cc)

  module _ (r : RegionId) (s : VertexId) where
    -- the item exits the vertex of the region, and it exits none of it
    abbrev ExitsIt : Item × How → Type 0
    ExitsIt x = (x.0 ≡ items.Exit s) × IsDirect m s r

    abbrev Spares : Item × How → Type 0
    Spares x = ExitsFrom m x.0 r → ⊥

    known_spares : (x : Item × How) → Known (Spares x)
    known_spares x = known_not (known_exits x.0 r)

    known_exits_it : (x : Item × How) → Known (ExitsIt x)
    known_exits_it x = known_both (known_exit_of x.0 s) (known_direct s r)

    known_exited_last : (ran : List (Item × How)) → Known (HasExitedLast m ran r s)
    known_exited_last ran =
        known_as
        (λ h. (h.0, h.1, h.2.1, h.3 ∙ ap (λ (y : Item). h.0 ++ (y, h.2.1) ∷ h.1) h.4.0, h.4.1, h.5))
        (λ h. (h.0, h.1, (items.Exit s, h.2), h.3, (refl, h.4), h.5))
        (known_last ExitsIt Spares known_exits_it known_spares ran)

  pub known_so_far : (head : Head) (at_head : Configuration) → ((r : RegionId) (s : VertexId) → Known (at_head.Remembers r s))
      → (ran : List (Item × How)) (r : RegionId) (s : VertexId) → Known (RemembersSoFar m (course_by head at_head ran) r s)
  known_so_far head at_head known ran r s =
      known_either
      (known_exited_last r s ran)
      (known_both (known r s) (known_every (ExitsIt r s) (Spares r s) (known_exits_it r s) (known_spares r s) ran))
