-- An object defers a signal exactly where one of its active States does, as its tables tell it.
use Rattle.std.proofs.Common.{◌↔◌, List, sym, subst}
use Rattle.pssm_model.specs.declared.ids.VertexId.{VertexId}
use Rattle.pssm_model.specs.FiringSets.{Overrides}
use Rattle.pssm_object.proofs.Agreeing.{Agree-symm}
use Rattle.pssm_object.proofs.AgreeingRoutes.{overrides_agrees}
use Rattle.pssm_config.specs.Tables.{configuration_of}
use Rattle.pssm_semantics.specs.declared.entry.Entry.{Entry}
use Rattle.pssm_semantics.specs.declared.setting.Class.{Class}
use Rattle.pssm_semantics.specs.Journal.{configuration_after}
use Rattle.pssm_semantics.specs.Pool.{told_by}
use Rattle.pssm_semantics.specs.Values.{Store, eight_of}
use Rattle.pssm_semantics.specs.Behaviours.{guards_under}
use Rattle.pssm_semantics.specs.Deferral.{IsDeferred}
use Rattle.pssm_pool.specs.declared.pools.Waiting.{Waiting}
use Rattle.pssm_object.specs.Standing.{Standing, StandsAfter}
use Rattle.pssm_object.specs.Following.{stimulus_of}
use Rattle.pssm_object.specs.inner.Firing.{truth_at, OverridesThere}
use Rattle.pssm_object.specs.inner.Choosing.{IsDeferredHere}

module _ (class : Class) {J : List Entry} {x : Standing} (s : StandsAfter class J x) (w : Waiting) where
  -- a route that the signal enables after the journal, with the values of the variables that are given
  abbrev OverridesAfter : Store → VertexId → Type 0
  OverridesAfter store v =
      Overrides class.machine (configuration_after class.machine J x.own) (guards_under class store (eight_of w.args)) w.signal v

  overrides_after : (v : VertexId) → OverridesThere class x.config x.store w v → OverridesAfter x.store v
  overrides_after v h = overrides_agrees s.now_is (truth_at class x.store w) w.signal v h

  overrides_before : (v : VertexId) → OverridesAfter x.store v → OverridesThere class x.config x.store w v
  overrides_before v h =
      overrides_agrees (Agree-symm (configuration_of x.config) (configuration_after class.machine J x.own) s.now_is) (truth_at class x.store w) w.signal v h

  pub deferred_is : IsDeferredHere class x w ↔ IsDeferred class (told_by J) J x.own (stimulus_of x.own w)
  deferred_is = (
    λ (v, (active, lists, free)). (
      v,
      (s.now_is.active v).0 active,
      lists,
      λ over. free (overrides_before v (subst (λ store. OverridesAfter store v) (sym s.store_is) over)),
    ),
    λ (v, active, lists, free). (
      v,
      (
        (s.now_is.active v).1 active,
        lists,
        λ over. free (subst (λ store. OverridesAfter store v) s.store_is (overrides_after v over)),
      ),
    ),
  )
