-- The entries of runs are spelled.
use Rattle.std.proofs.Common.{List, [], ◌∷◌, sym, subst, inl, inr}
use Rattle.std.specs.List.{AllByRecursion}
use Rattle.pssm_model.specs.declared.ids.RegionId.{RegionId}
use Rattle.pssm_model.specs.declared.steps.Mode.{Mode}
use Rattle.pssm_model.specs.declared.steps.Route.{Route}
use Rattle.pssm_model.specs.declared.steps.How.{How}
use Rattle.pssm_model.specs.declared.steps.Firing.{Firing}
use Rattle.pssm_semantics.specs.declared.entry.ObjectId.{ObjectId}
use Rattle.pssm_semantics.specs.declared.entry.Entry.{Entry}
use Rattle.pssm_semantics.specs.declared.entry.Entry.TheVariants.{Post, Start, Take, Done, Exit, Effect, Enter, Opened, Pick, DoStep}
use Rattle.pssm_semantics.specs.Forms.{IsRunRoute, IsShortFiring, IsShortWay, IsRunEntry}
use Rattle.pssm_journal.specs.Naming.{HasStart, HaveStarts, IsSpelledEntry}

-- a route of a run has a start
route_starts : (route : Route) → IsRunRoute route → HasStart route
route_starts route is = is.0

routes_start : (routes : List Route) → AllByRecursion IsRunRoute routes → AllByRecursion HasStart routes
routes_start [] all = tt
routes_start (r ∷ rs) all = (route_starts r all.0, routes_start rs all.1)

firing_starts : (firing : Firing) → IsShortFiring firing → HaveStarts firing
firing_starts firing is = routes_start firing.routes is.0

-- an opening by no way, by a route that has a start, or by a vertex
module _ (o : ObjectId) (region : RegionId) (mode : Mode) where
  opening_starts : (how : How) → IsShortWay how → IsSpelledEntry (Opened o region mode how)
  opening_starts how (inl none) = subst (λ (h : How). IsSpelledEntry (Opened o region mode h)) (sym none) tt
  opening_starts how (inr (inr back)) = subst (λ (h : How). IsSpelledEntry (Opened o region mode h)) (sym back.1) tt
  opening_starts how (inr (inl one)) =
      subst (λ (h : How). IsSpelledEntry (Opened o region mode h)) (sym one.1) (route_starts one.0 one.2.0)

-- the entries of their runs
pub run_is_spelled : (e : Entry) → IsRunEntry e → IsSpelledEntry e
run_is_spelled (Post o s args) is = tt
run_is_spelled (Start o) is = tt
run_is_spelled (Take o number firing) is = (is.numbered, firing_starts firing is.form)
run_is_spelled (Done o state firing) is = firing_starts firing is.form
run_is_spelled (Exit o state xs) is = is.form
run_is_spelled (Effect o t xs) is = is.form
run_is_spelled (Enter o state xs) is = is.form
run_is_spelled (Opened o region mode how) is = opening_starts o region mode how is.form
run_is_spelled (Pick o choice route) is = route_starts route is.form.0
run_is_spelled (DoStep o state step xs) is = is.form
