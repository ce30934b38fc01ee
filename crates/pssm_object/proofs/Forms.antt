-- An entry that keeps every rule has one of the forms that the entries of such an object have.
use Rattle.std.proofs.Common.{◌≡◌, ℕ, List, IfSome, IsSomeAnd, Option, Some, None, inl, inr}
use Rattle.pssm_model.specs.declared.steps.Firing.{Firing}
use Rattle.pssm_model.specs.declared.steps.Event.TheVariants.{Signal, Completion}
use Rattle.pssm_model.specs.Routes.{Truth}
use Rattle.pssm_config.specs.Tables.{configuration_of}
use Rattle.pssm_semantics.specs.declared.entry.Entry.{Entry}
use Rattle.pssm_semantics.specs.declared.entry.Entry.TheVariants.{Post, Start, Take, Done, Exit, Effect, Enter, Opened, Pick, DoStep}
use Rattle.pssm_semantics.specs.declared.entry.Rule.TheVariants.{A12}
use Rattle.pssm_semantics.specs.declared.setting.Class.{Class}
use Rattle.pssm_semantics.specs.Journal.{object_of}
use Rattle.pssm_semantics.specs.Pool.{told_by}
use Rattle.pssm_semantics.specs.Values.{eight_of, no_params}
use Rattle.pssm_semantics.specs.Behaviours.{guards_under}
use Rattle.pssm_semantics.specs.Classes.{IsWellFormedClass}
use Rattle.pssm_semantics.specs.Forms.{IsShortFiring, HasForm}
use Rattle.pssm_semantics_laws.proofs.Outcomes.{few_outs}
use Rattle.pssm_pool.specs.declared.pools.Waiting.{Waiting}
use Rattle.pssm_object.specs.Standing.{Standing, StandsAfter}
use Rattle.pssm_object.specs.Following.{NamesSignal, KeepsRules}
use Rattle.pssm_object.specs.inner.Judging.{FiresHere, JudgesLiving, Judges}
use Rattle.pssm_object.proofs.Accepted.{accepted}
use Rattle.pssm_object.proofs.SomeWays.{opening_way_is_short}
use Rattle.pssm_object.proofs.LateRoutes.{late_is_short}
use Rattle.pssm_object.proofs.Unshared.{short_firing}

module _ (class : Class) (b : IsWellFormedClass class) {J : List Entry} {x : Standing} (s : StandsAfter class J x) where
  abbrev here : Truth
  here = guards_under class x.store x.params

  take_of : (signal : Option Waiting) (number : ℕ) (firing : Firing) → IsSomeAnd signal (λ w. number ≡ w.number)
      → IfSome signal (FiresHere class x firing.routes) → IsShortFiring firing
  take_of None number firing named fires = absurd named
  take_of (Some w) number firing named fires =
      short_firing s.fits.shape b.rules (configuration_of x.config) (guards_under class x.store (eight_of w.args)) (Signal w.signal) firing fires

  form_of : (signal : Option Waiting) (e : Entry) → KeepsRules class x signal J e → NamesSignal signal e → JudgesLiving class x signal e None → HasForm e
  form_of signal (Post o g args) kept named h = tt
  form_of signal (Start o) kept named h = tt
  form_of signal (Take o number firing) kept named h = take_of signal number firing named h.2
  form_of signal (Done o v firing) kept named h =
      short_firing s.fits.shape b.rules (configuration_of x.config) (guards_under class x.store no_params) (Completion v) firing h.2
  form_of signal (Exit o v outs) kept named h = few_outs class b.proper (told_by J) J (Exit o v outs) (kept A12)
  form_of signal (Effect o t outs) kept named h = few_outs class b.proper (told_by J) J (Effect o t outs) (kept A12)
  form_of signal (Enter o v outs) kept named h = few_outs class b.proper (told_by J) J (Enter o v outs) (kept A12)
  form_of signal (Opened o r mode how) kept named h = opening_way_is_short s.fits.shape b.rules here r (configuration_of x.config).Remembers mode how h.1
  form_of signal (Pick o v route) kept named h = late_is_short s.fits.shape b.rules here v route h.1
  form_of signal (DoStep o v k outs) kept named h = few_outs class b.proper (told_by J) J (DoStep o v k outs) (kept A12)

  form_by : (signal : Option Waiting) (e : Entry) → KeepsRules class x signal J e → NamesSignal signal e → Judges class x signal e None → HasForm e
  form_by signal e kept named (inl (past, clash)) = absurd (cc)
  form_by signal e kept named (inr (lives, h)) = form_of signal e kept named h

  pub has_form : (signal : Option Waiting) (e : Entry) → object_of e ≡ x.own → NamesSignal signal e → KeepsRules class x signal J e → HasForm e
  has_form signal e own named kept = form_by signal e kept named (accepted class b s signal e own kept)
