-- How one thing that happens changes a configuration.
use Rattle.std.specs.Prelude.{◌≡◌, ◌≢◌, ◌⊎◌, ◌↔◌, ℕ, Some}
use Rattle.pssm_model.specs.declared.ids.VertexId.{VertexId}
use Rattle.pssm_model.specs.declared.ids.RegionId.{RegionId}
use Rattle.pssm_model.specs.declared.elements.DraftMachine.{DraftMachine}
use Rattle.pssm_model.specs.declared.elements.Owner.TheVariants.{Region, State}
use Rattle.pssm_model.specs.Forest.{owner_of}
use Rattle.pssm_model.specs.Configuration.{Configuration, IsDirect}

-- The two say the same of everything: what is active, remembered, done and left empty (UML 2.5.1 14.2.3.4, State configurations).
pub record Agree (a b : Configuration) : Type 0 where
  pub active : (s : VertexId) → a.Active s ↔ b.Active s
  pub remembered : (r : RegionId) (s : VertexId) → a.Remembers r s ↔ b.Remembers r s
  pub stepped : (s : VertexId) (k : ℕ) → a.HasDoneStep s k ↔ b.HasDoneStep s k
  pub left_empty : (r : RegionId) → a.LeftEmpty r ↔ b.LeftEmpty r

-- the configuration before anything has happened: nothing is active, remembered, done or left empty
-- (PSSM 1.0 8.5, before the initial run-to-completion step)
abbrev pub nothing_yet : Configuration
nothing_yet = record {
  Active = λ s. ⊥;
  Remembers = λ r s. ⊥;
  HasDoneStep = λ s k. ⊥;
  LeftEmpty = λ r. ⊥;
}

-- The State is a direct vertex of the region, or owns it, so that entering the State leaves the region empty no more (this profile's choice).
abbrev pub FillsOrOwns : DraftMachine → VertexId → RegionId → Type 0
FillsOrOwns m s r = IsDirect m s r ⊎ (owner_of m (Region r) ≡ Some (State s))

-- the configuration once the State is entered: it is active besides, none of its do steps is done, and neither the region that it lies in directly
-- nor a region of its own is left empty (UML 2.5.1 14.2.3.4, entering a State; do steps and empty regions are this profile's choice)
abbrev pub entered : DraftMachine → Configuration → VertexId → Configuration
entered m now s = record {
  Active = λ v. (v ≡ s) ⊎ now.Active v;
  Remembers = now.Remembers;
  HasDoneStep = λ v k. (v ≢ s) × now.HasDoneStep v k;
  LeftEmpty = λ r. now.LeftEmpty r × (FillsOrOwns m s r → ⊥);
}

-- the configuration once the State is exited: it is active no more, and the region that it lies in directly remembers it in place of another and is
-- not left empty; what is done of its do steps stays done (UML 2.5.1 14.2.3.4, exiting a State and State history; the rest is this profile's choice)
abbrev pub exited : DraftMachine → Configuration → VertexId → Configuration
exited m now s = record {
  Active = λ v. (v ≢ s) × now.Active v;
  Remembers = λ r v. ((v ≡ s) × IsDirect m s r) ⊎ (now.Remembers r v × (IsDirect m s r → ⊥));
  HasDoneStep = now.HasDoneStep;
  LeftEmpty = λ r. now.LeftEmpty r × (IsDirect m s r → ⊥);
}

-- the configuration once the region is opened by no way: it is left empty besides (this profile's choice)
abbrev pub opened_none : Configuration → RegionId → Configuration
opened_none now r = record now { LeftEmpty = λ q. (q ≡ r) ⊎ now.LeftEmpty q }

-- the configuration once the region is opened by some way: it is not left empty (UML 2.5.1 14.2.3.2 and 14.2.3.4, default activation and State history)
abbrev pub opened_way : Configuration → RegionId → Configuration
opened_way now r = record now { LeftEmpty = λ q. (q ≢ r) × now.LeftEmpty q }

-- the configuration once the State has done a step of its do-activity (UML 2.5.1 14.2.3.4, doActivity; the steps are this profile's choice)
abbrev pub did_step : Configuration → VertexId → ℕ → Configuration
did_step now s k = record now { HasDoneStep = λ v j. ((v ≡ s) × (j ≡ k)) ⊎ now.HasDoneStep v j }
