-- The setting of the generated model.
use Rattle.std.specs.Prelude.{ℕ, List, [], ◌∷◌, map, replicate, codes, Some}
use Rattle.pssm_model.specs.declared.ids.SignalId.{SignalId}
use Rattle.pssm_model.specs.declared.elements.DraftMachine.{DraftMachine}
use Rattle.pssm_model.specs.declared.elements.Vertex.{Vertex}
use Rattle.pssm_model.specs.declared.elements.VertexKind.{VertexKind}
use Rattle.pssm_model.specs.declared.elements.VertexKind.TheVariants.{Initial, State}
use Rattle.pssm_model.specs.declared.elements.Transition.{Transition}
use Rattle.pssm_model.specs.declared.elements.TransKind.TheVariants.{External}
use Rattle.pssm_model.specs.declared.elements.Guard.TheVariants.{Always}
use Rattle.pssm_model.specs.declared.elements.Owner.TheVariants as owners
use Rattle.pssm_semantics.specs.declared.setting.Class.{Class}
use Rattle.pssm_semantics.specs.declared.setting.Setting.{Setting}
use Rattle.pssm_semantics.specs.declared.tree.Act.{Act}
use Rattle.pssm_semantics.specs.declared.tree.Stmt.{Send}
use Rattle.pssm_suite.specs.Generated.{up_to, next_state}

-- a vertex of a region that neither behaves nor defers
abbrev pub vertex : ℕ → VertexKind → List ℕ → Vertex
vertex r kind label =
    record { owner = owners.Region (record { 0 = r }); kind = kind; label = label; entry = record { 0 = 0 }; exit = record { 0 = 0 }; steps = []; defers = [] }

-- an external transition without a guard, with the effect of a number
abbrev pub transition : ℕ → ℕ → List SignalId → ℕ → Transition
transition source target triggers effect = record {
  source = record { 0 = source };
  target = record { 0 = target };
  kind = External;
  triggers = triggers;
  guard = Always;
  effect = record { 0 = effect };
}

-- the signal `Go` alone
abbrev pub on_go : List SignalId
on_go = record { 0 = 0 } ∷ []

-- the behaviour without a statement
abbrev pub nothing : Act
nothing = record { stmts = [] }

-- `send b.Go();`
abbrev pub send_on : Act
send_on = record { stmts = Send (Some (record { 0 = 1 })) (record { 0 = 0 }) [] ∷ [] }

-- ---- the class `Front`

abbrev pub front_machine : ℕ → DraftMachine
front_machine n = record {
  regions = owners.Top ∷ [];
  vertices = vertex 0 Initial [] ∷ replicate n (vertex 0 State []);
  transitions = transition 0 1 [] 0 ∷ map (λ i. transition i (next_state n i) on_go i) (up_to n);
}

-- each step has a behaviour of its own, and all of them are alike
abbrev pub front : ℕ → Class
front n = record {
  name = codes "Front";
  vars = [];
  machine = front_machine n;
  program = record { acts = nothing ∷ replicate n send_on; guards = []; marks = [] };
}

-- ---- the class `Back`

abbrev pub back_machine : DraftMachine
back_machine = record {
  regions = owners.Top ∷ owners.State (record { 0 = 1 }) ∷ owners.State (record { 0 = 1 }) ∷ [];
  vertices = vertex 0 Initial [] ∷ vertex 0 State (codes "S")
      ∷ vertex 1 Initial [] ∷ vertex 1 State (codes "P") ∷ vertex 1 State (codes "P2")
      ∷ vertex 2 Initial [] ∷ vertex 2 State (codes "R") ∷ vertex 2 State (codes "R2") ∷ [];
  transitions = transition 0 1 [] 0 ∷ transition 2 3 [] 0 ∷ transition 5 6 [] 0
      ∷ transition 3 4 on_go 0 ∷ transition 6 7 on_go 0 ∷ transition 4 3 on_go 0 ∷ transition 7 6 on_go 0 ∷ [];
}

abbrev pub back : Class
back = record { name = codes "Back"; vars = []; machine = back_machine; program = record { acts = nothing ∷ []; guards = []; marks = [] } }

-- ---- the setting

-- the signal `Go` without parameters, the two classes, and an object of each
unfoldable pub generated_setting : ℕ → Setting
generated_setting n = record {
  signals = record { name = codes "Go"; count = 0 } ∷ [];
  classes = front n ∷ back ∷ [];
  objects = record { name = codes "a"; class = 0 } ∷ record { name = codes "b"; class = 1 } ∷ [];
}
