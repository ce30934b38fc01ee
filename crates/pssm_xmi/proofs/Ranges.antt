-- The draft of a file without faults is in range and plain.
use Rattle.std.proofs.Common.{◌≡◌, ℕ, true, length, Option, refl, ap, subst, arith}
use Rattle.std.specs.Prelude.{codes}
use Rattle.std.specs.List.{AllByRecursion}
use Rattle.std.specs.Option.{option_map_or}
use Rattle.std.proofs.lemmas.List.{length-map}
use Rattle.pssm_model.specs.declared.draft_setting.DraftParts.{DraftParts}
use Rattle.pssm_model.specs.declared.draft_setting.PartTransition.{PartTransition}
use Rattle.pssm_model.specs.DraftSettings.{RegionInRange, VertexInRange, TransitionInRange, PartsInRange, ClassInRange, SignalInRange, IsInRange, IsPlainVertex, IsVertexEnd, IsPlainDraft}
use Rattle.pssm_roles.specs.declared.role.Role.{Role}
use Rattle.pssm_roles.specs.declared.role.Role.TheVariants as role
use Rattle.pssm_roles.specs.Roles.{HasRole}
use Rattle.pssm_numbering.specs.Numbering.{ModelFile, role_at, signals, machines, classes, place_in, own_with, is_class, is_machine, is_region, is_vertex, is_transition}
use Rattle.pssm_numbering.specs.Kinds.{is_any_state}
use Rattle.pssm_numbering.specs.Meanings.{meant, redefined_vertex}
use Rattle.pssm_parts.specs.Elements.{region_at, vertex_at, state_at, pseudostate_at, transition_at}
use Rattle.pssm_drafting.specs.Drafts.{draft_of, parts_at, signal_at, class_at}
use Rattle.pssm_xmi.specs.Faultless.{IsFaultless}
use Rattle.pssm_xmi.proofs.Tests.{picked}
use Rattle.pssm_xmi.proofs.Numbers.{StandsIn, place_within, all_made}
use Rattle.pssm_xmi.proofs.Known.{OneRole, known, stands_with, with_stands}
use Rattle.pssm_xmi.proofs.Places.{own_is}
use Rattle.pssm_xmi.proofs.Owners.{owner_in_range, vertex_owned}
use Rattle.pssm_xmi.proofs.Behaviours.{behaviour_is}
use Rattle.pssm_xmi.proofs.Kept.{small_machines, few_variables}
use Rattle.pssm_xmi.proofs.Limited.{few_signals, few_parameters, few_classes}
use Rattle.pssm_xmi.proofs.Objects.{objects_in_range}
use Rattle.pssm_xmi.proofs.References.{region_part, vertex_part, regions_there, vertices_there, transitions_there, machine_there, source_there, target_there, signals_there}

transition_is : (r : Role) → is_transition r ≡ true → r ≡ role.Transition
transition_is role.Transition is = refl
transition_is _ is = absurd (cc)

module _ (one_role : OneRole) (file : ModelFile) (fine : IsFaultless file) where
  -- ---- the elements of a machine

  region_in_range : (m n : ℕ) → StandsIn n (own_with is_region file m) → RegionInRange (draft_of file) (parts_at file m) (region_at file n)
  region_in_range m n stands =
      let own = own_is file is_region m n stands in
      record {
        owner = owner_in_range one_role file fine.roles fine.ordered n m (region_part (role_at file n) own.0) own.1;
        extends = regions_there one_role file fine (meant (codes "extendedRegion") file n);
      }

  vertex_in_range : (m n : ℕ) → StandsIn n (own_with is_vertex file m) → VertexInRange (draft_of file) (parts_at file m) (vertex_at file n)
  vertex_in_range m n stands =
      let own = own_is file is_vertex m n stands in
      let owner = owner_in_range one_role file fine.roles fine.ordered n m (vertex_part (role_at file n) own.0) own.1 in
      picked (VertexInRange (draft_of file) (parts_at file m)) (is_any_state (role_at file n)) (state_at file n) (pseudostate_at file n)
      (record {
        owner = owner;
        defers = signals_there file (codes "deferrableTrigger") n;
        redefines = vertices_there one_role file fine (redefined_vertex file n);
        submachine = tt;
        connections = tt;
      })
      (record { owner = owner; defers = tt; redefines = tt; submachine = tt; connections = tt })

  transition_in_range : (m n : ℕ) → StandsIn n (own_with is_transition file m) → TransitionInRange (draft_of file) (transition_at file n)
  transition_in_range m n stands =
      let own = own_is file is_transition m n stands in
      let has : HasRole file.doc n role.Transition =
      subst (HasRole file.doc n) (transition_is (role_at file n) own.0) (known one_role file fine.roles is_transition n refl own.0) in
      record {
        source = source_there one_role file fine n has;
        target = target_there one_role file fine n has;
        triggers = signals_there file (codes "trigger") n;
        redefines = transitions_there one_role file fine (meant (codes "redefinedTransition") file n);
      }

  machine_in_range : (m : ℕ) → PartsInRange (draft_of file) (parts_at file m)
  machine_in_range m = record {
    extends = machine_there one_role file fine (meant (codes "extendedStateMachine") file m);
    regions = all_made (RegionInRange (draft_of file) (parts_at file m)) (region_at file) (own_with is_region file m) (region_in_range m);
    vertices = all_made (VertexInRange (draft_of file) (parts_at file m)) (vertex_at file) (own_with is_vertex file m) (vertex_in_range m);
    transitions = all_made (TransitionInRange (draft_of file)) (transition_at file) (own_with is_transition file m) (transition_in_range m);
  }

  -- ---- classes and signals

  class_in_range : (c : ℕ) → StandsIn c (classes file) → ClassInRange (draft_of file) (class_at file c)
  class_in_range c stands =
      let behaviour = behaviour_is one_role file fine c (with_stands file is_class c stands) in
      let at : (class_at file c).machine ≡ place_in (machines file) behaviour.0 =
      ap (λ (o : Option ℕ). option_map_or (place_in (machines file)) o (length (machines file))) behaviour.1 in
      let less = place_within behaviour.0 (machines file) (stands_with one_role file fine.roles is_machine behaviour.0 refl behaviour.2) in
      let same = length-map (machines file) (parts_at file) in
      record { machine = omega (arith, at, less, same); vars = few_variables file fine.limits c stands }

  signal_in_range : (n : ℕ) → SignalInRange (draft_of file) (signal_at file n)
  signal_in_range n = record { count = few_parameters one_role file fine n; parent = tt }

  -- ---- the draft

  pub in_range : IsInRange (draft_of file)
  in_range =
      let objects = objects_in_range one_role file fine in
      record {
        signals = all_made (SignalInRange (draft_of file)) (signal_at file) (signals file) (λ n stands. signal_in_range n);
        few_signals = let same = length-map (signals file) (signal_at file) in let few = few_signals one_role file fine in omega (arith, same, few);
        machines = all_made (PartsInRange (draft_of file)) (parts_at file) (machines file) (λ m stands. machine_in_range m);
        small = small_machines file fine.limits;
        classes = all_made (ClassInRange (draft_of file)) (class_at file) (classes file) class_in_range;
        few_classes = let same = length-map (classes file) (class_at file) in let few = few_classes one_role file fine in omega (arith, same, few);
        objects = objects.0;
        few_objects = objects.1;
      }

  -- ---- what can be flattened

  plain_vertex : (m n : ℕ) → StandsIn n (own_with is_vertex file m) → IsPlainVertex (vertex_at file n)
  plain_vertex m n stands =
      let own = own_is file is_vertex m n stands in
      let owner = vertex_owned one_role file fine.roles fine.ordered n own.0 (vertex_part (role_at file n) own.0) in
      picked IsPlainVertex (is_any_state (role_at file n)) (state_at file n) (pseudostate_at file n)
      (record { submachine = refl; connections = refl; owner = owner })
      (record { submachine = refl; connections = refl; owner = owner })

  -- Both ends are vertices.
  abbrev HasVertexEnds : PartTransition → Type 0
  HasVertexEnds t = IsVertexEnd t.source × IsVertexEnd t.target

  pub plain : IsPlainDraft (draft_of file)
  plain = record {
    vertices = all_made (λ (p : DraftParts). AllByRecursion IsPlainVertex p.vertices) (parts_at file) (machines file)
        (λ m stands. all_made IsPlainVertex (vertex_at file) (own_with is_vertex file m) (plain_vertex m));
    ends = all_made (λ (p : DraftParts). AllByRecursion HasVertexEnds p.transitions) (parts_at file) (machines file)
        (λ m stands. all_made HasVertexEnds (transition_at file) (own_with is_transition file m) (λ n own. (tt, tt)));
  }
