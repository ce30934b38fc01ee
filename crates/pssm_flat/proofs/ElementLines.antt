-- Variables and elements: the block that goes on with one has its line behind the ones before.
use Rattle.std.proofs.Common.{◌≡◌, ◌≢◌, inl, inr, ℕ, ℤ, ◌<◌, Bool, true, false, eqb, ltb, not, ◌&&◌, List, [], ◌∷◌, ◌++◌, length, Some, refl, sym, ap, subst, ◌∙◌, arith}
use Rattle.std.specs.Prelude.{map, codes}
use Rattle.std.specs.List.{AllByRecursion}
use Rattle.std.proofs.lemmas.Bool.{and_parts, eqb-true, ltb-true}
use Rattle.std.proofs.lemmas.List.{length-append}
use Rattle.pssm_model.specs.declared.ids.VertexId.{VertexId}
use Rattle.pssm_model.specs.declared.elements.Owner.{Owner}
use Rattle.pssm_model.specs.declared.elements.Owner.TheVariants as owners
use Rattle.pssm_model.specs.declared.elements.VertexKind.{VertexKind}
use Rattle.pssm_model.specs.declared.elements.TransKind.{TransKind}
use Rattle.pssm_semantics.specs.declared.setting.VarDecl.{VarDecl}
use Rattle.pssm_semantics.specs.declared.setting.Names.{Names}
use Rattle.pssm_semantics.specs.declared.setting.Class.{Class}
use Rattle.pssm_spelling.specs.Spelling.{IsName}
use Rattle.pssm_acts.proofs.Each.{all_push}
use Rattle.pssm_flat.specs.declared.head.Head.{Head}
use Rattle.pssm_flat.specs.declared.block.Block.{Block}
use Rattle.pssm_flat.specs.Text.{numbered, var_line, machine_line, region_lines, region_line, vertex_line, vertex_lines, transition_line, transition_lines}
use Rattle.pssm_flat.specs.Flat.{Leads, IsNewName, AreNames, IsInteger, IsLabel, IsRegionOwner, IsVertexOwner, IsWrittenVertex, IsWrittenTransition, IsNumbered, LeadsVertex, LeadsTransition, first_program}
use Rattle.pssm_flat.specs.inner.Outlines.{itself, has_name, class_of, machine_of, with_var_name, with_var, with_region, names_region_owner, names_vertex_owner, plain_vertex, with_vertex, plain_transition, with_transition}
use Rattle.pssm_flat.proofs.Bind.{chosen_some, some_is}
use Rattle.pssm_flat.proofs.Items.{fit_push, leads_push, map_push, numbered_next}
use Rattle.pssm_flat.proofs.NameLaws.{none_named, map_itself}
use Rattle.pssm_flat.proofs.LineLaws.{IsSmallOwner}
use Rattle.pssm_flat.proofs.Programs.{GoesOnTo, on_and_on, leads_on, vertex_on, transition_on, no_lines}
use Rattle.pssm_flat.proofs.Good.{block_part, names_with, var_of, IsGoodBlock}
use Rattle.pssm_flat.proofs.Blocks.{Adds, behind_vars, behind_regions, behind_vertices, behind_transitions, empty_from}

pub not_true_is : (t : Bool) → not t ≡ true → t ≡ false
not_true_is true e = absurd cc
not_true_is false e = refl

region_owner_is : (o : Owner) → IsSmallOwner o → names_region_owner o ≡ true → IsRegionOwner o
region_owner_is owners.Top small e = tt
region_owner_is (owners.Region r) small e = absurd cc
region_owner_is (owners.State v) small e = small

vertex_owner_is : (o : Owner) → IsSmallOwner o → names_vertex_owner o ≡ true → IsVertexOwner o
vertex_owner_is owners.Top small e = absurd cc
vertex_owner_is (owners.Region r) small e = small
vertex_owner_is (owners.State v) small e = small

-- the program of a block goes on from the first one
pub block_first : (h : Head) (b : Block) → IsGoodBlock h b → GoesOnTo first_program b.program
block_first h b good =
    let n = good.numbered in
    on_and_on first_program n.middle b.program (leads_on (LeadsVertex b.names) (vertex_on b.names) first_program b.vertices n.middle n.vertices)
    (leads_on (LeadsTransition b.names) (transition_on b.names) n.middle b.transitions b.program n.transitions)

-- no element has been read before the first region
none_begun : (h : Head) (b : Block) → IsGoodBlock h b → b.regions ≡ [] → (b.vertices ≡ []) × (b.transitions ≡ [])
none_begun h b good none = elim good.begun [ inl some ↦ absurd (omega (arith, some, ap length none)) | inr e ↦ e ]

-- a program without behaviours numbers none, whatever names there are
renamed : (names others : Names) (b : Block) → IsNumbered names (machine_of b) b.program → b.vertices ≡ [] → b.transitions ≡ [] → IsNumbered others (machine_of b) b.program
renamed names others b n no_vertices no_transitions =
    let first : first_program ≡ n.middle = subst (λ vs. Leads (LeadsVertex names) first_program vs n.middle) no_vertices n.vertices in
    let last : n.middle ≡ b.program = subst (λ ts. Leads (LeadsTransition names) n.middle ts b.program) no_transitions n.transitions in
    record {
      middle = n.middle;
      vertices = subst (λ vs. Leads (LeadsVertex others) first_program vs n.middle) (sym no_vertices) first;
      transitions = subst (λ ts. Leads (LeadsTransition others) n.middle ts b.program) (sym no_transitions) last;
    }

pub var_adds : (h : Head) (b e : Block) (name : List ℕ) (first : ℤ) → IsGoodBlock h b → IsName name → IsInteger first → with_var b name first ≡ Some e → Adds h b e (var_line (record { name = name; first = first }))
unfolding with_var
var_adds h b e name first good is small eq =
    let v : VarDecl = record { name = name; first = first } in
    let made : Block = record b { names = with_var_name b.names name; vars = b.vars ++ v ∷ [] } in
    let found = chosen_some (eqb (length b.regions) 0 && ltb (length b.vars) 64 && not (has_name itself b.names.vars name)) (Some made) e eq in
    let tests = and_parts (eqb (length b.regions) 0 && ltb (length b.vars) 64) (not (has_name itself b.names.vars name)) found.0 in
    let counts = and_parts (eqb (length b.regions) 0) (ltb (length b.vars) 64) tests.0 in
    let none = empty_from b.regions counts.0 in
    let few : length b.vars < 64 = ltb-true (length b.vars) 64 counts.1 in
    let elements = none_begun h b good none in
    let vars_are : b.names.vars ≡ map var_of b.vars = ap (λ (n : Names). n.vars) good.names_are in
    let new : AllByRecursion (λ (other : List ℕ). other ≢ name) (map var_of b.vars) =
    subst (AllByRecursion (λ (other : List ℕ). other ≢ name)) (map_itself b.names.vars ∙ vars_are) (none_named itself b.names.vars name (not_true_is (has_name itself b.names.vars name) tests.1)) in
    let names : AreNames (map var_of (b.vars ++ v ∷ [])) = subst AreNames (sym (map_push var_of b.vars v)) (fit_push IsNewName [] (map var_of b.vars) name good.var_names (record { name_is = is; new = new })) in
    let named : with_var_name b.names name ≡ names_with h (b.vars ++ v ∷ []) =
    ap (λ (n : Names). with_var_name n name) good.names_are ∙ ap (λ vs. let n : Names = record (names_with h b.vars) { vars = vs } in n) (sym (map_push var_of b.vars v)) in
    let no_regions : numbered region_lines 0 b.regions ≡ [] = ap (numbered region_lines 0) none in
    let no_vertices : (ns : Names) (x : Class) → numbered (vertex_lines ns x) 0 b.vertices ≡ [] = λ ns x. ap (λ vs. numbered (vertex_lines ns x) 0 vs) elements.0 in
    let no_transitions : (ns : Names) (x : Class) → numbered (transition_lines ns x) 0 b.transitions ≡ [] = λ ns x. ap (λ ts. numbered (transition_lines ns x) 0 ts) elements.1 in
    let y = class_of b in
    let parts : block_part made ≡ block_part b ++ var_line v ∷ [] =
    ap (λ vs. machine_line y ∷ (vs ++ (numbered region_lines 0 b.regions ++ (numbered (vertex_lines made.names (class_of made)) 0 b.vertices ++ numbered (transition_lines made.names (class_of made)) 0 b.transitions)))) (map_push var_line b.vars v)
    ∙ ap (λ ls. machine_line y ∷ ((map var_line b.vars ++ var_line v ∷ []) ++ (numbered region_lines 0 b.regions ++ (ls ++ numbered (transition_lines made.names (class_of made)) 0 b.transitions)))) (no_vertices made.names (class_of made) ∙ sym (no_vertices b.names y))
    ∙ ap (λ ls. machine_line y ∷ ((map var_line b.vars ++ var_line v ∷ []) ++ (numbered region_lines 0 b.regions ++ (numbered (vertex_lines b.names y) 0 b.vertices ++ ls)))) (no_transitions made.names (class_of made) ∙ sym (no_transitions b.names y))
    ∙ behind_vars (machine_line y) (map var_line b.vars) _ _ _ (var_line v) no_regions (no_vertices b.names y) (no_transitions b.names y) in
    let kept : IsGoodBlock h made = record {
      names_are = named;
      var_names = names;
      few_vars = omega (arith, few, length-append b.vars (v ∷ []));
      firsts = all_push (λ (w : VarDecl). IsInteger w.first) b.vars v good.firsts small;
      begun = inr elements;
      few_regions = good.few_regions;
      few_vertices = good.few_vertices;
      few_transitions = good.few_transitions;
      regions = good.regions;
      vertices = good.vertices;
      transitions = good.transitions;
      numbered = renamed b.names made.names b good.numbered elements.0 elements.1;
    } in
    subst (λ (x : Block). Adds h b x (var_line v)) (some_is made e found.1) (record { parts = parts; good = kept; name_kept = refl; vars_kept = λ some. absurd (omega (arith, some, ap length none)) })

pub region_adds : (h : Head) (b e : Block) (n : ℕ) (o : Owner) → IsGoodBlock h b → n < 65536 → IsSmallOwner o → with_region b n o ≡ Some e → Adds h b e (region_line n o)
region_adds h b e n o good small owner eq =
    let made : Block = record b { regions = b.regions ++ o ∷ [] } in
    let found = chosen_some (eqb (length b.vertices) 0 && eqb (length b.transitions) 0 && eqb n (length b.regions) && names_region_owner o) (Some made) e eq in
    let tests = and_parts (eqb (length b.vertices) 0 && eqb (length b.transitions) 0 && eqb n (length b.regions)) (names_region_owner o) found.0 in
    let numbers = and_parts (eqb (length b.vertices) 0 && eqb (length b.transitions) 0) (eqb n (length b.regions)) tests.0 in
    let empties = and_parts (eqb (length b.vertices) 0) (eqb (length b.transitions) 0) numbers.0 in
    let number : n ≡ length b.regions = eqb-true n (length b.regions) numbers.1 in
    let y = class_of b in
    let no_vertices : numbered (vertex_lines b.names y) 0 b.vertices ≡ [] = ap (λ vs. numbered (vertex_lines b.names y) 0 vs) (empty_from b.vertices empties.0) in
    let no_transitions : numbered (transition_lines b.names y) 0 b.transitions ≡ [] = ap (λ ts. numbered (transition_lines b.names y) 0 ts) (empty_from b.transitions empties.1) in
    let parts : block_part made ≡ block_part b ++ region_line n o ∷ [] =
    ap (λ r. machine_line y ∷ (map var_line b.vars ++ (r ++ (numbered (vertex_lines b.names y) 0 b.vertices ++ numbered (transition_lines b.names y) 0 b.transitions)))) (numbered_next region_lines b.regions o n number)
    ∙ behind_regions (machine_line y) (map var_line b.vars) (numbered region_lines 0 b.regions) _ _ (region_line n o) no_vertices no_transitions in
    let kept : IsGoodBlock h made = record {
      names_are = good.names_are;
      var_names = good.var_names;
      few_vars = good.few_vars;
      firsts = good.firsts;
      begun = inl (omega (arith, length-append b.regions (o ∷ [])));
      few_regions = omega (arith, number, small, length-append b.regions (o ∷ []));
      few_vertices = good.few_vertices;
      few_transitions = good.few_transitions;
      regions = all_push IsRegionOwner b.regions o good.regions (region_owner_is o owner tests.1);
      vertices = good.vertices;
      transitions = good.transitions;
      numbered = record { middle = good.numbered.middle; vertices = good.numbered.vertices; transitions = good.numbered.transitions };
    } in
    subst (λ (x : Block). Adds h b x (region_line n o)) (some_is made e found.1) (record { parts = parts; good = kept; name_kept = refl; vars_kept = λ some. (omega (arith, length-append b.regions (o ∷ [])), refl) })

pub vertex_adds : (h : Head) (b e : Block) (n : ℕ) (o : Owner) (kind : VertexKind) (label : List ℕ) → IsGoodBlock h b → n < 65536 → IsSmallOwner o → IsLabel label → with_vertex b n o kind label ≡ Some e
    → Adds h b e (vertex_line n (plain_vertex o kind label))
vertex_adds h b e n o kind label good small owner is eq =
    let v = plain_vertex o kind label in
    let made : Block = record b { vertices = b.vertices ++ v ∷ [] } in
    let found = chosen_some (ltb 0 (length b.regions) && eqb (length b.transitions) 0 && eqb n (length b.vertices) && names_vertex_owner o) (Some made) e eq in
    let tests = and_parts (ltb 0 (length b.regions) && eqb (length b.transitions) 0 && eqb n (length b.vertices)) (names_vertex_owner o) found.0 in
    let numbers = and_parts (ltb 0 (length b.regions) && eqb (length b.transitions) 0) (eqb n (length b.vertices)) tests.0 in
    let empties = and_parts (ltb 0 (length b.regions)) (eqb (length b.transitions) 0) numbers.0 in
    let number : n ≡ length b.vertices = eqb-true n (length b.vertices) numbers.1 in
    let some : 0 < length b.regions = ltb-true 0 (length b.regions) empties.0 in
    let none = empty_from b.transitions empties.1 in
    let y = class_of b in
    let names = b.names in
    let no_transitions : numbered (transition_lines names y) 0 b.transitions ≡ [] = ap (λ ts. numbered (transition_lines names y) 0 ts) none in
    let first = block_first h b good in
    let alone : vertex_lines names y n v ≡ vertex_line n v ∷ [] = rw (no_lines (codes "entry") names y v.entry refl first, no_lines (codes "exit") names y v.exit refl first) refl in
    let parts : block_part made ≡ block_part b ++ vertex_line n v ∷ [] =
    ap (λ r. machine_line y ∷ (map var_line b.vars ++ (numbered region_lines 0 b.regions ++ (r ++ numbered (transition_lines names y) 0 b.transitions)))) (numbered_next (vertex_lines names y) b.vertices v n number ∙ ap (λ ls. numbered (vertex_lines names y) 0 b.vertices ++ ls) alone)
    ∙ behind_vertices (machine_line y) (map var_line b.vars) (numbered region_lines 0 b.regions) (numbered (vertex_lines names y) 0 b.vertices) _ (vertex_line n v) no_transitions in
    let middle : good.numbered.middle ≡ b.program = subst (λ xs. Leads (LeadsTransition names) good.numbered.middle xs b.program) none good.numbered.transitions in
    let leads : LeadsVertex names b.program v b.program = record { entered = b.program; left = b.program; entry = inl (refl, refl); exit = inl (refl, refl); steps = refl } in
    let read : IsWrittenVertex (length h.signals) v = record { owner = vertex_owner_is o owner tests.1; label = is; as_state = inr (record { entry = refl; exit = refl; steps = refl; defers = refl }); few_steps = omega arith; defers = tt } in
    let kept : IsGoodBlock h made = record {
      names_are = good.names_are;
      var_names = good.var_names;
      few_vars = good.few_vars;
      firsts = good.firsts;
      begun = inl some;
      few_regions = good.few_regions;
      few_vertices = omega (arith, number, small, length-append b.vertices (v ∷ []));
      few_transitions = good.few_transitions;
      regions = good.regions;
      vertices = all_push (IsWrittenVertex (length h.signals)) b.vertices v good.vertices read;
      transitions = good.transitions;
      numbered = record {
        middle = b.program;
        vertices = leads_push (LeadsVertex names) first_program b.vertices b.program b.program v (subst (λ q. Leads (LeadsVertex names) first_program b.vertices q) middle good.numbered.vertices) leads;
        transitions = subst (λ ts. Leads (LeadsTransition names) b.program ts b.program) (sym none) refl;
      };
    } in
    subst (λ (x : Block). Adds h b x (vertex_line n v)) (some_is made e found.1) (record { parts = parts; good = kept; name_kept = refl; vars_kept = λ some. (some, refl) })

pub transition_adds : (h : Head) (b e : Block) (n : ℕ) (s t : VertexId) (kind : TransKind) → IsGoodBlock h b → n < 65536 → s.0 < 65536 → t.0 < 65536 → with_transition b n s t kind ≡ Some e
    → Adds h b e (transition_line n (plain_transition s t kind))
transition_adds h b e n s t kind good small from to eq =
    let x = plain_transition s t kind in
    let made : Block = record b { transitions = b.transitions ++ x ∷ [] } in
    let found = chosen_some (ltb 0 (length b.regions) && eqb n (length b.transitions)) (Some made) e eq in
    let tests = and_parts (ltb 0 (length b.regions)) (eqb n (length b.transitions)) found.0 in
    let number : n ≡ length b.transitions = eqb-true n (length b.transitions) tests.1 in
    let some : 0 < length b.regions = ltb-true 0 (length b.regions) tests.0 in
    let y = class_of b in
    let names = b.names in
    let alone : transition_lines names y n x ≡ transition_line n x ∷ [] = rw (no_lines (codes "effect") names y x.effect refl (block_first h b good)) refl in
    let parts : block_part made ≡ block_part b ++ transition_line n x ∷ [] =
    ap (λ r. machine_line y ∷ (map var_line b.vars ++ (numbered region_lines 0 b.regions ++ (numbered (vertex_lines names y) 0 b.vertices ++ r)))) (numbered_next (transition_lines names y) b.transitions x n number ∙ ap (λ ls. numbered (transition_lines names y) 0 b.transitions ++ ls) alone)
    ∙ behind_transitions (machine_line y) (map var_line b.vars) (numbered region_lines 0 b.regions) (numbered (vertex_lines names y) 0 b.vertices) (numbered (transition_lines names y) 0 b.transitions) (transition_line n x) in
    let leads : LeadsTransition names b.program x b.program = record { guarded = b.program; guard = refl; effect = inl (refl, refl) } in
    let kept : IsGoodBlock h made = record {
      names_are = good.names_are;
      var_names = good.var_names;
      few_vars = good.few_vars;
      firsts = good.firsts;
      begun = inl some;
      few_regions = good.few_regions;
      few_vertices = good.few_vertices;
      few_transitions = omega (arith, number, small, length-append b.transitions (x ∷ []));
      regions = good.regions;
      vertices = good.vertices;
      transitions = all_push (IsWrittenTransition (length h.signals)) b.transitions x good.transitions (record { source = from; target = to; triggers = tt });
      numbered = record { middle = good.numbered.middle; vertices = good.numbered.vertices; transitions = leads_push (LeadsTransition names) good.numbered.middle b.transitions b.program b.program x good.numbered.transitions leads };
    } in
    subst (λ (z : Block). Adds h b z (transition_line n x)) (some_is made e found.1) (record { parts = parts; good = kept; name_kept = refl; vars_kept = λ some. (some, refl) })
