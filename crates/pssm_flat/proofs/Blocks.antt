-- One more line of a block: the block that has been read then has the line behind the ones before.
use Rattle.std.proofs.Common.{◌≡◌, inl, inr, ℕ, ◌+◌, ◌<◌, true, eqb, List, [], ◌∷◌, ◌++◌, length, refl, sym, ap, subst, ◌∙◌, append_assoc, arith}
use Rattle.std.specs.Prelude.{map}
use Rattle.std.specs.List.{AllByRecursion}
use Rattle.std.proofs.lemmas.Bool.{eqb-true}
use Rattle.std.proofs.lemmas.List.{append-nil, nil_from_length, length-append}
use Rattle.pssm_model.specs.declared.elements.Vertex.{Vertex}
use Rattle.pssm_model.specs.declared.elements.Transition.{Transition}
use Rattle.pssm_semantics.specs.declared.setting.Class.{Class}
use Rattle.pssm_semantics.specs.declared.setting.Program.{Program}
use Rattle.pssm_acts.proofs.Each.{all_push}
use Rattle.pssm_flat.specs.declared.head.Head.{Head}
use Rattle.pssm_flat.specs.declared.block.Block.{Block}
use Rattle.pssm_flat.specs.Text.{numbered, var_line, machine_line, region_lines, vertex_lines, transition_lines}
use Rattle.pssm_flat.specs.Flat.{Leads, IsWrittenVertex, IsWrittenTransition, LeadsVertex, LeadsTransition, first_program}
use Rattle.pssm_flat.specs.inner.Outlines.{class_of, with_last_vertex, with_last_transition}
use Rattle.pssm_flat.proofs.Items.{leads_push, leads_split, all_split, numbered_next}
use Rattle.pssm_flat.proofs.Programs.{GoesOnTo, same_on, on_and_on, leads_on, vertex_on, transition_on, vertices_stay, vertex_stays, transitions_stay, transition_stays}
use Rattle.pssm_flat.proofs.Good.{block_part, IsGoodBlock}

-- the block that goes on has this further line
pub record Adds (h : Head) (b e : Block) (l : List ℕ) : Type 0 where
  pub parts : block_part e ≡ block_part b ++ l ∷ []
  pub good : IsGoodBlock h e
  pub name_kept : e.name ≡ b.name
  -- Behind the first region the variables stay.
  pub vars_kept : 0 < length b.regions → (0 < length e.regions) × (e.vars ≡ b.vars)

-- ---- where a line is put

pub three : (a b c : List (List ℕ)) (l : List ℕ) → a ++ (b ++ (c ++ l ∷ [])) ≡ (a ++ (b ++ c)) ++ l ∷ []
three a b c l = simp append_assoc

pub behind_vars : (m : List ℕ) (v r x t : List (List ℕ)) (l : List ℕ) → r ≡ [] → x ≡ [] → t ≡ [] → m ∷ ((v ++ l ∷ []) ++ (r ++ (x ++ t))) ≡ (m ∷ (v ++ (r ++ (x ++ t)))) ++ l ∷ []
behind_vars m v r x t l p e f = rw (p, e, f) (ap (λ ls. m ∷ ls) (append-nil (v ++ l ∷ []) ∙ ap (λ ls. ls ++ l ∷ []) (sym (append-nil v))))

pub behind_regions : (m : List ℕ) (v r x t : List (List ℕ)) (l : List ℕ) → x ≡ [] → t ≡ [] → m ∷ (v ++ ((r ++ l ∷ []) ++ (x ++ t))) ≡ (m ∷ (v ++ (r ++ (x ++ t)))) ++ l ∷ []
behind_regions m v r x t l e f =
    rw (e, f) (ap (λ ls. m ∷ ls) (ap (λ ls. v ++ ls) (append-nil (r ++ l ∷ [])) ∙ sym (append_assoc v r (l ∷ [])) ∙ ap (λ ls. (v ++ ls) ++ l ∷ []) (sym (append-nil r))))

pub behind_vertices : (m : List ℕ) (v r x t : List (List ℕ)) (l : List ℕ) → t ≡ [] → m ∷ (v ++ (r ++ ((x ++ l ∷ []) ++ t))) ≡ (m ∷ (v ++ (r ++ (x ++ t)))) ++ l ∷ []
behind_vertices m v r x t l f =
    rw f (ap (λ ls. m ∷ ls) (ap (λ ls. v ++ (r ++ ls)) (append-nil (x ++ l ∷ [])) ∙ three v r x l ∙ ap (λ ls. (v ++ (r ++ ls)) ++ l ∷ []) (sym (append-nil x))))

pub behind_transitions : (m : List ℕ) (v r x t : List (List ℕ)) (l : List ℕ) → m ∷ (v ++ (r ++ (x ++ (t ++ l ∷ [])))) ≡ (m ∷ (v ++ (r ++ (x ++ t)))) ++ l ∷ []
behind_transitions m v r x t l = simp append_assoc

pub empty_from : {X : Type 0} (xs : List X) → eqb (length xs) 0 ≡ true → xs ≡ []
empty_from xs e = nil_from_length xs (eqb-true (length xs) 0 e)

-- ---- the last vertex

-- its number
last_number : {X : Type 0} (f : ℕ → X → List (List ℕ)) (others : List X) (x : X) → numbered f 0 (others ++ x ∷ []) ≡ numbered f 0 others ++ f (length others) x
last_number f others x = numbered_next f others x (length others) refl

first_of_leads : {X : Type 0} (Step : Program → X → Program → Type 0) (on : (p : Program) (x : X) (q : Program) → Step p x q → GoesOnTo p q) (xs : List X) (q : Program) → Leads Step first_program xs q → GoesOnTo first_program q
first_of_leads Step on xs q leads = leads_on Step on first_program xs q leads

-- what is known of a block whose last vertex may go on
pub record AtVertex (h : Head) (b : Block) (others : List Vertex) (v : Vertex) : Type 0 where
  pub good : IsGoodBlock h b
  pub vertices_are : b.vertices ≡ others ++ v ∷ []
  pub no_transitions : b.transitions ≡ []
  pub some_regions : 0 < length b.regions
  pub before : Program
  pub leads_others : Leads (LeadsVertex b.names) first_program others before
  pub leads_last : LeadsVertex b.names before v b.program
  pub first : GoesOnTo first_program before
  pub written_others : AllByRecursion (IsWrittenVertex (length h.signals)) others
  pub written_last : IsWrittenVertex (length h.signals) v

some_vertices : {X : Type 0} (others : List X) (x : X) → (others ++ x ∷ []) ≡ [] → ⊥
some_vertices [] x e = absurd cc
some_vertices (y ∷ others) x e = absurd cc

pub at_vertex : (h : Head) (b : Block) (others : List Vertex) (v : Vertex) → IsGoodBlock h b → b.vertices ≡ others ++ v ∷ [] → b.transitions ≡ [] → AtVertex h b others v
at_vertex h b others v good are none =
    let n = good.numbered in
    let leads : Leads (LeadsVertex b.names) first_program (others ++ v ∷ []) n.middle = subst (λ xs. Leads (LeadsVertex b.names) first_program xs n.middle) are n.vertices in
    let split = leads_split (LeadsVertex b.names) first_program others n.middle v leads in
    let middle : n.middle ≡ b.program = subst (λ xs. Leads (LeadsTransition b.names) n.middle xs b.program) none n.transitions in
    let written = all_split (IsWrittenVertex (length h.signals)) others v (subst (AllByRecursion (IsWrittenVertex (length h.signals))) are good.vertices) in
    record {
      good = good;
      vertices_are = are;
      no_transitions = none;
      some_regions = elim good.begun [ inl some ↦ some | inr e ↦ absurd (some_vertices others v (sym are ∙ e.0)) ];
      before = split.0;
      leads_others = split.1;
      leads_last = subst (λ q. LeadsVertex b.names split.0 v q) middle split.2;
      first = first_of_leads (LeadsVertex b.names) (vertex_on b.names) others split.0 split.1;
      written_others = written.0;
      written_last = written.1;
    }

-- The last vertex goes on with one line, and the program perhaps with a behaviour.
pub vertex_goes_on : (h : Head) (b : Block) (others : List Vertex) (v w : Vertex) (q : Program) (l : List ℕ) (a : AtVertex h b others v)
    → LeadsVertex b.names a.before w q → GoesOnTo b.program q → IsWrittenVertex (length h.signals) w
    → ((x : Class) → x.program ≡ q → vertex_lines b.names x (length others) w ≡ vertex_lines b.names x (length others) v ++ l ∷ []) → Adds h b (with_last_vertex b others w q) l
vertex_goes_on h b others v w q l a leads on written lines =
    let e : Block = with_last_vertex b others w q in
    let x = class_of e in
    let y = class_of b in
    let names = b.names in
    let before_on = vertex_on names a.before v b.program a.leads_last in
    let same_others : numbered (vertex_lines names x) 0 others ≡ numbered (vertex_lines names y) 0 others =
    vertices_stay names x y 0 first_program others a.before a.leads_others (same_on first_program first_program refl) (on_and_on a.before b.program q before_on on) before_on in
    let same_last : vertex_lines names x (length others) v ≡ vertex_lines names y (length others) v = vertex_stays names x y (length others) a.before v b.program a.leads_last a.first on (same_on b.program b.program refl) in
    let vertices : numbered (vertex_lines names x) 0 (others ++ w ∷ []) ≡ numbered (vertex_lines names y) 0 b.vertices ++ l ∷ [] =
    last_number (vertex_lines names x) others w
    ∙ ap (λ ls. ls ++ vertex_lines names x (length others) w) same_others
    ∙ ap (λ ls. numbered (vertex_lines names y) 0 others ++ ls) (lines x refl ∙ ap (λ ls. ls ++ l ∷ []) same_last)
    ∙ sym (append_assoc (numbered (vertex_lines names y) 0 others) (vertex_lines names y (length others) v) (l ∷ []))
    ∙ ap (λ ls. ls ++ l ∷ []) (sym (last_number (vertex_lines names y) others v) ∙ ap (λ vs. numbered (vertex_lines names y) 0 vs) (sym a.vertices_are)) in
    let none_x : numbered (transition_lines names x) 0 b.transitions ≡ [] = ap (λ ts. numbered (transition_lines names x) 0 ts) a.no_transitions in
    let none_y : numbered (transition_lines names y) 0 b.transitions ≡ [] = ap (λ ts. numbered (transition_lines names y) 0 ts) a.no_transitions in
    let vars = map var_line b.vars in
    let regions = numbered region_lines 0 b.regions in
    let count : length b.vertices ≡ length others + 1 = ap length a.vertices_are ∙ omega (arith, length-append others (v ∷ [])) in
    let few = a.good.few_vertices in
    record {
      parts = ap (λ ls. machine_line y ∷ (vars ++ (regions ++ (ls ++ numbered (transition_lines names x) 0 b.transitions)))) vertices
          ∙ ap (λ ls. machine_line y ∷ (vars ++ (regions ++ ((numbered (vertex_lines names y) 0 b.vertices ++ l ∷ []) ++ ls)))) (none_x ∙ sym none_y)
          ∙ behind_vertices (machine_line y) vars regions (numbered (vertex_lines names y) 0 b.vertices) (numbered (transition_lines names y) 0 b.transitions) l none_y;
      good = record {
        names_are = a.good.names_are;
        var_names = a.good.var_names;
        few_vars = a.good.few_vars;
        firsts = a.good.firsts;
        begun = inl a.some_regions;
        few_regions = a.good.few_regions;
        few_vertices = omega (arith, few, count, length-append others (w ∷ []));
        few_transitions = a.good.few_transitions;
        regions = a.good.regions;
        vertices = all_push (IsWrittenVertex (length h.signals)) others w a.written_others written;
        transitions = a.good.transitions;
        numbered = record {
          middle = q;
          vertices = leads_push (LeadsVertex names) first_program others a.before q w a.leads_others leads;
          transitions = subst (λ ts. Leads (LeadsTransition names) q ts q) (sym a.no_transitions) refl;
        };
      };
      name_kept = refl;
      vars_kept = λ some. (some, refl);
    }

-- ---- the last transition

pub record AtTransition (h : Head) (b : Block) (others : List Transition) (t : Transition) : Type 0 where
  pub good : IsGoodBlock h b
  pub transitions_are : b.transitions ≡ others ++ t ∷ []
  pub some_regions : 0 < length b.regions
  pub middle : Program
  pub leads_vertices : Leads (LeadsVertex b.names) first_program b.vertices middle
  pub before : Program
  pub leads_others : Leads (LeadsTransition b.names) middle others before
  pub leads_last : LeadsTransition b.names before t b.program
  pub first_middle : GoesOnTo first_program middle
  pub middle_before : GoesOnTo middle before
  pub first : GoesOnTo first_program before
  pub written_others : AllByRecursion (IsWrittenTransition (length h.signals)) others
  pub written_last : IsWrittenTransition (length h.signals) t

pub at_transition : (h : Head) (b : Block) (others : List Transition) (t : Transition) → IsGoodBlock h b → b.transitions ≡ others ++ t ∷ [] → AtTransition h b others t
at_transition h b others t good are =
    let n = good.numbered in
    let leads : Leads (LeadsTransition b.names) n.middle (others ++ t ∷ []) b.program = subst (λ xs. Leads (LeadsTransition b.names) n.middle xs b.program) are n.transitions in
    let split = leads_split (LeadsTransition b.names) n.middle others b.program t leads in
    let written = all_split (IsWrittenTransition (length h.signals)) others t (subst (AllByRecursion (IsWrittenTransition (length h.signals))) are good.transitions) in
    let first_middle = first_of_leads (LeadsVertex b.names) (vertex_on b.names) b.vertices n.middle n.vertices in
    let middle_before = leads_on (LeadsTransition b.names) (transition_on b.names) n.middle others split.0 split.1 in
    record {
      good = good;
      transitions_are = are;
      some_regions = elim good.begun [ inl some ↦ some | inr e ↦ absurd (some_vertices others t (sym are ∙ e.1)) ];
      middle = n.middle;
      leads_vertices = n.vertices;
      before = split.0;
      leads_others = split.1;
      leads_last = split.2;
      first_middle = first_middle;
      middle_before = middle_before;
      first = on_and_on first_program n.middle split.0 first_middle middle_before;
      written_others = written.0;
      written_last = written.1;
    }

-- The last transition goes on with one line, and the program perhaps with a behaviour or guard.
pub transition_goes_on : (h : Head) (b : Block) (others : List Transition) (t u : Transition) (q : Program) (l : List ℕ) (a : AtTransition h b others t)
    → LeadsTransition b.names a.before u q → GoesOnTo b.program q → IsWrittenTransition (length h.signals) u
    → ((x : Class) → x.program ≡ q → transition_lines b.names x (length others) u ≡ transition_lines b.names x (length others) t ++ l ∷ []) → Adds h b (with_last_transition b others u q) l
transition_goes_on h b others t u q l a leads on written lines =
    let e : Block = with_last_transition b others u q in
    let x = class_of e in
    let y = class_of b in
    let names = b.names in
    let last_on = transition_on names a.before t b.program a.leads_last in
    let before_x = on_and_on a.before b.program q last_on on in
    let same_vertices : numbered (vertex_lines names x) 0 b.vertices ≡ numbered (vertex_lines names y) 0 b.vertices =
    vertices_stay names x y 0 first_program b.vertices a.middle a.leads_vertices (same_on first_program first_program refl) (on_and_on a.middle a.before q a.middle_before before_x) (on_and_on a.middle a.before b.program a.middle_before last_on) in
    let same_others : numbered (transition_lines names x) 0 others ≡ numbered (transition_lines names y) 0 others =
    transitions_stay names x y 0 a.middle others a.before a.leads_others a.first_middle before_x last_on in
    let same_last : transition_lines names x (length others) t ≡ transition_lines names y (length others) t = transition_stays names x y (length others) a.before t b.program a.leads_last a.first on (same_on b.program b.program refl) in
    let transitions : numbered (transition_lines names x) 0 (others ++ u ∷ []) ≡ numbered (transition_lines names y) 0 b.transitions ++ l ∷ [] =
    last_number (transition_lines names x) others u
    ∙ ap (λ ls. ls ++ transition_lines names x (length others) u) same_others
    ∙ ap (λ ls. numbered (transition_lines names y) 0 others ++ ls) (lines x refl ∙ ap (λ ls. ls ++ l ∷ []) same_last)
    ∙ sym (append_assoc (numbered (transition_lines names y) 0 others) (transition_lines names y (length others) t) (l ∷ []))
    ∙ ap (λ ls. ls ++ l ∷ []) (sym (last_number (transition_lines names y) others t) ∙ ap (λ ts. numbered (transition_lines names y) 0 ts) (sym a.transitions_are)) in
    let vars = map var_line b.vars in
    let regions = numbered region_lines 0 b.regions in
    let count : length b.transitions ≡ length others + 1 = ap length a.transitions_are ∙ omega (arith, length-append others (t ∷ [])) in
    let few = a.good.few_transitions in
    record {
      parts = ap (λ ls. machine_line y ∷ (vars ++ (regions ++ (ls ++ numbered (transition_lines names x) 0 (others ++ u ∷ []))))) same_vertices
          ∙ ap (λ ls. machine_line y ∷ (vars ++ (regions ++ (numbered (vertex_lines names y) 0 b.vertices ++ ls)))) transitions
          ∙ behind_transitions (machine_line y) vars regions (numbered (vertex_lines names y) 0 b.vertices) (numbered (transition_lines names y) 0 b.transitions) l;
      good = record {
        names_are = a.good.names_are;
        var_names = a.good.var_names;
        few_vars = a.good.few_vars;
        firsts = a.good.firsts;
        begun = inl a.some_regions;
        few_regions = a.good.few_regions;
        few_vertices = a.good.few_vertices;
        few_transitions = omega (arith, few, count, length-append others (u ∷ []));
        regions = a.good.regions;
        vertices = a.good.vertices;
        transitions = all_push (IsWrittenTransition (length h.signals)) others u a.written_others written;
        numbered = record {
          middle = a.middle;
          vertices = a.leads_vertices;
          transitions = leads_push (LeadsTransition names) a.middle others a.before q u a.leads_others leads;
        };
      };
      name_kept = refl;
      vars_kept = λ some. (some, refl);
    }
