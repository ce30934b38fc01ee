-- The pieces of a text, written one behind the other.
use Rattle.std.proofs.Common.{◌≡◌, ℕ, List, [], ◌∷◌, ◌++◌, refl, sym, ap, ◌∙◌, append_assoc}
use Rattle.std.specs.Prelude.{map, codes}
use Rattle.std.specs.List.{flat_map}
use Rattle.std.specs.Fmt.{decimal}
use Rattle.pssm_model.specs.declared.elements.Vertex.{Vertex}
use Rattle.pssm_model.specs.declared.elements.Transition.{Transition}
use Rattle.pssm_semantics.specs.declared.setting.Names.{Names}
use Rattle.pssm_semantics.specs.declared.setting.Class.{Class}
use Rattle.pssm_semantics.specs.declared.setting.Setting.{Setting}
use Rattle.pssm_flat.specs.Text.{line, text_of, numbered, signal_line, class_line, object_line, machine_line, var_line, region_lines, vertex_line, transition_line, defer_line, on_line, signal_name, behaviour_lines, step_line, guard_lines, vertex_lines, transition_lines, block_lines, machine_lines, flat_lines, flat_text, transition_word}
use Rattle.pssm_flat.proofs.TextLaws.{text_of_append, text_of_map, text_of_flat}

behind : (front : List ℕ) {a b : List ℕ} → a ≡ b → front ++ a ≡ front ++ b
behind front e = ap (λ (t : List ℕ). front ++ t) e

-- two pieces are one
pub two_pieces : (t0 t1 t2 a b : List ℕ) → t1 ≡ t0 ++ a → t2 ≡ t1 ++ b → t2 ≡ t0 ++ (a ++ b)
two_pieces t0 t1 t2 a b e f = f ∙ ap (λ t. t ++ b) e ∙ append_assoc t0 a b

vertex_text : (names : Names) (x : Class) (n : ℕ) (v : Vertex)
    → line (vertex_line n v) ++ (text_of (behaviour_lines (codes "entry") names x v.entry) ++ (text_of (behaviour_lines (codes "exit") names x v.exit) ++ (flat_map (λ act. line (step_line names x act)) v.steps
    ++ flat_map (λ g. line (codes "defer " ++ signal_name names.signals g)) v.defers)))
    ≡ text_of (vertex_lines names x n v)
vertex_text names x n v =
    behind (line (vertex_line n v)) (sym (text_of_append (behaviour_lines (codes "entry") names x v.entry) _
    ∙ behind (text_of (behaviour_lines (codes "entry") names x v.entry)) (text_of_append (behaviour_lines (codes "exit") names x v.exit) _
    ∙ behind (text_of (behaviour_lines (codes "exit") names x v.exit)) (text_of_append (map (step_line names x) v.steps) (map (defer_line names.signals) v.defers)
    ∙ ap (λ t. t ++ text_of (map (defer_line names.signals) v.defers)) (text_of_map (step_line names x) v.steps)
    ∙ behind (flat_map (λ act. line (step_line names x act)) v.steps) (text_of_map (defer_line names.signals) v.defers)))))

pub vertex_written : (names : Names) (x : Class) (n : ℕ) (v : Vertex) (t0 t1 t2 t3 t4 t5 : List ℕ)
    → t1 ≡ t0 ++ line (vertex_line n v) → t2 ≡ t1 ++ text_of (behaviour_lines (codes "entry") names x v.entry) → t3 ≡ t2 ++ text_of (behaviour_lines (codes "exit") names x v.exit)
    → t4 ≡ t3 ++ flat_map (λ act. line (step_line names x act)) v.steps → t5 ≡ t4 ++ flat_map (λ g. line (codes "defer " ++ signal_name names.signals g)) v.defers
    → t5 ≡ t0 ++ text_of (vertex_lines names x n v)
vertex_written names x n v t0 t1 t2 t3 t4 t5 e1 e2 e3 e4 e5 =
    two_pieces t0 t1 t5 _ _ e1 (two_pieces t1 t2 t5 _ _ e2 (two_pieces t2 t3 t5 _ _ e3 (two_pieces t3 t4 t5 _ _ e4 e5))) ∙ behind t0 (vertex_text names x n v)

transition_text : (names : Names) (x : Class) (n : ℕ) (t : Transition)
    → line (transition_line n t) ++ (flat_map (λ g. line (codes "on " ++ signal_name names.signals g)) t.triggers ++ (text_of (guard_lines names x t.guard) ++ text_of (behaviour_lines (codes "effect") names x t.effect)))
    ≡ text_of (transition_lines names x n t)
transition_text names x n t =
    behind (line (transition_line n t)) (sym (text_of_append (map (on_line names.signals) t.triggers) _
    ∙ ap (λ s. s ++ text_of (guard_lines names x t.guard ++ behaviour_lines (codes "effect") names x t.effect)) (text_of_map (on_line names.signals) t.triggers)
    ∙ behind (flat_map (λ g. line (codes "on " ++ signal_name names.signals g)) t.triggers) (text_of_append (guard_lines names x t.guard) (behaviour_lines (codes "effect") names x t.effect))))

pub transition_written : (names : Names) (x : Class) (n : ℕ) (t : Transition) (t0 t1 t2 t3 t4 : List ℕ)
    → t1 ≡ t0 ++ line (transition_line n t) → t2 ≡ t1 ++ flat_map (λ g. line (codes "on " ++ signal_name names.signals g)) t.triggers → t3 ≡ t2 ++ text_of (guard_lines names x t.guard)
    → t4 ≡ t3 ++ text_of (behaviour_lines (codes "effect") names x t.effect) → t4 ≡ t0 ++ text_of (transition_lines names x n t)
transition_written names x n t t0 t1 t2 t3 t4 e1 e2 e3 e4 = two_pieces t0 t1 t4 _ _ e1 (two_pieces t1 t2 t4 _ _ e2 (two_pieces t2 t3 t4 _ _ e3 e4)) ∙ behind t0 (transition_text names x n t)

pub block_written : (names : Names) (x : Class) (t0 t1 t2 t3 t4 t5 : List ℕ)
    → t1 ≡ t0 ++ line (machine_line x) → t2 ≡ t1 ++ flat_map (λ y. line (var_line y)) x.vars → t3 ≡ t2 ++ text_of (numbered region_lines 0 x.machine.regions)
    → t4 ≡ t3 ++ text_of (numbered (vertex_lines names x) 0 x.machine.vertices) → t5 ≡ t4 ++ text_of (numbered (transition_lines names x) 0 x.machine.transitions)
    → t5 ≡ t0 ++ text_of (block_lines names x)
block_written names x t0 t1 t2 t3 t4 t5 e1 e2 e3 e4 e5 =
    let regions = numbered region_lines 0 x.machine.regions in
    let vertices = numbered (vertex_lines names x) 0 x.machine.vertices in
    let transitions = numbered (transition_lines names x) 0 x.machine.transitions in
    two_pieces t0 t1 t5 _ _ e1 (two_pieces t1 t2 t5 _ _ e2 (two_pieces t2 t3 t5 _ _ e3 (two_pieces t3 t4 t5 _ _ e4 e5)))
    ∙ behind t0 (behind (line (machine_line x)) (sym (text_of_append (map var_line x.vars) (regions ++ (vertices ++ transitions))
    ∙ ap (λ t. t ++ text_of (regions ++ (vertices ++ transitions))) (text_of_map var_line x.vars)
    ∙ behind (flat_map (λ y. line (var_line y)) x.vars) (text_of_append regions (vertices ++ transitions) ∙ behind (text_of regions) (text_of_append vertices transitions)))))

pub flat_written : (s : Setting) (t t0 t1 t2 t3 t4 t5 : List ℕ)
    → t0 ≡ t ++ line (codes "pssm-flat 1") → t1 ≡ t0 ++ flat_map (λ x. line (signal_line x)) s.signals → t2 ≡ t1 ++ flat_map (λ x. line (class_line x)) s.classes
    → t3 ≡ t2 ++ flat_map (λ x. line (object_line s.classes x)) s.objects → t4 ≡ t3 ++ flat_map (λ x. text_of (machine_lines s x)) s.classes → t5 ≡ t4 ++ line (codes "end") → t5 ≡ t ++ flat_text s
unfolding flat_text flat_lines
flat_written s t t0 t1 t2 t3 t4 t5 e0 e1 e2 e3 e4 e5 =
    let signals = map signal_line s.signals in
    let classes = map class_line s.classes in
    let objects = map (object_line s.classes) s.objects in
    let machines = flat_map (machine_lines s) s.classes in
    let end : List (List ℕ) = codes "end" ∷ [] in
    let text_end : line (codes "end") ≡ text_of end = refl in
    let tail : text_of (machines ++ end) ≡ flat_map (λ x. text_of (machine_lines s x)) s.classes ++ line (codes "end") = text_of_append machines end ∙ ap (λ t. t ++ text_of end) (text_of_flat (machine_lines s) s.classes) in
    let pieces : t5 ≡ t ++ (line (codes "pssm-flat 1") ++ (flat_map (λ x. line (signal_line x)) s.signals ++ (flat_map (λ x. line (class_line x)) s.classes ++ (flat_map (λ x. line (object_line s.classes x)) s.objects ++ (flat_map (λ x. text_of (machine_lines s x)) s.classes ++ line (codes "end")))))) =
    two_pieces t t0 t5 _ _ e0 (two_pieces t0 t1 t5 _ _ e1 (two_pieces t1 t2 t5 _ _ e2 (two_pieces t2 t3 t5 _ _ e3 (two_pieces t3 t4 t5 _ _ e4 e5)))) in
    let lines : text_of (codes "pssm-flat 1" ∷ (signals ++ (classes ++ (objects ++ (machines ++ end)))))
    ≡ line (codes "pssm-flat 1") ++ (flat_map (λ x. line (signal_line x)) s.signals ++ (flat_map (λ x. line (class_line x)) s.classes ++ (flat_map (λ x. line (object_line s.classes x)) s.objects ++ (flat_map (λ x. text_of (machine_lines s x)) s.classes ++ line (codes "end"))))) =
    behind (line (codes "pssm-flat 1")) (text_of_append signals (classes ++ (objects ++ (machines ++ end))) ∙ ap (λ t. t ++ text_of (classes ++ (objects ++ (machines ++ end)))) (text_of_map signal_line s.signals)
    ∙ behind (flat_map (λ x. line (signal_line x)) s.signals) (text_of_append classes (objects ++ (machines ++ end)) ∙ ap (λ t. t ++ text_of (objects ++ (machines ++ end))) (text_of_map class_line s.classes)
    ∙ behind (flat_map (λ x. line (class_line x)) s.classes) (text_of_append objects (machines ++ end) ∙ ap (λ t. t ++ text_of (machines ++ end)) (text_of_map (object_line s.classes) s.objects)
    ∙ behind (flat_map (λ x. line (object_line s.classes x)) s.objects) tail))) in
    let grouped : flat_lines s ≡ codes "pssm-flat 1" ∷ (signals ++ (classes ++ (objects ++ (machines ++ end)))) = simp append_assoc in
    pieces ∙ behind t (sym lines ∙ ap text_of (sym grouped))

pub transition_line_written : (n : ℕ) (t : Transition) (t0 t2 t3 t4 : List ℕ)
    → t2 ≡ t0 ++ (codes "transition t" ++ decimal n) → t3 ≡ t2 ++ (codes " v" ++ (decimal t.source.0 ++ (codes " v" ++ decimal t.target.0))) → t4 ≡ t3 ++ line (codes " " ++ transition_word t.kind)
    → t4 ≡ t0 ++ line (transition_line n t)
transition_line_written n t t0 t2 t3 t4 e2 e3 e4 =
    two_pieces t0 t2 t4 _ _ e2 (two_pieces t2 t3 t4 _ _ e3 e4) ∙ behind t0 (grouped (decimal n) (decimal t.source.0) (decimal t.target.0) (transition_word t.kind)) where
      grouped : (a b c w : List ℕ) → (codes "transition t" ++ a) ++ ((codes " v" ++ (b ++ (codes " v" ++ c))) ++ line (codes " " ++ w)) ≡ line (codes "transition t" ++ (a ++ (codes " v" ++ (b ++ (codes " v" ++ (c ++ (codes " " ++ w)))))))
      grouped a b c w = simp append_assoc
