-- Values that compare as equal are equal.
use Rattle.std.specs.Prelude.{◌≡◌, ℤ, ℕ, List, ◌==◌, true}
use Rattle.std.proofs.Common.{ap, ◌∙◌, rules}
use Rattle.std.proofs.lemmas.Bool.Decides.{Decides-eqb, Decides-int_eq}
use Rattle.std.specs.Ordering.{int_eq}
use Rattle.std.specs.Cmp.Lexicographic.{pointwise}
use Rattle.pssm_model.specs.Equal.{both_pass, row_same, text_same, draft_same, firing_same, how_same, route_same, signal_same, trans_same, vertex_id_same}
use Rattle.pssm_model.specs.declared.ids.MarkId.{MarkId}
use Rattle.pssm_model.specs.declared.ids.RegionId.{RegionId}
use Rattle.pssm_model.specs.declared.ids.SignalId.{SignalId}
use Rattle.pssm_model.specs.declared.steps.Mode.{Mode}
use Rattle.pssm_model.specs.contracts.ids.MarkIdPartialEq.TheImpl.{eq-value as mark_eq}
use Rattle.pssm_model.specs.contracts.ids.RegionIdPartialEq.TheImpl.{eq-value as region_eq}
use Rattle.pssm_model.specs.contracts.steps.ModePartialEq.TheImpl.{eq-value as mode_eq}
use Rattle.pssm_semantics.specs.declared.entry.ObjectId.{ObjectId}
use Rattle.pssm_semantics.specs.declared.entry.Out.{Out}
use Rattle.pssm_semantics.specs.declared.entry.Out.TheVariants as outs
use Rattle.pssm_semantics.specs.declared.entry.Entry.{Entry}
use Rattle.pssm_semantics.specs.declared.entry.Entry.TheVariants.{Post, Start, Take, Done, Exit, Effect, Enter, Opened, Pick, DoStep}
use Rattle.pssm_semantics.specs.declared.stimulus.Stimulus.{Stimulus}
use Rattle.pssm_semantics.specs.declared.tree.Act.{Act}
use Rattle.pssm_semantics.specs.declared.tree.Cond.{Cond}
use Rattle.pssm_semantics.specs.declared.setting.SignalDecl.{SignalDecl}
use Rattle.pssm_semantics.specs.declared.setting.VarDecl.{VarDecl}
use Rattle.pssm_semantics.specs.declared.setting.ObjectDecl.{ObjectDecl}
use Rattle.pssm_semantics.specs.declared.setting.Program.{Program}
use Rattle.pssm_semantics.specs.declared.setting.Class.{Class}
use Rattle.pssm_semantics.specs.declared.setting.Setting.{Setting}
use Rattle.pssm_model.specs.declared.elements.DraftMachine.{DraftMachine}
use Rattle.pssm_model.specs.Codes.{same_by, same_by-only}
use Rattle.pssm_semantics.specs.contracts.tree.Act.{the_row as act_row}
use Rattle.pssm_semantics.specs.contracts.tree.Cond.{the_row as cond_row}
use Rattle.pssm_semantics.specs.contracts.setting.SignalDeclPartialEq.TheImpl.{eq-value as signal_decl_eq}
use Rattle.pssm_semantics.specs.contracts.setting.VarDeclPartialEq.TheImpl.{eq-value as var_decl_eq}
use Rattle.pssm_semantics.specs.contracts.setting.ObjectDeclPartialEq.TheImpl.{eq-value as object_decl_eq}
use Rattle.pssm_semantics.specs.contracts.setting.ProgramPartialEq.TheImpl.{eq-value as program_eq}
use Rattle.pssm_semantics.specs.contracts.setting.ClassPartialEq.TheImpl.{eq-value as class_eq}
use Rattle.pssm_semantics.specs.contracts.setting.SettingPartialEq.TheImpl.{eq-value as setting_eq}
use Rattle.pssm_semantics.specs.contracts.entry.ObjectIdPartialEq.TheImpl.{eq-value as object_eq}
use Rattle.pssm_semantics.specs.contracts.entry.OutPartialEq.TheImpl.{eq-value as out_eq}
use Rattle.pssm_semantics.specs.contracts.entry.EntryPartialEq.TheImpl.{eq-value as entry_eq}
use Rattle.pssm_semantics.specs.contracts.stimulus.StimulusPartialEq.TheImpl.{eq-value as stimulus_eq}

pub mark_same : (a b : MarkId) → mark_eq.it a b ≡ true → a ≡ b
mark_same a b e = search rules

pub region_same : (a b : RegionId) → region_eq.it a b ≡ true → a ≡ b
region_same a b e = search rules

pub mode_same : (a b : Mode) → mode_eq.it a b ≡ true → a ≡ b
mode_same a b e = search rules

pub object_same : (a b : ObjectId) → object_eq.it a b ≡ true → a ≡ b
object_same a b e = search rules

pub number_same : (n k : ℕ) → (n == k) ≡ true → n ≡ k
number_same n k e = (Decides-eqb n k).0 e

pub args_same : (xs ys : List ℤ) → pointwise int_eq xs ys ≡ true → xs ≡ ys
args_same xs ys e = row_same (λ n k h. (Decides-int_eq n k).0 h) xs ys e

-- equal parts make equal values
three : {A B C X : Type 0} (f : A → B → C → X) (a d : A) (b e : B) (c g : C) → a ≡ d → b ≡ e → c ≡ g → f a b c ≡ f d e g
three f a d b e c g p q r = ap (λ x. f x b c) p ∙ ap (λ x. f d x c) q ∙ ap (λ x. f d e x) r

four : {A B C D X : Type 0} (f : A → B → C → D → X) (a e : A) (b g : B) (c h : C) (d k : D) → a ≡ e → b ≡ g → c ≡ h → d ≡ k → f a b c d ≡ f e g h k
four f a e b g c h d k p q r s = ap (λ x. f x b c d) p ∙ ap (λ x. f e x c d) q ∙ ap (λ x. f e g x d) r ∙ ap (λ x. f e g h x) s

pub out_same : (a b : Out) → out_eq.it a b ≡ true → a ≡ b
out_same (outs.Mark m x) (outs.Mark n y) e =
    let both = both_pass _ _ e in
    ap (λ k. outs.Mark k x) (mark_same m n both.0) ∙ ap (λ z. outs.Mark n z) (args_same x y both.1)
out_same (outs.Send o s x) (outs.Send p t y) e =
    let one = both_pass _ _ e in
    let two = both_pass _ _ one.1 in
    three (λ q r z. outs.Send q r z) o p s t x y (object_same o p one.0) (signal_same s t two.0) (args_same x y two.1)
out_same a b e = cc

pub entry_same : (a b : Entry) → entry_eq.it a b ≡ true → a ≡ b
entry_same (Post o s x) (Post p t y) e =
    let one = both_pass _ _ e in
    let two = both_pass _ _ one.1 in
    three (λ q r z. Post q r z) o p s t x y (object_same o p one.0) (signal_same s t two.0) (args_same x y two.1)
entry_same (Start o) (Start p) e = ap (λ q. Start q) (object_same o p e)
entry_same (Take o n f) (Take p k g) e =
    let one = both_pass _ _ e in
    let two = both_pass _ _ one.1 in
    three (λ q r z. Take q r z) o p n k f g (object_same o p one.0) (number_same n k two.0) (firing_same f g two.1)
entry_same (Done o s f) (Done p t g) e =
    let one = both_pass _ _ e in
    let two = both_pass _ _ one.1 in
    three (λ q r z. Done q r z) o p s t f g (object_same o p one.0) (vertex_id_same s t two.0) (firing_same f g two.1)
entry_same (Exit o s x) (Exit p t y) e =
    let one = both_pass _ _ e in
    let two = both_pass _ _ one.1 in
    three (λ q r z. Exit q r z) o p s t x y (object_same o p one.0) (vertex_id_same s t two.0) (row_same out_same x y two.1)
entry_same (Effect o s x) (Effect p t y) e =
    let one = both_pass _ _ e in
    let two = both_pass _ _ one.1 in
    three (λ q r z. Effect q r z) o p s t x y (object_same o p one.0) (trans_same s t two.0) (row_same out_same x y two.1)
entry_same (Enter o s x) (Enter p t y) e =
    let one = both_pass _ _ e in
    let two = both_pass _ _ one.1 in
    three (λ q r z. Enter q r z) o p s t x y (object_same o p one.0) (vertex_id_same s t two.0) (row_same out_same x y two.1)
entry_same (Opened o r w h) (Opened p s v g) e =
    let one = both_pass _ _ e in
    let two = both_pass _ _ one.1 in
    let rest = both_pass _ _ two.1 in
    four (λ q t u z. Opened q t u z) o p r s w v h g (object_same o p one.0) (region_same r s two.0) (mode_same w v rest.0) (how_same h g rest.1)
entry_same (Pick o c r) (Pick p d s) e =
    let one = both_pass _ _ e in
    let two = both_pass _ _ one.1 in
    three (λ q t z. Pick q t z) o p c d r s (object_same o p one.0) (vertex_id_same c d two.0) (route_same r s two.1)
entry_same (DoStep o s k x) (DoStep p t j y) e =
    let one = both_pass _ _ e in
    let two = both_pass _ _ one.1 in
    let rest = both_pass _ _ two.1 in
    four (λ q r n z. DoStep q r n z) o p s t k j x y (object_same o p one.0) (vertex_id_same s t two.0) (number_same k j rest.0) (row_same out_same x y rest.1)
entry_same a b e = cc

stimulus_of : ObjectId → SignalId → List ℤ → Stimulus
stimulus_of object signal args = record { object = object; signal = signal; args = args }

pub stimulus_same : (a b : Stimulus) → stimulus_eq.it a b ≡ true → a ≡ b
unfolding stimulus_of
stimulus_same a b e =
    let one = both_pass _ _ e in
    let two = both_pass _ _ one.1 in
    three stimulus_of a.object b.object a.signal b.signal a.args b.args (object_same a.object b.object one.0)
    (signal_same a.signal b.signal two.0) (args_same a.args b.args two.1)

pub act_same : (a b : Act) → same_by act_row.coded a b ≡ true → a ≡ b
act_same a b e = same_by-only act_row.coded a b e

pub cond_same : (a b : Cond) → same_by cond_row.coded a b ≡ true → a ≡ b
cond_same a b e = same_by-only cond_row.coded a b e

signal_decl_of : List ℕ → ℕ → SignalDecl
signal_decl_of name count = record { name = name; count = count }

pub signal_decl_same : (a b : SignalDecl) → signal_decl_eq.it a b ≡ true → a ≡ b
unfolding signal_decl_of
signal_decl_same a b e =
    let both = both_pass _ _ e in
    ap (λ x. signal_decl_of x a.count) (text_same a.name b.name both.0) ∙ ap (λ x. signal_decl_of b.name x) (number_same a.count b.count both.1)

var_decl_of : List ℕ → ℤ → VarDecl
var_decl_of name first = record { name = name; first = first }

pub var_decl_same : (a b : VarDecl) → var_decl_eq.it a b ≡ true → a ≡ b
unfolding var_decl_of
var_decl_same a b e =
    let both = both_pass _ _ e in
    ap (λ x. var_decl_of x a.first) (text_same a.name b.name both.0) ∙ ap (λ x. var_decl_of b.name x) ((Decides-int_eq a.first b.first).0 both.1)

object_decl_of : List ℕ → ℕ → ObjectDecl
object_decl_of name class = record { name = name; class = class }

pub object_decl_same : (a b : ObjectDecl) → object_decl_eq.it a b ≡ true → a ≡ b
unfolding object_decl_of
object_decl_same a b e =
    let both = both_pass _ _ e in
    ap (λ x. object_decl_of x a.class) (text_same a.name b.name both.0) ∙ ap (λ x. object_decl_of b.name x) (number_same a.class b.class both.1)

program_of : List Act → List Cond → List (List ℕ) → Program
program_of acts guards marks = record { acts = acts; guards = guards; marks = marks }

pub program_same : (a b : Program) → program_eq.it a b ≡ true → a ≡ b
unfolding program_of
program_same a b e =
    let one = both_pass _ _ e in
    let two = both_pass _ _ one.1 in
    three program_of a.acts b.acts a.guards b.guards a.marks b.marks (row_same act_same a.acts b.acts one.0)
    (row_same cond_same a.guards b.guards two.0) (row_same text_same a.marks b.marks two.1)

class_with : List ℕ → List VarDecl → DraftMachine → Program → Class
class_with name vars machine program = record { name = name; vars = vars; machine = machine; program = program }

pub class_same : (a b : Class) → class_eq.it a b ≡ true → a ≡ b
unfolding class_with
class_same a b e =
    let one = both_pass _ _ e in
    let two = both_pass _ _ one.1 in
    let rest = both_pass _ _ two.1 in
    four class_with a.name b.name a.vars b.vars a.machine b.machine a.program b.program (text_same a.name b.name one.0)
    (row_same var_decl_same a.vars b.vars two.0) (draft_same a.machine b.machine rest.0) (program_same a.program b.program rest.1)

setting_of : List SignalDecl → List Class → List ObjectDecl → Setting
setting_of signals classes objects = record { signals = signals; classes = classes; objects = objects }

pub setting_same : (a b : Setting) → setting_eq.it a b ≡ true → a ≡ b
unfolding setting_of
setting_same a b e =
    let one = both_pass _ _ e in
    let two = both_pass _ _ one.1 in
    three setting_of a.signals b.signals a.classes b.classes a.objects b.objects (row_same signal_decl_same a.signals b.signals one.0)
    (row_same class_same a.classes b.classes two.0) (row_same object_decl_same a.objects b.objects two.1)
