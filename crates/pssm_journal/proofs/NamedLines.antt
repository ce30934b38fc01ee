-- The line of an entry whose names are the setting's.
use Rattle.std.proofs.Common.{◌≡◌, ℕ, ◌<◌, ◌≤◌, List, [], ◌∷◌, ◌++◌, append_assoc, length, zero, suc, Option, Some, None, Result, Ok, Err, refl, sym, ap, subst, ◌∙◌, arith}
use Rattle.std.specs.Prelude.{map, All, option_map, slice_get, codes, OnOk}
use Rattle.std.specs.Fmt.{decimal}
use Rattle.std.specs.Option.{option_map_or}
use Rattle.std.specs.List.{AllByRecursion}
use Rattle.std.proofs.lemmas.List.{length-map}
use Rattle.std.proofs.lemmas.List.Elements.{recursion_from_All}
use Rattle.std.proofs.lemmas.Option.{option_and_then_some}
use Rattle.pssm_model.specs.declared.ids.SignalId.{SignalId}
use Rattle.pssm_model.specs.declared.ids.VertexId.{VertexId}
use Rattle.pssm_model.specs.declared.ids.MarkId.{MarkId}
use Rattle.pssm_model.specs.declared.steps.Route.{Route}
use Rattle.pssm_model.specs.declared.steps.How.TheVariants.{By, Restore, Nothing}
use Rattle.pssm_semantics.specs.declared.entry.ObjectId.{ObjectId}
use Rattle.pssm_semantics.specs.declared.entry.Out.{Out}
use Rattle.pssm_semantics.specs.declared.entry.Out.TheVariants as outs
use Rattle.pssm_semantics.specs.declared.entry.Entry.{Entry}
use Rattle.pssm_semantics.specs.declared.entry.Entry.TheVariants.{Post, Start, Take, Done, Exit, Effect, Enter, Opened, Pick, DoStep}
use Rattle.pssm_semantics.specs.declared.setting.SignalDecl.{SignalDecl}
use Rattle.pssm_semantics.specs.declared.setting.ObjectDecl.{ObjectDecl}
use Rattle.pssm_semantics.specs.declared.setting.Class.{Class}
use Rattle.pssm_semantics.specs.declared.setting.Setting.{Setting}
use Rattle.pssm_semantics.specs.Settings.{class_of, HasCount}
use Rattle.pssm_semantics.specs.Journal.{object_of}
use Rattle.pssm_semantics.specs.Known.{IsOutOf, NamesKnown}
use Rattle.pssm_journal.specs.Entries.{◌>>=◌}
use Rattle.pssm_lines.specs.LineText.{line_text, outs_text}
use Rattle.pssm_lines.specs.Grammar.{IsLine, IsSpelledRoute, IsSpelledOut, AreSpelledOuts}
use Rattle.pssm_journal.specs.Entries.{object_name, object_named, signal_named, mark_named, own_mark_named, out_named, outs_named, entry_at, entry_named, IsEntryOf, KeepsNames}
use Rattle.pssm_journal.specs.Naming.{HasStart, IsSpelledEntry, IsWritten}
use Rattle.pssm_semantics.specs.Names.{AreApart, NamesDiffer, HasSpelledNames}
use Rattle.pssm_journal.specs.inner.EntryLine.{name_of_object, name_of_signal, name_of_mark, out_line, line_of_entry, RouteFits, OutFits, EntryFits}
use Rattle.pssm_spelling.specs.Spelling.{IsName}
use Rattle.pssm_journal.proofs.NameLaws.{object_named_back, signal_named_back, mark_named_back, each_of}

-- ---- what the first rule says of numbers

-- an object that is declared, and its class
pub record IsDeclared (setting : Setting) (o : ObjectId) (class : Class) : Type 0 where
  pub object : ObjectDecl
  pub here : slice_get setting.objects o.0 ≡ Some object
  pub class_here : slice_get setting.classes object.class ≡ Some class

declared_of : (setting : Setting) (o : ObjectId) (class : Class) → class_of setting o ≡ Some class → IsDeclared setting o class
declared_of setting o class e =
    option_and_then_some (λ d. slice_get setting.classes d.class) (slice_get setting.objects o.0) class e (λ d here class_here. record { object = d; here = here; class_here = class_here })

-- the signal of a count
signal_of_count : (setting : Setting) (s : SignalId) (n : ℕ) → HasCount setting s n → (d : SignalDecl) × (slice_get setting.signals s.0 ≡ Some d)
signal_of_count setting s n e = by_option (slice_get setting.signals s.0) refl where
  by_option : (p : Option SignalDecl) → slice_get setting.signals s.0 ≡ p → (d : SignalDecl) × (slice_get setting.signals s.0 ≡ Some d)
  by_option (Some d) here = (d, here)
  by_option None none = let missing : option_map (λ (d : SignalDecl). d.count) None ≡ Some n = subst (λ (p : Option SignalDecl). option_map (λ d. d.count) p ≡ Some n) none e in absurd cc

-- the element at a place that the list has
element_at : {X : Type 0} (xs : List X) (i : ℕ) → i < length xs → (x : X) × (slice_get xs i ≡ Some x)
element_at [] i low = absurd (omega arith)
element_at (x ∷ xs) zero low = (x, refl)
element_at (x ∷ xs) (suc i) low = element_at xs i (omega arith)

-- ---- the line writes the entry

-- a step that goes on with a value
pub bind_at : {A B : Type 0} (o : Option A) (f : A → Option B) (x : A) → o ≡ Some x → (o >>= f) ≡ f x
bind_at {A = A} o f x e = ap (λ (p : Option A). p >>= f) e

own_mark_back : (setting : Setting) (o : ObjectId) (class : Class) (k : MarkId) (n : List ℕ) → NamesDiffer setting → AreApart 65536 class.program.marks → class_of setting o ≡ Some class → slice_get class.program.marks k.0 ≡ Some n
    → own_mark_named setting o (name_of_mark setting o k) ≡ Some k
unfolding own_mark_named
own_mark_back setting o class k n differ apart at here =
    bind_at (class_of setting o) (λ c. mark_named c (name_of_mark setting o k)) class at ∙ mark_named_back setting o class k n differ apart at here

out_back : (setting : Setting) (o : ObjectId) (class : Class) (x : Out) → NamesDiffer setting → class_of setting o ≡ Some class → IsOutOf setting class x → out_named setting o (out_line setting o x) ≡ Some x
unfolding out_named
out_back setting o class (outs.Mark k args) differ at known =
    let n = element_at class.program.marks k.0 known in
    let declared = declared_of setting o class at in
    let apart = each_of (λ c. AreApart 65536 c.program.marks) setting.classes declared.object.class class differ.marks declared.class_here in
    bind_at (own_mark_named setting o (name_of_mark setting o k)) (λ m. Some (outs.Mark m args)) k (own_mark_back setting o class k n.0 differ apart at n.1)
out_back setting o class (outs.Send to s args) differ at known =
    let d = element_at setting.objects to.0 known.0 in
    let g = signal_of_count setting s (length args) known.1 in
    bind_at (object_named setting (name_of_object setting to)) (λ t. signal_named setting (name_of_signal setting s) >>= λ x. Some (outs.Send t x args)) to (object_named_back setting to d.0 differ d.1)
    ∙ bind_at (signal_named setting (name_of_signal setting s)) (λ x. Some (outs.Send to x args)) s (signal_named_back setting s g.0 differ g.1)

outs_back : (setting : Setting) (o : ObjectId) (class : Class) (xs : List Out) → NamesDiffer setting → class_of setting o ≡ Some class → AllByRecursion (IsOutOf setting class) xs → outs_named setting o (map (out_line setting o) xs) ≡ Some xs
unfolding outs_named
outs_back setting o class [] differ at known = refl
outs_back setting o class (x ∷ xs) differ at known =
    bind_at (out_named setting o (out_line setting o x)) (λ y. outs_named setting o (map (out_line setting o) xs) >>= λ ys. Some (y ∷ ys)) x (out_back setting o class x differ at known.0)
    ∙ bind_at (outs_named setting o (map (out_line setting o) xs)) (λ ys. Some (x ∷ ys)) xs (outs_back setting o class xs differ at known.1)

-- with outputs
outs_entry : (setting : Setting) (o : ObjectId) (class : Class) (xs : List Out) (make : List Out → Entry) → NamesDiffer setting → class_of setting o ≡ Some class → All (IsOutOf setting class) xs
    → (outs_named setting o (map (out_line setting o) xs) >>= λ ys. Some (make ys)) ≡ Some (make xs)
outs_entry setting o class xs make differ at known =
    bind_at (outs_named setting o (map (out_line setting o) xs)) (λ ys. Some (make ys)) xs (outs_back setting o class xs differ at (recursion_from_All (IsOutOf setting class) xs known))

entry_back : (setting : Setting) (class : Class) (e : Entry) → NamesDiffer setting → class_of setting (object_of e) ≡ Some class → NamesKnown setting class e → entry_at setting (object_of e) (line_of_entry setting e) ≡ Some e
unfolding entry_at line_of_entry
entry_back setting class (Post o s args) differ at known =
    let g = signal_of_count setting s (length args) known in
    bind_at (signal_named setting (name_of_signal setting s)) (λ x. Some (Post o x args)) s (signal_named_back setting s g.0 differ g.1)
entry_back setting class (Start o) differ at known = refl
entry_back setting class (Take o number firing) differ at known = refl
entry_back setting class (Done o state firing) differ at known = refl
entry_back setting class (Exit o state xs) differ at known = outs_entry setting o class xs (λ ys. Exit o state ys) differ at known.1
entry_back setting class (Effect o t xs) differ at known = outs_entry setting o class xs (λ ys. Effect o t ys) differ at known.1
entry_back setting class (Enter o state xs) differ at known = outs_entry setting o class xs (λ ys. Enter o state ys) differ at known.1
entry_back setting class (Opened o region mode how) differ at known = refl
entry_back setting class (Pick o choice route) differ at known = refl
entry_back setting class (DoStep o state step xs) differ at known = outs_entry setting o class xs (λ ys. DoStep o state step ys) differ at known.1

object_name_is : (setting : Setting) (e : Entry) → object_name (line_of_entry setting e) ≡ name_of_object setting (object_of e)
unfolding line_of_entry
object_name_is setting (Post o s args) = refl
object_name_is setting (Start o) = refl
object_name_is setting (Take o number firing) = refl
object_name_is setting (Done o state firing) = refl
object_name_is setting (Exit o state xs) = refl
object_name_is setting (Effect o t xs) = refl
object_name_is setting (Enter o state xs) = refl
object_name_is setting (Opened o region mode how) = refl
object_name_is setting (Pick o choice route) = refl
object_name_is setting (DoStep o state step xs) = refl

-- the line of an entry writes it
pub line_writes : (setting : Setting) (e : Entry) → NamesDiffer setting → KeepsNames setting e → IsEntryOf setting (line_of_entry setting e) e
unfolding entry_named
line_writes setting e differ keeps =
    let some = keeps [] in
    let declared = declared_of setting (object_of e) some.0 some.1 in
    ap (λ (n : List ℕ). object_named setting n >>= λ o. entry_at setting o (line_of_entry setting e)) (object_name_is setting e)
    ∙ bind_at (object_named setting (name_of_object setting (object_of e))) (λ o. entry_at setting o (line_of_entry setting e)) (object_of e) (object_named_back setting (object_of e) declared.object differ declared.here)
    ∙ entry_back setting some.0 e differ some.1 some.2

-- ---- the line of a spelled entry is spelled

object_is_name : (setting : Setting) (o : ObjectId) (d : ObjectDecl) → HasSpelledNames setting → slice_get setting.objects o.0 ≡ Some d → IsName (name_of_object setting o)
object_is_name setting o d names here =
    subst IsName (sym (ap (λ (p : Option ObjectDecl). option_map_or (λ x. x.name) p []) here)) (each_of (λ x. IsName x.name) setting.objects o.0 d names.objects here)

signal_is_name : (setting : Setting) (s : SignalId) (d : SignalDecl) → HasSpelledNames setting → slice_get setting.signals s.0 ≡ Some d → IsName (name_of_signal setting s)
signal_is_name setting s d names here =
    subst IsName (sym (ap (λ (p : Option SignalDecl). option_map_or (λ x. x.name) p []) here)) (each_of (λ x. IsName x.name) setting.signals s.0 d names.signals here)

mark_is_name : (setting : Setting) (o : ObjectId) (class : Class) (k : MarkId) (n : List ℕ) → HasSpelledNames setting → class_of setting o ≡ Some class → slice_get class.program.marks k.0 ≡ Some n → IsName (name_of_mark setting o k)
mark_is_name setting o class k n names at here =
    let declared = declared_of setting o class at in
    let marks = each_of (λ c. AllByRecursion IsName c.program.marks) setting.classes declared.object.class class names.marks declared.class_here in
    let name : name_of_mark setting o k ≡ n = ap (λ (c : Option Class). option_map_or (λ x. option_map_or (λ m. m) (slice_get x.program.marks k.0) []) c []) at ∙ ap (λ (p : Option (List ℕ)). option_map_or (λ m. m) p []) here in
    subst IsName (sym name) (each_of IsName class.program.marks k.0 n marks here)

out_is_spelled : (setting : Setting) (o : ObjectId) (class : Class) (x : Out) → HasSpelledNames setting → class_of setting o ≡ Some class → IsOutOf setting class x → OutFits x → IsSpelledOut (out_line setting o x)
out_is_spelled setting o class (outs.Mark k args) names at known fits =
    let n = element_at class.program.marks k.0 known in
    (mark_is_name setting o class k n.0 names at n.1, fits)
out_is_spelled setting o class (outs.Send to s args) names at known fits =
    let d = element_at setting.objects to.0 known.0 in
    let g = signal_of_count setting s (length args) known.1 in
    (object_is_name setting to d.0 names d.1, signal_is_name setting s g.0 names g.1, fits)

each_is_spelled : (setting : Setting) (o : ObjectId) (class : Class) (xs : List Out) → HasSpelledNames setting → class_of setting o ≡ Some class → AllByRecursion (IsOutOf setting class) xs → AllByRecursion OutFits xs → AllByRecursion IsSpelledOut (map (out_line setting o) xs)
each_is_spelled setting o class [] names at known fits = tt
each_is_spelled setting o class (x ∷ xs) names at known fits =
    (out_is_spelled setting o class x names at known.0 fits.0, each_is_spelled setting o class xs names at known.1 fits.1)

outs_are_spelled : (setting : Setting) (o : ObjectId) (class : Class) (xs : List Out) → HasSpelledNames setting → class_of setting o ≡ Some class → All (IsOutOf setting class) xs → AllByRecursion OutFits xs → length xs ≤ 64 → AreSpelledOuts (map (out_line setting o) xs)
outs_are_spelled setting o class xs names at known fits few =
    (omega (arith, few, length-map xs (out_line setting o)), each_is_spelled setting o class xs names at (recursion_from_All (IsOutOf setting class) xs known) fits)

routes_are_spelled : (routes : List Route) → AllByRecursion HasStart routes → AllByRecursion RouteFits routes → AllByRecursion IsSpelledRoute routes
routes_are_spelled [] starts fits = tt
routes_are_spelled (r ∷ routes) starts fits = ((starts.0, fits.0.0, fits.0.1), routes_are_spelled routes starts.1 fits.1)

spelled_at_class : (setting : Setting) (class : Class) (d : ObjectDecl) (e : Entry) → HasSpelledNames setting → slice_get setting.objects (object_of e).0 ≡ Some d → class_of setting (object_of e) ≡ Some class → NamesKnown setting class e → IsSpelledEntry e → EntryFits e
    → IsLine (line_of_entry setting e)
unfolding line_of_entry
spelled_at_class setting class d (Post o s args) names here at known spelled fits =
    let g = signal_of_count setting s (length args) known in
    (object_is_name setting o d names here, signal_is_name setting s g.0 names g.1, fits)
spelled_at_class setting class d (Start o) names here at known spelled fits = object_is_name setting o d names here
spelled_at_class setting class d (Take o number firing) names here at known spelled fits =
    (object_is_name setting o d names here, spelled.0, fits.0, routes_are_spelled firing.routes spelled.1 fits.1)
spelled_at_class setting class d (Done o state firing) names here at known spelled fits =
    (object_is_name setting o d names here, fits.0, routes_are_spelled firing.routes spelled fits.1)
spelled_at_class setting class d (Exit o state xs) names here at known spelled fits =
    (object_is_name setting o d names here, fits.0, outs_are_spelled setting o class xs names at known.1 fits.1 spelled)
spelled_at_class setting class d (Effect o t xs) names here at known spelled fits =
    (object_is_name setting o d names here, fits.0, outs_are_spelled setting o class xs names at known.1 fits.1 spelled)
spelled_at_class setting class d (Enter o state xs) names here at known spelled fits =
    (object_is_name setting o d names here, fits.0, outs_are_spelled setting o class xs names at known.1 fits.1 spelled)
spelled_at_class setting class d (Opened o region mode (By route)) names here at known spelled fits =
    (object_is_name setting o d names here, fits.0, (spelled, fits.1.0, fits.1.1))
spelled_at_class setting class d (Opened o region mode (Restore s)) names here at known spelled fits =
    (object_is_name setting o d names here, fits.0, fits.1)
spelled_at_class setting class d (Opened o region mode Nothing) names here at known spelled fits =
    (object_is_name setting o d names here, fits.0, tt)
spelled_at_class setting class d (Pick o choice route) names here at known spelled fits =
    (object_is_name setting o d names here, fits.0, (spelled, fits.1.0, fits.1.1))
spelled_at_class setting class d (DoStep o state step xs) names here at known spelled fits =
    (object_is_name setting o d names here, fits.0, fits.1, outs_are_spelled setting o class xs names at known.1 fits.2 spelled)

pub line_is_spelled : (setting : Setting) (e : Entry) → KeepsNames setting e → EntryFits e → HasSpelledNames setting → IsSpelledEntry e → IsLine (line_of_entry setting e)
line_is_spelled setting e keeps fits names spelled =
    let some = keeps [] in
    let declared = declared_of setting (object_of e) some.0 some.1 in
    spelled_at_class setting some.0 declared.object e names declared.here some.1 some.2 spelled fits

-- ---- the text of the line

-- What was written is the line of the entry.
pub written : (setting : Setting) (e : Entry) (before mid after : List ℕ) → NamesDiffer setting → KeepsNames setting e → EntryFits e → mid ≡ before ++ line_text (line_of_entry setting e) → after ≡ mid ++ 10 ∷ []
    → IsWritten setting e before after
written setting e before mid after differ keeps fits line feed = record {
  line = line_of_entry setting e;
  writes = line_writes setting e differ keeps;
  spelled = line_is_spelled setting e keeps fits;
  text = feed ∙ ap (λ t. t ++ 10 ∷ []) line ∙ append_assoc before (line_text (line_of_entry setting e)) (10 ∷ []);
}

-- What was written behind the front of the line of a step of a do-activity.
pub step_written : {E : Type 0} (r : Result (Unit {0}) E) (old mid new object shown : List ℕ) (state step : ℕ)
    → mid ≡ old ++ (codes "do " ++ (object ++ (codes " v" ++ (decimal state ++ (codes " " ++ decimal step))))) → OnOk r (new ≡ mid ++ shown)
    → OnOk r (new ≡ old ++ (codes "do " ++ (object ++ (codes " v" ++ (decimal state ++ (codes " " ++ (decimal step ++ shown)))))))
step_written (Ok u) old mid new object shown state step front others =
    others ∙ ap (λ t. t ++ shown) front ∙ regrouped old (codes "do ") object (codes " v") (decimal state) (codes " ") (decimal step) shown where
      regrouped : (a b c d e f g h : List ℕ) → (a ++ (b ++ (c ++ (d ++ (e ++ (f ++ g)))))) ++ h ≡ a ++ (b ++ (c ++ (d ++ (e ++ (f ++ (g ++ h))))))
      regrouped a b c d e f g h = simp append_assoc
step_written (Err e) old mid new object shown state step front others = tt

pub step_line : {E : Type 0} (r : Result (Unit {0}) E) (setting : Setting) (o own : ObjectId) (e : Entry) (state : VertexId) (step : ℕ) (xs ys : List Out) (old mid new object : List ℕ)
    → e ≡ DoStep o state step xs → own ≡ object_of e → object ≡ name_of_object setting own → ys ≡ xs
    → mid ≡ old ++ (codes "do " ++ (object ++ (codes " v" ++ (decimal state.0 ++ (codes " " ++ decimal step))))) → OnOk r (new ≡ mid ++ outs_text (map (out_line setting own) ys))
    → OnOk r (new ≡ old ++ line_text (line_of_entry setting e))
unfolding line_of_entry
step_line r setting o own e state step xs ys old mid new object is own_is name outs front others =
    let same : own ≡ o = own_is ∙ ap object_of is in
    let front_is = subst (λ n. mid ≡ old ++ (codes "do " ++ (n ++ (codes " v" ++ (decimal state.0 ++ (codes " " ++ decimal step)))))) (name ∙ ap (λ x. name_of_object setting x) same) front in
    let shown = subst (λ x. OnOk r (new ≡ mid ++ outs_text (map (out_line setting x) xs))) same (subst (λ zs. OnOk r (new ≡ mid ++ outs_text (map (out_line setting own) zs))) outs others) in
    subst (λ x. OnOk r (new ≡ old ++ line_text (line_of_entry setting x))) (sym is)
    (step_written r old mid new (name_of_object setting o) (outs_text (map (out_line setting o) xs)) state.0 step front_is shown)
