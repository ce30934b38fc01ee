-- A line writes as many posts, sends and marks as its entry has.
use Rattle.std.proofs.Common.{◌≡◌, ℕ, suc, ◌+◌, List, [], ◌∷◌, length, Option, Some, None, refl, ap, ◌∙◌, arith}
use Rattle.std.proofs.lemmas.Option.{same_Some}
use Rattle.pssm_semantics.specs.declared.entry.ObjectId.{ObjectId}
use Rattle.pssm_semantics.specs.declared.entry.Out.{Out}
use Rattle.pssm_semantics.specs.declared.entry.Entry.{Entry}
use Rattle.pssm_semantics.specs.declared.entry.Entry.TheVariants as entries
use Rattle.pssm_semantics.specs.declared.line.Line.{Line}
use Rattle.pssm_semantics.specs.declared.line.Line.TheVariants.{Post, Start, Take, Done, Exit, Effect, Enter, Opened, Pick, DoStep}
use Rattle.pssm_semantics.specs.declared.line.LineOut.{LineOut}
use Rattle.pssm_semantics.specs.declared.setting.Setting.{Setting}
use Rattle.pssm_semantics.specs.Pool.{posts_of_entry, outs_of}
use Rattle.pssm_journal.specs.Entries.{◌>>=◌}
use Rattle.pssm_journal.specs.Entries.{object_named, signal_named, out_named, outs_named, object_name, entry_at, entry_named, IsEntryOf}
use Rattle.pssm_journal.specs.Judged.{line_output_count}

-- the value of a step that did not fail
pub step_some : {A B : Type 0} (o : Option A) (f : A → Option B) (y : B) → (o >>= f) ≡ Some y → (x : A) × (o ≡ Some x) × (f x ≡ Some y)
step_some (Some x) f y e = (x, refl, e)
step_some None f y e = absurd cc

-- as many outputs as are written
pub outs_count : (setting : Setting) (o : ObjectId) (xs : List LineOut) (ys : List Out) → outs_named setting o xs ≡ Some ys → length xs ≡ length ys
unfolding outs_named
outs_count setting o [] ys e = ap (λ (t : List Out). length t) (same_Some [] ys e)
outs_count setting o (x ∷ xs) ys e =
    let first = step_some (out_named setting o x) (λ y. outs_named setting o xs >>= λ others. Some (y ∷ others)) ys e in
    let others = step_some (outs_named setting o xs) (λ more. Some (first.0 ∷ more)) ys first.2 in
    ap (λ (n : ℕ). suc n) (outs_count setting o xs others.0 others.1) ∙ ap (λ (t : List Out). length t) (same_Some (first.0 ∷ others.0) ys others.2)

-- how many posts, sends and marks an entry has
abbrev pub entry_output_count : Entry → ℕ
entry_output_count e = length (posts_of_entry e) + length (outs_of e)

no_posts : (n : ℕ) → n ≡ 0 + n
no_posts n = omega arith

count_at : (setting : Setting) (o : ObjectId) (line : Line) (e : Entry) → entry_at setting o line ≡ Some e → line_output_count line ≡ entry_output_count e
unfolding entry_at
count_at setting o (Post object signal args) e is =
    let s = step_some (signal_named setting signal) (λ s. Some (entries.Post o s args)) e is in
    ap entry_output_count (same_Some (entries.Post o s.0 args) e s.2)
count_at setting o (Start object) e is = ap entry_output_count (same_Some (entries.Start o) e is)
count_at setting o (Take object number firing) e is = ap entry_output_count (same_Some (entries.Take o number firing) e is)
count_at setting o (Done object state firing) e is = ap entry_output_count (same_Some (entries.Done o state firing) e is)
count_at setting o (Exit object state outs) e is =
    let xs = step_some (outs_named setting o outs) (λ xs. Some (entries.Exit o state xs)) e is in
    outs_count setting o outs xs.0 xs.1 ∙ no_posts (length xs.0) ∙ ap entry_output_count (same_Some (entries.Exit o state xs.0) e xs.2)
count_at setting o (Effect object t outs) e is =
    let xs = step_some (outs_named setting o outs) (λ xs. Some (entries.Effect o t xs)) e is in
    outs_count setting o outs xs.0 xs.1 ∙ no_posts (length xs.0) ∙ ap entry_output_count (same_Some (entries.Effect o t xs.0) e xs.2)
count_at setting o (Enter object state outs) e is =
    let xs = step_some (outs_named setting o outs) (λ xs. Some (entries.Enter o state xs)) e is in
    outs_count setting o outs xs.0 xs.1 ∙ no_posts (length xs.0) ∙ ap entry_output_count (same_Some (entries.Enter o state xs.0) e xs.2)
count_at setting o (Opened object region mode how) e is = ap entry_output_count (same_Some (entries.Opened o region mode how) e is)
count_at setting o (Pick object choice route) e is = ap entry_output_count (same_Some (entries.Pick o choice route) e is)
count_at setting o (DoStep object state step outs) e is =
    let xs = step_some (outs_named setting o outs) (λ xs. Some (entries.DoStep o state step xs)) e is in
    outs_count setting o outs xs.0 xs.1 ∙ no_posts (length xs.0) ∙ ap entry_output_count (same_Some (entries.DoStep o state step xs.0) e xs.2)

-- a line writes as many posts, sends and marks as its entry has
pub line_outputs : (setting : Setting) (line : Line) (e : Entry) → IsEntryOf setting line e → line_output_count line ≡ length (posts_of_entry e) + length (outs_of e)
unfolding entry_named
line_outputs setting line e is =
    let o = step_some (object_named setting (object_name line)) (λ o. entry_at setting o line) e is in
    count_at setting o.0 line e o.2
