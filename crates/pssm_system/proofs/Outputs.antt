-- The posts, sends and marks of a journal: its signals are among them, and an entry of a run has at most 64.
use Rattle.std.proofs.Common.{◌≡◌, ◌≤◌, ◌+◌, ◌*◌, ◌++◌, ℕ, List, [], ◌∷◌, length, arith, length-append}
use Rattle.std.specs.List.{AllByRecursion, flat_map}
use Rattle.std.proofs.lemmas.List.Sums.{sum_by-cons, sum_by_push}
use Rattle.pssm_semantics.specs.declared.entry.Out.{Out}
use Rattle.pssm_semantics.specs.declared.entry.Out.TheVariants.{Mark, Send}
use Rattle.pssm_semantics.specs.declared.entry.Entry.{Entry}
use Rattle.pssm_semantics.specs.declared.entry.Entry.TheVariants.{Post, Start, Take, Done, Exit, Effect, Enter, Opened, Pick, DoStep}
use Rattle.pssm_semantics.specs.Pool.{outs_of, signals_of_out, posts_of_entry, signals_of_entry, signals_of, output_count}
use Rattle.pssm_semantics.specs.Forms.{IsRunEntry}

-- an output sends at most one signal
outs-signals : (outs : List Out) → length (flat_map signals_of_out outs) ≤ length outs
outs-signals [] = omega arith
outs-signals (Mark mark args ∷ outs) = let rest = outs-signals outs in omega arith
outs-signals (Send object signal args ∷ outs) = let rest = outs-signals outs in omega arith

-- a journal has no more signals than outputs
pub signals_of-within : (J : List Entry) → length (signals_of J) ≤ output_count J
signals_of-within [] = omega arith
signals_of-within (e ∷ J) =
    let rest = signals_of-within J in
    let sends = outs-signals (outs_of e) in
    let all = sum_by-cons (λ (f : Entry). length (posts_of_entry f) + length (outs_of f)) e J in
    let entry = length-append (posts_of_entry e) (flat_map signals_of_out (outs_of e)) in
    let both = length-append (signals_of_entry e) (signals_of J) in
    omega arith

-- how many posts, sends and marks an entry has
abbrev pub outputs_in : Entry → ℕ
outputs_in e = length (posts_of_entry e) + length (outs_of e)

-- those of one more entry come to those of the journal
pub output_count-append : (J : List Entry) (e : Entry) → output_count (J ++ e ∷ []) ≡ output_count J + outputs_in e
output_count-append J e = sum_by_push outputs_in J e

-- an entry of a run has at most 64
pub outputs_in-few : (e : Entry) → IsRunEntry e → outputs_in e ≤ 64
outputs_in-few (Post o g args) is = omega arith
outputs_in-few (Start o) is = omega arith
outputs_in-few (Take o number firing) is = omega arith
outputs_in-few (Done o v firing) is = omega arith
outputs_in-few (Exit o v outs) is = let few = is.form in omega (arith, few)
outputs_in-few (Effect o t outs) is = let few = is.form in omega (arith, few)
outputs_in-few (Enter o v outs) is = let few = is.form in omega (arith, few)
outputs_in-few (Opened o r mode how) is = omega arith
outputs_in-few (Pick o v route) is = omega arith
outputs_in-few (DoStep o v k outs) is = let few = is.form in omega (arith, few)

-- so a journal of such entries has at most 64 times as many as it has entries
pub output_count-few : (J : List Entry) → AllByRecursion IsRunEntry J → output_count J ≤ 64 * length J
output_count-few [] all = omega arith
output_count-few (e ∷ J) all =
    let rest = output_count-few J all.1 in
    let first = outputs_in-few e all.0 in
    let both = sum_by-cons outputs_in e J in
    omega arith
