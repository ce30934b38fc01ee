-- A stimulus that the setting knows may be posted at any time.
use Rattle.std.proofs.Common.{◌≡◌, List, Option, Some, Result, Ok, Err, IfOk, IfSome, refl, sym, subst, inr}
use Rattle.pssm_semantics.specs.declared.entry.Entry.{Entry}
use Rattle.pssm_semantics.specs.declared.entry.Rule.{Rule}
use Rattle.pssm_semantics.specs.declared.entry.Rule.TheVariants.{A1, A2, A3, A4, A5, A6, A7, A8, A9, A10, A11, A12}
use Rattle.pssm_semantics.specs.declared.setting.Setting.{Setting}
use Rattle.pssm_semantics.specs.declared.stimulus.Stimulus.{Stimulus}
use Rattle.pssm_semantics.specs.Rules.{Holds}
use Rattle.pssm_semantics.specs.Known.{IsStimulusOf}
use Rattle.pssm_system.specs.History.{History}
use Rattle.pssm_book.specs.Stimuli.{post_of}
use Rattle.pssm_book.specs.inner.Nexts.{IsNext}

pub post_follows : (setting : Setting) (J : List Entry) (x : Stimulus) → IsStimulusOf setting x → (rule : Rule) → Holds setting rule J (post_of x)
post_follows setting K x known A1 = known
post_follows setting K x known A2 = λ class is. tt
post_follows setting K x known A3 = λ class is. tt
post_follows setting K x known A4 = λ class is. tt
post_follows setting K x known A5 = λ class is. tt
post_follows setting K x known A6 = λ class is. tt
post_follows setting K x known A7 = λ class is. tt
post_follows setting K x known A8 = λ class is. tt
post_follows setting K x known A9 = λ class is. tt
post_follows setting K x known A10 = λ class is. tt
post_follows setting K x known A11 = λ class is. tt
post_follows setting K x known A12 = λ class is. refl

-- so its post may come next where it waits
pub posts_next : {E : Type 0} (run : History) (waiting : Option Stimulus) (x : Stimulus) (r : Result (Option Entry) E) → IsStimulusOf run.setting x → waiting ≡ Some x
    → IfOk r (λ o. o ≡ Some (post_of x)) → IfOk r (λ o. IfSome o (IsNext run waiting))
posts_next run waiting x (Err fault) known is posted = tt
posts_next run waiting x (Ok o) known is posted =
    let next : IsNext run waiting (post_of x) = record { follows = post_follows run.setting run.journal x known; posts = inr (x, is, refl) } in
    subst (λ (o : Option Entry). IfSome o (IsNext run waiting)) (sym posted) next
