-- What is told of a block that grows by a line.
use Rattle.std.proofs.Common.{◌≡◌, ℕ, List, [], Option, Some, None, Result, Ok, Err, IfOk, IfErr, refl, ap, subst}
use Rattle.pssm_semantics.specs.declared.setting.Class.{Class}
use Rattle.pssm_acts.specs.declared.act_fault.ActFault.{ActFault}
use Rattle.pssm_acts.specs.declared.act_fault.ActFault.TheVariants as acts
use Rattle.pssm_acts.specs.Answers.{Answers}
use Rattle.pssm_flat.specs.declared.line.Line.{Line}
use Rattle.pssm_flat.specs.declared.line.Line.TheVariants as lines
use Rattle.pssm_flat.specs.declared.head.Head.{Head}
use Rattle.pssm_flat.specs.declared.block.Block.{Block}
use Rattle.pssm_flat.specs.declared.outline.Outline.{Outline}
use Rattle.pssm_flat.specs.declared.outline.Outline.TheVariants as stages
use Rattle.pssm_flat.specs.inner.Outlines.{lifted, with_line, after_block, done_of, told_of, AreShaped, IsShaped, IsNoNext}

-- Every line but those that end a block is read into it.
pub grows_by : (h : Head) (done : List Class) (b : Block) (l : Line) → ((name : List ℕ) → l ≡ lines.Machine name → ⊥) → (l ≡ lines.End → ⊥)
    → after_block h done b l ≡ lifted (stages.Open h done) (with_line b l)
grows_by h done b (lines.Machine name) no_machine no_end = absurd (no_machine name refl)
grows_by h done b lines.End no_machine no_end = absurd (no_end refl)
grows_by h done b lines.Header no_machine no_end = refl
grows_by h done b (lines.Signal name count) no_machine no_end = refl
grows_by h done b (lines.Class name) no_machine no_end = refl
grows_by h done b (lines.Object name class) no_machine no_end = refl
grows_by h done b (lines.Var name first) no_machine no_end = refl
grows_by h done b (lines.Region number owner) no_machine no_end = refl
grows_by h done b (lines.Vertex number owner kind label) no_machine no_end = refl
grows_by h done b (lines.Defer signal) no_machine no_end = refl
grows_by h done b (lines.Transition number source target kind) no_machine no_end = refl
grows_by h done b (lines.On signal) no_machine no_end = refl
grows_by h done b (lines.Action word text) no_machine no_end = refl
grows_by h done b lines.EmptyStep no_machine no_end = refl
grows_by h done b lines.Otherwise no_machine no_end = refl

-- What is told as the next outline is due.
pub told_next : (due read : Result (Option Outline) ActFault) (number : ℕ) → Answers due read → IfOk (told_of number read) (λ next. due ≡ Ok (Some next))
told_next due (Ok (Some next)) number e = e
told_next due (Ok None) number e = tt
told_next due (Err (acts.Syntax at)) number e = tt
told_next due (Err (acts.UnknownName at)) number e = tt
told_next due (Err (acts.WideNumber at)) number e = tt
told_next due (Err (acts.Arity at)) number e = tt
told_next due (Err (acts.TooLong at)) number e = tt
told_next due (Err acts.NoMemory) number e = tt

-- What is told as a fault is why there is no next outline.
pub told_stuck : (d : Outline) (due read : Result (Option Outline) ActFault) (number : ℕ) → Answers due read
    → IfErr (told_of number read) (IsNoNext d due number)
told_stuck d due (Ok (Some next)) number e = tt
told_stuck d due (Ok None) number e = (refl, e)
told_stuck d due (Err (acts.Syntax at)) number e = (refl, e)
told_stuck d due (Err (acts.UnknownName at)) number e = (refl, e)
told_stuck d due (Err (acts.WideNumber at)) number e = (refl, e)
told_stuck d due (Err (acts.Arity at)) number e = (refl, e)
told_stuck d due (Err (acts.TooLong at)) number e = (refl, e)
told_stuck d due (Err acts.NoMemory) number e = tt

-- the classes that are done by what was read, or else these
abbrev done_by : List Class → Result (Option Outline) ActFault → List Class
done_by done (Ok (Some next)) = done_of next
done_by done (Ok None) = done
done_by done (Err fault) = done

-- A block that grows leaves the classes before it as they were.
leaves_done : (h : Head) (done : List Class) (grown : Result (Option Block) ActFault) → done ≡ done_by done (lifted (stages.Open h done) grown)
leaves_done h done (Ok (Some b)) = refl
leaves_done h done (Ok None) = refl
leaves_done h done (Err fault) = refl

-- So what is told as the next outline has machines with shape where those before it have.
pub told_shaped : (h : Head) (done : List Class) (grown : Result (Option Block) ActFault) (read : Result (Option Outline) ActFault) (number : ℕ)
    → Answers (lifted (stages.Open h done) grown) read → IfOk (told_of number read) (λ next. AreShaped done → IsShaped next)
told_shaped h done grown (Ok (Some next)) number e = λ shaped.
    subst AreShaped (subst (λ (r : Result (Option Outline) ActFault). done ≡ done_by done r) e (leaves_done h done grown)) shaped
told_shaped h done grown (Ok None) number e = tt
told_shaped h done grown (Err (acts.Syntax at)) number e = tt
told_shaped h done grown (Err (acts.UnknownName at)) number e = tt
told_shaped h done grown (Err (acts.WideNumber at)) number e = tt
told_shaped h done grown (Err (acts.Arity at)) number e = tt
told_shaped h done grown (Err (acts.TooLong at)) number e = tt
told_shaped h done grown (Err acts.NoMemory) number e = tt
