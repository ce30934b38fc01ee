-- What stays of what has been read: classes to their ends, the head behind the first block, and the variables of a block behind its first region.
use Rattle.std.proofs.Common.{◌≡◌, ◌⊎◌, inl, inr, ℕ, ◌<◌, List, [], ◌∷◌, ◌++◌, length, Option, Some, None, Ok, refl, sym, ap, subst, ◌∙◌, append_assoc}
use Rattle.std.proofs.lemmas.List.{append-nil}
use Rattle.pssm_semantics.specs.declared.setting.Class.{Class}
use Rattle.pssm_semantics.specs.declared.setting.Setting.{Setting}
use Rattle.pssm_flat.specs.declared.head.Head.{Head}
use Rattle.pssm_flat.specs.declared.block.Block.{Block}
use Rattle.pssm_flat.specs.declared.line.Line.{Line}
use Rattle.pssm_flat.specs.declared.outline.Outline.{Outline}
use Rattle.pssm_flat.specs.declared.outline.Outline.TheVariants as stages
use Rattle.pssm_flat.specs.inner.Lines.{line_taken}
use Rattle.pssm_flat.specs.inner.Outlines.{taken, setting_of, line_or_none, after_bytes, after_lines, done_of}
use Rattle.pssm_flat.proofs.Bind.{bind_then, some_is}
use Rattle.std.specs.Prelude.{map}
use Rattle.pssm_flat.proofs.Good.{class_name_of, IsGood}
use Rattle.pssm_flat.proofs.Reach.{bytes_reach, taken_is, read_inner}

-- nothing follows the end
pub after_end : (s : Setting) (l : List ℕ) (e : Outline) → after_bytes (stages.Ended s) l ≡ Ok (Some e) → ⊥
after_end s l e eq = by_line (line_taken l) (read_inner (stages.Ended s) l (Ok (Some e)) eq (λ none. absurd cc)).1 where
  by_line : (o : Option Line) → line_or_none (stages.Ended s) o ≡ Ok (Some e) → ⊥
  by_line None eq = absurd cc
  by_line (Some x) eq = absurd cc

pub ended_stays : (s : Setting) (ls : List (List ℕ)) (e : Outline) → after_lines (stages.Ended s) ls ≡ Some e → (ls ≡ []) × (stages.Ended s ≡ e)
ended_stays s [] e eq = (refl, some_is (stages.Ended s) e eq)
ended_stays s (l ∷ ls) e eq =
    bind_then (taken (after_bytes (stages.Ended s) l)) (λ x. after_lines x ls) e eq (λ (x : Outline) at_x eq. absurd (after_end s l x (taken_is (after_bytes (stages.Ended s) l) x at_x)))

-- the classes that had been read are the first of those that have been read
abbrev pub DoneStay : Outline → Outline → Type 0
DoneStay d e = (more : List Class) × (done_of e ≡ done_of d ++ more)

done_next : (d e : Outline) (l : List ℕ) → IsGood d → after_bytes d l ≡ Ok (Some e) → DoneStay d e
done_next stages.Start e l good eq = (done_of e, refl)
done_next (stages.Heading h) e l good eq = (done_of e, refl)
done_next (stages.Open h done b) e l good eq = (bytes_reach (stages.Open h done b) l e good eq).stays.done_stay
done_next (stages.Ended s) e l good eq = absurd (after_end s l e eq)

pub done_stay : (d e : Outline) (ls : List (List ℕ)) → IsGood d → after_lines d ls ≡ Some e → DoneStay d e
done_stay d e [] good eq = ([], ap done_of (sym (some_is d e eq)) ∙ sym (append-nil (done_of d)))
done_stay d e (l ∷ ls) good eq =
    bind_then (taken (after_bytes d l)) (λ x. after_lines x ls) e eq (λ (x : Outline) at_x eq.
    let read = taken_is (after_bytes d l) x at_x in
    let one = done_next d x l good read in
    let more = done_stay x e ls (bytes_reach d l x good read).good eq in
    (one.0 ++ more.0, more.1 ∙ ap (λ t. t ++ more.0) one.1 ∙ append_assoc (done_of d) one.0 more.0))

-- The head of an open block is that of the whole setting.
abbrev pub HasHead : Head → Setting → Type 0
HasHead h s = (s ≡ setting_of h s.classes) × (h.classes ≡ map class_name_of s.classes)

pub head_stays : (h : Head) (done : List Class) (b : Block) (s : Setting) (ls : List (List ℕ)) → IsGood (stages.Open h done b) → after_lines (stages.Open h done b) ls ≡ Some (stages.Ended s) → HasHead h s
head_stays h done b s [] good eq = absurd (let same : stages.Open h done b ≡ stages.Ended s = some_is (stages.Open h done b) (stages.Ended s) eq in cc)
head_stays h done b s (l ∷ ls) good eq =
    bind_then (taken (after_bytes (stages.Open h done b) l)) (λ x. after_lines x ls) (stages.Ended s) eq (λ (x : Outline) at_x eq.
    let r = bytes_reach (stages.Open h done b) l x good (taken_is (after_bytes (stages.Open h done b) l) x at_x) in
    by_stage x (λ d c good eq. head_stays h d c s ls good eq) r.good r.stays.head_stays eq) where
      by_stage : (x : Outline) → ((d : List Class) (c : Block) → IsGood (stages.Open h d c) → after_lines (stages.Open h d c) ls ≡ Some (stages.Ended s) → HasHead h s) → IsGood x
          → ((d : List Class) × (c : Block) × (x ≡ stages.Open h d c)) ⊎ ((d : List Class) × (x ≡ stages.Ended (setting_of h d)) × (h.classes ≡ map class_name_of d)) → after_lines x ls ≡ Some (stages.Ended s) → HasHead h s
      by_stage x more good (inl at) eq = more at.0 at.1 (subst IsGood at.2 good) (subst (λ y. after_lines y ls ≡ Some (stages.Ended s)) at.2 eq)
      by_stage x more good (inr at) eq =
          let stays = ended_stays (setting_of h at.0) ls (stages.Ended s) (subst (λ y. after_lines y ls ≡ Some (stages.Ended s)) at.1 eq) in
          let same : setting_of h at.0 ≡ s = (let e = stays.1 in cc) in
          (sym same ∙ ap (λ (t : Setting). setting_of h t.classes) same, at.2 ∙ ap (λ (t : Setting). map class_name_of t.classes) same)

-- The variables of an open block, behind its first region, are those of its class.
pub record ClassOf (s : Setting) (done : List Class) (b : Block) : Type 0 where
  pub class : Class
  pub later : List Class
  pub classes_are : s.classes ≡ done ++ class ∷ later
  pub vars_are : class.vars ≡ b.vars

pub vars_stay : (h : Head) (done : List Class) (b : Block) (s : Setting) (ls : List (List ℕ)) → IsGood (stages.Open h done b) → 0 < length b.regions → after_lines (stages.Open h done b) ls ≡ Some (stages.Ended s) → ClassOf s done b
vars_stay h done b s [] good some eq = absurd (let same : stages.Open h done b ≡ stages.Ended s = some_is (stages.Open h done b) (stages.Ended s) eq in cc)
vars_stay h done b s (l ∷ ls) good some eq =
    bind_then (taken (after_bytes (stages.Open h done b) l)) (λ x. after_lines x ls) (stages.Ended s) eq (λ (x : Outline) at_x eq.
    let r = bytes_reach (stages.Open h done b) l x good (taken_is (after_bytes (stages.Open h done b) l) x at_x) in
    by_stage x (λ c good some eq. vars_stay h done c s ls good some eq) r.good (r.stays.open_stays some) eq) where
      by_stage : (x : Outline) → ((c : Block) → IsGood (stages.Open h done c) → 0 < length c.regions → after_lines (stages.Open h done c) ls ≡ Some (stages.Ended s) → ClassOf s done c) → IsGood x
          → ((c : Block) × (x ≡ stages.Open h done c) × (0 < length c.regions) × (c.vars ≡ b.vars)) ⊎ ((y : Class) × (more : List Class) × (done_of x ≡ done ++ y ∷ more) × (y.vars ≡ b.vars))
          → after_lines x ls ≡ Some (stages.Ended s) → ClassOf s done b
      by_stage x stay good (inl at) eq =
          let more = stay at.0 (subst IsGood at.1 good) at.2 (subst (λ y. after_lines y ls ≡ Some (stages.Ended s)) at.1 eq) in
          record { class = more.class; later = more.later; classes_are = more.classes_are; vars_are = more.vars_are ∙ at.3 }
      by_stage x stay good (inr at) eq =
          let rest = done_stay x (stages.Ended s) ls good eq in
          record { class = at.0; later = at.1 ++ rest.0; classes_are = rest.1 ∙ ap (λ t. t ++ rest.0) at.2 ∙ append_assoc done (at.0 ∷ at.1) rest.0; vars_are = at.3 }
