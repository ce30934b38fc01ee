-- What one more entry at the end of a journal changes: what is active, the last step, and what is admissible.
use Rattle.std.proofs.Common.{◌≡◌, ◌⊎◌, ◌++◌, List, [], ◌∷◌, refl, sym, ap, subst, ◌∙◌, inl, inr, ⊎_elim, append_assoc}
use Rattle.std.specs.List.{AllByRecursion}
use Rattle.pssm_model.specs.declared.ids.VertexId.{VertexId}
use Rattle.pssm_semantics.specs.declared.entry.ObjectId.{ObjectId}
use Rattle.pssm_semantics.specs.declared.entry.Entry.{Entry}
use Rattle.pssm_semantics.specs.declared.setting.Setting.{Setting}
use Rattle.pssm_semantics.specs.Journal.{Splits, IsActive, Heads, EntersAt, ExitsAt}
use Rattle.pssm_semantics.specs.Steps.{StepAt, IsLastStep}
use Rattle.pssm_semantics.specs.Admissible.{MayFollow, IsAdmissibleIn}

-- facts about each element, with one more
pub every_push : {X : Type 0} (P : X → Type 0) (xs : List X) (x : X) → AllByRecursion P xs → P x → AllByRecursion P (xs ++ x ∷ [])
every_push P [] x h p = (p, tt)
every_push P (y ∷ ys) x h p = (h.0, every_push P ys x h.1 p)

pub every_init : {X : Type 0} (P : X → Type 0) (xs : List X) (x : X) → AllByRecursion P (xs ++ x ∷ []) → AllByRecursion P xs × P x
every_init P [] x h = (tt, h.0)
every_init P (y ∷ ys) x h = let rest = every_init P ys x h.1 in ((h.0, rest.0), rest.1)

-- a split of a longer journal is at its new end or before it
pub record EndsAt (J before after : List Entry) (e f : Entry) : Type 0 where
  pub before_is : before ≡ J
  pub entry_is : f ≡ e
  pub after_is : after ≡ []

pub record IsWithin (J before after : List Entry) (e f : Entry) : Type 0 where
  pub rest : List Entry
  pub after_is : after ≡ rest ++ e ∷ []
  pub splits : Splits J before f rest

pub split_push : (J before after : List Entry) (e f : Entry) → Splits (J ++ e ∷ []) before f after
    → EndsAt J before after e f ⊎ IsWithin J before after e f
split_push [] [] after e f h = inl (record { before_is = refl; entry_is = cc; after_is = cc })
split_push [] (b ∷ []) after e f h = absurd (cc)
split_push [] (b ∷ c ∷ rest) after e f h = absurd (cc)
split_push (j ∷ J) [] after e f h = inr (record { rest = J; after_is = cc; splits = cc })
split_push (j ∷ J) (b ∷ before) after e f h =
    let head : j ≡ b = cc in
    let tail : J ++ e ∷ [] ≡ before ++ f ∷ after = cc in
    ⊎_elim
    (λ (w : EndsAt J before after e f). inl (record { before_is = let same = w.before_is in cc; entry_is = w.entry_is; after_is = w.after_is }))
    (λ (w : IsWithin J before after e f). inr (record { rest = w.rest; after_is = w.after_is; splits = let same = w.splits in cc }))
    (split_push J before after e f tail)

-- a split of a journal is one of a longer journal
pub splits_more : (J before after : List Entry) (e f : Entry) → Splits J before f after → Splits (J ++ e ∷ []) before f (after ++ e ∷ [])
splits_more J before after e f h = ap (λ js. js ++ e ∷ []) h ∙ append_assoc before (f ∷ after) (e ∷ [])

-- an object has one last step
pub record SameParts (b b' a a' : List Entry) (h h' : Entry) : Type 0 where
  pub before : b ≡ b'
  pub head : h ≡ h'
  pub after : a ≡ a'

no_head_within : (o : ObjectId) (a b' a' : List Entry) (h' : Entry) → AllByRecursion (λ e. Heads e o → ⊥) a → a ≡ b' ++ h' ∷ a' → Heads h' o → ⊥
no_head_within o [] [] a' h' none e heads = cc
no_head_within o [] (x ∷ b') a' h' none e heads = cc
no_head_within o (y ∷ a) [] a' h' none e heads = let same : h' ≡ y = cc in none.0 (subst (λ f. Heads f o) same heads)
no_head_within o (y ∷ a) (x ∷ b') a' h' none e heads = let tail : a ≡ b' ++ h' ∷ a' = cc in no_head_within o a b' a' h' none.1 tail heads

pub one_last_split : (o : ObjectId) (b b' a a' : List Entry) (h h' : Entry) → b ++ h ∷ a ≡ b' ++ h' ∷ a' → Heads h o → Heads h' o
    → AllByRecursion (λ e. Heads e o → ⊥) a → AllByRecursion (λ e. Heads e o → ⊥) a' → SameParts b b' a a' h h'
one_last_split o [] [] a a' h h' e heads heads' none none' = record { before = refl; head = cc; after = cc }
one_last_split o [] (x ∷ b') a a' h h' e heads heads' none none' =
    let tail : a ≡ b' ++ h' ∷ a' = cc in absurd (no_head_within o a b' a' h' none tail heads')
one_last_split o (x ∷ b) [] a a' h h' e heads heads' none none' =
    let tail : a' ≡ b ++ h ∷ a = cc in absurd (no_head_within o a' b a h none' tail heads)
one_last_split o (x ∷ b) (y ∷ b') a a' h h' e heads heads' none none' =
    let head : x ≡ y = cc in
    let tail : b ++ h ∷ a ≡ b' ++ h' ∷ a' = cc in
    let rest = one_last_split o b b' a a' h h' tail heads heads' none none' in
    record { before = let same = rest.before in cc; head = rest.head; after = rest.after }

pub same_step : (s t : StepAt) → s.before ≡ t.before → s.head ≡ t.head → s.after ≡ t.after → s ≡ t
same_step s t b h a =
    ap (λ (x : List Entry). let r : StepAt = record { before = x; head = s.head; after = s.after } in r) b
    ∙ ap (λ (y : Entry). let r : StepAt = record { before = t.before; head = y; after = s.after } in r) h
    ∙ ap (λ (z : List Entry). let r : StepAt = record { before = t.before; head = t.head; after = z } in r) a

pub one_last_step : (J : List Entry) (o : ObjectId) (s t : StepAt) → IsLastStep J o s → IsLastStep J o t → s ≡ t
one_last_step J o s t p q =
    let parts = one_last_split o s.before t.before s.after t.after s.head t.head (sym p.splits ∙ q.splits) p.heads q.heads p.last q.last in
    same_step s t parts.before parts.head parts.after

-- the step with one more entry
abbrev pub more : StepAt → Entry → StepAt
more step e = record { before = step.before; head = step.head; after = step.after ++ e ∷ [] }

-- an entry that is no head goes on with the last step, and a head begins one
pub goes_on : (J : List Entry) (o : ObjectId) (step : StepAt) (e : Entry) → (Heads e o → ⊥) → IsLastStep J o step → IsLastStep (J ++ e ∷ []) o (more step e)
goes_on J o step e other h = record {
  splits = splits_more J step.before step.after e step.head h.splits;
  heads = h.heads;
  last = every_push (λ f. Heads f o → ⊥) step.after e h.last other;
}

pub begins : (J : List Entry) (o : ObjectId) (e : Entry) → Heads e o → IsLastStep (J ++ e ∷ []) o (record { before = J; head = e; after = [] })
begins J o e h = record { splits = refl; heads = h; last = tt }

-- what is active after one more entry
pub active_push : (J : List Entry) (o : ObjectId) (s : VertexId) (e : Entry) → IsActive (J ++ e ∷ []) o s
    → EntersAt e o s ⊎ (IsActive J o s × (ExitsAt e o s → ⊥))
active_push J o s e (before, after, f, splits, enters, none) =
    ⊎_elim
    (λ (w : EndsAt J before after e f). inl (subst (λ g. EntersAt g o s) w.entry_is enters))
    (λ (w : IsWithin J before after e f).
    let parts = every_init (λ g. ExitsAt g o s → ⊥) w.rest e (subst (AllByRecursion (λ g. ExitsAt g o s → ⊥)) w.after_is none) in
    inr ((before, w.rest, f, w.splits, enters, parts.0), parts.1))
    (split_push J before after e f splits)

pub active_entered : (J : List Entry) (o : ObjectId) (s : VertexId) (e : Entry) → EntersAt e o s → IsActive (J ++ e ∷ []) o s
active_entered J o s e h = (J, [], e, refl, h, tt)

pub active_kept : (J : List Entry) (o : ObjectId) (s : VertexId) (e : Entry) → IsActive J o s → (ExitsAt e o s → ⊥) → IsActive (J ++ e ∷ []) o s
active_kept J o s e (before, after, f, splits, enters, none) other =
    (before, after ++ e ∷ [], f, splits_more J before after e f splits, enters, every_push (λ g. ExitsAt g o s → ⊥) after e none other)

pub none_active : (o : ObjectId) (s : VertexId) → IsActive [] o s → ⊥
none_active o s ([], after, f, splits, enters, none) = cc
none_active o s (b ∷ before, after, f, splits, enters, none) = cc

-- an admissible journal with an entry that may follow
pub admissible_push : (setting : Setting) (J : List Entry) (e : Entry) → IsAdmissibleIn setting J → MayFollow setting J e → IsAdmissibleIn setting (J ++ e ∷ [])
admissible_push setting J e so_far may before after f splits rule =
    ⊎_elim
    (λ (w : EndsAt J before after e f). rw (w.before_is, w.entry_is) (may rule))
    (λ (w : IsWithin J before after e f). so_far before w.rest f w.splits rule)
    (split_push J before after e f splits)

pub admissible_none : (setting : Setting) → IsAdmissibleIn setting []
admissible_none setting [] after f splits rule = absurd (cc)
admissible_none setting (b ∷ before) after f splits rule = absurd (cc)
