-- What a reader of parts that nest holds of the tokens before: those of each part that is open, those of a chain that waits for its right side, and those of what has begun behind it.
use Rattle.std.proofs.Common.{◌≡◌, ◌+◌, ◌<◌, ℕ, suc, zero, List, [], ◌∷◌, ◌++◌, length, Option, Some, None, refl, sym, ap, ◌∙◌, subst, append_assoc, arith}
use Rattle.std.proofs.lemmas.List.{append-nil}
use Rattle.pssm_acts.specs.declared.token.Kind.{Kind}
use Rattle.pssm_acts.specs.Shapes.{Begins}
use Rattle.pssm_acts.specs.Tokens.{Token}

-- the tokens of a chain with its sign, at the end of which its right side is still to come
pub record Chain {A : Type 0} (Spells : List Token → A → Type 0) (sign : Kind) (us : List Token) (a : A) : Type 0 where
  pub tokens : List Token
  pub mark : Token
  pub spelled : Spells tokens a
  pub is : mark.kind ≡ sign
  pub whole : us ≡ tokens ++ mark ∷ []

-- no tokens, or those of a chain that waits
abbrev pub Waits : {A : Type 0} → (List Token → A → Type 0) → Kind → List Token → Option A → Type 0
Waits Spells sign us None = us ≡ []
Waits Spells sign us (Some a) = Chain Spells sign us a

-- A chain has its right side.
pub chain_with : {A : Type 0} {Spells : List Token → A → Type 0} {sign : Kind} {us : List Token} {a : A} (Whole : List Token → Type 0) (vs : List Token) → Chain Spells sign us a
    → ((ts : List Token) (t : Token) → Spells ts a → t.kind ≡ sign → Whole (ts ++ t ∷ vs)) → Whole (us ++ vs)
chain_with Whole vs h make = subst Whole (sym (ap (λ x. x ++ vs) h.whole ∙ append_assoc h.tokens (h.mark ∷ []) vs)) (make h.tokens h.mark h.spelled h.is)

pub chain_of : {A : Type 0} {Spells : List Token → A → Type 0} {sign : Kind} {a : A} (ts : List Token) (t : Token) → Spells ts a → t.kind ≡ sign → Chain Spells sign (ts ++ t ∷ []) a
chain_of ts t spelled is = record { tokens = ts; mark = t; spelled = spelled; is = is; whole = refl }

-- Something behind nothing.
pub nothing_before : (Whole : List Token → Type 0) (us vs : List Token) → us ≡ [] → Whole vs → Whole (us ++ vs)
nothing_before Whole us vs none all = subst (λ x. Whole (x ++ vs)) (sym none) all

-- How parts nest: which tokens may stand ahead of a chain's right side in a part that is open, and which behind those before what opens, and what opens.
pub record Nests (L : Type 0) : Type 1 where
  pub Ahead : ℕ → List Token → L → Type 0
  pub Begun : ℕ → List Token → L → Type 0
  pub sign : Kind

-- the tokens before and with what opens the innermost part; each one that is open takes a level
abbrev pub Outside : {L : Type 0} → Nests L → ℕ → List L → ℕ → List Token → Type 0
Outside nests room [] l ts = (l ≡ room) × (ts ≡ [])
Outside nests room (level ∷ outer) l ts =
    (front : List Token) × (us : List Token) × (vs : List Token) × (opening : Token)
    × Outside nests room outer (suc l) front × nests.Ahead (suc l) us level × nests.Begun (suc l) vs level
    × (opening.kind ≡ nests.sign) × (ts ≡ front ++ (us ++ (vs ++ opening ∷ [])))

pub depth : {L : Type 0} (nests : Nests L) (room : ℕ) (outer : List L) (l : ℕ) (ts : List Token) → Outside nests room outer l ts → length outer + l ≡ room
depth nests room [] l ts h = let e = h.0 in omega arith
depth nests room (level ∷ outer) l ts h = let e = depth nests room outer (suc l) h.0 h.4 in omega arith

-- what is held: the parts that are open, a chain that waits, and what has begun
pub record Holds {L : Type 0} (nests : Nests L) (room : ℕ) (outer : List L) (Before Here : ℕ → List Token → Type 0) (ts : List Token) : Type 0 where
  pub l : ℕ
  pub front : List Token
  pub us : List Token
  pub vs : List Token
  pub outside : Outside nests room outer l front
  pub before : Before l us
  pub here : Here l vs
  pub whole : ts ≡ front ++ (us ++ vs)

module _ {L : Type 0} (nests : Nests L) (room : ℕ) where
  pub starts : {Before Here : ℕ → List Token → Type 0} → Before room [] → Here room [] → Holds nests room [] Before Here []
  starts before here = record { l = room; front = []; us = []; vs = []; outside = (refl, refl); before = before; here = here; whole = refl }

  -- Each open part takes a level.
  pub level_left : (outer : List L) {Before Here : ℕ → List Token → Type 0} {ts : List Token} (h : Holds nests room outer Before Here ts) → length outer + h.l ≡ room
  level_left outer h = depth nests room outer h.l h.front h.outside

  module _ (outer : List L) {Before Here Next : ℕ → List Token → Type 0} {ts : List Token} (h : Holds nests room outer Before Here ts) where
    -- The same tokens are something else.
    pub same : Next h.l h.vs → Holds nests room outer Before Next ts
    same next = record { l = h.l; front = h.front; us = h.us; vs = h.vs; outside = h.outside; before = h.before; here = next; whole = h.whole }

    -- More tokens belong to what has begun.
    pub goes_on : (more : List Token) → Next h.l (h.vs ++ more) → Holds nests room outer Before Next (ts ++ more)
    goes_on more next = record {
      l = h.l;
      front = h.front;
      us = h.us;
      vs = h.vs ++ more;
      outside = h.outside;
      before = h.before;
      here = next;
      whole = ap (λ x. x ++ more) h.whole ∙ append_assoc h.front (h.us ++ h.vs) more ∙ ap (λ x. h.front ++ x) (append_assoc h.us h.vs more);
    }

    -- A sign makes a chain of what has been read, and its right side is still to come.
    pub chains : {Waiting : ℕ → List Token → Type 0} (t : Token) → Waiting h.l ((h.us ++ h.vs) ++ t ∷ []) → Next h.l [] → Holds nests room outer Waiting Next (ts ++ t ∷ [])
    chains t waiting next = record {
      l = h.l;
      front = h.front;
      us = (h.us ++ h.vs) ++ t ∷ [];
      vs = [];
      outside = h.outside;
      before = waiting;
      here = next;
      whole = ap (λ x. x ++ t ∷ []) h.whole ∙ append_assoc h.front (h.us ++ h.vs) (t ∷ []) ∙ ap (λ x. h.front ++ x) (sym (append-nil ((h.us ++ h.vs) ++ t ∷ [])));
    }

  -- A part opens.
  pub opens : (outer : List L) (level : L) {Before Here : ℕ → List Token → Type 0} {ts : List Token} (t : Token) → Holds nests room outer (λ l us. nests.Ahead l us level) (λ l vs. nests.Begun l vs level) ts → t.kind ≡ nests.sign → length outer < room
      → ((l : ℕ) → Before l []) → ((l : ℕ) → Here l []) → Holds nests room (level ∷ outer) Before Here (ts ++ t ∷ [])
  opens outer level {Before} {Here} {ts} t h is within before here = go h.l h.outside h.before h.here where
    go : (l : ℕ) → Outside nests room outer l h.front → nests.Ahead l h.us level → nests.Begun l h.vs level → Holds nests room (level ∷ outer) Before Here (ts ++ t ∷ [])
    go zero outside ahead begun = absurd (omega (arith, depth nests room outer zero h.front outside, within))
    go (suc l) outside ahead begun = record {
      l = l;
      front = h.front ++ (h.us ++ (h.vs ++ t ∷ []));
      us = [];
      vs = [];
      outside = (h.front, h.us, h.vs, t, outside, ahead, begun, is, refl);
      before = before l;
      here = here l;
      whole =
          ap (λ x. x ++ t ∷ []) h.whole ∙ append_assoc h.front (h.us ++ h.vs) (t ∷ []) ∙ ap (λ x. h.front ++ x) (append_assoc h.us h.vs (t ∷ []))
          ∙ sym (append-nil (h.front ++ (h.us ++ (h.vs ++ t ∷ []))));
    }

  -- The innermost part closes: with its tokens and what opened it, it belongs to what had begun before.
  pub closes : (outer : List L) (level : L) {Before Here Next : ℕ → List Token → Type 0} {ts : List Token} (t : Token) (h : Holds nests room (level ∷ outer) Before Here ts)
      → ((opening : Token) (vs : List Token) → opening.kind ≡ nests.sign → nests.Begun (suc h.l) vs level → Next (suc h.l) (vs ++ opening ∷ ((h.us ++ h.vs) ++ t ∷ [])))
      → Holds nests room outer (λ l us. nests.Ahead l us level) Next (ts ++ t ∷ [])
  closes outer level t h make =
      let o = h.outside in
      record {
        l = suc h.l;
        front = o.0;
        us = o.1;
        vs = o.2 ++ o.3 ∷ ((h.us ++ h.vs) ++ t ∷ []);
        outside = o.4;
        before = o.5;
        here = make o.3 o.2 o.7 o.6;
        whole = ap (λ x. x ++ t ∷ []) h.whole ∙ ap (λ x. (x ++ (h.us ++ h.vs)) ++ t ∷ []) o.8 ∙ simp append_assoc;
      }

  -- Where no part is open, the tokens are those of the chain and of what has begun.
  pub all_read : (Whole : ℕ → List Token → Type 0) {Before Here : ℕ → List Token → Type 0} {ts : List Token} (h : Holds nests room [] Before Here ts) → Whole h.l (h.us ++ h.vs) → Whole room ts
  all_read Whole {ts = ts} h spelled =
      let all : ts ≡ h.us ++ h.vs = h.whole ∙ ap (λ x. x ++ (h.us ++ h.vs)) h.outside.1 in
      subst (Whole room) (sym all) (subst (λ l. Whole l (h.us ++ h.vs)) h.outside.0 spelled)

-- What is open can be closed: where each part that closes behind tokens of a shape makes the whole have it too.
pub closed_up : {L : Type 0} (nests : Nests L) (Shape : List Token → Type 0) (closing : Token)
    → ((level : L) (l : ℕ) (us vs ts : List Token) (opening : Token) → nests.Ahead l us level → nests.Begun l vs level → opening.kind ≡ nests.sign → Shape ts → Shape (us ++ (vs ++ opening ∷ (ts ++ closing ∷ []))))
    → (room : ℕ) (outer : List L) (l : ℕ) (front ts : List Token) → Outside nests room outer l front → Shape ts → Begins Shape (front ++ ts)
closed_up nests Shape closing closes room [] l front ts h shape = record { more = []; shape = subst Shape (sym (append-nil (front ++ ts) ∙ ap (λ x. x ++ ts) h.1)) shape }
closed_up nests Shape closing closes room (level ∷ outer) l front ts h shape =
    let all = h.1 ++ (h.2 ++ h.3 ∷ (ts ++ closing ∷ [])) in
    let rest : Begins Shape (h.0 ++ all) = closed_up nests Shape closing closes room outer (suc l) h.0 all h.4 (closes level (suc l) h.1 h.2 ts h.3 h.5 h.6 h.7 shape) in
    record { more = closing ∷ rest.more; shape = subst Shape (sym (ap (λ x. (x ++ ts) ++ (closing ∷ rest.more)) h.8 ∙ simp append_assoc)) rest.shape }
