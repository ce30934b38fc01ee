-- Objects whose numbers compare as equal are one.
use Rattle.std.proofs.Common.{◌≡◌, ◌==◌, true, sym, ap, ◌∙◌, ⊎_elim}
use Rattle.std.proofs.lemmas.Bool.{false≢true}
use Rattle.std.proofs.lemmas.Bool.Decides.{eqb_tells}
use Rattle.pssm_semantics.specs.declared.entry.ObjectId.{ObjectId}

pub same_object : (o q : ObjectId) → (o.0 == q.0) ≡ true → o ≡ q
same_object o q h =
    let same : o.0 ≡ q.0 = ⊎_elim (λ yes. yes.1) (λ no. absurd (false≢true (sym no.0 ∙ h))) (eqb_tells o.0 q.0) in
    ap (λ n. let x : ObjectId = record { 0 = n } in x) same
