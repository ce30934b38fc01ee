-- What the readers' steps are worth, by what a token is.
use Rattle.std.proofs.Common.{◌≡◌, ℕ, Err, Option, None, refl, position, bytes_eq}
use Rattle.pssm_model.specs.declared.ids.SignalId.{SignalId}
use Rattle.pssm_acts.specs.declared.act_fault.ActFault.TheVariants.{UnknownName}
use Rattle.pssm_semantics.specs.declared.entry.ObjectId.{ObjectId}
use Rattle.pssm_semantics.specs.declared.setting.Names.{Names}
use Rattle.pssm_acts.specs.declared.token.Kind.TheVariants as kinds
use Rattle.pssm_acts.specs.Tokens.{Token}
use Rattle.pssm_acts.specs.inner.ExprReading.{atom_of}
use Rattle.pssm_acts.specs.inner.PhraseReading.{phrase_begun, receiver_read, signal_found, signal_named, signal_read}

pub atom_unknown : (names : Names) (t : Token) → t.kind ≡ kinds.Name → position (λ n. bytes_eq n t.word) names.vars ≡ None → Err (UnknownName t.at) ≡ atom_of names t
unfolding atom_of
atom_unknown names t is none = rw (is, none) refl

pub phrase_unknown : (names : Names) (t : Token) → t.kind ≡ kinds.Name → position (λ n. bytes_eq n t.word) names.vars ≡ None → Err (UnknownName t.at) ≡ phrase_begun names t
unfolding phrase_begun
phrase_unknown names t is none = rw (is, none) refl

pub receiver_unknown : (names : Names) (t : Token) → t.kind ≡ kinds.Name → position (λ n. bytes_eq n t.word) names.objects ≡ None → Err (UnknownName t.at) ≡ receiver_read names t
unfolding receiver_read
receiver_unknown names t is none = rw (is, none) refl

pub signal_step : (names : Names) (to : Option ObjectId) (t : Token) (found : Option (SignalId × ℕ)) → t.kind ≡ kinds.Name → signal_found names.signals (position (λ d. bytes_eq d.name t.word) names.signals) ≡ found
    → signal_named t.at to found ≡ signal_read names to t
unfolding signal_read
signal_step names to t found is same = rw (is, same) refl
