-- What is read with names whose signals have at most eight parameters may be run.
use Rattle.std.proofs.Common.{◌≡◌, ◌≤◌, ℕ, List, Option, Some, None, All, slice_get, subst, sym, refl, arith}
use Rattle.std.specs.Option.{option_map_or}
use Rattle.std.proofs.lemmas.Option.{get_or_from_slice_get, slice_get_within}
use Rattle.std.proofs.lemmas.List.Elements.{All-get_or}
use Rattle.pssm_semantics.specs.declared.setting.SignalDecl.{SignalDecl}
use Rattle.pssm_semantics.specs.declared.setting.Names.{Names}
use Rattle.pssm_semantics.specs.declared.tree.Act.{Act}
use Rattle.pssm_semantics.specs.Arguments.{ActArgsFit}
use Rattle.pssm_semantics.specs.Fits.{ActFits}
use Rattle.pssm_acts.specs.inner.PhraseReading.{signal_count}
use Rattle.pssm_acts.specs.Vocabularies.{vocabulary}
use Rattle.pssm_semantics.proofs.ArgumentLaws.{ActFits-args}

few_at : (signals : List SignalDecl) (k : ℕ) → All (λ d. d.count ≤ 8) signals → signal_count signals k ≤ 8
few_at signals k few = go (slice_get signals k) refl where
  go : (o : Option SignalDecl) → slice_get signals k ≡ o → option_map_or (λ d. d.count) o 0 ≤ 8
  go None e = omega arith
  go (Some x) e = subst (λ d. d.count ≤ 8) (get_or_from_slice_get signals k x x e) (All-get_or (λ d. d.count ≤ 8) signals k x (slice_get_within signals k x e) few)

-- a behaviour that fits names of such signals has no more arguments anywhere than an output can hold
pub named_runs : (names : Names) (marks : List (List ℕ)) → All (λ d. d.count ≤ 8) names.signals → (act : Act) → ActFits (vocabulary names marks) act → ActArgsFit act
named_runs names marks few act fits = ActFits-args (vocabulary names marks) (λ to signal n sends. subst (λ m. m ≤ 8) (sym sends.2) (few_at names.signals signal.0 few)) act fits
