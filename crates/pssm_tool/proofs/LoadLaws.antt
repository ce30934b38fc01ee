-- How a model that is not there is told.
use Rattle.std.proofs.Common.{◌≡◌, ◌≢◌, ◌⊎◌, ℕ, List, [], Result, Ok, Err, IfOk, IfErr, refl, sym, subst, inl, inr}
use Rattle.pssm_base.specs.Reading.{Given, ReadsWhole}
use Rattle.pssm_semantics.specs.declared.setting.Setting.{Setting}
use Rattle.pssm_load.specs.declared.fault.LoadFault.{LoadFault}
use Rattle.pssm_load.specs.declared.fault.LoadFault.TheVariants.{NoMemory}
use Rattle.pssm_load.specs.Loads.{ReadsSetting, IsLoadFault}
use Rattle.pssm_tool.specs.declared.answer.Answer.{Answer}
use Rattle.pssm_tool.specs.declared.answer.Answer.TheVariants.{BadModel}
use Rattle.pssm_tool.specs.declared.failure.Failure.{Failure}
use Rattle.pssm_tool.specs.declared.failure.Failure.TheVariants as failures
use Rattle.pssm_tool.specs.Due.{File, HasModel}
use Rattle.pssm_tool.specs.inner.Failures.{LacksModel, has_fault, FailedAt, IsFound, IsRefusedFor}

-- What is wrong with bytes.
abbrev pub IsWrong : List ℕ → LoadFault → Type 0
IsWrong bytes fault = (fault ≡ NoMemory) ⊎ IsLoadFault bytes fault

-- ---- what comes of what was loaded

-- what comes of a setting that was loaded, of want of memory, and of any other fault
by_found : (P : Result (Result Setting Answer) Failure → Type 0) (loaded : Result Setting LoadFault) (told : Result (Result Setting Answer) Failure) → IfOk loaded (λ s. P (Ok (Ok s)))
    → IfErr loaded (λ fault. fault ≢ NoMemory → P (Ok (Err (BadModel fault)))) → P (Err failures.NoMemory) → IsFound loaded told → P told
by_found P (Ok s) told of_setting of_fault of_want is = subst P (sym is) of_setting
by_found P (Err fault) told of_setting of_fault of_want (inl both) = subst P (sym both.1) of_want
by_found P (Err fault) told of_setting of_fault of_want (inr both) = subst P (sym both.1) (of_fault both.0)

if_ok : {X E : Type 0} {P Q : X → Type 0} (r : Result X E) → ((x : X) → P x → Q x) → IfOk r P → IfOk r Q
if_ok (Ok x) f p = f x p
if_ok (Err e) f p = tt

if_err : {X E : Type 0} {P Q : E → Type 0} (r : Result X E) → ((e : E) → P e → Q e) → IfErr r P → IfErr r Q
if_err (Ok x) f p = tt
if_err (Err e) f p = f e p

no_fault : {X E : Type 0} (r : Result X E) → IfErr r (λ e. Unit {0})
no_fault (Ok x) = tt
no_fault (Err e) = tt

no_setting : {X E : Type 0} (r : Result X E) → IfOk r (λ x. Unit {0})
no_setting (Ok x) = tt
no_setting (Err e) = tt

-- where the setting is found it is one with this, and nothing is said of another end
pub found_with : (P : Setting → Type 0) (loaded : Result Setting LoadFault) (told : Result (Result Setting Answer) Failure) → IfOk loaded P → IsFound loaded told → IfOk told (λ found. IfOk found P)
found_with P loaded told holds is =
    by_found (λ r. IfOk r (λ found. IfOk found P)) loaded told (if_ok loaded (λ s p. p) holds) (if_err loaded (λ e u. λ other. tt) (no_fault loaded)) tt is

pub found_lacks : (P : Answer → Type 0) (loaded : Result Setting LoadFault) (told : Result (Result Setting Answer) Failure) → IfErr loaded (λ fault. fault ≢ NoMemory → P (BadModel fault)) → IsFound loaded told
    → IfOk told (λ found. IfErr found P)
found_lacks P loaded told lacks is =
    by_found (λ r. IfOk r (λ found. IfErr found P)) loaded told (if_ok loaded (λ s u. tt) (no_setting loaded)) lacks tt is

pub found_no_memory : (loaded : Result Setting LoadFault) (told : Result (Result Setting Answer) Failure) → IsFound loaded told → IfErr told (λ failure. failure ≡ failures.NoMemory)
found_no_memory loaded told is =
    by_found (λ r. IfErr r (λ failure. failure ≡ failures.NoMemory)) loaded told (if_ok loaded (λ s u. tt) (no_setting loaded)) (if_err loaded (λ e u. λ other. tt) (no_fault loaded)) refl is

-- What is wrong with bytes, where it is not want of memory.
pub bytes_lack : (bytes : List ℕ) (loaded : Result Setting LoadFault) → IfErr loaded (IsWrong bytes) → IfErr loaded (λ fault. fault ≢ NoMemory → IsRefusedFor bytes (BadModel fault))
bytes_lack bytes loaded wrong = if_err loaded (λ fault w other. lacks fault w other) wrong where
  lacks : (fault : LoadFault) → IsWrong bytes fault → fault ≢ NoMemory → IsRefusedFor bytes (BadModel fault)
  lacks fault (inl none) other = absurd (other none)
  lacks fault (inr is) other = (fault, is, refl)

-- ---- a file that was read

module _ (given : Given) (path bytes : List ℕ) (reads : ReadsWhole given path 16777216 bytes) where
  pub model_loads : (found : Result (Result Setting Answer) Failure) → IfOk found (λ r. IfOk r (λ s. ReadsSetting bytes s [])) → IfOk found (λ r. IfOk r (HasModel given (File path)))
  model_loads (Ok (Ok s)) loads = record { bytes = bytes; reads = reads; loads = loads }
  model_loads (Ok (Err a)) loads = tt
  model_loads (Err f) loads = tt

  pub model_lacks : (found : Result (Result Setting Answer) Failure) → IfOk found (λ r. IfErr r (IsRefusedFor bytes)) → IfOk found (λ r. IfErr r (LacksModel given path))
  model_lacks (Ok (Ok s)) lacks = tt
  model_lacks (Ok (Err a)) (fault, wrong, is) = has_fault bytes fault reads wrong is
  model_lacks (Err f) lacks = tt

-- Want of memory is no fault of reading.
pub memory_failed : (before after : ℕ) (found : Result (Result Setting Answer) Failure) → IfErr found (λ failure. failure ≡ failures.NoMemory) → IfErr found (FailedAt before after)
memory_failed before after (Ok r) is = tt
memory_failed before after (Err f) is = subst (λ (e : Failure). FailedAt before after e) (sym is) tt
