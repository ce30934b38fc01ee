-- What went through real files and standard output is what was noted.
use Rattle.std.proofs.Common.{◌≡◌, ℕ, List, [], ◌++◌, take, Some, Result, Ok, Err, IfOk, OnErr, refl, sym, ap, ◌∙◌}
use Rattle.std.proofs.lemmas.List.{append-nil}
use Rattle.std.specs.Io.KnownBytes.{WriteAppends}
use Rattle.pssm_base.specs.History.{Reading, Adds}
use Rattle.pssm_base.specs.Outside.{FilesRead, OutputWritten}

abbrev readings_of : FilesRead → List Reading
readings_of files = files.readings

abbrev taken_of : OutputWritten → List ℕ
taken_of output = output.taken

-- a call that was answered is noted
pub files_kept : {E : Type 0} (result : Result ℕ E) (old new : FilesRead) (calls : ℕ → List Reading) → IfOk result (λ n. new ≡ record old { readings = old.readings ++ calls n })
    → IfOk result (λ n. Adds (Some old.readings) (Some new.readings) (calls n))
files_kept (Ok n) old new calls noted = (calls n, ap readings_of noted, refl)
files_kept (Err e) old new calls noted = tt

-- one that failed is not
pub files_none_kept : {T E : Type 0} (result : Result T E) (old new : FilesRead) (k : ℕ) → OnErr result (new ≡ record old { faults = k })
    → OnErr result (Adds (Some old.readings) (Some new.readings) [])
files_none_kept (Ok n) old new k noted = tt
files_none_kept (Err e) old new k noted = ([], ap readings_of noted ∙ sym (append-nil old.readings), refl)

-- the bytes that were taken are noted, and where writing failed none are
pub output_taken : {E : Type 0} (result : Result ℕ E) (old new : OutputWritten) (bytes : List ℕ) (k : ℕ) → IfOk result (λ n. new ≡ record old { taken = old.taken ++ take n bytes })
    → OnErr result (new ≡ record old { faults = k }) → WriteAppends (Some old.taken) (Some new.taken) result bytes
output_taken (Ok n) old new bytes k ok err = ap taken_of ok
output_taken (Err e) old new bytes k ok err = ap taken_of err
