-- What the code answers for the fields of a payload and for the whole.
use Rattle.std.proofs.Common.{◌≡◌, ◌≢◌, ◌≤◌, ◌⊎◌, inl, inr, ℕ, List, Option, Result, Ok, Err, sym, ap, subst, ◌∙◌}
use Rattle.std.specs.Prelude.{IfOk, IsErr}
use Rattle.std.specs.declared.alloc.AllocError.{AllocError}
use Rattle.txn_lang.specs.declared.commit.Commit.{Commit}
use Rattle.journal_core.specs.declared.limits.TheConstants.{FIRST_UNTOLD_CLIENT}
use Rattle.commit_file.specs.declared.version.Version.TheVariants as version
use Rattle.record_code.specs.declared.field_error.FieldError.{FieldError}
use Rattle.record_code.specs.declared.field_error.FieldError.TheVariants as errors
use Rattle.record_code.specs.declared.decode_error.DecodeError.{DecodeError}
use Rattle.record_code.specs.declared.decode_error.DecodeError.TheVariants as decode_errors
use Rattle.record_code.specs.Room.{HasRoom}
use Rattle.record_code.specs.Payloads.{or_place, payload, decoded, IsKeepable}
use Rattle.record_code.specs.code.Reads.{Reads, Decodes, Placed}
use Rattle.record_code.proofs.KindsTold.{two_has_all_kinds}
use Rattle.record_code.proofs.Commits.{payloads_are_read, runs_are_recorded, untold_are_refused}

module _ {A B : Type 0} (seen : A → B) where
  -- a field that is read, with its place where it isn't
  pub placed_reads : (place : ℕ) (read : Result A FieldError) (answer : Result A DecodeError) (o : Option B)
      → Reads seen read o → Placed place read answer
      → Decodes seen answer (or_place place o)
  placed_reads place (Ok x) answer o reads placed =
      subst (λ (a : Result A DecodeError). Decodes seen a (or_place place o)) (sym placed) (ap (or_place place) reads)
  placed_reads place (Err errors.Malformed) answer o reads (inl e) =
      subst (λ (a : Result A DecodeError). Decodes seen a (or_place place o)) (sym e) (ap (or_place place) reads)
  placed_reads place (Err errors.Malformed) answer o reads (inr e) =
      subst (λ (a : Result A DecodeError). Decodes seen a (or_place place o)) (sym e) tt
  placed_reads place (Err errors.NoMemory) answer o reads placed =
      subst (λ (a : Result A DecodeError). Decodes seen a (or_place place o)) (sym placed) tt

-- what is so of what is read is so of what goes on
pub placed_keeps : {A : Type 0} (P : A → Type 0) (place : ℕ) (read : Result A FieldError) (answer : Result A DecodeError)
    → IfOk read P → Placed place read answer → IfOk answer P
placed_keeps {A} P place (Ok x) answer holds placed = subst (λ (a : Result A DecodeError). IfOk a P) (sym placed) holds
placed_keeps {A} P place (Err errors.Malformed) answer holds (inl e) = subst (λ (a : Result A DecodeError). IfOk a P) (sym e) tt
placed_keeps {A} P place (Err errors.Malformed) answer holds (inr e) = subst (λ (a : Result A DecodeError). IfOk a P) (sym e) tt
placed_keeps {A} P place (Err errors.NoMemory) answer holds placed = subst (λ (a : Result A DecodeError). IfOk a P) (sym placed) tt

by_left : {A B : Type 0} → (A → ⊥) → A ⊎ B → B
by_left never (inl x) = absurd (never x)
by_left never (inr y) = y

-- what never tells want of memory is placed unless four bytes don't tell its place
pub placed_fits : {A F : Type 0} (read : Result A FieldError) (answer : Result A DecodeError)
    → read ≢ Err errors.NoMemory
    → (answer ≡ Err decode_errors.NoMemory → (read ≡ Err errors.NoMemory) ⊎ F)
    → answer ≡ Err decode_errors.NoMemory → F
placed_fits read answer never fits is = by_left never (fits is)

module _ {A : Type 0} (seen : A → Commit) where
  -- what is decoded is what is read
  pub decoded_ok : (answer : Result A DecodeError) (read : Result Commit ℕ) → Decodes seen answer read
      → IfOk answer (λ x. read ≡ Ok (seen x))
  decoded_ok (Ok x) read e = e
  decoded_ok (Err error) read e = tt

  -- and the place that is named is the place
  pub decoded_err : (answer : Result A DecodeError) (read : Result Commit ℕ) → Decodes seen answer read
      → (place : ℕ)
      → answer ≡ Err (decode_errors.BadRecord place) → read ≡ Err place
  decoded_err (Ok x) read e place is = absurd cc
  decoded_err (Err (decode_errors.BadRecord other)) read e place is = (let same : other ≡ place = cc in
      e ∙ ap (λ (p : ℕ). Err p) same)
  decoded_err (Err decode_errors.NoMemory) read e place is = absurd cc

-- what may be kept is read from its payload
pub read_again : (commit : Commit) (answer : Result (List ℕ) AllocError) → IfOk answer (λ bytes. bytes ≡ payload commit)
    → IfOk answer (λ bytes. HasRoom commit) → IfOk answer (λ bytes. IsKeepable commit
    → decoded version.Two bytes ≡ Ok commit)
read_again commit (Ok bytes) is room =
    λ kept. ap (decoded version.Two) is ∙ payloads_are_read version.Two commit
    (runs_are_recorded version.Two commit kept room (two_has_all_kinds commit))
read_again commit (Err error) is room = tt

-- and what is of an untold client isn't read
pub not_read : (commit : Commit) (answer : Result (List ℕ) AllocError) → IfOk answer (λ bytes. bytes ≡ payload commit)
    → IfOk answer (λ bytes. HasRoom commit) → IfOk answer (λ bytes. FIRST_UNTOLD_CLIENT ≤ commit.client
    → IsErr (decoded version.Two bytes))
not_read commit (Ok bytes) is room =
    λ untold. subst (λ (read : List ℕ). IsErr (decoded version.Two read)) (sym is)
    (untold_are_refused version.Two commit room untold)
not_read commit (Err error) is room = tt
