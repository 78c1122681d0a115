-- The runs of watches: each stands while its world goes on.
use Rattle.std.proofs.Common.{◌≡◌, ℕ, zero, suc, ◌+◌, ◌≤◌, Bool, true, false, cond, max, List, [], ◌∷◌, length, get_or, set, Option, Some, None, refl}
use Rattle.std.proofs.Common.{ap, ◌∙◌, arith}
use Rattle.std.specs.Prelude.{nat_le}
use Rattle.std.specs.List.{AllByRecursion}
use Rattle.std.specs.Str.{bytes_eq}
use Rattle.std.proofs.lemmas.List.{take-append-le}
use Rattle.plain_data.specs.Texts.{Bytes}
use Rattle.rdt_types.specs.Shards.{shard_of}
use Rattle.abort_witness.specs.declared.witness.Witness.{Witness}
use Rattle.txn_lang.specs.declared.checked.Checked.{Checked}
use Rattle.txn_lang.specs.declared.run.Run.{Run}
use Rattle.txn_lang.specs.States.{Journal, known, left_by, state}
use Rattle.txn_lang.specs.Execution.{exec}
use Rattle.journal_core.specs.declared.ready.Ready.{Ready}
use Rattle.journal_core.specs.declared.hold.Barred.{Barred}
use Rattle.docc_prepare.specs.Calls.{Call}
use Rattle.docc_prepare.specs.Stores.{Store, front_of, seen_by, witness_past, barred_by, decided, step, followed, IsSound}
use Rattle.docc_prepare.specs.Worlds.{Reported, RunsAt, IsReported, with_run}
use Rattle.docc_prepare.proofs.Each.{each-more}
use Rattle.docc_prepare.proofs.Stored.{rises, Grown}

-- what holds of an item and its place, and of all others and theirs, holds where the item was set
pub kept-each : {A : Type 0} (P : ℕ → A → Type 0) (xs : List A) (i : ℕ) (v d : A) (j : ℕ) → P i v → P j (get_or xs j d) → P j (get_or (set xs i v) j d)
kept-each P [] i v d j new old = old
kept-each P (x ∷ xs) zero v d zero new old = new
kept-each P (x ∷ xs) zero v d (suc j) new old = old
kept-each P (x ∷ xs) (suc i) v d zero new old = old
kept-each P (x ∷ xs) (suc i) v d (suc j) new old = kept-each (λ k. P (suc k)) xs i v d j new old

-- ---- what was seen

-- a number is no less than itself
no-less : (n : ℕ) → n ≤ n
no-less n = omega arith

module _ (s : Store) (c : ℕ) (sound : IsSound s) where
  -- by the decision: it has seen the journal's end then, and that isn't below what it had seen
  decided-rises : (ready : Ready) (w : Option Witness) (b : Option Barred) (full : Bool) (d : ℕ)
      → seen_by s d ≤ seen_by (decided s c ready w b full).0 d
  decided-rises ready (Some w) b full d = rises s.seens c (length s.journal) d (sound.seen c)
  decided-rises ready None (Some barred) full d = rises s.seens c (length s.journal) d (sound.seen c)
  decided-rises ready None None true d = rises s.seens c (length s.journal) d (sound.seen c)
  decided-rises ready None None false d = rises s.seens c (length s.journal + 1) d (let u = sound.seen c in omega arith)

  -- by the call: no client has seen less after it
  pub step-rises : (call : Call) (d : ℕ) → seen_by s d ≤ seen_by (step s c call).0 d
  step-rises Call.refresh d = rises s.seens c (length s.journal) d (sound.seen c)
  step-rises (Call.read a) d = rises s.seens c (max (front_of s (shard_of a s.shards)) (seen_by s c)) d (omega arith)
  step-rises (Call.prepare shard based) d = rises s.seens c (max (seen_by s c) (front_of s shard)) d (omega arith)
  step-rises (Call.append ready) d = decided-rises ready (witness_past s ready) (barred_by s c ready) (nat_le s.limit (length s.journal)) d
  step-rises (Call.read_at a n) d = no-less (seen_by s d)
  step-rises (Call.subscribe a) d = no-less (seen_by s d)
  step-rises (Call.unsubscribe a) d = no-less (seen_by s d)
  step-rises Call.take d = rises s.seens c (length s.journal) d (sound.seen c)
  step-rises Call.wait d = no-less (seen_by s d)

  -- nor where a shard has followed for one
  pub followed-rises : (shard d : ℕ) → seen_by s d ≤ seen_by (followed s c shard) d
  followed-rises shard d = rises s.seens c (max (seen_by s c) (length s.journal)) d (omega arith)

-- ---- runs

module _ (s t : Store) (d : ℕ) (sound : IsSound s) (grown : Grown s t) (up : seen_by s d ≤ seen_by t d) where
  -- a run rests on first commits alone, which were seen and so are there, and they stay
  runs-on : (body : Checked) (n : ℕ) (run : Run) → RunsAt s d body n run → RunsAt t d body n run
  runs-on body n run runs =
      let seen = sound.seen d in
      let low = runs.seen in
      let within : n ≤ length s.journal = omega arith in record {
        seen = omega arith;
        ran = ap (λ (journal : Journal). exec body.body (known (state journal n))) grown.journal
            ∙ ap (λ (first : Journal). exec body.body (known (left_by first))) (take-append-le n s.journal grown.more within) ∙ runs.ran;
      }

  -- so do those of watches
  pub reported-on : (watches : List Reported) → AllByRecursion (IsReported s d) watches → AllByRecursion (IsReported t d) watches
  reported-on watches all = each-more (IsReported s d) (IsReported t d) watches (λ watch runs. runs-on watch.body watch.last watch.run runs) all

-- a report is its body's run where it goes to a watch, and the others are as before
pub reported-anew : (s : Store) (c : ℕ) (name : Bytes) (n : ℕ) (run : Run) (watches : List Reported) → AllByRecursion (IsReported s c) watches
    → AllByRecursion (λ watch. bytes_eq name watch.name ≡ true → RunsAt s c watch.body n run) watches
    → AllByRecursion (IsReported s c) (with_run name n run watches)
reported-anew s c name n run [] all named = tt
reported-anew s c name n run (watch ∷ watches) all named =
    (by (bytes_eq name watch.name) refl, reported-anew s c name n run watches all.1 named.1)
  where
    by : (b : Bool) → bytes_eq name watch.name ≡ b → IsReported s c (cond b (record watch { last = n; run = run }) watch)
    by true e = named.0 e
    by false e = all.0
