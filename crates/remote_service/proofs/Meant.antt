-- What the service answers is what the request's meaning lets it answer.
use Rattle.std.proofs.Common.{◌≡◌, ℕ, ◌+◌, ◌≤◌, Bool, true, false, List, Result, Ok, Err, inr, refl, sym, ◌∙◌, subst, arith}
use Rattle.std.specs.Prelude.{◌&&◌, ◌==◌, nat_le, nat_lt, length, [], ◌∷◌}
use Rattle.std.specs.List.{AllByRecursion}
use Rattle.std.proofs.lemmas.Bool.{eqb-true}
use Rattle.std.proofs.lemmas.Bool.Decides.{nat_tests}
use Rattle.rdt_types.specs.declared.address.Address.{Address}
use Rattle.rdt_types.specs.declared.value.Value.{Value}
use Rattle.rdt_types.specs.Shards.{shard_of}
use Rattle.conflict_table.specs.Observing.{kind_observed}
use Rattle.abort_witness.specs.declared.witness.Based.{Based}
use Rattle.txn_lang.specs.declared.limits.TheConstants.{TEXT_LIMIT}
use Rattle.txn_lang.specs.declared.snaps.Snap.{Snap}
use Rattle.txn_lang.specs.Short.{IsShortAddress, text_in}
use Rattle.journal_core.specs.declared.ready.Ready.{Ready}
use Rattle.version_shard.specs.declared.prepared.Prepared.{Prepared}
use Rattle.docc_prepare.specs.declared.backend.StoreError.{StoreError}
use Rattle.docc_prepare.specs.declared.backend.PrepareError.{PrepareError}
use Rattle.docc_prepare.specs.declared.backend.PrepareError.TheVariants as prepare_error
use Rattle.docc_prepare.specs.declared.backend.AppendError.{AppendError}
use Rattle.docc_prepare.specs.declared.backend.AppendError.TheVariants as append_error
use Rattle.docc_prepare.specs.declared.backend.ReadAtError.{ReadAtError}
use Rattle.docc_prepare.specs.Calls.{Known, Call, Answer, snap_answered, front_answered, commit_answered, value_answered}
use Rattle.docc_prepare.specs.Backends.{IsGiven, CanValidate, CanPrepare, CanAppend, Goes}
use Rattle.remote_wire.specs.declared.request.Base.{Base}
use Rattle.remote_wire.specs.declared.request.Request.{Request}
use Rattle.remote_wire.specs.declared.request.Request.TheVariants as request
use Rattle.remote_wire.specs.declared.answer.Given.TheVariants as given
use Rattle.remote_wire.specs.declared.answer.WireAnswer.{WireAnswer}
use Rattle.remote_service.specs.declared.error.ServiceError.{ServiceError}
use Rattle.remote_service.specs.declared.kept.KeptSnap.{KeptSnap}
use Rattle.remote_service.specs.declared.service.Service.{Service}
use Rattle.remote_service.specs.Keeping.{was_given}
use Rattle.remote_service.specs.Malformed.{Meaning, if_so, is_short, are_short, is_of_its_kind, is_valid, are_valid, are_few, can_prepare}
use Rattle.remote_service.specs.Serving.{Serves, with_front, IsSpelling, Responds}
use Rattle.remote_service.specs.code.Told.{answer, KeepsSnap, unprepared, KeepsFront, settled, ended}
use Rattle.remote_service.proofs.Alike.{and_parts, kind_same}
use Rattle.remote_service.proofs.Found.{given-found}
use Rattle.remote_service.proofs.Suiting.{same_number, of_one_kind}
use Rattle.remote_service.proofs.Standing.{serves-on, read-serves, prepare-serves, refused-serves, committed-serves}

-- ---- what may be asked

pub short : (address : Address) → is_short address ≡ true → IsShortAddress address
short address e = grind (arith, nat_tests, e)

-- what passes the test passes it with the same parts
pub passes-as : (s : Service) (k : Known) (shard : ℕ) (observed : List Based) {snaps : List KeptSnap} {n : ℕ} {xs : List Based} → snaps ≡ s.snaps
    → n ≡ k.shards → xs ≡ observed → true ≡ can_prepare snaps n shard xs → can_prepare s.snaps k.shards shard observed ≡ true
passes-as s k shard observed {snaps} {n} {xs} a b c e =
    subst (λ (z : List KeptSnap). can_prepare z k.shards shard observed ≡ true) a
    (subst (λ (z : ℕ). can_prepare snaps z shard observed ≡ true) b
    (subst (λ (z : List Based). can_prepare snaps n shard z ≡ true) c (sym e)))

-- what may be prepared of what is kept may be prepared
pub may-prepare : (s : Service) (k : Known) (shard : ℕ) (observed : List Based) → Serves s k
    → can_prepare s.snaps k.shards shard observed ≡ true → CanPrepare k shard observed
may-prepare s k shard observed h e =
    let outer = and_parts (nat_lt shard k.shards) (are_few observed && are_valid s.snaps k.shards shard observed) e in
    let inner = and_parts (are_few observed) (are_valid s.snaps k.shards shard observed) outer.1 in
    record {
      below = grind (arith, nat_tests, outer.0);
      each = every observed inner.1;
      few = grind (arith, nat_tests, inner.0);
    }
  where
    one : (b : Based) → is_valid s.snaps k.shards shard b ≡ true → CanValidate k shard b
    one b e =
        let x = and_parts (shard_of b.address k.shards == shard) (is_of_its_kind b && (are_short b && was_given s.snaps b.address b.base)) e in
        let y = and_parts (is_of_its_kind b) (are_short b && was_given s.snaps b.address b.base) x.1 in
        let z = and_parts (are_short b) (was_given s.snaps b.address b.base) y.1 in
        let w = and_parts (is_short b.address) (nat_le (length (text_in b.obs)) TEXT_LIMIT) z.0 in
        record {
          here = eqb-true (shard_of b.address k.shards) shard x.0;
          given = given-found (IsGiven k) s.snaps b.address b.base h.given z.1;
          one_kind = record { observed = kind_same (kind_observed b.obs) b.address.kind y.0 };
          short = record { key = short b.address w.0; text = grind (arith, nat_tests, w.1) };
        }

    every : (xs : List Based) → are_valid s.snaps k.shards shard xs ≡ true → AllByRecursion (CanValidate k shard) xs
    every [] e = tt
    every (b ∷ xs) e = let p = and_parts (is_valid s.snaps k.shards shard b) (are_valid s.snaps k.shards shard xs) e in (one b p.0, every xs p.1)

module _ {B : Type 0} (known : B → Known) (goes : B → Call → Answer → B → Type 0) where
  -- what may be made is
  pub meant : (s t : Service) (b d : B) (asked : Request) (so : Bool) (call : Call) (result : Result WireAnswer ServiceError) → so ≡ true
      → Responds known goes s b asked (Meaning.calling call) result t d → Responds known goes s b asked (if_so so call) result t d
  meant s t b d asked so call result e h = subst (λ (x : Bool). Responds known goes s b asked (if_so x call) result t d) (sym e) h

  module _ (s : Service) (b d : B) (serves : Serves s (known b)) where
    -- ---- a read at a number

    module _ (address : Address) (number : ℕ) (can : IsShortAddress address × (number ≤ (known b).seen)) where
      pub read_at-serves : (outcome : Result Value ReadAtError) → Goes known goes b (Call.read_at address number) (value_answered outcome) d
          → Serves s (known d)
      read_at-serves outcome step = serves-on s (known b) (known d) (Call.read_at address number) (value_answered outcome) step.answered
          step.answered.keeps (λ old new same. same) serves

    -- ---- a read

    module _ (t : Service) (address : Address) (can : IsShortAddress address) where
      -- whatever comes of it
      still : (outcome : Result Snap StoreError) → Goes known goes b (Call.read address) (snap_answered outcome) d → t ≡ s → Serves t (known d)
      still outcome step same = subst (λ (x : Service). Serves x (known d)) (sym same)
          (serves-on s (known b) (known d) (Call.read address) (snap_answered outcome) step.answered step.answered.keeps (λ old new same. same) serves)

      pub read-kept : (outcome : Result Snap StoreError) (seen : ℕ) (result : Result WireAnswer ServiceError)
          → Goes known goes b (Call.read address) (snap_answered outcome) d → KeepsSnap s address outcome seen result t → Serves t (known d)
      read-kept (Ok snap) seen (Ok w) step keeps = subst (λ (x : Service). Serves x (known d)) (sym keeps.1)
          (read-serves s (known b) (known d) address snap step.answered serves)
      read-kept (Ok snap) seen (Err e) step keeps = still (Ok snap) step keeps.1
      read-kept (Err x) seen (Ok w) step keeps = absurd keeps
      read-kept (Err x) seen (Err e) step keeps = still (Err x) step keeps.1

    -- ---- a preparing

    module _ (t : Service) (shard : ℕ) (observed : List Based) (can : CanPrepare (known b) shard observed) where
      abbrev PrepareResponds : Result WireAnswer ServiceError → Service → Type 0
      PrepareResponds result u = Responds known goes s b (request.Prepare shard observed) (Meaning.calling (Call.prepare shard observed)) result u d

      abbrev Prepares : Result Prepared PrepareError → Type 0
      Prepares outcome = Goes known goes b (Call.prepare shard observed) (front_answered outcome) d

      -- what is told where no front was given
      unprepared-responds : (e : PrepareError) (seen : ℕ) → seen ≡ (known d).seen → Prepares (Err e) → PrepareResponds (unprepared seen e) s
      unprepared-responds (prepare_error.Late base horizon) seen is step = record {
        can = can;
        spelled = refl;
        step = step;
        fits = record { belongs = refl; fits = refl; changes = tt };
        counts = is;
        seen = sym is;
        told = refl;
        kept = refl;
      }
      unprepared-responds (prepare_error.Clash x) seen is step = record {
        can = can;
        spelled = refl;
        step = step;
        fits = record { belongs = refl; fits = of_one_kind x step.answered.shows; changes = tt };
        counts = is;
        seen = sym is;
        told = refl;
        kept = refl;
      }
      unprepared-responds prepare_error.Fault seen is step = record { answer = Answer.failed true; can = can; step = step; fault = refl }
      unprepared-responds prepare_error.NoMemory seen is step = inr (record { answer = Answer.failed false; can = can; step = step; fault = refl })

      -- a front that was given
      prepared-responds : (p : Prepared) (seen : ℕ) → seen ≡ (known d).seen → Prepares (Ok p)
          → PrepareResponds (answer seen (given.Front p.front)) (with_front s p.shard observed p.front)
      prepared-responds p seen is step =
          subst (λ (n : ℕ). PrepareResponds (answer seen (given.Front p.front)) (with_front s n observed p.front)) (sym step.answered.shows)
          (record {
            can = can;
            spelled = refl;
            step = subst (λ (n : ℕ). Goes known goes b (Call.prepare shard observed) (Answer.prepared (record { shard = n; front = p.front })) d)
                step.answered.shows step;
            fits = record { belongs = refl; fits = refl; changes = tt };
            counts = is;
            seen = sym is;
            told = refl;
            kept = refl;
          })

      pub prepare-responds : (outcome : Result Prepared PrepareError) (seen : ℕ) (result : Result WireAnswer ServiceError) → seen ≡ (known d).seen
          → Prepares outcome → KeepsFront s observed outcome seen result t → PrepareResponds result t
      prepare-responds (Ok p) seen (Ok w) is step keeps =
          subst (λ (x : WireAnswer). PrepareResponds (Ok x) t) (sym keeps.0)
          (subst (PrepareResponds (answer seen (given.Front p.front))) (sym keeps.1) (prepared-responds p seen is step))
      prepare-responds (Ok p) seen (Err e) is step keeps =
          subst (λ (x : ServiceError). PrepareResponds (Err x) t) (sym keeps.0)
          (inr (record { answer = Answer.prepared p; can = can; step = step; fault = refl }))
      prepare-responds (Err x) seen result is step keeps =
          subst (λ (r : Result WireAnswer ServiceError). PrepareResponds r t) (sym keeps.0)
          (subst (PrepareResponds (unprepared seen x)) (sym keeps.1) (unprepared-responds x seen is step))

      -- whatever comes of it
      as-before : (outcome : Result Prepared PrepareError) → Prepares outcome → t ≡ s → Serves t (known d)
      as-before outcome step same = subst (λ (x : Service). Serves x (known d)) (sym same)
          (serves-on s (known b) (known d) (Call.prepare shard observed) (front_answered outcome) step.answered step.answered.keeps
          (λ old new same. same) serves)

      pub prepare-kept : (outcome : Result Prepared PrepareError) (seen : ℕ) (result : Result WireAnswer ServiceError)
          → Prepares outcome → KeepsFront s observed outcome seen result t → Serves t (known d)
      prepare-kept (Ok p) seen (Ok w) step keeps = subst (λ (x : Service). Serves x (known d)) (sym keeps.1)
          (subst (λ (n : ℕ). Serves (with_front s n observed p.front) (known d)) (sym step.answered.shows)
          (prepare-serves s (known b) (known d) shard observed p step.answered serves))
      prepare-kept (Ok p) seen (Err e) step keeps = as-before (Ok p) step keeps.1
      prepare-kept (Err x) seen result step keeps = as-before (Err x) step keeps.1

    -- ---- an append

    module _ (ready : Ready) (body : List ℕ) (named : List Base) (can : CanAppend (known b) ready)
        (spelled : IsSpelling (request.Append s.seq body named) (Call.append ready)) where
      abbrev Appends : Result ℕ AppendError → Type 0
      Appends outcome = Goes known goes b (Call.append ready) (commit_answered outcome) d

      pub append-responds : (outcome : Result ℕ AppendError) (seen : ℕ) → seen ≡ (known d).seen → Appends outcome
          → Responds known goes s b (request.Append s.seq body named) (Meaning.calling (Call.append ready)) (settled seen outcome)
          (ended s (s.seq + 1) outcome) d
      append-responds (Ok n) seen is step = record {
        can = can;
        spelled = spelled;
        step = step;
        fits = record { belongs = refl; fits = same_number n seen (step.answered.shows ∙ sym is); changes = tt };
        counts = is;
        seen = sym is;
        told = refl;
        kept = refl;
      }
      append-responds (Err (append_error.Clash x)) seen is step = record {
        can = can;
        spelled = spelled;
        step = step;
        fits = record { belongs = refl; fits = of_one_kind x step.answered.shows; changes = tt };
        counts = is;
        seen = sym is;
        told = refl;
        kept = refl;
      }
      append-responds (Err (append_error.Held barred)) seen is step = record {
        can = can;
        spelled = spelled;
        step = step;
        fits = record { belongs = refl; fits = refl; changes = tt };
        counts = is;
        seen = sym is;
        told = refl;
        kept = refl;
      }
      append-responds (Err (append_error.Full limit)) seen is step = record {
        can = can;
        spelled = spelled;
        step = step;
        fits = record { belongs = refl; fits = refl; changes = tt };
        counts = is;
        seen = sym is;
        told = refl;
        kept = refl;
      }
      append-responds (Err append_error.Disk) seen is step = record {
        can = can;
        spelled = spelled;
        step = step;
        fits = record { belongs = refl; fits = refl; changes = tt };
        counts = is;
        seen = sym is;
        told = refl;
        kept = refl;
      }
      append-responds (Err append_error.Fault) seen is step = record { answer = Answer.failed true; can = can; step = step; fault = refl }
      append-responds (Err append_error.NoMemory) seen is step =
          inr (record { answer = Answer.failed false; can = can; step = step; fault = refl })

      pub append-serves : (outcome : Result ℕ AppendError) → ready.client ≡ (known b).client → Appends outcome
          → Serves (ended s (s.seq + 1) outcome) (known d)
      append-serves (Ok n) mine step = committed-serves s (known b) (known d) ready n mine step.answered serves
      append-serves (Err (append_error.Clash x)) mine step =
          refused-serves s (known b) (known d) ready (Answer.clash x) step.answered (λ old new same. same) serves
      append-serves (Err (append_error.Held barred)) mine step =
          refused-serves s (known b) (known d) ready (Answer.held barred.client barred.at) step.answered (λ old new same. same) serves
      append-serves (Err (append_error.Full limit)) mine step =
          refused-serves s (known b) (known d) ready (Answer.full limit) step.answered (λ old new same. same) serves
      append-serves (Err append_error.Disk) mine step =
          refused-serves s (known b) (known d) ready Answer.disk step.answered (λ old new same. same) serves
      append-serves (Err append_error.Fault) mine step =
          refused-serves s (known b) (known d) ready (Answer.failed true) step.answered (λ old new same. same) serves
      append-serves (Err append_error.NoMemory) mine step =
          refused-serves s (known b) (known d) ready (Answer.failed false) step.answered (λ old new same. same) serves
