-- Each step of a store may be done.
use Rattle.std.proofs.Common.{◌≡◌, ℕ, ◌-◌, Bool, true, false, cond, Option, Some, None, length, refl}
use Rattle.std.proofs.Common.{subst, arith}
use Rattle.std.specs.Prelude.{nat_lt, nat_le}
use Rattle.abort_witness.specs.declared.witness.Witness.{Witness}
use Rattle.journal_core.specs.declared.ready.Ready.{Ready}
use Rattle.journal_core.specs.declared.hold.Barred.{Barred}
use Rattle.docc_prepare.specs.Calls.{Call, Answer}
use Rattle.docc_prepare.specs.Stores.{Store, front_of, late_base, least_base, validated, decided, witness_past, barred_by, step, HasStalled}
use Rattle.docc_prepare.specs.Stores.{Does, IsSound, StepsMayBeDone}

-- an answer that is no failure
abbrev Succeeds : Answer → Type 0
Succeeds (Answer.failed by_fault) = ⊥
Succeeds answer = Unit {0}

-- a step whose answer is no failure is done
done-by : (s t : Store) (client : ℕ) (c : Call) (a : Answer) → (t, a) ≡ step s client c → Succeeds a → Does s client c a t
done-by s t client c (Answer.number n) e ok = e
done-by s t client c (Answer.snap x) e ok = e
done-by s t client c (Answer.prepared p) e ok = e
done-by s t client c (Answer.value v) e ok = e
done-by s t client c (Answer.feed f) e ok = e
done-by s t client c Answer.done e ok = e
done-by s t client c (Answer.late n horizon) e ok = e
done-by s t client c (Answer.clash w) e ok = e
done-by s t client c (Answer.held holder at) e ok = e
done-by s t client c (Answer.full limit) e ok = e
done-by s t client c Answer.disk e ok = e
done-by s t client c (Answer.failed by_fault) e ok = absurd ok

-- a preparing is late, clashes or gives a front
validated-succeeds : (shard front horizon : ℕ) (base : Option ℕ) (w : Option Witness) → Succeeds (validated shard front horizon base w)
validated-succeeds shard front horizon (Some base) w = tt
validated-succeeds shard front horizon None (Some w) = tt
validated-succeeds shard front horizon None None = tt

-- an append clashes, is held or full, or gives a number
decided-succeeds : (s : Store) (client : ℕ) (ready : Ready) (w : Option Witness) (b : Option Barred) (full : Bool)
    → Succeeds (decided s client ready w b full).1
decided-succeeds s client ready (Some w) b full = tt
decided-succeeds s client ready None (Some barred) full = tt
decided-succeeds s client ready None None true = tt
decided-succeeds s client ready None None false = tt

-- one of two answers that are no failures is none
either-succeeds : (b : Bool) (x y : Answer) → Succeeds x → Succeeds y → Succeeds (cond b x y)
either-succeeds true x y kx ky = kx
either-succeeds false x y kx ky = ky

-- a store that has not changed has stalled
stands : (s : Store) → IsSound s → HasStalled s s
stands s sound = record { all_shards = refl; risen = λ shard. omega arith; reached = sound.reached; same = refl }

-- the answer of each call but a wait is no failure, and a wait does nothing
step-does : (s : Store) (client : ℕ) (c : Call) → IsSound s → Does s client c (step s client c).1 (step s client c).0
step-does s client Call.refresh sound = refl
step-does s client (Call.read address) sound = refl
step-does s client (Call.prepare shard based) sound =
    let front = front_of s shard in
    done-by s (step s client (Call.prepare shard based)).0 client (Call.prepare shard based) (step s client (Call.prepare shard based)).1 refl
    (validated-succeeds shard front (front - s.window) (late_base (front - s.window) (least_base based)) _)
step-does s client (Call.append ready) sound =
    done-by s (step s client (Call.append ready)).0 client (Call.append ready) (step s client (Call.append ready)).1 refl
    (decided-succeeds s client ready (witness_past s ready) (barred_by s client ready) (nat_le s.limit (length s.journal)))
step-does s client (Call.read_at address number) sound =
    done-by s (step s client (Call.read_at address number)).0 client (Call.read_at address number) (step s client (Call.read_at address number)).1 refl
    (either-succeeds (nat_lt number _) _ _ tt tt)
step-does s client (Call.subscribe address) sound = refl
step-does s client (Call.unsubscribe address) sound = refl
step-does s client Call.take sound = refl
step-does s client Call.wait sound = (refl, stands s sound)

-- what succeeds has not failed
no-failure : (a : Answer) (by_fault : Bool) → Succeeds a → a ≡ Answer.failed by_fault → ⊥
no-failure a f ok e = subst Succeeds e ok

-- so where the answer is a failure, the call is a wait
waits-alone : (s : Store) (client : ℕ) (c : Call) (by_fault : Bool) → (step s client c).1 ≡ Answer.failed by_fault → c ≡ Call.wait
waits-alone s client Call.refresh f e = absurd (cc)
waits-alone s client (Call.read address) f e = absurd (cc)
waits-alone s client (Call.prepare shard based) f e =
    let front = front_of s shard in
    absurd (no-failure (step s client (Call.prepare shard based)).1 f
    (validated-succeeds shard front (front - s.window) (late_base (front - s.window) (least_base based)) _) e)
waits-alone s client (Call.append ready) f e =
    absurd (no-failure (step s client (Call.append ready)).1 f
    (decided-succeeds s client ready (witness_past s ready) (barred_by s client ready) (nat_le s.limit (length s.journal))) e)
waits-alone s client (Call.read_at address number) f e =
    absurd (no-failure (step s client (Call.read_at address number)).1 f (either-succeeds (nat_lt number _) _ _ tt tt) e)
waits-alone s client (Call.subscribe address) f e = absurd (cc)
waits-alone s client (Call.unsubscribe address) f e = absurd (cc)
waits-alone s client Call.take f e = absurd (cc)
waits-alone s client Call.wait f e = refl

-- both at once
pub steps_may_be_done : StepsMayBeDone
steps_may_be_done = record { done = step-does; failing = waits-alone }
