-- What one client's calls do to the others: to each it is as if others had been at work.
use Rattle.std.proofs.Common.{◌≡◌, ◌≢◌, ℕ, ◌+◌, Bool, true, false, cond, max, ◌&&◌, [], ◌∷◌, ◌++◌, length, get_or, set, Option, Some, None, ◌⊎◌, inl}
use Rattle.std.proofs.Common.{inr, refl, sym, ap, ◌∙◌, subst, arith}
use Rattle.std.specs.Prelude.{nat_le, ◌==◌}
use Rattle.std.specs.BTreeMap.{is_at}
use Rattle.std.proofs.Math.Seq.{take-length, take-append_seam}
use Rattle.std.proofs.lemmas.List.{append-nil, get_or-set_same, get_or-set_other}
use Rattle.std.proofs.lemmas.List.Elements.{filter-append}
use Rattle.std.proofs.lemmas.Bool.Decides.{nat_tests}
use Rattle.rdt_types.specs.declared.address.Address.{Address}
use Rattle.rdt_types.specs.Addresses.{address_cmp}
use Rattle.rdt_types.specs.Shards.{shard_of}
use Rattle.abort_witness.specs.declared.witness.Witness.{Witness}
use Rattle.txn_lang.specs.declared.commit.Commit.{Commit}
use Rattle.txn_lang.specs.States.{Journal}
use Rattle.txn_lang.specs.Journals.{own}
use Rattle.journal_core.specs.declared.ready.Ready.{Ready}
use Rattle.journal_core.specs.declared.hold.Barred.{Barred}
use Rattle.journal_core.specs.Readies.{made_of}
use Rattle.docc_prepare.specs.Calls.{Known, Call, Answer}
use Rattle.docc_prepare.specs.Backends.{CanCall, HasGrown, IsLater}
use Rattle.docc_prepare.specs.Stores.{Store, front_of, seen_by, saw, committed, telling, witness_past, barred_by, decided, step}
use Rattle.docc_prepare.specs.Stores.{followed, HasStalled, IsSound, known_by, StepsLeaveOthers, ShardsFollow}
use Rattle.docc_prepare.proofs.Stored.{step-sound, followed-sound, with_fronts, stalled-sound, Grown, step-grows, followed-grows, stalled-grows}
use Rattle.docc_prepare.proofs.Stored.{same-client, kept-given, does-one}
use Rattle.docc_prepare.proofs.Answered.{owed-soundly}

-- numbers that differ fail the test of equality
not-equal : (a b : ℕ) → b ≢ a → (a == b) ≡ false
not-equal a b h = grind (arith, nat_tests)

-- a commit of another client isn't one's own
own-other : (d : ℕ) (journal : Journal) (x : Commit) → d ≢ x.client → own d (journal ++ x ∷ []) ≡ own d journal
own-other d journal x h =
    filter-append (λ (y : Commit). y.client == d) journal (x ∷ [])
    ∙ ap (λ (b : Bool). own d journal ++ cond b (x ∷ []) []) (not-equal x.client d h) ∙ append-nil (own d journal)

-- what one client is told of from now on changes nothing for another
others-told : (mine here told was : Bool) → mine ≡ false → cond (mine && here) told was ≡ was
others-told true here told was e = absurd (cc)
others-told false here told was e = refl

module _ (s : Store) (sound : IsSound s) (c d : ℕ) (others : d ≢ c) where
  -- what the other client knows before the call
  abbrev k : Known
  k = known_by s d

  -- the view of another client, of a store that is sound
  later : (t : Store) → IsSound t → Grown s t → seen_by t d ≡ seen_by s d → ((a : Address) → t.subscribed d a ≡ s.subscribed d a) → t.taken d ≡ s.taken d
      → HasGrown k s.journal t.journal → IsLater k (known_by t d)
  later t now grows seen told taken grown = record {
    client = same-client s t d grows;
    seen = seen;
    within = now.seen d;
    keeps = kept-given s t d grows;
    subscribed = told;
    taken = taken;
    denied = refl;
    denials = omega arith;
    draws = omega arith;
    looks = omega arith;
    faults = refl;
    told = grown;
  }

  -- what one client sees counts as seen by no other
  unseen : (n : ℕ) → get_or (set s.seens c n) d 0 ≡ get_or s.seens d 0
  unseen n = get_or-set_other s.seens c d n 0 others

  -- a journal that stays as it is has nothing new of anyone
  ungrown : HasGrown k s.journal s.journal
  ungrown = record { grows = take-length s.journal; legal = sound.legal; same_own = refl }

  -- the other client isn't the one that calls
  not-mine : (d == c) ≡ false
  not-mine = not-equal d c (λ e. others (sym e))

  -- a refusal changes only what the calling client has seen
  refused-later : IsSound (saw s c (length s.journal)) → Grown s (saw s c (length s.journal)) → IsLater k (known_by (saw s c (length s.journal)) d)
  refused-later now grows = later (saw s c (length s.journal)) now grows (unseen (length s.journal)) (λ a. refl) refl ungrown

  -- by the decision: a refusal leaves the journal as it is, and a commit is the calling client's own
  decided-later : (ready : Ready) (w : Option Witness) (b : Option Barred) (full : Bool) → ready.client ≡ c → IsSound (decided s c ready w b full).0
      → Grown s (decided s c ready w b full).0
      → IsLater k (known_by (decided s c ready w b full).0 d)
  decided-later ready (Some w) b full ours now grows = refused-later now grows
  decided-later ready None (Some barred) full ours now grows = refused-later now grows
  decided-later ready None None true ours now grows = refused-later now grows
  decided-later ready None None false ours now grows =
      later (saw (committed s ready) c (length s.journal + 1)) now grows (unseen (length s.journal + 1)) (λ a. refl) refl
      (record {
        grows = take-append_seam s.journal (made_of s.journal ready ∷ []);
        legal = now.legal;
        same_own = own-other d s.journal (made_of s.journal ready) (λ e. others (e ∙ ours));
      })

  -- whose commit an append makes
  abbrev IsOurs : Call → Type 0
  IsOurs (Call.append ready) = ready.client ≡ c
  IsOurs call = Unit {0}

  -- by the call: each sets only what its own client has seen, is told of or has taken, and lets the store grow
  later-by : (call : Call) → IsOurs call → IsSound (step s c call).0 → Grown s (step s c call).0 → IsLater k (known_by (step s c call).0 d)
  later-by Call.refresh ours now grows = later (step s c Call.refresh).0 now grows (unseen (length s.journal)) (λ a. refl) refl ungrown
  later-by (Call.read a) ours now grows =
      later (step s c (Call.read a)).0 now grows (unseen (max (front_of s (shard_of a s.shards)) (seen_by s c))) (λ b. refl) refl ungrown
  later-by (Call.prepare shard based) ours now grows =
      later (step s c (Call.prepare shard based)).0 now grows (unseen (max (seen_by s c) (front_of s shard))) (λ a. refl) refl ungrown
  later-by (Call.append ready) ours now grows =
      decided-later ready (witness_past s ready) (barred_by s c ready) (nat_le s.limit (length s.journal)) ours now grows
  later-by (Call.read_at a n) ours now grows = later (step s c (Call.read_at a n)).0 now grows refl (λ b. refl) refl ungrown
  later-by (Call.subscribe a) ours now grows =
      later (telling s c a true) now grows refl (λ b. others-told (d == c) (is_at (address_cmp a) b) true (s.subscribed d b) not-mine) refl ungrown
  later-by (Call.unsubscribe a) ours now grows =
      later (telling s c a false) now grows refl (λ b. others-told (d == c) (is_at (address_cmp a) b) false (s.subscribed d b) not-mine) refl ungrown
  later-by Call.take ours now grows =
      later (step s c Call.take).0 now grows (unseen (length s.journal)) (λ a. refl) (ap (λ b. cond b (length s.journal) (s.taken d)) not-mine) ungrown
  later-by Call.wait ours now grows = later s now grows refl (λ a. refl) refl ungrown

  -- what a client may hand on carries its own number
  owed-ours : (call : Call) → CanCall (known_by s c) call → IsOurs call
  owed-ours (Call.append ready) can = ap (λ (r : Ready). r.client) can.made
  owed-ours call can = tt

  -- so after each step the other finds the store as if others had been at work
  step-later : (call : Call) → CanCall (known_by s c) call → IsLater k (known_by (step s c call).0 d)
  step-later call can = later-by call (owed-ours call can) (step-sound s c sound call (owed-soundly s sound c call can)) (step-grows s c call)

  -- where memory was wanting only fronts may have risen
  stalled-later : (t : Store) → HasStalled s t → IsLater k (known_by t d)
  stalled-later t stalled =
      subst (λ (x : Store). IsLater k (known_by x d)) (sym stalled.same)
      (later (with_fronts s t.fronts) (subst IsSound stalled.same (stalled-sound s t sound stalled)) (stalled-grows s t.fronts stalled.risen) refl
      (λ a. refl) refl ungrown)

  -- a shard that follows has a higher front, and only its own client has seen more
  follow-later : (shard : ℕ) → IsLater k (known_by (followed s c shard) d)
  follow-later shard =
      later (followed s c shard) (followed-sound s c sound shard) (followed-grows s c shard sound) (unseen (max (seen_by s c) (length s.journal)))
      (λ a. refl) refl ungrown

-- a call went by the step or failed for want of memory
pub steps_leave_others : StepsLeaveOthers
steps_leave_others s t c d call a sound others can does = by (does-one s t c call a does)
  where
    by : ((a ≡ Answer.failed false) × HasStalled s t) ⊎ ((t, a) ≡ step s c call) → IsLater (known_by s d) (known_by t d)
    by (inl stalled) = stalled-later s sound c d others t stalled.1
    by (inr e) = subst (λ (x : Store × Answer). IsLater (known_by s d) (known_by x.0 d)) (sym e) (step-later s sound c d others call can)

-- the shard's front and what the client has seen go to the journal's end, and nothing else changes
pub shards_follow : ShardsFollow
shards_follow s c shard sound ours inside =
    let n = sound.seen c in
    let all = sound.all_clients in
    let shards = sound.all_shards in
    let grows = followed-grows s c shard sound in
    let seen = get_or-set_same s.seens c (max (seen_by s c) (length s.journal)) 0 (omega arith) in record {
      sound = followed-sound s c sound shard;
      front = get_or-set_same s.fronts shard (length s.journal) 0 (omega arith);
      mine = record {
        client = same-client s (followed s c shard) c grows;
        journal = refl;
        seen = omega arith;
        all_seen = omega arith;
        keeps = kept-given s (followed s c shard) c grows;
        subscribed = λ a. refl;
        taken = refl;
        denied = refl;
      };
      others = λ d other. follow-later s sound c d other shard;
    }
