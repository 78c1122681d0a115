-- Stores step by step: each step leaves a sound store, where its call is in place.
use Rattle.std.proofs.Common.{◌≡◌, ℕ, zero, suc, ◌+◌, ◌≤◌, ◌<◌, Bool, true, false, cond, max, List, [], ◌∷◌, ◌++◌, length, get_or, set, Option, Some}
use Rattle.std.proofs.Common.{None, ◌⊎◌, inl, inr, refl, sym, ap, ◌∙◌, subst, arith}
use Rattle.std.specs.Prelude.{nat_le, ◌==◌, replicate, slice_get}
use Rattle.std.specs.Option.{option_and_then}
use Rattle.std.specs.List.{AllByRecursion}
use Rattle.std.proofs.lemmas.List.{append-nil, length-append, length-set, length-replicate}
use Rattle.std.proofs.lemmas.Bool.Decides.{nat_tests}
use Rattle.rdt_types.specs.declared.address.Address.{Address}
use Rattle.rdt_types.specs.Shards.{shard_of}
use Rattle.abort_witness.specs.declared.witness.Based.{Based}
use Rattle.abort_witness.specs.declared.witness.Found.{Found}
use Rattle.abort_witness.specs.declared.witness.Witness.{Witness}
use Rattle.abort_witness.specs.Kinds.{IsBasedOfOneKind}
use Rattle.txn_lang.specs.States.{Journal}
use Rattle.txn_lang.specs.Execution.{done}
use Rattle.txn_lang.specs.Journals.{IsLegal, own, commit_of}
use Rattle.txn_lang.specs.Tree.{tree}
use Rattle.journal_core.specs.declared.ready.Ready.{Ready}
use Rattle.journal_core.specs.declared.hold.Barred.{Barred}
use Rattle.journal_core.specs.Pairs.{pairs, least_pair, past_fronts}
use Rattle.journal_core.specs.Readies.{made_of}
use Rattle.docc_prepare.specs.declared.attempt.Attempt.{Attempt}
use Rattle.docc_prepare.specs.Attempts.{ran, based, ready_of, Fits}
use Rattle.docc_prepare.specs.Serial.{IsOrderly}
use Rattle.docc_prepare.specs.Witnesses.{witness_of}
use Rattle.docc_prepare.specs.Calls.{Call, Answer}
use Rattle.docc_prepare.specs.Backends.{IsSameClient, KeepsGiven}
use Rattle.docc_prepare.specs.Stores.{Store, CLIENTS, front_of, seen_by, saw, moved, committed, telling, took, found_past, witness_past}
use Rattle.docc_prepare.specs.Stores.{barred_by, decided, step, followed, HasStalled, Does, IsSound, known_by, FirstStoreIsSound}
use Rattle.docc_prepare.proofs.Missing.{none-of-least}
use Rattle.docc_prepare.proofs.Undisturbed.{appending_stays_legal, observed_of_one_kind}
use Rattle.docc_prepare.proofs.Growing.{legal_is_orderly}
use Rattle.docc_prepare.proofs.Fronts.{fronts_spare_no_pair}
use Rattle.docc_prepare.proofs.Witnessed.{witness-there}

-- ---- lists

-- what holds of an item and of all others holds where the item was set
pub kept : {A : Type 0} (P : A → Type 0) (xs : List A) (i : ℕ) (v d : A) (j : ℕ) → P v → P (get_or xs j d) → P (get_or (set xs i v) j d)
kept P [] i v d j new old = old
kept P (x ∷ xs) zero v d zero new old = new
kept P (x ∷ xs) zero v d (suc j) new old = old
kept P (x ∷ xs) (suc i) v d zero new old = old
kept P (x ∷ xs) (suc i) v d (suc j) new old = kept P xs i v d j new old

-- a number that rises lets none fall
pub rises : (xs : List ℕ) (i v j : ℕ) → get_or xs i 0 ≤ v → get_or xs j 0 ≤ get_or (set xs i v) j 0
rises [] i v j h = omega arith
rises (x ∷ xs) zero v zero h = h
rises (x ∷ xs) zero v (suc j) h = omega arith
rises (x ∷ xs) (suc i) v zero h = omega arith
rises (x ∷ xs) (suc i) v (suc j) h = rises xs i v j h

-- what holds of an item holds at each place of a list of copies, and past its end
pub all_alike : {A : Type 0} (P : A → Type 0) (n j : ℕ) (x : A) → P x → P (get_or (replicate n x) j x)
all_alike P zero j x h = h
all_alike P (suc n) zero x h = h
all_alike P (suc n) (suc j) x h = all_alike P n j x h

-- ---- one change of the store

-- only what a client has seen changes, and it is within the journal
pub saw-sound : (s : Store) (c n : ℕ) → IsSound s → n ≤ length s.journal → IsSound (saw s c n)
saw-sound s c n sound h = record {
  legal = sound.legal;
  few = sound.few;
  some = sound.some;
  all_shards = sound.all_shards;
  all_clients = length-set s.seens c n ∙ sound.all_clients;
  reached = sound.reached;
  seen = λ d. kept (λ (m : ℕ). m ≤ length s.journal) s.seens c n 0 d h (sound.seen d);
  taken = sound.taken;
}

-- only a shard's front changes, and it is within the journal
pub moved-sound : (s : Store) (k f : ℕ) → IsSound s → f ≤ length s.journal → IsSound (moved s k f)
moved-sound s k f sound h = record {
  legal = sound.legal;
  few = sound.few;
  some = sound.some;
  all_shards = length-set s.fronts k f ∙ sound.all_shards;
  all_clients = sound.all_clients;
  reached = λ j. kept (λ (m : ℕ). m ≤ length s.journal) s.fronts k f 0 j h (sound.reached j);
  seen = sound.seen;
  taken = sound.taken;
}

-- there was room for the commit, the journal with it is legal, and what was within the journal still is
committed-sound : (s : Store) (ready : Ready) → IsSound s → length s.journal < s.limit → IsLegal 0 (committed s ready).journal → IsSound (committed s ready)
committed-sound s ready sound room legal =
    let l = length-append s.journal (made_of s.journal ready ∷ []) in record {
      legal = legal;
      few = omega arith;
      some = sound.some;
      all_shards = sound.all_shards;
      all_clients = sound.all_clients;
      reached = λ k. let u = sound.reached k in omega arith;
      seen = λ d. let u = sound.seen d in omega arith;
      taken = λ d. let u = sound.taken d in omega arith;
    }

-- what a client is told of may be anything
telling-sound : (s : Store) (c : ℕ) (address : Address) (told : Bool) → IsSound s → IsSound (telling s c address told)
telling-sound s c address told sound = record {
  legal = sound.legal;
  few = sound.few;
  some = sound.some;
  all_shards = sound.all_shards;
  all_clients = sound.all_clients;
  reached = sound.reached;
  seen = sound.seen;
  taken = sound.taken;
}

-- only up to where a client has taken changes, and it is within the journal
took-sound : (s : Store) (c n : ℕ) → IsSound s → n ≤ length s.journal → IsSound (took s c n)
took-sound s c n sound h = record {
  legal = sound.legal;
  few = sound.few;
  some = sound.some;
  all_shards = sound.all_shards;
  all_clients = sound.all_clients;
  reached = sound.reached;
  seen = sound.seen;
  taken = λ d. by d (d == c);
}
  where
    by : (d : ℕ) (b : Bool) → cond b n (s.taken d) ≤ length s.journal
    by d true = h
    by d false = sound.taken d

-- the store with other fronts
abbrev pub with_fronts : Store → List ℕ → Store
with_fronts s fronts = record s { fronts = fronts }

-- only fronts have risen, within the journal
pub stalled-sound : (s t : Store) → IsSound s → HasStalled s t → IsSound t
stalled-sound s t sound stalled = subst IsSound (sym stalled.same) now
  where
    now : IsSound (with_fronts s t.fronts)
    now = record {
      legal = sound.legal;
      few = sound.few;
      some = sound.some;
      all_shards = stalled.all_shards ∙ sound.all_shards;
      all_clients = sound.all_clients;
      reached = stalled.reached;
      seen = sound.seen;
      taken = sound.taken;
    }

-- ---- what is handed on by an attempt

-- It is an attempt's, which fits the journal and whose run is done, and its seq is the client's next.
pub record IsOf (s : Store) (client : ℕ) (ready : Ready) (attempt : Attempt) : Type 0 where
  pub fits : Fits s.journal attempt
  pub runs : ran attempt ≡ done ready.run
  pub made : ready ≡ ready_of attempt ready.run client ready.seq
  pub text : tree attempt.body.source ≡ Some attempt.body.body
  pub all_shards : attempt.shards ≡ s.shards
  pub next : ready.seq ≡ length (own client s.journal) + 1

module _ (s : Store) (sound : IsSound s) (client : ℕ) (ready : Ready) (attempt : Attempt) (of : IsOf s client ready attempt) where
  -- the attempt's observations, with their bases
  abbrev observed : List Based
  observed = based attempt.snaps ready.run.observations

  -- the store's journal is legal, and so orderly
  orderly : IsOrderly s.journal
  orderly = legal_is_orderly s.journal sound.legal

  -- what is handed on has these observations
  based-is : ready.based ≡ observed
  based-is = ap (λ (r : Ready). r.based) of.made

  -- each is of its address' kind, since the attempt fits the journal
  pub one-kinds : AllByRecursion IsBasedOfOneKind ready.based
  one-kinds = subst (AllByRecursion IsBasedOfOneKind) (sym based-is) (observed_of_one_kind s.journal attempt ready.run orderly of.fits of.runs)

  -- to look past the fronts is to look at all
  pub found-is : found_past s ready ≡ least_pair ready.based s.journal
  found-is =
      ap (λ (n : ℕ). least_pair (past_fronts n ready.fronts ready.based) s.journal) (sym of.all_shards)
      ∙ ap (λ (r : Ready). least_pair (past_fronts attempt.shards r.fronts r.based) s.journal) of.made
      ∙ ap (λ (found : List Found). slice_get found 0) (fronts_spare_no_pair s.journal attempt ready.run orderly.numbered of.fits of.runs)
      ∙ ap (λ (bs : List Based). least_pair bs s.journal) (sym based-is)

  -- without a witness there is no pair
  pub all-clear : witness_past s ready ≡ None → pairs ready.based s.journal ≡ []
  all-clear none = none-of-least (pairs ready.based s.journal) (by (least_pair ready.based s.journal) refl)
    where
      by : (o : Option Found) → least_pair ready.based s.journal ≡ o → least_pair ready.based s.journal ≡ None
      by None e = e
      by (Some found) e =
          let w = witness-there ready.based s.journal found orderly one-kinds e in
          absurd (let no : None ≡ Some w.0 = sym none ∙ (ap (option_and_then (witness_of ready.based s.journal)) (found-is ∙ e) ∙ w.1) in cc)

  -- the commit that is made of what is handed on is that of the attempt's run
  made-is : made_of s.journal ready ≡ commit_of s.journal client attempt.body.source ready.run
  made-is = ap (made_of s.journal) of.made ∙ ap (λ (n : ℕ). made_of s.journal (ready_of attempt ready.run client n)) of.next

  -- so its commit leaves the journal legal
  pub commits-legally : witness_past s ready ≡ None → IsLegal 0 (committed s ready).journal
  commits-legally none =
      let undisturbed = ap (λ (bs : List Based). pairs bs s.journal) (sym based-is) ∙ all-clear none in
      subst (λ commit. IsLegal 0 (s.journal ++ commit ∷ [])) (sym made-is)
      (appending_stays_legal 0 client s.journal attempt ready.run of.text orderly sound.legal
      (record { fits = of.fits; runs = of.runs; undisturbed = undisturbed }))

-- ---- the steps

-- A read at a number is in place where that is among what was seen, and an append where its commit, if nothing clashes,
-- leaves the journal legal.
abbrev pub StepsSoundly : Store → ℕ → Call → Type 0
StepsSoundly s c (Call.append ready) = witness_past s ready ≡ None → IsLegal 0 (committed s ready).journal
StepsSoundly s c (Call.read_at address number) = number ≤ seen_by s c
StepsSoundly s c call = Unit {0}

module _ (s : Store) (c : ℕ) (sound : IsSound s) where
  -- by the decision: a refusal changes only what was seen, and a commit is legal and has room
  decided-sound : (ready : Ready) (o : Option Witness) (b : Option Barred) (full : Bool) → nat_le s.limit (length s.journal) ≡ full
      → (o ≡ None → IsLegal 0 (committed s ready).journal)
      → IsSound (decided s c ready o b full).0
  decided-sound ready (Some w) b full e legal = saw-sound s c (length s.journal) sound (omega arith)
  decided-sound ready None (Some barred) full e legal = saw-sound s c (length s.journal) sound (omega arith)
  decided-sound ready None None true e legal = saw-sound s c (length s.journal) sound (omega arith)
  decided-sound ready None None false e legal =
      let room : length s.journal < s.limit = grind (arith, nat_tests) in
      let l = length-append s.journal (made_of s.journal ready ∷ []) in
      saw-sound (committed s ready) c (length s.journal + 1) (committed-sound s ready sound room (legal refl)) (omega arith)

  -- by the call: each changes the store in the ways shown above
  pub step-sound : (call : Call) → StepsSoundly s c call → IsSound (step s c call).0
  step-sound Call.refresh h = saw-sound s c (length s.journal) sound (omega arith)
  step-sound (Call.read address) h =
      let k = shard_of address s.shards in
      let r = sound.reached k in
      let n = sound.seen c in
      saw-sound (moved s k (max (front_of s k) (seen_by s c))) c (max (front_of s k) (seen_by s c))
      (moved-sound s k (max (front_of s k) (seen_by s c)) sound (omega arith)) (omega arith)
  step-sound (Call.prepare shard based) h =
      let r = sound.reached shard in
      let n = sound.seen c in
      saw-sound s c (max (seen_by s c) (front_of s shard)) sound (omega arith)
  step-sound (Call.append ready) h =
      decided-sound ready (witness_past s ready) (barred_by s c ready) (nat_le s.limit (length s.journal)) refl h
  step-sound (Call.read_at address number) h =
      let k = shard_of address s.shards in
      let r = sound.reached k in
      let n = sound.seen c in
      moved-sound s k (max (front_of s k) number) sound (omega arith)
  step-sound (Call.subscribe address) h = telling-sound s c address true sound
  step-sound (Call.unsubscribe address) h = telling-sound s c address false sound
  step-sound Call.take h = took-sound (saw s c (length s.journal)) c (length s.journal) (saw-sound s c (length s.journal) sound (omega arith)) (omega arith)
  step-sound Call.wait h = sound

  -- the front and what the client has seen go to the journal's end, and so are within it
  pub followed-sound : (shard : ℕ) → IsSound (followed s c shard)
  followed-sound shard =
      let n = sound.seen c in
      saw-sound (moved s shard (length s.journal)) c (max (seen_by s c) (length s.journal)) (moved-sound s shard (length s.journal) sound (omega arith))
      (omega arith)

-- ---- what goes on

-- The settings stay, the journal may have grown, and fronts may have risen.
pub record Grown (s t : Store) : Type 0 where
  pub shards : t.shards ≡ s.shards
  pub window : t.window ≡ s.window
  pub limit : t.limit ≡ s.limit
  pub more : Journal
  pub journal : t.journal ≡ s.journal ++ more
  pub risen : (shard : ℕ) → front_of s shard ≤ front_of t shard

module _ (s : Store) where
  -- the same journal, over fronts that may have risen
  risen-grown : (fronts : List ℕ) (seens : List ℕ) (subscribed : ℕ → Address → Bool) (taken : ℕ → ℕ) → ((shard : ℕ) → front_of s shard ≤ get_or fronts shard 0)
      → Grown s (record s { fronts = fronts; seens = seens; subscribed = subscribed; taken = taken })
  risen-grown fronts seens subscribed taken risen =
      record { shards = refl; window = refl; limit = refl; more = []; journal = sym (append-nil s.journal); risen = risen }

  -- the same journal over the same fronts
  same-grown : (seens : List ℕ) (subscribed : ℕ → Address → Bool) (taken : ℕ → ℕ) → Grown s (record s { seens = seens; subscribed = subscribed; taken = taken })
  same-grown seens subscribed taken = risen-grown s.fronts seens subscribed taken (λ i. omega arith)

  module _ (c : ℕ) where
    -- only what a client has seen changes
    pub saw-grown : (n : ℕ) → Grown s (saw s c n)
    saw-grown n = same-grown (set s.seens c n) s.subscribed s.taken

    -- by the decision: a refusal changes only what was seen, and a commit goes behind the journal
    decided-grows : (ready : Ready) (w : Option Witness) (b : Option Barred) (full : Bool) → Grown s (decided s c ready w b full).0
    decided-grows ready (Some w) b full = saw-grown (length s.journal)
    decided-grows ready None (Some barred) full = saw-grown (length s.journal)
    decided-grows ready None None true = saw-grown (length s.journal)
    decided-grows ready None None false =
        record { shards = refl; window = refl; limit = refl; more = made_of s.journal ready ∷ []; journal = refl; risen = λ i. omega arith }

    -- a front that is set no lower has risen, and the others stay
    moved-grown : (i f : ℕ) (seens : List ℕ) → front_of s i ≤ f → Grown s (record s { fronts = set s.fronts i f; seens = seens })
    moved-grown i f seens up = risen-grown (set s.fronts i f) seens s.subscribed s.taken (λ j. rises s.fronts i f j up)

    -- by the call: fronts only rise, and only an append adds to the journal
    pub step-grows : (call : Call) → Grown s (step s c call).0
    step-grows Call.refresh = saw-grown (length s.journal)
    step-grows (Call.read a) =
        let f = max (front_of s (shard_of a s.shards)) (seen_by s c) in
        moved-grown (shard_of a s.shards) (max (front_of s (shard_of a s.shards)) (seen_by s c)) (set s.seens c f) (omega arith)
    step-grows (Call.prepare shard based) = saw-grown (max (seen_by s c) (front_of s shard))
    step-grows (Call.append ready) = decided-grows ready (witness_past s ready) (barred_by s c ready) (nat_le s.limit (length s.journal))
    step-grows (Call.read_at a n) = moved-grown (shard_of a s.shards) (max (front_of s (shard_of a s.shards)) n) s.seens (omega arith)
    step-grows (Call.subscribe a) = same-grown s.seens (telling s c a true).subscribed s.taken
    step-grows (Call.unsubscribe a) = same-grown s.seens (telling s c a false).subscribed s.taken
    step-grows Call.take = same-grown (set s.seens c (length s.journal)) s.subscribed (step s c Call.take).0.taken
    step-grows Call.wait = same-grown s.seens s.subscribed s.taken

    -- no front is past the journal's end, so to go there is to rise
    pub followed-grows : (shard : ℕ) → IsSound s → Grown s (followed s c shard)
    followed-grows shard sound =
        moved-grown shard (length s.journal) (set s.seens c (max (seen_by s c) (length s.journal))) (sound.reached shard)

  -- where only fronts have risen the store has gone on
  pub stalled-grows : (fronts : List ℕ) → ((shard : ℕ) → front_of s shard ≤ get_or fronts shard 0) → Grown s (with_fronts s fronts)
  stalled-grows fronts risen = risen-grown fronts s.seens s.subscribed s.taken risen

-- ---- what clients know of it

-- what a front has reached is reached by each higher one
still-reached : (a b n : ℕ) → a ≤ b → nat_le n a ≡ true → nat_le n b ≡ true
still-reached a b n h e = grind (arith, nat_tests)

module _ (s t : Store) (d : ℕ) (grown : Grown s t) where
  -- the settings stay, so it is the same client of the same store
  pub same-client : IsSameClient (known_by s d) (known_by t d)
  same-client = record { client = refl; trusted = refl; shards = grown.shards; window = grown.window; limit = grown.limit }

  -- what was given is given
  pub kept-given : KeepsGiven (known_by s d) (known_by t d)
  kept-given = record {
    bases = λ a b h. subst (λ (n : ℕ). nat_le b (front_of t (shard_of a n)) ≡ true) (sym grown.shards)
        (still-reached (front_of s (shard_of a s.shards)) (front_of t (shard_of a s.shards)) b (grown.risen (shard_of a s.shards)) h);
    fronts = λ i bs f h. h;
  }

-- ---- what a call may leave

-- a call failed for want of memory, or went by the step
pub does-one : (s t : Store) (c : ℕ) (call : Call) (a : Answer) → Does s c call a t → ((a ≡ Answer.failed false) × HasStalled s t) ⊎ ((t, a) ≡ step s c call)
does-one s t c call (Answer.failed by_fault) does = inl (ap (λ (b : Bool). Answer.failed b) does.0, does.1)
does-one s t c call a does = inr does

-- its journal has no commits, and all that was reached, seen or taken is 0
pub first_store_is_sound : FirstStoreIsSound
first_store_is_sound shards window limit some = record {
  legal = tt;
  few = omega arith;
  some = some;
  all_shards = length-replicate {A = ℕ} shards 0;
  all_clients = length-replicate {A = ℕ} CLIENTS 0;
  reached = λ k. all_alike (λ (n : ℕ). n ≤ 0) shards k 0 (omega arith);
  seen = λ c. all_alike (λ (n : ℕ). n ≤ 0) CLIENTS c 0 (omega arith);
  taken = λ c. omega arith;
}
