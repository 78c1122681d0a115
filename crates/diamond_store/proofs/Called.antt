-- What each call but an append is answered, from what was found under its lock.
use Rattle.std.proofs.Common.{◌≡◌, ℕ, ◌≤◌, Bool, true, false, cond, ◌||◌, ◌&&◌, not, max, List, [], length, take, filter, None, Result, Ok, Err, refl, sym}
use Rattle.std.proofs.Common.{ap, ◌∙◌, subst, arith}
use Rattle.std.specs.Prelude.{nat_lt, nat_le}
use Rattle.std.specs.List.{AllByRecursion}
use Rattle.std.specs.BTreeMap.{is_at}
use Rattle.history_lock.specs.declared.known.Known as tokens
use Rattle.history_lock.specs.Tokens.{IsLater}
use Rattle.history_lock.proofs.Prefixes.{IsPrefix-self}
use Rattle.plain_data.specs.Histories.{IsLawful}
use Rattle.rdt_types.specs.declared.address.Address.{Address}
use Rattle.rdt_types.specs.declared.settings.Settings.{Settings}
use Rattle.rdt_types.specs.declared.value.Value.{Value}
use Rattle.rdt_types.specs.Addresses.{address_cmp}
use Rattle.rdt_types.specs.DeltaMaps.{delta_at}
use Rattle.rdt_types.specs.Deltas.{kind_changed}
use Rattle.rdt_types.specs.Values.{kind_of}
use Rattle.change_feed.specs.declared.change.Change.{Change}
use Rattle.change_feed.specs.Feeds.{Fed, with_changes}
use Rattle.change_feed.specs.Pending.{pending}
use Rattle.abort_witness.specs.declared.witness.Based.{Based}
use Rattle.txn_lang.specs.declared.commit.Commit.{Commit}
use Rattle.txn_lang.specs.declared.snaps.Snap.{Snap}
use Rattle.txn_lang.specs.States.{state}
use Rattle.txn_lang.specs.Journals.{own}
use Rattle.journal_core.specs.Pairs.{pairs}
use Rattle.journal_core.specs.Changes.{changes, up_to, between}
use Rattle.version_shard.specs.declared.prepared.Prepared.{Prepared}
use Rattle.docc_prepare.specs.declared.backend.PrepareError.{PrepareError}
use Rattle.docc_prepare.specs.declared.backend.PrepareError.TheVariants as prepare_error
use Rattle.docc_prepare.specs.declared.backend.ReadAtError.{ReadAtError}
use Rattle.docc_prepare.specs.declared.backend.ReadAtError.TheVariants as read_at_error
use Rattle.docc_prepare.specs.Calls.{Call, Answer, front_answered, value_answered}
use Rattle.docc_prepare.specs.Backends.{IsAnswered}
use Rattle.docc_prepare.specs.Serial.{AreOfTheirKinds}
use Rattle.docc_prepare.proofs.Each.{each-take, each-filter}
use Rattle.docc_prepare.proofs.Feeding.{fed-is-pending, kinds-of-changes, kinds-fed}
use Rattle.docc_prepare.proofs.OfOneKind.{kind-left}
use Rattle.diamond_store.specs.Appending.{client_of}
use Rattle.diamond_store.specs.Feeders.{feed_between}
use Rattle.diamond_store.specs.Following.{Follows, IsSound}
use Rattle.diamond_store.specs.Passes.{Passed, passed, known_of, is_in, IsPass}
use Rattle.diamond_store.specs.Reading.{ReadsFrom, ReadsBack, Finds, IsValidation}
use Rattle.diamond_store.specs.declared.replica.Validation.{Validation}
use Rattle.diamond_store.proofs.Known as knowing
use Rattle.diamond_store.proofs.Known.{Grows, answered}

module _ (numbers : List ℕ) (m client : ℕ) (old new : tokens.Known Commit) (s taken : ℕ) (settings : Settings)
    (pass : IsPass numbers m client old s taken settings) (later : IsLater client_of old new) (lawful : IsLawful Follows m new.seen)
    (subscribed : List Address) (denied : ℕ) where
  -- the pass before the call
  abbrev before : Passed
  before = passed m client old s subscribed taken denied settings

  -- the pass after it, which has seen so much
  abbrev saw : ℕ → Passed
  saw n = passed m client new n subscribed taken denied settings

  -- what the pass now knows is sound
  abbrev sound : IsSound m new.seen
  sound = knowing.sound numbers m client old new s taken settings pass later lawful subscribed denied

  -- the client's commits are the same
  abbrev own_same : own client new.seen ≡ own client old.seen
  own_same = knowing.own_same numbers m client old new s taken settings pass later lawful subscribed denied

  -- it knows no less
  abbrev grows : (n : ℕ) → s ≤ n → n ≤ length new.seen → Grows before (saw n)
  grows n up within = knowing.grows numbers m client old new s taken settings pass later lawful subscribed denied n subscribed taken denied up within

  -- the state at an address is of its kind
  kind-of-state : (n : ℕ) (a : Address) → kind_of (state new.seen n a) ≡ a.kind
  kind-of-state n a = kind-left (take n new.seen) a (each-take (λ (c : Commit). AreOfTheirKinds c.deltas) n new.seen sound.orderly.kinds)

  -- a refresh answers the length of the prefix that the pass then knows, and has seen
  pub refreshed : (n : ℕ) → n ≡ length new.seen → s ≤ n → IsAnswered (known_of before) Call.refresh (Answer.number n) (known_of (saw n))
  refreshed n is up =
      answered before (saw n) (grows n up (omega arith)) Call.refresh (Answer.number n) refl (λ a. refl) refl refl later.count tt refl is own_same

  -- a read gives what the first commits leave, up to a base that isn't below what was seen
  pub was-read : (a : Address) (snap : Snap) → ReadsFrom s new.seen a snap
      → IsAnswered (known_of before) (Call.read a) (Answer.snap snap) (known_of (saw snap.base))
  was-read a snap reads =
      answered before (saw snap.base) (grows snap.base reads.base reads.within) (Call.read a) (Answer.snap snap) refl (λ b. refl) refl refl later.count refl
      (refl, ap kind_of reads.value ∙ kind-of-state snap.base a) reads.value own_same

  -- a read at a number gives what so many commits leave, or is late
  pub was-read-at : (a : Address) (n : ℕ) (r : Result Value ReadAtError) → n ≤ s → ReadsBack new.seen settings.window a n r
      → IsAnswered (known_of before) (Call.read_at a n) (value_answered r) (known_of (saw s))
  was-read-at a n (Ok value) seen reads =
      answered before (saw s) (grows s (omega arith) within) (Call.read_at a n) (Answer.value value) refl (λ b. refl) refl refl later.count tt
      (refl, ap kind_of reads ∙ kind-of-state n a) reads own_same
    where
      within : s ≤ length new.seen
      within = knowing.seen-within numbers m client old new s taken settings pass later lawful subscribed denied
  was-read-at a n (Err (read_at_error.Late asked horizon)) seen reads =
      answered before (saw s) (grows s (omega arith) within) (Call.read_at a n) (Answer.late asked horizon) refl (λ b. refl) refl refl later.count tt
      (refl, reads.0) (record { below = reads.1; behind = reads.2 }) own_same
    where
      within : s ≤ length new.seen
      within = knowing.seen-within numbers m client old new s taken settings pass later lawful subscribed denied
  was-read-at a n (Err read_at_error.Fault) seen reads = absurd reads
  was-read-at a n (Err read_at_error.NoMemory) seen reads =
      knowing.failed numbers m client old new s taken settings pass later lawful subscribed denied (Call.read_at a n)

  -- a preparing answers what the shard found at its front, which the pass has seen then
  pub was-prepared : (shard : ℕ) (based : List Based) (v : Validation) → IsValidation new.seen settings.window shard based v
      → IsAnswered (known_of before) (Call.prepare shard based) (front_answered v.answer) (known_of (saw (max s v.front)))
  was-prepared shard based v is = by v.answer is.finds
    where
      n : ℕ
      n = max s v.front

      up : s ≤ n
      up = omega arith

      within : n ≤ length new.seen
      within = let w = knowing.seen-within numbers m client old new s taken settings pass later lawful subscribed denied in let f = is.within in omega arith

      by : (r : Result Prepared PrepareError) → Finds new.seen settings.window shard based v.front r
          → IsAnswered (known_of before) (Call.prepare shard based) (front_answered r) (known_of (saw n))
      by (Ok prepared) f =
          answered before (saw n) (grows n up within) (Call.prepare shard based) (Answer.prepared prepared) refl (λ b. refl) refl refl later.count refl
          (ap (λ (p : Prepared). p.shard) f.0)
          (let front : prepared.front ≡ v.front = ap (λ (p : Prepared). p.front) f.0 in record {
            seen = ap (max s) (sym front);
            bases = subst (λ (k : ℕ). AllByRecursion (λ b. b.base ≤ k) based) (sym front) f.1;
            clear = ap (λ (k : ℕ). pairs based (take k new.seen)) front ∙ f.2;
          }) own_same
      by (Err (prepare_error.Late base horizon)) f =
          answered before (saw n) (grows n up within) (Call.prepare shard based) (Answer.late base horizon) refl (λ b. refl) refl refl later.count tt
          tt (f.0, record { below = f.1; behind = f.2 }) own_same
      by (Err (prepare_error.Clash witness)) f =
          answered before (saw n) (grows n up within) (Call.prepare shard based) (Answer.clash witness) refl (λ b. refl) refl refl later.count tt
          f.2 (record { least = f.0; seen = (let w = f.1 in omega arith) }) own_same
      by (Err prepare_error.Fault) f = absurd f
      by (Err prepare_error.NoMemory) f =
          let p = knowing.failing numbers m client old new s taken settings pass later lawful subscribed denied (Call.prepare shard based) in
          answered before (saw n) (grows n up within) (Call.prepare shard based) (Answer.failed false) refl p.0 p.1 p.2 p.3 p.4 p.5 p.6 p.7

  -- a take gives what is pending at the subscribed addresses since the last one, and the pass has then seen and taken all
  was-taken : (feed : Fed) (n : ℕ) → feed.to ≡ n → n ≡ length new.seen
      → feed.changes ≡ with_changes [] (filter (λ change. is_in subscribed change.address) (between taken (length new.seen) (changes new.seen)))
      → IsAnswered (known_of before) Call.take (Answer.feed feed) (known_of (passed m client new n subscribed n denied settings))
  was-taken feed n ends to is =
      answered before (passed m client new n subscribed n denied settings)
      (knowing.grows numbers m client old new s taken settings pass later lawful subscribed denied n subscribed n denied up (omega arith))
      Call.take (Answer.feed feed) refl (λ a. refl) (sym ends) refl later.count tt
      (ends, subst AreOfTheirKinds (sym is) kinds)
      (λ a. ap (λ ds. delta_at ds a) is
      ∙ fed-is-pending (λ b. is_in subscribed b) a (between taken (length new.seen) (changes new.seen))
      ∙ ap (λ (k : ℕ). cond (is_in subscribed a) (pending a (between taken k (changes new.seen))) None) (sym to)) own_same
    where
      up : s ≤ n
      up = let w = knowing.seen-within numbers m client old new s taken settings pass later lawful subscribed denied in omega arith

      kinds : AreOfTheirKinds (with_changes [] (filter (λ change. is_in subscribed change.address)
          (between taken (length new.seen) (changes new.seen))))
      kinds =
          let same : Change → Type 0 = λ change. kind_changed change.delta ≡ change.address.kind in
          kinds-fed (filter (λ change. is_in subscribed change.address) (between taken (length new.seen) (changes new.seen))) []
          (each-filter same (λ change. is_in subscribed change.address) (between taken (length new.seen) (changes new.seen))
          (each-filter same (λ change. nat_lt taken change.number) (up_to (length new.seen) (changes new.seen))
          (each-filter same (λ change. nat_le change.number (length new.seen)) (changes new.seen) (kinds-of-changes new.seen sound.orderly.kinds)))) tt

  -- so it does where it gives what changed there up to the end of what the pass then knows
  pub was-fed : (feed : Fed) (n : ℕ) → n ≡ feed.to → feed ≡ feed_between new.seen subscribed taken (length new.seen)
      → IsAnswered (known_of before) Call.take (Answer.feed feed) (known_of (passed m client new n subscribed n denied settings))
  was-fed feed n ends is = was-taken feed n (sym ends) (ends ∙ ap (λ (f : Fed). f.to) is) (ap (λ (f : Fed). f.changes) is)

-- a test that makes true, else another, is either
either-true : (b c : Bool) → cond b true c ≡ (b || c)
either-true true c = refl
either-true false c = refl

-- a test that makes false, else another, is that one and not the test
but-false : (b c : Bool) → cond b false c ≡ (not b && c)
but-false true c = refl
but-false false c = refl

module _ (numbers : List ℕ) (m client : ℕ) (token : tokens.Known Commit) (s taken : ℕ) (settings : Settings)
    (pass : IsPass numbers m client token s taken settings) (lawful : IsLawful Follows m token.seen) (subscribed : List Address) (denied : ℕ)
    (a : Address) (after : List Address) where
  -- the pass before the call
  abbrev was : Passed
  was = passed m client token s subscribed taken denied settings

  -- the pass after it, which is subscribed to other addresses
  abbrev is : Passed
  is = passed m client token s after taken denied settings

  -- a token is later than itself
  same-token : IsLater client_of token token
  same-token = record {
    seen = IsPrefix-self token.seen;
    count = omega arith;
    draws = omega arith;
    looks = omega arith;
    author = refl;
    own_entries = λ n of. refl;
  }

  -- the pass knows as much
  still : Grows was is
  still = knowing.grows numbers m client token token s taken settings pass same-token lawful subscribed denied s after taken denied (omega arith) pass.within

  -- an address more is told
  pub subscribed-to : ((b : Address) → is_in after b ≡ cond (is_at (address_cmp a) b) true (is_in subscribed b))
      → IsAnswered (known_of was) (Call.subscribe a) Answer.done (known_of is)
  subscribed-to told =
      answered was is still (Call.subscribe a) Answer.done refl (λ b. told b ∙ either-true (is_at (address_cmp a) b) (is_in subscribed b)) refl refl
      (omega arith) tt refl tt refl

  -- an address is told no longer
  pub unsubscribed-from : ((b : Address) → is_in after b ≡ cond (is_at (address_cmp a) b) false (is_in subscribed b))
      → IsAnswered (known_of was) (Call.unsubscribe a) Answer.done (known_of is)
  unsubscribed-from told =
      answered was is still (Call.unsubscribe a) Answer.done refl (λ b. told b ∙ but-false (is_at (address_cmp a) b) (is_in subscribed b)) refl refl
      (omega arith) tt refl tt refl

  -- nothing changed for want of memory
  pub not-subscribed : (c : Call) → after ≡ subscribed → IsAnswered (known_of was) c (Answer.failed false) (known_of is)
  not-subscribed c same =
      subst (λ (all : List Address). IsAnswered (known_of was) c (Answer.failed false) (known_of (passed m client token s all taken denied settings)))
      (sym same) (knowing.failed numbers m client token token s taken settings pass same-token lawful subscribed denied c)
