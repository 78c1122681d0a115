-- What a session keeps to, over each of its calls.
use Rattle.std.proofs.Common.{◌≡◌, ℕ, ◌+◌, ◌≤◌, ◌<◌, ◌^◌, Bool, true, cond, min, [], ◌∷◌, ◌++◌, drop, length, Option, Some, None, refl, sym, ap, ◌∙◌}
use Rattle.std.proofs.Common.{subst, arith}
use Rattle.std.specs.Prelude.{IfSome, ◌==◌}
use Rattle.std.specs.List.{AllByRecursion}
use Rattle.std.proofs.Math.Nat.{max-eq_right}
use Rattle.std.proofs.lemmas.List.{length-append, take-append-drop, length-map}
use Rattle.std.proofs.lemmas.List.Elements.{filter-append}
use Rattle.std.proofs.lemmas.Bool.Decides.{nat_tests}
use Rattle.dio_core.specs.Told.{WhereTold}
use Rattle.dio_core.proofs.Told.{IfSome-WhereTold}
use Rattle.rdt_types.specs.declared.address.Address.{Address}
use Rattle.rdt_types.specs.declared.limits.TheConstants.{LEAST_SHARDS, MOST_SHARDS}
use Rattle.rdt_types.specs.Shards.{shard_of}
use Rattle.txn_lang.specs.declared.checked.Checked.{Checked}
use Rattle.txn_lang.specs.declared.commit.Commit.{Commit}
use Rattle.txn_lang.specs.declared.run.Run.{Run}
use Rattle.txn_lang.specs.declared.snaps.Snap.{Snap}
use Rattle.txn_lang.specs.States.{Journal}
use Rattle.txn_lang.specs.Execution.{Ran, need, done}
use Rattle.txn_lang.specs.Journals.{own}
use Rattle.txn_lang.proofs.Few.{observations_are_few}
use Rattle.txn_eval.specs.Running.{values_of}
use Rattle.journal_core.specs.declared.ready.Ready.{Ready}
use Rattle.version_shard.specs.declared.prepared.Prepared.{Prepared}
use Rattle.docc_prepare.specs.declared.attempt.Attempt.{Attempt}
use Rattle.docc_prepare.specs.declared.attempt.Next.TheVariants as next
use Rattle.docc_prepare.specs.Attempts.{ran, based, in_shard, next_event, with_snap, with_front, ready_of, AreAsked, SnapFits, FrontFits, FrontsFit, Fits}
use Rattle.docc_prepare.specs.Calls.{Known, Call, Answer}
use Rattle.docc_prepare.specs.Backends.{IsPrefix, IsGiven, CanValidate, CanPrepare, CanAppend, FitsNext, IsAnswered, SaysOfJournal, KeepsGiven, OwnRow}
use Rattle.docc_prepare.proofs.Each.{each-more, each-push}
use Rattle.docc_prepare.proofs.Growing.{fits_stays}
use Rattle.session_core.specs.declared.session.Session.{Session}
use Rattle.session_core.specs.Events.{with_attempt, closed, with_watching, within_shards, opened, afresh}
use Rattle.client_watches.specs.Watching.{none_yet}
use Rattle.client_watches.specs.declared.watching.Watching.{Watching}
use Rattle.session_core.specs.Holding.{IsRead, FrontsGiven, Holds, IsReady, Counts, WatchesAttend, Attends}
use Rattle.session_core.proofs.Same.{attempt_same}
use Rattle.session_core.proofs.Minding.{watches-on, none-attend, none-on}
use Rattle.docc_prepare.proofs.Nexts.{needs, appends, prepares}
use Rattle.docc_prepare.proofs.EachRead.{each-inserted}
use Rattle.session_core.proofs.Attempts.{least-below, may-validate, validate-here, few-here}

-- ---- journals

-- what has grown is what was there, and more
grown : (old new : Journal) → IsPrefix old new → old ++ drop (length old) new ≡ new
grown old new e = ap (λ first. first ++ drop (length old) new) (sym e) ∙ take-append-drop (length old) new

-- what fits stays so
pub fits-on : (old new : Journal) (a : Attempt) → IsPrefix old new → Fits old a → Fits new a
fits-on old new a e fits = subst (λ journal. Fits journal a) (grown old new e) (fits_stays old (drop (length old) new) a fits)

-- ---- conditions

-- an attempt has shards
pub some-shards : (a : Attempt) → 0 < a.shards
some-shards a = let h = a.shards_in_range.0 in omega arith

-- a run that is done charged a tick for each observation, so their places are few
based-few : (a : Attempt) (run : Run) → ran a ≡ done run → length (based a.snaps run.observations) < 2 ^ 32
based-few a run is =
    let few = observations_are_few a.body.body (values_of a.snaps) run is in
    let all : length (based a.snaps run.observations) ≡ length run.observations = length-map run.observations _ in omega arith

-- the shard that is prepared next is one of the store's, and what was observed in it was read at bases that were given
pub can-prepare : (k : Known) (a : Attempt) (shard : ℕ) (run : Run) → Holds k a → 0 < a.shards → next_event a ≡ next.Prepare shard run
    → CanPrepare k shard (in_shard a.shards shard (based a.snaps run.observations))
can-prepare k a shard run h some e = let p = prepares a shard run e in record {
  below = subst (λ (n : ℕ). shard < n) h.shards (least-below a.shards a.fronts run.observations shard some p.least);
  each = validate-here k a.shards shard (based a.snaps run.observations) (may-validate k a run h.shards h.reads p.ran);
  few = (let here = few-here a.shards shard (based a.snaps run.observations) in let all = based-few a run p.ran in
      let few : length (in_shard a.shards shard (based a.snaps run.observations)) < 2 ^ 32 = omega arith in few);
}

-- what is handed on is the attempt's, whose bases and fronts were given, and its seq is the client's next
pub can-append : (k : Known) (s : Session) (a : Attempt) (run : Run) → Attends k s → Holds k a → next_event a ≡ next.Append run
    → CanAppend k (ready_of a run s.client s.seq)
can-append k s a run is h e = record {
  attempt = a;
  next = e;
  made = ap (λ (n : ℕ). ready_of a run n s.seq) is.client;
  text = h.text;
  body_text = h.body_text;
  all_shards = h.shards;
  given = each-more (IsRead k) (λ (read : Address × Snap). IsGiven k read.0 read.1.base) a.snaps (λ read r. r.given) h.reads;
  fronted = subst (λ (n : ℕ). AllByRecursion (λ prepared. k.fronted prepared.shard
      (in_shard n prepared.shard (based a.snaps run.observations)) prepared.front ≡ true) a.fronts) h.shards
      (subst (FrontsGiven k a) (appends a run e) h.fronts);
  each = subst (λ (n : ℕ). AllByRecursion (λ b. CanValidate k (shard_of b.address n) b) (based a.snaps run.observations)) h.shards
      (may-validate k a run h.shards h.reads (appends a run e));
  few = based-few a run (appends a run e);
  told = both k.journal is.counts h.told;
}
  where
    both : (o : Option Journal) → IfSome o (Counts k s.seq) → IfSome o (λ journal. Fits journal a) → IfSome o (FitsNext k a (ready_of a run s.client s.seq))
    both None c f = tt
    both (Some journal) c f = record { fits = f; seq = c.seq_is }

-- ---- what a call keeps

-- the client's own commits are as before
abbrev pub SameOwn : Known → Call → Answer → Type 0
SameOwn k c answer = (old new : Journal) → OwnRow k.client old new c answer → own k.client new ≡ own k.client old

-- the seq is one more than the client's own commits, and these are as before
pub counts-on : (k l : Known) (seq : ℕ) (c : Call) (answer : Answer) → IsAnswered k c answer l → SameOwn k c answer → IfSome k.journal (Counts k seq)
    → IfSome l.journal (Counts l seq)
counts-on k l seq c answer event same h = IfSome-WhereTold (SaysOfJournal k l c answer) (Counts k seq) (Counts l seq) k.journal l.journal
    (λ old new counts says. record {
      seq_is = counts.seq_is ∙ ap (λ (xs : Journal). length xs + 1) (sym (same old new says.same_own) ∙ ap (λ (n : ℕ). own n new) (sym event.client.client));
      within = says.within;
    }) h event.told

-- bases that were given stay given, and stay among what was seen, which never falls
pub reads-on : (k l : Known) (a : Attempt) → k.seen ≤ l.seen → KeepsGiven k l → AllByRecursion (IsRead k) a.snaps → AllByRecursion (IsRead l) a.snaps
reads-on k l a up keeps all = each-more (IsRead k) (IsRead l) a.snaps
    (λ read r. record { given = (let b = r.given.0 in omega arith, keeps.bases read.0 read.1.base r.given.1); kind = r.kind }) all

-- fronts that were given stay given, and while the run needs a value there are none
pub fronts-on : (k l : Known) (a : Attempt) (r : Ran) → KeepsGiven k l → FrontsGiven k a r → FrontsGiven l a r
fronts-on k l a (need address) keeps h = h
fronts-on k l a (done run) keeps h = each-more
    (λ prepared. k.fronted prepared.shard (in_shard a.shards prepared.shard (based a.snaps run.observations)) prepared.front ≡ true)
    (λ prepared. l.fronted prepared.shard (in_shard a.shards prepared.shard (based a.snaps run.observations)) prepared.front ≡ true) a.fronts
    (λ prepared g. keeps.fronts prepared.shard (in_shard a.shards prepared.shard (based a.snaps run.observations)) prepared.front g) h

-- a journal that is told has only grown, so what fitted it still fits
told-on : (k l : Known) (a : Attempt) (c : Call) (answer : Answer) → WhereTold (SaysOfJournal k l c answer) k.journal l.journal
    → IfSome k.journal (λ journal. Fits journal a)
    → IfSome l.journal (λ journal. Fits journal a)
told-on k l a c answer told h = IfSome-WhereTold (SaysOfJournal k l c answer) (λ journal. Fits journal a) (λ journal. Fits journal a) k.journal l.journal
    (λ old new fits says. fits-on old new a says.grows fits) h told

-- an attempt holds after a call that keeps what was given
pub holds-on : (k l : Known) (a : Attempt) (c : Call) (answer : Answer) → IsAnswered k c answer l → KeepsGiven k l → Holds k a → Holds l a
holds-on k l a c answer event keeps h = record {
  shards = h.shards ∙ sym event.client.shards;
  text = h.text;
  body_text = h.body_text;
  reads = reads-on k l a event.goes_on.seen keeps h.reads;
  fronts = fronts-on k l a (ran a) keeps h.fronts;
  told = told-on k l a c answer event.told h.told;
}

-- so does the one that may be open
maybe-holds : (k l : Known) (o : Option Attempt) (c : Call) (answer : Answer) → IsAnswered k c answer l → KeepsGiven k l → IfSome o (Holds k)
    → IfSome o (Holds l)
maybe-holds k l None c answer event keeps h = tt
maybe-holds k l (Some a) c answer event keeps h = holds-on k l a c answer event keeps h

-- a session goes on after a call that adds none of its commits, where its watches do
pub attends-on : (k l : Known) (s : Session) (c : Call) (answer : Answer) → IsAnswered k c answer l → SameOwn k c answer → KeepsGiven k l
    → WatchesAttend l s.watching → Attends k s → Attends l s
attends-on k l s c answer event same keeps watches h = record {
  on = h.on;
  shards = subst (λ (n : ℕ). (LEAST_SHARDS ≤ n) × (n ≤ MOST_SHARDS)) (sym event.client.shards) h.shards;
  client = h.client ∙ sym event.client.client;
  begun = let b = h.begun in let up = event.goes_on.seen in omega arith;
  counts = counts-on k l s.seq c answer event same h.counts;
  attempt = maybe-holds k l s.attempt c answer event keeps h.attempt;
  watches = watches;
}

-- so does one without an attempt, also where the call keeps nothing that was given
pub closed-on : (k l : Known) (s : Session) (c : Call) (answer : Answer) → IsAnswered k c answer l → SameOwn k c answer
    → ((a : Address) → l.subscribed a ≡ k.subscribed a) → l.taken ≡ k.taken → Attends k s → Attends l (closed s)
closed-on k l s c answer event same subscribed taken h = record {
  on = h.on;
  shards = subst (λ (n : ℕ). (LEAST_SHARDS ≤ n) × (n ≤ MOST_SHARDS)) (sym event.client.shards) h.shards;
  client = h.client ∙ sym event.client.client;
  begun = let b = h.begun in let up = event.goes_on.seen in omega arith;
  counts = counts-on k l s.seq c answer event same h.counts;
  attempt = tt;
  watches = watches-on k l s.watching c answer event subscribed taken h.watches;
}

-- and with an attempt that holds
pub opened-on : (l : Known) (s : Session) (a : Attempt) → Attends l s → Holds l a → Attends l (with_attempt s (Some a))
opened-on l s a is h =
    record { on = is.on; shards = is.shards; client = is.client; begun = is.begun; counts = is.counts; attempt = h; watches = is.watches }

-- ---- without watches

-- the session, of which the watches are left out
abbrev pub unwatched : Session → Session
unwatched s = with_watching s (none_yet s.at)

-- what was seen is there
pub seen-within : (k : Known) (s : Session) → Attends k s → IfSome k.journal (λ journal. k.seen ≤ length journal)
seen-within k s is = by k.journal is.counts
  where
    by : (o : Option Journal) → IfSome o (Counts k s.seq) → IfSome o (λ journal. k.seen ≤ length journal)
    by None c = tt
    by (Some journal) c = c.within

-- it goes on without its watches
pub unwatched-attends : (k : Known) (s : Session) → Attends k s → Attends k (unwatched s)
unwatched-attends k s is = record {
  on = is.on;
  shards = is.shards;
  client = is.client;
  begun = is.begun;
  counts = is.counts;
  attempt = is.attempt;
  watches = none-attend k s.watching s.at is.begun (seen-within k s is) is.watches;
}

-- and with any that attend
pub watched-attends : (l : Known) (s : Session) (w : Watching) → Attends l (unwatched s) → WatchesAttend l w → Attends l (with_watching s w)
watched-attends l s w is watches =
    record { on = is.on; shards = is.shards; client = is.client; begun = is.begun; counts = is.counts; attempt = is.attempt; watches = watches }

-- without them it goes on after any call that adds none of its commits
pub unwatched-on : (k l : Known) (s : Session) (c : Call) (answer : Answer) → IsAnswered k c answer l → SameOwn k c answer → KeepsGiven k l
    → Attends k (unwatched s) → Attends l (unwatched s)
unwatched-on k l s c answer event same keeps is =
    attends-on k l (unwatched s) c answer event same keeps (none-on k l s.at c answer event is.begun is.watches) is

-- a commit adds one
own-more : (client : ℕ) (before : Journal) (c : Commit) → c.client ≡ client → length (own client (before ++ c ∷ [])) ≡ length (own client before) + 1
own-more client before c e =
    let is : (c.client == client) ≡ true = grind (arith, nat_tests) in
    ap length (filter-append (λ (x : Commit). x.client == client) before (c ∷ [])) ∙ (length-append (own client before) (own client (c ∷ []))
    ∙ ap (λ (b : Bool). length (own client before) + length (cond b (c ∷ []) [])) is)

-- after a commit the client's own commits are one more, and so is the seq, and no attempt is open
pub committed-on : (k l : Known) (s : Session) (ready : Ready) (n : ℕ) → ready.client ≡ s.client
    → IsAnswered k (Call.append ready) (Answer.number n) l → Attends k s
    → Attends l (record s { seq = s.seq + 1; attempt = None })
committed-on k l s ready n mine event h = record {
  on = h.on;
  shards = subst (λ (n : ℕ). (LEAST_SHARDS ≤ n) × (n ≤ MOST_SHARDS)) (sym event.client.shards) h.shards;
  client = h.client ∙ sym event.client.client;
  begun = let b = h.begun in let up = event.goes_on.seen in omega arith;
  counts = IfSome-WhereTold (SaysOfJournal k l (Call.append ready) (Answer.number n)) (Counts k s.seq) (Counts l (s.seq + 1)) k.journal l.journal
      (λ old new counts says. record {
        seq_is = ap (λ (m : ℕ). m + 1) (counts.seq_is ∙ ap (λ (xs : Journal). length xs + 1) (sym says.row.1.same_own)
            ∙ (sym (own-more k.client says.row.1.before _ (mine ∙ h.client)) ∙ ap (λ (xs : Journal). length (own k.client xs)) (sym says.row.1.added)
            ∙ ap (λ (m : ℕ). length (own m new)) (sym event.client.client)));
        within = says.within;
      }) h.counts event.told;
  attempt = tt;
  watches = watches-on k l s.watching (Call.append ready) (Answer.number n) event event.goes_on.subscribed event.goes_on.taken h.watches;
}

-- ---- what an event makes of an attempt

-- an attempt of which nothing is read holds
unread-fronts : (l : Known) (a : Attempt) (r : Ran) → a.fronts ≡ [] → FrontsGiven l a r
unread-fronts l a (need address) e = e
unread-fronts l a (done run) e = subst (AllByRecursion (λ prepared. l.fronted prepared.shard
    (in_shard a.shards prepared.shard (based a.snaps run.observations)) prepared.front ≡ true)) (sym e) tt

-- an attempt without fronts has none that could fail to fit
no-fronts : (journal : Journal) (a : Attempt) (r : Ran) → a.fronts ≡ [] → FrontsFit journal a.shards a.snaps a.fronts r
no-fronts journal a (need address) e = e
no-fronts journal a (done run) e =
    subst (AllByRecursion (λ prepared. FrontFits journal (in_shard a.shards prepared.shard (based a.snaps run.observations)) prepared)) (sym e) tt

-- an attempt that has read and prepared nothing fits any journal
pub unread-fits : (journal : Journal) (a : Attempt) → a.snaps ≡ [] → a.fronts ≡ [] → Fits journal a
unread-fits journal a unread unprepared = record {
  asked = subst (AreAsked a.body.body) (sym unread) AreAsked.none_yet;
  snaps = subst (AllByRecursion (SnapFits journal)) (sym unread) tt;
  fronts = no-fronts journal a (ran a) unprepared;
}

-- so it fits the one that may be told
maybe-unread : (o : Option Journal) (a : Attempt) → a.snaps ≡ [] → a.fronts ≡ [] → IfSome o (λ journal. Fits journal a)
maybe-unread None a unread unprepared = tt
maybe-unread (Some journal) a unread unprepared = unread-fits journal a unread unprepared

module _ (k l : Known) (a : Attempt) (h : Holds k a) where
  -- the value that was read is the journal's at its base, and while the run needs a value there are no fronts
  read-fits : (old new : Journal) (address : Address) (s : Snap) → next_event a ≡ next.Read address → s.base ≡ l.seen
      → SaysOfJournal k l (Call.read address) (Answer.snap s) old new
      → Fits old a → Fits new (with_snap a address s)
  read-fits old new address s e base says fits = record {
    asked = AreAsked.one_more address s fits.asked (needs a address e);
    snaps = each-inserted (SnapFits new) a.snaps address s (record { within = let w = says.within in omega arith; value = says.row })
        (fits-on old new a says.grows fits).snaps;
    fronts = no-fronts new (with_snap a address s) (ran (with_snap a address s))
        (subst (FrontsFit old a.shards a.snaps a.fronts) (needs a address e) fits.fronts);
  }

  -- the attempt holds after a read: its base was given, the value is of the address' kind, and there are no fronts yet
  pub read-holds : (address : Address) (s : Snap) → next_event a ≡ next.Read address → IsAnswered k (Call.read address) (Answer.snap s) l
      → Holds l (with_snap a address s)
  read-holds address s e event = record {
    shards = h.shards ∙ sym event.client.shards;
    text = h.text;
    body_text = h.body_text;
    reads = each-inserted (IsRead l) a.snaps address s (record { given = (let b = event.shows.0 in omega arith, event.gives); kind = event.shows.1 })
        (reads-on k l a event.goes_on.seen event.keeps h.reads);
    fronts = unread-fronts l (with_snap a address s) (ran (with_snap a address s)) (subst (FrontsGiven k a) (needs a address e) h.fronts);
    told = IfSome-WhereTold (SaysOfJournal k l (Call.read address) (Answer.snap s)) (λ journal. Fits journal a)
        (λ journal. Fits journal (with_snap a address s)) k.journal l.journal
        (λ old new fits says. read-fits old new address s e event.shows.0 says fits) h.told event.told;
  }

  -- with one front more, given for what the run observed in its shard, all are given
  front-given : (shard front : ℕ) (run : Run) (r : Ran) → r ≡ done run → FrontsGiven l a r
      → l.fronted shard (in_shard a.shards shard (based a.snaps run.observations)) front ≡ true → FrontsGiven l (with_front a shard front) r
  front-given shard front run r is all one = subst (FrontsGiven l (with_front a shard front)) (sym is)
      (each-push (λ prepared. l.fronted prepared.shard (in_shard a.shards prepared.shard (based a.snaps run.observations)) prepared.front
      ≡ true) a.fronts (record { shard = shard; front = front })
      (subst (FrontsGiven l a) is all) one)

  -- with one front more that fits the journal, all fit it
  front-fits : (journal : Journal) (shard front : ℕ) (run : Run) (r : Ran) → r ≡ done run → FrontsFit journal a.shards a.snaps a.fronts r
      → FrontFits journal (in_shard a.shards shard (based a.snaps run.observations)) (record { shard = shard; front = front })
      → FrontsFit journal a.shards a.snaps (a.fronts ++ record { shard = shard; front = front } ∷ []) r
  front-fits journal shard front run r is all one = subst (FrontsFit journal a.shards a.snaps
      (a.fronts ++ record { shard = shard; front = front } ∷ [])) (sym is)
      (each-push (λ prepared. FrontFits journal (in_shard a.shards prepared.shard (based a.snaps run.observations)) prepared) a.fronts
      (record { shard = shard; front = front })
      (subst (FrontsFit journal a.shards a.snaps a.fronts) is all) one)

  -- the attempt holds after a preparing: the backend gave the front, and no commit up to it clashes
  pub prepare-holds : (shard : ℕ) (run : Run) (p : Prepared) → next_event a ≡ next.Prepare shard run
      → IsAnswered k (Call.prepare shard (in_shard a.shards shard (based a.snaps run.observations))) (Answer.prepared p) l
      → Holds l (with_front a shard p.front)
  prepare-holds shard run p e event = let is = (prepares a shard run e).ran in record {
    shards = h.shards ∙ sym event.client.shards;
    text = h.text;
    body_text = h.body_text;
    reads = reads-on k l a event.goes_on.seen event.keeps h.reads;
    fronts = front-given shard p.front run (ran a) is (fronts-on k l a (ran a) event.keeps h.fronts) event.gives;
    told = IfSome-WhereTold (SaysOfJournal k l (Call.prepare shard (in_shard a.shards shard (based a.snaps run.observations))) (Answer.prepared p))
        (λ journal. Fits journal a)
        (λ journal. Fits journal (with_front a shard p.front)) k.journal l.journal
        (λ old new fits says. let on = fits-on old new a says.grows fits in record {
          asked = on.asked;
          snaps = on.snaps;
          fronts = front-fits new shard p.front run (ran a) is on.fronts
              (record { within = let m = says.row.seen in let w = says.within in omega arith; bases = says.row.bases; clear = says.row.clear });
        }) h.told event.told;
  }

-- an attempt that begins anew holds, whatever the call keeps
pub anew-holds : (k l : Known) (a : Attempt) (c : Call) (answer : Answer) → IsAnswered k c answer l → Holds k a → Holds l (afresh a)
anew-holds k l a c answer event h = record {
  shards = h.shards ∙ sym event.client.shards;
  text = h.text;
  body_text = h.body_text;
  reads = tt;
  fronts = unread-fronts l (afresh a) (ran (afresh a)) refl;
  told = maybe-unread l.journal (afresh a) refl refl;
}

-- so many shards as a store may have are so many
within-is : (n : ℕ) → LEAST_SHARDS ≤ n → n ≤ MOST_SHARDS → within_shards n ≡ n
within-is n least most = max-eq_right (le-min' n least most) ∙ min-eq n most
  where
    min-eq : (n : ℕ) → n ≤ MOST_SHARDS → min n MOST_SHARDS ≡ n
    min-eq n h = omega arith

    le-min' : (n : ℕ) → LEAST_SHARDS ≤ n → n ≤ MOST_SHARDS → LEAST_SHARDS ≤ min n MOST_SHARDS
    le-min' n l h = omega arith

-- an attempt that has read and prepared nothing has the parts of the one that is opened for its body and shards
pub opened-is : (a : Attempt) (n : ℕ) (body : Checked) → (LEAST_SHARDS ≤ n) × (n ≤ MOST_SHARDS) → a.body ≡ body → a.shards ≡ n → a.snaps ≡ []
    → a.fronts ≡ [] → a ≡ opened n body
opened-is a n body h b s u f = attempt_same a (opened n body) b (s ∙ sym (within-is n h.0 h.1)) u f

-- an opened attempt has read and prepared nothing, its body is ready, and its shards are the store's
pub opened-holds : (k : Known) (s : Session) (body : Checked) → Attends k s → IsReady body → Holds k (opened k.shards body)
opened-holds k s body is ready = record {
  shards = within-is k.shards is.shards.0 is.shards.1;
  text = ready.text;
  body_text = ready.body_text;
  reads = tt;
  fronts = unread-fronts k (opened k.shards body) (ran (opened k.shards body)) refl;
  told = maybe-unread k.journal (opened k.shards body) refl refl;
}
