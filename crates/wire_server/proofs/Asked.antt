-- Requests over a link, one after another, and how they end.
use Rattle.std.proofs.Common.{◌≡◌, ℕ, ◌+◌, ◌≤◌, ◌<◌, ◌⊎◌, Bool, true, false, List, [], ◌∷◌, ◌++◌, map, length, Option, Some, None, Result, Ok, Err, inl, inr}
use Rattle.std.proofs.Common.{refl, sym, ap, ◌∙◌, subst, arith, length-append}
use Rattle.std.specs.Prelude.{IfSome}
use Rattle.plain_data.specs.declared.or_no_memory.OrNoMemory.TheVariants as stop
use Rattle.dio_core.specs.Counts.{Rose}
use Rattle.dio_core.specs.Links.{Both, Incoming, Outgoing}
use Rattle.dio_core.specs.Sinks.{with_more, IsPassedOn}
use Rattle.dio_core.specs.Sources.{with_prefix}
use Rattle.dio_core.specs.Told.{WhereTold}
use Rattle.dio_core.proofs.Sinks.{with_more-nil}
use Rattle.dio_core.proofs.Sources.{WhereTold-prefix, WhereTold-none}
use Rattle.dio_core.proofs.Told.{WhereTold-refl, WhereTold-then, WhereTold-map}
use Rattle.txn_grammar.specs.Characters.{Text}
use Rattle.docc_prepare.specs.Calls.{Known, Call, Answer}
use Rattle.remote_wire.specs.declared.limits.TheConstants.{LONGEST_REQUEST}
use Rattle.remote_service.specs.declared.service.Service.{Service}
use Rattle.remote_service.specs.Serving.{HasStalled, HasFailed, IsRefused}
use Rattle.wire_frames.specs.Frames.{frame, frames, IsText, IsAtEnd, IsNoLength, IsBegun, BreaksOff, IsBroken}
use Rattle.wire_server.specs.declared.status.Cause.TheVariants as cause
use Rattle.wire_server.specs.declared.status.TheConstants.{MOST_REQUESTS}
use Rattle.wire_server.specs.Talking.{Exchange, Talks, first_service, request_of, reply_of, OwnsAppended}
use Rattle.wire_server.specs.Promises.{HasRead, Reading, ReadsToTheEnd, ReadsUpToAFault, ReadsOneMore, ReadsMalformed, ReadsNoFrame, ReadsARefusal}
use Rattle.wire_server.specs.Promises.{ReadsPast, IsHeard, IsServed, OwnsOneMore}
use Rattle.wire_server.specs.code.Serving.{Stop, ReadsRequest, TakesRequest, DoesOne, TellsNone, GivesNone, ReadsNone, Turns, HasServed, SameCounts, Ends}
use Rattle.wire_server.proofs.Framed.{read-none, read-more, read-behind, taken-more, taken-part}
use Rattle.wire_server.proofs.Talked.{HasTalked, talk-comes, accounted, none-more, one-more-made, fault-made}

-- the service of a client that has no commit
pub first-is : (s : Service) → s.snaps ≡ [] → s.fronts ≡ [] → s.seq ≡ 1 → s ≡ first_service
first-is s snaps fronts seq = rw (← snaps, ← fronts, ← seq) refl

-- one more makes as many more
length-more : (es : List Exchange) (e : Exchange) → length (es ++ e ∷ []) ≡ length es + 1
length-more es e = length-append es (e ∷ [])

-- ---- what was read

-- of an input that may not be told
told-more : (es : List Exchange) (e : Exchange) (x y z : Both) → WhereTold (HasRead es) x.inwards.left y.inwards.left
    → TakesRequest (request_of e) y z → WhereTold (HasRead (es ++ e ∷ [])) x.inwards.left z.inwards.left
told-more es e x y z past takes = WhereTold-then x.inwards.left y.inwards.left z.inwards.left
    (λ all mid rest read front. read-more es e all mid rest read takes.sized front) past
    (WhereTold-prefix (frame (request_of e)) y.inwards.left z.inwards.left takes.read)

-- what is behind other bytes
told-behind : (es : List Exchange) (bytes : Text) (left mid rest : Option Text) → WhereTold (HasRead es) left mid → mid ≡ with_prefix bytes rest
    → WhereTold (λ all behind. HasRead es all (bytes ++ behind)) left rest
told-behind es bytes left mid rest past front = WhereTold-then left mid rest
    (λ all m r read is. read-behind es all m bytes r read is) past (WhereTold-prefix bytes mid rest front)

module _ {B : Type 0} (known : B → Known) (goes : B → Call → Answer → B → Type 0) where
  -- ---- so far

  -- before the first request nothing was read
  pub serves-none : {old : B} {x : Both} {s : Service} → s ≡ first_service → HasServed known goes 0 old x s old x
  serves-none {old = old} {x = x} {s = s} is = record {
    exchanges = [];
    talks = subst (λ (t : Service). Talks known goes first_service old [] t old) (sym is) Talks.silent;
    many = refl;
    read = WhereTold-refl (HasRead []) x.inwards.left read-none;
    reads = refl;
    taken = sym (with_more-nil x.outwards.taken);
    flushed = λ passed. passed;
    writes = refl;
  }

  -- one more was answered
  pub serves-more : {n : ℕ} {old now new : B} {x y z : Both} {s t : Service} → HasServed known goes n old x s now y
      → DoesOne known goes s now y t new z → HasServed known goes (n + 1) old x t new z
  serves-more {n = n} {old = old} {now = now} {new = new} {x = x} {y = y} {z = z} past turn =
      let size = length-more past.exchanges turn.told in
      let many = past.many in record {
        exchanges = past.exchanges ++ turn.told ∷ [];
        talks = Talks.says turn.told past.talks turn.does refl;
        many = omega arith;
        read = told-more past.exchanges turn.told x y z past.read turn.takes;
        reads = turn.takes.reads ∙ past.reads;
        taken = taken-more past.exchanges turn.told x.outwards.taken y.outwards.taken z.outwards.taken past.taken turn.taken;
        flushed = λ passed. turn.passed;
        writes = turn.writes ∙ past.writes;
      }

  -- the link after a turn that took nothing
  same-outwards : (x y z : Both) → y.outwards ≡ x.outwards → z.outwards ≡ y.outwards → z.outwards ≡ x.outwards
  same-outwards x y z first second = second ∙ first

  module _ {n : ℕ} {old now : B} {x y : Both} {s : Service} (past : HasServed known goes n old x s now y) where
    -- what the answers so far came to
    talked : HasTalked (known old) (known now) past.exchanges
    talked = talk-comes known goes first_service old s now past.exchanges past.talks

    -- they were heard
    heard : (z : Both) → n ≤ MOST_REQUESTS → z.outwards ≡ y.outwards → IsHeard past.exchanges x z
    heard z few same = record {
      few = (let many = past.many in omega arith);
      taken = ap (λ (o : Outgoing). o.taken) same ∙ past.taken;
      flushed = λ passed. subst (λ (o : Outgoing). IsPassedOn o.taken o.passed) (sym same) (past.flushed passed);
    }

    -- the counts, where a turn left them
    counts : (z : Both) → z.inwards.faults ≡ y.inwards.faults → z.outwards ≡ y.outwards → SameCounts x z
    counts z reads same = (reads ∙ past.reads, ap (λ (o : Outgoing). o.faults) same ∙ past.writes)

    -- ---- an end at which nothing more was answered

    served : (t : Service) (new : B) (z : Both) (Reads : Reading) → n ≤ MOST_REQUESTS → ReadsNone s now y t new z
        → WhereTold (Reads s (known now) past.exchanges) x.inwards.left z.inwards.left
        → IsServed known goes (known new) old new x z Reads
    served t new z Reads few none read =
        subst (λ (d : B). IsServed known goes (known d) old d x z Reads) (sym none.backend) (record {
          exchanges = past.exchanges;
          service = s;
          talks = past.talks;
          accounted = accounted (known old) (known now) past.exchanges talked;
          reads = read;
          heard = heard z few none.outwards;
        })

    -- the input has ended
    pub ends-whole : (t : Service) (new : B) (z : Both) → n ≤ MOST_REQUESTS → ReadsNone s now y t new z
        → ReadsRequest (Ok None) y.inwards z.inwards → Ends known goes (Ok tt) old x new z
    ends-whole t new z few none read = (
      served t new z ReadsToTheEnd few none (WhereTold-then x.inwards.left y.inwards.left z.inwards.left
          (λ all mid rest past end. record { read = subst (HasRead _ all) (end.0 ∙ sym end.1) past; end = end.1 }) past.read
          (WhereTold-none y.inwards.left z.inwards.left read.0 read.1)),
      counts z read.2 none.outwards,
    )

    -- a read failed
    pub ends-broken : (t : Service) (new : B) (z : Both) → n ≤ MOST_REQUESTS → ReadsNone s now y t new z
        → ReadsRequest (Err (stop.Cause cause.ReadFault)) y.inwards z.inwards → Ends known goes (Err (stop.Cause cause.ReadFault)) old x new z
    ends-broken t new z few none read = (
      served t new z ReadsUpToAFault few none (WhereTold-then x.inwards.left y.inwards.left z.inwards.left
          (λ all mid rest past front. record {
            behind = mid;
            read = past;
            breaks = record { begun = read.0.begun; within = read.0.within; taken = ap Some front };
          }) past.read (WhereTold-prefix read.0.begun y.inwards.left z.inwards.left read.0.taken)),
      subst (λ (m : ℕ). Rose m z.inwards.faults) past.reads read.1,
      ap (λ (o : Outgoing). o.faults) none.outwards ∙ past.writes,
    )

    -- what came is no frame
    pub ends-no_frame : (t : Service) (new : B) (z : Both) → n ≤ MOST_REQUESTS → ReadsNone s now y t new z
        → ReadsRequest (Err (stop.Cause cause.Malformed)) y.inwards z.inwards → Ends known goes (Err (stop.Cause cause.Malformed)) old x new z
    ends-no_frame t new z few none read = (
      served t new z ReadsARefusal few none (no-frame read.0),
      counts z read.1 none.outwards,
    )
      where
        broken-here : (mid rest : Text) (b : IsBroken LONGEST_REQUEST y.inwards.left z.inwards.left) → z.inwards.left ≡ Some rest → mid ≡ b.bytes ++ rest
            → IsBroken LONGEST_REQUEST (Some mid) (Some rest)
        broken-here mid rest b left front = record {
          bytes = b.bytes;
          some = b.some;
          broken = subst (λ o. IsNoLength LONGEST_REQUEST b.bytes
              ⊎ (IsBegun LONGEST_REQUEST b.bytes × IsAtEnd o)) left b.broken;
          taken = ap Some front;
        }

        by : (left mid rest : Option Text) → mid ≡ y.inwards.left → rest ≡ z.inwards.left → WhereTold (HasRead past.exchanges) left mid
            → (b : IsBroken LONGEST_REQUEST y.inwards.left z.inwards.left) → WhereTold (λ all behind. all ≡ b.bytes ++ behind) mid rest
            → WhereTold (ReadsARefusal s (known now) past.exchanges) left rest
        by None None None my mz read b front = tt
        by None None (Some r) my mz read b front = front
        by None (Some m) rest my mz read b front = absurd read
        by (Some a) None rest my mz read b front = absurd read
        by (Some a) (Some m) None my mz read b front = front
        by (Some a) (Some m) (Some r) my mz read b front =
            inr (record { behind = m; read = read; broken = broken-here m r b (sym mz) front })

        no-frame : IsBroken LONGEST_REQUEST y.inwards.left z.inwards.left
            → WhereTold (ReadsARefusal s (known now) past.exchanges) x.inwards.left z.inwards.left
        no-frame b = by x.inwards.left y.inwards.left z.inwards.left refl refl past.read b
            (WhereTold-prefix b.bytes y.inwards.left z.inwards.left b.taken)

    -- the request was malformed
    pub ends-malformed : (t : Service) (new : B) (z : Both) → n ≤ MOST_REQUESTS → GivesNone (λ bytes. IsRefused known s now bytes t new) y z
        → Ends known goes (Err (stop.Cause cause.Malformed)) old x new z
    ends-malformed t new z few given = (
      served t new z ReadsARefusal few (record { service = given.why.unchanged.service; backend = given.why.unchanged.backend; outwards = given.outwards })
          (WhereTold-map x.inwards.left z.inwards.left
          (λ all rest read. inl (record { next = given.bytes; read = read; malformed = given.why.malformed }))
          (told-behind past.exchanges (frame given.bytes) x.inwards.left y.inwards.left z.inwards.left past.read given.takes.read)),
      counts z given.takes.reads given.outwards,
    )

    -- there is one frame more
    pub ends-over : (z : Both) (bytes : Text) → n ≡ MOST_REQUESTS → z.outwards ≡ y.outwards → ReadsRequest (Ok (Some bytes)) y.inwards z.inwards
        → Ends known goes (Err (stop.Cause cause.TooManyRequests)) old x now z
    ends-over z bytes most same read = (
      served s now z ReadsOneMore (omega arith) (record { service = refl; backend = refl; outwards = same })
          (WhereTold-map x.inwards.left z.inwards.left
          (λ all rest past. record { most = past-many; next = bytes; read = past; sized = read.0 })
          (told-behind past.exchanges (frame bytes) x.inwards.left y.inwards.left z.inwards.left past.read read.1)),
      counts z read.2 same,
    )
      where
        past-many : length past.exchanges ≡ MOST_REQUESTS
        past-many = past.many ∙ most

    -- ---- an end in a request

    -- its answer wasn't taken whole
    pub ends-cut : (t : Service) (new : B) (z : Both) → n < MOST_REQUESTS → TellsNone known goes s now y t new z
        → Ends known goes (Err (stop.Cause cause.WriteFault)) old x new z
    ends-cut t new z few turn =
        let es = past.exchanges ++ turn.told ∷ [] in
        let talks : Talks known goes first_service old es t new = Talks.says turn.told past.talks turn.does refl in
        let size = length-more past.exchanges turn.told in
        let many = past.many in (
          record {
            exchanges = es;
            service = t;
            talks = talks;
            accounted = accounted (known old) (known new) es (talk-comes known goes first_service old t new es talks);
            few = omega arith;
            reads = told-more past.exchanges turn.told x y z past.read turn.takes;
            taken = taken-part past.exchanges turn.told x.outwards.taken y.outwards.taken z.outwards.taken past.taken turn.part;
          },
          turn.takes.reads ∙ past.reads,
          subst (λ (m : ℕ). Rose m z.outwards.faults) past.writes turn.writes,
        )

    -- what was read past the requests that were answered
    past-read : (bytes : Text) (z : Both) → y.inwards.left ≡ with_prefix bytes z.inwards.left
        → WhereTold (ReadsPast past.exchanges) x.inwards.left z.inwards.left
    past-read bytes z front = WhereTold-map x.inwards.left z.inwards.left (λ all rest read. record { past = bytes; read = read })
        (told-behind past.exchanges bytes x.inwards.left y.inwards.left z.inwards.left past.read front)

    -- there was no memory for a request
    pub ends-unread : (t : Service) (new : B) (z : Both) → n ≤ MOST_REQUESTS → ReadsNone s now y t new z
        → ReadsRequest (Err stop.NoMemory) y.inwards z.inwards → Ends known goes (Err stop.NoMemory) old x new z
    ends-unread t new z few none read = (
      record {
        exchanges = past.exchanges;
        service = s;
        there = now;
        talks = past.talks;
        stalled = inl none.backend;
        own_commits = subst (λ (d : B). WhereTold (OwnsOneMore (known old).client past.exchanges) (known old).journal (known d).journal)
            (sym none.backend) (none-more (known old) (known now) past.exchanges talked);
        reads = past-read read.0.begun z read.0.taken;
        heard = heard z few none.outwards;
      },
      counts z read.1 none.outwards,
    )

    -- what a stalled request may have added
    stalled-adds : (t : Service) (new : B) (bytes : Text) → HasStalled known goes s now bytes t new
        → WhereTold (OwnsOneMore (known old).client past.exchanges) (known old).journal (known new).journal
    stalled-adds t new bytes (inl same) =
        subst (λ (d : B). WhereTold (OwnsOneMore (known old).client past.exchanges) (known old).journal (known d).journal)
        (sym same.backend) (none-more (known old) (known now) past.exchanges talked)
    stalled-adds t new bytes (inr m) =
        one-more-made (known old) (known now) (known new) past.exchanges m.call m.made.answer talked m.made.can m.made.step.answered

    -- there was none for an answer
    pub ends-stalled : (t : Service) (new : B) (z : Both) → n ≤ MOST_REQUESTS → GivesNone (λ bytes. HasStalled known goes s now bytes t new) y z
        → Ends known goes (Err stop.NoMemory) old x new z
    ends-stalled t new z few given = (
      record {
        exchanges = past.exchanges;
        service = s;
        there = now;
        talks = past.talks;
        stalled = inr (given.bytes, t, given.why);
        own_commits = stalled-adds t new given.bytes given.why;
        reads = past-read (frame given.bytes) z given.takes.read;
        heard = heard z few given.outwards;
      },
      counts z given.takes.reads given.outwards,
    )

    -- a failed request added nothing
    failed-adds : (new : B) (bytes : Text) → HasFailed known goes s now bytes new
        → WhereTold (OwnsAppended (known old).client past.exchanges) (known old).journal (known new).journal
    failed-adds new bytes failed =
        let m = failed.made in
        fault-made (known old) (known now) (known new) past.exchanges m.call m.made.answer talked m.made.fault m.made.step.answered

    -- the store failed
    pub ends-failed : (t : Service) (new : B) (z : Both) → n ≤ MOST_REQUESTS → GivesNone (λ bytes. HasFailed known goes s now bytes new) y z
        → Ends known goes (Err (stop.Cause cause.StoreFault)) old x new z
    ends-failed t new z few given = (
      record {
        exchanges = past.exchanges;
        service = s;
        there = now;
        bytes = given.bytes;
        talks = past.talks;
        failed = given.why;
        own_commits = failed-adds new given.bytes given.why;
        reads = past-read (frame given.bytes) z given.takes.read;
        heard = heard z few given.outwards;
      },
      counts z given.takes.reads given.outwards,
      subst (λ (m : ℕ). Rose m (known new).faults) talked.faults given.why.counted,
    )

    -- ---- a turn

    -- A TURN STOPPED.
    pub ends-stopped : (t : Service) (new : B) (z : Both) (e : Stop) → n < MOST_REQUESTS → Turns known goes (Err e) s now y t new z
        → Ends known goes (Err e) old x new z
    ends-stopped t new z stop.NoMemory few (inl turn) = ends-unread t new z (omega arith) turn.0 turn.1
    ends-stopped t new z stop.NoMemory few (inr turn) = ends-stalled t new z (omega arith) turn
    ends-stopped t new z (stop.Cause cause.ReadFault) few turn = ends-broken t new z (omega arith) turn.0 turn.1
    ends-stopped t new z (stop.Cause cause.Malformed) few (inl turn) = ends-no_frame t new z (omega arith) turn.0 turn.1
    ends-stopped t new z (stop.Cause cause.Malformed) few (inr turn) = ends-malformed t new z (omega arith) turn
    ends-stopped t new z (stop.Cause cause.StoreFault) few turn = ends-failed t new z (omega arith) turn
    ends-stopped t new z (stop.Cause cause.WriteFault) few turn = ends-cut t new z few turn
    ends-stopped t new z (stop.Cause cause.TooManyRequests) few turn = absurd turn

    -- no frame was read behind the last request that is answered
    pub ends-unanswered : (z : Both) (e : Stop) → n ≡ MOST_REQUESTS → z.outwards ≡ y.outwards → ReadsRequest (Err e) y.inwards z.inwards
        → Ends known goes (Err e) old x now z
    ends-unanswered z stop.NoMemory most same read =
        ends-unread s now z (omega arith) (record { service = refl; backend = refl; outwards = same }) read
    ends-unanswered z (stop.Cause cause.ReadFault) most same read =
        ends-broken s now z (omega arith) (record { service = refl; backend = refl; outwards = same }) read
    ends-unanswered z (stop.Cause cause.Malformed) most same read =
        ends-no_frame s now z (omega arith) (record { service = refl; backend = refl; outwards = same }) read
    ends-unanswered z (stop.Cause cause.WriteFault) most same read = absurd read
    ends-unanswered z (stop.Cause cause.StoreFault) most same read = absurd read
    ends-unanswered z (stop.Cause cause.TooManyRequests) most same read = absurd read
