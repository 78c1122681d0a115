-- What is promised of a link over which requests are answered, by what its client knows; and that it stays so.
use Rattle.std.proofs.Common.{◌≡◌, ℕ, ◌≤◌, ◌⊎◌, List, map, Option, Some, ap, sym, ◌∙◌, subst, arith, inl, inr}
use Rattle.dio_core.specs.Links.{Both}
use Rattle.dio_core.specs.Told.{WhereTold}
use Rattle.txn_grammar.specs.Characters.{Text}
use Rattle.txn_lang.specs.Journals.{IsLegal, own}
use Rattle.docc_prepare.specs.Calls.{Known, Call, Answer}
use Rattle.docc_prepare.specs.Backends.{IsSameClient}
use Rattle.session_core.proofs.Grown.{prefix-again}
use Rattle.diamond_store.specs.Passes.{Passed, known_of}
use Rattle.diamond_store.proofs.Known.{front-of}
use Rattle.diamond_server.specs.Ways.{AnyStep, having_met, KnowsMore, StaysPromised}
use Rattle.remote_service.specs.declared.service.Service.{Service}
use Rattle.remote_service.specs.Serving.{HasStalled}
use Rattle.wire_server.specs.Links.{RequestsPromised}
use Rattle.wire_server.specs.Talking.{Exchange, entry_of, first_service}
use Rattle.wire_server.specs.Promises.{StaysLegal, Reading, IsAccounted, IsServed, IsCutOff, IsStalled, IsFailed, Promises}
use Rattle.wire_server.proofs.Talked.{talk-known, stalled-known, failed-known}

-- ---- by what is known

module _ {B : Type 0} (known : B → Known) (goes : B → Call → Answer → B → Type 0) (m : Known) (old new : B) (x y : Both) where
  served-known : (Reads : Reading) → IsServed known goes m old new x y Reads
      → IsServed (λ (n : Known). n) AnyStep m (known old) (known new) x y Reads
  served-known Reads e = record {
    exchanges = e.exchanges;
    service = e.service;
    talks = talk-known known goes first_service old e.service new e.exchanges e.talks;
    accounted = e.accounted;
    reads = e.reads;
    heard = e.heard;
  }

  cut-known : IsCutOff known goes m old new x y → IsCutOff (λ (n : Known). n) AnyStep m (known old) (known new) x y
  cut-known e = record {
    exchanges = e.exchanges;
    service = e.service;
    talks = talk-known known goes first_service old e.service new e.exchanges e.talks;
    accounted = e.accounted;
    few = e.few;
    reads = e.reads;
    taken = e.taken;
  }

  still-known : IsStalled known goes m old new x y → IsStalled (λ (n : Known). n) AnyStep m (known old) (known new) x y
  still-known e = record {
    exchanges = e.exchanges;
    service = e.service;
    there = known e.there;
    talks = talk-known known goes first_service old e.service e.there e.exchanges e.talks;
    stalled = by e.stalled;
    own_commits = e.own_commits;
    reads = e.reads;
    heard = e.heard;
  }
    where
      by : (new ≡ e.there) ⊎ ((bytes : Text) × (t : Service) × HasStalled known goes e.service e.there bytes t new)
          → (known new ≡ known e.there) ⊎ ((bytes : Text) × (t : Service)
          × HasStalled (λ (n : Known). n) AnyStep e.service (known e.there) bytes t (known new))
      by (inl same) = inl (ap known same)
      by (inr lost) = inr (lost.0, lost.1, stalled-known known goes e.service lost.1 e.there new lost.0 lost.2)

  fault-known : IsFailed known goes m old new x y → IsFailed (λ (n : Known). n) AnyStep m (known old) (known new) x y
  fault-known e = record {
    exchanges = e.exchanges;
    service = e.service;
    there = known e.there;
    bytes = e.bytes;
    talks = talk-known known goes first_service old e.service e.there e.exchanges e.talks;
    failed = failed-known known goes e.service e.there new e.bytes e.failed;
    own_commits = e.own_commits;
    reads = e.reads;
    heard = e.heard;
  }

  -- PROMISES OVER A BACKEND are promises by what it knows.
  pub promises-known : (status : ℕ) → Promises known goes m old new x y status
      → Promises (λ (n : Known). n) AnyStep m (known old) (known new) x y status
  promises-known status p = record {
    statuses = p.statuses;
    client = p.client;
    safe = p.safe;
    whole = λ is. served-known _ (p.whole is);
    broken_off = λ is. served-known _ (p.broken_off is);
    too_many = λ is. served-known _ (p.too_many is);
    refused = λ is. served-known _ (p.refused is);
    cut_off = λ is. cut-known (p.cut_off is);
    stalled = λ is. still-known (p.stalled is);
    failed = λ is. fault-known (p.failed is);
    reads = p.reads;
    writes = p.writes;
    store_failed = p.store_failed;
    completes = p.completes;
  }

-- ---- a longer journal

-- What is so by what a client knew at the end is so by what it knows once it has met another, in whose journal it has no commit more.
module _ (first last other : Passed) (more : KnowsMore last other) (same : IsSameClient (known_of first) (known_of last)) where
  -- what it knows then
  abbrev met : Known
  met = known_of (having_met other last)

  own-kept : map entry_of (own first.client other.journal) ≡ map entry_of (own first.client last.journal)
  own-kept = ap (map entry_of) (subst (λ (n : ℕ). own n other.journal ≡ own n last.journal) same.client more.same_own)

  accounted-met : (es : List Exchange) → IsAccounted (known_of first) (known_of last) es → IsAccounted (known_of first) met es
  accounted-met es a = record {
    own_commits = own-kept ∙ a.own_commits;
    denied = a.denied;
    known_denied = (let known = a.known_denied in let up = more.denials in omega arith);
    faults = a.faults;
  }

  safe-met : StaysLegal first.trusted first.journal last.journal → StaysLegal first.trusted first.journal other.journal
  safe-met safe = record {
    grows = prefix-again first.journal last.journal other.journal safe.grows (front-of last.journal other.journal more.grows);
    legal = λ is. subst (λ (n : ℕ). IsLegal n other.journal) same.trusted more.legal;
  }

  module _ (x y : Both) where
    served-met : (Reads : Reading) → IsServed (λ (n : Known). n) AnyStep (known_of last) (known_of first) (known_of last) x y Reads
        → IsServed (λ (n : Known). n) AnyStep met (known_of first) (known_of last) x y Reads
    served-met Reads e = record {
      exchanges = e.exchanges;
      service = e.service;
      talks = e.talks;
      accounted = accounted-met e.exchanges e.accounted;
      reads = e.reads;
      heard = e.heard;
    }

    cut-met : IsCutOff (λ (n : Known). n) AnyStep (known_of last) (known_of first) (known_of last) x y
        → IsCutOff (λ (n : Known). n) AnyStep met (known_of first) (known_of last) x y
    cut-met e = record {
      exchanges = e.exchanges;
      service = e.service;
      talks = e.talks;
      accounted = accounted-met e.exchanges e.accounted;
      few = e.few;
      reads = e.reads;
      taken = e.taken;
    }

    stalled-met : IsStalled (λ (n : Known). n) AnyStep (known_of last) (known_of first) (known_of last) x y
        → IsStalled (λ (n : Known). n) AnyStep met (known_of first) (known_of last) x y
    stalled-met e = record {
      exchanges = e.exchanges;
      service = e.service;
      there = e.there;
      talks = e.talks;
      stalled = e.stalled;
      own_commits = record { more = e.own_commits.more; few = e.own_commits.few; own_commits = own-kept ∙ e.own_commits.own_commits };
      reads = e.reads;
      heard = e.heard;
    }

    failed-met : IsFailed (λ (n : Known). n) AnyStep (known_of last) (known_of first) (known_of last) x y
        → IsFailed (λ (n : Known). n) AnyStep met (known_of first) (known_of last) x y
    failed-met e = record {
      exchanges = e.exchanges;
      service = e.service;
      there = e.there;
      bytes = e.bytes;
      talks = e.talks;
      failed = e.failed;
      own_commits = own-kept ∙ e.own_commits;
      reads = e.reads;
      heard = e.heard;
    }

    promises-met : (status : ℕ) → Promises (λ (n : Known). n) AnyStep (known_of last) (known_of first) (known_of last) x y status
        → Promises (λ (n : Known). n) AnyStep met (known_of first) (known_of last) x y status
    promises-met status p = record {
      statuses = p.statuses;
      client = p.client;
      safe = safe-met p.safe;
      whole = λ is. served-met _ (p.whole is);
      broken_off = λ is. served-met _ (p.broken_off is);
      too_many = λ is. served-met _ (p.too_many is);
      refused = λ is. served-met _ (p.refused is);
      cut_off = λ is. cut-met (p.cut_off is);
      stalled = λ is. stalled-met (p.stalled is);
      failed = λ is. failed-met (p.failed is);
      reads = p.reads;
      writes = p.writes;
      store_failed = p.store_failed;
      completes = p.completes;
    }

-- WHAT IS PROMISED STAYS SO.
pub requests-stay : StaysPromised RequestsPromised
requests-stay first last other status x y p more = (promises-met first last other more p.0.client x y status p.0, p.1)
