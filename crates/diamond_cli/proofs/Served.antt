-- What `serve` promises of a store in memory, from what its parts do.
use Rattle.std.proofs.Common.{◌≡◌, ℕ, ◌+◌, ◌<◌, Bool, true, false, List, [], length, inl, inr, refl, sym, ap, ◌∙◌, subst, arith}
use Rattle.std.specs.Prelude.{All, Option, Result, Ok, Err, IfOk}
use Rattle.std.proofs.lemmas.List.Elements.{All-nil}
use mathlib.Core.List.{IsPrefix}
use Rattle.plain_data.specs.Histories.{IsLawful}
use Rattle.history_lock.specs.Entries.{NamesBelow}
use Rattle.history_lock.specs.declared.known.Known as tokens
use Rattle.dio_core.specs.Counts.{Rose, IsCounted}
use Rattle.dio_core.specs.Links.{Both}
use Rattle.dio_core.proofs.Sinks.{with_more-nil}
use Rattle.rdt_types.specs.declared.settings.Settings.{Settings}
use Rattle.txn_lang.specs.declared.commit.Commit.{Commit}
use Rattle.txn_lang.specs.Journals.{IsLegal}
use Rattle.txn_lang.specs.States.{Journal}
use Rattle.diamond_store.specs.Answers.{Learns, IsFirst}
use Rattle.diamond_store.specs.Appending.{client_of}
use Rattle.diamond_store.specs.Books.{IsAtMostRise}
use Rattle.diamond_store.specs.Following.{Follows}
use Rattle.diamond_store.specs.Numbers.{faults_in}
use Rattle.diamond_store.specs.Opening.{AreClients}
use Rattle.diamond_store.specs.Passes.{Passed, known_of}
use Rattle.session_core.specs.Explained.{setting_of}
use Rattle.script_runner.specs.Script.{Writing}
use Rattle.script_runner.specs.declared.status.TheConstants.{NO_MEMORY}
use Rattle.diamond_server.specs.Accounts.{Gatherings, AllServed}
use Rattle.diamond_server.specs.Ways.{Promising}
use Rattle.diamond_server.specs.declared.serving_all.Tally.{Tally}
use Rattle.diamond_cli.specs.Serving.{promised_of, HasServed, EndsLinks, ending, IsEnded, ServesLinks}

-- whatever is told of what a call gives, so is what follows from it
pub ok-map : {S E : Type 0} (r : Result S E) (P Q : S → Type 0) → ((s : S) → P s → Q s) → IfOk r P → IfOk r Q
ok-map (Ok s) P Q f told = f s told
ok-map (Err e) P Q f told = tt

-- no commit is of a client
pub no-clients : (kept : Journal) → kept ≡ [] → AreClients kept
no-clients kept none = subst AreClients (sym none) (λ k d within. absurd (omega (arith, within)))

-- and each of none may follow those before it
pub none-follow : (kept : Journal) → kept ≡ [] → IsLawful Follows (length kept) kept
none-follow kept none = subst (λ (j : Journal). IsLawful Follows (length j) j) (sym none) tt

-- the settings of a first pass are those of its store, which took its first commits on trust
first-set : (base : ℕ) (front : tokens.Known Commit) (settings : Settings) (first : Passed) → IsFirst base front settings first
    → base ≡ length front.seen → setting_of (known_of first)
    ≡ record { trusted = length front.seen; shards = settings.shards; window = settings.window; limit = settings.limit }
first-set base front settings first is whole = rw (is.trusted ∙ whole, is.shards, is.window, is.limit) refl

-- clients that are below a number are below a greater one
below-more : (low more : ℕ) (kept : Journal) → NamesBelow client_of low kept → All (λ (commit : Commit). commit.client < low + more) kept
below-more low more kept below k d within = let b = below k d within in omega arith

-- A store that was opened with commits, and closed by a pass that has learnt all that came of the links. Its lock numbers clients from
-- `named`, and keeps the numbers `own`.
pub has-served : {L : Type 0} (Promised : Promising) (told : L → Both) (settings : Settings) (sessions first named : ℕ) (g : Gatherings L) (tally : Tally) (journal : Journal)
    (base after : ℕ) (origin own : List ℕ) (front : tokens.Known Commit) (joined last : Passed) → first ≡ named → origin ≡ own
    → IsFirst base front settings joined → base ≡ length front.seen → NamesBelow client_of first front.seen → Learns joined last
    → AllServed Promised told last (named + joined.draws) (named + last.draws) sessions g tally → IsPrefix last.journal journal
    → IsLegal last.trusted journal → IsAtMostRise (faults_in own) last.denials after
    → HasServed Promised told settings sessions g front.seen (faults_in origin) after tally journal
has-served Promised told settings sessions first named g tally journal base after origin own front joined last names keeps is whole below learns served begins
    legal denied = record {
      pass = last;
      low = named + joined.draws;
      high = named + last.draws;
      set = ap (λ (p : Passed). setting_of (known_of p)) learns.rest ∙ first-set base front settings joined is whole;
      served = served;
      knows = subst (λ (j : Journal). IsPrefix j last.journal) is.journal learns.begins;
      begins = begins;
      legal = subst (λ (n : ℕ). IsLegal n journal) (ap (λ (p : Passed). p.trusted) learns.rest ∙ (is.trusted ∙ whole)) legal;
      others = below-more named joined.draws front.seen (subst (λ (n : ℕ). NamesBelow client_of n front.seen) names below);
      denied = subst (λ (ns : List ℕ). IsAtMostRise (faults_in ns) last.denials after) (sym keeps) denied;
    }

-- the commits and the count by other names
pub same-served : {L : Type 0} (Promised : Promising) (told : L → Both) (settings : Settings) (sessions : ℕ) (g : Gatherings L) (tally : Tally) (journal seen kept : Journal)
    (first before after : ℕ) → seen ≡ kept → first ≡ before → HasServed Promised told settings sessions g seen first after tally journal
    → HasServed Promised told settings sessions g kept before after tally journal
same-served Promised told settings sessions g tally journal seen kept first before after all count served =
    subst (λ (n : ℕ). HasServed Promised told settings sessions g kept n after tally journal) count
    (subst (λ (j : Journal). HasServed Promised told settings sessions g j first after tally journal) all served)

module _ {L : Type 0} (Promised : Promising) (told : L → Both) (settings : Settings) (sessions : ℕ) (g : Gatherings L) (w : Writing) where
  -- all sessions ended: the promises, by whether an accept had failed and whether the line was written
  kept-by : (failed done : Bool) → IsEnded Promised told settings sessions g [] 0 0 (ending failed done) w → IsCounted failed g.faults g.faults_then
      → (done ≡ false → Rose w.faults w.faults_then) → ServesLinks Promised told settings sessions g (ending failed done) w
  kept-by true done e counted fault = record {
    statuses = refl;
    ended = λ no. e;
    unwritten = λ is. absurd (cc is);
    listener = λ is. counted;
    completes = λ accepted written. absurd (accepted counted);
  }
  kept-by false true e counted fault = record {
    statuses = refl;
    ended = λ no. e;
    unwritten = λ is. absurd (cc is);
    listener = λ is. absurd (cc is);
    completes = λ accepted written. inl refl;
  }
  kept-by false false e counted fault = record {
    statuses = refl;
    ended = λ no. e;
    unwritten = λ is. absurd (cc is);
    listener = λ is. absurd (cc is);
    completes = λ accepted written. absurd (written (fault refl));
  }

  -- at the status by which it ended
  pub ended-serves : (status : ℕ) → IsEnded Promised told settings sessions g [] 0 0 status w → ServesLinks Promised told settings sessions g status w
  ended-serves status e =
      subst (λ (s : ℕ). ServesLinks Promised told settings sessions g s w) (sym e.said.status_is) (kept-by e.tally.failed e.said.done
      (subst (λ (s : ℕ). IsEnded Promised told settings sessions g [] 0 0 s w) e.said.status_is e) e.served.served.accepted.counted e.said.tried.fault)

  -- for want of memory nothing was written
  pub unended-serves : w.taken_then ≡ w.taken → w.faults_then ≡ w.faults → ServesLinks Promised told settings sessions g NO_MEMORY w
  unended-serves taken faults = record {
    statuses = refl;
    ended = λ no. absurd (no refl);
    unwritten = λ is. (taken, faults);
    listener = λ is. absurd (cc is);
    completes = λ accepted written. inr refl;
  }

-- ---- links that have ended

module _ {L : Type 0} (ended : L → Option Bool) (g : Gatherings L) where
  -- for want of memory nothing is said of them
  pub ends-unsaid : EndsLinks ended g NO_MEMORY
  ends-unsaid = λ no. absurd (no refl)

  -- where none was given back
  pub ends-nobody : (status : ℕ) → g.given_then ≡ g.given → EndsLinks ended g status
  ends-nobody status same = λ no. record {
    back = [];
    given_back = same ∙ sym (with_more-nil g.given);
    each = All-nil _;
  }

-- what links bring, by the word that was given
pub serves-form : {L : Type 0} (wire form : Bool) (told : L → Both) (settings : Settings) (sessions : ℕ) (g : Gatherings L) (status : ℕ) (w : Writing)
    → wire ≡ form → ServesLinks (promised_of form) told settings sessions g status w → ServesLinks (promised_of wire) told settings sessions g status w
serves-form wire form told settings sessions g status w is serves =
    subst (λ (b : Bool). ServesLinks (promised_of b) told settings sessions g status w) (sym is) serves
