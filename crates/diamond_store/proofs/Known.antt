-- What a pass knows after a call, as the clause of every backend says it.
use Rattle.std.proofs.Common.{◌≡◌, ℕ, ◌≤◌, false, List, length, take, refl, sym, subst, arith}
use Rattle.std.proofs.Math.Seq.{take-append_seam}
use mathlib.Core.List.{IsPrefix}
use Rattle.dio_core.specs.Counts.{IsCounted}
use Rattle.history_lock.specs.declared.known.Known as tokens
use Rattle.history_lock.specs.Tokens.{IsLater}
use Rattle.plain_data.specs.Histories.{IsLawful}
use Rattle.rdt_types.specs.declared.address.Address.{Address}
use Rattle.rdt_types.specs.declared.settings.Settings.{Settings}
use Rattle.txn_lang.specs.declared.commit.Commit.{Commit}
use Rattle.txn_lang.specs.States.{Journal}
use Rattle.txn_lang.specs.Journals.{IsLegal, own}
use Rattle.docc_prepare.specs.Calls.{Call, Answer, is_fault}
use Rattle.docc_prepare.specs.Backends as backends
use Rattle.docc_prepare.specs.Backends.{IsAnswered, Keeps, Gives, Shows, Row, OwnRow, subscribed_after, taken_after, denied_after, KnowsDenials}
use Rattle.diamond_store.specs.Answers.{Learns}
use Rattle.diamond_store.specs.Appending.{client_of}
use Rattle.diamond_store.specs.Following.{Follows, IsSound}
use Rattle.diamond_store.specs.Passes.{Passed, passed, known_of, is_in, IsPass}
use Rattle.journal_relay.proofs.Prefixes.{length-prefix}
use Rattle.diamond_store.proofs.Sound.{lawful-sound}

-- a journal that goes on after another is one of which that is the front
pub front-of : (old new : Journal) → IsPrefix old new → backends.IsPrefix old new
front-of old new more = subst (λ (j : Journal). take (length old) j ≡ old) more.1 (take-append_seam old more.0)

-- The pass is the same client's, and knows no less than before of a journal that is sound.
pub record Grows (p q : Passed) : Type 0 where
  pub begins : IsPrefix p.journal q.journal
  pub legal : IsLegal q.trusted q.journal
  pub seen : p.seen ≤ q.seen
  pub within : q.seen ≤ length q.journal
  pub denials : p.denials ≤ q.denials
  pub draws : p.draws ≤ q.draws
  pub looks : p.looks ≤ q.looks
  pub client : q.client ≡ p.client
  pub shards : q.shards ≡ p.shards
  pub window : q.window ≡ p.window
  pub limit : q.limit ≡ p.limit
  pub trusted : q.trusted ≡ p.trusted

-- whatever was given counts as given after
keeps : (p q : Passed) (c : Call) → Keeps c (known_of p) (known_of q)
keeps p q (Call.append ready) = tt
keeps p q c = record { bases = λ address base h. refl; fronts = λ shard based front h. refl }

module _ (p q : Passed) (grows : Grows p q) where
  -- a call of which its own rows hold meets the whole clause
  pub answered : (c : Call) (a : Answer) → is_fault a ≡ false
      → ((address : Address) → is_in q.subscribed address ≡ subscribed_after (known_of p) c a address)
      → q.taken ≡ taken_after (known_of p) c a → q.denied ≡ denied_after (known_of p) c a → KnowsDenials (known_of p) (known_of q) c a
      → Gives c a (known_of q) → Shows (known_of p) (known_of q) c a → Row (known_of p) (known_of q) p.journal q.journal c a
      → OwnRow p.client p.journal q.journal c a → IsAnswered (known_of p) c a (known_of q)
  answered c a fine subscribed taken denied denials gives shows row own_row = record {
    client = record { client = grows.client; trusted = grows.trusted; shards = grows.shards; window = grows.window; limit = grows.limit };
    goes_on = record {
      seen = grows.seen;
      draws = grows.draws;
      looks = grows.looks;
      faults = subst (λ t. IsCounted t 0 0) (sym fine) refl;
      subscribed = subscribed;
      taken = taken;
      denied = denied;
      denials = denials;
    };
    keeps = keeps p q c;
    gives = gives;
    shows = shows;
    told = record {
      grows = front-of p.journal q.journal grows.begins;
      legal = grows.legal;
      within = grows.within;
      row = row;
      same_own = own_row;
    };
  }

module _ (numbers : List ℕ) (m client : ℕ) (old new : tokens.Known Commit) (s taken : ℕ) (settings : Settings)
    (pass : IsPass numbers m client old s taken settings) (later : IsLater client_of old new) (lawful : IsLawful Follows m new.seen)
    (subscribed : List Address) (denied : ℕ) where
  -- the pass before the call
  abbrev before : Passed
  before = passed m client old s subscribed taken denied settings

  -- a pass after it, with the later token
  abbrev after : ℕ → List Address → ℕ → ℕ → Passed
  after s' subscribed' taken' denied' = passed m client new s' subscribed' taken' denied' settings

  -- the journal that the pass now knows is sound
  pub sound : IsSound m new.seen
  sound = lawful-sound m new.seen lawful

  -- the client has no commit more
  pub own_same : own client new.seen ≡ own client old.seen
  own_same = later.own_entries client pass.author

  -- with a later token, and no less seen, it knows no less
  pub grows : (s' : ℕ) (subscribed' : List Address) (taken' denied' : ℕ) → s ≤ s' → s' ≤ length new.seen
      → Grows before (after s' subscribed' taken' denied')
  grows s' subscribed' taken' denied' up within = record {
    begins = later.seen;
    legal = sound.legal;
    seen = up;
    within = within;
    denials = later.count;
    draws = later.draws;
    looks = later.looks;
    client = refl;
    shards = refl;
    window = refl;
    limit = refl;
    trusted = refl;
  }

  -- the prefix is no shorter, so what was seen is within it
  pub seen-within : s ≤ length new.seen
  seen-within = let w = pass.within in let l = length-prefix old.seen new.seen later.seen in omega arith

  -- it has learnt, and nothing else has changed
  pub learns : (s' : ℕ) → s ≤ s' → s' ≤ length new.seen → Learns before (after s' subscribed taken denied)
  learns s' up within = record {
    begins = later.seen;
    legal = sound.legal;
    own_commits = own_same;
    seen = up;
    within = within;
    denials = later.count;
    draws = later.draws;
    looks = later.looks;
    rest = refl;
  }

  -- what is said of a call that failed for want of memory
  abbrev pub Failing : Call → Type 0
  Failing c =
      ((address : Address) → is_in subscribed address ≡ subscribed_after (known_of before) c (Answer.failed false) address)
      × (taken ≡ taken_after (known_of before) c (Answer.failed false))
      × (denied ≡ denied_after (known_of before) c (Answer.failed false))
      × KnowsDenials (known_of before) (known_of (after s subscribed taken denied)) c (Answer.failed false)
      × Gives c (Answer.failed false) (known_of (after s subscribed taken denied))
      × Shows (known_of before) (known_of (after s subscribed taken denied)) c (Answer.failed false)
      × Row (known_of before) (known_of (after s subscribed taken denied)) old.seen new.seen c (Answer.failed false)
      × OwnRow client old.seen new.seen c (Answer.failed false)

  -- nothing was asked for, given or shown, by any call
  pub failing : (c : Call) → Failing c
  failing Call.refresh = ((λ address. refl), refl, refl, later.count, tt, tt, tt, own_same)
  failing c = ((λ address. refl), refl, refl, later.count, tt, tt, tt, own_same)

  -- so such a failure is within the clause of every call
  pub failed : (c : Call) → IsAnswered (known_of before) c (Answer.failed false) (known_of (after s subscribed taken denied))
  failed c =
      let f = failing c in
      let q = after s subscribed taken denied in
      answered before q (grows s subscribed taken denied (omega arith) seen-within) c (Answer.failed false) refl f.0 f.1 f.2 f.3 f.4 f.5 f.6 f.7
