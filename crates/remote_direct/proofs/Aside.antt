-- No clause of a call speaks of the fronts of what is handed on, and none but that on what stays given of the bases and fronts that were
-- given before.
use Rattle.std.proofs.Common.{◌≡◌, ℕ, List, refl, ◌∙◌}
use Rattle.dio_core.proofs.Told.{WhereTold-map}
use Rattle.rdt_types.specs.declared.address.Address.{Address}
use Rattle.txn_lang.specs.States.{Journal}
use Rattle.journal_core.specs.declared.ready.PreparedFront.{PreparedFront}
use Rattle.journal_core.specs.declared.ready.Ready.{Ready}
use Rattle.docc_prepare.specs.Calls.{Known, Call, Answer}
use Rattle.docc_prepare.specs.Backends.{Row, OwnRow, Shows, Keeps, Gives}
use Rattle.docc_prepare.specs.Backends.{subscribed_after, taken_after, denied_after, KnowsDenials, IsAnswered}
use Rattle.remote_wire.specs.declared.answer.Given.{Given}
use Rattle.remote_wire.specs.declared.answer.Given.TheVariants as given
use Rattle.remote_calls.specs.Spelled.{request_for, answered_by}
use Rattle.remote_service.specs.declared.service.Service.{Service}
use Rattle.remote_service.specs.Keeping.{is_at_base}
use Rattle.remote_service.specs.Serving.{kept_behind}
use Rattle.remote_service.proofs.Suiting.{both, same_number}
use Rattle.remote_service.proofs.Reasked.{at-itself}
use Rattle.remote_direct.specs.Directing.{known_at, with_fronts}
use Rattle.remote_direct.proofs.Kept.{any-more, any-last, same-itself}

-- ---- the fronts of what is handed on

module _ (k l : Known) (ready : Ready) (fronts : List PreparedFront) where
  -- the call with other fronts
  abbrev other : Call
  other = Call.append (with_fronts ready fronts)

  row-aside : (old new : Journal) (a : Answer) → Row k l old new other a → Row k l old new (Call.append ready) a
  row-aside old new (Answer.number n) row = (
    row.0,
    record {
      before = row.1.before;
      grown = row.1.grown;
      same_own = row.1.same_own;
      clear = row.1.clear;
      unbarred = row.1.unbarred;
      numbered = row.1.numbered;
      within = row.1.within;
      added = row.1.added;
    },
  )
  row-aside old new (Answer.clash w) row = record { least = row.least; seen = row.seen }
  row-aside old new (Answer.held client number) row = record { clear = row.clear; barred = row.barred; seen = row.seen }
  row-aside old new (Answer.full limit) row = record { limit_is = row.limit_is; seen = row.seen; clear = row.clear; unbarred = row.unbarred }
  row-aside old new Answer.disk row = record { clear = row.clear; unbarred = row.unbarred }
  row-aside old new a row = row

  own-aside : (old new : Journal) (a : Answer) → OwnRow k.client old new other a → OwnRow k.client old new (Call.append ready) a
  own-aside old new (Answer.number n) row = tt
  own-aside old new a row = row

  shows-aside : (a : Answer) → Shows k l other a → Shows k l (Call.append ready) a
  shows-aside (Answer.number n) shows = shows
  shows-aside a shows = shows

  denied-aside : (a : Answer) → denied_after k other a ≡ denied_after k (Call.append ready) a
  denied-aside Answer.disk = refl
  denied-aside a = refl

  denials-aside : (a : Answer) → KnowsDenials k l other a → KnowsDenials k l (Call.append ready) a
  denials-aside Answer.disk h = h
  denials-aside a h = h

  -- so an append is answered as the same with other fronts is
  pub fronts-aside : (a : Answer) → IsAnswered k other a l → IsAnswered k (Call.append ready) a l
  fronts-aside a event = record {
    client = event.client;
    goes_on = record {
      seen = event.goes_on.seen;
      draws = event.goes_on.draws;
      looks = event.goes_on.looks;
      faults = event.goes_on.faults;
      subscribed = λ address. event.goes_on.subscribed address;
      taken = event.goes_on.taken;
      denied = event.goes_on.denied ∙ denied-aside a;
      denials = denials-aside a event.goes_on.denials;
    };
    keeps = tt;
    gives = tt;
    shows = shows-aside a event.shows;
    told = WhereTold-map k.journal l.journal (λ old new says. record {
      grows = says.grows;
      legal = says.legal;
      within = says.within;
      row = row-aside old new a says.row;
      same_own = own-aside old new a says.same_own;
    }) event.told;
  }

-- ---- what was given

module _ (k l : Known) (s t : Service) where
  row-at : (old new : Journal) (c : Call) (a : Answer) → Row k l old new c a → Row (known_at k s) (known_at l t) old new c a
  row-at old new (Call.prepare shard observed) (Answer.prepared p) row = record { seen = row.seen; bases = row.bases; clear = row.clear }
  row-at old new (Call.prepare shard observed) (Answer.late base horizon) row = (row.0, record { below = row.1.below; behind = row.1.behind })
  row-at old new (Call.prepare shard observed) (Answer.clash w) row = record { least = row.least; seen = row.seen }
  row-at old new (Call.append ready) (Answer.number n) row = (
    row.0,
    record {
      before = row.1.before;
      grown = row.1.grown;
      same_own = row.1.same_own;
      clear = row.1.clear;
      unbarred = row.1.unbarred;
      numbered = row.1.numbered;
      within = row.1.within;
      added = row.1.added;
    },
  )
  row-at old new (Call.append ready) (Answer.clash w) row = record { least = row.least; seen = row.seen }
  row-at old new (Call.append ready) (Answer.held client number) row = record { clear = row.clear; barred = row.barred; seen = row.seen }
  row-at old new (Call.append ready) (Answer.full limit) row =
      record { limit_is = row.limit_is; seen = row.seen; clear = row.clear; unbarred = row.unbarred }
  row-at old new (Call.append ready) Answer.disk row = record { clear = row.clear; unbarred = row.unbarred }
  row-at old new (Call.read_at address number) (Answer.late n horizon) row = record { below = row.below; behind = row.behind }
  row-at old new c a row = row

  subscribed-at : (c : Call) (a : Answer) (address : Address) → subscribed_after k c a address ≡ subscribed_after (known_at k s) c a address
  subscribed-at (Call.subscribe x) Answer.done address = refl
  subscribed-at (Call.unsubscribe x) Answer.done address = refl
  subscribed-at c a address = refl

  taken-at : (c : Call) (a : Answer) → taken_after k c a ≡ taken_after (known_at k s) c a
  taken-at Call.take (Answer.feed f) = refl
  taken-at c a = refl

  denied-at : (c : Call) (a : Answer) → denied_after k c a ≡ denied_after (known_at k s) c a
  denied-at (Call.append ready) Answer.disk = refl
  denied-at c a = refl

  denials-at : (c : Call) (a : Answer) → KnowsDenials k l c a → KnowsDenials (known_at k s) (known_at l t) c a
  denials-at (Call.append ready) Answer.disk h = h
  denials-at c a h = h

  shows-at : (c : Call) (a : Answer) → Shows k l c a → Shows (known_at k s) (known_at l t) c a
  shows-at Call.wait Answer.done shows = shows
  shows-at c a shows = shows

  -- so a call is answered whatever counts as given, if that stays so
  pub answered-at : (c : Call) (a : Answer) → Keeps c (known_at k s) (known_at l t) → Gives c a (known_at l t) → IsAnswered k c a l
      → IsAnswered (known_at k s) c a (known_at l t)
  answered-at c a keeps gives event = record {
    client = record {
      client = event.client.client;
      trusted = event.client.trusted;
      shards = event.client.shards;
      window = event.client.window;
      limit = event.client.limit;
    };
    goes_on = record {
      seen = event.goes_on.seen;
      draws = event.goes_on.draws;
      looks = event.goes_on.looks;
      faults = event.goes_on.faults;
      subscribed = λ address. event.goes_on.subscribed address ∙ subscribed-at c a address;
      taken = event.goes_on.taken ∙ taken-at c a;
      denied = event.goes_on.denied ∙ denied-at c a;
      denials = denials-at c a event.goes_on.denials;
    };
    keeps = keeps;
    gives = gives;
    shows = shows-at c a event.shows;
    told = WhereTold-map k.journal l.journal (λ old new says. record {
      grows = says.grows;
      legal = says.legal;
      within = says.within;
      row = row-at old new c a says.row;
      same_own = says.same_own;
    }) event.told;
  }

-- ---- what a service keeps

module _ (k l : Known) (s : Service) where
  -- what was given stays so, but by an append
  pub keeps-kept : (c : Call) (g : Given) → Keeps c (known_at k s) (known_at l (kept_behind s (request_for c) g))
  keeps-kept (Call.append ready) g = tt
  keeps-kept (Call.read address) (given.Read base v) = record {
    bases = λ a b h. any-more (is_at_base a b) s.snaps _ h;
    fronts = λ shard observed front h. h;
  }
  keeps-kept (Call.prepare shard observed) (given.Front front) = record {
    bases = λ a b h. h;
    fronts = λ n xs m h. any-more _ s.fronts _ h;
  }
  keeps-kept c g = record { bases = λ a b h. h; fronts = λ shard observed front h. h }

  -- and what is given is kept
  pub gives-kept : (c : Call) (seen : ℕ) (g : Given) → Gives c (answered_by (request_for c) seen g) (known_at l (kept_behind s (request_for c) g))
  gives-kept (Call.read address) seen (given.Read base v) =
      any-last (is_at_base address base) s.snaps _ (both _ _ (at-itself address) (same_number base base refl))
  gives-kept (Call.prepare shard observed) seen (given.Front front) =
      any-last _ s.fronts _ (both _ _ (both _ _ (same_number shard shard refl) (same-itself observed)) (same_number front front refl))
  gives-kept c seen g = tt
