-- What others do between a client's calls, together with the next call.
use Rattle.std.proofs.Common.{◌≡◌, ℕ, ◌≤◌, ◌<◌, Bool, true, false, cond, ◌&&◌, ◌||◌, not, max, Option, Some, None, inl}
use Rattle.std.proofs.Common.{inr, refl, ap, ◌∙◌, subst, arith}
use Rattle.std.specs.Prelude.{nat_lt}
use Rattle.std.specs.BTreeMap.{is_at}
use Rattle.std.proofs.lemmas.Bool.Decides.{nat_tests}
use Rattle.dio_core.specs.Counts.{one_more, Rose, IsCounted}
use Rattle.dio_core.specs.Told.{WhereTold}
use Rattle.rdt_types.specs.declared.address.Address.{Address}
use Rattle.rdt_types.specs.Addresses.{address_cmp}
use Rattle.change_feed.specs.Pending.{pending}
use Rattle.txn_lang.specs.States.{Journal}
use Rattle.txn_lang.specs.Journals.{IsLegal, own}
use Rattle.journal_core.specs.declared.ready.Ready.{Ready}
use Rattle.journal_core.specs.Changes.{changes, between}
use Rattle.journal_core.specs.Holds.{bars}
use Rattle.docc_prepare.specs.Calls.{Known, Call, Answer, is_fault}
use Rattle.docc_prepare.specs.Backends.{IsBelowHorizon, IsUnbarred, Row, OwnRow, SaysOfJournal, Shows, IsSameClient, KeepsGiven}
use Rattle.docc_prepare.specs.Backends.{Keeps, subscribed_after, taken_after, denied_after, KnowsDenials, IsAnswered, HasGrown, IsLater, OthersCountAsWithin}
use Rattle.docc_prepare.proofs.Prefixes.{prefix-again}

-- ---- counts

-- what rose from a count has risen from a lesser one, by whether that one is below where it came to
rose-since : (k l m : ℕ) → k ≤ l → Rose l m → Rose k m
rose-since k l m h (inl up) = inl (omega arith)
rose-since k l m h (inr last) = by (nat_lt k m) refl
  where
    by : (t : Bool) → nat_lt k m ≡ t → Rose k m
    by true e = inl (let up : k < m = grind (arith, nat_tests) in up)
    by false e = let over : m ≤ k = grind (arith, nat_tests) in let was = last.0 in let is = last.1 in inr (omega arith, is)

-- others only raised the denials that are known, so what the call says of them holds from before on
denials-since : (k l m : Known) (c : Call) (a : Answer) → k.denials ≤ l.denials → KnowsDenials l m c a → KnowsDenials k m c a
denials-since k l m (Call.append ready) Answer.disk h d = rose-since k.denials l.denials m.denials h d
denials-since k l m c a h d = omega arith

module _ (k l m : Known) (later : IsLater k l) where
  -- the client and the store's settings are the same before and later
  client-since : IsSameClient l m → IsSameClient k m
  client-since same = record {
    client = same.client ∙ later.client.client;
    trusted = same.trusted ∙ later.client.trusted;
    shards = same.shards ∙ later.client.shards;
    window = same.window ∙ later.client.window;
    limit = same.limit ∙ later.client.limit;
  }

  -- what was given before is given later, and the call keeps it
  given-since : KeepsGiven l m → KeepsGiven k m
  given-since keeps = record {
    bases = λ address base h. keeps.bases address base (later.keeps.bases address base h);
    fronts = λ shard based front h. keeps.fronts shard based front (later.keeps.fronts shard based front h);
  }

  -- others added nothing to the client's own commits, so what the call left alone is as before
  own-since : (old mid new : Journal) → HasGrown k old mid → own l.client new ≡ own l.client mid → own k.client new ≡ own k.client old
  own-since old mid new grown same = subst (λ (c : ℕ). own c new ≡ own c mid) later.client.client same ∙ grown.same_own

  -- ---- a call

  -- others didn't change what the client is told of, so the call makes the same of it
  subscribed-since : (c : Call) (a : Answer) (address : Address) → subscribed_after l c a address ≡ subscribed_after k c a address
  subscribed-since (Call.subscribe x) Answer.done address = ap (λ b. is_at (address_cmp x) address || b) (later.subscribed address)
  subscribed-since (Call.unsubscribe x) Answer.done address = ap (λ b. not (is_at (address_cmp x) address) && b) (later.subscribed address)
  subscribed-since c a address = later.subscribed address

  -- nor up to where it has taken
  taken-since : (c : Call) (a : Answer) → taken_after l c a ≡ taken_after k c a
  taken-since Call.take (Answer.feed f) = refl
  taken-since c a = later.taken

  -- nor how many of its commits the disk denied
  denied-since : (c : Call) (a : Answer) → denied_after l c a ≡ denied_after k c a
  denied-since (Call.append ready) Answer.disk = ap one_more later.denied
  denied-since c a = later.denied

  -- an append may give up what was given, and each other call keeps it
  keeps-since : (c : Call) → Keeps c l m → Keeps c k m
  keeps-since (Call.append ready) keeps = tt
  keeps-since c keeps = given-since keeps

  -- what an answer shows goes by what the client had seen, which others didn't change
  shows-since : (c : Call) (a : Answer) → Shows l m c a → Shows k m c a
  shows-since (Call.read_at address n) (Answer.value v) shows = (shows.0 ∙ later.seen, shows.1)
  shows-since (Call.read_at address n) (Answer.late o h) shows = (shows.0 ∙ later.seen, shows.1)
  shows-since (Call.subscribe address) Answer.done shows = shows ∙ later.seen
  shows-since (Call.unsubscribe address) Answer.done shows = shows ∙ later.seen
  shows-since Call.wait Answer.done shows = let seen = later.seen in omega arith
  shows-since c a shows = shows

  -- the window is the same, so the horizon is as far behind
  horizon-since : (number horizon : ℕ) (journal : Journal) → IsBelowHorizon l number horizon journal → IsBelowHorizon k number horizon journal
  horizon-since number horizon journal late =
      let behind = late.behind in let window = later.client.window in record { below = late.below; behind = omega arith }

  -- it is the same client, and as many commits were trusted, so the same holds bar
  unbarred-since : (ready : Ready) (journal : Journal) → IsUnbarred l ready journal → IsUnbarred k ready journal
  unbarred-since ready journal unbarred =
      subst (λ (c : ℕ). bars k.trusted journal c ready.run.deltas ≡ None) later.client.client
      (subst (λ (n : ℕ). bars n journal l.client ready.run.deltas ≡ None) later.client.trusted unbarred)

  -- by the row: it goes by what the client knew, which is the same, and by a journal that had only grown
  row-since : (old mid new : Journal) → HasGrown k old mid → (c : Call) (a : Answer) → Row l m mid new c a → Row k m old new c a
  row-since old mid new grown (Call.prepare shard based) (Answer.prepared p) row =
      record { seen = row.seen ∙ ap (λ (n : ℕ). max n p.front) later.seen; bases = row.bases; clear = row.clear }
  row-since old mid new grown (Call.prepare shard based) (Answer.late base horizon) row = (row.0, horizon-since base horizon new row.1)
  row-since old mid new grown (Call.append ready) (Answer.number n) row = (
    row.0,
    record {
      before = row.1.before;
      grown = prefix-again old mid row.1.before grown.grows row.1.grown;
      same_own = own-since old mid row.1.before grown row.1.same_own;
      clear = row.1.clear;
      unbarred = unbarred-since ready row.1.before row.1.unbarred;
      numbered = row.1.numbered;
      within = let limit = later.client.limit in let few = row.1.within in omega arith;
      added = row.1.added;
    },
  )
  row-since old mid new grown (Call.read_at address number) (Answer.late n horizon) row = horizon-since number horizon new row
  row-since old mid new grown Call.take (Answer.feed f) row = λ address.
      row address
      ∙ ap (λ (told : Bool). cond told (pending address (between l.taken m.seen (changes new))) None) (later.subscribed address)
      ∙ ap (λ (n : ℕ). cond (k.subscribed address) (pending address (between n m.seen (changes new))) None) later.taken
  row-since old mid new grown c a row = row

  -- an append with its number adds the client's own commit, and nothing else adds one
  own-row-since : (old mid new : Journal) → HasGrown k old mid → (c : Call) (a : Answer) → OwnRow l.client mid new c a → OwnRow k.client old new c a
  own-row-since old mid new grown (Call.append ready) (Answer.number n) row = tt
  own-row-since old mid new grown c a row = own-since old mid new grown row

  -- by who tells the journal; where all do, others let it grow before the call did
  told-since : (c : Call) (a : Answer) (o p q : Option Journal) → WhereTold (HasGrown k) o p → WhereTold (SaysOfJournal l m c a) p q
      → WhereTold (SaysOfJournal k m c a) o q
  told-since c a None None None grown says = tt
  told-since c a None None (Some new) grown says = says
  told-since c a None (Some mid) q grown says = absurd grown
  told-since c a (Some old) None q grown says = absurd grown
  told-since c a (Some old) (Some mid) None grown says = says
  told-since c a (Some old) (Some mid) (Some new) grown says = record {
    grows = prefix-again old mid new grown.grows says.grows;
    legal = says.legal;
    within = says.within;
    row = row-since old mid new grown c a says.row;
    same_own = own-row-since old mid new grown c a says.same_own;
  }

  -- so each part of the clause holds of the call together with what others did before it
  answered-since : (c : Call) (a : Answer) → IsAnswered l c a m → IsAnswered k c a m
  answered-since c a answered =
      let was = later.seen in
      let goes = answered.goes_on in
      let seen = goes.seen in
      let draws = goes.draws in
      let drew = later.draws in
      let looks = goes.looks in
      let looked = later.looks in record {
        client = client-since answered.client;
        goes_on = record {
          seen = omega arith;
          draws = omega arith;
          looks = omega arith;
          faults = subst (λ (n : ℕ). IsCounted (is_fault a) n m.faults) later.faults goes.faults;
          subscribed = λ address. goes.subscribed address ∙ subscribed-since c a address;
          taken = goes.taken ∙ taken-since c a;
          denied = goes.denied ∙ denied-since c a;
          denials = denials-since k l m c a later.denials goes.denials;
        };
        keeps = keeps-since c answered.keeps;
        gives = answered.gives;
        shows = shows-since c a answered.shows;
        told = told-since c a k.journal l.journal m.journal later.told answered.told;
      }

  -- ---- later again

  -- by who tells the journal; where all do, it has grown twice
  grown-since : (o p q : Option Journal) → WhereTold (HasGrown k) o p → WhereTold (HasGrown l) p q → WhereTold (HasGrown k) o q
  grown-since None None None grown more = tt
  grown-since None None (Some new) grown more = more
  grown-since None (Some mid) q grown more = absurd grown
  grown-since (Some old) None q grown more = absurd grown
  grown-since (Some old) (Some mid) None grown more = more
  grown-since (Some old) (Some mid) (Some new) grown more = record {
    grows = prefix-again old mid new grown.grows more.grows;
    legal = subst (λ (n : ℕ). IsLegal n new) later.client.trusted more.legal;
    same_own = own-since old mid new grown more.same_own;
  }

  -- so what is later than later is later, part by part
  later-again : IsLater l m → IsLater k m
  later-again more =
      let denials = more.denials in
      let denied = later.denials in
      let draws = more.draws in
      let drew = later.draws in
      let looks = more.looks in
      let looked = later.looks in record {
        client = client-since more.client;
        seen = more.seen ∙ later.seen;
        within = more.within;
        keeps = given-since more.keeps;
        subscribed = λ address. more.subscribed address ∙ later.subscribed address;
        taken = more.taken ∙ later.taken;
        denied = more.denied ∙ later.denied;
        denials = omega arith;
        draws = omega arith;
        looks = omega arith;
        faults = more.faults ∙ later.faults;
        told = grown-since k.journal l.journal m.journal later.told more.told;
      }

-- both parts of the law, as shown above
pub others_count_as_within : OthersCountAsWithin
others_count_as_within = record {
  again = λ k l m later more. later-again k l m later more;
  answered = λ k l m c a later answered. answered-since k l m later c a answered;
}
