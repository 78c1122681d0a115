-- What answers a request over a link keeps the clause of every call.
use Rattle.std.proofs.Common.{◌≡◌, ℕ, ◌≤◌, false, refl, arith}
use Rattle.dio_core.specs.Counts.{IsCounted}
use Rattle.dio_core.proofs.Counts.{Rose-one_more}
use Rattle.docc_prepare.specs.Calls.{Call, Answer, is_fault}
use Rattle.docc_prepare.specs.Backends.{IsAnswered, GoesOn, Keeps, Gives, Shows, KnowsDenials, subscribed_after, taken_after, denied_after}
use Rattle.remote_wire.specs.declared.answer.Given.{Given}
use Rattle.remote_wire.specs.declared.answer.Given.TheVariants as given
use Rattle.remote_calls.specs.Spelled.{request_for, answered_by}
use Rattle.remote_link.specs.Linking.{Linked, known_at, linked_behind, IsNoLess, LinksAnswer}
use Rattle.remote_link.specs.Table.{IsAnswer}
use Rattle.remote_link.proofs.Rows.{in_table}

-- any base and any front counts as given
keeps : (v u : Linked) (c : Call) → Keeps c (known_at v) (known_at u)
keeps v u (Call.append ready) = tt
keeps v u c = record { bases = λ address base h. refl; fronts = λ shard based front h. refl }

-- what stays is the client, and no journal is told
answered : (v u : Linked) (c : Call) (a : Answer) → u.client ≡ v.client → u.shards ≡ v.shards → GoesOn (known_at v) (known_at u) c a
    → Gives c a (known_at u) → Shows (known_at v) (known_at u) c a → IsAnswered (known_at v) c a (known_at u)
answered v u c a client shards on gives shows = record {
  client = record { client = client; trusted = refl; shards = shards; window = refl; limit = refl };
  goes_on = on;
  keeps = keeps v u c;
  gives = gives;
  shows = shows;
  told = tt;
}

-- what only sees more
sees : (v : Linked) (n : ℕ) (c : Call) (a : Answer) → v.seen ≤ n → is_fault a ≡ false
    → ((x : _) → v.subscribed x ≡ subscribed_after (known_at v) c a x) → v.taken ≡ taken_after (known_at v) c a
    → v.denied ≡ denied_after (known_at v) c a → KnowsDenials (known_at v) (known_at (record v { seen = n })) c a
    → IsCounted (is_fault a) v.faults v.faults → GoesOn (known_at v) (known_at (record v { seen = n })) c a
sees v n c a up fault subscribed taken denied denials faults = record {
  seen = up;
  draws = omega arith;
  looks = omega arith;
  faults = faults;
  subscribed = subscribed;
  taken = taken;
  denied = denied;
  denials = denials;
}

by_call : (v : Linked) (c : Call) (seen : ℕ) (g : Given) → IsAnswer (request_for c) seen g → IsNoLess (request_for c) v.seen seen
    → IsAnswered (known_at v) c (answered_by (request_for c) seen g)
    (known_at (linked_behind v (request_for c) (record { seen = seen; given = g })))
by_call v Call.refresh seen given.Done h up = answered v _ _ _ refl refl
    (sees v seen _ _ up refl (λ x. refl) refl refl (omega arith) refl) tt refl
by_call v Call.refresh seen g h up = absurd h
by_call v (Call.read address) seen (given.Read base value) h up = answered v _ _ _ refl refl
    (sees v seen _ _ up refl (λ x. refl) refl refl (omega arith) refl) refl h
by_call v (Call.read address) seen g h up = absurd h
by_call v (Call.prepare shard based) seen (given.Front front) h up = answered v _ _ _ refl refl
    (sees v seen _ _ up refl (λ x. refl) refl refl (omega arith) refl) refl refl
by_call v (Call.prepare shard based) seen (given.Late base horizon) h up = answered v _ _ _ refl refl
    (sees v seen _ _ up refl (λ x. refl) refl refl (omega arith) refl) tt tt
by_call v (Call.prepare shard based) seen (given.Clash w) h up = answered v _ _ _ refl refl
    (sees v seen _ _ up refl (λ x. refl) refl refl (omega arith) refl) tt h
by_call v (Call.prepare shard based) seen g h up = absurd h
by_call v (Call.append ready) seen (given.Number n) h up = answered v _ _ _ refl refl
    (sees v seen _ _ up refl (λ x. refl) refl refl (omega arith) refl) tt h
by_call v (Call.append ready) seen (given.Clash w) h up = answered v _ _ _ refl refl
    (sees v seen _ _ up refl (λ x. refl) refl refl (omega arith) refl) tt h
by_call v (Call.append ready) seen (given.Held client number) h up = answered v _ _ _ refl refl
    (sees v seen _ _ up refl (λ x. refl) refl refl (omega arith) refl) tt tt
by_call v (Call.append ready) seen (given.Full limit) h up = answered v _ _ _ refl refl
    (sees v seen _ _ up refl (λ x. refl) refl refl (omega arith) refl) tt tt
by_call v (Call.append ready) seen given.Disk h up = answered v _ _ _ refl refl
    (record {
      seen = up;
      draws = omega arith;
      looks = omega arith;
      faults = refl;
      subscribed = λ x. refl;
      taken = refl;
      denied = refl;
      denials = Rose-one_more v.denied;
    }) tt tt
by_call v (Call.append ready) seen g h up = absurd h
by_call v (Call.read_at address number) seen (given.Value value) h up = answered v _ _ _ refl refl
    (sees v v.seen _ _ (omega arith) refl (λ x. refl) refl refl (omega arith) refl) tt (refl, h)
by_call v (Call.read_at address number) seen (given.Late n horizon) h up = answered v _ _ _ refl refl
    (sees v v.seen _ _ (omega arith) refl (λ x. refl) refl refl (omega arith) refl) tt (refl, h)
by_call v (Call.read_at address number) seen g h up = absurd h
by_call v (Call.subscribe address) seen given.Done h up = answered v _ _ _ refl refl
    (record {
      seen = omega arith;
      draws = omega arith;
      looks = omega arith;
      faults = refl;
      subscribed = λ x. refl;
      taken = refl;
      denied = refl;
      denials = omega arith;
    }) tt refl
by_call v (Call.subscribe address) seen g h up = absurd h
by_call v (Call.unsubscribe address) seen given.Done h up = answered v _ _ _ refl refl
    (record {
      seen = omega arith;
      draws = omega arith;
      looks = omega arith;
      faults = refl;
      subscribed = λ x. refl;
      taken = refl;
      denied = refl;
      denials = omega arith;
    }) tt refl
by_call v (Call.unsubscribe address) seen g h up = absurd h
by_call v Call.take seen (given.Feed f) h up = answered v _ _ _ refl refl
    (record {
      seen = up;
      draws = omega arith;
      looks = omega arith;
      faults = refl;
      subscribed = λ x. refl;
      taken = refl;
      denied = refl;
      denials = omega arith;
    }) tt h
by_call v Call.take seen g h up = absurd h
by_call v Call.wait seen given.Done h up = answered v _ _ _ refl refl
    (sees v seen _ _ (omega arith) refl (λ x. refl) refl refl (omega arith) refl) tt up
by_call v Call.wait seen g h up = absurd h

pub links_answer : LinksAnswer
links_answer v c said is up = by_call v c said.seen said.given (in_table (request_for c) said is) up
