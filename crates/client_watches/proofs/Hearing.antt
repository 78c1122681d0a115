-- A client that is told the journal: what it keeps stands for that, whatever it asks for and lets go.
use Rattle.std.proofs.Common.{◌≡◌, ℕ, ◌+◌, ◌≤◌, ◌<◌, Bool, true, false, cond, List, [], ◌∷◌, length}
use Rattle.std.proofs.Common.{Option, Some, None, refl, sym, ap, ◌∙◌, subst, arith}
use Rattle.std.proofs.Math.Seq.{take-length}
use Rattle.dio_core.specs.Told.{WhereTold}
use Rattle.rdt_types.specs.declared.address.Address.{Address}
use Rattle.rdt_types.specs.declared.value.Value.{Value}
use Rattle.session_text.specs.declared.reply.Reply.{Reply}
use Rattle.session_text.specs.declared.reply.Reply.TheVariants as reply
use Rattle.txn_lang.specs.Short.{IsShortAddress}
use Rattle.txn_lang.specs.States.{Journal, State, state}
use Rattle.txn_lang.specs.Journals.{IsLegal}
use Rattle.docc_prepare.specs.Calls.{Known, Call, Answer}
use Rattle.docc_prepare.specs.Backends.{IsAnswered, SaysOfJournal, IsPrefix}
use Rattle.call_programs.specs.Programs.{Program, bind, Succeeds, Always}
use Rattle.call_programs.specs.Safe.{AsksAny, AlwaysEnds}
use Rattle.call_programs.proofs.Programs.{always_bind}
use Rattle.client_watches.specs.declared.watching.Watching.{Watching}
use Rattle.client_watches.specs.Watching.{none_loose, with_value, is_idle, without_value}
use Rattle.client_watches.specs.Keeping.{Keeps}
use Rattle.client_watches.specs.Standing.{Subscribes, Stands}
use Rattle.docc_prepare.specs.Readable.{CanRead, CanReadOn}
use Rattle.client_watches.specs.Laws.{Attends}
use Rattle.client_watches.specs.Lines.{kept, read, fetch}
use Rattle.client_watches.specs.Lines.{let_go, drop_one, drop_each, drop_idle}
use Rattle.client_watches.proofs.Kept.{keeps-on, keeps-value, keeps-values, keeps-none_loose}
use Rattle.client_watches.proofs.Journals.{prefix-shorter, prefix-state, prefix-again}
use Rattle.client_watches.proofs.Stays.{stands-stay}
use Rattle.client_watches.proofs.Moving.{stands-without_value}
use Rattle.client_watches.proofs.Answering.{subscribes-on, subscribes-value, subscribes-without, idle-unobserved}

-- ---- a client that is told the journal

-- what it knows, and a journal that can be read
pub record Sees : Type 0 where
  pub known : Known
  pub journal : Journal
  pub can : CanRead journal

-- it makes a call, and is told what may have grown
pub record IsToldSo (s : Sees) (call : Call) (answer : Answer) (t : Sees) : Type 0 where
  pub event : IsAnswered s.known call answer t.known
  pub says : SaysOfJournal s.known t.known call answer s.journal t.journal

-- whatever it is told, a fact holds at its program's end
abbrev pub AlwaysTold : {A : Type 0} → Sees → Program A → (Sees → A → Type 0) → Type 0
AlwaysTold s p holds = Always AsksAny IsToldSo (Unit {0}) s p holds

-- of one program, and then of the next
pub then_told : {A C : Type 0} (first : Sees → A → Type 0) (holds : Sees → C → Type 0) (f : A → Program C) (s : Sees) (p : Program A)
    → AlwaysTold s p first → ((t : Sees) (a : A) → first t a → AlwaysTold t (f a) holds) → AlwaysTold s (bind p f) holds
then_told first holds f s p all more = always_bind AsksAny IsToldSo (Unit {0}) first holds f s p all more

-- at the end a journal is told that has grown from another, and the fact holds of it
pub record IsToldAt {A : Type 0} (old : Journal) (holds : Sees → A → Type 0) (l : Known) (a : A) : Type 0 where
  pub journal : Journal
  pub told : l.journal ≡ Some journal
  pub grows : IsPrefix old journal
  pub can : CanRead journal
  pub so : holds (record { known = l; journal = journal; can = can }) a

-- WHAT IS TOLD CAN BE READ: so a fact of whoever is told a journal is one of whoever a backend answers that tells its own
pub told_always : {A : Type 0} (old : Journal) (trusted : ℕ) (on : CanReadOn trusted old) (holds : Sees → A → Type 0) (k : Known) (journal : Journal)
    (can : CanRead journal) (p : Program A) → k.journal ≡ Some journal → k.trusted ≡ trusted → IsPrefix old journal
    → AlwaysTold (record { known = k; journal = journal; can = can }) p holds → AlwaysEnds k p (IsToldAt old holds)
told_always old trusted on holds k journal can (Program.ends a) told same grows all =
    record { journal = journal; told = told; grows = grows; can = can; so = all }
told_always old trusted on holds k journal can (Program.asks call next) told same grows all = (
  tt,
  λ answer l step ok. by answer l step ok
      (λ new readable e trusts more rest. told_always old trusted on holds l new readable (next answer) e trusts more rest),
)
  where
    by : (answer : Answer) (l : Known) → IsAnswered k call answer l → Succeeds answer
        → ((new : Journal) (readable : CanRead new) → l.journal ≡ Some new → l.trusted ≡ trusted → IsPrefix old new
        → AlwaysTold (record { known = l; journal = new; can = readable }) (next answer) holds → AlwaysEnds l (next answer) (IsToldAt old holds))
        → AlwaysEnds l (next answer) (IsToldAt old holds)
    by answer l step ok go = at l.journal refl (subst (λ o. WhereTold (SaysOfJournal k l call answer) o l.journal) told step.told)
      where
        at : (o : Option Journal) → l.journal ≡ o → WhereTold (SaysOfJournal k l call answer) (Some journal) o
            → AlwaysEnds l (next answer) (IsToldAt old holds)
        at None e h = absurd h
        at (Some new) e h =
            let more : IsPrefix old new = prefix-again old journal new grows h.grows in
            let trusts : l.trusted ≡ trusted = step.client.trusted ∙ same in
            let readable : CanRead new = on new more (subst (λ (n : ℕ). IsLegal n new) trusts h.legal) in
            go new readable e trusts more
            (all.1 answer (record { known = l; journal = new; can = readable }) (record { event = step; says = h }) ok)
told_always old trusted on holds k journal can Program.stuck told same grows all = tt

-- ---- what is kept

-- it stands for the journal
pub record StandsSo (s : Sees) (w : Watching) : Type 0 where
  pub keeps : Keeps s.known w
  pub subscribes : Subscribes s.known w
  pub stands : Stands s.journal w

-- so a client attends to the journal that it is told
pub attends_so : (l : Known) (journal : Journal) (can : CanRead journal) (v : Watching) → l.journal ≡ Some journal
    → StandsSo (record { known = l; journal = journal; can = can }) v → Attends l v journal
attends_so l journal can v told is = record { told = told; keeps = is.keeps; subscribes = is.subscribes; stands = is.stands; can = can }

-- and so it stands for it where a line begins
pub begins_so : (k : Known) (w : Watching) (old : Journal) (is : Attends k w old) → StandsSo (record { known = k; journal = old; can = is.can }) w
begins_so k w old is = record { keeps = is.keeps; subscribes = is.subscribes; stands = is.stands }

-- it is kept to, and changes were taken up to where the values go
pub record Ready (window : ℕ) (s : Sees) (w : Watching) : Type 0 where
  pub keeps : Keeps s.known w
  pub subscribes : Subscribes s.known w
  pub window_is : s.known.window ≡ window
  pub taken : s.known.taken ≡ w.cache.at

-- so it does where it was taken, and stands
pub standing : (window : ℕ) (s : Sees) (w : Watching) → Ready window s w → Stands s.journal w → StandsSo s w
standing window s w ready stands = record { keeps = ready.keeps; subscribes = ready.subscribes; stands = stands }

-- ---- values

-- a value was late
pub record WasLate (window : ℕ) (w : Watching) (late : Reply) (v : Watching) (journal : Journal) : Type 0 where
  pub horizon : ℕ
  pub same : v ≡ w
  pub reply_is : late ≡ reply.Late w.cache.at horizon
  pub below : w.cache.at < horizon
  pub behind : horizon + window ≤ length journal

-- what a value that was asked for comes to: it is held, and is that of the journal; or it was late
abbrev pub IsFetchedSo : ℕ → Watching → Address → Option Reply → Watching → Journal → Type 0
IsFetchedSo window w address None v journal = (value : Value) × ((v ≡ with_value w address value) × (value ≡ state journal w.cache.at address))
IsFetchedSo window w address (Some late) v journal = WasLate window w late v journal

pub record Fetched (window : ℕ) (s : Sees) (w : Watching) (address : Address) (t : Sees) (r : Option Reply × Watching) : Type 0 where
  pub grows : IsPrefix s.journal t.journal
  pub ready : Ready window t r.1
  pub is : IsFetchedSo window w address r.0 r.1 t.journal

-- a value of a short address is asked for
pub fetch_so : (window : ℕ) (s : Sees) (w : Watching) (address : Address) → Ready window s w → IsShortAddress address → w.cache.at ≤ length s.journal
    → AlwaysTold s (fetch w address) (Fetched window s w address)
fetch_so window s w address ready short within = (tt, by)
  where
    told : (t : Sees) (value : Value) → IsPrefix s.journal t.journal → Ready window t w → value ≡ state t.journal w.cache.at address
        → (answer : Answer) (u : Sees) → IsToldSo t (Call.subscribe address) answer u
        → Succeeds answer → AlwaysTold u (kept w address value answer) (Fetched window s w address)
    told t value grows here is_ Answer.done u is ok =
        let at : w.cache.at ≤ length t.journal = (let longer = prefix-shorter s.journal t.journal grows in omega arith) in record {
          grows = prefix-again s.journal t.journal u.journal grows is.says.grows;
          ready = record {
            keeps = keeps-value t.known u.known w is.event.goes_on.seen here.keeps address value short;
            subscribes = subscribes-value t.known u.known w address value is.event here.taken here.subscribes;
            window_is = is.event.client.window ∙ here.window_is;
            taken = is.event.goes_on.taken ∙ here.taken;
          };
          is = (value, (refl, is_ ∙ ap (λ (x : State). x address) (sym (prefix-state t.journal u.journal w.cache.at is.says.grows at))));
        }
    told t value grows here is_ answer u is ok = tt

    on : (answer : Answer) (t : Sees) → IsToldSo s (Call.read_at address w.cache.at) answer t
        → ((a : Address) → t.known.subscribed a ≡ s.known.subscribed a) → t.known.taken ≡ s.known.taken → Ready window t w
    on answer t is same taken = record {
      keeps = keeps-on s.known t.known w is.event.goes_on.seen ready.keeps;
      subscribes = subscribes-on s.known t.known w same taken ready.subscribes;
      window_is = is.event.client.window ∙ ready.window_is;
      taken = taken ∙ ready.taken;
    }

    by : (answer : Answer) (t : Sees) → IsToldSo s (Call.read_at address w.cache.at) answer t
        → Succeeds answer → AlwaysTold t (read w address answer) (Fetched window s w address)
    by (Answer.value value) t is ok =
        (tt, told t value is.says.grows (on (Answer.value value) t is is.event.goes_on.subscribed is.event.goes_on.taken) is.says.row)
    by (Answer.late n horizon) t is ok = record {
      grows = is.says.grows;
      ready = on (Answer.late n horizon) t is is.event.goes_on.subscribed is.event.goes_on.taken;
      is = record {
        horizon = horizon;
        same = refl;
        reply_is = ap (λ (m : ℕ). reply.Late m horizon) is.event.shows.1;
        below = is.says.row.below;
        behind = let b = is.says.row.behind in let same = ready.window_is in omega arith;
      };
    }
    by answer t is ok = tt

-- ---- values that no watch observes

-- some are let go: neither the watches nor the number of the values is another
pub record Dropped (s : Sees) (w : Watching) (t : Sees) (v : Watching) : Type 0 where
  pub grows : IsPrefix s.journal t.journal
  pub stands : StandsSo t v
  pub same : v.watches ≡ w.watches
  pub at : v.cache.at ≡ w.cache.at
  pub taken : t.known.taken ≡ s.known.taken
  pub window : t.known.window ≡ s.known.window

-- one
drop_so : (s : Sees) (w : Watching) (address : Address) → StandsSo s w → AlwaysTold s (drop_one w address) (Dropped s w)
drop_so s w address stands = by (is_idle w address) refl
  where
    gone : is_idle w address ≡ true → (answer : Answer) (t : Sees) → IsToldSo s (Call.unsubscribe address) answer t
        → Succeeds answer → AlwaysTold t (let_go w address answer) (Dropped s w)
    gone idle Answer.done t is ok = record {
      grows = is.says.grows;
      stands = record {
        keeps = keeps-values s.known t.known w is.event.goes_on.seen stands.keeps (without_value w address)
            (record { watches = refl; at = refl; loose = refl });
        subscribes = subscribes-without s.known t.known w address is.event stands.subscribes;
        stands = stands-without_value t.journal w address stands.subscribes.rising (idle-unobserved w address idle)
            (stands-stay s.journal t.journal s.can.readable.numbered t.can.readable.numbered is.says.grows w stands.stands);
      };
      same = refl;
      at = refl;
      taken = is.event.goes_on.taken;
      window = is.event.client.window;
    }
    gone idle answer t is ok = tt

    by : (b : Bool) → is_idle w address ≡ b
        → AlwaysTold s (cond b (Program.asks (Call.unsubscribe address) (let_go w address)) (Program.ends w)) (Dropped s w)
    by true idle = (tt, gone idle)
    by false other = record { grows = take-length s.journal; stands = stands; same = refl; at = refl; taken = refl; window = refl }

-- address by address, behind those that were let go before
drops_so : (rest : List Address) (first : Sees) (begun : Watching) (s : Sees) (w : Watching) → Dropped first begun s w
    → AlwaysTold s (drop_each rest w) (Dropped first begun)
drops_so [] first begun s w is = is
drops_so (address ∷ rest) first begun s w is =
    then_told (Dropped s w) (Dropped first begun) (drop_each rest) s (drop_one w address) (drop_so s w address is.stands)
    (λ t v h. drops_so rest first begun t v (record {
      grows = prefix-again first.journal s.journal t.journal is.grows h.grows;
      stands = h.stands;
      same = h.same ∙ is.same;
      at = h.at ∙ is.at;
      taken = h.taken ∙ is.taken;
      window = h.window ∙ is.window;
    }))

-- all the loose ones
pub idle_so : (s : Sees) (w : Watching) → StandsSo s w → AlwaysTold s (drop_idle w) (Dropped s (none_loose w))
idle_so s w is = drops_so w.loose s (none_loose w) s (none_loose w) (record {
  grows = take-length s.journal;
  stands = record {
    keeps = keeps-none_loose s.known w is.keeps;
    subscribes = record { rising = is.subscribes.rising; told = is.subscribes.told; taken = is.subscribes.taken };
    stands = record { within = is.stands.within; values = is.stands.values; watches = is.stands.watches };
  };
  same = refl;
  at = refl;
  taken = refl;
  window = refl;
})
