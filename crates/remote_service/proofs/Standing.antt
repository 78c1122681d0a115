-- What a service keeps stands for its backend behind each call.
use Rattle.std.proofs.Common.{◌≡◌, ℕ, ◌+◌, ◌≤◌, true, cond, List, [], ◌∷◌, ◌++◌, drop, length, Option, Some, None, sym, ap, ◌∙◌, subst, arith}
use Rattle.std.specs.Prelude.{IfSome, ◌==◌, Bool}
use Rattle.std.proofs.lemmas.List.{length-append, take-append-drop, take-append-le}
use Rattle.std.proofs.lemmas.List.Elements.{filter-append}
use Rattle.std.proofs.lemmas.Bool.Decides.{nat_tests}
use Rattle.dio_core.specs.Told.{WhereTold}
use Rattle.dio_core.proofs.Told.{IfSome-WhereTold}
use Rattle.rdt_types.specs.declared.address.Address.{Address}
use Rattle.rdt_types.specs.Values.{kind_of}
use Rattle.abort_witness.specs.declared.witness.Based.{Based}
use Rattle.txn_lang.specs.declared.commit.Commit.{Commit}
use Rattle.txn_lang.specs.declared.snaps.Snap.{Snap}
use Rattle.txn_lang.specs.States.{Journal, left_by}
use Rattle.txn_lang.specs.Journals.{own}
use Rattle.journal_core.specs.declared.ready.PreparedFront.{PreparedFront}
use Rattle.journal_core.specs.declared.ready.Ready.{Ready}
use Rattle.journal_core.specs.Pairs.{pairs}
use Rattle.version_shard.specs.declared.prepared.Prepared.{Prepared}
use Rattle.docc_prepare.specs.Attempts.{SnapFits, FrontFits}
use Rattle.docc_prepare.specs.Calls.{Known, Call, Answer}
use Rattle.docc_prepare.specs.Backends.{IsPrefix, IsGiven, IsAnswered, SaysOfJournal, KeepsGiven, OwnRow}
use Rattle.docc_prepare.proofs.Each.{each-more, each-push}
use Rattle.remote_service.specs.declared.kept.KeptSnap.{KeptSnap}
use Rattle.remote_service.specs.declared.kept.KeptFront.{KeptFront}
use Rattle.remote_service.specs.declared.service.Service.{Service}
use Rattle.remote_service.specs.Serving.{snap_of, prepared_of, Stands, Serves, with_snap, with_front, emptied}

-- ---- journals that grow

-- what has grown is what was there, and more
grown : (old new : Journal) → IsPrefix old new → old ++ drop (length old) new ≡ new
grown old new e = ap (λ first. first ++ drop (length old) new) (sym e) ∙ take-append-drop (length old) new

module _ (journal later : Journal) where
  longer : length journal ≤ length (journal ++ later)
  longer = let l = length-append journal later in omega arith

  snap-stays : (read : Address × Snap) → SnapFits journal read → SnapFits (journal ++ later) read
  snap-stays read fits = let l = longer in let w = fits.within in record {
    within = omega arith;
    value = fits.value ∙ ap (λ (first : Journal). left_by first read.0) (sym (take-append-le read.1.base journal later fits.within));
  }

  front-stays : (observed : List Based) (prepared : PreparedFront) → FrontFits journal observed prepared → FrontFits (journal ++ later) observed prepared
  front-stays observed prepared fits = let l = longer in let w = fits.within in record {
    within = omega arith;
    bases = fits.bases;
    clear = ap (pairs observed) (take-append-le prepared.front journal later fits.within) ∙ fits.clear;
  }

-- what fits a journal fits it when it has grown
snap-on : (old new : Journal) → IsPrefix old new → (read : Address × Snap) → SnapFits old read → SnapFits new read
snap-on old new e read fits = subst (λ journal. SnapFits journal read) (grown old new e) (snap-stays old (drop (length old) new) read fits)

front-on : (old new : Journal) → IsPrefix old new → (observed : List Based) (prepared : PreparedFront) → FrontFits old observed prepared
    → FrontFits new observed prepared
front-on old new e observed prepared fits =
    subst (λ journal. FrontFits journal observed prepared) (grown old new e) (front-stays old (drop (length old) new) observed prepared fits)

-- ---- calls that keep what was given

-- the client's own commits are as before
abbrev pub SameOwn : Known → Call → Answer → Type 0
SameOwn k c answer = (old new : Journal) → OwnRow k.client old new c answer → own k.client new ≡ own k.client old

-- so the seq is the next still
seq-on : (s : Service) (k l : Known) (c : Call) (a : Answer) (old new : Journal) → IsAnswered k c a l → SameOwn k c a → SaysOfJournal k l c a old new
    → s.seq ≡ length (own k.client old) + 1 → s.seq ≡ length (own l.client new) + 1
seq-on s k l c a old new event same says is =
    is ∙ ap (λ (xs : Journal). length xs + 1) (sym (same old new says.same_own) ∙ ap (λ (n : ℕ). own n new) (sym event.client.client))

-- what is kept stands behind them
pub serves-on : (s : Service) (k l : Known) (c : Call) (a : Answer) → IsAnswered k c a l → KeepsGiven k l → SameOwn k c a → Serves s k → Serves s l
serves-on s k l c a event keeps same h = record {
  given = each-more (λ (x : KeptSnap). IsGiven k x.address x.base) (λ (x : KeptSnap). IsGiven l x.address x.base) s.snaps
      (λ x g. (let up = event.goes_on.seen in let b = g.0 in omega arith, keeps.bases x.address x.base g.1)) h.given;
  kinds = h.kinds;
  fronted = each-more (λ (x : KeptFront). k.fronted x.shard x.based x.front ≡ true) (λ (x : KeptFront). l.fronted x.shard x.based x.front ≡ true)
      s.fronts (λ x g. keeps.fronts x.shard x.based x.front g) h.fronted;
  told = IfSome-WhereTold (SaysOfJournal k l c a) (Stands s k.client) (Stands s l.client) k.journal l.journal
      (λ old new st says. record {
        values = each-more (λ (x : KeptSnap). SnapFits old (snap_of x)) (λ (x : KeptSnap). SnapFits new (snap_of x)) s.snaps
            (λ x f. snap-on old new says.grows (snap_of x) f) st.values;
        fronts = each-more (λ (x : KeptFront). FrontFits old x.based (prepared_of x)) (λ (x : KeptFront). FrontFits new x.based (prepared_of x)) s.fronts
            (λ x fits. front-on old new says.grows x.based (prepared_of x) fits) st.fronts;
        seq = seq-on s k l c a old new event same says st.seq;
      }) h.told event.told;
}

-- ---- a read

-- a value that was read is kept
pub read-serves : (s : Service) (k l : Known) (address : Address) (snap : Snap) → IsAnswered k (Call.read address) (Answer.snap snap) l → Serves s k
    → Serves (with_snap s address snap.base snap.value) l
read-serves s k l address snap event h =
    let on = serves-on s k l (Call.read address) (Answer.snap snap) event event.keeps (λ old new same. same) h in
    let at = event.shows.0 in record {
      given = each-push (λ (x : KeptSnap). IsGiven l x.address x.base) s.snaps _ on.given (omega arith, event.gives);
      kinds = each-push (λ (x : KeptSnap). kind_of x.value ≡ x.address.kind) s.snaps _ on.kinds event.shows.1;
      fronted = on.fronted;
      told = both l.journal on.told (says k.journal l.journal event.told);
    }
  where
    fit : Journal → Type 0
    fit journal = SnapFits journal (address, record { base = snap.base; value = snap.value })

    says : (o p : Option Journal) → WhereTold (SaysOfJournal k l (Call.read address) (Answer.snap snap)) o p → IfSome p fit
    says None None told = tt
    says None (Some new) told = absurd told
    says (Some old) None told = absurd told
    says (Some old) (Some new) told = let at = event.shows.0 in let w = told.within in record { within = omega arith; value = told.row }

    both : (o : Option Journal) → IfSome o (Stands s l.client) → IfSome o fit → IfSome o (Stands (with_snap s address snap.base snap.value) l.client)
    both None st f = tt
    both (Some journal) st f = record {
      values = each-push (λ (x : KeptSnap). SnapFits journal (snap_of x)) s.snaps _ st.values f;
      fronts = st.fronts;
      seq = st.seq;
    }

-- ---- a preparing

-- a front that was given is kept
pub prepare-serves : (s : Service) (k l : Known) (shard : ℕ) (observed : List Based) (p : Prepared)
    → IsAnswered k (Call.prepare shard observed) (Answer.prepared p) l → Serves s k → Serves (with_front s shard observed p.front) l
prepare-serves s k l shard observed p event h =
    let on = serves-on s k l (Call.prepare shard observed) (Answer.prepared p) event event.keeps (λ old new same. same) h in record {
      given = on.given;
      kinds = on.kinds;
      fronted = each-push (λ (x : KeptFront). l.fronted x.shard x.based x.front ≡ true) s.fronts _ on.fronted event.gives;
      told = both l.journal on.told (says k.journal l.journal event.told);
    }
  where
    fit : Journal → Type 0
    fit journal = FrontFits journal observed (record { shard = shard; front = p.front })

    says : (o q : Option Journal) → WhereTold (SaysOfJournal k l (Call.prepare shard observed) (Answer.prepared p)) o q → IfSome q fit
    says None None told = tt
    says None (Some new) told = absurd told
    says (Some old) None told = absurd told
    says (Some old) (Some new) told = let seen = told.row.seen in let w = told.within in
        record { within = omega arith; bases = told.row.bases; clear = told.row.clear }

    both : (o : Option Journal) → IfSome o (Stands s l.client) → IfSome o fit → IfSome o (Stands (with_front s shard observed p.front) l.client)
    both None st f = tt
    both (Some journal) st f = record {
      values = st.values;
      fronts = each-push (λ (x : KeptFront). FrontFits journal x.based (prepared_of x)) s.fronts _ st.fronts f;
      seq = st.seq;
    }

-- ---- an append

-- behind an append that added nothing, nothing is kept, and the seq is as it was
pub refused-serves : (s : Service) (k l : Known) (ready : Ready) (a : Answer) → IsAnswered k (Call.append ready) a l → SameOwn k (Call.append ready) a
    → Serves s k → Serves (emptied s s.seq) l
refused-serves s k l ready a event same h = record {
  given = tt;
  kinds = tt;
  fronted = tt;
  told = IfSome-WhereTold (SaysOfJournal k l (Call.append ready) a) (Stands s k.client) (Stands (emptied s s.seq) l.client) k.journal l.journal
      (λ old new st says. record { values = tt; fronts = tt; seq = seq-on s k l (Call.append ready) a old new event same says st.seq }) h.told event.told;
}

-- a commit adds one
own-more : (client : ℕ) (before : Journal) (c : Commit) → c.client ≡ client → length (own client (before ++ c ∷ [])) ≡ length (own client before) + 1
own-more client before c e =
    let is : (c.client == client) ≡ true = grind (arith, nat_tests) in
    ap length (filter-append (λ (x : Commit). x.client == client) before (c ∷ [])) ∙ (length-append (own client before) (own client (c ∷ []))
    ∙ ap (λ (b : Bool). length (own client before) + length (cond b (c ∷ []) [])) is)

-- behind a commit the seq is the next
pub committed-serves : (s : Service) (k l : Known) (ready : Ready) (n : ℕ) → ready.client ≡ k.client
    → IsAnswered k (Call.append ready) (Answer.number n) l → Serves s k → Serves (emptied s (s.seq + 1)) l
committed-serves s k l ready n mine event h = record {
  given = tt;
  kinds = tt;
  fronted = tt;
  told = IfSome-WhereTold (SaysOfJournal k l (Call.append ready) (Answer.number n)) (Stands s k.client) (Stands (emptied s (s.seq + 1)) l.client)
      k.journal l.journal
      (λ old new st says. record {
        values = tt;
        fronts = tt;
        seq = ap (λ (m : ℕ). m + 1) (st.seq ∙ ap (λ (xs : Journal). length xs + 1) (sym says.row.1.same_own)
            ∙ (sym (own-more k.client says.row.1.before _ mine) ∙ ap (λ (xs : Journal). length (own k.client xs)) (sym says.row.1.added)
            ∙ ap (λ (m : ℕ). length (own m new)) (sym event.client.client)));
      }) h.told event.told;
}
