-- A call that fails is within the clause of every call.
use Rattle.std.proofs.Common.{◌≡◌, ℕ, ◌≤◌, true, refl, sym, subst, ◌∙◌}
use Rattle.dio_core.specs.Counts.{one_more, Rose}
use Rattle.dio_core.proofs.Counts.{Rose-one_more}
use Rattle.rdt_types.specs.declared.address.Address.{Address}
use Rattle.txn_lang.specs.States.{Journal}
use Rattle.txn_lang.specs.Journals.{own}
use Rattle.docc_prepare.specs.Calls.{Known, Call, Answer}
use Rattle.docc_prepare.specs.Backends.{IsAnswered, CanCall, KeepsGiven, Keeps, Gives, Shows, Row, OwnRow, KnowsDenials}
use Rattle.docc_prepare.specs.Backends.{subscribed_after, taken_after, denied_after}
use Rattle.diamond_store.specs.Passes.{Passed, known_of}
use Rattle.thread_tests.specs.Faults.{failing}

-- What a call that fails leaves as it was: what was asked for, given and counted. It shows nothing, and its client owns no more.
record IsIdle (k l : Known) (c : Call) : Type 0 where
  subscribed : (address : Address) → subscribed_after k c (Answer.failed true) address ≡ k.subscribed address
  taken : taken_after k c (Answer.failed true) ≡ k.taken
  denied : denied_after k c (Answer.failed true) ≡ k.denied
  denials : k.denials ≤ l.denials → KnowsDenials k l c (Answer.failed true)
  keeps : KeepsGiven k l → Keeps c k l
  gives : Gives c (Answer.failed true) l
  shows : Shows k l c (Answer.failed true)
  row : (old new : Journal) → Row k l old new c (Answer.failed true)
  same_own : (old new : Journal) → own k.client new ≡ own k.client old → OwnRow k.client old new c (Answer.failed true)

-- by the call
idle : (k l : Known) (c : Call) → IsIdle k l c
idle k l (Call.append ready) = record {
  subscribed = λ address. refl;
  taken = refl;
  denied = refl;
  denials = λ h. h;
  keeps = λ h. tt;
  gives = tt;
  shows = tt;
  row = λ old new. tt;
  same_own = λ old new e. e;
}
idle k l c = record {
  subscribed = λ address. refl;
  taken = refl;
  denied = refl;
  denials = λ h. h;
  keeps = λ h. h;
  gives = tt;
  shows = tt;
  row = λ old new. tt;
  same_own = λ old new e. e;
}

-- a look at the journal's length, and then a fault that is counted, are within the clause of every call
pub failed_answered : (p q : Passed) (n m : ℕ) (a : Answer) → IsAnswered (known_of p) Call.refresh a (known_of q) → m ≡ one_more n → (c : Call)
    → IsAnswered (failing p n) c (Answer.failed true) (failing q m)
failed_answered p q n m a is e c = let i = idle (failing p n) (failing q m) c in record {
  client = record {
    client = is.client.client;
    trusted = is.client.trusted;
    shards = is.client.shards;
    window = is.client.window;
    limit = is.client.limit;
  };
  goes_on = record {
    seen = is.goes_on.seen;
    draws = is.goes_on.draws;
    looks = is.goes_on.looks;
    faults = subst (Rose n) (sym e) (Rose-one_more n);
    subscribed = λ address. is.goes_on.subscribed address ∙ sym (i.subscribed address);
    taken = is.goes_on.taken ∙ sym i.taken;
    denied = is.goes_on.denied ∙ sym i.denied;
    denials = i.denials is.goes_on.denials;
  };
  keeps = i.keeps (record { bases = is.keeps.bases; fronts = is.keeps.fronts });
  gives = i.gives;
  shows = i.shows;
  told = record {
    grows = is.told.grows;
    legal = is.told.legal;
    within = is.told.within;
    row = i.row p.journal q.journal;
    same_own = i.same_own p.journal q.journal is.told.same_own;
  };
}

-- where no call has failed the pass's own clause is that of the call
pub passed_answered : (p mid q : Passed) (n m : ℕ) (c : Call) (a : Answer) → mid ≡ p → (n ≡ 0) × (m ≡ 0) → IsAnswered (known_of mid) c a (known_of q)
    → IsAnswered (failing p n) c a (failing q m)
passed_answered p mid q n m c a same none is =
    subst (λ (x : ℕ). IsAnswered (failing p x) c a (failing q m)) (sym none.0)
    (subst (λ (y : ℕ). IsAnswered (failing p 0) c a (failing q y)) (sym none.1)
    (subst (λ (x : Passed). IsAnswered (known_of x) c a (known_of q)) same is))

-- and what its client owes is what is owed to the pass
pub may_call : (p mid : Passed) (n m : ℕ) (c : Call) → mid ≡ p → (n ≡ 0) × (m ≡ 0) → CanCall (failing p n) c → CanCall (known_of mid) c
may_call p mid n m c same none can =
    subst (λ (x : Passed). CanCall (known_of x) c) (sym same) (subst (λ (x : ℕ). CanCall (failing p x) c) none.0 can)
