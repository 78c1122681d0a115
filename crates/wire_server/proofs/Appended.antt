-- What one call of the backend does for its client: what it appends, and what the disk denies.
use Rattle.std.proofs.Common.{◌≡◌, ℕ, ◌+◌, ◌≤◌, ◌⊎◌, Bool, true, false, List, [], ◌∷◌, ◌++◌, map, length, refl, ap, sym, ◌∙◌, subst, arith, cond}
use Rattle.std.proofs.Common.{inl, inr}
use Rattle.std.specs.Prelude.{◌==◌}
use Rattle.std.proofs.lemmas.Bool.Decides.{nat_tests}
use Rattle.std.proofs.lemmas.List.{append-nil, map-append}
use Rattle.std.proofs.lemmas.List.Elements.{filter-append}
use Rattle.dio_core.specs.Counts.{one_more, last_count, Rose}
use Rattle.txn_grammar.specs.Characters.{Text}
use Rattle.txn_lang.specs.declared.commit.Commit.{Commit}
use Rattle.txn_lang.specs.Journals.{own}
use Rattle.txn_lang.specs.States.{Journal}
use Rattle.journal_core.specs.declared.ready.Ready.{Ready}
use Rattle.docc_prepare.specs.Calls.{Known, Call, Answer, is_fault}
use Rattle.docc_prepare.specs.Backends.{CanCall, IsAdded, SaysOfJournal, OwnRow, KnowsDenials, denied_after}
use Rattle.remote_wire.specs.declared.answer.Given.{Given}
use Rattle.remote_wire.specs.declared.answer.Given.TheVariants as given
use Rattle.remote_wire.specs.declared.request.Base.{Base}
use Rattle.remote_wire.specs.declared.request.Request.{Request}
use Rattle.remote_wire.specs.declared.request.Request.TheVariants as request
use Rattle.remote_calls.specs.Spelled.{request_for, answered_by}
use Rattle.remote_service.specs.Serving.{IsSpelling}
use Rattle.wire_server.specs.Talking.{Entry, entry_of, appended_by, denied_as}

-- ---- appends, and other requests

-- it is no append
abbrev pub IsOther : Request → Type 0
IsOther (request.Append seq body named) = ⊥
IsOther asked = Unit {0}

-- the call is none
abbrev pub IsNoAppend : Call → Type 0
IsNoAppend (Call.append ready) = ⊥
IsNoAppend call = Unit {0}

-- what isn't an append spells no append
other-call : (call : Call) (asked : Request) → IsOther asked → request_for call ≡ asked → IsNoAppend call
other-call (Call.append ready) asked other spelled = subst IsOther (sym spelled) other
other-call call asked other spelled = tt

other-spelled : (asked : Request) (call : Call) → IsOther asked → IsSpelling asked call → IsNoAppend call
other-spelled (request.Append seq body named) call other spelled = absurd other
other-spelled asked call other spelled = other-call call asked other spelled

-- an append spells one, of this place and this body
pub record SpellsAppend (seq : ℕ) (body : Text) (call : Call) : Type 0 where
  pub ready : Ready
  pub call_is : call ≡ Call.append ready
  pub seq_is : ready.seq ≡ seq
  pub body_is : ready.body ≡ body

append-spelled : (seq : ℕ) (body : Text) (named : List Base) (call : Call) → IsSpelling (request.Append seq body named) call
    → SpellsAppend seq body call
append-spelled seq body named (Call.append ready) spelled = record { ready = ready; call_is = refl; seq_is = spelled.0; body_is = spelled.1 }
append-spelled seq body named call spelled = absurd (let no : ⊥ = cc in no)

-- ---- the client's commits

-- no call but an append adds one of the client's
own-other : (client : ℕ) (old new : Journal) (call : Call) (a : Answer) → IsNoAppend call → OwnRow client old new call a → own client new ≡ own client old
own-other client old new (Call.append ready) a none row = absurd none
own-other client old new call a none row = row

-- nor does one that failed
own-failed : (client : ℕ) (old new : Journal) (call : Call) (a : Answer) → is_fault a ≡ true → OwnRow client old new call a
    → own client new ≡ own client old
own-failed client old new (Call.append ready) (Answer.failed by_fault) fault row = row
own-failed client old new (Call.append ready) a fault row = absurd (let no : ⊥ = cc in no)
own-failed client old new call a fault row = row

-- the last commit is the client's
own-last : (client : ℕ) (before : Journal) (c : Commit) → c.client ≡ client → own client (before ++ c ∷ []) ≡ own client before ++ c ∷ []
own-last client before c e =
    let is : (c.client == client) ≡ true = grind (arith, nat_tests) in
    filter-append (λ (x : Commit). x.client == client) before (c ∷ []) ∙ ap (λ (b : Bool). own client before ++ cond b (c ∷ []) []) is

-- what an append that was answered with a number adds
own-added : (k : Known) (ready : Ready) (n : ℕ) (old new : Journal) → ready.client ≡ k.client → IsAdded k ready n old new
    → map entry_of (own k.client new) ≡ map entry_of (own k.client old) ++ record { number = n; seq = ready.seq; body = ready.body } ∷ []
own-added k ready n old new mine added =
    ap (λ (j : Journal). map entry_of (own k.client j)) added.added
    ∙ ap (map entry_of) (own-last k.client added.before _ mine)
    ∙ map-append entry_of (own k.client added.before) _
    ∙ ap (λ (cs : Journal). map entry_of cs ++ record { number = length added.before + 1; seq = ready.seq; body = ready.body } ∷ []) added.same_own
    ∙ ap (λ (m : ℕ). map entry_of (own k.client old) ++ record { number = m; seq = ready.seq; body = ready.body } ∷ []) (sym added.numbered)

-- what adds nothing
own-none : (client : ℕ) (old new : Journal) (entries : List Entry) → own client new ≡ own client old → entries ≡ []
    → map entry_of (own client new) ≡ map entry_of (own client old) ++ entries
own-none client old new entries same none =
    ap (map entry_of) same ∙ sym (append-nil (map entry_of (own client old))) ∙ ap (λ (es : List Entry). map entry_of (own client old) ++ es) (sym none)

-- no other request appends
appended-other : (asked : Request) (g : Given) → IsOther asked → appended_by asked g ≡ []
appended-other (request.Append seq body named) g other = absurd other
appended-other asked g other = refl

module _ (k l : Known) (old new : Journal) where
  -- an append, by what it is given
  own-append : (ready : Ready) (seq : ℕ) (body : Text) (named : List Base) (seen : ℕ) (g : Given) → ready.client ≡ k.client → ready.seq ≡ seq
      → ready.body ≡ body → SaysOfJournal k l (Call.append ready) (answered_by (request.Append seq body named) seen g) old new
      → map entry_of (own k.client new) ≡ map entry_of (own k.client old) ++ appended_by (request.Append seq body named) g
  own-append ready seq body named seen (given.Number n) mine seq_is body_is says =
      own-added k ready n old new mine says.row.1
      ∙ ap (λ (m : ℕ). map entry_of (own k.client old) ++ record { number = n; seq = m; body = ready.body } ∷ []) seq_is
      ∙ ap (λ (b : Text). map entry_of (own k.client old) ++ record { number = n; seq = seq; body = b } ∷ []) body_is
  own-append ready seq body named seen g mine seq_is body_is says = own-none k.client old new [] says.same_own refl

  -- by what it is
  own-by-append : (seq : ℕ) (body : Text) (named : List Base) (seen : ℕ) (g : Given) (call : Call) → SpellsAppend seq body call → CanCall k call
      → SaysOfJournal k l call (answered_by (request.Append seq body named) seen g) old new
      → map entry_of (own k.client new) ≡ map entry_of (own k.client old) ++ appended_by (request.Append seq body named) g
  own-by-append seq body named seen g call spells can says =
      let able = subst (CanCall k) spells.call_is can in
      own-append spells.ready seq body named seen g (ap (λ (r : Ready). r.client) able.made) spells.seq_is spells.body_is
      (subst (λ (c : Call). SaysOfJournal k l c (answered_by (request.Append seq body named) seen g) old new) spells.call_is says)

  -- A REQUEST ADDS WHAT ITS ANSWER SAYS.
  pub own-asked : (asked : Request) (seen : ℕ) (g : Given) (call : Call) → CanCall k call → IsSpelling asked call
      → SaysOfJournal k l call (answered_by asked seen g) old new
      → map entry_of (own k.client new) ≡ map entry_of (own k.client old) ++ appended_by asked g
  own-asked (request.Append seq body named) seen g call can spelled says =
      own-by-append seq body named seen g call (append-spelled seq body named call spelled) can says
  own-asked asked seen g call can spelled says =
      own-none k.client old new (appended_by asked g) (own-other k.client old new call _ (other-spelled asked call tt spelled) says.same_own)
      (appended-other asked g tt)

  -- whatever a call is answered, it adds one commit at most
  pub record AddsOne : Type 0 where
    pub more : List Entry
    pub few : length more ≤ 1
    pub own_is : map entry_of (own k.client new) ≡ map entry_of (own k.client old) ++ more

  adds-none : own k.client new ≡ own k.client old → AddsOne
  adds-none same = record { more = []; few = omega arith; own_is = own-none k.client old new [] same refl }

  pub own-called : (call : Call) (a : Answer) → CanCall k call → SaysOfJournal k l call a old new → AddsOne
  own-called (Call.append ready) (Answer.number n) can says =
      record { more = _; few = omega arith; own_is = own-added k ready n old new (ap (λ (r : Ready). r.client) can.made) says.row.1 }
  own-called (Call.append ready) a can says = adds-none says.same_own
  own-called call a can says = adds-none says.same_own

  -- and none, where it failed
  pub own-fault : (call : Call) (a : Answer) → is_fault a ≡ true → SaysOfJournal k l call a old new
      → map entry_of (own k.client new) ≡ map entry_of (own k.client old) ++ []
  own-fault call a fault says = own-none k.client old new [] (own-failed k.client old new call a fault says.same_own) refl

-- ---- denials

-- a count goes up with one that is no less
pub one-more-up : (m n : ℕ) → m ≤ n → one_more m ≤ one_more n
one-more-up m n up = grind (arith, nat_tests)

-- what rose went up by one at least
rose-one-more : (m n : ℕ) → Rose m n → one_more m ≤ n
rose-one-more m n (inl below) = grind (arith, nat_tests)
rose-one-more m n (inr last) = let a = last.0 in let b = last.1 in grind (arith, nat_tests)

-- no call but an append is denied
denied-other : (k : Known) (call : Call) (a : Answer) → IsNoAppend call → denied_after k call a ≡ k.denied
denied-other k (Call.append ready) a none = absurd none
denied-other k call a none = refl

-- and none but a denial makes more denials known
denials-other : (k l : Known) (call : Call) (a : Answer) → IsNoAppend call → KnowsDenials k l call a → k.denials ≤ l.denials
denials-other k l (Call.append ready) a none knows = absurd none
denials-other k l call a none knows = knows

-- no other request is denied
as-other : (count : ℕ) (asked : Request) (g : Given) → IsOther asked → denied_as count asked g ≡ count
as-other count (request.Append seq body named) g other = absurd other
as-other count asked g other = refl

-- a denial counts as one that isn't less
pub denied-up : (m n : ℕ) (asked : Request) (g : Given) → m ≤ n → denied_as m asked g ≤ denied_as n asked g
denied-up m n (request.Append seq body named) given.Disk up = one-more-up m n up
denied-up m n (request.Append seq body named) g up = up
denied-up m n asked g up = up

-- an append, by what it is given
denied-append : (k : Known) (ready : Ready) (seq : ℕ) (body : Text) (named : List Base) (seen : ℕ) (g : Given)
    → denied_after k (Call.append ready) (answered_by (request.Append seq body named) seen g) ≡ denied_as k.denied (request.Append seq body named) g
denied-append k ready seq body named seen given.Disk = refl
denied-append k ready seq body named seen g = refl

denials-append : (k l : Known) (ready : Ready) (seq : ℕ) (body : Text) (named : List Base) (seen : ℕ) (g : Given)
    → KnowsDenials k l (Call.append ready) (answered_by (request.Append seq body named) seen g)
    → denied_as k.denials (request.Append seq body named) g ≤ l.denials
denials-append k l ready seq body named seen given.Disk knows = rose-one-more k.denials l.denials knows
denials-append k l ready seq body named seen g knows = knows

-- A REQUEST IS DENIED WHERE ITS ANSWER SAYS SO.
pub denied-asked : (k : Known) (asked : Request) (seen : ℕ) (g : Given) (call : Call) → IsSpelling asked call
    → denied_after k call (answered_by asked seen g) ≡ denied_as k.denied asked g
denied-asked k (request.Append seq body named) seen g call spelled =
    let spells = append-spelled seq body named call spelled in
    ap (λ (c : Call). denied_after k c (answered_by (request.Append seq body named) seen g)) spells.call_is
    ∙ denied-append k spells.ready seq body named seen g
denied-asked k asked seen g call spelled =
    denied-other k call (answered_by asked seen g) (other-spelled asked call tt spelled) ∙ sym (as-other k.denied asked g tt)

-- and it is one of the denials that are known
pub denials-asked : (k l : Known) (asked : Request) (seen : ℕ) (g : Given) (call : Call) → IsSpelling asked call
    → KnowsDenials k l call (answered_by asked seen g) → denied_as k.denials asked g ≤ l.denials
denials-asked k l (request.Append seq body named) seen g call spelled knows =
    let spells = append-spelled seq body named call spelled in
    denials-append k l spells.ready seq body named seen g
    (subst (λ (c : Call). KnowsDenials k l c (answered_by (request.Append seq body named) seen g)) spells.call_is knows)
denials-asked k l asked seen g call spelled knows =
    subst (λ (n : ℕ). n ≤ l.denials) (sym (as-other k.denials asked g tt))
    (denials-other k l call (answered_by asked seen g) (other-spelled asked call tt spelled) knows)
