-- What follows from replies alone: what they say of the client's commits, and of what the disk denied.
use Rattle.std.proofs.Common.{◌≡◌, ℕ, zero, suc, ◌+◌, ◌-◌, ◌≤◌, ◌<◌, Bool, true, false, cond, inl, inr, ◌⊎◌, List, [], ◌∷◌, ◌++◌}
use Rattle.std.proofs.Common.{append_assoc, length, Option, Some, None, refl, sym, ap, ◌∙◌, subst, arith}
use Rattle.std.specs.Prelude.{nat_lt, ◌==◌, slice_get}
use Rattle.std.specs.List.{AllByRecursion}
use Rattle.std.proofs.lemmas.Bool.Decides.{nat_tests}
use Rattle.std.proofs.lemmas.List.{append-nil}
use Rattle.std.proofs.lemmas.List.Elements.{filter-append}
use Rattle.dio_core.specs.Counts.{last_count, one_more, Rose}
use Rattle.rdt_types.specs.declared.outcome.Outcome.{Outcome}
use Rattle.session_text.specs.declared.reply.Reply.{Reply}
use Rattle.session_text.specs.declared.reply.Reply.TheVariants as reply
use Rattle.txn_lang.specs.declared.commit.Commit.{Commit}
use Rattle.txn_lang.specs.Journals.{own}
use Rattle.txn_lang.specs.States.{Journal}
use Rattle.journal_core.specs.declared.ready.Ready.{Ready}
use Rattle.journal_core.specs.Journals.{commit_at}
use Rattle.journal_core.specs.Readies.{made_of}
use Rattle.docc_prepare.specs.declared.attempt.Attempt.{Attempt}
use Rattle.docc_prepare.specs.declared.attempt.Next.{Next}
use Rattle.docc_prepare.specs.declared.attempt.Next.TheVariants as next
use Rattle.docc_prepare.specs.Attempts.{ready_of}
use Rattle.docc_prepare.specs.Backends.{IsPrefix, IsAnswered, SaysOfJournal}
use Rattle.docc_prepare.specs.Calls.{Known, Call, Answer}
use Rattle.docc_prepare.specs.Calls.Call.{append}
use Rattle.docc_prepare.specs.Calls.Answer.{number, disk}
use Rattle.session_core.specs.declared.session.Session.{Session}
use Rattle.client_watches.specs.Saying.{IsOfWatches}
use Rattle.session_core.specs.Events.{event_call}
use Rattle.session_core.specs.Sessions.{as_list, committed_by, OwnsAnswered, denied_by, denied_by_all}
use Rattle.session_core.proofs.Grown.{prefix-whole, prefix-again, commit-stays}

-- ---- what holds of the replies that are said so far

-- a reply that names no commit of the client's and no denial
abbrev pub is_plain : Reply → Bool
is_plain (reply.Commit n outcome) = false
is_plain reply.Disk = false
is_plain r = true

-- and replies that name none
abbrev pub ArePlain : List Reply → Type 0
ArePlain replies = AllByRecursion (λ r. is_plain r ≡ true) replies

module _ (P : List Reply → Type 0) where
  -- what an answer says
  abbrev pub Says : Call → Answer → Type 0
  Says (append ready) (number n) = (outcome : Outcome) → P (reply.Commit n outcome ∷ [])
  Says (append ready) disk = P (reply.Disk ∷ [])
  Says c answer = P []

-- ---- the client's commits

-- the last item stands behind the others
there-last : {A : Type 0} (xs : List A) (x : A) → slice_get (xs ++ x ∷ []) (length xs) ≡ Some x
there-last [] x = refl
there-last (y ∷ xs) x = there-last xs x

-- the last commit stands at its number
commit-last : (before : Journal) (c : Commit) → commit_at (before ++ c ∷ []) (length before + 1) ≡ Some c
commit-last before c =
    let no : (length before + 1 == 0) ≡ false = grind (arith, nat_tests) in
    let same : length before + 1 - 1 ≡ length before = omega arith in
    ap (λ x. cond x None (slice_get (before ++ c ∷ []) (length before + 1 - 1))) no ∙ (ap (slice_get (before ++ c ∷ [])) same ∙ there-last before c)

-- the last commit is the client's, so its own end in it
own-last : (client : ℕ) (before : Journal) (c : Commit) → c.client ≡ client → own client (before ++ c ∷ []) ≡ own client before ++ c ∷ []
own-last client before c e =
    let is : (c.client == client) ≡ true = grind (arith, nat_tests) in
    filter-append (λ (x : Commit). x.client == client) before (c ∷ []) ∙ ap (λ (b : Bool). own client before ++ cond b (c ∷ []) []) is

-- each commit that replies name is there
abbrev pub AreThere : Journal → List Reply → Type 0
AreThere journal [] = Unit {0}
AreThere journal (reply.Commit n outcome ∷ rest) = ((c : Commit) × (commit_at journal n ≡ Some c)) × AreThere journal rest
AreThere journal (r ∷ rest) = AreThere journal rest

-- the client's commits are those before and the ones that were said, which are there, and one at most
pub record HasOwn (client : ℕ) (old new : Journal) (replies : List Reply) : Type 0 where
  pub grows : IsPrefix old new
  pub own_is : OwnsAnswered client replies old new
  pub there : AreThere new replies
  pub few : length (committed_by new replies) ≤ 1

-- nothing was done yet
pub own-nothing : (client : ℕ) (journal : Journal) → HasOwn client journal journal []
own-nothing client journal = record { grows = prefix-whole journal; own_is = sym (append-nil (own client journal)); there = tt; few = omega arith }

-- plain replies name no commit
none-named : (journal : Journal) (replies : List Reply) → ArePlain replies → committed_by journal replies ≡ []
none-named journal [] all = refl
none-named journal (r ∷ replies) all = one r all.0 ∙ none-named journal replies all.1
  where
    one : (r : Reply) → is_plain r ≡ true → committed_by journal (r ∷ replies) ≡ committed_by journal replies
    one (reply.Commit n outcome) is = absurd (cc)
    one r is = refl

-- so there is none of which the journal would have to tell
none-there : (journal : Journal) (replies : List Reply) → ArePlain replies → AreThere journal replies
none-there journal [] all = tt
none-there journal (r ∷ replies) all = one r all.0 (none-there journal replies all.1)
  where
    one : (r : Reply) → is_plain r ≡ true → AreThere journal replies → AreThere journal (r ∷ replies)
    one (reply.Commit n outcome) is rest = absurd (cc)
    one r is rest = rest

-- plain replies leave the client's own commits as they are, since they name none
pub own-plains : (client : ℕ) (old new : Journal) (replies : List Reply) → ArePlain replies → HasOwn client old new [] → HasOwn client old new replies
own-plains client old new replies all h = let none = none-named new replies all in record {
  grows = h.grows;
  own_is = h.own_is ∙ ap (λ named. own client old ++ named) (sym none);
  there = none-there new replies all;
  few = let same = ap length none in omega arith;
}

-- the commit that was made is the last, at the number that is answered
own-committed : (client n : ℕ) (first old before new : Journal) (c : Commit) (outcome : Outcome) → HasOwn client first old [] → IsPrefix first new
    → own client before ≡ own client old
    → n ≡ length before + 1 → new ≡ before ++ c ∷ [] → c.client ≡ client → HasOwn client first new (reply.Commit n outcome ∷ [])
own-committed client n first old before new c outcome h grows same is added mine =
    let named : commit_at new n ≡ Some c = ap (λ (j : Journal). commit_at j n) added ∙
    (ap (λ (m : ℕ). commit_at (before ++ c ∷ []) m) is ∙ commit-last before c) in
    let so_far : own client before ≡ own client first = same ∙ (h.own_is ∙ append-nil (own client first)) in record {
      grows = grows;
      own_is = ap (own client) added ∙ (own-last client before c mine ∙
          (ap (λ (j : Journal). j ++ c ∷ []) so_far ∙ ap (λ o. own client first ++ (as_list o ++ [])) (sym named)));
      there = ((c, named), tt);
      few = let one = ap (λ o. length (as_list o ++ [])) named in omega arith;
    }

module _ (k l : Known) (first old new : Journal) (h : HasOwn k.client first old []) where
  -- the journal has grown by commits of others alone
  own-same : IsPrefix old new → own k.client new ≡ own k.client old → HasOwn k.client first new []
  own-same grows same = record { grows = prefix-again first old new h.grows grows; own_is = same ∙ h.own_is; there = tt; few = omega arith }

  -- only an append that answers a number adds one of the client's
  pub own-says : (call : Call) (answer : Answer) → ((ready : Ready) → call ≡ append ready → ready.client ≡ k.client)
      → SaysOfJournal k l call answer old new → Says (HasOwn k.client first new) call answer
  own-says (append ready) (number n) mine says = λ outcome.
      own-committed k.client n first old says.row.1.before new (made_of says.row.1.before ready) outcome h
      (prefix-again first old new h.grows says.grows) says.row.1.same_own says.row.1.numbered says.row.1.added (mine ready refl)
  own-says (append ready)
      disk mine says = let h = own-same says.grows says.same_own in record { grows = h.grows; own_is = h.own_is; there = tt; few = omega arith }
  own-says call answer mine says = own-same says.grows says.same_own

-- an append is made of the session's own number
pub event-own : (k : Known) (s : Session) (a : Attempt) (e : Next) (ready : Ready) → event_call s a e ≡ append ready → s.client ≡ k.client
    → ready.client ≡ k.client
event-own k s a (next.Read address) ready is mine = absurd (cc)
event-own k s a (next.Prepare shard run) ready is mine = absurd (cc)
event-own k s a (next.Append run) ready is mine =
    let same : ready_of a run s.client s.seq ≡ ready = cc in ap (λ (r : Ready). r.client) (sym same) ∙ mine

-- ---- what the disk denied

-- of what was denied, as many replies say so; the last call may have denied one more
pub record HasDenied (old new : ℕ) (replies : List Reply) : Type 0 where
  pub denied : new ≡ denied_by_all old replies
  pub one : (new ≡ old) ⊎ (new ≡ one_more old)

-- plain replies are no denials
none-denied : (count : ℕ) (replies : List Reply) → ArePlain replies → denied_by_all count replies ≡ count
none-denied count [] all = refl
none-denied count (r ∷ replies) all = ap (λ (n : ℕ). denied_by_all n replies) (by r all.0) ∙ none-denied count replies all.1
  where
    by : (r : Reply) → is_plain r ≡ true → denied_by count r ≡ count
    by reply.Disk is = absurd (cc)
    by r is = refl

-- and the count of denials, since none of them is one
pub denied-plains : (old new : ℕ) (replies : List Reply) → ArePlain replies → HasDenied old new [] → HasDenied old new replies
denied-plains old new replies all h = record { denied = h.denied ∙ sym (none-denied old replies all); one = h.one }

-- only an append that the disk denied is counted
pub denied-says : (k l : Known) (first : ℕ) (call : Call) (answer : Answer) → k.denied ≡ first → IsAnswered k call answer l
    → Says (HasDenied first l.denied) call answer
denied-says k l first (append ready) disk h event =
    let is = event.goes_on.denied ∙ ap one_more h in record { denied = is; one = inr is }
denied-says k l first (append ready) (number n) h event = λ outcome.
    let is = event.goes_on.denied ∙ h in record { denied = is; one = inl is }
denied-says k l first call answer h event = let is = event.goes_on.denied ∙ h in record { denied = is; one = inl is }

-- ---- the denials that are known of

-- the denials that are known are no fewer than the replies say
pub record HasKnown (old new : ℕ) (replies : List Reply) : Type 0 where
  pub known : denied_by_all old replies ≤ new
  pub up : old ≤ new

-- one more is one more at most
one-more-few : (n : ℕ) → one_more n ≤ n + 1
one-more-few n = by (n == last_count) refl
  where
    by : (x : Bool) → (n == last_count) ≡ x → cond x last_count (n + 1) ≤ n + 1
    by true e = let same : n ≡ last_count = grind (arith, nat_tests) in omega arith
    by false e = omega arith

-- and it stays up to the last value
one-more-last : (n : ℕ) → n ≤ last_count → one_more n ≤ last_count
one-more-last n within = by (n == last_count) refl
  where
    by : (x : Bool) → (n == last_count) ≡ x → cond x last_count (n + 1) ≤ last_count
    by true e = omega arith
    by false e = let other : n < last_count = grind (arith, nat_tests) in omega arith

-- a count that rose from no less is no less than one more
rose-more : (first old new : ℕ) → first ≤ old → Rose old new → one_more first ≤ new
rose-more first old new up (inl more) = let few = one-more-few first in omega arith
rose-more first old new up (inr last) = let was = last.0 in let is = last.1 in let few = one-more-last first (omega arith) in omega arith

-- plain replies are no denials
pub known-plains : (old new : ℕ) (replies : List Reply) → ArePlain replies → HasKnown old new [] → HasKnown old new replies
known-plains old new replies all h = record { known = subst (λ (n : ℕ). n ≤ new) (sym (none-denied old replies all)) h.known; up = h.up }

-- one more is no less
one-more-up : (n : ℕ) → n ≤ one_more n
one-more-up n = by (n == last_count) refl
  where
    by : (x : Bool) → (n == last_count) ≡ x → n ≤ cond x last_count (n + 1)
    by true e = let same : n ≡ last_count = grind (arith, nat_tests) in omega arith
    by false e = omega arith

-- a denied append is one of the denials that are known then, and no call takes one away
pub known-says : (k l : Known) (first : ℕ) (call : Call) (answer : Answer) → first ≤ k.denials → IsAnswered k call answer l
    → Says (HasKnown first l.denials) call answer
known-says k l first (append ready) disk h event =
    let rose = rose-more first k.denials l.denials h event.goes_on.denials in let up = one-more-up first in record { known = rose; up = omega arith }
known-says k l first (append ready) (number n)
    h event = λ outcome. let up = event.goes_on.denials in record { known = omega arith; up = omega arith }
known-says k l first call answer h event = let up = event.goes_on.denials in record { known = omega arith; up = omega arith }

-- ---- what lines of watches say

-- a reply of watches is plain
pub watch-plain : (most : ℕ) (replies : List Reply) → AllByRecursion (IsOfWatches most) replies → ArePlain replies
watch-plain most [] all = tt
watch-plain most (r ∷ replies) all = (one r all.0, watch-plain most replies all.1)
  where
    one : (r : Reply) → IsOfWatches most r → is_plain r ≡ true
    one (reply.Commit n outcome) is = absurd is
    one reply.Disk is = absurd is
    one r is = refl

-- of more, one more is no less
one-more-rises : (m n : ℕ) → m ≤ n → one_more m ≤ one_more n
one-more-rises m n up = by (n == last_count) refl
  where
    by : (x : Bool) → (n == last_count) ≡ x → one_more m ≤ cond x last_count (n + 1)
    by true e = let same : n ≡ last_count = grind (arith, nat_tests) in one-more-last m (omega arith)
    by false e = let few = one-more-few m in omega arith

-- so counts stay in order, reply by reply
pub denied-rises : (m n : ℕ) (rs : List Reply) → m ≤ n → denied_by_all m rs ≤ denied_by_all n rs
denied-rises m n [] up = up
denied-rises m n (reply.Disk ∷ rs) up = denied-rises (one_more m) (one_more n) rs (one-more-rises m n up)
denied-rises m n (r ∷ rs) up = denied-rises m n rs up

-- ---- the commits of several lines

-- reply by reply
pub named-append : (journal : Journal) (xs ys : List Reply) → committed_by journal (xs ++ ys) ≡ committed_by journal xs ++ committed_by journal ys
named-append journal [] ys = refl
named-append journal (reply.Commit n outcome ∷ xs) ys = ap (λ rest. as_list (commit_at journal n) ++ rest) (named-append journal xs ys)
    ∙ sym (append_assoc (as_list (commit_at journal n)) (committed_by journal xs) (committed_by journal ys))
named-append journal (r ∷ xs) ys = named-append journal xs ys

-- the same of what is there
pub there-append : (journal : Journal) (xs ys : List Reply) → AreThere journal xs → AreThere journal ys → AreThere journal (xs ++ ys)
there-append journal [] ys first second = second
there-append journal (reply.Commit n outcome ∷ xs) ys first second = (first.0, there-append journal xs ys first.1 second)
there-append journal (r ∷ xs) ys first second = there-append journal xs ys first second

-- what is there stays, and what is named is the same
pub there-stays : (old new : Journal) (rs : List Reply) → IsPrefix old new → AreThere old rs → AreThere new rs
there-stays old new [] grows there = tt
there-stays old new (reply.Commit n outcome ∷ rs) grows there =
    ((there.0.0, commit-stays old new n there.0.0 grows there.0.1), there-stays old new rs grows there.1)
there-stays old new (r ∷ rs) grows there = there-stays old new rs grows there

-- a commit that is there stands at its number in every longer journal
pub named-stays : (old new : Journal) (rs : List Reply) → IsPrefix old new → AreThere old rs → committed_by new rs ≡ committed_by old rs
named-stays old new [] grows there = refl
named-stays old new (reply.Commit n outcome ∷ rs) grows there =
    ap (λ o. as_list o ++ committed_by new rs) (commit-stays old new n there.0.0 grows there.0.1 ∙ sym there.0.1)
    ∙ ap (λ rest. as_list (commit_at old n) ++ rest) (named-stays old new rs grows there.1)
named-stays old new (r ∷ rs) grows there = named-stays old new rs grows there
