-- How many calls a line makes at most: each read is given to the run that needs it, and each shard is prepared once.
use Rattle.std.proofs.Common.{◌≡◌, ℕ, zero, suc, ◌+◌, ◌≤◌, ◌<◌, Bool, true, false, cond, ◌||◌, nat_le, min, List, [], ◌∷◌, ◌++◌, Option}
use Rattle.std.proofs.Common.{Some, None, refl, sym, ap, ◌∙◌, subst, arith}
use Rattle.std.specs.Prelude.{IfSome, ◌==◌, nat_lt}
use Rattle.std.specs.BTreeMap.{insert_entry}
use Rattle.std.proofs.lemmas.Bool.Decides.{nat_tests}
use Rattle.rdt_types.specs.declared.address.Address.{Address}
use Rattle.rdt_types.specs.declared.limits.TheConstants.{MOST_SHARDS}
use Rattle.rdt_types.specs.Addresses.{address_cmp}
use Rattle.rdt_types.specs.Shards.{shard_of}
use Rattle.rdt_types.specs.Values.{default_of}
use Rattle.session_text.specs.declared.reply.Reply.{Reply}
use Rattle.session_text.specs.declared.reply.Reply.TheVariants as reply
use Rattle.session_text.specs.declared.limits.TheConstants.{MOST_ATTEMPTS}
use Rattle.txn_trees.specs.declared.statement.Body.{Body}
use Rattle.txn_lang.specs.declared.checked.Checked.{Checked}
use Rattle.txn_lang.specs.declared.limits.TheConstants.{TICK_LIMIT}
use Rattle.txn_lang.specs.declared.run.Run.{Run}
use Rattle.txn_lang.specs.declared.run.Seen.{Seen}
use Rattle.txn_lang.specs.declared.snaps.Snap.{Snap}
use Rattle.txn_lang.specs.Execution.{Ran, need, done, exec}
use Rattle.txn_lang.specs.Few.{AreReadInTurn}
use Rattle.txn_lang.proofs.Few.{reads_are_few}
use Rattle.txn_lang.proofs.Given.{read_next}
use Rattle.txn_eval.specs.Running.{values_of}
use Rattle.journal_core.specs.declared.ready.PreparedFront.{PreparedFront}
use Rattle.docc_prepare.specs.declared.attempt.Attempt.{Attempt}
use Rattle.docc_prepare.specs.declared.attempt.Next.{Next}
use Rattle.docc_prepare.specs.declared.attempt.Next.TheVariants as next
use Rattle.docc_prepare.specs.Attempts.{SnapList, has_front, lesser, least_unprepared, next_event, with_snap, with_front}
use Rattle.docc_prepare.proofs.Nexts.{needs, prepares}
use Rattle.session_core.specs.declared.limits.TheConstants.{MOST_CALLS}
use Rattle.session_core.specs.declared.line.Line.{Line}
use Rattle.session_core.specs.declared.line.Line.TheVariants as asked
use Rattle.session_core.specs.declared.session.Session.{Session}
use Rattle.session_core.specs.Bounds.{most_calls, IsPlain}
use Rattle.session_core.proofs.Attempts.{least-below}

-- ---- fronts

-- one front, or none
abbrev front_there : Bool → ℕ
front_there true = 1
front_there false = 0

-- how many of the first shards have a front
abbrev prepared_below : List PreparedFront → ℕ → ℕ
prepared_below fronts zero = 0
prepared_below fronts (suc k) = prepared_below fronts k + front_there (has_front fronts k)

-- each shard counts once at most
below-all : (fronts : List PreparedFront) (n : ℕ) → prepared_below fronts n ≤ n
below-all fronts zero = omega arith
below-all fronts (suc k) = by (has_front fronts k) (below-all fronts k)
  where
    by : (x : Bool) → prepared_below fronts k ≤ k → prepared_below fronts k + front_there x ≤ suc k
    by true h = omega arith
    by false h = omega arith

module _ (shard front : ℕ) where
  -- the front that comes in
  abbrev one : PreparedFront
  one = record { shard = shard; front = front }

  -- a front more takes none away
  there-before : (fronts : List PreparedFront) (k : ℕ) → front_there (has_front fronts k) ≤ front_there (has_front (fronts ++ one ∷ []) k)
  there-before [] k = by (shard == k)
    where
      by : (x : Bool) → 0 ≤ front_there (x || false)
      by true = omega arith
      by false = omega arith
  there-before (f ∷ fronts) k = by (f.shard == k) (there-before fronts k)
    where
      by : (x : Bool) → front_there (has_front fronts k) ≤ front_there (has_front (fronts ++ one ∷ []) k)
          → front_there (x || has_front fronts k) ≤ front_there (x || has_front (fronts ++ one ∷ []) k)
      by true h = omega arith
      by false h = h

  -- the front that came in is found
  pub there-now : (fronts : List PreparedFront) → has_front (fronts ++ one ∷ []) shard ≡ true
  there-now [] = let e : (shard == shard) ≡ true = grind (arith, nat_tests) in ap (λ x. x || false) e
  there-now (f ∷ fronts) = by (f.shard == shard) (there-now fronts)
    where
      by : (x : Bool) → has_front (fronts ++ one ∷ []) shard ≡ true → (x || has_front (fronts ++ one ∷ []) shard) ≡ true
      by true h = refl
      by false h = h

  -- so no count falls, shard by shard
  below-before : (fronts : List PreparedFront) (n : ℕ) → prepared_below fronts n ≤ prepared_below (fronts ++ one ∷ []) n
  below-before fronts zero = omega arith
  below-before fronts (suc k) = let h = below-before fronts k in let there = there-before fronts k in omega arith

  -- one more is prepared
  below-more : (fronts : List PreparedFront) (n : ℕ) → shard < n → has_front fronts shard ≡ false
      → prepared_below fronts n + 1 ≤ prepared_below (fronts ++ one ∷ []) n
  below-more fronts zero within none = absurd (omega arith)
  below-more fronts (suc k) within none = by (shard == k) refl (λ less. below-more fronts k less none)
    where
      here : shard ≡ k → prepared_below fronts (suc k) + 1 ≤ prepared_below (fronts ++ one ∷ []) (suc k)
      here e =
          let was : front_there (has_front fronts k) ≡ 0 = ap (λ (j : ℕ). front_there (has_front fronts j)) (sym e) ∙ ap front_there none in
          let is : front_there (has_front (fronts ++ one ∷ []) k) ≡ 1 = ap (λ (j : ℕ). front_there (has_front (fronts ++ one ∷ []) j)) (sym e)
          ∙ ap front_there (there-now fronts) in
          let rest = below-before fronts k in omega arith

      by : (x : Bool) → (shard == k) ≡ x → (shard < k → prepared_below fronts k + 1 ≤ prepared_below (fronts ++ one ∷ []) k)
          → prepared_below fronts (suc k) + 1 ≤ prepared_below (fronts ++ one ∷ []) (suc k)
      by true e more = here (grind (arith, nat_tests))
      by false e more =
          let less : shard < k = grind (arith, nat_tests) in
          let rest = more less in let there = there-before fronts k in omega arith

-- what holds of two numbers holds of the lesser
one-of : (P : ℕ → Type 0) (k l : ℕ) → P k → P l → P (min k l)
one-of P k l p q = by (nat_le k l) refl
  where
    by : (x : Bool) → nat_le k l ≡ x → P (min k l)
    by true e = let h : k ≤ l = grind (arith, nat_tests) in let is : k ≡ min k l = omega arith in subst P is p
    by false e = let h : l < k = grind (arith, nat_tests) in let is : l ≡ min k l = omega arith in subst P is q

-- the least unprepared shard has no front
least-unprepared : (shards : ℕ) (fronts : List PreparedFront) (seen : List Seen) (shard : ℕ) → least_unprepared shards fronts seen ≡ Some shard
    → has_front fronts shard ≡ false
least-unprepared shards fronts seen shard e = subst (λ o. IfSome o (λ k. has_front fronts k ≡ false)) e (all seen)
  where
    lesser-one : (k : ℕ) (o : Option ℕ) → has_front fronts k ≡ false → IfSome o (λ l. has_front fronts l ≡ false)
        → has_front fronts (lesser k o) ≡ false
    lesser-one k None h all = h
    lesser-one k (Some l) h all = one-of (λ n. has_front fronts n ≡ false) k l h all

    by : (k : ℕ) (o : Option ℕ) (x : Bool) → has_front fronts k ≡ x → IfSome o (λ l. has_front fronts l ≡ false)
        → IfSome (cond x o (Some (lesser k o))) (λ l. has_front fronts l ≡ false)
    by k o true h all = all
    by k o false h all = lesser-one k o h all

    all : (seen : List Seen) → IfSome (least_unprepared shards fronts seen) (λ k. has_front fronts k ≡ false)
    all [] = tt
    all (z ∷ seen) = by (shard_of z.address shards) (least_unprepared shards fronts seen) (has_front fronts (shard_of z.address shards)) refl
        (all seen)

-- ---- an attempt after so many calls

-- an attempt has made so many calls at most: its reads, and its preparings
pub record HasSpent (a : Attempt) (calls : ℕ) : Type 0 where
  pub reads : ℕ
  pub in_turn : AreReadInTurn a.body.body reads (values_of a.snaps)
  pub all : calls ≤ reads + prepared_below a.fronts a.shards

-- nothing was read, and fronts don't count against an attempt
pub none-spent : (a : Attempt) → HasSpent a 0
none-spent a = record { reads = 0; in_turn = tt; all = omega arith }

-- they are no more than the ticks and the shards
pub spent-few : (a : Attempt) (calls : ℕ) → HasSpent a calls → calls ≤ TICK_LIMIT + MOST_SHARDS
spent-few a calls h =
    let reads = reads_are_few a.body.body h.reads (values_of a.snaps) h.in_turn in
    let fronts = below-all a.fronts a.shards in let all = h.all in let most = a.shards_in_range.1 in omega arith

-- a read is given to the run that needs it, so it is one more read in turn
pub spent-read : (a : Attempt) (calls : ℕ) (address : Address) (s : Snap) → next_event a ≡ next.Read address → HasSpent a calls
    → HasSpent (with_snap a address s) (calls + 1)
spent-read a calls address s e h = record {
  reads = suc h.reads;
  in_turn = (values_of a.snaps, h.in_turn, read_next a.snaps address s a.body.body (needs a address e));
  all = let all = h.all in omega arith;
}

-- the shard that is prepared has no front, so one more has one then
pub spent-front : (a : Attempt) (calls shard front : ℕ) (run : Run) → next_event a ≡ next.Prepare shard run → HasSpent a calls
    → HasSpent (with_front a shard front) (calls + 1)
spent-front a calls shard front run e h =
    let p = prepares a shard run e in
    let some : 0 < a.shards = let least = a.shards_in_range.0 in omega arith in
    let more = below-more shard front a.fronts a.shards (least-below a.shards a.fronts run.observations shard some p.least)
    (least-unprepared a.shards a.fronts run.observations shard p.least) in record {
      reads = h.reads;
      in_turn = h.in_turn;
      all = let all = h.all in omega arith;
    }

-- ---- a look after so many reads

-- a body has read so many values, each since its run needed it
pub record HasRead (body : Body) (snaps : SnapList) (reads : ℕ) : Type 0 where
  pub in_turn : AreReadInTurn body reads (values_of snaps)

-- nothing was read
pub none-read : (body : Body) (snaps : SnapList) → HasRead body snaps 0
none-read body snaps = record { in_turn = tt }

-- what is read in turn is no more than the ticks
pub read-few : (body : Body) (snaps : SnapList) (reads : ℕ) → HasRead body snaps reads → reads ≤ TICK_LIMIT
read-few body snaps reads h = reads_are_few body reads (values_of snaps) h.in_turn

-- the value goes to the run that needs it
pub read-more : (body : Body) (snaps : SnapList) (reads : ℕ) (address : Address) (s : Snap) → exec body (values_of snaps) ≡ need address
    → HasRead body snaps reads
    → HasRead body (insert_entry address_cmp snaps address s) (suc reads)
read-more body snaps reads address s e h = record { in_turn = (values_of snaps, h.in_turn, read_next snaps address s body e) }

-- where one more is needed, they are fewer
pub read-fewer : (body : Body) (snaps : SnapList) (reads : ℕ) (address : Address) → exec body (values_of snaps) ≡ need address → HasRead body snaps reads
    → reads < TICK_LIMIT
read-fewer body snaps reads address e h =
    let s : Snap = record { base = 0; value = default_of address.kind } in
    let few = read-few body (insert_entry address_cmp snaps address s) (suc reads) (read-more body snaps reads address s e h) in omega arith

-- ---- all lines

-- a line that was read makes few calls
pub few-calls : (s : Session) (l : Line) → IsPlain l → ((tries : ℕ) (body : Checked) → l ≡ asked.Try tries body → tries ≤ MOST_ATTEMPTS)
    → most_calls s l ≤ MOST_CALLS
few-calls s (asked.Try tries body) plain few = let h = few tries body refl in omega arith
few-calls s (asked.Begin body) plain few = omega arith
few-calls s asked.Step plain few = omega arith
few-calls s asked.Go plain few = omega arith
few-calls s (asked.Look body) plain few = omega arith
few-calls s (asked.At n body) plain few = omega arith
few-calls s asked.Quiet plain few = omega arith
few-calls s (asked.Watch name body) plain few = absurd plain
few-calls s (asked.Unwatch name) plain few = absurd plain
few-calls s asked.Sync plain few = absurd plain
few-calls s asked.Wait plain few = absurd plain
few-calls s (asked.Refused reason) plain few = omega arith
few-calls s asked.Drop plain few = omega arith
few-calls s asked.Seen plain few = omega arith
few-calls s asked.Quit plain few = omega arith
