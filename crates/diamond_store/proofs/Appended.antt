-- What an append is answered, from what the journal decided.
use Rattle.std.proofs.Common.{◌≡◌, ℕ, ◌+◌, ◌≤◌, ◌<◌, ◌==◌, Bool, true, false, cond, List, [], ◌∷◌, ◌++◌, length, None, Result, inl, inr}
use Rattle.std.proofs.Common.{refl, sym, ap, ◌∙◌, subst, arith}
use Rattle.std.specs.Prelude.{nat_lt}
use Rattle.std.proofs.lemmas.List.{length-append}
use Rattle.std.proofs.lemmas.Bool.Decides.{nat_tests}
use mathlib.Core.List.{IsPrefix}
use Rattle.dio_core.specs.Counts.{one_more, last_count, Rose}
use Rattle.history_lock.specs.declared.known.Known as tokens
use Rattle.plain_data.specs.Histories.{IsLawful}
use Rattle.history_lock.proofs.Prefixes.{IsPrefix-self, IsPrefix-trans}
use Rattle.rdt_types.specs.declared.address.Address.{Address}
use Rattle.rdt_types.specs.declared.settings.Settings.{Settings}
use Rattle.txn_lang.specs.declared.commit.Commit.{Commit}
use Rattle.txn_lang.specs.States.{Journal}
use Rattle.txn_lang.specs.Journals.{own}
use Rattle.journal_core.specs.declared.ready.Ready.{Ready}
use Rattle.journal_core.specs.Holds.{bars}
use Rattle.journal_core.specs.Pairs.{pairs}
use Rattle.journal_core.specs.Readies.{made_of}
use Rattle.journal_core.proofs.Holding.{barred-within}
use Rattle.docc_prepare.specs.Attempts.{ready_of}
use Rattle.docc_prepare.specs.Calls.{Call, Answer, is_fault}
use Rattle.docc_prepare.specs.Backends.{CanAppend, IsAnswered, Gives, Shows, Row, OwnRow, subscribed_after, taken_after, denied_after, KnowsDenials}
use Rattle.docc_prepare.specs.Witnesses.{least_witness}
use Rattle.docc_prepare.proofs.Nexts.{appends}
use Rattle.docc_prepare.proofs.Witnessed.{witness-within}
use Rattle.diamond_store.specs.declared.answer.StoreAppendError.{StoreAppendError}
use Rattle.diamond_store.specs.declared.decision.Decision.{Decision}
use Rattle.diamond_store.specs.declared.decision.Decision.TheVariants as decision
use Rattle.diamond_store.specs.Appending.{Adds}
use Rattle.diamond_store.specs.Books.{denials_after}
use Rattle.diamond_store.specs.Decided.{answer_of, append_answered}
use Rattle.diamond_store.specs.Following.{Follows}
use Rattle.diamond_store.specs.Numbers.{shards_in, limit_in, from_in}
use Rattle.diamond_store.specs.Owing.{IsOwed}
use Rattle.diamond_store.specs.Passes.{Passed, passed, known_of, is_in, IsPass}
use Rattle.diamond_store.specs.Settling.{IsClear, IsUnbarred, Settles}
use Rattle.diamond_store.proofs.Sound.{lawful-sound}
use Rattle.journal_relay.proofs.Prefixes.{length-prefix}
use Rattle.diamond_store.proofs.Known.{Grows, answered, front-of}
use Rattle.diamond_store.proofs.Owed.{owed-later, all-clear, least-is, kinds-owed}

-- what a client of a pass owes by the clause of backends, it owes to the journal that it knows
pub owed-by : (p : Passed) (ready : Ready) → CanAppend (known_of p) ready → IsOwed p.shards p.journal ready
owed-by p ready can = record {
  attempt = can.attempt;
  runs = appends can.attempt ready.run can.next;
  made = can.made ∙ ap (λ (c : ℕ). ready_of can.attempt ready.run c ready.seq) (sym mine);
  text = can.text;
  all_shards = can.all_shards;
  fits = can.told.fits;
  next = can.told.seq ∙ ap (λ (c : ℕ). length (own c p.journal) + 1) (sym mine);
  body_text = can.body_text;
  few = can.few;
}
  where
    mine : ready.client ≡ p.client
    mine = ap (λ (r : Ready). r.client) can.made

-- one more is no less, within the range of counts
one_more-up : (n now : ℕ) → now ≡ one_more n → now ≤ last_count → n ≤ now
one_more-up n now is most = by (n == last_count) refl
  where
    by : (t : Bool) → (n == last_count) ≡ t → n ≤ now
    by false e = let one : now ≡ n + 1 = is ∙ ap (λ (b : Bool). cond b last_count (n + 1)) e in omega arith
    by true e =
        let last : now ≡ last_count = is ∙ ap (λ (b : Bool). cond b last_count (n + 1)) e in
        let here : n ≡ last_count = grind (arith, nat_tests) in omega arith

-- a count that rose by one from no less has risen, or is at its last value
rose-by-one : (known entered now : ℕ) → known ≤ entered → now ≡ one_more entered → now ≤ last_count → Rose known now
rose-by-one known entered now up is most = by (entered == last_count) refl
  where
    by : (t : Bool) → (entered == last_count) ≡ t → Rose known now
    by false e =
        let one : now ≡ entered + 1 = is ∙ ap (λ (b : Bool). cond b last_count (entered + 1)) e in inl (omega arith)
    by true e =
        let last : now ≡ last_count = is ∙ ap (λ (b : Bool). cond b last_count (entered + 1)) e in below (nat_lt known last_count) refl last
      where
        below : (t : Bool) → nat_lt known last_count ≡ t → now ≡ last_count → Rose known now
        below true l last = let less : known < last_count = grind (arith, nat_tests) in inl (omega arith)
        below false l last =
            let over : last_count ≤ known = grind (arith, nat_tests) in
            let here : entered ≡ last_count = grind (arith, nat_tests) in
            inr (omega arith, last)

module _ (numbers : List ℕ) (m client : ℕ) (old new : tokens.Known Commit) (s taken : ℕ) (settings : Settings)
    (pass : IsPass numbers m client old s taken settings) (subscribed : List Address) (denied : ℕ)
    (ready : Ready) (mine : ready.client ≡ client) (owed : IsOwed (shards_in numbers) old.seen ready) (lawful : IsLawful Follows m new.seen)
    (from : from_in numbers ≡ m) where
  -- the pass before the call
  abbrev before : Passed
  before = passed m client old s subscribed taken denied settings

  -- the pass after it, which has seen all
  abbrev after : ℕ → Passed
  after denied' = passed m client new (length new.seen) subscribed taken denied' settings

  -- what bars by the numbers that the store keeps is what bars the pass
  bars-mine : (journal : Journal) → bars m journal client ready.run.deltas ≡ bars (from_in numbers) journal ready.client ready.run.deltas
  bars-mine journal =
      ap (λ (n : ℕ). bars n journal client ready.run.deltas) (sym from)
      ∙ ap (λ (c : ℕ). bars (from_in numbers) journal c ready.run.deltas) (sym mine)

  module _ (d : Decision) (adds : Adds m numbers old ready d new) where
    -- the journal as it was when its lock was taken
    abbrev journal : Journal
    journal = adds.entered.seen

    -- the client had no commit more by then
    own_then : own client journal ≡ own client old.seen
    own_then = adds.later.own_entries client pass.author

    -- what is owed was owed then
    owed_then : IsOwed (shards_in numbers) journal ready
    owed_then =
        owed-later (shards_in numbers) old.seen journal ready owed adds.later.seen
        (subst (λ (c : ℕ). own c journal ≡ own c old.seen) (sym mine) own_then)

    -- without a clash past the fronts no commit clashes
    clear_then : IsClear (shards_in numbers) ready journal → pairs ready.based journal ≡ []
    clear_then = all-clear m (shards_in numbers) journal ready owed_then adds.sound

    -- what bars not then bars not in a journal that stayed
    unbarred-stays : IsUnbarred (from_in numbers) ready journal → new.seen ≡ journal → bars m new.seen client ready.run.deltas ≡ None
    unbarred-stays free same = bars-mine new.seen ∙ ap (λ (j : Journal). bars (from_in numbers) j ready.client ready.run.deltas) same ∙ free

    -- the counts know no less
    denials-up : adds.entered.count ≤ new.count → old.count ≤ new.count
    denials-up up = let c = adds.later.count in omega arith

    -- the pass knows no less
    grows : (denied' : ℕ) → IsPrefix journal new.seen → adds.entered.count ≤ new.count → Grows before (after denied')
    grows denied' more up =
        let begins = IsPrefix-trans old.seen journal new.seen adds.later.seen more in record {
          begins = begins;
          legal = (lawful-sound m new.seen lawful).legal;
          seen = (let l = length-prefix old.seen new.seen begins in let w = pass.within in omega arith);
          within = omega arith;
          denials = denials-up up;
          draws = subst (λ (n : ℕ). old.draws ≤ n) (sym (ap (λ (k : tokens.Known Commit). k.draws) adds.rest)) adds.later.draws;
          looks = subst (λ (n : ℕ). old.looks ≤ n) (sym (ap (λ (k : tokens.Known Commit). k.looks) adds.rest)) adds.later.looks;
          client = refl;
          shards = refl;
          window = refl;
          limit = refl;
          trusted = refl;
        }

    -- where the journal stayed, so did the client's commits
    own-stays : new.seen ≡ journal → own client new.seen ≡ own client old.seen
    own-stays same = ap (own client) same ∙ own_then

    -- a journal that stayed goes on after itself
    stays : new.seen ≡ journal → IsPrefix journal new.seen
    stays same = subst (λ (j : Journal). IsPrefix journal j) (sym same) (IsPrefix-self journal)

    -- a refusal that counts nothing
    refused : (a : Answer) → new.seen ≡ journal → new.count ≡ adds.entered.count → is_fault a ≡ false
        → ((b : Address) → is_in subscribed b ≡ subscribed_after (known_of before) (Call.append ready) a b)
        → taken ≡ taken_after (known_of before) (Call.append ready) a → denied ≡ denied_after (known_of before) (Call.append ready) a
        → (old.count ≤ new.count → KnowsDenials (known_of before) (known_of (after denied)) (Call.append ready) a)
        → Gives (Call.append ready) a (known_of (after denied))
        → Shows (known_of before) (known_of (after denied)) (Call.append ready) a
        → Row (known_of before) (known_of (after denied)) old.seen new.seen (Call.append ready) a
        → (own client new.seen ≡ own client old.seen → OwnRow client old.seen new.seen (Call.append ready) a)
        → IsAnswered (known_of before) (Call.append ready) a (known_of (after denied))
    refused a same count fine told tak den denials gives shows row own_row =
        answered before (after denied) (grows denied (stays same) (omega arith)) (Call.append ready) a fine told tak den
        (denials (denials-up (omega arith))) gives shows row (own_row (own-stays same))

  -- by the decision: a clash names the journal's least pair, a hold is one that bars, a full journal and a denial have neither, and
  -- else the commit stands at the journal's end
  pub was-appended : (known knows : ℕ) (d : Decision) → Adds m numbers old ready d new → new.count ≤ last_count
      → IsAnswered (known_of before) (Call.append ready) (append_answered (answer_of d known knows)) (known_of (after (denials_after denied d)))
  was-appended known knows (decision.Clash witness) adds most =
      let d = decision.Clash witness in
      let journal = adds.entered.seen in
      let same = adds.settles.1 in
      let least = least-is m (shards_in numbers) journal ready (owed_then d adds) adds.sound witness adds.settles.0 in
      let within = witness-within ready.based journal witness adds.sound.orderly
      (kinds-owed m (shards_in numbers) journal ready (owed_then d adds) adds.sound) least in
      refused d adds (Answer.clash witness) same adds.count refl (λ b. refl) refl refl (λ up. up) tt within.1
      (record {
        least = ap (λ (j : Journal). least_witness ready.based j) same ∙ least;
        seen = subst (λ (j : Journal). witness.number ≤ length j) (sym same) within.0;
      }) (λ own. own)
  was-appended known knows (decision.Held barred) adds most =
      let d = decision.Held barred in
      let journal = adds.entered.seen in
      let same = adds.settles.2 in
      let held = bars-mine journal ∙ adds.settles.1 in
      let within = barred-within m journal client ready.run.deltas barred adds.sound.orderly.numbered held in
      refused d adds (Answer.held barred.client barred.at) same adds.count refl (λ b. refl) refl refl (λ up. up) tt tt
      (record {
        clear = ap (λ (j : Journal). pairs ready.based j) same ∙ clear_then d adds adds.settles.0;
        barred = ap (λ (j : Journal). bars m j client ready.run.deltas) same ∙ held;
        seen = subst (λ (j : Journal). barred.at ≤ length j) (sym same) within;
      }) (λ own. own)
  was-appended known knows (decision.Full told) adds most =
      let d = decision.Full told in
      let same = adds.settles.4 in
      refused d adds (Answer.full told) same adds.count refl (λ b. refl) refl refl (λ up. up) tt tt
      (record {
        limit_is = adds.settles.2 ∙ sym pass.settings.limit;
        seen = subst (λ (j : Journal). told ≤ length j) (sym same) (let a = adds.settles.2 in let b = adds.settles.3 in omega arith);
        clear = ap (λ (j : Journal). pairs ready.based j) same ∙ clear_then d adds adds.settles.0;
        unbarred = unbarred-stays d adds adds.settles.1 same;
      }) (λ own. own)
  was-appended known knows decision.Denied adds most =
      let d = decision.Denied in
      let same = adds.settles.2 in
      let up : adds.entered.count ≤ new.count = one_more-up adds.entered.count new.count adds.count most in
      answered before (after (one_more denied)) (grows d adds (one_more denied) (stays d adds same) up) (Call.append ready) Answer.disk refl
      (λ b. refl) refl refl (rose-by-one old.count adds.entered.count new.count adds.later.count adds.count most) tt tt
      (record {
        clear = ap (λ (j : Journal). pairs ready.based j) same ∙ clear_then d adds adds.settles.0;
        unbarred = unbarred-stays d adds adds.settles.1 same;
      }) (own-stays d adds same)
  was-appended known knows (decision.Number number) adds most =
      let d = decision.Number number in
      let journal = adds.entered.seen in
      let made = made_of journal ready in
      let grown : new.seen ≡ journal ++ made ∷ [] = adds.settles.3 in
      let long : length new.seen ≡ length journal + 1 = ap length grown ∙ length-append journal (made ∷ []) in
      answered before (after denied) (grows d adds denied (made ∷ [], sym grown) (omega (arith, adds.count))) (Call.append ready) (Answer.number number)
      refl (λ b. refl) refl refl (denials-up d adds (omega (arith, adds.count))) tt (omega (arith, adds.settles.2)) (
        refl,
        record {
          before = journal;
          grown = front-of old.seen journal adds.later.seen;
          same_own = own_then d adds;
          clear = clear_then d adds adds.settles.0;
          unbarred = bars-mine journal ∙ adds.settles.1;
          numbered = adds.settles.2;
          within = let n = adds.settles.2 in let room = adds.settles.4 in let limit = pass.settings.limit in omega arith;
          added = grown;
        },
      ) tt

-- what the journal settles goes on after the journal
pub settled-grows : (from shards limit : ℕ) (ready : Ready) (old : Journal) (d : Decision) (new : Journal)
    → Settles from shards limit ready old d new → IsPrefix old new
settled-grows from shards limit ready old (decision.Number n) new s = (made_of old ready ∷ [], sym s.3)
settled-grows from shards limit ready old (decision.Clash w) new s = subst (IsPrefix old) (sym s.1) (IsPrefix-self old)
settled-grows from shards limit ready old (decision.Held b) new s = subst (IsPrefix old) (sym s.2) (IsPrefix-self old)
settled-grows from shards limit ready old (decision.Full l) new s = subst (IsPrefix old) (sym s.4) (IsPrefix-self old)
settled-grows from shards limit ready old decision.Denied new s = subst (IsPrefix old) (sym s.2) (IsPrefix-self old)

-- the pass that has seen all goes on being one
pub pass-appended : (numbers : List ℕ) (m client : ℕ) (old new : tokens.Known Commit) (s taken n : ℕ) (settings : Settings) (ready : Ready) (d : Decision)
    → IsPass numbers m client old s taken settings → Adds m numbers old ready d new → n ≡ length new.seen → IsPass numbers m client new n taken settings
pass-appended numbers m client old new s taken n settings ready d pass adds is =
    let more = settled-grows (from_in numbers) (shards_in numbers) (limit_in numbers) ready adds.entered.seen d new.seen adds.settles in
    let first = length-prefix old.seen adds.entered.seen adds.later.seen in
    let second = length-prefix adds.entered.seen new.seen more in
    let within = pass.within in
    let took = pass.taken in
    record {
      author = ap (λ (k : tokens.Known Commit). k.author) adds.rest ∙ adds.later.author ∙ pass.author;
      within = omega arith;
      taken = omega arith;
      kept = pass.kept;
      settings = pass.settings;
    }

-- the same of numbers and an answer that are found to be those
pub was-appended-at : (numbers : List ℕ) (m client : ℕ) (old new : tokens.Known Commit) (s taken n : ℕ) (settings : Settings)
    → (pass : IsPass numbers m client old s taken settings) → (subscribed : List Address) (denied denied' : ℕ) (ready : Ready)
    → CanAppend (known_of (passed m client old s subscribed taken denied settings)) ready → IsLawful Follows m new.seen → from_in numbers ≡ m
    → (known knows : ℕ) (d : Decision) → Adds m numbers old ready d new → new.count ≤ last_count → (answer : Result ℕ StoreAppendError) → answer ≡ answer_of d known knows
    → n ≡ length new.seen → denied' ≡ denials_after denied d
    → IsAnswered (known_of (passed m client old s subscribed taken denied settings)) (Call.append ready) (append_answered answer)
    (known_of (passed m client new n subscribed taken denied' settings))
was-appended-at numbers m client old new s taken n settings pass subscribed denied denied' ready can lawful from known knows d adds most answer is whole
    counted =
    let p = passed m client old s subscribed taken denied settings in
    let mine : ready.client ≡ client = ap (λ (r : Ready). r.client) can.made in
    let owed = subst (λ (k : ℕ). IsOwed k old.seen ready) pass.settings.shards (owed-by p ready can) in
    let here = was-appended numbers m client old new s taken settings pass subscribed denied ready mine owed lawful from known knows d adds most in
    let seen = subst (λ (k : ℕ). IsAnswered (known_of p) (Call.append ready) (append_answered (answer_of d known knows))
    (known_of (passed m client new k subscribed taken (denials_after denied d) settings))) (sym whole) here in
    let denies = subst (λ (k : ℕ). IsAnswered (known_of p) (Call.append ready) (append_answered (answer_of d known knows))
    (known_of (passed m client new n subscribed taken k settings))) (sym counted) seen in
    subst (λ (a : Result ℕ StoreAppendError). IsAnswered (known_of p) (Call.append ready) (append_answered a)
    (known_of (passed m client new n subscribed taken denied' settings))) (sym is) denies
