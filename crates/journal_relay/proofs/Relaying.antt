-- What a relay stands for, as the journal grows and as it follows.
use Rattle.std.proofs.Common.{◌≡◌, ℕ, ◌≤◌, Bool, true, false, cond, List, [], ◌∷◌, ◌++◌, length, take, drop, refl, sym, ap, ◌∙◌, subst, arith}
use Rattle.std.specs.Prelude.{nat_le}
use Rattle.std.proofs.Math.Seq.{take-length}
use Rattle.std.proofs.lemmas.List.{append_assoc, take-append-drop, take-take}
use Rattle.std.proofs.lemmas.Bool.{le-leb}
use Rattle.std.proofs.lemmas.Bool.Decides.{nat_tests}
use mathlib.Core.List.{IsPrefix}
use Rattle.change_feed.specs.declared.change.Change.{Change}
use Rattle.change_feed.specs.declared.tail.Tail.{Tail}
use Rattle.txn_lang.specs.States.{Journal}
use Rattle.journal_core.specs.Changes.{changes_of, changes, past, up_to, between}
use Rattle.journal_core.specs.Pairs.{AreNumbered}
use Rattle.journal_core.proofs.ByShard.{changes-up_to, changes-between, numbered-take}
use Rattle.journal_relay.specs.Relays.{Relayed, Relays, RelaysStay, RelaysFollow, IsNextOf, begun}
use Rattle.journal_relay.proofs.Prefixes.{length-prefix, take-prefix}

-- ---- the journal grows

module _ (journal later : Journal) (more : IsPrefix journal later) (numbered : AreNumbered later) where
  -- what begins a numbered journal is numbered
  pub numbered-first : AreNumbered journal
  numbered-first =
      subst AreNumbered (take-prefix (length journal) journal later more (omega arith) ∙ take-length journal)
      (numbered-take 0 (length journal) later numbered)

  -- the first commits stay, so their changes do
  pub changes-first : (n : ℕ) → n ≤ length journal → up_to n (changes later) ≡ up_to n (changes journal)
  changes-first n within =
      changes-up_to n 0 n later (omega arith) numbered
      ∙ ap changes (take-prefix n journal later more within)
      ∙ sym (changes-up_to n 0 n journal (omega arith) numbered-first)

  -- so the relay stands for the longer journal
  pub relays-later : (relay : Relayed) → Relays journal relay → Relays later relay
  relays-later relay relays = record {
    reached = (let r = relays.reached in let l = length-prefix journal later more in omega arith);
    exact = relays.exact ∙ sym (changes-first relay.to relays.reached);
  }

  -- and what comes next of the journal comes next of the longer one
  pub next-later : (relay : Relayed) (tail : Tail) → IsNextOf journal relay tail → IsNextOf later relay tail
  next-later relay tail next = record {
    reached = (let r = next.reached in let l = length-prefix journal later more in omega arith);
    next = record {
      begins = next.next.begins;
      ends = refl;
      exact = next.next.exact ∙ ap (past relay.to) (sym (changes-first tail.to next.reached));
    };
  }

-- the law
pub relays_stay : RelaysStay
relays_stay journal later relay numbered more relays = relays-later journal later more numbered relay relays

-- ---- the relay follows

-- the changes of some commits and then others are theirs in turn
changes-append : (journal later : Journal) → changes (journal ++ later) ≡ changes journal ++ changes later
changes-append [] later = refl
changes-append (commit ∷ journal) later = ap (λ more. changes_of commit ++ more) (changes-append journal later)
    ∙ sym (append_assoc (changes_of commit) (changes journal) (changes later))

-- those up to a number, and then those up to another, are those up to the other
pub changes-split : (journal : Journal) (from to : ℕ) → from ≤ to → AreNumbered journal
    → up_to from (changes journal) ++ between from to (changes journal) ≡ up_to to (changes journal)
changes-split journal from to order numbered =
    let first : Journal = take to journal in
    ap (λ cs. cs ++ between from to (changes journal))
    (changes-up_to from 0 from journal (omega arith) numbered ∙ ap changes (sym (take-take from to journal order)))
    ∙ ap (λ cs. changes (take from first) ++ cs) (sym (changes-between from to journal numbered))
    ∙ sym (changes-append (take from first) (drop from first))
    ∙ ap changes (take-append-drop from first)
    ∙ sym (changes-up_to to 0 to journal (omega arith) numbered)

-- the law
pub relays_follow : RelaysFollow
relays_follow journal relay tail numbered relays next = record {
  reached = next.reached;
  exact =
      ap (λ cs. relay.changes ++ cs) next.next.exact
      ∙ ap (λ cs. cs ++ between relay.to tail.to (changes journal)) relays.exact
      ∙ changes-split journal relay.to tail.to (let r = tail.in_order.rises in let b = next.next.begins in omega (arith, r, b)) numbered;
}

-- one that has followed nothing stands for every journal
pub relays-nothing : (journal : Journal) → AreNumbered journal → Relays journal begun
relays-nothing journal numbered = record {
  reached = omega arith;
  exact = sym (changes-up_to 0 0 0 journal (omega arith) numbered ∙ ap changes (none journal));
}
  where
    none : (xs : Journal) → take 0 xs ≡ []
    none [] = refl
    none (x ∷ xs) = refl

-- ---- what it gives

-- what is up to a number is up to a greater one
up_to-up_to : (m n : ℕ) (all : List Change) → m ≤ n → up_to m (up_to n all) ≡ up_to m all
up_to-up_to m n [] order = refl
up_to-up_to m n (change ∷ rest) order = by (nat_le change.number n) refl (nat_le change.number m) refl (up_to-up_to m n rest order)
  where
    by : (a : Bool) → nat_le change.number n ≡ a → (b : Bool) → nat_le change.number m ≡ b → up_to m (up_to n rest) ≡ up_to m rest
        → up_to m (cond a (change ∷ up_to n rest) (up_to n rest)) ≡ cond b (change ∷ up_to m rest) (up_to m rest)
    by true s true t later = rw t (ap (λ l. change ∷ l) later)
    by true s false t later = rw t later
    by false s true t later = absurd (let low : change.number ≤ m = grind (arith, nat_tests, t) in let no : nat_le change.number n ≡ true = le-leb change.number n (omega (arith, low, order)) in cc)
    by false s false t later = later

-- between two numbers that it has reached it has what the journal has there
pub between-relayed : (journal : Journal) (relay : Relayed) (from to : ℕ) → Relays journal relay → to ≤ relay.to
    → between from to relay.changes ≡ between from to (changes journal)
between-relayed journal relay from to relays within =
    ap (past from) (ap (up_to to) relays.exact ∙ up_to-up_to to relay.to (changes journal) within)
