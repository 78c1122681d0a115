-- What a shard holds as it follows, and as its token learns.
use Rattle.std.proofs.Common.{◌≡◌, ℕ, ◌≤◌, List, [], ◌∷◌, length, take, Result, Ok, Err, IfOk, refl, sym, ap, ◌∙◌, subst, arith}
use mathlib.Core.List.{IsPrefix}
use Rattle.rdt_types.specs.declared.settings.Settings.{Settings}
use Rattle.change_feed.specs.declared.tail.Tail.{Tail}
use Rattle.change_feed.specs.Feeds.{AreOfTheirKinds}
use Rattle.txn_lang.specs.States.{Journal}
use Rattle.journal_core.specs.Changes.{changes, between, of_shard}
use Rattle.journal_core.specs.Tails.{HasAll}
use Rattle.version_shard.specs.Shards.{Sharded}
use Rattle.version_shard.specs.Standing.{Holds, IsNext, empty}
use Rattle.version_shard.proofs.Legal.{tails-are-of-their-kinds}
use Rattle.diamond_store.specs.Following.{IsSound}
use Rattle.diamond_store.specs.Numbers.{shards_in, HasSettings}
use Rattle.diamond_store.specs.Replicas.{Replicates}
use Rattle.journal_relay.proofs.Prefixes.{length-prefix, take-prefix}

-- it holds the same commits of a longer journal
pub replicates-later : (numbers : List ℕ) (journal later : Journal) (place : ℕ) (s : Sharded) → Replicates numbers journal place s → IsPrefix journal later
    → Replicates numbers later place s
replicates-later numbers journal later place s r more = record {
  number = r.number;
  shards = r.shards;
  window = r.window;
  reached = (let w = r.reached in let l = length-prefix journal later more in omega arith);
  holds = subst (λ (first : Journal). Holds first s) (sym (take-prefix s.front journal later more r.reached)) r.holds;
}

-- the changes of a sound journal's tail are of their addresses' kinds
pub tail-kinds : (m : ℕ) (journal : Journal) (shards place from to : ℕ) (tail : Tail) → IsSound m journal
    → HasAll from to (of_shard shards place (between from to (changes journal))) tail → AreOfTheirKinds tail.changes
tail-kinds m journal shards place from to tail sound all =
    subst AreOfTheirKinds (sym all.exact) (tails-are-of-their-kinds journal shards place from to sound.orderly.kinds)

module _ (m : ℕ) (numbers : List ℕ) (journal : Journal) (place : ℕ) (sound : IsSound m journal) where
  -- a tail from its front on is what comes next
  is-next : (front to : ℕ) (s : Sharded) (tail : Tail) → Replicates numbers journal place s → front ≡ s.front → to ≤ length journal
      → HasAll front to (of_shard (shards_in numbers) place (between front to (changes journal))) tail → IsNext journal s tail
  is-next front to s tail r here within all = record {
    readable = sound.readable;
    within = subst (λ (n : ℕ). n ≤ length journal) (sym all.ends) within;
    exact = record {
      begins = all.begins ∙ here;
      ends = refl;
      exact =
          all.exact
          ∙ ap (λ (n : ℕ). of_shard n place (between front to (changes journal))) (sym r.shards)
          ∙ ap (λ (n : ℕ). of_shard s.shards n (between front to (changes journal))) (sym r.number)
          ∙ ap (λ (n : ℕ). of_shard s.shards s.number (between n to (changes journal))) here
          ∙ ap (λ (n : ℕ). of_shard s.shards s.number (between s.front n (changes journal))) (sym all.ends);
    };
  }

  -- one that has followed it holds the journal up to its new front
  pub replicates-followed : (front to : ℕ) (old new : Sharded) (tail : Tail) → Replicates numbers journal place old → front ≡ old.front
      → to ≤ length journal → HasAll front to (of_shard (shards_in numbers) place (between front to (changes journal))) tail
      → new ≡ record old { front = new.front; kept = new.kept } → new.front ≤ tail.to
      → ((j : Journal) → IsNext j old tail → Holds (take old.front j) old → Holds (take new.front j) new)
      → Replicates numbers journal place new
  replicates-followed front to old new tail r here within all same up holds = record {
    number = ap (λ (s : Sharded). s.number) same ∙ r.number;
    shards = ap (λ (s : Sharded). s.shards) same ∙ r.shards;
    window = ap (λ (s : Sharded). s.window) same ∙ r.window;
    reached = (let ends = all.ends in omega arith);
    holds = holds journal (is-next front to old tail r here within all) r.holds;
  }

-- ---- a shard that has followed nothing

-- a tail of nothing is what comes next for it in the journal without commits
next-nothing : (number shards window : ℕ) (tail : Tail) → tail.from ≡ 0 → tail.to ≡ 0 → tail.changes ≡ [] → IsNext [] (empty number shards window) tail
next-nothing number shards window tail from to none = record {
  readable = record { numbered = tt; rising = tt };
  within = omega arith;
  exact = record {
    begins = from;
    ends = refl;
    exact = none;
  };
}

-- the first 0 commits are none
take-none : (journal : Journal) → take 0 journal ≡ []
take-none [] = refl
take-none (commit ∷ journal) = refl

-- so it holds what it is to hold of every journal
pub replicates-empty : {E : Type 0} (numbers : List ℕ) (journal : Journal) (place : ℕ) (settings : Settings) (tail : Tail) (r : Result Sharded E)
    → HasSettings numbers settings → tail.from ≡ 0 → tail.to ≡ 0 → tail.changes ≡ []
    → IfOk r (λ s. s ≡ record (empty place settings.shards settings.window) { front = tail.to; kept = s.kept })
    → IfOk r (λ s. (j : Journal) → IsNext j (empty place settings.shards settings.window) tail → Holds (take tail.to j) s)
    → IfOk r (Replicates numbers journal place)
replicates-empty numbers journal place settings tail (Ok s) has from to none same holds =
    let front : s.front ≡ 0 = ap (λ (x : Sharded). x.front) same ∙ to in
    let first : Holds [] s = subst (λ (n : ℕ). Holds (take n []) s) to (holds [] (next-nothing place settings.shards settings.window tail from to none)) in
    record {
      number = ap (λ (x : Sharded). x.number) same;
      shards = ap (λ (x : Sharded). x.shards) same ∙ has.shards;
      window = ap (λ (x : Sharded). x.window) same ∙ has.window;
      reached = omega arith;
      holds = subst (λ (j : Journal). Holds j s) (sym (ap (λ (n : ℕ). take n journal) front ∙ take-none journal)) first;
    }
replicates-empty numbers journal place settings tail (Err e) has from to none same holds = tt
