-- The changes of a span of commits.
use Rattle.std.specs.Prelude.{ℕ, List, Option, Result, IfOk, IfSome}
use Rattle.rdt_types.specs.declared.address.Address.{Address}
use Rattle.change_feed.specs.declared.tail.Tail.{Tail}
use Rattle.txn_lang.specs.States.{Journal}
use Rattle.journal_core.specs.Changes.{changes, between, of_address, of_shard}
use Rattle.journal_core.specs.Tails.{HasAll}
use Rattle.diamond_store.specs.Numbers.{shards_in}
use Rattle.diamond_store.specs.declared.span.Span.{Span}

-- a tail has the changes of a journal's commits past one number and up to another
abbrev pub HasBetween : ℕ → ℕ → Journal → Tail → Type 0
HasBetween from to journal = HasAll from to (between from to (changes journal))

-- a tail has the changes of a span of a journal's commits
abbrev pub HasSpan : Span → Journal → Tail → Type 0
HasSpan span journal = HasBetween span.from span.to journal

-- it has those of them that are in a shard of the store
abbrev pub HasSpanInShard : List ℕ → ℕ → Span → Journal → Tail → Type 0
HasSpanInShard numbers place span journal =
    HasAll span.from span.to (of_shard (shards_in numbers) place (between span.from span.to (changes journal)))

-- it has those of them that are at an address
abbrev pub HasSpanAt : Address → Span → Journal → Tail → Type 0
HasSpanAt address span journal = HasAll span.from span.to (of_address address (between span.from span.to (changes journal)))

-- where something was found, this holds of it
abbrev pub IfFound : {A E : Type 0} → Result (Option A) E → (A → Type 0) → Type 0
IfFound result P = IfOk result (λ found. IfSome found P)

-- where something was found, this holds
abbrev pub OnFound : {A E : Type 0} → Result (Option A) E → Type 0 → Type 0
OnFound result P = IfOk result (λ found. IfSome found (λ _. P))
