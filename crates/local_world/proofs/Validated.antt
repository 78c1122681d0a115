-- What a shard answers when it validates is what the store answers.
use Rattle.std.proofs.Common.{◌≡◌, ℕ, ◌-◌, List, None, Result, Ok, Err, IfOk, OnErr, refl, sym, ap, ◌∙◌}
use Rattle.std.specs.Prelude.{IsSome}
use Rattle.std.specs.List.{AllByRecursion}
use Rattle.std.specs.Option.{option_and_then}
use Rattle.abort_witness.specs.declared.witness.Based.{Based}
use Rattle.abort_witness.specs.declared.witness.Witness.{Witness}
use Rattle.abort_witness.specs.Kinds.{IsBasedOfOneKind}
use Rattle.txn_lang.specs.States.{Journal}
use Rattle.journal_core.specs.Pairs.{least_pair}
use Rattle.version_shard.specs.declared.prepared.Prepared.{Prepared}
use Rattle.version_shard.specs.declared.prepared.Refusal.{Refusal}
use Rattle.version_shard.specs.declared.prepared.Refusal.TheVariants as refusal
use Rattle.version_shard.specs.Shards.{Sharded}
use Rattle.version_shard.specs.Standing.{IsReadable}
use Rattle.version_shard.specs.Validating.{late, Validates}
use Rattle.docc_prepare.specs.Calls.{Answer, front_answered}
use Rattle.docc_prepare.specs.Serial.{IsOrderly}
use Rattle.docc_prepare.specs.Witnesses.{witness_of, least_witness}
use Rattle.docc_prepare.specs.Stores.{least_base, late_base, validated}
use Rattle.local_world.specs.Answering.{front_told}
use Rattle.local_world.proofs.Naming.{named-by-shard}

module _ (journal : Journal) (s : Sharded) (based : List Based) where
  -- what the store answers at the shard's front
  abbrev expected : Answer
  expected = validated s.number s.front (s.front - s.window) (late_base (s.front - s.window) (least_base based)) (least_witness based journal)

  -- so what the shard calls late the store does
  late-is : late s based ≡ late_base (s.front - s.window) (least_base based)
  late-is = refl

  -- without a late base and without a pair both answer the front
  pub as-ok : (p : Prepared) → Validates journal s based (Ok p) → Answer.prepared p ≡ expected
  as-ok p v =
      ap (λ x. Answer.prepared x) v.2
      ∙ ap (λ w. validated s.number s.front (s.front - s.window) None w) (sym (ap (option_and_then (witness_of based journal)) v.1))
      ∙ ap (λ o. validated s.number s.front (s.front - s.window) o (least_witness based journal)) (sym v.0 ∙ late-is)

  -- with a late base both name it and the horizon
  pub as-late : (base horizon : ℕ) → Validates journal s based (Err (refusal.Late base horizon)) → Answer.late base horizon ≡ expected
  as-late base horizon v =
      ap (Answer.late base) v.1
      ∙ ap (λ o. validated s.number s.front (s.front - s.window) o (least_witness based journal)) (sym v.0 ∙ late-is)

  -- without one, and with a pair, both answer its witness, which names the same
  pub as-clash : (w : Witness) → IsReadable journal → IsOrderly journal → AllByRecursion IsBasedOfOneKind based
      → Validates journal s based (Err (refusal.Clash w))
      → Answer.clash w ≡ expected
  as-clash w readable orderly kinds v =
      ap (λ x. validated s.number s.front (s.front - s.window) None x) (sym (named-by-shard based journal w readable orderly kinds v.1))
      ∙ ap (λ o. validated s.number s.front (s.front - s.window) o (least_witness based journal)) (sym v.0 ∙ late-is)

  -- so what is told of the shard's answer is what the store answers
  pub as-told : IsReadable journal → IsOrderly journal → AllByRecursion IsBasedOfOneKind based → (found : Result Prepared Refusal)
      → Validates journal s based found → IfOk (front_told found) (λ answer. front_answered answer ≡ expected)
  as-told readable orderly kinds (Ok p) v = as-ok p v
  as-told readable orderly kinds (Err (refusal.Late base horizon)) v = as-late base horizon v
  as-told readable orderly kinds (Err (refusal.Clash w)) v = as-clash w readable orderly kinds v
  as-told readable orderly kinds (Err refusal.NoMemory) v = tt

  -- and memory is wanted for the witness of a clash alone
  pub as-wanted : (found : Result Prepared Refusal) → Validates journal s based found
      → OnErr (front_told found) ((late s based ≡ None) × IsSome (least_pair based journal))
  as-wanted (Ok p) v = tt
  as-wanted (Err (refusal.Late base horizon)) v = tt
  as-wanted (Err (refusal.Clash w)) v = tt
  as-wanted (Err refusal.NoMemory) v = v
