-- What a shard answers, said of the journal whose first commits it holds.
use Rattle.std.proofs.Common.{◌≡◌, ℕ, ◌≤◌, List, length, take, Some, Result, Ok, Err, IfOk, OnErr}
use Rattle.std.proofs.Common.{◌∙◌, arith}
use Rattle.std.specs.List.{AllByRecursion}
use Rattle.std.proofs.lemmas.List.{length-take}
use Rattle.rdt_types.specs.declared.address.Address.{Address}
use Rattle.rdt_types.specs.declared.value.Value.{Value}
use Rattle.abort_witness.specs.declared.witness.Based.{Based}
use Rattle.abort_witness.specs.declared.witness.Witness.{Witness}
use Rattle.abort_witness.specs.Kinds.{IsBasedOfOneKind, IsOfOneKind}
use Rattle.txn_lang.specs.States.{Journal}
use Rattle.journal_core.specs.Pairs.{pairs}
use Rattle.version_shard.specs.Shards.{Sharded, horizon}
use Rattle.version_shard.specs.Standing.{Holds}
use Rattle.version_shard.specs.declared.at_error.AtError.{AtError}
use Rattle.version_shard.specs.declared.at_error.AtError.TheVariants as at_error
use Rattle.version_shard.specs.declared.prepared.Prepared.{Prepared}
use Rattle.version_shard.specs.declared.prepared.Refusal.{Refusal}
use Rattle.version_shard.specs.declared.prepared.Refusal.TheVariants as refusal
use Rattle.version_shard.specs.Validating.{NamesLeast, ReadsAt, Validates}
use Rattle.docc_prepare.specs.declared.backend.PrepareError.TheVariants as prepare_error
use Rattle.docc_prepare.specs.declared.backend.ReadAtError.TheVariants as read_at_error
use Rattle.docc_prepare.specs.Witnesses.{least_witness}
use Rattle.docc_prepare.proofs.LeastBase.{late-is}
use Rattle.docc_prepare.proofs.Missing.{none-of-least}
use Rattle.docc_prepare.proofs.Witnessed.{orderly-front, witness-of-front, witness-within}
use Rattle.local_world.proofs.Holding.{state-first}
use Rattle.local_world.proofs.Naming.{named-by-shard}
use Rattle.diamond_store.specs.Following.{IsSound}
use Rattle.local_world.specs.Answering.{value_told, WantsWitness}
use Rattle.diamond_store.specs.Reading.{Finds, ReadsBack, IfWanted, front_told}

-- ---- clashes

module _ (m : ℕ) (journal : Journal) (sound : IsSound m journal) (s : Sharded) (holds : Holds (take s.front journal) s) (within : s.front ≤ length journal)
    (bs : List Based) (kinds : AllByRecursion IsBasedOfOneKind bs) where
  -- a witness that a shard names is the journal's, and its commit is up to the front
  pub clash-is : (w : Witness) → NamesLeast bs (take s.front journal) w
      → (least_witness bs journal ≡ Some w) × (w.number ≤ s.front) × IsOfOneKind w
  clash-is w names =
      let orderly = orderly-front s.front journal sound.orderly in
      let first = named-by-shard bs (take s.front journal) w holds.readable orderly kinds names in
      let here = witness-within bs (take s.front journal) w orderly kinds first in
      let number = here.0 in
      let size = length-take s.front journal in
      (witness-of-front bs journal s.front w sound.orderly kinds first, omega arith, here.1)

-- what a shard finds, said of the journal whose first commits it holds
module _ (m : ℕ) (journal : Journal) (s : Sharded) (bs : List Based) where
  -- nothing is late and nothing clashes
  pub found-front : (p : Prepared) → AllByRecursion (λ b. b.base ≤ s.front) bs → Validates (take s.front journal) s bs (Ok p)
      → Finds journal s.window s.number bs s.front (Ok p)
  found-front p bases v = (v.2, bases, none-of-least (pairs bs (take s.front journal)) v.1)

-- a base is late
pub found-late : (journal : Journal) (s : Sharded) (bs : List Based) (base least : ℕ) → s.front ≤ length journal
    → Validates (take s.front journal) s bs (Err (refusal.Late base least)) → Finds journal s.window s.number bs s.front (Err (prepare_error.Late base least))
found-late journal s bs base least within v =
    let late = late-is (horizon s) bs base v.0 in
    let at = v.1 in
    let below = late.1 in
    (late.0, omega arith, omega arith)

-- a commit clashes
pub found-clash : (m : ℕ) (journal : Journal) → IsSound m journal → (s : Sharded) → Holds (take s.front journal) s → s.front ≤ length journal
    → (bs : List Based) → AllByRecursion IsBasedOfOneKind bs → (w : Witness) → Validates (take s.front journal) s bs (Err (refusal.Clash w))
    → Finds journal s.window s.number bs s.front (Err (prepare_error.Clash w))
found-clash m journal sound s holds within bs kinds w v = clash-is m journal sound s holds within bs kinds w v.1

-- ---- reads

-- the value at a number that isn't past the front is what so many commits leave
pub back-value : (journal : Journal) (s : Sharded) (a : Address) (n : ℕ) (value : Value) → n ≤ s.front → ReadsAt (take s.front journal) s a n (Ok value)
    → ReadsBack journal s.window a n (Ok value)
back-value journal s a n value within reads = reads.1 ∙ state-first journal n s.front a within

-- below the horizon it is late
pub back-late : (journal : Journal) (s : Sharded) (a : Address) (n asked least : ℕ) → s.front ≤ length journal
    → ReadsAt (take s.front journal) s a n (Err (at_error.Late asked least)) → ReadsBack journal s.window a n (Err (read_at_error.Late asked least))
back-late journal s a n asked least within reads =
    let below = reads.0 in
    let at = reads.2 in
    (reads.1, omega arith, omega arith)

-- so what is told of the shard's answer is what is so of the journal
pub back-told : (journal : Journal) (s : Sharded) (a : Address) (n : ℕ) → n ≤ s.front → s.front ≤ length journal → (r : Result Value AtError)
    → ReadsAt (take s.front journal) s a n r → IfOk (value_told r) (ReadsBack journal s.window a n)
back-told journal s a n below within (Ok value) reads = back-value journal s a n value below reads
back-told journal s a n below within (Err (at_error.Late asked least)) reads = back-late journal s a n asked least within reads
back-told journal s a n below within (Err at_error.NoMemory) reads = tt

-- and where memory is wanted it isn't late
pub back-wanted : (journal : Journal) (s : Sharded) (a : Address) (n : ℕ) (r : Result Value AtError) → ReadsAt journal s a n r
    → OnErr (value_told r) (horizon s ≤ n)
back-wanted journal s a n (Ok value) reads = tt
back-wanted journal s a n (Err (at_error.Late asked least)) reads = tt
back-wanted journal s a n (Err at_error.NoMemory) reads = reads

-- ---- what is told of what it finds

-- it is what is so of the journal
pub found-told : (m : ℕ) (journal : Journal) → IsSound m journal → (s : Sharded) → Holds (take s.front journal) s → s.front ≤ length journal
    → (bs : List Based) → AllByRecursion IsBasedOfOneKind bs → AllByRecursion (λ b. b.base ≤ s.front) bs → (r : Result Prepared Refusal)
    → Validates (take s.front journal) s bs r → Finds journal s.window s.number bs s.front (front_told r)
found-told m journal sound s holds within bs kinds bases (Ok p) v = found-front m journal s bs p bases v
found-told m journal sound s holds within bs kinds bases (Err (refusal.Late base least)) v = found-late journal s bs base least within v
found-told m journal sound s holds within bs kinds bases (Err (refusal.Clash w)) v = found-clash m journal sound s holds within bs kinds w v
found-told m journal sound s holds within bs kinds bases (Err refusal.NoMemory) v = tt

-- and memory is wanted for the witness of a clash alone
pub found-wanted : (journal : Journal) (s : Sharded) (bs : List Based) (r : Result Prepared Refusal) → Validates (take s.front journal) s bs r
    → IfWanted (front_told r) (WantsWitness journal s bs)
found-wanted journal s bs (Ok p) v = tt
found-wanted journal s bs (Err (refusal.Late base least)) v = tt
found-wanted journal s bs (Err (refusal.Clash w)) v = tt
found-wanted journal s bs (Err refusal.NoMemory) v = v
