-- What a payload has room for: numbers of eight bytes, and lists whose length four bytes tell. All that a program holds
-- has numbers of these widths.
use Rattle.std.specs.Prelude.{ℤ, ◌<◌, ◌^◌, FitsSigned, List, length}
use Rattle.std.specs.Int.{w64}
use Rattle.std.specs.List.{AllByRecursion}
use Rattle.std.specs.FinMap as map
use Rattle.rdt_types.specs.declared.delta.Delta.{Delta}
use Rattle.rdt_types.specs.declared.delta.Delta.TheVariants as delta
use Rattle.rdt_types.specs.declared.outcome.Item.{Item}
use Rattle.rdt_types.specs.declared.outcome.Item.TheVariants as item
use Rattle.rdt_types.specs.declared.outcome.Outcome.{Outcome}
use Rattle.rdt_types.specs.declared.outcome.Outcome.TheVariants as outcome
use Rattle.rdt_types.specs.Keyed.{Keyed}
use Rattle.rdt_types.specs.Listed.{Listed}
use Rattle.txn_lang.specs.declared.commit.Commit.{Commit}

-- nothing is asked
abbrev pub Always : {A : Type 0} → A → Type 0
Always x = Unit {0}

-- a list whose length four bytes tell
abbrev pub HasCount : {A : Type 0} → List A → Type 0
HasCount items = length items < 2 ^ 32

-- a number of eight bytes, with a sign
abbrev pub IsInt : ℤ → Type 0
IsInt n = FitsSigned w64 n

-- a list whose length four bytes tell, of things for which there is room
abbrev pub HaveRoom : {A : Type 0} → (A → Type 0) → List A → Type 0
HaveRoom HasRoom items = HasCount items × AllByRecursion HasRoom items

-- both of a pair
abbrev pub Both : {A B : Type 0} → (A → Type 0) → (B → Type 0) → A × B → Type 0
Both First Second pair = First pair.0 × Second pair.1

-- an emitted value
abbrev pub ItemHasRoom : Item → Type 0
ItemHasRoom (item.Int n) = IsInt n
ItemHasRoom (item.Texts texts) = HasCount texts
ItemHasRoom _ = Unit {0}

-- an outcome
abbrev pub OutcomeHasRoom : Outcome → Type 0
OutcomeHasRoom (outcome.Ok items) = HaveRoom ItemHasRoom items
OutcomeHasRoom _ = Unit {0}

-- a change of a set or a hash
abbrev pub KeyedHasRoom : {M : Type 0} → Keyed M → Type 0
KeyedHasRoom d = HasCount (map.entries d.marks)

-- a change of a list
abbrev pub ListedHasRoom : Listed → Type 0
ListedHasRoom d = HasCount (map.entries d.removed) × HasCount d.pushed

-- a delta
abbrev pub DeltaHasRoom : Delta → Type 0
DeltaHasRoom (delta.PutCounter n) = IsInt n
DeltaHasRoom (delta.AddCounter n) = IsInt n
DeltaHasRoom (delta.Set d) = KeyedHasRoom d
DeltaHasRoom (delta.Hash d) = KeyedHasRoom d
DeltaHasRoom (delta.List d) = ListedHasRoom d
DeltaHasRoom (delta.Raise n) = IsInt n
DeltaHasRoom _ = Unit {0}

-- ---- a commit

-- what a commit's payload has room for
pub record HasRoom (commit : Commit) : Type 0 where
  pub number : commit.number < 2 ^ 64
  pub client : commit.client < 2 ^ 32
  pub seq : commit.seq < 2 ^ 64
  pub outcome : OutcomeHasRoom commit.outcome
  pub deltas : HaveRoom (Both Always DeltaHasRoom) commit.deltas
