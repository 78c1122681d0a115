-- Runs in steps, over any memory: what a step gives, what stops it, and what each step may do.
use Rattle.std.specs.Prelude.{◌≡◌, ℕ, ◌+◌, nat_le, if◌then◌else◌, [], ◌∷◌, ◌++◌, Option, Some, None, refl}
use Rattle.rdt_types.specs.declared.address.Address.{Address}
use Rattle.rdt_types.specs.declared.operation.WriteOp.{WriteOp}
use Rattle.rdt_types.specs.declared.outcome.Item.{Item}
use Rattle.conflict_table.specs.declared.read.ReadOp.{ReadOp}
use Rattle.txn_lang.specs.declared.limits.TheConstants.{TICK_LIMIT, LOAD_LIMIT}
use Rattle.txn_lang.specs.declared.progress.Stop.{Stop}
use Rattle.txn_lang.specs.declared.progress.Stop.TheVariants as stop
use Rattle.txn_lang.specs.declared.progress.Progress.{Progress}

-- A memory answers reads and takes writes. It answers nothing where it needs the value at the address.
pub record Memory (M : Type 0) : Type 0 where
  pub read : ReadOp → Address → M → Option (Item × M)
  pub write : Address → WriteOp → M → M

-- a step gives something, or it stops the run; the run has come so far
pub data Step (M A : Type 0) : Type 0 where
  stopped : Stop → Progress M → Step M A
  gives : A → Progress M → Step M A

-- what goes on from how far a run is
abbrev pub Stepping : Type 0 → Type 0 → Type 0
Stepping M A = Progress M → Step M A

-- the limits, with their numbers
TICK_LIMIT-is : TICK_LIMIT ≡ 10000
TICK_LIMIT-is = refl

LOAD_LIMIT-is : LOAD_LIMIT ≡ 16384
LOAD_LIMIT-is = refl

module _ {M : Type 0} where
  abbrev pub and_then : {A B : Type 0} → Step M A → (A → Stepping M B) → Step M B
  and_then (stopped s p) f = stopped s p
  and_then (gives x p) f = f x p

  infixl 10 ◌>>=◌
  abbrev pub ◌>>=◌ : {A B : Type 0} → Stepping M A → (A → Stepping M B) → Stepping M B
  s >>= f = λ p. and_then (s p) f

  -- nothing is done, and this is given
  abbrev pub pure : {A : Type 0} → A → Stepping M A
  pure x = λ p. gives x p

  -- the run stops
  abbrev pub stop_by : {A : Type 0} → Stop → Stepping M A
  stop_by s = λ p. stopped s p

  -- Ticks are charged. The charge that would bring their sum above the limit ends the run.
  abbrev pub charge : ℕ → Stepping M (Unit {0})
  charge n = λ p. if nat_le (p.ticks + n) TICK_LIMIT then gives tt (record p { ticks = p.ticks + n }) else stopped stop.Spent p

  -- What is written and emitted is a load. The statement that would bring it above the limit ends the run.
  abbrev pub carry : ℕ → Stepping M (Unit {0})
  carry n = λ p. if nat_le (p.load + n) LOAD_LIMIT then gives tt (record p { load = p.load + n }) else stopped stop.Big p

  -- an item more is emitted
  abbrev pub emit : Item → Stepping M (Unit {0})
  emit i = λ p. gives tt (record p { emitted = p.emitted ++ i ∷ [] })

  -- what a read answered, or the stop where its value isn't known
  abbrev pub answered : {A : Type 0} → Address → Option (A × M) → Stepping M A
  answered a None = λ p. stopped (stop.Need a) p
  answered a (Some x) = λ p. gives x.0 (record p { memory = x.1 })

  module _ (m : Memory M) where
    abbrev pub read_at : ReadOp → Address → Stepping M Item
    read_at r a = λ p. answered a (m.read r a p.memory) p

    abbrev pub write_at : Address → WriteOp → Stepping M (Unit {0})
    write_at a o = λ p. gives tt (record p { memory = m.write a o p.memory })
