use Rattle.std.proofs.Common.{◌≡◌, ℕ}
use Rattle.rdt_types.specs.declared.address.Address.{Address}
use Rattle.reactive_registry.specs.Places.{links, without_links}
use Rattle.reactive_registry.proofs.places.Places.drop_subscriber.Given as goal

-- the subscriber stands nowhere, and the others where they stood
abbrev pub invariant-loop-address : goal.invariant-loop-address
invariant-loop-address l = (a : Address) (s : ℕ) → links l.self a s ≡ without_links l.fn.self l.subscriber a s
