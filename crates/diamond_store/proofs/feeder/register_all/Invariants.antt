use Rattle.std.proofs.Common.{◌≡◌, true, ◌||◌, Some}
use mathlib.Core.List.{IsPrefix}
use Rattle.rdt_types.specs.declared.address.Address.{Address}
use Rattle.reactive_registry.specs.Registered.{is_subscribed}
use Rattle.diamond_store.specs.Feeders.{Tells, taken_of}
use Rattle.diamond_store.specs.Passes.{is_in}
use Rattle.diamond_store.proofs.feeder.register_all.Given as goal

-- each address is told already or is left
abbrev pub invariant-loop-address : goal.invariant-loop-address
invariant-loop-address g l = record {
  begins : IsPrefix l.fn.post.token.seen l.post.token.seen;
  tells : Tells l.post.token.seen l.post.registry;
  front : l.post.registry.front ≡ l.fn.post.registry.front;
  taken : taken_of l.post.registry l.fn.taker.client ≡ Some l.fn.taker.taken;
  told : (a : Address) → is_in l.fn.taker.addresses.now.keys a ≡ true → (is_subscribed l.post.registry l.fn.taker.client a || is_in l.address-iterator a) ≡ true;
}
