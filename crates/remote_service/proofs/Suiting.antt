-- When an answer is one to its request.
use Rattle.std.proofs.Common.{◌≡◌, ◌≤◌, ℕ, Bool, true, false, ◌&&◌, refl, subst, arith}
use Rattle.std.specs.Prelude.{◌==◌, nat_le}
use Rattle.std.proofs.lemmas.Bool.Decides.{nat_tests}
use Rattle.rdt_types.specs.declared.address.Kind.{Kind}
use Rattle.rdt_types.specs.declared.address.Kind.TheVariants as kind
use Rattle.rdt_types.specs.declared.limits.TheConstants.{LEAST_SHARDS, MOST_SHARDS}
use Rattle.rdt_types.specs.contracts.address.KindPartialEq.TheImpl as kinds
use Rattle.rdt_types.specs.Values.{kind_written}
use Rattle.conflict_table.specs.Observing.{kind_observed}
use Rattle.abort_witness.specs.declared.witness.Witness.{Witness}
use Rattle.abort_witness.specs.Kinds.{IsOfOneKind}
use Rattle.remote_wire.specs.Answers.{are_shards, is_of_one_kind}

-- where two tests pass
pub both : (a b : Bool) → a ≡ true → b ≡ true → (a && b) ≡ true
both true b h g = g
both false b h g = h

-- a number passes the test of the same number
pub same_number : (m n : ℕ) → m ≡ n → (m == n) ≡ true
same_number m n e = grind (arith, nat_tests, e)

-- a kind passes its own test
kind-itself : (a : Kind) → kinds.ghosts.eq a a ≡ true
kind-itself kind.Bool = refl
kind-itself kind.Counter = refl
kind-itself kind.Text = refl
kind-itself kind.Set = refl
kind-itself kind.Hash = refl
kind-itself kind.List = refl
kind-itself kind.Peak = refl

pub same_kind : (a b : Kind) → a ≡ b → kinds.ghosts.eq a b ≡ true
same_kind a b e = subst (λ c. kinds.ghosts.eq a c ≡ true) e (kind-itself a)

-- so many shards as a store may have
pub in_range : (n : ℕ) → (LEAST_SHARDS ≤ n) × (n ≤ MOST_SHARDS) → are_shards n ≡ true
in_range n h = let least = h.0 in let most = h.1 in
    both (nat_le LEAST_SHARDS n) (nat_le n MOST_SHARDS) (grind (arith, nat_tests, least)) (grind (arith, nat_tests, most))

-- a witness of one kind
pub of_one_kind : (w : Witness) → IsOfOneKind w → is_of_one_kind w ≡ true
of_one_kind w h = both _ _ (same_kind (kind_observed w.obs) w.address.kind h.observed) (same_kind (kind_written w.part) w.address.kind h.written)
