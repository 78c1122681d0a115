-- What a shard answers of a journal for which it holds.
use Rattle.std.proofs.Common.{◌≡◌, ℕ, ◌+◌, ◌-◌, ◌≤◌, List, slice_get, Option, Some, None, IsSome, refl, sym, ap, ◌∙◌, subst, arith}
use Rattle.std.specs.List.{AllByRecursion}
use Rattle.abort_witness.specs.declared.witness.Based.{Based}
use Rattle.abort_witness.specs.declared.witness.Found.{Found}
use Rattle.abort_witness.specs.declared.witness.Witness.{Witness}
use Rattle.abort_witness.specs.Pairs.{least}
use Rattle.abort_witness.specs.Naming.{Names}
use Rattle.txn_lang.specs.States.{Journal}
use Rattle.journal_core.specs.Changes.{changes}
use Rattle.journal_core.specs.Pairs as counted
use Rattle.journal_core.specs.Pairs.{least_pair}
use Rattle.journal_core.proofs.Ordering.{least-is-first}
use Rattle.version_shard.specs.Bases.{least_base, late_base}
use Rattle.version_shard.specs.Versions.{as_change}
use Rattle.version_shard.specs.Shards.{Kept, Sharded, horizon, IsIn}
use Rattle.version_shard.specs.Standing.{Holds}
use Rattle.version_shard.specs.Validating.{late, NamesLeast}
use Rattle.version_shard.specs.code.Clashing.{Hit, least_hit, most_steps}
use Rattle.version_shard.proofs.Bases.{in_time}
use Rattle.version_shard.proofs.Clashes.{Finds, steps-same, all-found, Agree, agree, IfHit, IsFirst, hits-first, first-stands}

-- what the code finds by the horizon that it computed is what the shard answers
pub timely-by : (shard : Sharded) (based : List Based) (h : ℕ) → h ≡ horizon shard → None ≡ late_base h (least_base based) → late shard based ≡ None
timely-by shard based h is none = sym (none ∙ ap (λ n. late_base n (least_base based)) is)

module _ (journal : Journal) (shard : Sharded) (holds : Holds journal shard) (based : List Based)
    (here : AllByRecursion (λ b. IsIn shard b.address) based) (timely : late shard based ≡ None) where
  -- no base is late, so for each observation the shard finds what the journal has
  found : AllByRecursion (Finds shard.kept (changes journal)) based
  found = all-found journal shard holds based here (in_time (horizon shard) based timely)

  -- the journal is numbered, so the least pair in its changes is its first
  least-is : least based (changes journal) ≡ least_pair based journal
  least-is = least-is-first based journal holds.readable.numbered

  -- so the shard's least hit and the journal's least pair are one
  agrees : (o : Option Hit) → least_hit shard.kept based ≡ o → Agree 0 based o (least based (changes journal))
  agrees o e = subst (λ h. Agree 0 based h (least based (changes journal))) e (agree 0 shard.kept (changes journal) based found)

  -- without a hit there is no pair
  pub no-pair : least_hit shard.kept based ≡ None → least_pair based journal ≡ None
  no-pair e = sym least-is ∙ by (least based (changes journal)) (agrees None e)
    where
      by : (f : Option Found) → Agree 0 based None f → f ≡ None
      by None a = refl
      by (Some f) a = absurd a

  -- with one there is one
  pub some-pair : (hit : Hit) → least_hit shard.kept based ≡ Some hit → IsSome (least_pair based journal)
  some-pair hit e = subst (λ o. IsSome o) least-is (by (least based (changes journal)) (agrees (Some hit) e))
    where
      by : (f : Option Found) → Agree 0 based (Some hit) f → IsSome f
      by None a = absurd a
      by (Some f) a = refl

  -- and the hit names it
  pub names-least : (hit : Hit) (witness : Witness) → least_hit shard.kept based ≡ Some hit → Names hit.0 (as_change hit.0.address hit.1) witness
      → NamesLeast based journal witness
  names-least hit witness e names = by (least based (changes journal)) refl (agrees (Some hit) e)
    where
      first : IsFirst (changes journal) hit
      first = subst (λ o. IfHit (IsFirst (changes journal)) o) e (hits-first shard.kept (changes journal) based found)

      by : (f : Option Found) → least based (changes journal) ≡ f → Agree 0 based (Some hit) f → NamesLeast based journal witness
      by None is a = absurd a
      by (Some f) is a =
          let stands = first-stands hit.0 (changes journal) (as_change hit.0.address hit.1) first in
          let place : f.place ≡ f.place - 0 = omega arith in
          record {
            found = f;
            pair = record {
              observation = hit.0;
              change = as_change hit.0.address hit.1;
              index = stands.index;
              placed = ap (slice_get based) place ∙ a.2;
              among = stands.at;
              numbered = sym a.0;
              clashing = stands.clashing;
            };
            least = sym least-is ∙ is;
            names = names;
          }

  -- as many steps as there are versions past the bases are as many as there are changes past them
  pub few-steps : (kept : Kept) (old new : ℕ) → kept ≡ shard.kept → new ≤ old + most_steps kept based
      → new ≤ old + counted.most_steps based (changes journal)
  few-steps kept old new is few =
      let same = ap (λ (k : Kept). most_steps k based) is
      ∙ steps-same journal shard holds based here (in_time (horizon shard) based timely) in
      omega (arith, same, few)
