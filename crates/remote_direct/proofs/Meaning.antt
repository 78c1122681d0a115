-- What may be asked has a meaning.
use Rattle.std.proofs.Common.{◌≡◌, ℕ, true, cond, ◌&&◌, List, length, refl, sym, ap, ◌∙◌, arith}
use Rattle.std.specs.Prelude.{◌==◌, nat_le, nat_lt}
use Rattle.std.proofs.lemmas.Bool.Decides.{nat_tests}
use Rattle.rdt_types.specs.declared.address.Address.{Address}
use Rattle.rdt_types.specs.Shards.{shard_of}
use Rattle.conflict_table.specs.Observing.{kind_observed}
use Rattle.abort_witness.specs.declared.witness.Based.{Based}
use Rattle.txn_lang.specs.declared.limits.TheConstants.{TEXT_LIMIT}
use Rattle.txn_lang.specs.Short.{IsShortAddress, text_in}
use Rattle.journal_core.specs.declared.ready.Ready.{Ready}
use Rattle.docc_prepare.specs.Calls.{Known, Call}
use Rattle.docc_prepare.specs.Backends.{CanValidate, CanPrepare, CanCall}
use Rattle.docc_prepare.proofs.Each.{each-more}
use Rattle.remote_wire.specs.declared.request.Request.{Request}
use Rattle.remote_wire.specs.declared.request.Request.TheVariants as request
use Rattle.remote_calls.specs.Spelled.{request_for, bases_of}
use Rattle.remote_calls.specs.Calling.{CanAsk}
use Rattle.remote_service.specs.declared.service.Service.{Service}
use Rattle.remote_service.specs.Keeping.{was_given}
use Rattle.remote_service.specs.Malformed.{Meaning, if_so, is_short, are_short, is_of_its_kind, is_valid, are_valid, are_few, can_prepare, appending, meaning}
use Rattle.remote_service.specs.Anew.{made_anew}
use Rattle.remote_service.proofs.Suiting.{both, same_number, same_kind}
use Rattle.remote_direct.specs.Directing.{known_at, IsBeside, with_fronts}
use Rattle.remote_direct.specs.Laws.{Means, WhatMayBeAskedIsMeant}
use Rattle.remote_direct.proofs.Anew.{all-pass, made-anew}

-- ---- tests that are passed

short-passes : (address : Address) → IsShortAddress address → is_short address ≡ true
short-passes address h = grind (arith, nat_tests, h)

module _ (s : Service) (k : Known) where
  -- what may be validated of what is kept
  valid-passes : (shard : ℕ) (b : Based) → CanValidate (known_at k s) shard b → is_valid s.snaps k.shards shard b ≡ true
  valid-passes shard b h =
      let text = h.short.text in
      both (shard_of b.address k.shards == shard) (is_of_its_kind b && (are_short b && was_given s.snaps b.address b.base))
      (same_number (shard_of b.address k.shards) shard h.here)
      (both (is_of_its_kind b) (are_short b && was_given s.snaps b.address b.base) (same_kind (kind_observed b.obs) b.address.kind h.one_kind.observed)
      (both (are_short b) (was_given s.snaps b.address b.base)
      (both (is_short b.address) (nat_le (length (text_in b.obs)) TEXT_LIMIT) (short-passes b.address h.short.key) (grind (arith, nat_tests, text)))
      h.given.1))

  prepare-passes : (shard : ℕ) (observed : List Based) → CanPrepare (known_at k s) shard observed → can_prepare s.snaps k.shards shard observed ≡ true
  prepare-passes shard observed h =
      let below = h.below in let few = h.few in
      both (nat_lt shard k.shards) (are_few observed && are_valid s.snaps k.shards shard observed) (grind (arith, nat_tests, below))
      (both (are_few observed) (are_valid s.snaps k.shards shard observed) (grind (arith, nat_tests, few))
      (all-pass (is_valid s.snaps k.shards shard) observed
      (each-more (CanValidate (known_at k s) shard) (λ b. is_valid s.snaps k.shards shard b ≡ true) observed (λ b v. valid-passes shard b v) h.each)))

  -- ---- what calls mean

  module _ (beside : IsBeside s k) where
    append-means : (ready : Ready) → CanCall (known_at k s) (Call.append ready) → Means s k (Call.append ready)
    append-means ready can =
        let m = made-anew s k beside.tells.journal ready beside.tells.told beside.serves can in record {
          call = Call.append (with_fronts ready m.1.0);
          meant = ap (λ b. cond b (appending (made_anew s k.client k.shards ready.body (bases_of ready.based))) Meaning.malformed)
              (same_number ready.seq s.seq m.0)
              ∙ ap appending m.1.1;
          same = (m.1.0, refl);
        }

    pub means : (c : Call) → CanCall (known_at k s) c → Means s k c
    means Call.refresh can = record { call = Call.refresh; meant = refl; same = refl }
    means (Call.read address) can =
        record { call = Call.read address; meant = ap (λ b. if_so b (Call.read address)) (short-passes address can); same = refl }
    means (Call.prepare shard observed) can = record {
      call = Call.prepare shard observed;
      meant = ap (λ b. if_so b (Call.prepare shard observed)) (prepare-passes shard observed can);
      same = refl;
    }
    means (Call.append ready) can = append-means ready can
    means (Call.read_at address number) can = let within = can.1 in record {
      call = Call.read_at address number;
      meant = ap (λ b. if_so b (Call.read_at address number))
          (both (is_short address) (nat_le number k.seen) (short-passes address can.0) (grind (arith, nat_tests, within)));
      same = refl;
    }
    means (Call.subscribe address) can =
        record { call = Call.subscribe address; meant = ap (λ b. if_so b (Call.subscribe address)) (short-passes address can); same = refl }
    means (Call.unsubscribe address) can =
        record { call = Call.unsubscribe address; meant = ap (λ b. if_so b (Call.unsubscribe address)) (short-passes address can); same = refl }
    means Call.take can = record { call = Call.take; meant = refl; same = refl }
    means Call.wait can = record { call = Call.wait; meant = refl; same = refl }

    -- ---- nothing that may be asked is malformed

    spelled-never : (c : Call) (asked : Request) → CanCall (known_at k s) c → request_for c ≡ asked → meaning s k asked ≡ Meaning.malformed → ⊥
    spelled-never c asked can spelled bad =
        let m = means c can in
        let clash : Meaning.calling m.call ≡ Meaning.malformed = sym m.meant ∙ (ap (meaning s k) spelled ∙ bad) in
        absurd (cc)

    pub never : (asked : Request) → CanAsk (known_at k s) asked → meaning s k asked ≡ Meaning.malformed → ⊥
    never request.Hello can bad = absurd (cc)
    never asked can bad = spelled-never can.call asked can.can can.spelled bad

pub what-may-be-asked-is-meant : WhatMayBeAskedIsMeant
what-may-be-asked-is-meant = record { meant = λ s k c beside can. means s k beside c can; never = λ s k asked beside can bad. never s k beside asked can bad }
