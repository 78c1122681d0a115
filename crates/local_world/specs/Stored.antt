-- What callers see of a world, and the store that it is.
use Rattle.std.specs.Prelude.{ℕ, List, refl}
use Rattle.std.specs.Coded.{Coded, code_by, coded×, coded_list, coded_ℕ}
use Rattle.std.specs.Option.{option_map_or}
use Rattle.txn_lang.specs.declared.commit.Commit.{Commit}
use Rattle.txn_lang.specs.States.{Journal}
use Rattle.reactive_registry.specs.Registered.{Registered, kept_of, is_subscribed}
use Rattle.docc_prepare.specs.Stores.{Store}

-- a world: its settings, the journal, the front of each shard, what each client has seen, and who is told of what
pub record Stored : Type 0 where
  pub shards : ℕ
  pub window : ℕ
  pub limit : ℕ
  pub journal : Journal
  pub fronts : List ℕ
  pub seens : List ℕ
  pub registry : Registered

-- it is stored as the tuple of its fields
abbrev pub stored_code : Coded Commit → Coded Registered → Coded Stored
stored_code commit registered =
    code_by (ℕ × (ℕ × (ℕ × (Journal × (List ℕ × (List ℕ × Registered))))))
    (coded× coded_ℕ (coded× coded_ℕ (coded× coded_ℕ (coded× (coded_list commit) (coded× (coded_list coded_ℕ) (coded× (coded_list coded_ℕ) registered))))))
    (λ s. (s.shards, (s.window, (s.limit, (s.journal, (s.fronts, (s.seens, s.registry)))))))
    (λ p. record {
      shards = p.0;
      window = p.1.0;
      limit = p.1.1.0;
      journal = p.1.1.1.0;
      fronts = p.1.1.1.1.0;
      seens = p.1.1.1.1.1.0;
      registry = p.1.1.1.1.1.1;
    }) (λ _. refl)

-- up to which commit a client has taken
abbrev pub taken_by : Registered → ℕ → ℕ
taken_by registry client = option_map_or (λ kept. kept.taken) (kept_of registry client) 0

-- The store that a world is: who is told of what, and what was taken, is what the registry keeps.
abbrev pub store_of : Stored → Store
store_of s = record {
  shards = s.shards;
  window = s.window;
  limit = s.limit;
  journal = s.journal;
  fronts = s.fronts;
  seens = s.seens;
  subscribed = λ client address. is_subscribed s.registry client address;
  taken = λ client. taken_by s.registry client;
}
