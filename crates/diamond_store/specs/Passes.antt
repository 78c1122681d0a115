-- A client's pass, as contracts see it, and what it stands for.
use Rattle.std.specs.Prelude.{◌≡◌, ◌≤◌, ℕ, Bool, true, if◌then◌else◌, List, length, Some, refl}
use Rattle.std.specs.Coded.{Coded, code_by, coded×, coded_list, coded_ℕ}
use Rattle.std.specs.List.{list_any}
use Rattle.std.specs.BTreeMap.{is_at}
use Rattle.history_lock.specs.declared.known.Known as tokens
use Rattle.rdt_types.specs.declared.address.Address.{Address}
use Rattle.rdt_types.specs.declared.settings.Settings.{Settings}
use Rattle.rdt_types.specs.Addresses.{address_cmp}
use Rattle.txn_lang.specs.declared.commit.Commit.{Commit}
use Rattle.txn_lang.specs.States.{Journal}
use Rattle.docc_prepare.specs.Calls.{Known}
use Rattle.diamond_store.specs.Numbers.{HasSettings}

-- whether an address is among some
abbrev pub is_in : List Address → Address → Bool
is_in addresses address = list_any (is_at (address_cmp address)) addresses

-- whether one address is among some is settled, and the others are as before
abbrev pub SettlesAt : Address → Bool → List Address → List Address → Type 0
SettlesAt address there old new = (a : Address) → is_in new a ≡ (if is_at (address_cmp address) a then there else is_in old a)

-- a client, the prefix of the one journal that it knows, how much of that it has seen, to what it is subscribed and up to
-- where it has taken that, and the counts that it knows of
pub record Passed : Type 0 where
  pub client : ℕ
  pub journal : Journal
  pub seen : ℕ
  pub subscribed : List Address
  pub taken : ℕ
  pub denied : ℕ
  pub denials : ℕ
  pub draws : ℕ
  pub looks : ℕ
  pub shards : ℕ
  pub window : ℕ
  pub limit : ℕ
  pub trusted : ℕ

-- it is stored as the tuple of its fields
abbrev pub passed_code : Coded Commit → Coded Address → Coded Passed
passed_code commit address =
    code_by (ℕ × (Journal × (ℕ × (List Address × (ℕ × (ℕ × (ℕ × (ℕ × (ℕ × (ℕ × (ℕ × (ℕ × ℕ))))))))))))
    (coded× coded_ℕ (coded× (coded_list commit) (coded× coded_ℕ (coded× (coded_list address) (coded× coded_ℕ (coded× coded_ℕ (coded× coded_ℕ
    (coded× coded_ℕ (coded× coded_ℕ (coded× coded_ℕ (coded× coded_ℕ (coded× coded_ℕ coded_ℕ))))))))))))
    (λ p. (
      p.client,
      (
        p.journal,
        (
          p.seen,
          (
            p.subscribed,
            (
              p.taken,
              (p.denied, (p.denials, (p.draws, (p.looks, (p.shards, (p.window, (p.limit, p.trusted))))))),
            ),
          ),
        ),
      ),
    ))
    (λ t. record {
      client = t.0;
      journal = t.1.0;
      seen = t.1.1.0;
      subscribed = t.1.1.1.0;
      taken = t.1.1.1.1.0;
      denied = t.1.1.1.1.1.0;
      denials = t.1.1.1.1.1.1.0;
      draws = t.1.1.1.1.1.1.1.0;
      looks = t.1.1.1.1.1.1.1.1.0;
      shards = t.1.1.1.1.1.1.1.1.1.0;
      window = t.1.1.1.1.1.1.1.1.1.1.0;
      limit = t.1.1.1.1.1.1.1.1.1.1.1.0;
      trusted = t.1.1.1.1.1.1.1.1.1.1.1.1;
    }) (λ _. refl)

-- What the pass of a client with this token stands for.
abbrev pub passed : ℕ → ℕ → tokens.Known Commit → ℕ → List Address → ℕ → ℕ → Settings → Passed
passed trusted client token seen subscribed taken denied settings = record {
  client = client;
  journal = token.seen;
  seen = seen;
  subscribed = subscribed;
  taken = taken;
  denied = denied;
  denials = token.count;
  draws = token.draws;
  looks = token.looks;
  shards = settings.shards;
  window = settings.window;
  limit = settings.limit;
  trusted = trusted;
}

-- The token is the client's own, what was seen is within the prefix that it knows, no more was taken, no less than the commits with
-- which the store was made, and the settings are the store's.
pub record IsPass (numbers : List ℕ) (base client : ℕ) (token : tokens.Known Commit) (seen took : ℕ) (own : Settings) : Type 0 where
  pub author : token.author ≡ Some client
  pub within : seen ≤ length token.seen
  pub taken : took ≤ seen
  pub kept : base ≤ took
  pub settings : HasSettings numbers own

-- A pass, as the backend that it is. It never fails by a fault, and since each shard follows to what it is asked for, any
-- base that was seen and any front counts as given.
abbrev pub known_of : Passed → Known
known_of p = record {
  journal = Some p.journal;
  trusted = p.trusted;
  client = p.client;
  seen = p.seen;
  shards = p.shards;
  window = p.window;
  limit = p.limit;
  subscribed = λ address. is_in p.subscribed address;
  taken = p.taken;
  denied = p.denied;
  denials = p.denials;
  draws = p.draws;
  looks = p.looks;
  faults = 0;
  gave = λ address base. true;
  fronted = λ shard based front. true;
}
