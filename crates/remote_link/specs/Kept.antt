-- What the end of a link keeps of what was answered, and whether it can still be asked.
use Rattle.std.specs.Prelude.{◌≡◌, ℕ, Bool, List, [], refl}
use Rattle.std.specs.List.{list_any}
use Rattle.std.specs.BTreeMap.{is_at}
use Rattle.dio_core.specs.Counts.{one_more}
use Rattle.rdt_types.specs.declared.address.Address.{Address}
use Rattle.rdt_types.specs.declared.limits.TheConstants.{LEAST_SHARDS}
use Rattle.rdt_types.specs.Addresses.{address_cmp}
use Rattle.remote_wire.specs.declared.request.Request.{Request}
use Rattle.remote_wire.specs.declared.request.Request.TheVariants as request
use Rattle.remote_wire.specs.declared.answer.Given.{Given}
use Rattle.remote_link.specs.Linking.{Linked, linked_behind}

-- what is kept of a client
pub record Kept : Type 0 where
  pub client : ℕ
  pub shards : ℕ
  pub seen : ℕ
  pub taken : ℕ
  pub denied : ℕ
  pub faults : ℕ
  pub subscribed : List Address

-- whether an address is among some
abbrev pub is_in : List Address → Address → Bool
is_in addresses address = list_any (is_at (address_cmp address)) addresses

-- of a client that wasn't greeted yet
abbrev pub nothing_kept : Kept
nothing_kept = record { client = 0; shards = LEAST_SHARDS; seen = 0; taken = 0; denied = 0; faults = 0; subscribed = [] }

-- as what a client over a link has to keep
abbrev pub linked_of : Kept → Linked
linked_of k = record {
  client = k.client;
  shards = k.shards;
  seen = k.seen;
  taken = k.taken;
  denied = k.denied;
  faults = k.faults;
  subscribed = λ address. is_in k.subscribed address;
}

-- with a fault that is counted
abbrev pub one_fault_more : Kept → Kept
one_fault_more k = record k { faults = one_more k.faults }

-- what was answered is kept
abbrev pub TakesIn : Kept → Request → ℕ → Given → Kept → Type 0
TakesIn old asked seen given new = linked_of new ≡ linked_behind (linked_of old) asked (record { seen = seen; given = given })

-- an answer to a subscription is kept beside those before it, for which memory is asked; to no other request is it
abbrev pub IsSubscription : Request → Type 0
IsSubscription (request.Subscribe address) = Unit {0}
IsSubscription asked = ⊥

IsSubscription-example : IsSubscription request.Take ≡ ⊥
IsSubscription-example = refl
