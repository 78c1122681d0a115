-- How the code follows a tail: change by change. `held-after` of proofs/Holding ties this to `Holds` of specs/Standing.
use Rattle.std.specs.Prelude.{◌≡◌, ℕ, ◌+◌, ◌-◌, ◌<◌, ◌≤◌, List, [], fold, take, drop, if◌then◌else◌}
use Rattle.std.specs.List.{AllByRecursion}
use Rattle.std.specs.BTreeMap.{is_at}
use Rattle.rdt_types.specs.declared.address.Address.{Address}
use Rattle.rdt_types.specs.Addresses.{address_cmp}
use Rattle.change_feed.specs.declared.change.Change.{Change}
use Rattle.change_feed.specs.declared.tail.Tail.{Tail}
use Rattle.journal_core.specs.Changes as journals
use Rattle.version_shard.specs.Versions.{Versioned, changed, trimmed, up_to}
use Rattle.version_shard.specs.Shards.{Kept, horizon_at, versions_of}

-- One change more, and what isn't readable once the commits before its own are followed is let go. So the shard can still go
-- back to before that commit.
abbrev pub followed : ℕ → Change → Versioned → Versioned
followed window change versions = trimmed (horizon_at window (change.number - 1)) (changed change.number change.delta versions)

-- the versions of an address after a change, which may be elsewhere
abbrev pub followed_at : ℕ → Address → Change → Versioned → Versioned
followed_at window address change versions = if is_at (address_cmp change.address) address then followed window change versions else versions

-- and after changes, one by one
abbrev pub followed_along : ℕ → Address → List Change → Versioned → Versioned
followed_along window address changes versions = fold (λ v change. followed_at window address change v) versions changes

-- and after the way back to a number
abbrev pub cut_along : ℕ → Address → List Change → Versioned → Versioned
cut_along number address changes versions = fold (λ v change. if is_at (address_cmp change.address) address then up_to number v else v) versions changes

-- something was done to the versions of each address
abbrev pub DoesToAll : (Address → Versioned → Versioned) → Kept → Kept → Type 0
DoesToAll does old new = (address : Address) → versions_of new address ≡ does address (versions_of old address)

-- changes were followed
abbrev pub Follows : ℕ → List Change → Kept → Kept → Type 0
Follows window changes old new = DoesToAll (λ address. followed_along window address changes) old new

-- There was no memory for the change at a place, of the commit with this number. Those before it, of that commit or earlier
-- ones, were followed; the others are of that commit or later ones.
pub record StopsAt (window : ℕ) (tail : Tail) (number : ℕ) (old new : Kept) : Type 0 where
  pub count : ℕ
  pub past : tail.from < number
  pub within : number ≤ tail.to
  pub before : AllByRecursion (λ change. change.number ≤ number) (take count tail.changes)
  pub behind : AllByRecursion (λ change. number ≤ change.number) (drop count tail.changes)
  pub versions : Follows window (take count tail.changes) old new

-- A front was reached: so many changes were followed, all of commits up to the front or the next, the versions past the front
-- were taken back, and the other changes are past it.
pub record Reaches (window : ℕ) (changes : List Change) (front : ℕ) (old new : Kept) : Type 0 where
  pub count : ℕ
  pub near : AllByRecursion (λ change. change.number ≤ front + 1) (take count changes)
  pub rest : journals.up_to front (drop count changes) ≡ []
  pub versions : (address : Address) → versions_of new address ≡ up_to front (followed_along window address (take count changes) (versions_of old address))
