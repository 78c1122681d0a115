-- The commits with which a store may be opened.
use Rattle.std.specs.Prelude.{◌≡◌, ℕ, ◌+◌, ◌<◌, max, fold, [], All, refl}
use Rattle.history_lock.specs.declared.limits.TheConstants.{LAST_FIRST}
use Rattle.journal_core.specs.declared.limits.TheConstants.{FIRST_UNTOLD_CLIENT}
use Rattle.txn_lang.specs.States.{Journal, put_and_add}

-- their clients' numbers leave room for others
abbrev pub AreClients : Journal → Type 0
AreClients kept = All (λ commit. commit.client < LAST_FIRST) kept

-- one past the greatest client of some commits, or 0 where there is none: so the clients that come are numbered from there
abbrev pub past_clients : Journal → ℕ
past_clients kept = fold (λ past commit. max past (commit.client + 1)) 0 kept

past_clients-of_none : past_clients [] ≡ 0
past_clients-of_none = refl

-- the second of the two commits is that of client 9
past_clients-example : past_clients put_and_add ≡ 10
past_clients-example = refl

-- a keeper's list tells of exactly the clients that so leave room
LAST_FIRST-is-untold : LAST_FIRST ≡ FIRST_UNTOLD_CLIENT
LAST_FIRST-is-untold = refl
