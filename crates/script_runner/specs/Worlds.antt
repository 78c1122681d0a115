-- The world of a script in code, and what it keeps to between its lines.
use Rattle.std.specs.Prelude.{◌≡◌, ℕ, ◌+◌, length, IfSome, refl}
use Rattle.rdt_types.specs.declared.settings.Settings.{Settings}
use Rattle.txn_grammar.specs.Characters.{Text}
use Rattle.docc_prepare.specs.declared.limits.TheConstants.{CLIENTS}
use Rattle.docc_prepare.specs.Stores.{IsSound, known_by}
use Rattle.local_world.specs.Stored.{store_of}
use Rattle.session_core.specs.Holding.{Attends}
use Rattle.script_runner.specs.declared.words.TheConstants.{LAST_CLIENT}
use Rattle.script_runner.specs.declared.world.Script.{Script}
use Rattle.script_runner.specs.Play.{ScriptWorld, session_of, play}

-- the world that a script has
abbrev pub world_of : Script → ScriptWorld
world_of script = record { store = store_of script.world; sessions = script.sessions.items }

-- The store is sound, there is a place for each client, and each session attends its client's backend.
pub record Stands (world : ScriptWorld) : Type 0 where
  pub sound : IsSound world.store
  pub places : length world.sessions ≡ CLIENTS
  pub attend : (client : ℕ) → IfSome (session_of world client) (Attends (known_by world.store client))

-- the clients are those from 0 to the last one that a line may name
CLIENTS-are : CLIENTS ≡ LAST_CLIENT + 1
CLIENTS-are = refl

-- EVERY SCRIPT LEAVES A WORLD THAT STANDS, whatever its lines are. So its journal is legal; no shard has followed past the journal's
-- end, and no client has seen more; an open attempt fits the journal; and each watch's last run is its body's on what so many commits
-- leave.
abbrev pub ScriptsStand : Type 0
ScriptsStand = (settings : Settings) (bytes : Text) → Stands (play settings bytes).world
