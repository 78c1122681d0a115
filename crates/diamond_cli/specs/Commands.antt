-- What the commands promise.
use Rattle.std.specs.Prelude.{◌≡◌, ℕ, Bool, List, [], ◌∷◌, Option, refl}
use denote.Bor.{Bor}
use Rattle.dio_core.specs.declared.sink.Sink.{Ghosts as SinkTells}
use Rattle.dio_core.specs.declared.source.Source.{Ghosts as SourceTells}
use Rattle.rdt_types.specs.declared.limits.TheConstants.{STANDARD_SHARDS, STANDARD_WINDOW, STANDARD_COMMITS}
use Rattle.rdt_types.specs.declared.settings.Settings.{Settings}
use Rattle.cli_words.specs.Forms.{Word}
use Rattle.script_runner.specs.Script.{Reading, Writing, KeepsPromises}
use Rattle.load_runner.specs.Loads.{Loads}
use Rattle.diamond_cli.specs.Words.{AsksRunWith, AsksServeWith, AsksServeFileWith, AsksAuditWith, AsksRemoteWith, AsksLoadWith}
use Rattle.diamond_server.specs.Accounts.{Gatherings}
use Rattle.diamond_server.specs.Promises.{sides}
use Rattle.diamond_cli.specs.Serving.{promised_of, ServesLinks, EndsLinks}
use Rattle.diamond_cli.specs.Filed.{Storing, ServesFile}
use Rattle.diamond_cli.specs.Audited.{Audits}
use Rattle.diamond_cli.specs.Reaching.{Reaches}
use Rattle.dio_core.specs.Links.{Both}

-- the settings of a store that is told none
standard-are : STANDARD_SHARDS ∷ STANDARD_WINDOW ∷ STANDARD_COMMITS ∷ [] ≡ 4 ∷ 4096 ∷ 100000 ∷ []
standard-are = refl

-- `run` keeps the promises of a run of a script, with the settings that the words ask for.
pub record RunsScript (words : List (Bor Word)) (status : ℕ) (r : Reading) (w : Writing) : Type 0 where
  pub settings : Settings
  pub asked : AsksRunWith words settings
  pub promises : KeepsPromises settings status r w

-- `serve` keeps its promises, with the settings, for as many sessions and over such links as the words ask for. Each link tells what it
-- is as a source and as a sink, and whether it has ended.
pub record Serves {L : Type 0} (words : List (Bor Word)) (source : SourceTells L) (sink : SinkTells L)
    (ended : L → Option Bool) (g : Gatherings L) (status : ℕ) (w : Writing) : Type 0 where
  pub settings : Settings
  pub address : Word
  pub sessions : ℕ
  pub wire : Bool
  pub asked : AsksServeWith words settings address sessions wire
  pub promises : ServesLinks (promised_of wire) (sides source sink) settings sessions g status w
  pub ends : EndsLinks ended g status

-- The same over the file of a disk, at the path that the words say.
pub record Files {L : Type 0} (words : List (Bor Word)) (source : SourceTells L) (sink : SinkTells L)
    (ended : L → Option Bool) (g : Gatherings L) (d : Storing) (status : ℕ) (w : Writing) : Type 0 where
  pub settings : Settings
  pub address : Word
  pub sessions : ℕ
  pub path : Word
  pub wire : Bool
  pub asked : AsksServeFileWith words settings address sessions path wire
  pub promises : ServesFile (promised_of wire) (sides source sink) settings sessions g d status w
  pub ends : EndsLinks ended g status

-- `audit` keeps its promises of the file of a disk, at the path that the words say, and of the number of commits that they ask for.
pub record AuditsFile (words : List (Bor Word)) (d : Storing) (status : ℕ) (w : Writing) : Type 0 where
  pub path : Word
  pub at : Option ℕ
  pub asked : AsksAuditWith words path at
  pub promises : Audits at d status w

-- `remote` keeps its promises. The link tells what it is as a source and as a sink.
pub record Remotes {L : Type 0} (words : List (Bor Word)) (source : SourceTells L) (sink : SinkTells L) (g : Gatherings L) (status : ℕ) (x y : Both)
    : Type 0 where
  pub address : Word
  pub asked : AsksRemoteWith words address
  pub promises : Reaches (sides source sink) g status x y

-- `load` keeps the promises of a load, with the settings and of the script that the words ask for.
pub record LoadsScript (words : List (Bor Word)) (status : ℕ) (w : Writing) : Type 0 where
  pub settings : Settings
  pub seed : ℕ
  pub count : ℕ
  pub asked : AsksLoadWith words settings seed count
  pub promises : Loads settings seed count status w
