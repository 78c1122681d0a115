-- What a function that does a line returns and leaves, want of memory aside. The clause of each says by which rule of specs/Play:
-- that of `answer`, by `answer`; the laws of proofs/Turns make a turn of it.
use Rattle.std.specs.Prelude.{◌≡◌, ◌++◌, Option, Some, Result, Ok, Err}
use Rattle.std.specs.declared.alloc.AllocError.{AllocError}
use Rattle.txn_grammar.specs.Characters.{Text}
use Rattle.docc_prepare.specs.Stores.{Store}
use Rattle.session_core.specs.declared.session.Session.{Session}
use Rattle.session_core.specs.declared.turn.Turn.{Turn}
use Rattle.session_core.specs.Verbs.{LineEnd}
use Rattle.script_runner.specs.Play.{ScriptWorld, Did, Done, printed}

-- a line leaves this world, and behind the output so far stands what is told of it
pub record Leaves (before output : Text) (world : ScriptWorld) (d : Done) : Type 0 where
  pub left_is : d.world ≡ world
  pub output_is : before ++ printed d.told ≡ output

-- so does the line of a client: it leaves the store, and the client's session
pub record LeavesClient (before output : Text) (store : Store) (session : Option Session) (d : Did) : Type 0 where
  pub store_is : d.store ≡ store
  pub session_is : d.session ≡ session
  pub output_is : before ++ printed d.told ≡ output

-- the same unless memory ran out
abbrev pub Answers : Result (Unit {0}) AllocError → Text → Text → ScriptWorld → Done → Type 0
Answers (Ok done) before output world d = Leaves before output world d
Answers (Err e) before output world d = Unit {0}

abbrev pub Does : Result (Unit {0}) AllocError → Text → Text → Store → Option Session → Did → Type 0
Does (Ok done) before output store session d = LeavesClient before output store session d
Does (Err e) before output store session d = Unit {0}

-- the line is over: its program was played to this session and turn, and left this store, unless memory ran out
abbrev pub IsOver : Result Turn AllocError → Store → Session → Option LineEnd × Store → Type 0
IsOver (Ok turn) store session played = played ≡ (Some (session, turn), store)
IsOver (Err e) store session played = Unit {0}
