-- What a client knows of a store whose calls fail.
use Rattle.std.specs.Prelude.{◌≡◌, ℕ, refl}
use Rattle.docc_prepare.specs.Calls.{Known}
use Rattle.diamond_store.specs.Passes.{Passed, known_of}

-- what its pass stands for, where so many calls have failed
abbrev pub failing : Passed → ℕ → Known
failing pass faults = record (known_of pass) { faults = faults }

-- where none has failed it is the pass alone
unfailing : (pass : Passed) → failing pass 0 ≡ known_of pass
unfailing pass = refl
