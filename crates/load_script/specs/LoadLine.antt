-- The line of what came of a load: how many lines of the script's output say that a client committed or aborted, how many that a
-- watch was run, and how many commits the journal has.
use Rattle.std.specs.Prelude.{◌≡◌, ℕ, [], ◌∷◌, ◌++◌, codes, refl}
use Rattle.std.specs.Fmt.{decimal, digits}
use Rattle.dio_core.specs.declared.line.TheConstants.{NEWLINE}
use Rattle.plain_data.specs.Texts.{Bytes}
use Rattle.load_script.specs.Counting.{count_second}

-- a word and a number
abbrev pub counted : Bytes → ℕ → Bytes
counted name number = name ++ decimal number

-- THE LINE of a script of so many rounds, by its output and by how many commits there are then: as in
-- `load 3 commits 5 aborts 1 runs 1 journal 5` and a newline.
abbrev pub load_line : ℕ → Bytes → ℕ → Bytes
load_line count output commits =
    counted (codes "load ") count ++ counted (codes " commits ") (count_second (codes "commit") output)
    ++ counted (codes " aborts ") (count_second (codes "abort") output) ++ counted (codes " runs ") (count_second (codes "run") output)
    ++ counted (codes " journal ") commits ++ NEWLINE ∷ []

-- ---- a worked line

abbrev example : Bytes
example =
    codes "0 commit 1 ok" ++ NEWLINE ∷ codes "0 abort 1 0 add 1 get" ++ NEWLINE ∷ codes "2 run w ok 0" ++ NEWLINE ∷ codes "1 commit 2 ok" ++ NEWLINE ∷ []

load_line-example : load_line 3 example 2 ≡ codes "load 3 commits 2 aborts 1 runs 1 journal 2" ++ NEWLINE ∷ []
unfolding digits
load_line-example = refl
