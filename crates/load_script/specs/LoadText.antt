-- The script that a number makes. A watch looks at one counter; then come rounds, in each of which a client begins and reads before
-- another commits, and goes on behind that.
use Rattle.std.specs.Prelude.{◌≡◌, ℕ, zero, suc, ◌+◌, ◌*◌, ◌%◌, ◌==◌, if◌then◌else◌, List, [], ◌∷◌, ◌++◌, codes, refl}
use Rattle.std.specs.Fmt.{decimal, digits}
use Rattle.dio_core.specs.declared.line.TheConstants.{NEWLINE}
use Rattle.plain_data.specs.Texts.{Bytes}

-- ---- draws

-- the number that is drawn after another
abbrev pub draw : ℕ → ℕ
draw x = (75 * x + 74) % 65537

-- so many numbers, each drawn after the one before
abbrev pub draws : ℕ → ℕ → List ℕ
draws x zero = []
draws x (suc n) = draw x ∷ draws (draw x) n

-- the number behind the three of a round
abbrev pub after_round : ℕ → ℕ
after_round x = draw (draw (draw x))

-- ---- a round

-- a line ends with a newline
abbrev pub line : Bytes → Bytes
line text = text ++ NEWLINE ∷ []

-- a key in its quotes, as `"k5"`
unfoldable pub key : ℕ → Bytes
key n = codes "\"k" ++ decimal n ++ codes "\""

-- a key with a text before it and one behind it
unfoldable pub key_in : Bytes → ℕ → Bytes → Bytes
key_in before n after = before ++ key n ++ after

-- the address of a counter, as `counter("k5")`
unfoldable pub counter : ℕ → Bytes
counter n = key_in (codes "counter(") n (codes ")")

-- what adds to a counter, and what looks at one
unfoldable pub adds : ℕ → Bytes
adds n = counter n ++ codes ".add(1);"

unfoldable pub emits : ℕ → Bytes
emits n = codes "emit " ++ counter n ++ codes ".get();"

-- what adds a key to the set
unfoldable pub collects : ℕ → Bytes
collects n = key_in (codes "set(\"s\").add(") n (codes ");")

-- what puts one key at another, a field of the hash
unfoldable pub puts : ℕ → ℕ → Bytes
puts p q = key_in (codes "hash(\"h\").put(") p (codes ",") ++ key_in (codes " ") q (codes ");")

-- what moves a key to the end of the list
unfoldable pub moves : ℕ → Bytes
moves n = key_in (codes "list(\"l\").remove(") n (codes "); ") ++ key_in (codes "list(\"l\").push(") n (codes ");")

-- what the first client does: it adds to one counter and looks at another
unfoldable pub first_body : ℕ → ℕ → Bytes
first_body p q = adds p ++ codes " " ++ emits q

-- what the second client does: one of four forms
unfoldable pub second_body : ℕ → ℕ → ℕ → Bytes
second_body p q form = if form == 0 then adds q else if form == 1 then collects p else if form == 2 then puts p q else moves p

-- the line with which the first begins, and the line of the second
unfoldable pub begin_line : ℕ → ℕ → Bytes
begin_line p q = line (codes "0 begin " ++ first_body p q)

unfoldable pub do_line : ℕ → ℕ → ℕ → Bytes
do_line p q form = line (codes "1 do " ++ second_body p q form)

-- A ROUND, of five lines: the first client begins and reads; the second commits; the first goes on, and commits or aborts; and the
-- watch is looked at.
unfoldable pub round : ℕ → ℕ → ℕ → Bytes
round p q form = begin_line p q ++ line (codes "0 step") ++ do_line p q form ++ line (codes "0 go") ++ line (codes "2 sync")

-- that of the three numbers behind one: two keys of 16, and one of the four forms
unfoldable pub round_behind : ℕ → Bytes
round_behind x = round (draw x % 16) (draw (draw x) % 16) (draw (draw (draw x)) % 4)

-- ---- the script

-- so many rounds behind a number
unfoldable pub rounds : ℕ → ℕ → Bytes
rounds x zero = []
rounds x (suc n) = round_behind x ++ rounds (after_round x) n

-- THE SCRIPT THAT A NUMBER MAKES, of so many rounds
abbrev pub load_text : ℕ → ℕ → Bytes
load_text seed count = line (codes "2 watch w emit counter(\"k0\").get();") ++ rounds seed count

-- ---- worked lines

-- the numbers of three rounds behind 1
draws-example : draws 1 9 ≡ 149 ∷ 11249 ∷ 57305 ∷ 38044 ∷ 35283 ∷ 24819 ∷ 26463 ∷ 18689 ∷ 25472 ∷ []
draws-example = refl

-- behind the least number and behind the greatest that a script begins with
draws-around : draw 0 ∷ draw 65535 ∷ [] ≡ 74 ∷ 65461 ∷ []
draws-around = refl

-- the first round behind 1
round-example :
    round_behind 1
    ≡ line (codes "0 begin counter(\"k5\").add(1); emit counter(\"k1\").get();") ++ line (codes "0 step")
    ++ line (codes "1 do set(\"s\").add(\"k5\");") ++ line (codes "0 go") ++ line (codes "2 sync")
unfolding digits key key_in counter adds emits collects first_body second_body begin_line do_line round round_behind
round-example = refl

-- the other forms
adds-example : second_body 15 1 0 ≡ codes "counter(\"k1\").add(1);"
unfolding digits key key_in counter adds second_body
adds-example = refl

puts-example : second_body 5 1 2 ≡ codes "hash(\"h\").put(\"k5\", \"k1\");"
unfolding digits key key_in puts second_body
puts-example = refl

moves-example : second_body 12 3 3 ≡ codes "list(\"l\").remove(\"k12\"); list(\"l\").push(\"k12\");"
unfolding digits key key_in moves second_body
moves-example = refl

-- a script of no round is its first line
load_text-example : load_text 1 0 ≡ codes "2 watch w emit counter(\"k0\").get();" ++ NEWLINE ∷ []
unfolding rounds
load_text-example = refl
