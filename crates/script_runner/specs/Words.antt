-- The words of a script's line that are read before a session reads the rest.
use Rattle.std.specs.Prelude.{◌≡◌, ℕ, ◌+◌, ◌-◌, ◌*◌, Bool, ◌&&◌, nat_le, nat_lt, if◌then◌else◌, [], ◌∷◌, take, drop, Option, Some, None, codes}
use Rattle.std.specs.Prelude.{bytes_eq, true, false, refl}
use Rattle.std.specs.List.{prefix_len}
use Rattle.script_runner.specs.declared.words.TheConstants.{LAST_CLIENT}
use Rattle.txn_grammar.specs.Characters.{Text, is_digit}
use Rattle.session_text.specs.Lines.{is_solid}
use Rattle.session_core.specs.Words.{trimmed_start, trimmed_end}

-- the first word of a text that begins with no blank
abbrev pub first_word : Text → Text
first_word z = take (prefix_len is_solid z) z

-- what comes behind that word and its blanks
abbrev pub after_word : Text → Text
after_word z = trimmed_start (drop (prefix_len is_solid z) z)

-- a number of one digit or two, without a leading zero
abbrev pub small_number : Text → Option ℕ
small_number (d ∷ []) = if is_digit d then Some (d - 48) else None
small_number (d ∷ e ∷ []) = if nat_le 49 d && is_digit d && is_digit e then Some (10 * (d - 48) + (e - 48)) else None
small_number word = None

-- ---- clients

-- a number that is a client's
abbrev pub if_client : Option ℕ → Option ℕ
if_client None = None
if_client (Some n) = if nat_le n LAST_CLIENT then Some n else None

-- the client that a word names: a number from 0 to the last client
abbrev pub client_named : Text → Option ℕ
client_named word = if_client (small_number word)

-- ---- `follow K`, which scripts have beside a session's lines

-- whether a line is to let a shard follow: its first word says so
abbrev pub is_follow : Text → Bool
is_follow z = bytes_eq (first_word z) (codes "follow")

-- a number that is a shard's
abbrev pub if_shard : ℕ → Option ℕ → Option ℕ
if_shard shards None = None
if_shard shards (Some n) = if nat_lt n shards then Some n else None

-- the shard that a text names, of so many: a number below that, with nothing but blanks behind it
abbrev pub shard_named : ℕ → Text → Option ℕ
shard_named shards text = if_shard shards (small_number (trimmed_end text))

-- ---- worked lines

LAST_CLIENT-is : LAST_CLIENT ≡ 63
LAST_CLIENT-is = refl

greatest-client : client_named (codes "63") ≡ Some 63
greatest-client = refl

too-great-client : client_named (codes "64") ≡ None
too-great-client = refl

no-leading-zero : client_named (codes "07") ≡ None
no-leading-zero = refl

words-example : first_word (trimmed_start (codes "  do emit 1; ")) ≡ codes "do"
words-example = refl

rest-example : after_word (trimmed_start (codes "  do  emit 1; ")) ≡ codes "emit 1; "
rest-example = refl

follow-example : is_follow (codes "follow  3 ") ≡ true
follow-example = refl

not-follow : is_follow (codes "followed 3") ≡ false
not-follow = refl

last-shard : shard_named 4 (codes "3 ") ≡ Some 3
last-shard = refl

no-shard : shard_named 4 (codes "4") ≡ None
no-shard = refl
