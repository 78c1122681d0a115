-- WHERE READING ASKS FOR MEMORY: for addresses, texts and lists alone. So what is refused before one of these begins is told as
-- what it is, and never as want of memory.
use Rattle.std.specs.Prelude.{◌≡◌, ◌≤◌, ℕ, Bool, true, false, List, [], ◌∷◌, length, Option, Some, None, is_some, refl}
use Rattle.record_code.specs.Fields.{◌>>=◌, tag_at}
use Rattle.remote_wire.specs.declared.limits.TheConstants.{LONGEST_REQUEST}
use Rattle.remote_wire.specs.declared.answer_limits.TheConstants.{LONGEST_ANSWER}
use Rattle.remote_wire.specs.declared.request.Request.{Request}
use Rattle.remote_wire.specs.declared.request.Request.TheVariants as request
use Rattle.remote_wire.specs.declared.tags.RequestTag.{RequestTag}
use Rattle.remote_wire.specs.declared.tags.RequestTag.TheVariants as asked
use Rattle.remote_wire.specs.declared.tags.TheConstants.{REQUEST_TAGS}
use Rattle.remote_wire.specs.declared.answer_tags.AnswerTag.{AnswerTag}
use Rattle.remote_wire.specs.declared.answer_tags.GivenTag.{GivenTag}
use Rattle.remote_wire.specs.declared.answer_tags.GivenTag.TheVariants as gifts
use Rattle.remote_wire.specs.declared.answer_tags.TheConstants.{ANSWER_TAGS}
use Rattle.remote_wire.specs.Reading.{byte_at, long_at}
use Rattle.remote_wire.specs.Answers.{given_tag}

-- whether it is asked for behind what was read, where that was read
abbrev pub asks_behind : {T : Type 0} → (T → List ℕ → Bool) → Option (T × List ℕ) → Bool
asks_behind asks None = false
asks_behind asks (Some x) = asks x.0 x.1

-- ---- requests

-- behind the byte of a request: for its address, for what was observed in a shard, for the body of a commit
abbrev pub asks_of : RequestTag → List ℕ → Bool
asks_of asked.Nothing bytes = false
asks_of asked.Hello bytes = false
asks_of asked.Refresh bytes = false
asks_of asked.Read bytes = true
asks_of asked.Prepare bytes = is_some (byte_at bytes)
asks_of asked.Append bytes = is_some (long_at bytes)
asks_of asked.ReadAt bytes = true
asks_of asked.Subscribe bytes = true
asks_of asked.Unsubscribe bytes = true
asks_of asked.Take bytes = false
asks_of asked.Wait bytes = false

abbrev pub asks_at : List ℕ → Bool
asks_at bytes = asks_behind asks_of (tag_at REQUEST_TAGS bytes)

-- MEMORY IS ASKED FOR A REQUEST: the bytes aren't too many, and what they begin with has an address, texts or lists.
pub record AsksForRequest (bytes : List ℕ) : Type 0 where
  pub short : length bytes ≤ LONGEST_REQUEST
  pub asks : asks_at bytes ≡ true

-- ---- answers

-- behind what an answer to a request begins with: for a value, for changes, for a witness
abbrev pub gives_of : GivenTag → List ℕ → Bool
gives_of gifts.Hello bytes = false
gives_of gifts.Done bytes = false
gives_of gifts.Read bytes = is_some (long_at bytes)
gives_of gifts.Front bytes = false
gives_of gifts.Number bytes = false
gives_of gifts.Value bytes = true
gives_of gifts.Feed bytes = is_some (long_at bytes)
gives_of gifts.Late bytes = false
gives_of gifts.Clash bytes = true
gives_of gifts.Full bytes = false
gives_of gifts.Disk bytes = false
gives_of gifts.Held bytes = false

-- what is given, and its bytes: behind what the client has seen
abbrev pub gift_behind : Request → AnswerTag → List ℕ → Option (GivenTag × List ℕ)
gift_behind r tag bytes = do
  seen ← long_at bytes
  gift ← given_tag r tag
  Some (gift, seen.1)

abbrev pub gives_rest : Request → AnswerTag → List ℕ → Bool
gives_rest r tag bytes = asks_behind gives_of (gift_behind r tag bytes)

abbrev pub gives_at : Request → List ℕ → Bool
gives_at r bytes = asks_behind (gives_rest r) (tag_at ANSWER_TAGS bytes)

-- MEMORY IS ASKED FOR AN ANSWER to a request: the bytes aren't too many, and what they begin with may be given to the request and
-- has a value, changes or a witness.
pub record AsksForAnswer (r : Request) (bytes : List ℕ) : Type 0 where
  pub short : length bytes ≤ LONGEST_ANSWER
  pub asks : gives_at r bytes ≡ true

-- ---- worked lines

-- a greeting asks for none, and a request 99 for none either
hello-asks : asks_at (1 ∷ []) ≡ false
unfolding tag_at
hello-asks = refl

nothing-asks : asks_at (99 ∷ 1 ∷ []) ≡ false
unfolding tag_at
nothing-asks = refl

-- a read does, and a preparing once its shard is there
read-asks : asks_at (3 ∷ []) ≡ true
unfolding tag_at
read-asks = refl

prepare-asks : asks_at (4 ∷ []) ≡ false
unfolding tag_at byte_at
prepare-asks = refl

shard-asks : asks_at (4 ∷ 1 ∷ []) ≡ true
unfolding tag_at byte_at
shard-asks = refl

-- of a refresh nothing is given for which it is asked, nor of a clash, which is no answer to it
done-asks : gives_at request.Refresh (0 ∷ 0 ∷ 0 ∷ 0 ∷ 0 ∷ 0 ∷ 0 ∷ 0 ∷ 5 ∷ []) ≡ false
unfolding tag_at
done-asks = refl

clash-asks : gives_at request.Refresh (2 ∷ 0 ∷ 0 ∷ 0 ∷ 0 ∷ 0 ∷ 0 ∷ 0 ∷ 5 ∷ []) ≡ false
unfolding tag_at
clash-asks = refl
