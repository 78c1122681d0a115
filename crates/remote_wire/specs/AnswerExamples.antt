-- Worked bytes: answers, and bytes that are none.
use Rattle.std.specs.Prelude.{◌≡◌, pos, [], ◌∷◌, Some, None, refl}
use Rattle.rdt_types.specs.declared.value.Value.TheVariants as value
use Rattle.record_code.specs.Fields.{tag_at, pair_at, int_at}
use Rattle.remote_wire.specs.declared.request.Request.TheVariants as request
use Rattle.remote_wire.specs.declared.answer.Given.TheVariants as given
use Rattle.remote_wire.specs.AnswerSpelling.{answer_bytes}
use Rattle.remote_wire.specs.Reading.{byte_at}
use Rattle.remote_wire.specs.AnswerReading.{value_of, value_at}
use Rattle.remote_wire.specs.Answers.{given_of, rest_at, answer_at, answer_in}
use Rattle.remote_wire.specs.Examples.{counter_x}

-- the first answer, to the client 0 of an empty store with 4 shards: 14 bytes
hello_answered : answer_bytes (record { seen = 0; given = given.Hello 0 4 })
    ≡ 0 ∷ 0 ∷ 0 ∷ 0 ∷ 0 ∷ 0 ∷ 0 ∷ 0 ∷ 0 ∷ 0 ∷ 0 ∷ 0 ∷ 0 ∷ 4 ∷ []
hello_answered = refl

hello_answered-read : answer_in request.Hello (0 ∷ 0 ∷ 0 ∷ 0 ∷ 0 ∷ 0 ∷ 0 ∷ 0 ∷ 0 ∷ 0 ∷ 0 ∷ 0 ∷ 0 ∷ 4 ∷ [])
    ≡ Some (record { seen = 0; given = given.Hello 0 4 })
unfolding answer_at rest_at given_of tag_at pair_at byte_at
hello_answered-read = refl

-- no store has 17 shards
no_seventeen : answer_in request.Hello (0 ∷ 0 ∷ 0 ∷ 0 ∷ 0 ∷ 0 ∷ 0 ∷ 0 ∷ 0 ∷ 0 ∷ 0 ∷ 0 ∷ 0 ∷ 17 ∷ []) ≡ None
unfolding answer_at rest_at given_of tag_at pair_at byte_at
no_seventeen = refl

-- a counter that is 5 after 3 commits
five : answer_bytes (record { seen = 3; given = given.Read 3 (value.Counter (pos 5)) })
    ≡ 0 ∷ 0 ∷ 0 ∷ 0 ∷ 0 ∷ 0 ∷ 0 ∷ 0 ∷ 3 ∷ 0 ∷ 0 ∷ 0 ∷ 0 ∷ 0 ∷ 0 ∷ 0 ∷ 3 ∷ 1 ∷ 0 ∷ 0 ∷ 0 ∷ 0 ∷ 0 ∷ 0 ∷ 0 ∷ 5 ∷ []
five = refl

five_read : answer_in (request.Read counter_x)
    (0 ∷ 0 ∷ 0 ∷ 0 ∷ 0 ∷ 0 ∷ 0 ∷ 0 ∷ 3 ∷ 0 ∷ 0 ∷ 0 ∷ 0 ∷ 0 ∷ 0 ∷ 0 ∷ 3 ∷ 1 ∷ 0 ∷ 0 ∷ 0 ∷ 0 ∷ 0 ∷ 0 ∷ 0 ∷ 5 ∷ [])
    ≡ Some (record { seen = 3; given = given.Read 3 (value.Counter (pos 5)) })
unfolding answer_at rest_at given_of tag_at pair_at value_at value_of int_at
five_read = refl

-- the base is what the client has seen
no_other_base : answer_in (request.Read counter_x)
    (0 ∷ 0 ∷ 0 ∷ 0 ∷ 0 ∷ 0 ∷ 0 ∷ 0 ∷ 3 ∷ 0 ∷ 0 ∷ 0 ∷ 0 ∷ 0 ∷ 0 ∷ 0 ∷ 2 ∷ 1 ∷ 0 ∷ 0 ∷ 0 ∷ 0 ∷ 0 ∷ 0 ∷ 0 ∷ 5 ∷ [])
    ≡ None
unfolding answer_at rest_at given_of tag_at pair_at value_at value_of int_at
no_other_base = refl

-- a truth value is none of a counter
no_other_kind : answer_in (request.Read counter_x)
    (0 ∷ 0 ∷ 0 ∷ 0 ∷ 0 ∷ 0 ∷ 0 ∷ 0 ∷ 3 ∷ 0 ∷ 0 ∷ 0 ∷ 0 ∷ 0 ∷ 0 ∷ 0 ∷ 3 ∷ 0 ∷ 1 ∷ [])
    ≡ None
unfolding answer_at rest_at given_of tag_at pair_at value_at value_of
no_other_kind = refl

-- a hold of the client 2, the commit 9, bars the commit
held : answer_bytes (record { seen = 9; given = given.Held 2 9 })
    ≡ 5 ∷ 0 ∷ 0 ∷ 0 ∷ 0 ∷ 0 ∷ 0 ∷ 0 ∷ 9 ∷ 0 ∷ 0 ∷ 0 ∷ 2 ∷ 0 ∷ 0 ∷ 0 ∷ 0 ∷ 0 ∷ 0 ∷ 0 ∷ 9 ∷ []
held = refl

held_read : answer_in (request.Append 1 [] [])
    (5 ∷ 0 ∷ 0 ∷ 0 ∷ 0 ∷ 0 ∷ 0 ∷ 0 ∷ 9 ∷ 0 ∷ 0 ∷ 0 ∷ 2 ∷ 0 ∷ 0 ∷ 0 ∷ 0 ∷ 0 ∷ 0 ∷ 0 ∷ 9 ∷ [])
    ≡ Some (record { seen = 9; given = given.Held 2 9 })
unfolding answer_at rest_at given_of tag_at pair_at
held_read = refl

-- but no read
no_held-read : answer_in (request.Read counter_x)
    (5 ∷ 0 ∷ 0 ∷ 0 ∷ 0 ∷ 0 ∷ 0 ∷ 0 ∷ 9 ∷ 0 ∷ 0 ∷ 0 ∷ 2 ∷ 0 ∷ 0 ∷ 0 ∷ 0 ∷ 0 ∷ 0 ∷ 0 ∷ 9 ∷ [])
    ≡ None
unfolding answer_at rest_at tag_at
no_held-read = refl
