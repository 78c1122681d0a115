-- Worked bytes: requests, and bytes that are none.
use Rattle.std.specs.Prelude.{◌≡◌, pos, true, [], ◌∷◌, Some, None, codes, refl}
use Rattle.rdt_types.specs.declared.address.Address.{Address}
use Rattle.rdt_types.specs.declared.address.Kind.TheVariants as kind
use Rattle.conflict_table.specs.declared.observation.Obs.TheVariants as obs
use Rattle.record_code.specs.Fields.{tag_at}
use Rattle.remote_wire.specs.declared.request.Request.TheVariants as request
use Rattle.remote_wire.specs.Spelling.{request_bytes}
use Rattle.remote_wire.specs.Requests.{request_of, request_at, request_in}

-- ---- requests

-- the first byte of a session
hello : request_bytes request.Hello ≡ 1 ∷ []
hello = refl

hello_read : request_in (1 ∷ []) ≡ Some request.Hello
unfolding request_at request_of tag_at
hello_read = refl

abbrev pub counter_x : Address
counter_x = record { kind = kind.Counter; key = codes "x" }

read_x : request_bytes (request.Read counter_x) ≡ 3 ∷ 1 ∷ 0 ∷ 0 ∷ 0 ∷ 1 ∷ 120 ∷ []
read_x = refl

-- in the shard 1 the whole counter was observed, as it was after 2 commits
prepare_x : request_bytes
    (request.Prepare 1 (record { address = counter_x; obs = obs.CounterIs; base = 2 } ∷ []))
    ≡ 4 ∷ 1 ∷ 0 ∷ 0 ∷ 0 ∷ 1 ∷ 1 ∷ 0 ∷ 0 ∷ 0 ∷ 1 ∷ 120 ∷ 1 ∷ 0 ∷ 0 ∷ 0 ∷ 0 ∷ 0 ∷ 0 ∷ 0 ∷ 2 ∷ []
prepare_x = refl

-- a peak was observed to be above 7
over_seven : request_bytes
    (request.Prepare 0 (record {
      address = record { kind = kind.Peak; key = [] };
      obs = obs.PeakOver (pos 7) true;
      base = 0;
    } ∷ []))
    ≡ 4 ∷ 0 ∷ 0 ∷ 0 ∷ 0 ∷ 1 ∷ 6 ∷ 0 ∷ 0 ∷ 0 ∷ 0 ∷ 10 ∷ 0 ∷ 0 ∷ 0 ∷ 0 ∷ 0 ∷ 0 ∷ 0 ∷ 7 ∷ 1
    ∷ 0 ∷ 0 ∷ 0 ∷ 0 ∷ 0 ∷ 0 ∷ 0 ∷ 0 ∷ []
over_seven = refl

-- the client's first commit, whose body observed the counter
append_one : request_bytes (request.Append 1 (codes "a;") (record { address = counter_x; base = 2 } ∷ []))
    ≡ 5 ∷ 0 ∷ 0 ∷ 0 ∷ 0 ∷ 0 ∷ 0 ∷ 0 ∷ 1 ∷ 0 ∷ 0 ∷ 0 ∷ 2 ∷ 97 ∷ 59 ∷ 0 ∷ 0 ∷ 0 ∷ 1
    ∷ 1 ∷ 0 ∷ 0 ∷ 0 ∷ 1 ∷ 120 ∷ 0 ∷ 0 ∷ 0 ∷ 0 ∷ 0 ∷ 0 ∷ 0 ∷ 2 ∷ []
append_one = refl

-- there is no request 0 and none 99, none has a byte behind it, and none is empty
no_request : request_in (0 ∷ []) ≡ None
unfolding request_at request_of tag_at
no_request = refl

no_request-99 : request_in (99 ∷ []) ≡ None
unfolding request_at tag_at
no_request-99 = refl

no_byte_behind : request_in (1 ∷ 1 ∷ []) ≡ None
unfolding request_at request_of tag_at
no_byte_behind = refl

no_bytes : request_in [] ≡ None
unfolding request_at tag_at
no_bytes = refl
