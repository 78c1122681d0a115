-- Requests: which bytes are one.
use Rattle.std.specs.Prelude.{ℕ, List, Option, Some, None}
use Rattle.rdt_types.specs.declared.address.Address.{Address}
use Rattle.abort_witness.specs.declared.witness.Based.{Based}
use Rattle.journal_core.specs.declared.limits.TheConstants.{LONGEST_BODY}
use Rattle.record_code.specs.Fields.{Reader, ◌>>=◌, text_at, tag_at, pair_at, list_at}
use Rattle.remote_wire.specs.declared.limits.TheConstants.{LONGEST_REQUEST}
use Rattle.remote_wire.specs.declared.request.Base.{Base}
use Rattle.remote_wire.specs.declared.request.Request.{Request}
use Rattle.remote_wire.specs.declared.request.Request.TheVariants as request
use Rattle.remote_wire.specs.declared.tags.RequestTag.{RequestTag}
use Rattle.remote_wire.specs.declared.tags.RequestTag.TheVariants as asked
use Rattle.remote_wire.specs.declared.tags.TheConstants.{REQUEST_TAGS}
use Rattle.remote_wire.specs.Reading.{made, byte_at, long_at, place_at, based_at, base_at}
use Rattle.remote_wire.specs.Whole.{whole}

-- a shard, and what was observed in it
abbrev pub prepare_of : ℕ × List Based → Request
prepare_of x = request.Prepare x.0 x.1

abbrev pub prepare_at : Reader Request
prepare_at = made prepare_of (pair_at byte_at (list_at based_at))

-- the number of a commit, the text of its body, and the bases
abbrev pub append_of : ℕ × (List ℕ × List Base) → Request
append_of x = request.Append x.0 x.1.0 x.1.1

abbrev pub append_at : Reader Request
append_at = made append_of (pair_at long_at (pair_at (text_at LONGEST_BODY) (list_at base_at)))

-- an address, and how many commits
abbrev pub read_at_of : Address × ℕ → Request
read_at_of x = request.ReadAt x.0 x.1

-- a request, by its byte
unfoldable pub request_of : RequestTag → Reader Request
request_of asked.Nothing bytes = None
request_of asked.Hello bytes = Some (request.Hello, bytes)
request_of asked.Refresh bytes = Some (request.Refresh, bytes)
request_of asked.Read bytes = made request.Read place_at bytes
request_of asked.Prepare bytes = prepare_at bytes
request_of asked.Append bytes = append_at bytes
request_of asked.ReadAt bytes = made read_at_of (pair_at place_at long_at) bytes
request_of asked.Subscribe bytes = made request.Subscribe place_at bytes
request_of asked.Unsubscribe bytes = made request.Unsubscribe place_at bytes
request_of asked.Take bytes = Some (request.Take, bytes)
request_of asked.Wait bytes = Some (request.Wait, bytes)

unfoldable pub request_at : Reader Request
request_at bytes = do
  tag ← tag_at REQUEST_TAGS bytes
  request_of tag.0 tag.1

-- The request that bytes are, if they are one: at most 33,554,432 of them, with nothing behind it.
abbrev pub request_in : List ℕ → Option Request
request_in bytes = whole LONGEST_REQUEST request_at bytes
