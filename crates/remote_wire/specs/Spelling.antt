-- The one spelling of each part of requests, and of these. Numbers are big-endian. Texts, lists and
-- addresses are spelled as in the journal's file.
use Rattle.std.specs.Prelude.{ℕ, List, [], ◌∷◌, ◌++◌}
use Rattle.std.specs.Int.{w64, to_be_bytes}
use Rattle.conflict_table.specs.declared.observation.Obs.{Obs}
use Rattle.conflict_table.specs.declared.observation.Obs.TheVariants as obs
use Rattle.abort_witness.specs.declared.witness.Based.{Based}
use Rattle.record_code.specs.Spelling.{int_bytes, truth_bytes, text_bytes, list_bytes, address_bytes}
use Rattle.remote_wire.specs.declared.request.Base.{Base}
use Rattle.remote_wire.specs.declared.request.Request.{Request}
use Rattle.remote_wire.specs.declared.request.Request.TheVariants as request

-- ---- numbers

-- a number of one byte, and of eight
abbrev pub byte_bytes : ℕ → List ℕ
byte_bytes n = n ∷ []

abbrev pub long_bytes : ℕ → List ℕ
long_bytes n = to_be_bytes w64 n

-- ---- observations

-- a byte for each form of an observation, by their order
abbrev pub obs_byte : Obs → ℕ
obs_byte obs.BoolIs = 0
obs_byte obs.CounterIs = 1
obs_byte obs.TextIs = 2
obs_byte (obs.SetHas x) = 3
obs_byte obs.SetAll = 4
obs_byte (obs.HashAt f) = 5
obs_byte obs.HashAll = 6
obs_byte (obs.ListAt i) = 7
obs_byte obs.ListAll = 8
obs_byte (obs.PeakIs n) = 9
obs_byte (obs.PeakOver n over) = 10

-- what it is made of
abbrev pub obs_parts : Obs → List ℕ
obs_parts (obs.SetHas x) = text_bytes x
obs_parts (obs.HashAt f) = text_bytes f
obs_parts (obs.ListAt i) = long_bytes i
obs_parts (obs.PeakIs n) = int_bytes n
obs_parts (obs.PeakOver n over) = int_bytes n ++ truth_bytes over
obs_parts _ = []

-- an observation
abbrev pub obs_bytes : Obs → List ℕ
obs_bytes o = obs_byte o ∷ obs_parts o

-- ---- observations at their addresses, bases

-- an observation at an address, and its base
abbrev pub based_bytes : Based → List ℕ
based_bytes b = address_bytes b.address ++ (obs_bytes b.obs ++ long_bytes b.base)

-- an address and its base
abbrev pub base_bytes : Base → List ℕ
base_bytes b = address_bytes b.address ++ long_bytes b.base

-- ---- requests

-- a byte for each request, from 1, by their order
abbrev pub request_byte : Request → ℕ
request_byte request.Hello = 1
request_byte request.Refresh = 2
request_byte (request.Read address) = 3
request_byte (request.Prepare shard observed) = 4
request_byte (request.Append seq body bases) = 5
request_byte (request.ReadAt address number) = 6
request_byte (request.Subscribe address) = 7
request_byte (request.Unsubscribe address) = 8
request_byte request.Take = 9
request_byte request.Wait = 10

-- the text of a body, and the bases
abbrev pub body_parts : List ℕ → List Base → List ℕ
body_parts body bases = text_bytes body ++ list_bytes base_bytes bases

-- a commit to append: its number, the text of its body, and the bases
abbrev pub append_parts : ℕ → List ℕ → List Base → List ℕ
append_parts seq body bases = long_bytes seq ++ body_parts body bases

-- what it names
abbrev pub request_parts : Request → List ℕ
request_parts (request.Read address) = address_bytes address
request_parts (request.Prepare shard observed) = byte_bytes shard ++ list_bytes based_bytes observed
request_parts (request.Append seq body bases) = append_parts seq body bases
request_parts (request.ReadAt address number) = address_bytes address ++ long_bytes number
request_parts (request.Subscribe address) = address_bytes address
request_parts (request.Unsubscribe address) = address_bytes address
request_parts _ = []

-- a request
abbrev pub request_bytes : Request → List ℕ
request_bytes r = request_byte r ∷ request_parts r
