-- Which request spells a call, and what an answer to it says.
use Rattle.std.specs.Prelude.{◌≡◌, ℕ, Bool, true, if◌then◌else◌, List, [], ◌∷◌, ◌++◌, refl}
use Rattle.std.specs.List.{list_any}
use Rattle.std.specs.BTreeMap.{is_at}
use Rattle.rdt_types.specs.declared.address.Address.{Address}
use Rattle.rdt_types.specs.Addresses.{address_cmp}
use Rattle.abort_witness.specs.declared.witness.Based.{Based}
use Rattle.docc_prepare.specs.Calls.{Call, Answer}
use Rattle.remote_wire.specs.declared.request.Base.{Base}
use Rattle.remote_wire.specs.declared.request.Request.{Request}
use Rattle.remote_wire.specs.declared.request.Request.TheVariants as request
use Rattle.remote_wire.specs.declared.answer.Given.{Given}
use Rattle.remote_wire.specs.declared.answer.Given.TheVariants as given

-- whether an address is among those that are named
abbrev pub is_among : List Base → Address → Bool
is_among named address = list_any (λ b. is_at (address_cmp address) b.address) named

-- the base of an observation, if its address isn't named yet
abbrev pub new_base : List Base → Based → List Base
new_base named b =
    if is_among named b.address then named else named ++ record { address = b.address; base = b.base } ∷ []

-- these, and then the observed addresses that aren't named yet
abbrev pub naming : List Base → List Based → List Base
naming named [] = named
naming named (b ∷ rest) = naming (new_base named b) rest

-- The bases that an append names: of each observed address once, in the order in which they were observed.
abbrev pub bases_of : List Based → List Base
bases_of based = naming [] based

-- THE REQUEST THAT SPELLS A CALL. Of what was handed on for an append it has the client's number of the commit, the text of
-- the body and the bases: the rest comes of running the body on the values at these.
abbrev pub request_for : Call → Request
request_for Call.refresh = request.Refresh
request_for (Call.read address) = request.Read address
request_for (Call.prepare shard based) = request.Prepare shard based
request_for (Call.append ready) = request.Append ready.seq ready.body (bases_of ready.based)
request_for (Call.read_at address number) = request.ReadAt address number
request_for (Call.subscribe address) = request.Subscribe address
request_for (Call.unsubscribe address) = request.Unsubscribe address
request_for Call.take = request.Take
request_for Call.wait = request.Wait

-- WHAT AN ANSWER SAYS: what is given for a request, to a client that has seen so much. What isn't given to such a request
-- counts as a fault.
abbrev pub answered_by : Request → ℕ → Given → Answer
answered_by request.Refresh seen given.Done = Answer.number seen
answered_by (request.Read address) seen (given.Read base v) = Answer.snap (record { base = base; value = v })
answered_by (request.Prepare shard based) seen (given.Front front) = Answer.prepared (record { shard = shard; front = front })
answered_by (request.Prepare shard based) seen (given.Late base horizon) = Answer.late base horizon
answered_by (request.Prepare shard based) seen (given.Clash w) = Answer.clash w
answered_by (request.Append seq body bases) seen (given.Number n) = Answer.number n
answered_by (request.Append seq body bases) seen (given.Clash w) = Answer.clash w
answered_by (request.Append seq body bases) seen (given.Held client at) = Answer.held client at
answered_by (request.Append seq body bases) seen (given.Full limit) = Answer.full limit
answered_by (request.Append seq body bases) seen given.Disk = Answer.disk
answered_by (request.ReadAt address number) seen (given.Value v) = Answer.value v
answered_by (request.ReadAt address number) seen (given.Late n horizon) = Answer.late n horizon
answered_by (request.Subscribe address) seen given.Done = Answer.done
answered_by (request.Unsubscribe address) seen given.Done = Answer.done
answered_by request.Take seen (given.Feed f) = Answer.feed f
answered_by request.Wait seen given.Done = Answer.done
answered_by r seen g = Answer.failed true

-- How much a client has seen behind an answer: what that says, but a read at a number and a subscription move nothing.
abbrev pub seen_behind : Request → ℕ → ℕ → ℕ
seen_behind (request.ReadAt address number) old seen = old
seen_behind (request.Subscribe address) old seen = old
seen_behind (request.Unsubscribe address) old seen = old
seen_behind r old seen = seen
