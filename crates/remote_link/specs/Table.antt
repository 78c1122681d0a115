-- Which answers are answers to a request, as a table.
use Rattle.std.specs.Prelude.{◌≡◌, ◌≤◌, ℕ}
use Rattle.rdt_types.specs.declared.limits.TheConstants.{LEAST_SHARDS, MOST_SHARDS}
use Rattle.rdt_types.specs.Values.{kind_of}
use Rattle.abort_witness.specs.Kinds.{IsOfOneKind}
use Rattle.docc_prepare.specs.Serial.{AreOfTheirKinds}
use Rattle.remote_wire.specs.declared.request.Request.{Request}
use Rattle.remote_wire.specs.declared.request.Request.TheVariants as request
use Rattle.remote_wire.specs.declared.answer.Given.{Given}
use Rattle.remote_wire.specs.declared.answer.Given.TheVariants as given

-- WHICH ANSWERS ANSWER A REQUEST: what is given is of the kinds of its addresses, and the base of a read, the number of a commit
-- and the end of a feed are the number that is seen.
abbrev pub IsAnswer : Request → ℕ → Given → Type 0
IsAnswer request.Hello seen (given.Hello client shards) = (LEAST_SHARDS ≤ shards) × (shards ≤ MOST_SHARDS)
IsAnswer request.Refresh seen given.Done = Unit {0}
IsAnswer (request.Read address) seen (given.Read base v) = (base ≡ seen) × (kind_of v ≡ address.kind)
IsAnswer (request.Prepare shard based) seen (given.Front front) = Unit {0}
IsAnswer (request.Prepare shard based) seen (given.Late base horizon) = Unit {0}
IsAnswer (request.Prepare shard based) seen (given.Clash w) = IsOfOneKind w
IsAnswer (request.Append seq body bases) seen (given.Number n) = n ≡ seen
IsAnswer (request.Append seq body bases) seen (given.Clash w) = IsOfOneKind w
IsAnswer (request.Append seq body bases) seen (given.Held client number) = Unit {0}
IsAnswer (request.Append seq body bases) seen (given.Full limit) = Unit {0}
IsAnswer (request.Append seq body bases) seen given.Disk = Unit {0}
IsAnswer (request.ReadAt address number) seen (given.Value v) = kind_of v ≡ address.kind
IsAnswer (request.ReadAt address number) seen (given.Late n horizon) = n ≡ number
IsAnswer (request.Subscribe address) seen given.Done = Unit {0}
IsAnswer (request.Unsubscribe address) seen given.Done = Unit {0}
IsAnswer request.Take seen (given.Feed f) = (f.to ≡ seen) × AreOfTheirKinds f.changes
IsAnswer request.Wait seen given.Done = Unit {0}
IsAnswer r seen g = ⊥
