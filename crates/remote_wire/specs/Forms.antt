-- What has a spelling: texts that are no longer than texts may be, numbers of their widths, and lists whose length four
-- bytes tell.
use Rattle.std.specs.Prelude.{ℕ, ◌<◌, ◌≤◌, ◌^◌, List, length}
use Rattle.rdt_types.specs.declared.address.Address.{Address}
use Rattle.conflict_table.specs.declared.observation.Obs.{Obs}
use Rattle.conflict_table.specs.declared.observation.Obs.TheVariants as obs
use Rattle.abort_witness.specs.declared.witness.Based.{Based}
use Rattle.journal_core.specs.declared.limits.TheConstants.{LONGEST_BODY}
use Rattle.record_code.specs.Forms.{IsShort}
use Rattle.record_code.specs.Room.{IsInt, HaveRoom}
use Rattle.remote_wire.specs.declared.request.Base.{Base}
use Rattle.remote_wire.specs.declared.request.Request.{Request}
use Rattle.remote_wire.specs.declared.request.Request.TheVariants as request

-- ---- parts

-- a number of one byte, and of eight
abbrev pub IsOneByte : ℕ → Type 0
IsOneByte n = n < 256

abbrev pub IsEightBytes : ℕ → Type 0
IsEightBytes n = n < 2 ^ 64

-- an address whose key is no longer than texts may be
abbrev pub HasShortKey : Address → Type 0
HasShortKey address = IsShort address.key

-- an observation
abbrev pub IsObs : Obs → Type 0
IsObs (obs.SetHas x) = IsShort x
IsObs (obs.HashAt f) = IsShort f
IsObs (obs.ListAt i) = IsEightBytes i
IsObs (obs.PeakIs n) = IsInt n
IsObs (obs.PeakOver n over) = IsInt n
IsObs _ = Unit {0}

-- an observation at an address
pub record IsBased (based : Based) : Type 0 where
  pub key : HasShortKey based.address
  pub observed : IsObs based.obs
  pub base : IsEightBytes based.base

-- an address with its base
pub record IsBase (x : Base) : Type 0 where
  pub key : HasShortKey x.address
  pub base : IsEightBytes x.base

-- ---- requests

-- a commit to append: the number and the text of its body, and the bases
pub record IsAppend (number : ℕ) (text : List ℕ) (read : List Base) : Type 0 where
  pub seq : IsEightBytes number
  pub body : length text ≤ LONGEST_BODY
  pub bases : HaveRoom IsBase read

-- a request
abbrev pub IsRequest : Request → Type 0
IsRequest (request.Read address) = HasShortKey address
IsRequest (request.Prepare shard observed) = IsOneByte shard × HaveRoom IsBased observed
IsRequest (request.Append seq body bases) = IsAppend seq body bases
IsRequest (request.ReadAt address number) = HasShortKey address × IsEightBytes number
IsRequest (request.Subscribe address) = HasShortKey address
IsRequest (request.Unsubscribe address) = HasShortKey address
IsRequest _ = Unit {0}
