-- Laws: requests are read from their bytes, and what is read has these bytes. So each has one spelling, and exactly the
-- spellings are read.
use Rattle.std.specs.Prelude.{◌≡◌, ◌<◌, ◌≤◌, ℕ, List, length, Some}
use Rattle.std.specs.List.{AllByRecursion}
use Rattle.remote_wire.specs.declared.limits.TheConstants.{LONGEST_REQUEST}
use Rattle.remote_wire.specs.declared.request.Request.{Request}
use Rattle.remote_wire.specs.Spelling.{request_bytes}
use Rattle.remote_wire.specs.Forms.{IsRequest}
use Rattle.remote_wire.specs.Requests.{request_in}

-- a request has a spelling: each part has its form, and the whole isn't too long
pub record HasSpelling (r : Request) : Type 0 where
  pub form : IsRequest r
  pub short : length (request_bytes r) ≤ LONGEST_REQUEST

-- all numbers are those of bytes
abbrev pub AreBytes : List ℕ → Type 0
AreBytes bytes = AllByRecursion (λ byte. byte < 256) bytes

-- a request is read from its spelling
abbrev pub RequestsAreRead : Type 0
RequestsAreRead = (r : Request) → HasSpelling r → request_in (request_bytes r) ≡ Some r

-- bytes that are read as a request are its spelling
abbrev pub WhatIsReadIsARequest : Type 0
WhatIsReadIsARequest = (bytes : List ℕ) (r : Request) → AreBytes bytes → request_in bytes ≡ Some r
    → HasSpelling r × (bytes ≡ request_bytes r)
