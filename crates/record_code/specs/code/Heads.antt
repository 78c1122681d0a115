-- The numbers that a payload begins with.
use Rattle.std.specs.Prelude.{ℕ, ◌<◌, ◌^◌, List, ◌++◌}
use Rattle.std.specs.Int.{w32, w64, to_be_bytes}

-- a commit's number, its client and its seq, behind what was written before
abbrev pub with_head : List ℕ → ℕ → ℕ → ℕ → List ℕ
with_head before number client seq = before ++ to_be_bytes w64 number ++ to_be_bytes w32 client ++ to_be_bytes w64 seq

-- they fit their widths
pub record HeadHasRoom (number client seq : ℕ) : Type 0 where
  pub number_fits : number < 2 ^ 64
  pub client_fits : client < 2 ^ 32
  pub seq_fits : seq < 2 ^ 64
