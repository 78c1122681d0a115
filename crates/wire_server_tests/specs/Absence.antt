-- What a client knows of a store that isn't there.
use Rattle.std.specs.Prelude.{◌≡◌, ℕ, false, None, refl}
use Rattle.docc_prepare.specs.Calls.{Known}

-- it doesn't tell a journal, has given nothing, and has failed so many times
abbrev pub absent : ℕ → Known
absent faults = record {
  journal = None;
  trusted = 0;
  client = 0;
  seen = 0;
  shards = 4;
  window = 1;
  limit = 1;
  subscribed = λ address. false;
  taken = 0;
  denied = 0;
  denials = 0;
  draws = 0;
  looks = 0;
  faults = faults;
  gave = λ address base. false;
  fronted = λ shard based front. false;
}

absent-example : (absent 2).faults ≡ 2
absent-example = refl
