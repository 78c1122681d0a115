-- The calls of a store that isn't there are within the clause of every call.
use Rattle.std.proofs.Common.{◌≡◌, ℕ, Bool, false, true, refl, sym, subst, arith}
use Rattle.dio_core.specs.Counts.{one_more, Rose, IsCounted}
use Rattle.dio_core.proofs.Counts.{Rose-one_more}
use Rattle.docc_prepare.specs.Calls.{Call, Answer}
use Rattle.docc_prepare.specs.Backends.{IsAnswered}
use Rattle.wire_server_tests.specs.Absence.{absent}

-- whatever call has failed, nothing has changed but the count of faults
fails : (n m : ℕ) (by_fault : Bool) (c : Call) → IsCounted by_fault n m → IsAnswered (absent n) c (Answer.failed by_fault) (absent m)
fails n m by_fault (Call.append ready) counted = record {
  client = record { client = refl; trusted = refl; shards = refl; window = refl; limit = refl };
  goes_on = record {
    seen = omega arith;
    draws = omega arith;
    looks = omega arith;
    faults = counted;
    subscribed = λ address. refl;
    taken = refl;
    denied = refl;
    denials = omega arith;
  };
  keeps = tt;
  gives = tt;
  shows = tt;
  told = tt;
}
fails n m by_fault c counted = record {
  client = record { client = refl; trusted = refl; shards = refl; window = refl; limit = refl };
  goes_on = record {
    seen = omega arith;
    draws = omega arith;
    looks = omega arith;
    faults = counted;
    subscribed = λ address. refl;
    taken = refl;
    denied = refl;
    denials = omega arith;
  };
  keeps = record { bases = λ address base given. given; fronts = λ shard based front given. given };
  gives = tt;
  shows = tt;
  told = tt;
}

-- want of memory changes nothing
pub wanting : (n : ℕ) (c : Call) → IsAnswered (absent n) c (Answer.failed false) (absent n)
wanting n c = fails n n false c refl

-- a refresh fails by a fault, which is counted
pub faulted : (n m : ℕ) → m ≡ one_more n → IsAnswered (absent n) Call.refresh (Answer.failed true) (absent m)
faulted n m e = fails n m true Call.refresh (subst (Rose n) (sym e) (Rose-one_more n))
