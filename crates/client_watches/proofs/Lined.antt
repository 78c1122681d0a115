-- Laws of what is kept of watches: how it begins, and what becomes of it between lines.
use Rattle.std.proofs.Common.{◌≡◌, false, Option, Some, None, is_some, refl, subst, arith}
use Rattle.std.specs.List.Sorted.{IsStrictlySortedBy}
use Rattle.dio_core.specs.Told.{WhereTold}
use Rattle.docc_prepare.proofs.Readable.{legal-reads}
use Rattle.docc_prepare.specs.Backends.{HasGrown}
use Rattle.rerun_driver.specs.declared.watch.Watch.{Watch}
use Rattle.client_watches.specs.GoingOn.{LinesGoOn}
use Rattle.client_watches.specs.Laws.{PassingStays, BeginningsAttend, OthersLeaveStanding}
use Rattle.client_watches.proofs.Kept.{keeps-on}
use Rattle.client_watches.proofs.Stays.{stands-stay}
use Rattle.client_watches.proofs.Answering.{subscribes-on, passes-stay}

-- a name that isn't found is free
pub free-name : (o : Option Watch) → is_some o ≡ false → o ≡ None
free-name None e = refl
free-name (Some watch) e = absurd (cc)

-- row by row, since the first commits are the same
pub passing_stays : PassingStays
passing_stays window low goal before later said old new upto could can p passes =
    passes-stay window low before upto old new could can p goal said later passes

-- where nothing is held and nothing watched, nothing has to stand
pub beginnings_attend : BeginningsAttend
unfolding IsStrictlySortedBy
beginnings_attend = record {
  none = λ k journal at told seen within can. record {
    told = told;
    keeps = record { seen = seen; names = tt; short = tt; loose = tt };
    subscribes = record { rising = tt; told = λ a v found. absurd (cc); taken = λ a v found. absurd (cc) };
    stands = record { within = within; values = λ a v found. absurd (cc); watches = tt };
    can = can;
  };
  readable = λ journal later grows legal. legal-reads later legal;
}

-- ---- between lines

-- what others do lowers nothing that is seen, nor does following
pub lines_go_on : LinesGoOn
lines_go_on = record {
  others = λ k l w is later. keeps-on k l w (let same = later.seen in omega arith) is;
  followed = λ k l w is done. keeps-on k l w done.seen is;
}

-- others add commits alone, and what stands for a journal stands for a longer one
pub others_leave_standing : OthersLeaveStanding
others_leave_standing k l w old new is on later e =
    let grown : HasGrown k old new =
    subst (λ o. WhereTold (HasGrown k) (Some old) o) e (subst (λ o. WhereTold (HasGrown k) o l.journal) is.told later.told) in
    let can = on new grown.grows grown.legal in record {
      grows = grown.grows;
      attends = record {
        told = e;
        keeps = keeps-on k l w (let same = later.seen in omega arith) is.keeps;
        subscribes = subscribes-on k l w later.subscribed later.taken is.subscribes;
        stands = stands-stay old new is.can.readable.numbered can.readable.numbered grown.grows w is.stands;
        can = can;
      };
    }
