-- What replies of watches show, and what is minded of a journal that is told.
use Rattle.std.proofs.Common.{◌≡◌, ℕ, ◌≤◌, List, [], ◌∷◌, fold, Option, Some, None, subst, arith}
use Rattle.std.specs.Prelude.{IfSome}
use Rattle.std.specs.List.{AllByRecursion}
use Rattle.session_text.specs.declared.reply.Reply.{Reply}
use Rattle.session_text.specs.declared.reply.Reply.TheVariants as reply
use Rattle.txn_lang.specs.States.{Journal}
use Rattle.docc_prepare.specs.Calls.{Known}
use Rattle.client_watches.specs.Saying.{IsOfWatches}
use Rattle.session_core.specs.declared.session.Session.{Session}
use Rattle.session_core.specs.Holding.{Minds, Attends}
use Rattle.session_core.specs.Explained.{low_by}

-- replies of watches show no number above one, where none was shown before
pub shown-up : (most low : ℕ) (replies : List Reply) → low ≤ most → AllByRecursion (IsOfWatches most) replies → fold low_by low replies ≤ most
shown-up most low [] few all = few
shown-up most low (r ∷ replies) few all = shown-up most (low_by low r) replies (one r all.0) all.1
  where
    one : (r : Reply) → IsOfWatches most r → low_by low r ≤ most
    one (reply.Ran name n outcome) up = omega arith
    one (reply.Current n) up = omega arith
    one (reply.Late n horizon) up = few
    one (reply.Refused reason) up = few
    one reply.Dropped up = few
    one r up = absurd up

-- what is minded of a journal that is told
pub minded : (k : Known) (s : Session) (old : Journal) → Attends k s → k.journal ≡ Some old → Minds k s.watching old
minded k s old is e = by k.journal e is.watches.told
  where
    by : (o : Option Journal) → o ≡ Some old → IfSome o (Minds k s.watching) → Minds k s.watching old
    by None f minds = absurd (cc)
    by (Some journal) f minds = let same : journal ≡ old = cc in subst (Minds k s.watching) same minds
