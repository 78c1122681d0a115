-- What a session goes on behind, between its lines.
use Rattle.docc_prepare.specs.Calls.{Known}
use Rattle.docc_prepare.specs.Backends.{IsLater}
use Rattle.docc_prepare.specs.Stores.{HasFollowed}
use Rattle.session_core.specs.declared.session.Session.{Session}
use Rattle.session_core.specs.Holding.{Attends}

-- A law: the session goes on behind what others do, and where a shard was let follow. (Behind its lines it does by the law that these
-- are safe.)
pub record SessionsGoOn : Type 0 where
  pub others : (k l : Known) (s : Session) → Attends k s → IsLater k l → Attends l s
  pub followed : (k l : Known) (s : Session) → Attends k s → HasFollowed k l → Attends l s
