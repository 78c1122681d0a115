-- The lines of watches, and that what is kept between them goes on being kept to.
use Rattle.plain_data.specs.Texts.{Bytes}
use Rattle.txn_lang.specs.declared.checked.Checked.{Checked}
use Rattle.docc_prepare.specs.Calls.{Known}
use Rattle.docc_prepare.specs.Backends.{IsLater}
use Rattle.docc_prepare.specs.Stores.{HasFollowed}
use Rattle.client_watches.specs.declared.watching.Watching.{Watching}
use Rattle.client_watches.specs.Keeping.{Keeps}

-- The lines of watches.
pub data WatchLine : Type 0 where
  -- all are brought up to date
  sync : WatchLine
  -- one is made, by a name
  watch : Bytes → Checked → WatchLine
  -- the one of a name is forgotten
  unwatch : Bytes → WatchLine

-- A law: what is kept goes on being kept to behind what others do, and where a shard was let follow.
pub record LinesGoOn : Type 0 where
  pub others : (k l : Known) (w : Watching) → Keeps k w → IsLater k l → Keeps l w
  pub followed : (k l : Known) (w : Watching) → Keeps k w → HasFollowed k l → Keeps l w
