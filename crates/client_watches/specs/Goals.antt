-- What a line of watches is to come to.
use Rattle.plain_data.specs.Texts.{Bytes}
use Rattle.txn_lang.specs.declared.checked.Checked.{Checked}

-- What a line that brings watches up to date comes to then.
pub data Goal : Type 0 where
  -- it is said that all hold
  current : Goal
  -- a body is watched by a name
  watch : Bytes → Checked → Goal
