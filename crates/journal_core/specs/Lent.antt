-- What is lent of a journal's changes, as contracts see it.
use Rattle.std.specs.Prelude.{List, refl}
use Rattle.std.specs.Coded.{Coded, code_by, coded_list}
use Rattle.change_feed.specs.declared.change.Change.{Change}

-- the changes as they stand now, as those of a slice that is lent
pub record Lent : Type 0 where
  pub now : List Change

-- it is stored as its list
abbrev pub lent_code : Coded Change → Coded Lent
lent_code change = code_by (List Change) (coded_list change) (λ l. l.now) (λ xs. record { now = xs }) (λ _. refl)
