-- What each token keeps.
use Rattle.std.specs.Prelude.{◌≡◌, ◌≤◌, ℕ, List, [], length}
use Rattle.atomic_table.specs.declared.shared.Seat.{Seat}
use Rattle.history_lock.specs.declared.limits.TheConstants.{MOST_DRAWS}
use Rattle.history_lock.specs.declared.view.View.{View}
use Rattle.history_lock.specs.Names.{LockId}
use Rattle.plain_data.specs.Histories.{IsLawful}
use Rattle.history_lock.specs.Steps.{settled}

module _ {T E : Type 0} where
  -- the seat is of this lock and holds no slot, its prefix is lawful, and these are its count, its draws and the length of its prefix
  pub record IsFront (may_follow : ℕ → List E → E → Type 0) (lock : LockId) (seat : Seat T (View E)) (c d n : ℕ) : Type 0 where
    pub table : seat.table_id ≡ lock.table
    pub me : seat.me ≡ (settled lock.first lock.base seat.me.0.known, [])
    pub count : seat.me.0.known.count ≡ c
    pub draws : seat.me.0.known.draws ≡ d
    pub entries : length seat.me.0.known.seen ≡ n
    pub limit : d ≤ MOST_DRAWS
    pub lawful : IsLawful may_follow lock.base seat.me.0.known.seen
