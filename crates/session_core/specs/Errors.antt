-- What failed calls make of a session.
use Rattle.std.specs.Prelude.{◌≡◌, Bool, true, false}
use Rattle.docc_prepare.specs.declared.backend.StoreError.{StoreError}
use Rattle.docc_prepare.specs.declared.backend.StoreError.TheVariants as store
use Rattle.docc_prepare.specs.Calls.{Answer}
use Rattle.client_watches.specs.declared.error.WatchError.{WatchError}
use Rattle.client_watches.specs.declared.error.WatchError.TheVariants as watch
use Rattle.session_core.specs.declared.error.SessionError.{SessionError}
use Rattle.session_core.specs.declared.error.SessionError.TheVariants as error

-- a fault stays a fault, and want of memory stays that
abbrev pub error_of : StoreError → SessionError
error_of store.Fault = error.StoreFault
error_of store.NoMemory = error.NoMemory

-- those of watches too
abbrev pub of_watch_error : WatchError → SessionError
of_watch_error watch.StoreFault = error.StoreFault
of_watch_error watch.NoMemory = error.NoMemory

-- and the error of a call that has failed, by a fault or not
abbrev pub error_by : Bool → SessionError
error_by true = error.StoreFault
error_by false = error.NoMemory

-- WHICH ERROR AN ANSWERED CALL LEAVES: that of a failed one. Memory may be wanting for an answer that is to be kept; any other is told,
-- whatever is wanting.
abbrev pub LeavesError : (kept : Bool) → Answer → SessionError → Type 0
LeavesError kept (Answer.failed by_fault) e = e ≡ error_by by_fault
LeavesError kept answer e = (e ≡ error.NoMemory) × (kept ≡ true)
