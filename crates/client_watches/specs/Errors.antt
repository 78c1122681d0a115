-- What failed calls make of a line: a fault of the store stays one, and want of memory stays that.
use Rattle.std.specs.Prelude.{◌≡◌, Result, Ok, Err, refl}
use Rattle.session_text.specs.declared.reply.Reply.{Reply}
use Rattle.session_text.specs.declared.reply.Reply.TheVariants as reply
use Rattle.docc_prepare.specs.declared.backend.StoreError.{StoreError}
use Rattle.docc_prepare.specs.declared.backend.StoreError.TheVariants as store
use Rattle.docc_prepare.specs.declared.backend.ReadAtError.{ReadAtError}
use Rattle.docc_prepare.specs.declared.backend.ReadAtError.TheVariants as read_at
use Rattle.client_watches.specs.declared.error.WatchError.{WatchError}
use Rattle.client_watches.specs.declared.error.WatchError.TheVariants as error

-- the error of a call
abbrev pub error_of : StoreError → WatchError
error_of store.Fault = error.StoreFault
error_of store.NoMemory = error.NoMemory

-- what a read at a number comes to that gave no value: a late value is a reply
abbrev pub reply_of : ReadAtError → Result Reply WatchError
reply_of (read_at.Late n horizon) = Ok (reply.Late n horizon)
reply_of read_at.Fault = Err error.StoreFault
reply_of read_at.NoMemory = Err error.NoMemory

-- ---- worked lines

fault-told : reply_of read_at.Fault ≡ Err (error_of store.Fault)
fault-told = refl

want-told : reply_of read_at.NoMemory ≡ Err (error_of store.NoMemory)
want-told = refl
