-- Where a function stops that answers an error: nothing is done of which a reply would have had to tell.
use Rattle.std.specs.Prelude.{◌≡◌, ◌↔◌, Bool, true, false, Result, Ok, Err}
use Rattle.docc_prepare.specs.Calls.{Known, Call, Answer}
use Rattle.docc_prepare.specs.Backends.{Goes}
use Rattle.call_programs.specs.Programs.{Program, Leads, Succeeds}
use Rattle.session_core.specs.declared.error.SessionError.{SessionError}
use Rattle.session_core.specs.declared.error.SessionError.TheVariants as error

-- an answer that owes a reply, whatever memory is wanting: to the call that adds a commit or counts a denial; and to a preparing, unless
-- that is a front, which is to be kept
abbrev pub owes_reply : Call → Answer → Bool
owes_reply (Call.append ready) answer = true
owes_reply (Call.prepare shard all) (Answer.prepared p) = false
owes_reply (Call.prepare shard all) answer = true
owes_reply call answer = false

-- IT STOPS SHORT: memory is wanting before anything was asked, before a call, or for an answer that owes no reply; or a call has failed.
pub data StopsShort {S A : Type 0} (goes : S → Call → Answer → S → Type 0) (s : S) (p : Program A) (is_fault : Type 0) (t : S) : Type 0 where
  at_once : t ≡ s → (is_fault → ⊥) → StopsShort goes s p is_fault t
  before : {call : Call} {next : Answer → Program A} → Leads goes s p t (Program.asks call next) → (is_fault → ⊥) → StopsShort goes s p is_fault t
  behind : {m : S} {call : Call} {next : Answer → Program A} (answer : Answer) → Leads goes s p m (Program.asks call next) → goes m call answer t
      → Succeeds answer → owes_reply call answer ≡ false → (is_fault → ⊥) → StopsShort goes s p is_fault t
  fails : {m : S} {call : Call} {next : Answer → Program A} (by_fault : Bool) → Leads goes s p m (Program.asks call next)
      → goes m call (Answer.failed by_fault) t → is_fault ↔ (by_fault ≡ true) → StopsShort goes s p is_fault t

-- WHAT A FUNCTION DOES within a line: it performs the program, which ends with what is made of the function's result; or, after an error,
-- it has stopped short.
abbrev pub Does : {B A T : Type 0} → (B → Known) → (B → Call → Answer → B → Type 0) → B → Program A → Result T SessionError → (T → A) → B
    → Type 0
Does known goes old p (Ok x) give new = Leads (Goes known goes) old p new (Program.ends (give x))
Does known goes old p (Err e) give new = StopsShort (Goes known goes) old p (e ≡ error.StoreFault) new
