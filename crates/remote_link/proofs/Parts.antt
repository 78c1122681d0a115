-- How much of a request's frame was taken.
use Rattle.std.proofs.Common.{◌≡◌, ℕ, List, length, Option, sym, ap, ◌∙◌, subst, inl, inr, arith}
use Rattle.std.specs.Prelude.{Err}
use Rattle.std.proofs.Math.Seq.{take-length}
use Rattle.dio_core.specs.Links.{Both}
use Rattle.dio_core.specs.Sinks.{with_more, TakesPrefix}
use Rattle.dio_core.proofs.Sinks.{with_more-nil}
use Rattle.docc_prepare.specs.declared.backend.StoreError.{StoreError}
use Rattle.docc_prepare.specs.declared.backend.StoreError.TheVariants as store_error
use Rattle.remote_wire.specs.declared.request.Request.{Request}
use Rattle.remote_link.specs.Exchanging.{TakesPart}
use Rattle.remote_link.specs.Ends.{LinkEnd, IsBreak, Asks}

-- none of it
pub none_taken : (bytes : List ℕ) (old : Option (List ℕ)) → TakesPrefix bytes old old
none_taken bytes old = (0, omega arith, sym (with_more-nil old))

-- all of it
pub all_taken : (bytes : List ℕ) (old new : Option (List ℕ)) → new ≡ with_more old bytes → TakesPrefix bytes old new
all_taken bytes old new is = (length bytes, omega arith, is ∙ ap (with_more old) (sym (take-length bytes)))

-- where an end breaks, all of it
broken-part : (asked : Request) (last : ℕ) (old new : Both) → IsBreak asked last old new → TakesPart asked old new
broken-part asked last old new (inl no_answer) = all_taken _ _ _ no_answer.took.taken
broken-part asked last old new (inr back) = all_taken _ _ _ back.exchanged.took.taken

-- however a call fails, a part
pub failed-part : {K : Type 0} (side : K → Both) (asked : Request) (error : StoreError) (old new : LinkEnd K) → Asks side asked (Err error) old new
    → TakesPart asked (side old.link) (side new.link)
failed-part {K} side asked store_error.Fault old new (inl stays) =
    subst (λ (k : K). TakesPart asked (side old.link) (side k)) (sym (ap (λ (e : LinkEnd K). e.link) stays.same)) (none_taken _ _)
failed-part side asked store_error.Fault old new (inr (inl fails)) = fails.part
failed-part side asked store_error.Fault old new (inr (inr breaks)) = broken-part asked old.last (side old.link) (side new.link) breaks.why
failed-part side asked store_error.NoMemory old new lost = lost.part
