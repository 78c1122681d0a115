use Rattle.std.proofs.Common.{◌≡◌, ◌<◌, ◌==◌, ℕ, Bool, true, false, List, Option, Some, None, length, take, drop, arith, ap, sym}
use Rattle.std.proofs.Common.{subst, ◌∙◌, refl, if◌then◌else◌}
use Rattle.std.proofs.lemmas.Grind.{common_steps}
use Rattle.std.specs.Io.KnownBytes.{prepend_known}
use Rattle.std.specs.Io.Buffered.{reader_buffer, reader_capacity, reader_inner}
use Rattle.dio_core.specs.Sources.{with_prefix}
use Rattle.dio_core.specs.Streams.{told_since}
use Rattle.dio_core.proofs.Sources.{gives_ahead}
use Rattle.dio_core.proofs.source.StdSourceSource.read_through.Goals as goal

-- what was read ahead is told first
told_ahead : (first below : Option (List ℕ)) (no_room : Bool) (ahead : List ℕ)
    → told_since first (if no_room then None else prepend_known ahead below) ≡ with_prefix ahead (told_since first (if no_room then None else below))
told_ahead None below no_room ahead = refl
told_ahead (Some bytes) below true ahead = refl
told_ahead (Some bytes) None false ahead = refl
told_ahead (Some bytes) (Some rest) false ahead = refl

pub returns-clause-gives : goal.returns-clause-gives
returns-clause-gives g c =
    let n = c.copy_through-count.result in
    let filled = c.copy_through-count.new.buf in
    let some : 0 < length c.buffer-ahead.result.now = grind (arith, common_steps) in
    let first = g.R.Read.remaining c.self.inside.first.value in
    let below = g.R.Read.remaining (reader_inner c.self.inside.reader) in
    let no_room = reader_capacity c.self.inside.reader == 0 in
    let ahead = reader_buffer c.self.inside.reader in
    let behind = told_since first (if no_room then None else below) in
    let gave = (gives_ahead c.args.last n c.buffer-ahead.result.now c.args.buf.now filled behind c.copy_through-count.ensures.count
    c.copy_through-count.ensures.copied some c.requires).1 in
    let old : c.args.self.now.left ≡ with_prefix ahead behind = ap (λ s. s.left) (sym c.self.view_is) ∙ told_ahead first below no_room ahead in
    let given = subst (λ bytes. with_prefix bytes behind ≡ with_prefix (take n filled) (with_prefix (drop n bytes) behind)) c.buffer-ahead.ensures gave.2 in
    let new = ap (with_prefix (take n filled)) (sym (told_ahead first below no_room (drop n ahead))) in
    (gave.0, gave.1, rw (c.consume.ensures.buffer, c.consume.ensures.inner, c.consume.ensures.capacity) (old ∙ given ∙ new))

pub returns-clause-stops : goal.returns-clause-stops
returns-clause-stops g c =
    let ahead = c.buffer-ahead.result.now in
    let some : 0 < length ahead = grind (arith, common_steps) in
    (gives_ahead c.args.last c.copy_through-count.result ahead c.args.buf.now _ None c.copy_through-count.ensures.count
    c.copy_through-count.ensures.copied some c.requires).2
