use Rattle.std.proofs.Common.{◌≤◌, length, drop, Some, sym, subst}
use Rattle.std.proofs.lemmas.List.{length-take-le}
use Rattle.dio_core.specs.Lines.{IsLineAhead}
use Rattle.dio_core.specs.Sources.{with_prefix}
use Rattle.link_buffer.proofs.Ahead.{copied-within, copied-fits, line-left}
use Rattle.link_buffer.proofs.link.BufferedLinkEnd.line_ahead.Goals as goal

pub slice_bounds-length_before_newline-end : goal.slice_bounds-length_before_newline-end
slice_bounds-length_before_newline-end g c =
    copied-fits c.copy_through-count.result c.held-held.result.now c.args.buf.now c.copy_through-count.new.buf c.copy_through-count.ensures.count
    c.copy_through-count.ensures.copied

pub slice_bounds-length_before_newline-end-2 : goal.slice_bounds-length_before_newline-end-2
slice_bounds-length_before_newline-end-2 g c =
    sym (length-take-le c.copy_through-count.result c.copy_through-count.new.buf (copied-fits c.copy_through-count.result c.held-held.result.now
    c.args.buf.now c.copy_through-count.new.buf c.copy_through-count.ensures.count c.copy_through-count.ensures.copied))

pub skip-requires : goal.skip-requires
skip-requires g c =
    subst (λ bytes. c.copy_through-count.result ≤ length bytes) c.held-held.ensures
    (copied-within c.copy_through-count.result c.held-held.result.now c.args.buf.now c.copy_through-count.ensures.count)

pub returns-in-Some-clause-line : goal.returns-in-Some-clause-line
returns-in-Some-clause-line g c =
    let n = c.in-Some.length in
    let count = c.copy_through-count.result in
    let filled = c.copy_through-count.new.buf in
    let behind = g.K.Source.left c.args.self.now.link in
    rw (c.skip.ensures.held, c.skip.ensures.link)
    (subst (λ bytes. IsLineAhead (Some n) filled (with_prefix bytes behind) (with_prefix (drop count bytes) behind)) c.held-held.ensures
    (line-left n count c.held-held.result.now c.args.buf.now filled behind c.copy_through-count.ensures.count c.copy_through-count.ensures.copied
    c.in-Some.ensures.0 c.in-Some.ensures.1))
