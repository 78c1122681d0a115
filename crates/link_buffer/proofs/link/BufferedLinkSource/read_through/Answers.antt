use Rattle.std.proofs.Common.{◌<◌, ◌≤◌, length, drop, subst, arith}
use Rattle.std.proofs.lemmas.Grind.{common_steps}
use Rattle.dio_core.specs.Sources.{with_prefix, Gives}
use Rattle.dio_core.specs.declared.source.Got.TheVariants as got
use Rattle.dio_core.proofs.Sources.{gives_ahead}
use Rattle.link_buffer.proofs.link.BufferedLinkSource.read_through.Goals as goal

pub skip-requires : goal.skip-requires
skip-requires g c =
    let held = c.held-held.result.now in
    let some : 0 < length held = grind (arith, common_steps) in
    let within = (gives_ahead c.args.last c.copy_through-count.result held c.args.buf.now _ (g.K.Source.left c.args.self.now.link)
    c.copy_through-count.ensures.count c.copy_through-count.ensures.copied some c.requires).0 in
    subst (λ bytes. c.copy_through-count.result ≤ length bytes) c.held-held.ensures within

pub returns-clause-gives : goal.returns-clause-gives
returns-clause-gives g c =
    let held = c.held-held.result.now in
    let n = c.copy_through-count.result in
    let behind = g.K.Source.left c.args.self.now.link in
    let some : 0 < length held = grind (arith, common_steps) in
    let gave = (gives_ahead c.args.last n held c.args.buf.now _ behind c.copy_through-count.ensures.count
    c.copy_through-count.ensures.copied some c.requires).1 in
    rw (c.skip.ensures.held, c.skip.ensures.link)
    (subst (λ bytes. Gives (got.Bytes n) c.copy_through-count.new.buf (with_prefix bytes behind) (with_prefix (drop n bytes) behind)) c.held-held.ensures gave)

pub returns-clause-stops : goal.returns-clause-stops
returns-clause-stops g c =
    let held = c.held-held.result.now in
    let some : 0 < length held = grind (arith, common_steps) in
    (gives_ahead c.args.last c.copy_through-count.result held c.args.buf.now _ (g.K.Source.left c.args.self.now.link)
    c.copy_through-count.ensures.count c.copy_through-count.ensures.copied some c.requires).2
