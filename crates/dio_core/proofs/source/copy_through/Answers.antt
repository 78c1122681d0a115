use Rattle.std.proofs.Common.{◌≡◌, ◌==◌, position, take, length, sym, ◌∙◌, rules}
use Rattle.std.proofs.lemmas.List.{take_min}
use Rattle.dio_core.proofs.Places.{first-is}
use Rattle.dio_core.proofs.Sources.{length_through-found, length_through-none}
use Rattle.dio_core.proofs.source.copy_through.Goals.{in-Some, in-None}
use Rattle.dio_core.proofs.source.copy_through.Goals as goal

pub returns-clause-count : goal.returns-clause-count
returns-clause-count c =
    let last = c.args.last in
    let fits = take (length c.args.buf.now) c.args.bytes.now in
    let same = take_min (length c.args.buf.now) c.args.bytes.now in
    let first = first-is (λ byte. byte == last) _ c.memchr.result c.memchr.ensures in
    let place : c.memchr.result ≡ position (λ byte. byte == last) fits = search (rules, same, first) in
    elim c.match-memchr.branch [
      | in-Some w ↦ w.count-is ∙ sym (length_through-found last w.in-Some.at fits (sym place ∙ w.in-Some.is))
      | in-None w ↦ search (rules, same, length_through-none last fits (sym place ∙ w.in-None.is))
    ]
