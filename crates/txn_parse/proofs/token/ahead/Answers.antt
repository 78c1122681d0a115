use Rattle.std.proofs.Common.{refl, rules}
use Rattle.std.proofs.lemmas.Fn.{gave_at}
use Rattle.txn_parse.proofs.Heads.{ahead_is}
use Rattle.txn_parse.proofs.token.ahead.Goals as goal

pub returns-in-Some : goal.returns-in-Some
returns-in-Some g c =
    λ f made. ahead_is f c.in-Some.spot.now c.args.cursor.now c.make.result
    (made c.in-Some.spot.now c.make.result (gave_at g.F.FnOnce c.make.ensures refl)) (search rules)
