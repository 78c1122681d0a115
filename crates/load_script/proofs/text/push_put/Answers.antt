use Rattle.std.proofs.lemmas.Result.{on_ok_weaker}
use Rattle.load_script.proofs.Pieces.{two_added, puts_are}
use Rattle.load_script.proofs.text.push_put.Goals as goal

-- a key behind another
pub returns : goal.returns
returns c =
    on_ok_weaker c.push_key_in-2.result
    (two_added c.args.text.now _ _ _ _ _ (puts_are c.args.p c.args.q) c.in_ok-push_key_in.ensures) c.push_key_in-2.ensures
