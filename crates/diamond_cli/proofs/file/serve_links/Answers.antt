use Rattle.std.proofs.Common.{refl, ap}
use Rattle.std.proofs.lemmas.Result.{err_from_is_err_and}
use Rattle.script_runner.specs.Script.{writing}
use Rattle.journal_file.specs.declared.recovering.Recovered.{Recovered}
use Rattle.diamond_server.specs.Accounts.{gatherings}
use Rattle.diamond_cli.specs.Filed.{storing}
use Rattle.diamond_cli.proofs.Recovered.{recovered-follow, recover-refused, has-filed}
use Rattle.diamond_cli.proofs.file.serve_links.Goals as goal

-- the recovered commits may follow one another in a store
pub serve_recovered-requires-clause-lawful : goal.serve_recovered-requires-clause-lawful
serve_recovered-requires-clause-lawful g c ks h =
    let found = c.in_ok-recovered.ensures in recovered-follow _ _ found.legal found.kinds found.rising

-- and leave room for other clients
pub serve_recovered-requires-clause-clients : goal.serve_recovered-requires-clause-clients
serve_recovered-requires-clause-clients g c ks h = c.in_ok-recovered.ensures.clients

-- the file was not recovered
pub returns-in_err-recovered-clause-refused : goal.returns-in_err-recovered-clause-refused
returns-in_err-recovered-clause-refused g c =
    let p = err_from_is_err_and c.from_residual.result c.from_residual.ensures.1 in
    let here = c.args.listener.now in
    let out = c.args.sink.now in
    let failed = c.in_err-recovered.ensures in
    rw (p.1, p.2)
    (recover-refused (gatherings g.Li.Listener here here) (storing g.D.Disk c.args.disk.now c.recover.new.disk) (writing g.W.Sink out out) Recovered
    c.in_err-recovered.field-0.0 failed.refused failed.untouched failed.counted (record { links = refl; given = refl; faults = refl }) (refl, refl))

-- memory was wanting for the sessions
pub returns-in_err-filed-clause-refused : goal.returns-in_err-filed-clause-refused
returns-in_err-filed-clause-refused g c =
    let p = err_from_is_err_and c.from_residual-in_err-filed.result c.from_residual-in_err-filed.ensures.1 in rw (p.1, p.2) (refl, refl)

-- or for the line
pub returns-in_err-say-clause-refused : goal.returns-in_err-say-clause-refused
returns-in_err-say-clause-refused g c =
    let p = err_from_is_err_and c.from_residual-in_err-say.result c.from_residual-in_err-say.ensures.1 in
    let same = c.in_err-say.ensures.unwritten in rw (p.1, p.2) (ap g.W.Sink.taken same, ap g.W.Sink.write_faults same)

-- all sessions ended, and the line was tried
pub returns-clause-filed : goal.returns-clause-filed
returns-clause-filed g c =
    has-filed _ _ _ _ _ _ _ _ _ _ _ _ c.in_ok-recovered.ensures.kept c.in_ok-recovered.ensures.counted c.in_ok-filed.ensures.served
    c.in_ok-filed.ensures.holds c.in_ok-say.ensures.said
