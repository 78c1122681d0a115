use Rattle.std.proofs.Common.{length, sym, ap, ◌∙◌, subst}
use Rattle.history_lock.specs.Entries.{NamesBelow}
use Rattle.history_lock.specs.declared.known.Known as tokens
use Rattle.txn_lang.specs.declared.commit.Commit.{Commit}
use Rattle.diamond_store.specs.Appending.{client_of}
use Rattle.diamond_cli.proofs.Served.{ok-map, same-served}
use Rattle.diamond_cli.proofs.sessions.serve_kept.Goals as goal

-- the token of the lock has seen what was kept
pub serve_over-requires-clause-base : goal.serve_over-requires-clause-base
serve_over-requires-clause-base g c ks h =
    let is = c.in_ok-opened.ensures in is.base ∙ ap (λ (k : tokens.Known Commit). length k.seen) (sym is.front)

pub serve_over-requires-clause-clients : goal.serve_over-requires-clause-clients
serve_over-requires-clause-clients g c ks h =
    let is = c.in_ok-opened.ensures in
    subst (λ (k : tokens.Known Commit). NamesBelow client_of c.in_ok-opened.opened.lock.first k.seen) (sym is.front) is.clients

-- so the store began with that, and its keeper is the one that was given
pub returns-clause-served : goal.returns-clause-served
returns-clause-served g c =
    let is = c.in_ok-opened.ensures in
    ok-map c.serve_over.result _ _ (λ served all. same-served _ _ _ _ _ _ _ _ _ _ _ _ (ap (λ (k : tokens.Known Commit). k.seen) is.front) is.faults all)
    c.serve_over.ensures.served

pub returns-clause-home : goal.returns-clause-home
returns-clause-home g c = ok-map c.serve_over.result _ _ (λ served same. same ∙ c.in_ok-opened.ensures.home) c.serve_over.ensures.home
