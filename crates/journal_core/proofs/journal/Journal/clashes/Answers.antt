use Rattle.std.proofs.Common.{◌≡◌, List, ◌∙◌, ap, rules}
use Rattle.abort_witness.specs.declared.witness.Based.{Based}
use Rattle.journal_core.specs.declared.ready.PreparedFront.{PreparedFront}
use Rattle.journal_core.specs.Journals.{Standing}
use Rattle.journal_core.specs.Pairs.{least_pair, past_fronts}
use Rattle.journal_core.proofs.Ordering.{least-is-first}
use Rattle.journal_core.proofs.journal.Journal.clashes.Goals as goal

-- the least pair in the changes is the first pair of the commits
pub returns-clause-least : goal.returns-clause-least
returns-clause-least g c =
    let log = c.self.inside.log in
    let ready = c.args.ready.now in
    let fronts : c.as_slice-fronts.result.now ≡ ready.fronts = search rules in
    let based : c.as_slice-based.result.now ≡ ready.based = search rules in
    c.least_past.ensures.least
    ∙ least-is-first (past_fronts log.shards c.as_slice-fronts.result.now c.as_slice-based.result.now) log.commits c.commits.ensures.numbered
    ∙ ap (λ (fs : List PreparedFront). least_pair (past_fronts log.shards fs c.as_slice-based.result.now) log.commits) fronts
    ∙ ap (λ (bs : List Based). least_pair (past_fronts log.shards ready.fronts bs) log.commits) based
    ∙ ap (λ (s : Standing). least_pair (past_fronts s.shards ready.fronts ready.based) s.commits) c.self.view_is
