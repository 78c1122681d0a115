use Rattle.std.proofs.Common.{◌≡◌, Some, rules}
use Rattle.std.specs.Prelude.{option_copied}
use Rattle.rdt_types.specs.DeltaMaps.{delta_at}
use Rattle.journal_core.proofs.Witnessed.{alone, there, borrowed}
use Rattle.journal_core.proofs.naming.clashing.Goals as goal

-- some delta stands at the address
pub unwrap-requires : goal.unwrap-requires
unwrap-requires c =
    let commit = c.args.commit.now in
    let found : option_copied c.delta_in.result ≡ delta_at commit.deltas c.args.based.now.address = search rules in
    borrowed c.delta_in.result (rw found (there c.args.based.now commit.number commit.deltas c.requires))

-- and no other does
pub returns-clause-clash : goal.returns-clause-clash
returns-clause-clash c =
    let commit = c.args.commit.now in
    let changed : delta_at commit.deltas c.args.based.now.address ≡ Some c.unwrap.result.now = search rules in
    alone c.args.based.now commit.number commit.deltas c.unwrap.result.now c.as_slice.ensures.rising c.requires changed
