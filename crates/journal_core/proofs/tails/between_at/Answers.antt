use Rattle.std.proofs.Common.{ap, ◌∙◌, sym}
use Rattle.rdt_types.specs.Shards.{shard_of}
use Rattle.journal_core.specs.Changes.{changes, between, of_shard, of_address}
use Rattle.journal_core.proofs.ByShard.{of_address-in_shard}
use Rattle.journal_core.proofs.tails.between_at.Goals as goal

pub returns-clause-changes : goal.returns-clause-changes
returns-clause-changes c =
    let log = c.args.log.now in
    let address = c.args.address.now in
    let all = between c.args.from c.args.to (changes log.commits) in
    let shard = c.shard_of-shard.ensures ∙ ap (shard_of address) c.shards.ensures.shards in
    let same = ap (of_address address) (c.between_in_shard.ensures.changes ∙ ap (λ s. of_shard log.shards s all) shard)
    ∙ of_address-in_shard address log.shards all in
    rw (sym same) c.copies_of_address.ensures
