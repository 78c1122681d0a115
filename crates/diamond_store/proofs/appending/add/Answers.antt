use Rattle.std.proofs.Common.{sym, ap, ◌∙◌, subst}
use Rattle.history_lock.specs.declared.known.Known.{Known}
use Rattle.plain_data.specs.Histories.{IsLawful}
use Rattle.txn_lang.specs.declared.commit.Commit.{Commit}
use Rattle.diamond_store.specs.Books.{Booked, numbers}
use Rattle.diamond_store.specs.Following.{Follows}
use Rattle.diamond_store.proofs.Added.{settle-here, settles-here, lawful-book, adds-says}
use Rattle.diamond_store.proofs.Sound.{lawful-sound}
use Rattle.diamond_store.proofs.appending.add.Goals as goal

pub append-decision-requires : goal.append-decision-requires
append-decision-requires g c =
    record {
      can = settle-here g.N.Naming.lock.base g.N.Naming.lock.origin c.args.token.now c.enter-guard.new.front c.args.ready.now c.requires.author
          c.requires.owed c.enter-guard.ensures.later c.enter-guard.ensures.lawful c.deref_mut.result.now
          (c.enter-guard.ensures.value.seen ∙ ap (λ (b : Booked). b.journal.commits) (sym c.deref_mut.ensures.value))
          (ap numbers c.deref_mut.ensures.value ∙ c.enter-guard.ensures.origin);
    }

pub leave-requires-clause-lawful : goal.leave-requires-clause-lawful
leave-requires-clause-lawful g c =
    lawful-book g.N.Naming.lock.base g.N.Naming.lock.origin c.args.token.now c.enter-guard.new.front c.args.ready.now c.requires.author c.requires.owed
    c.enter-guard.ensures.later c.enter-guard.ensures.lawful c.as_slice-rising.ensures.rising c.deref_mut.result.now c.append-decision.result
    c.append-decision.new.self.journal.commits
    (c.enter-guard.ensures.value.seen ∙ ap (λ (x : Booked). x.journal.commits) (sym c.deref_mut.ensures.value))
    (ap numbers c.deref_mut.ensures.value ∙ c.enter-guard.ensures.origin) c.append-decision.ensures.settles c.append-decision.ensures.err

pub returns-clause-adds : goal.returns-clause-adds
returns-clause-adds g c =
    let t = c.enter-guard.new.front in
    let b = c.deref_mut.result.now in
    let left = c.append-decision.new.self.journal.commits in
    adds-says g.N.Naming.lock.base g.N.Naming.lock.origin c.args.token.now t c.leave.new.token c.args.ready.now c.append-decision.result left b.denials
    c.append-decision.new.self.denials c.enter-guard.ensures.later (lawful-sound g.N.Naming.lock.base t.seen c.enter-guard.ensures.lawful)
    (settles-here g.N.Naming.lock.origin b t.seen c.args.ready.now c.append-decision.result left
    (c.enter-guard.ensures.value.seen ∙ ap (λ (x : Booked). x.journal.commits) (sym c.deref_mut.ensures.value))
    (ap numbers c.deref_mut.ensures.value ∙ c.enter-guard.ensures.origin) c.append-decision.ensures.settles)
    (c.enter-guard.ensures.value.count ∙ ap (λ (x : Booked). x.denials) (sym c.deref_mut.ensures.value)) c.append-decision.ensures.denials c.leave.ensures.left

pub returns-clause-lawful : goal.returns-clause-lawful
returns-clause-lawful g c =
    subst (λ (k : Known Commit). IsLawful Follows g.N.Naming.lock.base k.seen) (sym c.leave.ensures.left)
    (lawful-book g.N.Naming.lock.base g.N.Naming.lock.origin c.args.token.now c.enter-guard.new.front c.args.ready.now c.requires.author c.requires.owed
    c.enter-guard.ensures.later c.enter-guard.ensures.lawful c.as_slice-rising.ensures.rising c.deref_mut.result.now c.append-decision.result
    c.append-decision.new.self.journal.commits
    (c.enter-guard.ensures.value.seen ∙ ap (λ (x : Booked). x.journal.commits) (sym c.deref_mut.ensures.value))
    (ap numbers c.deref_mut.ensures.value ∙ c.enter-guard.ensures.origin) c.append-decision.ensures.settles c.append-decision.ensures.err)
