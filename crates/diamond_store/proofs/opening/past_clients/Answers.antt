use Rattle.std.proofs.Common.{ℕ, ◌+◌, ◌<◌, max, take, sym, ap, ◌∙◌, subst}
use Rattle.std.proofs.lemmas.List.Sums.{fold_more}
use Rattle.std.proofs.lemmas.List.{take_all}
use Rattle.std.proofs.lemmas.List.Elements.{All-more}
use Rattle.history_lock.specs.declared.limits.TheConstants.{LAST_FIRST}
use Rattle.history_lock.specs.Entries.{NamesBelow}
use Rattle.history_lock.proofs.Named.{NamesBelow-more}
use Rattle.txn_lang.specs.declared.commit.Commit.{Commit}
use Rattle.diamond_store.specs.Appending.{client_of}
use Rattle.diamond_store.specs.Opening as opening
use Rattle.diamond_store.proofs.opening.past_clients.Goals as goal

pub past_both-past-requires-clause-room : goal.past_both-past-requires-clause-room
past_both-past-requires-clause-room c =
    subst (λ (x : Commit). client_of x < LAST_FIRST) (sym c.commit-item.is)
    (c.loop-commit.invariant.all c.loop-commit.commit-index c.commit-item.result c.loop-commit-test.true)

pub loop-commit-preserved : goal.loop-commit-preserved
loop-commit-preserved c =
    let all = c.args.kept.now in
    let at = c.loop-commit.commit-index in
    let kept = c.loop-commit.invariant in
    let past = c.past_both-past.result in
    record {
      greatest =
          c.past_both-past.ensures.greater
          ∙ ap (λ (n : ℕ). max n (c.commit-item.result.client + 1)) kept.greatest
          ∙ sym (fold_more (λ (n : ℕ) (x : Commit). max n (x.client + 1)) 0 all at c.commit-item.result c.loop-commit-test.true
          ∙ ap (λ (x : Commit). max (opening.past_clients (take at all)) (x.client + 1)) (sym c.commit-item.is));
      below = All-more (λ (x : Commit). client_of x < past) all at c.commit-item.result c.loop-commit-test.true
          (NamesBelow-more client_of c.loop-commit.past past (take at all) c.past_both-past.ensures.past kept.below)
          (subst (λ (x : Commit). client_of x < past) c.commit-item.is c.past_both-past.ensures.client);
      small = c.past_both-past.ensures.small;
      all = kept.all;
    }

pub returns-clause-below : goal.returns-clause-below
returns-clause-below c =
    subst (NamesBelow client_of c.loop-commit.past) (take_all c.loop-commit.commit-index c.args.kept.now c.loop-commit-test.false)
    c.loop-commit.invariant.below

pub returns-clause-greatest : goal.returns-clause-greatest
returns-clause-greatest c =
    c.loop-commit.invariant.greatest
    ∙ ap opening.past_clients (take_all c.loop-commit.commit-index c.args.kept.now c.loop-commit-test.false)
