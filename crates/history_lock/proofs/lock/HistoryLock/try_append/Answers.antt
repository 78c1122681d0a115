use Rattle.std.proofs.Common.{arith, ap, sym, ◌∙◌, ◌≡◌, length, subst}
use Rattle.history_lock.specs.declared.known.Known.{Known}
use Rattle.history_lock.specs.Entries.{AddsOwn}
use Rattle.history_lock.proofs.Moves.{appends}
use Rattle.history_lock.proofs.Later.{IsFront-appends}
use Rattle.history_lock.proofs.lock.HistoryLock.try_append.Goals as goal
use Rattle.history_lock.proofs.lock.HistoryLock.try_append.Goals.{then-added, else-added}

pub compare_exchange_with-found-requires : goal.compare_exchange_with-found-requires
compare_exchange_with-found-requires g c =
    let lock = c.self.invariant in
    let front = c.front.invariant in
    let list = g.T.Stands.list c.args.value.now in
    let known = c.front.inside.seat.me.0.known in
    let place : length known.seen ≡ c.args.at = ap (λ (k : Known g.row.T-Entry.Denot). length k.seen) c.front.view_is ∙ sym c.requires.place in
    let adds : AddsOwn g.T.Stands.names known.author known.seen list = subst
    (λ (k : Known g.row.T-Entry.Denot). AddsOwn g.T.Stands.names k.author k.seen list) (sym c.front.view_is) c.requires.adds_own in (
      front.table ∙ sym lock.named,
      rw lock.three_words (omega arith),
      rw lock.key_base (appends g.T.Stands.names g.T.Stands.may_follow c.self.inside.table.shared.key.first g.N.Naming.lock.base _
          c.front.inside.seat.id c.front.inside.seat.me list c.args.at (ap (λ me. me.0.spent) front.me)
          (ap (λ me. me.0.meeting) front.me) place c.requires.next.0 adds c.requires.lawful),
    )

pub invariant_of-front : goal.invariant_of-front
invariant_of-front g c =
    let step = c.compare_exchange_with-found in
    let list = g.T.Stands.list c.args.value.now in
    let place : c.args.at ≡ c.front.inside.entries = c.requires.place ∙ ap (λ (k : Known g.row.T-Entry.Denot). length k.seen) (sym c.front.view_is)
    ∙ c.front.invariant.entries in
    let keeps = IsFront-appends g.T.Stands.may_follow g.N.Naming.lock c.front.inside.seat step.new.seat c.front.inside.count c.front.inside.draws
    c.front.inside.entries c.if-added.front c.args.at step.result list c.front.invariant step.ensures.0 c.requires.lawful c.requires.next.0 in
    elim c.if-added.branch [
      | then-added w ↦ keeps (λ _. w.front-is) (λ miss. absurd (miss w.if-added.true)) step.ensures.2
      | else-added w ↦ keeps (λ hit. absurd (w.if-added.false hit)) (λ _. w.front-is ∙ place) step.ensures.2
    ]
