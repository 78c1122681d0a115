use Rattle.std.proofs.Common.{ap, ◌∙◌}
use Rattle.rdt_types.specs.DeltaMaps.{Deltas}
use Rattle.client_cache.specs.Cached.{Cached, Values, held, after_feed, advanced}
use Rattle.client_cache.specs.code.Changing.{changed_from, with_all}
use Rattle.client_cache.proofs.Changing.{value_at, held-advanced, with_all-applied}
use Rattle.client_cache.proofs.cache.Cache.advance.Goals as goal

pub returns-clause-ok : goal.returns-clause-ok
returns-clause-ok c =
    let values = c.self.inside.values.entries in
    let changes = c.changes.result.now in
    let entries = c.put_all.ensures ∙ ap (with_all values) (c.in_ok-changed.ensures.changed ∙ ap (changed_from values) c.as_slice.ensures.pairs)
    ∙ with_all-applied values changes c.in_ok-changed.ensures.ordered c.as_slice.ensures.rising in
    (λ i. record { at = c.to-self-inside.ensures i; values = entries i })
    ∙ ap (λ (deltas : Deltas). advanced (record { at = c.self.inside.at; values = values }) (record c.args.feed.now { changes = deltas })) c.changes.ensures
    ∙ ap (λ (cache : Cached). advanced cache c.args.feed.now) c.self.view_is

pub returns-clause-each : goal.returns-clause-each
returns-clause-each c =
    let values = c.self.inside.values.entries in
    let entries = c.put_all.ensures ∙ ap (with_all values) (c.in_ok-changed.ensures.changed ∙ ap (changed_from values) c.as_slice.ensures.pairs) in
    record {
      at = c.to-self-inside.ensures;
      held = λ a.
          ap (λ (all : Values). value_at all a) entries
          ∙ held-advanced values c.changes.result.now a c.as_slice.ensures.rising
          ∙ ap (λ (deltas : Deltas). after_feed (record c.args.feed.now { changes = deltas }) a (value_at values a)) c.changes.ensures
          ∙ ap (λ (cache : Cached). after_feed c.args.feed.now a (held cache a)) c.self.view_is;
    }
