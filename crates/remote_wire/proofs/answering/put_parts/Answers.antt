use Rattle.std.proofs.Common.{◌≡◌, ℕ, ◌++◌, ap, subst, sym, ◌∙◌}
use Rattle.std.specs.Prelude.{OnOk}
use Rattle.rdt_types.specs.DeltaMaps.{Deltas}
use Rattle.record_code.specs.Spelling.{deltas_bytes}
use Rattle.remote_wire.specs.declared.answer.Given.{Given}
use Rattle.remote_wire.specs.Spelling.{long_bytes}
use Rattle.remote_wire.specs.AnswerSpelling.{short_bytes, given_parts}
use Rattle.remote_wire.proofs.Written.{then_written}
use Rattle.remote_wire.proofs.answering.put_parts.Goals as goal

pub returns-in_ok-put_long-in-Feed-clause-written : goal.returns-in_ok-put_long-in-Feed-clause-written
returns-in_ok-put_long-in-Feed-clause-written c =
    subst (λ (x : Given). OnOk c.write_list.result (c.write_list.new.out ≡ c.args.out.now ++ given_parts x)) (sym c.in-Feed.is)
    (then_written c.write_list.result c.args.out.now (long_bytes c.in-Feed.feed.to) c.put_long-in-Feed.new.out
    (deltas_bytes c.in-Feed.feed.changes) c.write_list.new.out
    (c.in_ok-put_long-in-Feed.ensures.written ∙ ap (λ (n : ℕ). c.args.out.now ++ long_bytes n) c.to.ensures)
    (subst
    (λ (l : Deltas). OnOk c.write_list.result (c.write_list.new.out ≡ c.put_long-in-Feed.new.out ++ deltas_bytes l))
    (c.as_slice.ensures.pairs ∙ c.changes.ensures) c.write_list.ensures.written))

pub returns-in_ok-put_long-in-Late-clause-written : goal.returns-in_ok-put_long-in-Late-clause-written
returns-in_ok-put_long-in-Late-clause-written c =
    subst
    (λ (x : Given). OnOk c.put_long-in-Late-2.result (c.put_long-in-Late-2.new.out ≡ c.args.out.now ++ given_parts x))
    (sym c.in-Late.is)
    (then_written c.put_long-in-Late-2.result c.args.out.now (long_bytes c.in-Late.number) c.put_long-in-Late.new.out
    (long_bytes c.in-Late.horizon) c.put_long-in-Late-2.new.out c.in_ok-put_long-in-Late.ensures.written
    c.put_long-in-Late-2.ensures.written)

pub returns-in_ok-put_short-in-Held-clause-written : goal.returns-in_ok-put_short-in-Held-clause-written
returns-in_ok-put_short-in-Held-clause-written c =
    subst (λ (x : Given). OnOk c.put_long-in-Held.result (c.put_long-in-Held.new.out ≡ c.args.out.now ++ given_parts x))
    (sym c.in-Held.is)
    (then_written c.put_long-in-Held.result c.args.out.now (short_bytes c.in-Held.client) c.put_short-in-Held.new.out
    (long_bytes c.in-Held.number) c.put_long-in-Held.new.out c.in_ok-put_short-in-Held.ensures.written
    c.put_long-in-Held.ensures.written)
