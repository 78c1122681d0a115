use Rattle.std.proofs.Common.{◌≡◌, ◌≤◌, ℕ, List, length, sym, subst, arith}
use Rattle.std.specs.List.{AllByRecursion}
use Rattle.rdt_types.specs.Shards.{shard_of}
use Rattle.abort_witness.specs.declared.witness.Based.{Based}
use Rattle.abort_witness.specs.Kinds.{IsBasedOfOneKind}
use Rattle.docc_prepare.specs.Backends.{CanPrepare, IsAnswered}
use Rattle.docc_prepare.specs.Calls.{Call, front_answered}
use Rattle.diamond_store.specs.Numbers.{shards_in, window_in}
use Rattle.diamond_store.specs.Passes.{Passed, passed, known_of}
use Rattle.diamond_store.specs.Reading.{greatest_base, IsValidation}
use Rattle.diamond_store.proofs.Bases.{seen-bases, all-here, all-kinds}
use Rattle.diamond_store.proofs.Called.{was-prepared}
use Rattle.diamond_store.proofs.Known.{failed}
use Rattle.diamond_store.proofs.store.Store.prepare.Goals as goal

pub index-requires : goal.index-requires
index-requires g c =
    let can = subst (λ (q : Passed). CanPrepare (known_of q) c.args.shard c.args.based.now) (sym c.pass.view_is) c.requires in
    let below = can.below in
    let mine = c.pass.invariant.settings.shards in
    let theirs = c.self.invariant.settings.shards in
    let made = c.self.invariant.made in
    omega arith

pub prepare-found-requires-clause-within : goal.prepare-found-requires-clause-within
prepare-found-requires-clause-within g c =
    let can = subst (λ (q : Passed). CanPrepare (known_of q) c.args.shard c.args.based.now) (sym c.pass.view_is) c.requires in
    let p = c.pass.inside in
    let seen = seen-bases (known_of (passed g.N.Naming.lock.base p.client p.front p.seen p.subscribed.keys p.taken p.denied p.settings)) c.args.shard
    c.args.based.now can.each in
    let within = c.pass.invariant.within in
    subst (λ (bs : List Based). greatest_base bs ≤ length p.front.seen) (sym c.as_slice.ensures) (omega arith)

pub prepare-found-requires-clause-here : goal.prepare-found-requires-clause-here
prepare-found-requires-clause-here g c =
    let can = subst (λ (q : Passed). CanPrepare (known_of q) c.args.shard c.args.based.now) (sym c.pass.view_is) c.requires in
    let p = c.pass.inside in
    subst (AllByRecursion (λ (b : Based). shard_of b.address (shards_in g.N.Naming.lock.origin) ≡ c.args.shard)) (sym c.as_slice.ensures)
    (all-here (known_of (passed g.N.Naming.lock.base p.client p.front p.seen p.subscribed.keys p.taken p.denied p.settings)) c.args.shard
    c.args.based.now can.each (shards_in g.N.Naming.lock.origin) c.pass.invariant.settings.shards)

pub prepare-found-requires-clause-kinds : goal.prepare-found-requires-clause-kinds
prepare-found-requires-clause-kinds g c =
    subst (AllByRecursion IsBasedOfOneKind) (sym c.as_slice.ensures) (all-kinds (known_of c.args.pass.now) c.args.shard c.args.based.now c.requires.each)

pub returns-in_default : goal.returns-in_default
returns-in_default g c =
    let p = c.pass.inside in
    let t = c.prepare-found in
    rw (← c.pass.view_is) (failed g.N.Naming.lock.origin g.N.Naming.lock.base p.client p.front t.new.token p.seen p.taken p.settings c.pass.invariant
    t.ensures.later t.ensures.lawful p.subscribed.keys p.denied (Call.prepare c.args.shard c.args.based.now))

pub returns : goal.returns
returns g c =
    let p = c.pass.inside in
    let t = c.prepare-found in
    let v = c.in-Ok.validation in
    let listed = subst (λ (bs : List Based). IsValidation t.new.token.seen (window_in g.N.Naming.lock.origin) c.args.shard bs v) c.as_slice.ensures
    c.in-Ok.ensures.validation in
    let is = subst (λ (w : ℕ). IsValidation t.new.token.seen w c.args.shard c.args.based.now v) (sym c.pass.invariant.settings.window) listed in
    let here = was-prepared g.N.Naming.lock.origin g.N.Naming.lock.base p.client p.front t.new.token p.seen p.taken p.settings c.pass.invariant
    t.ensures.later t.ensures.lawful p.subscribed.keys p.denied c.args.shard c.args.based.now v is in
    rw (← c.pass.view_is) (subst (λ (n : ℕ). IsAnswered
    (known_of (passed g.N.Naming.lock.base p.client p.front p.seen p.subscribed.keys p.taken p.denied p.settings))
    (Call.prepare c.args.shard c.args.based.now) (front_answered v.answer)
    (known_of (passed g.N.Naming.lock.base p.client t.new.token n p.subscribed.keys p.taken p.denied p.settings))) (sym c.max-pass-inside.ensures) here)
