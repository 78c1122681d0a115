use Rattle.std.proofs.Common.{◌≡◌, ◌≤◌, ◌+◌, ◌++◌, ◌∷◌, [], length, sym, ap, ◌∙◌, subst, arith}
use Rattle.std.specs.List.{AllByRecursion}
use Rattle.rdt_types.specs.Deltas.{apply}
use Rattle.version_shard.specs.declared.version.Version.{Version}
use Rattle.version_shard.specs.Versions.{Versioned, latest, value_after}
use Rattle.version_shard.specs.code.Chains.{whole_at}
use Rattle.version_shard.proofs.Chains.{pushed}
use Rattle.version_shard.proofs.chain.Chain.push.Goals as goal

pub invariant_of-self-2 : goal.invariant_of-self-2
invariant_of-self-2 c =
    let inside = c.self.inside in
    let xs = inside.later.items in
    let version : Version = record { number = c.args.number; delta = c.in_ok-delta.delta } in
    let behind = c.from.ensures in
    let len : c.len.result ≡ length xs = c.len.ensures ∙ c.reserve.new.self.ok.0 ∙ ap length c.reserve.ensures.items in
    let count : c.from.result + c.len.result + 1 ≡ inside.behind + length xs + 1 = omega (arith, behind, len) in
    let value : c.args.newest.now ≡ apply version.delta (value_after inside.base xs) =
    c.requires.newest
    ∙ ap (λ d. apply d (latest c.args.self.now)) (sym c.in_ok-delta.ensures)
    ∙ ap (λ (v : Versioned). apply version.delta (latest v)) (sym c.self.view_is) in
    let later : c.push_back_reserved.new.self.items ≡ xs ++ version ∷ [] =
    c.push_back_reserved.ensures.items ∙ ap (λ l. l ++ version ∷ []) c.reserve.ensures.items in
    let wholes : c.add_whole.new.wholes.items ≡ inside.wholes.items ++ whole_at (inside.behind + length xs + 1) (apply version.delta (value_after inside.base xs)) =
    c.in_ok-add_whole.ensures.ok
    ∙ ap (λ n. inside.wholes.items ++ whole_at n c.args.newest.now) count
    ∙ ap (λ v. inside.wholes.items ++ whole_at (inside.behind + length xs + 1) v) value in
    rw (later, wholes)
    (pushed inside.behind inside.base xs inside.wholes.items c.self.invariant version
    (subst (λ (v : Versioned). AllByRecursion (λ x. x.number ≤ c.args.number) v.later) (sym c.self.view_is) c.requires.order))
