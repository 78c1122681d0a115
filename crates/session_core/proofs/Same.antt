-- Checked bodies and attempts are their data: what else is kept with them has one proof at most.
use Rattle.std.proofs.Common.{◌≡◌, ℕ, ◌≤◌, Bool, List, Some, None, ap, ◌∙◌, subst}
use Rattle.std.specs.Prelude.{IsTrue}
use Rattle.std.proofs.Math.Bridge.{le_prop}
use Rattle.std.proofs.Math.Logic.{∥∥₁_prop}
use Rattle.rdt_types.specs.declared.limits.TheConstants.{LEAST_SHARDS, MOST_SHARDS}
use Rattle.txn_trees.specs.declared.statement.Body.{Body}
use Rattle.txn_grammar.specs.Characters.{Text}
use Rattle.txn_lang.specs.declared.checked.Checked.{Checked}
use Rattle.txn_lang.specs.Typing.{IsTyped}
use Rattle.txn_lang.specs.Tree.{tree}
use Rattle.txn_lang.specs.Writes.{first_write}
use Rattle.journal_core.specs.declared.ready.PreparedFront.{PreparedFront}
use Rattle.docc_prepare.specs.declared.attempt.Attempt.{Attempt}
use Rattle.docc_prepare.specs.Attempts.{SnapList}

-- ---- bodies

-- a checked body, made of its parts and of proofs of its three conditions
abbrev checked_from : (body : Body) (source : Text) (read_only : Bool) → ∥ tree source ≡ Some body ∥₁ → ∥ IsTyped body ∥₁
    → ∥ (IsTrue read_only → first_write body ≡ None) ∥₁ → Checked
checked_from body source read_only r t w = record { body = body; source = source; read_only = read_only; read = r; typed = t; writes_none = w }

-- each of the three conditions has one proof at most, so bodies with the same parts are one
one_checked : (body : Body) (source : Text) (o : Bool) (r q : ∥ tree source ≡ Some body ∥₁) (t u : ∥ IsTyped body ∥₁)
    (w v : ∥ (IsTrue o → first_write body ≡ None) ∥₁)
    → checked_from body source o r t w ≡ checked_from body source o q u v
one_checked body source o r q t u w v = ap (λ x. checked_from body source o x t w) (∥∥₁_prop r q)
    ∙ (ap (λ x. checked_from body source o q x w) (∥∥₁_prop t u) ∙ ap (λ x. checked_from body source o q u x) (∥∥₁_prop w v))

-- a checked body is the one that is made of its body, its text and an equal flag
by_read_only : (c : Checked) (o : Bool) → c.read_only ≡ o → (r : ∥ tree c.source ≡ Some c.body ∥₁) (t : ∥ IsTyped c.body ∥₁)
    (w : ∥ (IsTrue o → first_write c.body ≡ None) ∥₁)
    → c ≡ checked_from c.body c.source o r t w
by_read_only c o e = subst (λ (x : Bool). (r : ∥ tree c.source ≡ Some c.body ∥₁) (t : ∥ IsTyped c.body ∥₁)
    (w : ∥ (IsTrue x → first_write c.body ≡ None) ∥₁) → c ≡ checked_from c.body c.source x r t w) e
    (λ r t w. one_checked c.body c.source c.read_only c.read r c.typed t c.writes_none w)

-- and of an equal text
by_source : (c : Checked) (source : Text) (o : Bool) → c.source ≡ source → c.read_only ≡ o → (r : ∥ tree source ≡ Some c.body ∥₁) (t : ∥ IsTyped c.body ∥₁)
    (w : ∥ (IsTrue o → first_write c.body ≡ None) ∥₁) → c ≡ checked_from c.body source o r t w
by_source c source o s e = subst (λ (x : Text). (r : ∥ tree x ≡ Some c.body ∥₁) (t : ∥ IsTyped c.body ∥₁)
    (w : ∥ (IsTrue o → first_write c.body ≡ None) ∥₁) → c ≡ checked_from c.body x o r t w) s
    (by_read_only c o e)

-- and of an equal body
by_body : (c : Checked) (body : Body) (source : Text) (o : Bool) → c.body ≡ body → c.source ≡ source → c.read_only ≡ o →
    (r : ∥ tree source ≡ Some body ∥₁) (t : ∥ IsTyped body ∥₁)
    (w : ∥ (IsTrue o → first_write body ≡ None) ∥₁) → c ≡ checked_from body source o r t w
by_body c body source o b s e = subst (λ (x : Body). (r : ∥ tree source ≡ Some x ∥₁) (t : ∥ IsTyped x ∥₁)
    (w : ∥ (IsTrue o → first_write x ≡ None) ∥₁) → c ≡ checked_from x source o r t w) b
    (by_source c source o s e)

-- a checked body is the one that is made of parts equal to its own, such as the other's
pub checked_same : (c d : Checked) → c.body ≡ d.body → c.source ≡ d.source → c.read_only ≡ d.read_only → c ≡ d
checked_same c d b s e = by_body c d.body d.source d.read_only b s e d.read d.typed d.writes_none

-- ---- attempts

-- as many shards as a store may have
abbrev InRange : ℕ → Type 0
InRange n = (LEAST_SHARDS ≤ n) × (n ≤ MOST_SHARDS)

-- an attempt, made of its parts and of proofs that its shards are in range
abbrev attempt_from : Checked → (n : ℕ) → SnapList → List PreparedFront → InRange n → Attempt
attempt_from body n snaps fronts r = record { body = body; shards = n; snaps = snaps; fronts = fronts; shards_in_range = r }

-- each of the two bounds has one proof at most
one_range : (n : ℕ) (r q : InRange n) → r ≡ q
one_range n r q = ap (λ x. (x, r.1)) (le_prop r.0 q.0) ∙ ap (λ y. (q.0, y)) (le_prop r.1 q.1)

-- attempts over equal numbers of shards are one, whatever proof of the range each keeps
by_shards : (body : Checked) (n m : ℕ) (snaps : SnapList) (fronts : List PreparedFront) (r : InRange n) → n ≡ m →
    (q : InRange m) → attempt_from body n snaps fronts r ≡ attempt_from body m snaps fronts q
by_shards body n m snaps fronts r e = subst (λ (x : ℕ). (q : InRange x) → attempt_from body n snaps fronts r ≡ attempt_from body x snaps fronts q) e
    (λ q. ap (λ x. attempt_from body n snaps fronts x) (one_range n r q))

-- part by part, each replaced by the other attempt's
pub attempt_same : (a b : Attempt) → a.body ≡ b.body → a.shards ≡ b.shards → a.snaps ≡ b.snaps → a.fronts ≡ b.fronts → a ≡ b
attempt_same a b body shards snaps fronts = ap (λ x. attempt_from x a.shards a.snaps a.fronts a.shards_in_range) body
    ∙ (ap (λ x. attempt_from b.body a.shards x a.fronts a.shards_in_range) snaps
    ∙ (ap (λ x. attempt_from b.body a.shards b.snaps x a.shards_in_range) fronts
    ∙ by_shards b.body a.shards b.shards b.snaps b.fronts a.shards_in_range shards b.shards_in_range))
