-- How many of a list's commits are a client's.
use Rattle.std.proofs.Common.{◌≡◌, ℕ, suc, ◌+◌, true, false, cond, [], ◌∷◌, length, refl, ap, sym, ◌∙◌, arith}
use Rattle.std.specs.Prelude.{◌==◌}
use Rattle.txn_lang.specs.declared.commit.Commit.{Commit}
use Rattle.txn_lang.specs.States.{Journal}
use Rattle.txn_lang.specs.Journals.{own}

-- of no commit none is
pub own_none : (client : ℕ) (commits : Journal) → length commits ≡ 0 → 0 ≡ length (own client commits)
own_none client [] none = refl
own_none client (commit ∷ rest) none = absurd (omega (arith, none))

-- one more, where it is the client's
pub own_same : (client count : ℕ) (commit : Commit) (rest : Journal) → count ≡ length (own client rest)
    → (commit.client == client) ≡ true → count + 1 ≡ length (own client (commit ∷ rest))
own_same client count commit rest is its =
    let more : length (own client (commit ∷ rest)) ≡ suc (length (own client rest)) =
    ap (λ b. length (cond b (commit ∷ own client rest) (own client rest))) its in
    omega (arith, is, more)

-- and else no more
pub own_other : (client count : ℕ) (commit : Commit) (rest : Journal) → count ≡ length (own client rest)
    → (commit.client == client) ≡ false → count ≡ length (own client (commit ∷ rest))
own_other client count commit rest is other =
    is ∙ sym (ap (λ b. length (cond b (commit ∷ own client rest) (own client rest))) other)
