-- The first clash of changes that come in pieces.
use Rattle.std.proofs.Common.{◌≡◌, ℕ, ◌+◌, Bool, true, false, cond, is_some, List, [], ◌∷◌, ◌++◌, filter, length, Option, Some, None, refl, sym, ap, ◌∙◌}
use Rattle.std.proofs.lemmas.List.{length-append}
use Rattle.std.proofs.lemmas.List.Elements.{filter-append}
use Rattle.change_feed.specs.declared.change.Change.{Change}
use Rattle.abort_witness.specs.declared.witness.Based.{Based}
use Rattle.abort_witness.specs.Pairs.{clashes, first_clash}

-- the first of two that there is
abbrev first_of : Option ℕ → Option ℕ → Option ℕ
first_of None second = second
first_of (Some n) second = Some n

module _ (based : Based) where
  -- change by change: the first clash of all is that of the first piece, and where it has none that of the rest
  first_clash-append : (piece rest : List Change) → first_clash based (piece ++ rest) ≡ first_of (first_clash based piece) (first_clash based rest)
  first_clash-append [] rest = refl
  first_clash-append (change ∷ piece) rest = by (clashes based change) (first_clash-append piece rest)
    where
      by : (b : Bool) → first_clash based (piece ++ rest) ≡ first_of (first_clash based piece) (first_clash based rest)
          → cond b (Some change.number) (first_clash based (piece ++ rest))
          ≡ first_of (cond b (Some change.number) (first_clash based piece)) (first_clash based rest)
      by true e = refl
      by false e = e

  module _ (all piece rest : List Change) (split : all ≡ piece ++ rest) where
    -- a clash in the first piece is the first of all
    pub clash-found : is_some (first_clash based piece) ≡ true → first_clash based piece ≡ first_clash based all
    clash-found found = by (first_clash based piece) found ∙ sym (ap (first_clash based) split ∙ first_clash-append piece rest)
      where
        by : (n : Option ℕ) → is_some n ≡ true → n ≡ first_of n (first_clash based rest)
        by None e = absurd (cc)
        by (Some n) e = refl

    -- and where it has none, the first is in the rest
    pub clash-behind : is_some (first_clash based piece) ≡ false → first_clash based rest ≡ first_clash based all
    clash-behind none = by (first_clash based piece) none ∙ sym (ap (first_clash based) split ∙ first_clash-append piece rest)
      where
        by : (n : Option ℕ) → is_some n ≡ false → first_clash based rest ≡ first_of n (first_clash based rest)
        by None e = refl
        by (Some n) e = absurd (cc)

-- what passes a test in all does so in the first piece or in the rest
pub length-filtered : (test : Change → Bool) (all piece rest : List Change) → all ≡ piece ++ rest
    → length (filter test all) ≡ length (filter test piece) + length (filter test rest)
length-filtered test all piece rest split =
    ap (λ l. length (filter test l)) split ∙ ap length (filter-append test piece rest) ∙ length-append (filter test piece) (filter test rest)

-- all are those of the first piece and those of the rest
pub length-split : (all piece rest : List Change) → all ≡ piece ++ rest → length all ≡ length piece + length rest
length-split all piece rest split = ap length split ∙ length-append piece rest
