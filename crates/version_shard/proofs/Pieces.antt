-- Changes that come in pieces, and those of them that were followed.
use Rattle.std.proofs.Common.{◌≡◌, ℕ, ◌+◌, ◌<◌, suc, if◌then◌else◌, List, [], ◌∷◌, ◌++◌, take, drop, length, get_or, refl, sym, ap, ◌∙◌, arith, append-nil, append_assoc, length-append}
use Rattle.std.specs.BTreeMap.{is_at}
use Rattle.std.proofs.Math.Seq.{take-append_seam, drop-cons}
use Rattle.std.proofs.lemmas.List.Sums.{fold-append}
use Rattle.rdt_types.specs.declared.address.Address.{Address}
use Rattle.rdt_types.specs.Addresses.{address_cmp}
use Rattle.change_feed.specs.declared.change.Change.{Change}
use Rattle.version_shard.specs.Versions.{Versioned, up_to}
use Rattle.version_shard.specs.Shards.{Kept, versions_of}
use Rattle.version_shard.specs.code.Following.{followed_at, followed_along, cut_along}

-- the way back at a piece and then at the rest is that at all
pub cut-pieces : (all piece rest : List Change) → all ≡ piece ++ rest → (number : ℕ) (a : Address) (v w : Versioned) → w ≡ cut_along number a piece v
    → cut_along number a rest w ≡ cut_along number a all v
cut-pieces all piece rest split number a v w is =
    ap (cut_along number a rest) is
    ∙ sym (ap (λ l. cut_along number a l v) split
    ∙ fold-append (λ x change. if is_at (address_cmp change.address) a then up_to number x else x) v piece rest)

-- Of all changes the first are followed, and these are left.
pub record AreLeft (window : ℕ) (all left : List Change) (old new : Kept) : Type 0 where
  pub done : List Change
  pub split : all ≡ done ++ left
  pub versions : (a : Address) → versions_of new a ≡ followed_along window a done (versions_of old a)

-- at the beginning all are left
pub all-left : (window : ℕ) (all : List Change) (kept : Kept) → AreLeft window all all kept kept
all-left window all kept = record { done = []; split = refl; versions = λ a. refl }

-- the item behind some is the first of the others
get-behind : {X : Type 0} (xs : List X) (y : X) (ys : List X) → get_or (xs ++ y ∷ ys) (length xs) y ≡ y
get-behind [] y ys = refl
get-behind (x ∷ xs) y ys = get-behind xs y ys

-- what is left of a piece begins with the change at its place
pub next-in : (piece rest : List Change) (i : ℕ) (c : Change) → c ≡ get_or piece i c → i < length piece
    → drop i piece ++ rest ≡ c ∷ (drop (i + 1) piece ++ rest)
next-in piece rest i c is within =
    let next : suc i ≡ i + 1 = omega arith in
    ap (λ l. l ++ rest) (drop-cons piece i c within ∙ ap (λ x. x ∷ drop (suc i) piece) (sym is) ∙ ap (λ k. c ∷ drop k piece) next)

module _ (window : ℕ) (all left : List Change) (old now : Kept) (are : AreLeft window all left old now) where
  -- what is left comes in pieces
  pub pieces-left : (piece rest : List Change) → left ≡ piece ++ rest → AreLeft window all (piece ++ rest) old now
  pieces-left piece rest split = record { done = are.done; split = are.split ∙ ap (λ l. are.done ++ l) split; versions = are.versions }

  -- where none is left all are followed
  pub none-left : left ≡ [] → (a : Address) → versions_of now a ≡ followed_along window a all (versions_of old a)
  none-left none a =
      are.versions a
      ∙ ap (λ l. followed_along window a l (versions_of old a)) (sym (are.split ∙ ap (λ l. are.done ++ l) none ∙ append-nil are.done))

  module _ (c : Change) (rest : List Change) (next : left ≡ c ∷ rest) where
    -- the change that is next stands behind those that are followed
    whole : all ≡ are.done ++ c ∷ rest
    whole = are.split ∙ ap (λ l. are.done ++ l) next

    pub next-at : c ≡ get_or all (length are.done) c
    next-at = sym (ap (λ l. get_or l (length are.done) c) whole ∙ get-behind are.done c rest)

    pub next-within : length are.done < length all
    next-within = let l = ap length whole ∙ length-append are.done (c ∷ rest) in omega (arith, l)

    pub next-versions : (a : Address) → versions_of now a ≡ followed_along window a (take (length are.done) all) (versions_of old a)
    next-versions a =
        are.versions a
        ∙ ap (λ l. followed_along window a l (versions_of old a))
        (sym (ap (take (length are.done)) whole ∙ take-append_seam are.done (c ∷ rest)))

    -- and once it is followed, the others are left
    pub one-less : (new : Kept) → ((a : Address) → versions_of new a ≡ followed_at window a c (versions_of now a)) → AreLeft window all rest old new
    one-less new is = record {
      done = are.done ++ c ∷ [];
      split = whole ∙ sym (append_assoc are.done (c ∷ []) rest);
      versions = λ a.
          is a
          ∙ ap (followed_at window a c) (are.versions a)
          ∙ sym (fold-append (λ v change. followed_at window a change v) (versions_of old a) are.done (c ∷ []));
    }
