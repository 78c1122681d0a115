-- What a shard goes on standing for.
use Rattle.std.proofs.Common.{◌≡◌, ℕ, ◌+◌, ◌-◌, ◌≤◌, zero, suc, nat_le, nat_lt, List, [], ◌++◌, take, drop, refl, sym, ap, ◌∙◌, subst, arith}
use Rattle.std.proofs.Common.{append-nil, length-take-le}
use Rattle.std.specs.BTreeMap.{is_at}
use Rattle.std.proofs.lemmas.List.{take-append-drop}
use Rattle.std.proofs.lemmas.List.Elements.{filter-append}
use Rattle.rdt_types.specs.declared.address.Address.{Address}
use Rattle.rdt_types.specs.Addresses.{address_cmp}
use Rattle.rdt_types.specs.Shards.{shard_of}
use Rattle.rdt_types.specs.Values.{default_of}
use Rattle.change_feed.specs.declared.change.Change.{Change}
use Rattle.change_feed.specs.declared.tail.Tail.{Tail}
use Rattle.txn_lang.specs.States.{Journal, left_by}
use Rattle.journal_core.specs.Changes.{changes, up_to, between, of_shard, of_address}
use Rattle.journal_core.proofs.ByShard.{swapped}
use Rattle.journal_core.proofs.Each.{each-more}
use Rattle.version_shard.specs.Versions as versions
use Rattle.version_shard.specs.Versions.{Versioned}
use Rattle.version_shard.specs.Shards.{Sharded, horizon_at, horizon, versions_of, IsIn}
use Rattle.version_shard.specs.Standing.{Holds, IsNext, empty}
use Rattle.version_shard.specs.code.Following.{followed_along, Reaches}
use Rattle.version_shard.proofs.Stepping.{Stands, stands-later, along-stands, cut-stands}
use Rattle.version_shard.proofs.Folding.{readable-take, state-left, followed-part}

-- the versions of an address in a shard stand for the journal's changes there
stands : (journal : Journal) (shard : Sharded) → Holds journal shard → (a : Address) → IsIn shard a
    → Stands a (horizon shard) (default_of a.kind) (of_address a (changes journal)) (versions_of shard.kept a)
stands journal shard holds a here = record {
  values = λ n le. holds.values a n here le ∙ state-left journal n a holds.readable;
  changes = λ n le. holds.changes a n here le ∙ swapped (λ change. is_at (address_cmp a) change.address) (λ change. nat_lt n change.number) (changes journal);
}

-- what is past a number doesn't count up to it
some-up_to : (r count : ℕ) (own all : List Change) (a : Address) → up_to r (drop count all) ≡ []
    → up_to r (own ++ of_address a (take count all)) ≡ up_to r (own ++ of_address a all)
some-up_to r count own all a rest =
    filter-append (λ change. nat_le change.number r) own (of_address a (take count all))
    ∙ ap (λ l. up_to r own ++ l)
    (swapped (λ change. nat_le change.number r) (λ change. is_at (address_cmp a) change.address) (take count all)
    ∙ ap (of_address a)
    (sym (append-nil (up_to r (take count all)))
    ∙ ap (λ l. up_to r (take count all) ++ l) (sym rest)
    ∙ sym (filter-append (λ change. nat_le change.number r) (take count all) (drop count all))
    ∙ ap (up_to r) (take-append-drop count all))
    ∙ swapped (λ change. is_at (address_cmp a) change.address) (λ change. nat_le change.number r) all)
    ∙ sym (filter-append (λ change. nat_le change.number r) own (of_address a all))

-- a shard with the settings of another
pub record IsAlike (old new : Sharded) : Type 0 where
  pub number : new.number ≡ old.number
  pub shards : new.shards ≡ old.shards
  pub window : new.window ≡ old.window

module _ (journal : Journal) (old new : Sharded) (tail : Tail) (alike : IsAlike old new) (next : IsNext journal old tail)
    (holds : Holds (take old.front journal) old) (low : old.front ≤ new.front) (high : new.front ≤ tail.to)
    (reaches : Reaches old.window tail.changes new.front old.kept new.kept) where
  -- the horizon doesn't fall
  later : horizon old ≤ horizon new
  later = let w = alike.window in omega (arith, w, low)

  -- the versions stand for the journal up to the new front: old ones stand on, follow the tail, and are cut back to the front
  after : (a : Address) → IsIn old a
      → Stands a (horizon new) (default_of a.kind) (of_address a (changes (take new.front journal))) (versions_of new.kept a)
  after a here =
      let own = of_address a (changes (take old.front journal)) in
      let some = take reaches.count tail.changes in
      let near = each-more (λ (c : Change). c.number ≤ new.front + 1) (λ (c : Change). horizon_at old.window (c.number - 1) ≤ horizon new) some
      (λ c le. let w = alike.window in omega (arith, le, w)) reaches.near in
      let first = stands-later a (horizon old) (horizon new) (default_of a.kind) own (versions_of old.kept a)
      (stands (take old.front journal) old holds a here) later in
      let second = along-stands a old.window (horizon new) (default_of a.kind) some own (versions_of old.kept a) first near in
      let third = cut-stands a (horizon new) new.front (default_of a.kind) (own ++ of_address a some)
      (followed_along old.window a some (versions_of old.kept a)) second (omega arith) in
      subst (λ (v : Versioned). Stands a (horizon new) (default_of a.kind) (of_address a (changes (take new.front journal))) v) (sym (reaches.versions a))
      (subst (λ (l : List Change). Stands a (horizon new) (default_of a.kind) l
      (versions.up_to new.front (followed_along old.window a some (versions_of old.kept a))))
      (some-up_to new.front reaches.count own tail.changes a reaches.rest
      ∙ ap (λ (l : List Change). up_to new.front (own ++ of_address a l))
      (next.exact.exact ∙ ap (λ k. of_shard old.shards k (between old.front tail.to (changes journal))) (sym here))
      ∙ followed-part journal old.shards a old.front new.front tail.to next.readable.numbered low high) third)

  -- so the shard holds for as many commits as its new front: each of its addresses has the values and changes of these
  pub held-after : Holds (take new.front journal) new
  held-after = record {
    readable = readable-take new.front journal next.readable;
    front = length-take-le new.front journal (let w = next.within in omega (arith, w, high));
    values = λ a n here le.
        (after a (theirs a here)).values n le ∙ sym (state-left (take new.front journal) n a (readable-take new.front journal next.readable));
    changes = λ a n here le.
        (after a (theirs a here)).changes n le
        ∙ sym (swapped (λ change. is_at (address_cmp a) change.address) (λ change. nat_lt n change.number) (changes (take new.front journal)));
  }
    where
      theirs : (a : Address) → IsIn new a → IsIn old a
      theirs a here = ap (shard_of a) (sym alike.shards) ∙ here ∙ alike.number

-- nothing was followed, and nothing stands in the journal
pub empty-holds : (number shards window : ℕ) → Holds [] (empty number shards window)
empty-holds number shards window = record {
  readable = record { numbered = tt; rising = tt };
  front = refl;
  values = λ a n here le. by a n;
  changes = λ a n here le. refl;
}
  where
    by : (a : Address) (n : ℕ) → default_of a.kind ≡ left_by (take n []) a
    by a zero = refl
    by a (suc n) = refl
