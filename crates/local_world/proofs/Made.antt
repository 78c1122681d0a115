-- A new world is the first store, and its parts stand for the journal without commits.
use Rattle.std.proofs.Common.{◌≡◌, ℕ, zero, suc, ◌+◌, ◌≤◌, Bool, true, false, cond, List, [], ◌∷◌, ◌++◌, length, take, Option, Some, None, inl}
use Rattle.std.proofs.Common.{inr, add-one, refl, sym, ap, ◌∙◌, subst, arith}
use Rattle.std.specs.Prelude.{◌⊎◌, is_some, nat_lt, replicate, slice_get}
use Rattle.std.proofs.lemmas.List.{length-append}
use Rattle.change_feed.specs.declared.tail.Tail.{Tail}
use Rattle.version_shard.specs.Standing.{Holds, IsNext, empty}
use Rattle.std.specs.Option.{option_map_or}
use Rattle.std.proofs.Math.Path.{fun_ext}
use Rattle.std.proofs.lemmas.Bool.Decides.{nat_tests}
use Rattle.rdt_types.specs.declared.address.Address.{Address}
use Rattle.rdt_types.specs.declared.limits.TheConstants.{LEAST_SHARDS}
use Rattle.rdt_types.specs.declared.settings.Settings.{Settings}
use Rattle.txn_lang.specs.States.{Journal}
use Rattle.journal_core.specs.Journals.{Standing}
use Rattle.hold_core.specs.Books.{Holding, first_holding, book_of}
use Rattle.version_shard.specs.Shards.{Sharded}
use Rattle.reactive_registry.specs.Registered.{Kept, Registered, entered, is_address, is_subscribed}
use Rattle.reactive_registry.specs.Standing.{KeptFor}
use Rattle.docc_prepare.specs.declared.limits.TheConstants.{CLIENTS}
use Rattle.docc_prepare.specs.Stores.{Store, first_store, IsSound}
use Rattle.docc_prepare.proofs.Stored.{first_store_is_sound}
use Rattle.local_world.specs.Stored.{taken_by, store_of}
use Rattle.local_world.specs.Standing.{IsHeld, AreHeldTo, AreHeld, IsFollowing, IsKept, fronts_of, stored}
use Rattle.local_world.specs.Making.{IsEntered}

module _ (registry : Registered) (made : IsEntered CLIENTS registry) where
  -- each client has entered with no address, or hasn't entered
  nobody-told : (c : ℕ) (a : Address) → is_subscribed registry c a ≡ false
  nobody-told c a = ap (λ (o : Option Kept). option_map_or (λ k. is_address k a) o false) (made.kept c) ∙ by (nat_lt c CLIENTS)
    where
      by : (b : Bool) → option_map_or (λ k. is_address k a) (cond b (Some (entered 0)) None) false ≡ false
      by true = refl
      by false = refl

  -- each has taken up to 0, where the registry begins
  nothing-taken : (c : ℕ) → taken_by registry c ≡ 0
  nothing-taken c = ap (λ (o : Option Kept). option_map_or (λ (k : Kept). k.taken) o 0) (made.kept c) ∙ by (nat_lt c CLIENTS)
    where
      by : (b : Bool) → option_map_or (λ (k : Kept). k.taken) (cond b (Some (entered 0)) None) 0 ≡ 0
      by true = refl
      by false = refl

  -- there are no changes to stand for, and every client has entered
  following-first : IsFollowing [] registry
  following-first = record {
    reached = let f = made.front in omega arith;
    stands = record { followed = tt; kept = λ s k e. by s k (nat_lt s CLIENTS) (sym (made.kept s) ∙ e) };
    entered = λ client below. let yes : nat_lt client CLIENTS ≡ true = grind (arith, nat_tests) in
        ap (λ (o : Option Kept). is_some o) (made.kept client ∙ ap (λ b. cond b (Some (entered 0)) None) yes);
  }
    where
      by : (s : ℕ) (k : Kept) (b : Bool) → cond b (Some (entered 0)) None ≡ Some k → KeptFor [] registry.front k
      by s k true e = let same : entered 0 ≡ k = cc in subst (KeptFor [] registry.front) same (record { taken = omega arith; deltas = λ a. refl })
      by s k false e = absurd (cc)

  module _ (settings : Settings) (standing : Standing) (shards : List Sharded) (seens : List ℕ) (bare : standing.commits ≡ [])
      (fronts : fronts_of shards ≡ replicate settings.shards 0) (seen : seens ≡ replicate CLIENTS 0) where
    -- it has no commits, its fronts and what was seen are 0, nobody is told of anything and nothing was taken
    pub is-first : store_of (stored settings standing.commits shards seens registry) ≡ first_store settings.shards settings.window settings.limit
    is-first =
        let n = settings.shards in
        let w = settings.window in
        let l = settings.limit in
        let told : ℕ → Address → Bool = λ c a. is_subscribed registry c a in
        let taken : ℕ → ℕ = λ c. taken_by registry c in
        let made' : Journal → List ℕ → List ℕ → (ℕ → Address → Bool) → (ℕ → ℕ)
        → Store = λ j fs ns s t. record { shards = n; window = w; limit = l; journal = j; fronts = fs; seens = ns; subscribed = s; taken = t } in
        ap (λ (j : Journal). made' j (fronts_of shards) seens told taken) bare
        ∙ ap (λ (fs : List ℕ). made' [] fs seens told taken) fronts
        ∙ ap (λ (ns : List ℕ). made' [] (replicate n 0) ns told taken) seen
        ∙ ap (λ (s : ℕ → Address → Bool). made' [] (replicate n 0) (replicate CLIENTS 0) s taken) (fun_ext (λ c. fun_ext (nobody-told c)))
        ∙ ap (λ (t : ℕ → ℕ). made' [] (replicate n 0) (replicate CLIENTS 0) (λ c a. false) t) (fun_ext nothing-taken)

    -- the first store is sound, over at least one shard
    pub first-sound : IsSound (store_of (stored settings standing.commits shards seens registry))
    first-sound =
        subst IsSound (sym is-first)
        (first_store_is_sound settings.shards settings.window settings.limit
        (let some : LEAST_SHARDS ≤ settings.shards = settings.shards_in_range.0 in omega arith))

    -- its shards, its registry and its book stand for the journal without commits
    pub first-kept : (book : Holding) → book ≡ first_holding 0 → standing.shards ≡ settings.shards → standing.limit ≡ settings.limit
        → AreHeld [] settings shards → IsKept settings standing shards seens registry book
    first-kept book empty all_shards limit held = record {
      sound = first-sound;
      all_shards = all_shards;
      limit_is = limit;
      held = subst (λ (j : Journal). AreHeld j settings shards) (sym bare) held;
      following = subst (λ (j : Journal). IsFollowing j registry) (sym bare) following-first;
      book_is = empty ∙ ap (book_of 0) (sym bare);
    }

-- ---- shards that have followed nothing

-- an item of a list with one more is that one, at the end, or was there before
push-cases : {A : Type 0} (xs : List A) (y : A) (j : ℕ) (x : A) → slice_get (xs ++ y ∷ []) j ≡ Some x → ((length xs ≡ j) × (y ≡ x)) ⊎ (slice_get xs j ≡ Some x)
push-cases [] y zero x is = let same : y ≡ x = cc in inl (refl, same)
push-cases [] y (suc j) x is = absurd (cc)
push-cases (z ∷ xs) y zero x is = inr is
push-cases (z ∷ xs) y (suc j) x is = elim (push-cases xs y j x is) [ inl p ↦ inl (ap suc p.0, p.1) | inr h ↦ inr h ]

-- a shard more has its front behind the others
fronts-push : (shards : List Sharded) (s : Sharded) → fronts_of (shards ++ s ∷ []) ≡ fronts_of shards ++ s.front ∷ []
fronts-push [] s = refl
fronts-push (z ∷ shards) s = ap (λ ns. z.front ∷ ns) (fronts-push shards s)

-- a copy more at the end is as good as one more in front
replicate-push : (n x : ℕ) → replicate n x ++ x ∷ [] ≡ replicate (suc n) x
replicate-push zero x = refl
replicate-push (suc n) x = ap (λ ns. x ∷ ns) (replicate-push n x)

-- one that is made of no changes holds the journal without commits
pub one-made : (settings : Settings) (n : ℕ) (none : Tail) (s : Sharded) → none.from ≡ 0 → none.to ≡ 0 → none.changes ≡ []
    → s ≡ record (empty n settings.shards settings.window) { front = none.to; kept = s.kept }
    → ((journal : Journal) → IsNext journal (empty n settings.shards settings.window) none → Holds (take none.to journal) s) → IsHeld [] settings n s
one-made settings n none s first last nothing same holds =
    let front : s.front ≡ none.to = ap (λ (x : Sharded). x.front) same in record {
      number = ap (λ (x : Sharded). x.number) same;
      shards = ap (λ (x : Sharded). x.shards) same;
      window = ap (λ (x : Sharded). x.window) same;
      reached = omega arith;
      holds = subst (λ (k : ℕ). Holds (take k []) s) (sym front)
          (holds [] (record {
            readable = record { numbered = tt; rising = tt };
            within = omega arith;
            exact = record { begins = first; ends = refl; exact = nothing };
          }));
    }

-- one shard more, made of no changes, holds the journal without commits as the others do, and its front is 0
pub more-made : (settings : Settings) (n : ℕ) (shards all : List Sharded) (s : Sharded) → AreHeldTo [] settings n shards × (fronts_of shards ≡ replicate n 0)
    → IsHeld [] settings n s → s.front ≡ 0 → all ≡ shards ++ s ∷ [] → AreHeldTo [] settings (n + 1) all × (fronts_of all ≡ replicate (n + 1) 0)
more-made settings n shards all s before held front is =
    subst (λ (x : List Sharded). AreHeldTo [] settings (n + 1) x × (fronts_of x ≡ replicate (n + 1) 0)) (sym is) (
      record {
        as_many = let l = length-append shards (s ∷ []) in let m = before.0.as_many in omega arith;
        each = λ j x e. elim (push-cases shards s j x e) [
          | inl p ↦ subst (λ (y : Sharded). IsHeld [] settings j y) p.1 (subst (λ (k : ℕ). IsHeld [] settings k s) (sym before.0.as_many ∙ p.0) held)
          | inr h ↦ before.0.each j x h
        ];
      },
      fronts-push shards s
          ∙ ap (λ ns. ns ++ s.front ∷ []) before.1
          ∙ ap (λ (k : ℕ). replicate n 0 ++ k ∷ []) front
          ∙ replicate-push n 0
          ∙ ap (λ (k : ℕ). replicate k 0) (sym (add-one n)),
    )
