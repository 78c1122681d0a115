-- What tokens keep from call to call.
use Rattle.std.proofs.Common.{◌≡◌, ◌≢◌, ℕ, ◌+◌, ◌<◌, ◌≤◌, ◌==◌, Bool, true, false, List, [], length, take, MatchBool, refl, ap, sym, ◌∙◌}
use Rattle.std.proofs.Common.{subst, arith}
use Rattle.std.proofs.lemmas.Bool.Decides.{nat_tests}
use Rattle.atomic_table.specs.Table.{Me}
use Rattle.atomic_table.specs.declared.shared.Seat.{Seat}
use Rattle.history_lock.specs.declared.known.Known.{Known}
use Rattle.history_lock.specs.declared.view.View.{View}
use Rattle.history_lock.specs.Names.{LockId}
use Rattle.plain_data.specs.Histories.{IsLawful}
use Rattle.history_lock.specs.Entries.{AddsOwn}
use Rattle.history_lock.specs.Tokens.{IsLater}
use Rattle.history_lock.specs.Steps.{settled, Learns, Appends}
use Rattle.history_lock.specs.Fronts.{IsFront}
use Rattle.history_lock.proofs.Prefixes.{IsPrefix-take, IsPrefix-trans, length-take-one}
use Rattle.plain_data.proofs.Histories.{IsLawful-prefix}
use Rattle.history_lock.proofs.Named.{AddsOwn-take}

module _ {E : Type 0} (names : E → ℕ) where
  -- later twice is later
  pub IsLater-trans : (u v w : Known E) → IsLater names u v → IsLater names v w → IsLater names u w
  IsLater-trans u v w p q = record {
    seen = IsPrefix-trans u.seen v.seen w.seen p.seen q.seen;
    count = (let x = p.count in let y = q.count in omega arith);
    draws = (let x = p.draws in let y = q.draws in omega arith);
    looks = (let x = p.looks in let y = q.looks in omega arith);
    author = q.author ∙ p.author;
    own_entries = λ n is. q.own_entries n (p.author ∙ is) ∙ p.own_entries n is;
  }

-- a token stays one where it has tried to add an entry of a lawful list
pub IsFront-appends : {T E : Type 0} (may : ℕ → List E → E → Type 0) (lock : LockId) (old new : Seat T (View E)) (c d n m at found : ℕ) (list : List E)
    → IsFront may lock old c d n → new.table_id ≡ old.table_id → IsLawful may lock.base list → at < length list → (found ≡ at → m ≡ at + 1)
    → (found ≢ at → m ≡ n) → Appends list at old.me found new.me → IsFront may lock new c d m
IsFront-appends {T} {E} may lock old new c d n m at found list is table lawful more then_more else_same told = by (found == at) refl
  where
    -- the token is as before but for its prefix
    with_seen : (seen : List E) → IsLawful may lock.base seen → length seen ≡ m
        → new.me ≡ (record old.me.0 { known = record old.me.0.known { seen = seen } }, old.me.1) → IsFront may lock new c d m
    with_seen seen fine long e = let known : Known E = record old.me.0.known { seen = seen } in record {
      table = table ∙ is.table;
      me =
          e
          ∙ ap (λ (me : Me T (View E)). (record me.0 { known = known }, me.1)) is.me
          ∙ ap (λ (k : Known E). (settled lock.first lock.base k, [])) (sym (ap (λ (me : Me T (View E)). me.0.known) e));
      count = ap (λ (me : Me T (View E)). me.0.known.count) e ∙ is.count;
      draws = ap (λ (me : Me T (View E)). me.0.known.draws) e ∙ is.draws;
      entries = ap (λ (me : Me T (View E)). length me.0.known.seen) e ∙ long;
      limit = is.limit;
      lawful = subst (IsLawful may lock.base) (sym (ap (λ (me : Me T (View E)). me.0.known.seen) e)) fine;
    }

    by : (t : Bool) → (found == at) ≡ t → IsFront may lock new c d m
    by true hit =
        with_seen (take (at + 1) list) (IsLawful-prefix may lock.base (take (at + 1) list) list (IsPrefix-take (at + 1) list) lawful)
        (length-take-one list at more ∙ sym (then_more (grind (arith, nat_tests))))
        (subst (λ (t : Bool). MatchBool t (Learns old.me (record old.me.0.known { seen = take (at + 1) list }) new.me)
        (new.me ≡ old.me)) hit told)
    by false miss =
        with_seen old.me.0.known.seen is.lawful (is.entries ∙ sym (else_same (grind (arith, nat_tests))))
        (subst (λ (t : Bool). MatchBool t (Learns old.me (record old.me.0.known { seen = take (at + 1) list }) new.me)
        (new.me ≡ old.me)) miss told)

module _ {E : Type 0} (names : E → ℕ) (list : List E) where
  -- of the list the token has added what comes before this place, to what it knew at first, and may add the rest
  pub record HasAdded (first : Known E) (at : ℕ) (k : Known E) : Type 0 where
    pub same : k ≡ record first { seen = take at list }
    pub within : at ≤ length list
    pub place : length k.seen ≡ at
    pub rest : AddsOwn names k.author k.seen list

  -- the next entry was added
  pub HasAdded-next : (first k new : Known E) (at : ℕ) → HasAdded first at k → at < length list
      → new ≡ record k { seen = take (at + 1) list } → HasAdded first (at + 1) new
  HasAdded-next first k new at has more is = record {
    same = is ∙ ap (λ (x : Known E). record x { seen = take (at + 1) list }) has.same;
    within = omega arith;
    place = ap (λ (x : Known E). length x.seen) is ∙ length-take-one list at more;
    rest =
        subst (λ (x : Known E). AddsOwn names x.author x.seen list) (sym is) (AddsOwn-take names k.author k.seen list at has.rest has.place more);
  }
