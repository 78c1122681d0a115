-- What is said to bar does, and else nothing bars.
use Rattle.std.proofs.Common.{◌≡◌, ◌≢◌, ℕ, ◌<◌, ◌⊎◌, inl, inr, Bool, true, false, cond, List, [], ◌∷◌, Some, None, refl, sym, ap, subst, arith}
use Rattle.std.specs.Prelude.{◌==◌}
use Rattle.std.proofs.lemmas.Bool.{eqb-true, eqb-false}
use Rattle.rdt_types.specs.DeltaMaps.{Deltas}
use Rattle.txn_lang.specs.States.{Journal}
use Rattle.journal_core.specs.declared.hold.Hold.{Hold}
use Rattle.journal_core.specs.declared.hold.Barred.{Barred}
use Rattle.journal_core.specs.Pairs.{AreNumbered}
use Rattle.journal_core.specs.Holds.{IsBar, disturbs_some, live, bars_of, bars}
use Rattle.hold_core.specs.Laws.{BarsAreLeast}
use Rattle.hold_core.proofs.Places.{Has, has-first, has-none, has-later, has-cases}
use Rattle.hold_core.proofs.Rising.{IsRising, rising-above}
use Rattle.hold_core.proofs.Listed.{all-listed}

-- ---- what bars among listed holds

-- a listed hold of another client is disturbed, and below it none is that or the client's own
record Bars (holds : List Hold) (client : ℕ) (deltas : Deltas) (barred : Barred) : Type 0 where
  hold : Hold
  there : Has holds hold
  at : barred.at ≡ hold.number
  whose : barred.client ≡ hold.client
  another : hold.client ≢ client
  disturbed : disturbs_some deltas hold.observations ≡ true
  least : (other : Hold) → Has holds other → other.number < hold.number → (other.client ≢ client) × (disturbs_some deltas other.observations ≡ false)

-- what is found is such a one
bars-some : (n : ℕ) (holds : List Hold) (client : ℕ) (deltas : Deltas) (barred : Barred) → IsRising n holds → bars_of holds client deltas ≡ Some barred
    → Bars holds client deltas barred
bars-some n [] client deltas barred rising e = absurd (cc)
bars-some n (first ∷ rest) client deltas barred rising e =
    by (bars-some first.number rest client deltas barred rising.1) (first.client == client) refl (disturbs_some deltas first.observations) refl e
  where
    none-below : (other : Hold) → (first ≡ other) ⊎ Has rest other → other.number < first.number
        → (other.client ≢ client) × (disturbs_some deltas other.observations ≡ false)
    none-below other (inl same) below = let number : first.number ≡ other.number = ap (λ h. h.number) same in absurd (omega (arith, number))
    none-below other (inr has) below = let above = rising-above first.number rest other rising.1 has in absurd (omega arith)

    here : first.client ≢ client → disturbs_some deltas first.observations ≡ true
        → Some (record { client = first.client; at = first.number }) ≡ Some barred → Bars (first ∷ rest) client deltas barred
    here another disturbed e =
        let found : Barred = record { client = first.client; at = first.number } in
        let same : found ≡ barred = cc in record {
          hold = first;
          there = has-first first rest;
          at = sym (ap (λ b. b.at) same);
          whose = sym (ap (λ b. b.client) same);
          another = another;
          disturbed = disturbed;
          least = λ other has. none-below other (has-cases other first rest has);
        }

    behind : first.client ≢ client → disturbs_some deltas first.observations ≡ false → Bars rest client deltas barred → Bars (first ∷ rest) client deltas barred
    behind another undisturbed later = record {
      hold = later.hold;
      there = has-later later.hold first rest later.there;
      at = later.at;
      whose = later.whose;
      another = later.another;
      disturbed = later.disturbed;
      least = λ other has below. least-by other (has-cases other first rest has) below;
    }
      where
        least-by : (other : Hold) → (first ≡ other) ⊎ Has rest other → other.number < later.hold.number
            → (other.client ≢ client) × (disturbs_some deltas other.observations ≡ false)
        least-by other (inl same) below =
            subst (λ h. (h.client ≢ client) × (disturbs_some deltas h.observations ≡ false)) same (another, undisturbed)
        least-by other (inr has) below = later.least other has below

    by : (bars_of rest client deltas ≡ Some barred → Bars rest client deltas barred) → (own : Bool) → (first.client == client) ≡ own → (disturbed : Bool)
        → disturbs_some deltas first.observations ≡ disturbed
        → cond own None (cond disturbed (Some (record { client = first.client; at = first.number })) (bars_of rest client deltas)) ≡ Some barred
        → Bars (first ∷ rest) client deltas barred
    by later true own disturbed hit e = absurd (cc)
    by later false own true hit e = here (eqb-false first.client client own) hit e
    by later false own false hit e = behind (eqb-false first.client client own) hit (later e)

-- Where nothing is found, a hold of another client below which the client has none is not disturbed.
pub bars-none : (n : ℕ) (holds : List Hold) (client : ℕ) (deltas : Deltas) (hold : Hold) → IsRising n holds → bars_of holds client deltas ≡ None
    → Has holds hold → hold.client ≢ client → ((other : Hold) → Has holds other → other.number < hold.number → other.client ≢ client)
    → disturbs_some deltas hold.observations ≡ false
bars-none n [] client deltas hold rising e has another least = absurd (has-none hold has)
bars-none n (first ∷ rest) client deltas hold rising e has another least =
    by
    (λ has e.
    bars-none first.number rest client deltas hold rising.1 e has another (λ other there. least other (has-later other first rest there)))
    (has-cases hold first rest has) (first.client == client) refl (disturbs_some deltas first.observations) refl e
  where
    owned : (first ≡ hold) ⊎ Has rest hold → first.client ≡ client → ⊥
    owned (inl same) own = another (subst (λ h. h.client ≡ client) same own)
    owned (inr has) own = least first (has-first first rest) (rising-above first.number rest hold rising.1 has) own

    by : (Has rest hold → bars_of rest client deltas ≡ None → disturbs_some deltas hold.observations ≡ false) → (first ≡ hold) ⊎ Has rest hold
        → (own : Bool) → (first.client == client) ≡ own → (disturbed : Bool) → disturbs_some deltas first.observations ≡ disturbed
        → cond own None (cond disturbed (Some (record { client = first.client; at = first.number })) (bars_of rest client deltas)) ≡ None
        → disturbs_some deltas hold.observations ≡ false
    by behind there true own disturbed hit e = absurd (owned there (eqb-true first.client client own))
    by behind there false own true hit e = absurd (cc)
    by behind (inl same) false own false hit e = subst (λ h. disturbs_some deltas h.observations ≡ false) same hit
    by behind (inr has) false own false hit e = behind has e

-- ---- the law

-- what is found bars
found-bars : (m : ℕ) (journal : Journal) (client : ℕ) (deltas : Deltas) (barred : Barred) → AreNumbered journal → bars m journal client deltas ≡ Some barred
    → IsBar m journal client deltas barred
found-bars m journal client deltas barred numbered e =
    let lists = all-listed m journal numbered in
    let found = bars-some 0 (live m journal) client deltas barred lists.rising e in record {
      hold = found.hold;
      live = lists.sound found.hold found.there;
      at = found.at;
      whose = found.whose;
      another = found.another;
      disturbed = found.disturbed;
      least = λ other live. found.least other (lists.whole other live);
    }

-- and where nothing is, nothing does
none-bars : (m : ℕ) (journal : Journal) (client : ℕ) (deltas : Deltas) (barred : Barred) → AreNumbered journal → bars m journal client deltas ≡ None
    → IsBar m journal client deltas barred → ⊥
none-bars m journal client deltas barred numbered e bar =
    let lists = all-listed m journal numbered in
    let disturbed = bar.disturbed in
    let spared = bars-none 0 (live m journal) client deltas bar.hold lists.rising e (lists.whole bar.hold bar.live) bar.another
    (λ other there below. (bar.least other (lists.sound other there) below).0) in
    absurd (cc)

pub bars-are-least : BarsAreLeast
bars-are-least = record { some = found-bars; none = none-bars }
