-- Changes in segments, where a number parts them.
use Rattle.std.proofs.Common.{◌≡◌, ℕ, ◌+◌, ◌-◌, ◌<◌, ◌≤◌, zero, suc, Bool, true, false, nat_lt, nat_le, List, [], ◌∷◌, ◌++◌, length}
use Rattle.std.proofs.Common.{take, drop, get_or, refl, sym, ap, ◌∙◌, arith, append_assoc, append-nil, subst, inl, inr, ◌⊎◌, Some, slice_get}
use Rattle.std.proofs.lemmas.Bool.{cases_lt}
use Rattle.std.specs.List.Sorted.{IsPartitionedBy, IsNonDecreasingBy}
use Rattle.std.proofs.lemmas.List.Elements.{filter-append}
use Rattle.std.proofs.lemmas.List.{get_or-drop, get_or_default, length-drop, drop-append-le}
use Rattle.std.proofs.Math.Seq.{drop-cons}
use Rattle.std.proofs.Math.ListN.{get_or-eq_default}
use Rattle.std.proofs.lemmas.List.Sorted.{IsPartitionedBy-leb}
use Rattle.change_feed.specs.declared.change.Change.{Change}
use Rattle.change_feed.specs.declared.changes.Changes.{Changes}
use Rattle.change_feed.specs.Segments.{changes_in, in_pieces}
use Rattle.change_feed.specs.Lists.{listed}
use Rattle.journal_core.specs.Changes.{past, up_to}
use Rattle.journal_core.specs.code.Rising.{Rises}
use Rattle.journal_core.specs.code.Parts.{IsPartedAt}
use Rattle.journal_core.proofs.Rising.{rises_lower}
use Rattle.journal_core.specs.code.Segments.{HaveChanges, IsWhole, last_number, end_of, ends_by, EndInOrder, EndBefore, EndExactlyBefore, ArePartedIn}

-- what stands behind changes in order is in order from the last of them on
pub rises-behind : (n : ℕ) (front more : List Change) → Rises n (front ++ more) → Rises (last_number n front) more
rises-behind n [] more rises = rises
rises-behind n (change ∷ rest) more rises = rises-behind change.number rest more rises.1

-- and they are in order themselves
pub rises-front : (n : ℕ) (front more : List Change) → Rises n (front ++ more) → Rises n front
rises-front n [] more rises = tt
rises-front n (change ∷ rest) more rises = (rises.0, rises-front change.number rest more rises.1)

-- the last number isn't below the one from which they rise
pub last-rises : (n : ℕ) (all : List Change) → Rises n all → n ≤ last_number n all
last-rises n [] rises = omega arith
last-rises n (change ∷ rest) rises =
    let later = last-rises change.number rest rises.1 in let here = rises.0 in omega (arith, here, later)

-- changes of which the last is up to a number are up to it
pub up_to-front : (m n : ℕ) (all : List Change) → Rises n all → last_number n all ≤ m → up_to m all ≡ all
up_to-front m n [] rises high = refl
up_to-front m n (change ∷ rest) rises high =
    let later = last-rises change.number rest rises.1 in
    let here : nat_le change.number m ≡ true = grind (arith, later, high) in
    rw here (ap (λ l. change ∷ l) (up_to-front m change.number rest rises.1 high))

-- and none of them is past it
pub past-front : (m n : ℕ) (all : List Change) → Rises n all → last_number n all ≤ m → past m all ≡ []
past-front m n [] rises high = refl
past-front m n (change ∷ rest) rises high =
    let later = last-rises change.number rest rises.1 in
    let here : nat_lt m change.number ≡ false = grind (arith, later, high) in
    rw here (past-front m change.number rest rises.1 high)

-- changes that rise from past a number aren't up to it
pub up_to-behind : (m n : ℕ) (all : List Change) → Rises n all → m < n → up_to m all ≡ []
up_to-behind m n [] rises low = refl
up_to-behind m n (change ∷ rest) rises low =
    let h = rises.0 in
    let here : nat_le change.number m ≡ false = grind (arith, h, low) in
    rw here (up_to-behind m change.number rest rises.1 (omega (arith, h, low)))

-- and all are past it
pub past-behind : (m n : ℕ) (all : List Change) → Rises n all → m < n → past m all ≡ all
past-behind m n [] rises low = refl
past-behind m n (change ∷ rest) rises low =
    let h = rises.0 in
    let here : nat_lt m change.number ≡ true = grind (arith, h, low) in
    rw here (ap (λ l. change ∷ l) (past-behind m change.number rest rises.1 (omega (arith, h, low))))

-- a segment that has changes ends by the same number from wherever they rise
ends-same : (n : ℕ) (segment : List Change) → 0 < length segment → last_number n segment ≡ end_of segment
ends-same n [] some = absurd (omega (arith, some))
ends-same n (change ∷ rest) some = refl

-- the change at the last place has the last number
last-at : (n : ℕ) (all : List Change) (k : ℕ) (change : Change) → k + 1 ≡ length all → slice_get all k ≡ Some change → last_number n all ≡ change.number
last-at n [] k change at e = absurd (omega (arith, at))
last-at n (x ∷ []) zero change at e = let same : x ≡ change = cc in ap (λ c. c.number) same
last-at n (x ∷ (y ∷ rest)) zero change at e = absurd (omega (arith, at))
last-at n (x ∷ rest) (suc k) change at e = last-at x.number rest k change (omega (arith, at)) e

-- a segment ends by the number of its last change
pub end-of_last : (segment : List Change) (change : Change) → slice_get segment (length segment - 1) ≡ Some change → end_of segment ≡ change.number
end-of_last [] change e = absurd (cc)
end-of_last (x ∷ rest) change e = last-at 0 (x ∷ rest) (length (x ∷ rest) - 1) change (omega arith) e

-- no segment ends below the number from which all rise
ends-at : (n : ℕ) (segments : List (List Change)) (j : ℕ) (d : List Change) → HaveChanges segments → Rises n (changes_in segments) → j < length segments
    → n ≤ end_of (get_or segments j d)
ends-at n [] j d some rises within = absurd (omega (arith, within))
ends-at n (segment ∷ rest) zero d some rises within =
    let h = last-rises n segment (rises-front n segment (changes_in rest) rises) in
    let same = ends-same n segment some.0 in omega (arith, h, same)
ends-at n (segment ∷ rest) (suc j) d some rises within =
    let h = last-rises n segment (rises-front n segment (changes_in rest) rises) in
    let later = ends-at (last_number n segment) rest j d some.1 (rises-behind n segment (changes_in rest) rises) (omega (arith, within)) in
    omega (arith, h, later)

-- the numbers by which segments end don't fall
pub ends-rise : (n : ℕ) (segments : List (List Change)) → HaveChanges segments → Rises n (changes_in segments) → IsNonDecreasingBy end_of segments
ends-rise n [] some rises i j d order within = absurd (omega (arith, within))
ends-rise n (segment ∷ rest) some rises zero zero d order within = omega arith
ends-rise n (segment ∷ rest) some rises zero (suc j) d order within =
    let later = ends-at (last_number n segment) rest j d some.1 (rises-behind n segment (changes_in rest) rises) (omega (arith, within)) in
    let same = ends-same n segment some.0 in omega (arith, later, same)
ends-rise n (segment ∷ rest) some rises (suc i) zero d order within = absurd (omega (arith, order))
ends-rise n (segment ∷ rest) some rises (suc i) (suc j) d order within =
    ends-rise (last_number n segment) rest some.1 (rises-behind n segment (changes_in rest) rises) i j d (omega (arith, order)) (omega (arith, within))

-- those that end by a number stand before the others
pub ends-partitioned : (m : ℕ) (segments : List (List Change)) → HaveChanges segments → Rises 0 (changes_in segments)
    → IsPartitionedBy (ends_by m) segments
ends-partitioned m segments some rises = IsPartitionedBy-leb end_of segments m (ends-rise 0 segments some rises)

-- segments that are parted at a place are parted so behind their first
point-behind : (m : ℕ) (segment : List Change) (rest : List (List Change)) (k : ℕ) → EndExactlyBefore m (segment ∷ rest) (suc k) → EndExactlyBefore m rest k
point-behind m segment rest k parted = record {
  within = (let w = parted.within in omega (arith, w));
  point = (
    (λ i d low high. parted.point.0 (suc i) d (omega arith) (omega (arith, high))),
    λ i d low high. parted.point.1 (suc i) d (omega (arith, low)) (omega (arith, high)),
  );
}

-- where segments are parted by their ends, all changes are parted
pub segments-parted : (m n : ℕ) (segments : List (List Change)) (last : List Change) (k : ℕ) → HaveChanges segments → Rises n (changes_in segments ++ last)
    → EndExactlyBefore m segments k → ArePartedIn m segments last k
segments-parted m n [] last zero some rises parted = record { up_to = refl; in_segment = λ h. absurd (omega (arith, h)); in_last = λ h. refl }
segments-parted m n [] last (suc k) some rises parted = absurd (let w = parted.within in omega (arith, w))
segments-parted m n (segment ∷ rest) last zero some rises parted =
    let more = changes_in rest ++ last in
    let joined : (segment ++ changes_in rest) ++ last ≡ segment ++ more = append_assoc segment (changes_in rest) last in
    let whole : Rises n (segment ++ more) = subst (λ (l : List Change). Rises n l) joined rises in
    let same = ends-same n segment some.0 in
    let test : ends_by m segment ≡ false = parted.point.1 0 segment (omega arith) (omega arith) in
    let high : m < last_number n segment = grind (arith, test, same) in
    let behind = rises-behind n segment more whole in
    record {
      up_to = ap (up_to m) joined ∙ filter-append (λ change. nat_le change.number m) segment more ∙ ap (λ l. up_to m segment ++ l) (up_to-behind m (last_number n segment) more behind high)
          ∙ append-nil (up_to m segment);
      in_segment = λ h. ap (past m) joined ∙ filter-append (λ change. nat_lt m change.number) segment more
          ∙ ap (λ l. past m segment ++ l) (past-behind m (last_number n segment) more behind high);
      in_last = λ h. absurd (omega (arith, h));
    }
segments-parted m n (segment ∷ rest) last (suc k) some rises parted =
    let more = changes_in rest ++ last in
    let joined : (segment ++ changes_in rest) ++ last ≡ segment ++ more = append_assoc segment (changes_in rest) last in
    let whole : Rises n (segment ++ more) = subst (λ (l : List Change). Rises n l) joined rises in
    let same = ends-same n segment some.0 in
    let test : ends_by m segment ≡ true = parted.point.0 0 segment (omega arith) (omega arith) in
    let low : last_number n segment ≤ m = grind (arith, test, same) in
    let front = rises-front n segment more whole in
    let later = segments-parted m (last_number n segment) rest last k some.1 (rises-behind n segment more whole) (point-behind m segment rest k parted) in
    let past_is : past m ((segment ++ changes_in rest) ++ last) ≡ past m more = ap (past m) joined ∙ filter-append (λ change. nat_lt m change.number) segment more
    ∙ ap (λ l. l ++ past m more) (past-front m n segment front low) in
    record {
      up_to = ap (up_to m) joined ∙ filter-append (λ change. nat_le change.number m) segment more
          ∙ ap (λ l. l ++ up_to m more) (up_to-front m n segment front low) ∙ ap (λ l. segment ++ l) later.up_to
          ∙ sym (append_assoc segment (changes_in (take k rest)) (up_to m (get_or rest k last)));
      in_segment = λ h. past_is ∙ later.in_segment (omega (arith, h));
      in_last = λ h. past_is ∙ later.in_last (omega (arith, h));
    }

-- where a segment ends by a number, those before it do
pub ends-before : (m : ℕ) (segments : List (List Change)) (i : ℕ) (d : List Change) → EndInOrder m segments → i < length segments
    → ends_by m (get_or segments i d) ≡ true → EndBefore m segments i
ends-before m segments i d ordered within here = record {
  within = omega (arith, within);
  ends = λ k e low high.
      ordered k i e (omega (arith, high)) within (rw (get_or_default segments i e d within) here);
}

-- what stands behind a place is in the same order
pub in_order-drop : (m i : ℕ) (segments : List (List Change)) → EndInOrder m segments → EndInOrder m (drop i segments)
in_order-drop m i segments ordered j k d order within here =
    let l = length-drop i segments in
    rw (get_or-drop i segments j d)
    (ordered (i + j) (i + k) d (omega (arith, order)) (omega (arith, within, l)) (rw (sym (get_or-drop i segments k d)) here))

-- segments that all end by a number, and then parted ones, are parted
pub ends-joined : (m : ℕ) (segments : List (List Change)) (i j : ℕ) → EndBefore m segments i → EndExactlyBefore m (drop i segments) j → EndExactlyBefore m segments (i + j)
ends-joined m segments i j before parted = record {
  within = omega (arith, w, l, u);
  point = (
    λ k e low high. by k e high (cases_lt k i),
    λ k e low high. behind k e (omega (arith, low)) (parted.point.1 (k - i) e (omega (arith, low)) (omega (arith, low, high, l, w, u))),
  );
}
  where
    w : j ≤ length (drop i segments)
    w = parted.within

    u : i ≤ length segments
    u = before.within

    l : length (drop i segments) ≡ length segments - i
    l = length-drop i segments

    behind : {b : Bool} (k : ℕ) (e : List Change) → i ≤ k → ends_by m (get_or (drop i segments) (k - i) e) ≡ b
        → ends_by m (get_or segments k e) ≡ b
    behind {b} k e low here =
        let same : i + (k - i) ≡ k = omega (arith, low) in
        let read : get_or (drop i segments) (k - i) e ≡ get_or segments k e = get_or-drop i segments (k - i) e ∙ ap (λ n. get_or segments n e) same in
        rw (sym read) here

    by : (k : ℕ) (e : List Change) → k < i + j → (k < i) ⊎ (i ≤ k) → ends_by m (get_or segments k e) ≡ true
    by k e high (inl h) = before.ends k e (omega arith) h
    by k e high (inr h) = behind k e h (parted.point.0 (k - i) e (omega arith) (omega (arith, high, h)))

-- what the parted segment leaves of the changes before its place
pub up_to-parted : (m : ℕ) (segments : List (List Change)) (last : List Change) (k j : ℕ) → ArePartedIn m segments last k
    → IsPartedAt m (get_or segments k last) j → changes_in (take k segments) ++ take j (get_or segments k last) ≡ up_to m (changes_in segments ++ last)
up_to-parted m segments last k j parts parted = ap (λ l. changes_in (take k segments) ++ l) parted.up_to ∙ sym parts.up_to

-- and behind it
pub past-parted : (m : ℕ) (segments : List (List Change)) (last : List Change) (k j : ℕ) → k < length segments → ArePartedIn m segments last k
    → IsPartedAt m (get_or segments k last) j → drop j (changes_in (drop k segments)) ++ last ≡ past m (changes_in segments ++ last)
past-parted m segments last k j within parts parted =
    let segment = get_or segments k last in
    let more = changes_in (drop (suc k) segments) in
    ap (λ l. drop j (changes_in l) ++ last) (drop-cons segments k last within)
    ∙ ap (λ l. l ++ last) (drop-append-le j segment more parted.within)
    ∙ append_assoc (drop j segment) more last
    ∙ ap (λ l. l ++ (more ++ last)) parted.past
    ∙ sym (parts.in_segment within)

-- or of the last piece, where the place is behind the segments
pub past-last : (m : ℕ) (segments : List (List Change)) (last : List Change) (k j : ℕ) → k ≡ length segments → ArePartedIn m segments last k
    → IsPartedAt m (get_or segments k last) j → drop j (get_or segments k last) ≡ past m (changes_in segments ++ last)
past-last m segments last k j at_end parts parted =
    let none = get_or-eq_default segments last {n = k} (omega (arith, at_end)) in
    parted.past ∙ ap (past m) none ∙ sym (parts.in_last at_end)

-- each segment is in order, and the last piece is
pub piece-rises : (n : ℕ) (segments : List (List Change)) (last : List Change) (k : ℕ) → Rises n (changes_in segments ++ last) → Rises 0 (get_or segments k last)
piece-rises n [] last k rises = rises_lower 0 n last (omega arith) rises
piece-rises n (segment ∷ rest) last zero rises =
    rises_lower 0 n segment (omega arith)
    (rises-front n segment (changes_in rest ++ last) (subst (λ (l : List Change). Rises n l) (append_assoc segment (changes_in rest) last) rises))
piece-rises n (segment ∷ rest) last (suc k) rises =
    piece-rises (last_number n segment) rest last k
    (rises-behind n segment (changes_in rest ++ last) (subst (λ (l : List Change). Rises n l) (append_assoc segment (changes_in rest) last) rises))

-- some of the segments aren't empty either
pub have-take : (k : ℕ) (segments : List (List Change)) → HaveChanges segments → HaveChanges (take k segments)
have-take zero [] have = tt
have-take (suc k) [] have = tt
have-take zero (segment ∷ rest) have = tt
have-take (suc k) (segment ∷ rest) have = (have.0, have-take k rest have.1)

-- where nothing is skipped, all changes of the segments stand there
pub whole-list : (changes : Changes) → IsWhole changes → listed changes ≡ changes_in changes.sealed.now ++ changes.last.now
whole-list changes whole = ap (λ n. in_pieces n changes.sealed.now changes.last.now) whole.from_first

-- so they are in order where the list is
pub whole-order : (changes : Changes) → IsWhole changes → Rises 0 (listed changes) → Rises 0 (changes_in changes.sealed.now ++ changes.last.now)
whole-order changes whole rises = subst (λ (l : List Change). Rises 0 l) (whole-list changes whole) rises

-- and its segments end in order
pub ends-in_order : (m : ℕ) (changes : Changes) → IsWhole changes → Rises 0 (listed changes) → EndInOrder m changes.sealed.now
ends-in_order m changes whole rises =
    ends-partitioned m changes.sealed.now whole.have_changes
    (rises-front 0 (changes_in changes.sealed.now) changes.last.now (whole-order changes whole rises))

-- Lent changes, with a number's place among their segments and its place in the piece there.
module _ (m : ℕ) (changes : Changes) (k j : ℕ) (piece : List Change) (whole : IsWhole changes) (rises : Rises 0 (listed changes))
    (ended : EndExactlyBefore m changes.sealed.now k) (is : piece ≡ get_or changes.sealed.now k changes.last.now) (parted : IsPartedAt m piece j) where
  -- all of them are parted within that piece
  parts : ArePartedIn m changes.sealed.now changes.last.now k
  parts = segments-parted m 0 changes.sealed.now changes.last.now k whole.have_changes (whole-order changes whole rises) ended

  -- at that place
  there : IsPartedAt m (get_or changes.sealed.now k changes.last.now) j
  there = subst (λ (l : List Change). IsPartedAt m l j) is parted

  -- what is left in front
  pub lent-up_to : changes_in (take k changes.sealed.now) ++ take j piece ≡ up_to m (listed changes)
  lent-up_to =
      ap (λ l. changes_in (take k changes.sealed.now) ++ take j l) is ∙ up_to-parted m changes.sealed.now changes.last.now k j parts there
      ∙ ap (up_to m) (sym (whole-list changes whole))

  -- what is left behind, where the number stands in a segment
  pub lent-past : k < length changes.sealed.now → in_pieces j (drop k changes.sealed.now) changes.last.now ≡ past m (listed changes)
  lent-past within = past-parted m changes.sealed.now changes.last.now k j within parts there ∙ ap (past m) (sym (whole-list changes whole))

  -- and where it stands in the last piece
  pub lent-past_last : k ≡ length changes.sealed.now → drop j piece ≡ past m (listed changes)
  lent-past_last at_end =
      ap (drop j) is ∙ past-last m changes.sealed.now changes.last.now k j at_end parts there ∙ ap (past m) (sym (whole-list changes whole))
