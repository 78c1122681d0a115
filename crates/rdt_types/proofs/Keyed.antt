-- Deltas of sets and hashes: their composition is one after the other, and keeps their form.
use Rattle.std.proofs.Common.{◌≡◌, nat_eq, Bool, true, false, not, cond, T, Option, Some, None, refl, sym, ap, ◌∙◌, subst}
use Rattle.std.specs.Option.{is_some}
use Rattle.std.specs.List.{list_all}
use Rattle.std.specs.FinMap as map
use Rattle.plain_data.specs.Texts.{Bytes, text_cmp, MapOf}
use Rattle.plain_data.specs.Overlays.{overlaid, with_at, found_after}
use Rattle.plain_data.proofs.Overlays.{same_map, get-overlaid, entries-empty, len-one, overlaid-none, overlaid-one, get-all, all-get}
use Rattle.plain_data.proofs.Overlays.{some-len, len-some, Some_is}
use Rattle.rdt_types.specs.Keyed.{Keyed, of_parts, marking, clearing, has_form, applied, mark_after, composed}

module _ {M V : Type 0} (left : M → Option V) where
  -- one mark is done
  pub applied-marking : (m : MapOf V) (key : Bytes) (mark : M) → applied left (marking key mark) m ≡ with_at m key (left mark)
  applied-marking m key mark = overlaid-one left m key mark

  -- a delta that clears leaves nothing
  pub applied-clearing : (m : MapOf V) → applied left clearing m ≡ map.empty
  applied-clearing m = overlaid-none left map.empty

  -- what a mark leaves after one that may stand at its key too
  in_turn : (cleared : Bool) (later earlier : Option M) (before : Option V)
      → found_after left (found_after (mark_after left cleared) later earlier) (cond cleared None before)
      ≡ found_after left later (found_after left earlier (cond cleared None before))
  in_turn cleared None earlier before = refl
  in_turn false (Some mark) earlier before = refl
  in_turn true (Some mark) earlier before = by (left mark) refl
    where
      by : (o : Option V) → left mark ≡ o → found_after left (cond (not (is_some o)) None (Some mark)) None ≡ o
      by None e = refl
      by (Some v) e = e

  -- a delta that clears begins with nothing at any key, and another with what was there
  pub begun-get : (cleared : Bool) (m : MapOf V) (q : Bytes) → map.get (cond cleared map.empty m) q ≡ cond cleared None (map.get m q)
  begun-get true m q = map.get-empty text_cmp q
  begun-get false m q = refl

  -- a second that clears forgets the first; else at each key a later mark leaves what it leaves after the earlier one
  applied-fields : (d : Keyed M) (cleared : Bool) (marks : MapOf M) (m : MapOf V)
      → applied left (composed left d (record { cleared = cleared; marks = marks })) m
      ≡ applied left (record { cleared = cleared; marks = marks }) (applied left d m)
  applied-fields d true marks m = refl
  applied-fields d false marks m =
      same_map _ _
      (λ q.
      let begun = cond d.cleared map.empty m in
      let earlier = map.get d.marks q in
      let later = map.get marks q in
      get-overlaid left begun (overlaid (mark_after left d.cleared) d.marks marks) q
      ∙ (λ i. found_after left (get-overlaid (mark_after left d.cleared) d.marks marks q i) (begun-get d.cleared m q i))
      ∙ in_turn d.cleared later earlier (map.get m q)
      ∙ ap (found_after left later) (ap (found_after left earlier) (sym (begun-get d.cleared m q)) ∙ sym (get-overlaid left begun d.marks q))
      ∙ sym (get-overlaid left (overlaid left begun d.marks) marks q))

  -- a composition, applied, is one delta after the other
  pub applied-composed : (d e : Keyed M) (m : MapOf V) → applied left (composed left d e) m ≡ applied left e (applied left d m)
  applied-composed d e m = applied-fields d e.cleared e.marks m

  -- what two later marks leave, one after the other, is what they leave as one
  one_mark : (cleared : Bool) (later earlier before : Option M)
      → found_after (mark_after left cleared) later (found_after (mark_after left cleared) earlier before)
      ≡ found_after (mark_after left cleared) (found_after (mark_after left false) later earlier) before
  one_mark cleared None earlier before = refl
  one_mark cleared (Some mark) earlier before = refl

  -- at each key three marks come to the same, whichever two are done as one
  overlaid-twice : (cleared : Bool) (first second third : MapOf M)
      → overlaid (mark_after left cleared) (overlaid (mark_after left cleared) first second) third
      ≡ overlaid (mark_after left cleared) first (overlaid (mark_after left false) second third)
  overlaid-twice cleared first second third =
      let mark = mark_after left cleared in
      same_map _ _
      (λ q.
      get-overlaid mark (overlaid mark first second) third q
      ∙ ap (found_after mark (map.get third q)) (get-overlaid mark first second q)
      ∙ one_mark cleared (map.get third q) (map.get second q) (map.get first q)
      ∙ ap (λ o. found_after mark o (map.get first q)) (sym (get-overlaid (mark_after left false) second third q))
      ∙ sym (get-overlaid mark first (overlaid (mark_after left false) second third) q))

  -- it is one which two of three deltas are composed first
  pub composed-composed : (d e f : Keyed M) → composed left (composed left d e) f ≡ composed left d (composed left e f)
  composed-composed d e f = by e.cleared e.marks f.cleared f.marks
    where
      by : (b : Bool) (es : MapOf M) (c : Bool) (fs : MapOf M)
          → composed left (composed left d (of_parts b es)) (of_parts c fs) ≡ composed left d (composed left (of_parts b es) (of_parts c fs))
      by b es true fs = refl
      by true es false fs = refl
      by false es false fs = ap (of_parts d.cleared) (overlaid-twice d.cleared d.marks es fs)

  -- ---- forms

  -- a delta of one mark has a mark
  pub form-marking : (key : Bytes) (mark : M) → T (has_form left (marking key mark))
  form-marking key mark = subst (λ n. T (not (nat_eq n 0))) (sym (len-one key mark)) tt

  -- a delta that only clears has no mark that takes anything away
  pub form-clearing : T (has_form left clearing)
  form-clearing = subst (λ es. T (list_all (λ mark. is_some (left mark.1)) es)) (sym entries-empty) tt

  -- whether a mark leaves something at its key
  abbrev leaving : M → Bool
  leaving mark = is_some (left mark)

  -- a mark that is kept over what is cleared is one that leaves something
  kept : (mark other : M) (b : Bool) → is_some (left mark) ≡ b → cond (not b) None (Some mark) ≡ Some other → T (is_some (left other))
  kept mark other true e is = subst (λ x. T (is_some (left x))) (Some_is mark other is) (subst T (sym e) tt)
  kept mark other false e is = absurd (cc)

  -- over a clear each mark is one of the first, which leaves something, or is kept; without a clear a mark of the second is there
  form-fields : (d : Keyed M) (marks : MapOf M) (cleared : Bool) → d.cleared ≡ cleared
      → T (has_form left (record { cleared = cleared; marks = d.marks })) → T (has_form left (record { cleared = false; marks = marks }))
      → T (has_form left (record { cleared = cleared; marks = overlaid (mark_after left cleared) d.marks marks }))
  form-fields d marks true is first second =
      all-get leaving _ (λ q mark found. by q mark (map.get marks q) refl (sym (get-overlaid (mark_after left true) d.marks marks q) ∙ found))
    where
      by : (q : Bytes) (mark : M) (later : Option M) → map.get marks q ≡ later
          → found_after (mark_after left true) later (map.get d.marks q) ≡ Some mark → T (leaving mark)
      by q mark None e found = get-all leaving d.marks q mark first found
      by q mark (Some later) e found = kept later mark (is_some (left later)) refl found
  form-fields d marks false is first second =
      let one = len-some marks second in
      some-len _ one.0 one.1 (get-overlaid (mark_after left false) d.marks marks one.0
      ∙ ap (λ o. found_after (mark_after left false) o (map.get d.marks one.0)) one.2)

  -- what is composed with a delta that doesn't clear keeps the form
  pub form-composed : (d e : Keyed M) → e.cleared ≡ false → T (has_form left d) → T (has_form left e)
      → T (has_form left (record { cleared = d.cleared; marks = overlaid (mark_after left d.cleared) d.marks e.marks }))
  form-composed d e is first second =
      form-fields d e.marks d.cleared refl first (subst (λ b. T (has_form left (record { cleared = b; marks = e.marks }))) is second)
