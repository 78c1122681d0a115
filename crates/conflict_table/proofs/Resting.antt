-- A read rests on what it observes: own writes keep what the two values have in common.
use Rattle.std.proofs.Common.{◌≡◌, ◌<◌, ℕ, ℤ, pos, negsuc, Bool, true, false, not, cond, ◌||◌, ◌&&◌, List, [], ◌∷◌, ◌++◌, length, nat_lt}
use Rattle.std.proofs.Common.{slice_get, is_some, unwrap_or, Some, None, refl, sym, ap, ◌∙◌, ◌⊎◌, inl, inr, length-append, arith}
use Rattle.std.specs.Int.{int_max}
use Rattle.std.specs.List.{list_any}
use Rattle.std.specs.Ordering.{eq_by_cmp}
use Rattle.std.specs.Cmp.Lexicographic.{nat_list_cmp_total}
use Rattle.std.specs.FinMap as map
use Rattle.std.proofs.lemmas.Bool.{true≢false, false≢true, or_parts, or_right, ltb-true}
use Rattle.std.proofs.lemmas.Option.{slice_get_within, slice_get-get_or}
use Rattle.plain_data.specs.Texts.{Bytes, SetOfTexts, text_cmp, has_text, with_text, without_text}
use Rattle.rdt_types.specs.declared.value.Value.{Value}
use Rattle.rdt_types.specs.declared.value.Value.TheVariants as value
use Rattle.rdt_types.specs.declared.operation.WriteOp.{WriteOp}
use Rattle.rdt_types.specs.declared.operation.WriteOp.TheVariants as op
use Rattle.rdt_types.specs.declared.outcome.Item.TheVariants as item
use Rattle.rdt_types.specs.Values.{write, others, wrapping_sum, kind_of, counter_in, set_in, hash_in, list_in, peak_in}
use Rattle.conflict_table.specs.declared.observation.Obs.TheVariants as obs
use Rattle.conflict_table.specs.declared.read.ReadOp.{ReadOp}
use Rattle.conflict_table.specs.declared.read.ReadOp.TheVariants as read
use Rattle.conflict_table.specs.Observing.{observe, is_over}
use Rattle.std.proofs.lemmas.Bool.Decides.{nat_tests}
use Rattle.conflict_table.specs.Reads.{replay, answer, is_put, is_clear, names, is_list_remove, item_at, whole, is_decided, whole_observed}
use Rattle.conflict_table.specs.Reads.{observed, place_observed, raises_above}
use Rattle.conflict_table.specs.Laws.{ReadsRestOnObservations}
use Rattle.conflict_table.proofs.Peaks.{over-greater}
use Rattle.conflict_table.proofs.Keys.{either}
use Rattle.conflict_table.proofs.Items.{slice_get-append}

-- a relation of two values that every write keeps
module _ (R : Value → Value → Type 0) (kept : (o : WriteOp) (v w : Value) → R v w → R (write o v) (write o w)) where
  -- so it holds after own writes, one by one
  pub replayed : (own : List WriteOp) (v w : Value) → R v w → R (replay own v) (replay own w)
  replayed [] v w r = r
  replayed (o ∷ own) v w r = replayed own (write o v) (write o w) (kept o v w r)

  -- and that some write brings about
  pub decided : (test : WriteOp → Bool) → ((o : WriteOp) (v w : Value) → test o ≡ true → R (write o v) (write o w))
      → (own : List WriteOp) (v w : Value) → list_any test own ≡ true → R (replay own v) (replay own w)
  decided test made [] v w some = absurd (false≢true some)
  decided test made (o ∷ own) v w some =
      either (test o) (list_any test own) some
      (λ now. replayed own (write o v) (write o w) (made o v w now))
      (λ later. decided test made own (write o v) (write o w) later)

-- ---- the whole of a bool, a counter, a text or a peak

-- the same whole, and the same number for additions and for raises to go on from
abbrev Whole : Value → Value → Type 0
Whole v w = (whole v ≡ whole w) × (counter_in v ≡ counter_in w) × (peak_in v ≡ peak_in w)

-- an addition and a raise go on from the same number, and any other write leaves one whole for all values
keeps_whole : (o : WriteOp) (v w : Value) → Whole v w → Whole (write o v) (write o w)
keeps_whole (op.AddCounter n) v w r = (ap (λ m. item.Int (wrapping_sum m n)) r.1, ap (λ m. wrapping_sum m n) r.1, refl)
keeps_whole (op.Raise n) v w r = (ap (λ m. item.Int (int_max m n)) r.2, refl, ap (λ m. int_max m n) r.2)
keeps_whole o v w r = (refl, refl, refl)

-- a put leaves the same whole for all values
puts_whole : (o : WriteOp) (v w : Value) → is_put o ≡ true → Whole (write o v) (write o w)
puts_whole (op.PutBool b) v w h = (refl, refl, refl)
puts_whole (op.PutCounter n) v w h = (refl, refl, refl)
puts_whole (op.PutText t) v w h = (refl, refl, refl)
puts_whole o v w h = absurd (false≢true h)

-- kind by kind: a bool, a counter, a text and a peak are observed whole, and a collection has no whole that differs
same_whole : (v w : Value) → kind_of v ≡ kind_of w → observe (whole_observed v) v ≡ observe (whole_observed v) w → Whole v w
same_whole (value.Bool b) (value.Bool c) kinds same = (ap item.Bool (cc), refl, refl)
same_whole (value.Counter m) (value.Counter n) kinds same = (ap item.Int (cc), cc, refl)
same_whole (value.Text x) (value.Text y) kinds same = (ap item.Text (cc), refl, refl)
same_whole (value.Set s) (value.Set t) kinds same = (refl, refl, refl)
same_whole (value.Hash m) (value.Hash n) kinds same = (refl, refl, refl)
same_whole (value.List xs) (value.List ys) kinds same = (refl, refl, refl)
same_whole (value.Peak m) (value.Peak n) kinds same = (ap item.Int (cc), refl, cc)
same_whole v w kinds same = absurd (cc)

-- ---- whether a peak is above a number

-- both are above it or none
abbrev Over : ℤ → Value → Value → Type 0
Over n v w = is_over n (peak_in v) ≡ is_over n (peak_in w)

-- a raise does the same to both, and any other write leaves no peak
keeps_over : (n : ℤ) (o : WriteOp) (v w : Value) → Over n v w → Over n (write o v) (write o w)
keeps_over n (op.Raise m) v w r =
    over-greater n (peak_in v) m ∙ ap (λ b. b || is_over n m) r ∙ sym (over-greater n (peak_in w) m)
keeps_over n o v w r = refl

-- a raise above the number leaves both above it
raises_over : (n : ℤ) (o : WriteOp) (v w : Value) → raises_above n o ≡ true → Over n (write o v) (write o w)
raises_over n (op.Raise m) v w h =
    over-greater n (peak_in v) m
    ∙ or_right (is_over n (peak_in v)) (is_over n m) h
    ∙ sym (over-greater n (peak_in w) m ∙ or_right (is_over n (peak_in w)) (is_over n m) h)
raises_over n o v w h = absurd (false≢true h)

-- ---- elements and sets

-- an element is in both sets or in none
abbrev Element : Bytes → Value → Value → Type 0
Element x v w = has_text (set_in v) x ≡ has_text (set_in w) x

-- a set with a text more has what it had, and what ties with that text
has-with : (s : SetOfTexts) (y x : Bytes) → has_text (with_text s y) x ≡ (eq_by_cmp text_cmp x y || has_text s x)
has-with s y x = ap is_some (map.get-insert nat_list_cmp_total s y tt x) ∙ by (eq_by_cmp text_cmp x y)
  where
    by : (b : Bool) → is_some (cond b (Some tt) (map.get s x)) ≡ (b || has_text s x)
    by true = refl
    by false = refl

-- a set without a text has what it had, save what ties with that text
has-without : (s : SetOfTexts) (y x : Bytes) → has_text (without_text s y) x ≡ (not (eq_by_cmp text_cmp x y) && has_text s x)
has-without s y x = ap is_some (map.get-remove nat_list_cmp_total s y x) ∙ by (eq_by_cmp text_cmp x y)
  where
    by : (b : Bool) → is_some (cond b None (map.get s x)) ≡ (not b && has_text s x)
    by true = refl
    by false = refl

-- an addition and a removal do the same to both at each element, and any other write leaves no element
keeps_element : (x : Bytes) (o : WriteOp) (v w : Value) → Element x v w → Element x (write o v) (write o w)
keeps_element x (op.SetAdd y) v w r = has-with (set_in v) y x ∙ ap (λ b. eq_by_cmp text_cmp x y || b) r ∙ sym (has-with (set_in w) y x)
keeps_element x (op.SetRemove y) v w r =
    has-without (set_in v) y x
    ∙ ap (λ b. not (eq_by_cmp text_cmp x y) && b) r
    ∙ sym (has-without (set_in w) y x)
keeps_element x o v w r = refl

-- an operation that names the element leaves it in both or in none, whatever was there
names_element : (x : Bytes) (o : WriteOp) (v w : Value) → names x o ≡ true → Element x (write o v) (write o w)
names_element x (op.SetAdd y) v w h =
    has-with (set_in v) y x
    ∙ ap (λ b. b || has_text (set_in v) x) h
    ∙ sym (ap (λ b. b || has_text (set_in w) x) h)
    ∙ sym (has-with (set_in w) y x)
names_element x (op.SetRemove y) v w h =
    has-without (set_in v) y x
    ∙ ap (λ b. not b && has_text (set_in v) x) h
    ∙ sym (ap (λ b. not b && has_text (set_in w) x) h)
    ∙ sym (has-without (set_in w) y x)
names_element x o v w h = refl

-- the same set
abbrev Set : Value → Value → Type 0
Set v w = set_in v ≡ set_in w

-- an addition and a removal do the same to equal sets, and any other write leaves the empty set
keeps_set : (o : WriteOp) (v w : Value) → Set v w → Set (write o v) (write o w)
keeps_set (op.SetAdd y) v w r = ap (λ s. with_text s y) r
keeps_set (op.SetRemove y) v w r = ap (λ s. without_text s y) r
keeps_set o v w r = refl

-- ---- fields and hashes

-- the same text at a field, or none in both
abbrev Field : Bytes → Value → Value → Type 0
Field f v w = map.get (hash_in v) f ≡ map.get (hash_in w) f

-- a put and a removal do the same to both at each field, and any other write leaves no field
keeps_field : (f : Bytes) (o : WriteOp) (v w : Value) → Field f v w → Field f (write o v) (write o w)
keeps_field f (op.HashPut g t) v w r =
    map.get-insert nat_list_cmp_total (hash_in v) g t f ∙ ap (cond (eq_by_cmp text_cmp f g) (Some t)) r
    ∙ sym (map.get-insert nat_list_cmp_total (hash_in w) g t f)
keeps_field f (op.HashRemove g) v w r =
    map.get-remove nat_list_cmp_total (hash_in v) g f ∙ ap (cond (eq_by_cmp text_cmp f g) None) r ∙ sym (map.get-remove nat_list_cmp_total (hash_in w) g f)
keeps_field f o v w r = refl

-- an operation that names the field leaves there what it puts, or nothing, whatever was there
names_field : (f : Bytes) (o : WriteOp) (v w : Value) → names f o ≡ true → Field f (write o v) (write o w)
names_field f (op.HashPut g t) v w h =
    map.get-insert nat_list_cmp_total (hash_in v) g t f ∙ ap (λ b. cond b (Some t) (map.get (hash_in v) f)) h
    ∙ sym (map.get-insert nat_list_cmp_total (hash_in w) g t f ∙ ap (λ b. cond b (Some t) (map.get (hash_in w) f)) h)
names_field f (op.HashRemove g) v w h =
    map.get-remove nat_list_cmp_total (hash_in v) g f ∙ ap (λ b. cond b None (map.get (hash_in v) f)) h
    ∙ sym (map.get-remove nat_list_cmp_total (hash_in w) g f ∙ ap (λ b. cond b None (map.get (hash_in w) f)) h)
names_field f o v w h = refl

-- the same hash
abbrev Hash : Value → Value → Type 0
Hash v w = hash_in v ≡ hash_in w

-- a put and a removal do the same to equal hashes, and any other write leaves the empty hash
keeps_hash : (o : WriteOp) (v w : Value) → Hash v w → Hash (write o v) (write o w)
keeps_hash (op.HashPut g t) v w r = ap (λ m. map.insert m g t) r
keeps_hash (op.HashRemove g) v w r = ap (λ m. map.remove m g) r
keeps_hash o v w r = refl

-- ---- places and lists

-- the same list
abbrev Items : Value → Value → Type 0
Items v w = list_in v ≡ list_in w

-- a push and a removal do the same to equal lists, and any other write leaves the empty list
keeps_items : (o : WriteOp) (v w : Value) → Items v w → Items (write o v) (write o w)
keeps_items (op.ListPush x) v w r = ap (λ xs. xs ++ x ∷ []) r
keeps_items (op.ListRemove x) v w r = ap (others x) r
keeps_items o v w r = refl

-- a clear leaves one value for all, and that has everything in common with itself
clears_all : (R : Value → Value → Type 0) → ((v : Value) → R v v) → (o : WriteOp) (v w : Value) → is_clear o ≡ true
    → R (write o v) (write o w)
clears_all R same op.SetClear v w h = same _
clears_all R same op.HashClear v w h = same _
clears_all R same op.ListClear v w h = same _
clears_all R same o v w h = absurd (false≢true h)

-- the same list, or the same item at a place that is within both
abbrev Place : ℕ → Value → Value → Type 0
Place i v w = Items v w ⊎ ((i < length (list_in v)) × (i < length (list_in w)) × (slice_get (list_in v) i ≡ slice_get (list_in w) i))

-- a push goes behind the place, and any other write but a removal leaves the empty list
keeps_place : (i : ℕ) (o : WriteOp) (v w : Value) → is_list_remove o ≡ false → Place i v w → Place i (write o v) (write o w)
keeps_place i (op.ListRemove x) v w none r = absurd (true≢false none)
keeps_place i (op.ListPush x) v w none (inl same) = inl (ap (λ xs. xs ++ x ∷ []) same)
keeps_place i (op.ListPush x) v w none (inr r) =
    inr (
      omega (arith, length-append (list_in v) (x ∷ [])),
      omega (arith, length-append (list_in w) (x ∷ [])),
      slice_get-append (list_in v) (x ∷ []) i r.0 ∙ r.2 ∙ sym (slice_get-append (list_in w) (x ∷ []) i r.1),
    )
keeps_place i o v w none r = inl refl

-- so the place is kept by own writes without a removal, one by one
place_replayed : (i : ℕ) (own : List WriteOp) (v w : Value) → list_any is_list_remove own ≡ false → Place i v w
    → Place i (replay own v) (replay own w)
place_replayed i [] v w none r = r
place_replayed i (o ∷ own) v w none r =
    let each = or_parts (is_list_remove o) (list_any is_list_remove own) none in
    place_replayed i own (write o v) (write o w) each.1 (keeps_place i o v w each.0 r)

-- the same list, and the same item at the place, both answer that item
same_item : (i : ℕ) (v w : Value) → Place i v w → item_at (pos i) (list_in v) ≡ item_at (pos i) (list_in w)
same_item i v w (inl same) = ap (item_at (pos i)) same
same_item i v w (inr r) = ap (λ o. unwrap_or o []) r.2

-- a place within the first list that has the same item is within the other
both_within : (i : ℕ) (v w : Value) → i < length (list_in v) → slice_get (list_in v) i ≡ slice_get (list_in w) i → Place i v w
both_within i v w within same = inr (within, slice_get_within (list_in w) i _ (sym same ∙ slice_get-get_or (list_in v) i [] within), same)

-- where the place alone was observed no write moves its item, and else the whole lists are equal and stay so
of_place : (i : ℕ) (own : List WriteOp) (v w : Value) (a b : Bool) → list_any is_list_remove own ≡ a → nat_lt i (length (list_in v)) ≡ b
    → observe (cond (not a && b) (obs.ListAt i) obs.ListAll) v ≡ observe (cond (not a && b) (obs.ListAt i) obs.ListAll) w
    → item_at (pos i) (list_in (replay own v)) ≡ item_at (pos i) (list_in (replay own w))
of_place i own v w false true none within same =
    same_item i (replay own v) (replay own w) (place_replayed i own v w none (both_within i v w (ltb-true i (length (list_in v)) within) (cc)))
of_place i own v w false false none past same = ap (item_at (pos i)) (replayed Items keeps_items own v w (cc))
of_place i own v w true b some within same = ap (item_at (pos i)) (replayed Items keeps_items own v w (cc))

-- ---- the law

module _ (R : Value → Value → Type 0) (kept : (o : WriteOp) (v w : Value) → R v w → R (write o v) (write o w)) (same : (v : Value) → R v v) where
  -- where a clear decides
  by_clear : (own : List WriteOp) (v w : Value) (b : Bool) → list_any is_clear own ≡ b → (b ≡ false → R v w)
      → R (replay own v) (replay own w)
  by_clear own v w true clears r = decided R kept is_clear (clears_all R same) own v w clears
  by_clear own v w false keeps r = replayed R kept own v w (r refl)

  -- where a clear or a name decides
  by_name : (test : WriteOp → Bool) → ((o : WriteOp) (v w : Value) → test o ≡ true → R (write o v) (write o w))
      → (own : List WriteOp) (v w : Value) (b : Bool) → (list_any is_clear own || list_any test own) ≡ b → (b ≡ false → R v w)
      → R (replay own v) (replay own w)
  by_name test made own v w true some r =
      either (list_any is_clear own) (list_any test own) some
      (λ clears. decided R kept is_clear (clears_all R same) own v w clears)
      (λ names. decided R kept test made own v w names)
  by_name test made own v w false none r = replayed R kept own v w (r refl)

-- a put decides, and without one the whole is kept
get_rests : (own : List WriteOp) (v w : Value) (b : Bool) → list_any is_put own ≡ b → (b ≡ false → Whole v w)
    → Whole (replay own v) (replay own w)
get_rests own v w true puts r = decided Whole keeps_whole is_put puts_whole own v w puts
get_rests own v w false keeps r = replayed Whole keeps_whole own v w (r refl)

-- a raise above the number decides, and without one the peak is above it or not as before
over_rests : (n : ℤ) (own : List WriteOp) (v w : Value) (b : Bool) → list_any (raises_above n) own ≡ b → (b ≡ false → Over n v w)
    → Over n (replay own v) (replay own w)
over_rests n own v w true raises r = decided (Over n) (keeps_over n) (raises_above n) (raises_over n) own v w raises
over_rests n own v w false keeps r = replayed (Over n) (keeps_over n) own v w (r refl)

-- a clear decides, and without one what was observed of the place or of the list is kept
place_rests : (i : ℕ) (own : List WriteOp) (v w : Value) (b : Bool) → list_any is_clear own ≡ b
    → (b ≡ false → observe (place_observed (pos i) (list_any is_list_remove own) (list_in v)) v
    ≡ observe (place_observed (pos i) (list_any is_list_remove own) (list_in v)) w)
    → item_at (pos i) (list_in (replay own v)) ≡ item_at (pos i) (list_in (replay own w))
place_rests i own v w true clears same =
    ap (item_at (pos i)) (decided Items keeps_items is_clear (clears_all Items (λ v. refl)) own v w clears)
place_rests i own v w false keeps same =
    of_place i own v w (list_any is_list_remove own) (nat_lt i (length (list_in v))) refl refl (same refl)

-- each read, by what the two values have in common
answers_rest : (r : ReadOp) (own : List WriteOp) (v w : Value) → kind_of v ≡ kind_of w
    → (is_decided r own ≡ false → observe (observed r own v) v ≡ observe (observed r own v) w)
    → answer r (replay own v) ≡ answer r (replay own w)
answers_rest read.Get own v w kinds same =
    (get_rests own v w (list_any is_put own) refl (λ none. same_whole v w kinds (same none))).0
answers_rest (read.SetHas x) own v w kinds same =
    ap item.Bool (by_name (Element x) (keeps_element x) (λ v. refl) (names x) (names_element x) own v w _ refl (λ none. let is = same none in cc))
answers_rest read.SetAll own v w kinds same =
    ap (λ s. item.Texts (map.keys s)) (by_clear Set keeps_set (λ v. refl) own v w _ refl (λ none. let is = same none in cc))
answers_rest (read.HashHas f) own v w kinds same =
    ap (λ o. item.Bool (is_some o)) (by_name (Field f) (keeps_field f) (λ v. refl) (names f) (names_field f) own v w _ refl (λ none. let is = same none in cc))
answers_rest (read.HashGet f) own v w kinds same =
    ap (λ o. item.Text (unwrap_or o [])) (by_name (Field f) (keeps_field f) (λ v. refl) (names f) (names_field f) own v w _ refl
    (λ none. let is = same none in cc))
answers_rest read.HashFields own v w kinds same =
    ap (λ m. item.Texts (map.keys m)) (by_clear Hash keeps_hash (λ v. refl) own v w _ refl (λ none. let is = same none in cc))
answers_rest (read.ListAt (pos i)) own v w kinds same = ap item.Text (place_rests i own v w (list_any is_clear own) refl same)
answers_rest (read.ListAt (negsuc i)) own v w kinds same = refl
answers_rest read.ListAll own v w kinds same =
    ap item.Texts (by_clear Items keeps_items (λ v. refl) own v w _ refl (λ none. let is = same none in cc))
answers_rest (read.PeakOver n) own v w kinds same =
    ap item.Bool (over_rests n own v w (list_any (raises_above n) own) refl (λ none. let is = same none in cc))

-- ---- what is observed

-- kind by kind: which whole is observed goes by the kind, and of a peak by the number, which is the same
same_observed : (v w : Value) → kind_of v ≡ kind_of w → observe (whole_observed v) v ≡ observe (whole_observed v) w
    → whole_observed v ≡ whole_observed w
same_observed (value.Bool b) (value.Bool c) kinds same = refl
same_observed (value.Counter m) (value.Counter n) kinds same = refl
same_observed (value.Text x) (value.Text y) kinds same = refl
same_observed (value.Set s) (value.Set t) kinds same = refl
same_observed (value.Hash m) (value.Hash n) kinds same = refl
same_observed (value.List xs) (value.List ys) kinds same = refl
same_observed (value.Peak m) (value.Peak n) kinds same = ap obs.PeakIs (cc)
same_observed v w kinds same = absurd (cc)

-- a place is within both lists or in none, and else the lists are the same
same_place : (i : ℕ) (v w : Value) (a b : Bool) → nat_lt i (length (list_in v)) ≡ b
    → observe (cond (not a && b) (obs.ListAt i) obs.ListAll) v ≡ observe (cond (not a && b) (obs.ListAt i) obs.ListAll) w
    → cond (not a && b) (obs.ListAt i) obs.ListAll ≡ cond (not a && nat_lt i (length (list_in w))) (obs.ListAt i) obs.ListAll
same_place i v w true b within same = refl
same_place i v w false true within same =
    let there : i < length (list_in w) = slice_get_within (list_in w) i _ (sym (cc)
    ∙ slice_get-get_or (list_in v) i [] (ltb-true i (length (list_in v)) within)) in
    let is : nat_lt i (length (list_in w)) ≡ true = grind (arith, nat_tests) in
    sym (ap (λ b. cond b (obs.ListAt i) obs.ListAll) is)
same_place i v w false false past same =
    let lists : list_in v ≡ list_in w = cc in
    sym (ap (λ b. cond b (obs.ListAt i) obs.ListAll) (ap (λ xs. nat_lt i (length xs)) (sym lists) ∙ past))

-- only the whole, a place and a peak are observed by the value: by its kind, by the length of the list, and by the answer
observes_same : (r : ReadOp) (own : List WriteOp) (v w : Value) → kind_of v ≡ kind_of w
    → observe (observed r own v) v ≡ observe (observed r own v) w → observed r own v ≡ observed r own w
observes_same read.Get own v w kinds same = same_observed v w kinds same
observes_same (read.ListAt (pos i)) own v w kinds same =
    same_place i v w (list_any is_list_remove own) (nat_lt i (length (list_in v))) refl same
observes_same (read.PeakOver n) own v w kinds same = ap (λ r. obs.PeakOver n r) (cc)
observes_same r own v w kinds same = refl

-- the answer, and what is observed
pub reads_rest_on_observations : ReadsRestOnObservations
reads_rest_on_observations r own v w kinds same = (answers_rest r own v w kinds same, λ none. observes_same r own v w kinds (same none))
