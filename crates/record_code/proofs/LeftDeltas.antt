-- Deltas of short operations have the forms of a payload: each composition keeps them, and addresses keep rising.
use Rattle.std.proofs.Common.{◌≡◌, ℤ, nat_eq, Bool, true, false, not, ◌||◌, ◌&&◌, cond, T, Option, Some, None, List}
use Rattle.std.proofs.Common.{[], ◌∷◌, ◌++◌, fold, refl}
use Rattle.std.proofs.Common.{sym, ◌∙◌, subst}
use Rattle.std.specs.Option.{is_some}
use Rattle.std.specs.List.{AllByRecursion, filter}
use Rattle.std.specs.List.Sorted.{IsStrictlySortedBy}
use Rattle.std.specs.Map.{keys_of}
use Rattle.std.specs.BTreeMap.{insert_entry}
use Rattle.std.specs.Ordering.{is_eq, match_ordering}
use Rattle.std.specs.declared.cmp.Ordering.{Ordering}
use Rattle.std.specs.declared.cmp.Ordering.TheVariants.{Less, Equal, Greater}
use Rattle.std.specs.FinMap as map
use Rattle.plain_data.specs.Texts.{Bytes, MapOf, SetOfTexts, text_cmp, has_text}
use Rattle.plain_data.specs.Overlays.{overlaid, union}
use Rattle.plain_data.specs.code.Merging.{before, after, pair_at, merged}
use Rattle.plain_data.proofs.Overlays.{merged-is-overlaid, entries-empty, entries-one}
use Rattle.plain_data.proofs.Entries.{equal, sorted-insert_entry}
use Rattle.rdt_types.specs.declared.address.Address.{Address}
use Rattle.rdt_types.specs.declared.delta.Delta.{Delta}
use Rattle.rdt_types.specs.declared.delta.Delta.TheVariants as delta
use Rattle.rdt_types.specs.declared.mark.Mark.{Mark}
use Rattle.rdt_types.specs.declared.mark.Mark.TheVariants as mark
use Rattle.rdt_types.specs.declared.operation.WriteOp.{WriteOp}
use Rattle.rdt_types.specs.declared.operation.WriteOp.TheVariants as op
use Rattle.rdt_types.specs.contracts.address.AddressOrd.TheImpl.Laws as order
use Rattle.rdt_types.specs.Addresses.{address_cmp}
use Rattle.rdt_types.specs.Values.{kind_written}
use Rattle.rdt_types.specs.Marks.{added, put_by}
use Rattle.rdt_types.specs.Keyed as keyed
use Rattle.rdt_types.specs.Keyed.{Keyed, mark_after}
use Rattle.rdt_types.specs.Listed as listed
use Rattle.rdt_types.specs.Listed.{Listed, without}
use Rattle.rdt_types.specs.Deltas.{delta_of, add_after, set_after, hash_after, list_after, raise_after, compose}
use Rattle.rdt_types.specs.DeltaMaps.{Deltas, delta_at, after_maybe, with_delta}
use Rattle.rdt_types.proofs.Addresses.{address_cmp-equal}
use Rattle.rdt_types.proofs.OneKind.{kind-delta_of, kind-compose}
use Rattle.rdt_types.proofs.Keyed as keyed_lemmas
use Rattle.rdt_types.proofs.Listed as listed_lemmas
use Rattle.record_code.specs.Forms.{IsShort, IsShortMark, HasForm, IsFiled}

-- ---- lists

module _ {A : Type 0} (P : A → Type 0) where
  -- what holds of two lists holds of both after one another
  all-append : (xs ys : List A) → AllByRecursion P xs → AllByRecursion P ys → AllByRecursion P (xs ++ ys)
  all-append [] ys first second = second
  all-append (x ∷ xs) ys first second = (first.0, all-append xs ys first.1 second)

  -- it holds of what a test keeps
  all-filter : (test : A → Bool) (xs : List A) → AllByRecursion P xs → AllByRecursion P (filter test xs)
  all-filter test [] all = tt
  all-filter test (x ∷ xs) all = by (test x) (all-filter test xs all.1)
    where
      by : (b : Bool) → AllByRecursion P (filter test xs)
          → AllByRecursion P (cond b (x ∷ filter test xs) (filter test xs))
      by true rest = (all.0, rest)
      by false rest = rest

-- ---- overlays

module _ {V : Type 0} (P : Bytes × V → Type 0) where
  -- it holds of the pairs below a key
  all-before : (key : Bytes) (es : List (Bytes × V)) → AllByRecursion P es → AllByRecursion P (before key es)
  unfolding before
  all-before key [] all = tt
  all-before key (e ∷ es) all = by (text_cmp key e.0) (all-before key es all.1)
    where
      by : (r : Ordering) → AllByRecursion P (before key es)
          → AllByRecursion P (match_ordering r [] [] (e ∷ before key es))
      by Less rest = tt
      by Equal rest = tt
      by Greater rest = (all.0, rest)

  -- it holds of the pairs above a key
  all-after : (key : Bytes) (es : List (Bytes × V)) → AllByRecursion P es → AllByRecursion P (after key es)
  unfolding after
  all-after key [] all = tt
  all-after key (e ∷ es) all = by (text_cmp key e.0) (all-after key es all.1)
    where
      by : (r : Ordering) → AllByRecursion P (after key es)
          → AllByRecursion P (match_ordering r (e ∷ es) es (after key es))
      by Less rest = all
      by Equal rest = all.1
      by Greater rest = rest

  -- it holds of a pair that may be there
  all-pair_at : (key : Bytes) (o : Option V) → ((v : V) → o ≡ Some v → P (key, v)) → AllByRecursion P (pair_at key o)
  unfolding pair_at
  all-pair_at key None holds = tt
  all-pair_at key (Some v) holds = (holds v refl, tt)

  module _ {M : Type 0} (Q : Bytes × M → Type 0) (left : M → Option V)
      (leaves : (mark : Bytes × M) → Q mark → (v : V) → left mark.1 ≡ Some v → P (mark.0, v)) where
    -- mark by mark: the pairs that are passed, the one that is left, and what the other marks make of the rest
    all-merged : (es : List (Bytes × V)) (marks : List (Bytes × M)) → AllByRecursion P es → AllByRecursion Q marks
        → AllByRecursion P (merged left es marks)
    unfolding merged
    all-merged es [] all marked = all
    all-merged es (mark ∷ marks) all marked =
        all-append P (before mark.0 es ++ pair_at mark.0 (left mark.1)) (merged left (after mark.0 es) marks)
        (all-append P (before mark.0 es) (pair_at mark.0 (left mark.1)) (all-before mark.0 es all)
        (all-pair_at mark.0 (left mark.1) (leaves mark marked.0)))
        (all-merged (after mark.0 es) marks (all-after mark.0 es all) marked.1)

    -- what holds of all pairs of a map, and of all that marks leave, holds of the overlay
    all-overlaid : (under : MapOf V) (over : MapOf M) → AllByRecursion P (map.entries under)
        → AllByRecursion Q (map.entries over)
        → AllByRecursion P (map.entries (overlaid left under over))
    all-overlaid under over all marked =
        subst (λ es. AllByRecursion P es) (merged-is-overlaid left under over)
        (all-merged (map.entries under) (map.entries over) all marked)

-- ---- deltas of sets and hashes

module _ {M V : Type 0} (left : M → Option V) (P : Bytes × M → Type 0) where
  -- a delta of its form, of whose marks it holds
  abbrev IsKeyed : Keyed M → Type 0
  IsKeyed d = T (keyed.has_form left d) × AllByRecursion P (map.entries d.marks)

  -- a delta of one mark of which it holds
  keyed-marking : (key : Bytes) (mark : M) → P (key, mark) → IsKeyed (keyed.marking key mark)
  keyed-marking key mark holds = (
    keyed_lemmas.form-marking left key mark,
    subst (λ es. AllByRecursion P es) (sym (entries-one key mark)) (holds, tt),
  )

  -- a delta that only clears has no mark
  keyed-clearing : IsKeyed keyed.clearing
  keyed-clearing = (keyed_lemmas.form-clearing left, subst (λ es. AllByRecursion P es) (sym entries-empty) tt)

  -- a mark that is kept is the mark itself
  kept : (b : Bool) (key : Bytes) (mark other : M) → P (key, mark) → cond b None (Some mark) ≡ Some other
      → P (key, other)
  kept true key mark other holds is = absurd (cc)
  kept false key mark other holds is = let same : mark ≡ other = cc in subst (λ m. P (key, m)) same holds

  -- the second alone where it clears, and else marks of either
  keyed-composed : (d e : Keyed M) → IsKeyed d → IsKeyed e → IsKeyed (keyed.composed left d e)
  keyed-composed d e first second = by e.cleared refl
    where
      by : (b : Bool) → e.cleared ≡ b
          → IsKeyed (cond b e (record {
            cleared = d.cleared;
            marks = overlaid
                (mark_after left d.cleared) d.marks e.marks;
          }))
      by true is = second
      by false is = (
        keyed_lemmas.form-composed left d e is first.0 second.0,
        all-overlaid P P (mark_after left d.cleared)
            (λ m holds v. kept (d.cleared && not (is_some (left m.1))) m.0 m.1 v holds)
            d.marks e.marks first.1 second.1,
      )

-- ---- deltas of lists

-- a delta of its form, none of whose texts is longer
abbrev IsListed : Listed → Type 0
IsListed d =
    T (listed.has_form d) × AllByRecursion (λ named. IsShort named.0)
    (map.entries d.removed) × AllByRecursion IsShort d.pushed

-- a set of no texts has no longer one
none-named : AllByRecursion (λ (named : Bytes × Unit {0}). IsShort named.0) (map.entries {R = text_cmp} map.empty)
none-named =
    subst (λ (es : List (Bytes × Unit {0})). AllByRecursion (λ named. IsShort named.0) es) (sym entries-empty) tt

-- a push takes nothing out
listed-pushing : (item : Bytes) → IsShort item → IsListed (listed.pushing item)
listed-pushing item short = (
  subst (λ n. T (not (nat_eq n 0) || true)) (sym (map.len-empty text_cmp (Unit {0}))) tt,
  none-named,
  (short, tt),
)

-- a removal takes one text out
listed-removing : (text : Bytes) → IsShort text → IsListed (listed.removing text)
listed-removing text short = (
  listed_lemmas.form-removing text,
  subst (λ (es : List (Bytes × Unit {0})). AllByRecursion (λ named. IsShort named.0) es) (sym (entries-one text tt))
      (short, tt),
  tt,
)

-- a clear has no texts
listed-clearing : IsListed listed.clearing
listed-clearing = (listed_lemmas.form-clearing, none-named, tt)

-- the texts of either set
union-short : (some more : SetOfTexts) → AllByRecursion (λ named. IsShort named.0) (map.entries some)
    → AllByRecursion (λ named. IsShort named.0) (map.entries more)
    → AllByRecursion (λ named. IsShort named.0) (map.entries (union some more))
union-short some more first second =
    all-overlaid (λ named. IsShort named.0) (λ named. IsShort named.0) (λ text. Some text)
    (λ m holds v is. holds) some more first second

-- the second alone where it clears, and else texts of either
listed-composed : (d e : Listed) → IsListed d → IsListed e → IsListed (listed.composed d e)
listed-composed d e first second = by e.cleared refl
  where
    removed_by : (b : Bool)
        → AllByRecursion (λ named. IsShort named.0) (map.entries (cond b map.empty (union d.removed e.removed)))
    removed_by true = none-named
    removed_by false = union-short d.removed e.removed first.1 second.1

    by : (b : Bool) → e.cleared ≡ b
        → IsListed (cond b e (record {
          cleared = d.cleared;
          removed = cond d.cleared map.empty (union d.removed e.removed);
          pushed = without e.removed d.pushed ++ e.pushed;
        }))
    by true is = second
    by false is = (
      listed_lemmas.form-composed d e is second.0,
      removed_by d.cleared,
      all-append IsShort (without e.removed d.pushed) e.pushed
          (all-filter IsShort (λ item. not (has_text e.removed item)) d.pushed first.2) second.2,
    )

-- ---- deltas

-- what is asked of the marks of a set, and of those of a hash
abbrev OfSet : Bytes × Bool → Type 0
OfSet marked = IsShort marked.0

-- a field's name is short, and so is the text that may be put there
abbrev OfHash : Bytes × Mark → Type 0
OfHash marked = IsShort marked.0 × IsShortMark marked.1

-- an addition has no text
form-add_after : (first : Delta) (n : ℤ) → HasForm (add_after first n)
form-add_after (delta.PutCounter m) n = tt
form-add_after (delta.AddCounter m) n = tt
form-add_after first n = tt

-- nor has a raise
form-raise_after : (first : Delta) (n : ℤ) → HasForm (raise_after first n)
form-raise_after (delta.Raise m) n = tt
form-raise_after first n = tt

-- a set's delta after another, or after none of its kind
form-set_after : (first : Delta) (e : Keyed Bool) → HasForm first → HasForm (delta.Set e) → HasForm (set_after first e)
form-set_after (delta.Set d) e one two = keyed-composed added OfSet d e one two
form-set_after first e one two = two

-- a hash's delta after another, or after none of its kind
form-hash_after : (first : Delta) (e : Keyed Mark) → HasForm first → HasForm (delta.Hash e)
    → HasForm (hash_after first e)
form-hash_after (delta.Hash d) e one two = keyed-composed put_by OfHash d e one two
form-hash_after first e one two = two

-- a list's delta after another, or after none of its kind
form-list_after : (first : Delta) (e : Listed) → HasForm first → HasForm (delta.List e) → HasForm (list_after first e)
form-list_after (delta.List d) e one two = listed-composed d e one two
form-list_after first e one two = two

-- a composition of deltas of their forms is of its form
pub form-compose : (first second : Delta) → HasForm first → HasForm second → HasForm (compose first second)
form-compose first (delta.PutBool b) one two = tt
form-compose first (delta.PutCounter n) one two = tt
form-compose first (delta.AddCounter n) one two = form-add_after first n
form-compose first (delta.PutText t) one two = two
form-compose first (delta.Set e) one two = form-set_after first e one two
form-compose first (delta.Hash e) one two = form-hash_after first e one two
form-compose first (delta.List e) one two = form-list_after first e one two
form-compose first (delta.Raise n) one two = form-raise_after first n

-- an operation none of whose texts is longer
abbrev pub IsShortWrite : WriteOp → Type 0
IsShortWrite (op.PutText t) = IsShort t
IsShortWrite (op.SetAdd x) = IsShort x
IsShortWrite (op.SetRemove x) = IsShort x
IsShortWrite (op.HashPut f t) = IsShort f × IsShort t
IsShortWrite (op.HashRemove f) = IsShort f
IsShortWrite (op.ListPush x) = IsShort x
IsShortWrite (op.ListRemove x) = IsShort x
IsShortWrite _ = Unit {0}

-- the delta of an operation is of its form
pub form-delta_of : (o : WriteOp) → IsShortWrite o → HasForm (delta_of o)
form-delta_of (op.PutBool b) short = tt
form-delta_of (op.PutCounter n) short = tt
form-delta_of (op.AddCounter n) short = tt
form-delta_of (op.PutText t) short = short
form-delta_of (op.SetAdd x) short = keyed-marking added OfSet x true short
form-delta_of (op.SetRemove x) short = keyed-marking added OfSet x false short
form-delta_of op.SetClear short = keyed-clearing added OfSet
form-delta_of (op.HashPut f t) short = keyed-marking put_by OfHash f (mark.Put t) short
form-delta_of (op.HashRemove f) short = keyed-marking put_by OfHash f mark.Removed (short, tt)
form-delta_of op.HashClear short = keyed-clearing put_by OfHash
form-delta_of (op.ListPush x) short = listed-pushing x short
form-delta_of (op.ListRemove x) short = listed-removing x short
form-delta_of op.ListClear short = listed-clearing
form-delta_of (op.Raise n) short = tt

-- ---- deltas at addresses

-- a delta that may stand at an address is filed there
abbrev IsFiledMaybe : Address → Option Delta → Type 0
IsFiledMaybe a None = Unit {0}
IsFiledMaybe a (Some d) = IsFiled (a, d)

-- what is found at an address is filed at it
filed-found : (ds : Deltas) (a : Address) → AllByRecursion IsFiled ds → IsFiledMaybe a (delta_at ds a)
filed-found [] a all = tt
filed-found (x ∷ ds) a all = by (is_eq (address_cmp a x.0)) refl (filed-found ds a all.1)
  where
    by : (b : Bool) → is_eq (address_cmp a x.0) ≡ b → IsFiledMaybe a (delta_at ds a)
        → IsFiledMaybe a (cond b (Some x.1) (delta_at ds a))
    by true e rest = subst (λ c. IsFiled (c, x.1)) (sym (address_cmp-equal a x.0 (equal (address_cmp a x.0) e))) all.0
    by false e rest = rest

-- a filed delta after one that may be filed there is filed there
filed-after : (a : Address) (before : Option Delta) (d : Delta) → IsFiledMaybe a before → IsFiled (a, d)
    → IsFiled (a, after_maybe before d)
filed-after a None d one two = two
filed-after a (Some first) d one two =
    record { key = two.key; kind = kind-compose first d ∙ two.kind; form = form-compose first d one.form two.form }

-- by where the address falls: in front of the first, in its place, or behind it
filed-insert_entry : (ds : Deltas) (a : Address) (d : Delta) → AllByRecursion IsFiled ds → IsFiled (a, d)
    → AllByRecursion IsFiled (insert_entry address_cmp ds a d)
filed-insert_entry [] a d all one = (one, tt)
filed-insert_entry (x ∷ ds) a d all one = by (address_cmp a x.0) refl (filed-insert_entry ds a d all.1 one)
  where
    by : (r : Ordering) → address_cmp a x.0 ≡ r → AllByRecursion IsFiled (insert_entry address_cmp ds a d)
        → AllByRecursion IsFiled (match_ordering r ((a, d) ∷ x ∷ ds) ((x.0, d) ∷ ds)
        (x ∷ insert_entry address_cmp ds a d))
    by Less e rest = (one, all)
    by Equal e rest = (subst (λ c. IsFiled (c, d)) (address_cmp-equal a x.0 e) one, all.1)
    by Greater e rest = (all.0, rest)

-- one more delta, filed at its address
filed-with_delta : (ds : Deltas) (a : Address) (d : Delta) → AllByRecursion IsFiled ds → IsFiled (a, d)
    → AllByRecursion IsFiled (with_delta ds a d)
filed-with_delta ds a d all one =
    filed-insert_entry ds a (after_maybe (delta_at ds a) d) all
    (filed-after a (delta_at ds a) d (filed-found ds a all) one)

-- an operation of its address' kind, where the key is short and so are the operation's texts
pub record IsFiledWrite (w : Address × WriteOp) : Type 0 where
  pub key : IsShort w.0.key
  pub kind : kind_written w.1 ≡ w.0.kind
  pub texts : IsShortWrite w.1

-- its delta is filed
filed-delta_of : (w : Address × WriteOp) → IsFiledWrite w → IsFiled (w.0, delta_of w.1)
filed-delta_of w one = record { key = one.key; kind = kind-delta_of w.1 ∙ one.kind; form = form-delta_of w.1 one.texts }

-- operation by operation: each delta is filed
pub filed-deltas : (own : List (Address × WriteOp)) (ds : Deltas) → AllByRecursion IsFiledWrite own
    → AllByRecursion IsFiled ds
    → AllByRecursion IsFiled (fold (λ deltas w. with_delta deltas w.0 (delta_of w.1)) ds own)
filed-deltas [] ds writes all = all
filed-deltas (w ∷ own) ds writes all =
    filed-deltas own (with_delta ds w.0 (delta_of w.1)) writes.1
    (filed-with_delta ds w.0 (delta_of w.1) all (filed-delta_of w writes.0))

-- operation by operation: addresses rise
pub rising-deltas : (own : List (Address × WriteOp)) (ds : Deltas) → IsStrictlySortedBy address_cmp (keys_of ds)
    → IsStrictlySortedBy address_cmp (keys_of (fold (λ deltas w. with_delta deltas w.0 (delta_of w.1)) ds own))
rising-deltas [] ds rising = rising
rising-deltas (w ∷ own) ds rising =
    rising-deltas own (with_delta ds w.0 (delta_of w.1))
    (sorted-insert_entry address_cmp order.total-law w.0 (after_maybe (delta_at ds w.0) (delta_of w.1)) ds rising)
