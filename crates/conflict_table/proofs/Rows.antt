-- The laws of the table, row by row.
use Rattle.std.proofs.Common.{◌≡◌, ℤ, pos, negsuc, zero, suc, Bool, true, false, not, ◌&&◌, ◌||◌, [], ◌∷◌, ◌++◌, FitsSigned, slice_get, is_some}
use Rattle.std.proofs.Common.{Option, int_lt, refl, sym, ap, ◌∙◌, append-nil, arith}
use Rattle.std.specs.Int.{int_max}
use Rattle.std.specs.Int.{w64}
use Rattle.std.proofs.lemmas.Grind.{common_steps}
use Rattle.std.proofs.lemmas.Bool.{true≢false, false≢true, or_parts, or_left, or_right}
use Rattle.std.proofs.lemmas.Option.{slice_get_within, slice_get-get_or}
use Rattle.std.specs.FinMap as map
use Rattle.plain_data.specs.Texts.{Bytes}
use Rattle.rdt_types.specs.declared.value.Value.{Value}
use Rattle.rdt_types.specs.declared.value.Value.TheVariants as value
use Rattle.rdt_types.specs.declared.mark.Mark.{Mark}
use Rattle.rdt_types.specs.declared.delta.Delta.{Delta}
use Rattle.rdt_types.specs.declared.delta.Delta.TheVariants as delta
use Rattle.rdt_types.specs.Values.{wrapping_sum, set_in, hash_in, list_in, peak_in}
use Rattle.rdt_types.specs.Deltas.{apply, compose}
use Rattle.rdt_types.specs.Marks.{added, put_by}
use Rattle.rdt_types.specs.Keyed.{Keyed, mark_after, composed}
use Rattle.rdt_types.specs.Listed.{Listed}
use Rattle.conflict_table.specs.declared.observation.Obs.{Obs}
use Rattle.conflict_table.specs.declared.observation.Obs.TheVariants as obs
use Rattle.conflict_table.specs.declared.answer.Answer.TheVariants as answer
use Rattle.conflict_table.specs.Observing.{observe, IsWithin, is_over}
use Rattle.conflict_table.specs.Clashes.{clash, has_some}
use Rattle.conflict_table.specs.Laws.{NoClashNoChange, FitsAgain, ClashesShowChanges, CompositionsClashByParts}
use Rattle.rdt_types.proofs.OneKind.{OfOneKind, of_one_kind, bools, puts, put_then_add, add_then_put, adds, texts, sets, hashes, lists}
use Rattle.rdt_types.proofs.OneKind.{raises}
use Rattle.conflict_table.proofs.Peaks.{over-greater, greater-stays, greater-changes, not_over-itself}
use Rattle.conflict_table.proofs.Keys.{or_none, contains-overlaid, has_some-overlaid}
use Rattle.conflict_table.proofs.Marked.{differs, get-applied_unmarked, applied_unmarked, changed_at, changed, touches-composed}
use Rattle.conflict_table.proofs.Items as items
use Rattle.conflict_table.proofs.Items.{longer, applied_pushes, slice_get-append, has_no_items, clears-composed, takes-composed}
use Rattle.conflict_table.proofs.Items.{acts-composed}

-- what isn't marked, cleared, taken out or raised above stays
pub no_clash_no_change : NoClashNoChange
no_clash_no_change obs.BoolIs d v kinds within none = absurd (true≢false none)
no_clash_no_change obs.CounterIs d v kinds within none = absurd (true≢false none)
no_clash_no_change obs.TextIs d v kinds within none = absurd (true≢false none)
no_clash_no_change (obs.SetHas x) (delta.Set d) v kinds within none =
    let each = or_parts _ _ none in ap (λ o. answer.Bool (is_some o)) (get-applied_unmarked added d (set_in v) x each.0 each.1)
no_clash_no_change obs.SetAll (delta.Set d) v kinds within none =
    let each = or_parts _ _ none in ap answer.Set (applied_unmarked added d (set_in v) each.0 each.1)
no_clash_no_change (obs.HashAt f) (delta.Hash d) v kinds within none =
    let each = or_parts _ _ none in ap answer.Maybe (get-applied_unmarked put_by d (hash_in v) f each.0 each.1)
no_clash_no_change obs.HashAll (delta.Hash d) v kinds within none =
    let each = or_parts _ _ none in ap answer.Hash (applied_unmarked put_by d (hash_in v) each.0 each.1)
no_clash_no_change (obs.ListAt i) (delta.List d) v kinds within none =
    ap answer.Maybe (ap (λ xs. slice_get xs i) (applied_pushes d (list_in v) none) ∙ slice_get-append (list_in v) d.pushed i within)
no_clash_no_change obs.ListAll (delta.List d) v kinds within none =
    let each = or_parts _ _ none in
    ap answer.List (applied_pushes d (list_in v) each.0 ∙ ap (λ ys. list_in v ++ ys) (has_no_items d.pushed each.1) ∙ append-nil (list_in v))
no_clash_no_change (obs.PeakIs n) (delta.Raise m) v kinds within none =
    ap answer.Peak (greater-stays (peak_in v) m (ap (λ k. int_lt k m) within ∙ none))
no_clash_no_change (obs.PeakOver n true) (delta.Raise m) v kinds within none =
    ap answer.Bool (over-greater n (peak_in v) m ∙ or_left _ _ within ∙ sym within)
no_clash_no_change (obs.PeakOver n false) (delta.Raise m) v kinds within none =
    ap answer.Bool (over-greater n (peak_in v) m ∙ ap (λ b. is_over n (peak_in v) || b) none ∙ or_none _)
no_clash_no_change o d v kinds within none = absurd (cc)

-- a value on which the same is observed fits as well: a list with the same item at a place within it, a peak that answers the same
pub fits_alike : (o : Obs) (v w : Value) → IsWithin o v → observe o w ≡ observe o v → IsWithin o w
fits_alike obs.BoolIs v w within same = tt
fits_alike obs.CounterIs v w within same = tt
fits_alike obs.TextIs v w within same = tt
fits_alike (obs.SetHas x) v w within same = tt
fits_alike obs.SetAll v w within same = tt
fits_alike (obs.HashAt f) v w within same = tt
fits_alike obs.HashAll v w within same = tt
fits_alike (obs.ListAt i) v w within same =
    let is : slice_get (list_in w) i ≡ slice_get (list_in v) i = cc in
    slice_get_within (list_in w) i _ (is ∙ slice_get-get_or (list_in v) i [] within)
fits_alike obs.ListAll v w within same = tt
fits_alike (obs.PeakIs n) v w within same = let is : peak_in w ≡ peak_in v = cc in is ∙ within
fits_alike (obs.PeakOver n r) v w within same = let is : is_over n (peak_in w) ≡ is_over n (peak_in v) = cc in is ∙ within

-- and without a clash the same is observed
pub fits_again : FitsAgain
fits_again o d v kinds within none = fits_alike o v (apply d v) within (no_clash_no_change o d v kinds within none)

-- ---- what a clash changes

-- a number other than another
other_number : ℤ → ℤ
other_number (pos zero) = pos 1
other_number (pos (suc n)) = pos 0
other_number (negsuc n) = pos 0

-- 0 has 1, and every other number has 0, so none has itself
is_other_number : (n : ℤ) → n ≡ other_number n → ⊥
unfolding other_number
is_other_number (pos zero) e = absurd (cc)
is_other_number (pos (suc n)) e = absurd (cc)
is_other_number (negsuc n) e = absurd (cc)

-- no bool is its own opposite
is_other_bool : (b : Bool) → b ≡ not b → ⊥
is_other_bool b e = differs b b e refl

-- from 0, an addition of a 64-bit number gives that number
sum_from_0 : (n : ℤ) → FitsSigned w64 n → wrapping_sum (pos 0) n ≡ n
sum_from_0 n fits = grind (arith, common_steps)

-- so an addition that leaves 0 as it is adds 0
addition_of_0 : (n : ℤ) → FitsSigned w64 n → wrapping_sum (pos 0) n ≡ pos 0 → delta.AddCounter n ≡ delta.AddCounter (pos 0)
addition_of_0 n fits none = ap delta.AddCounter (sym (sum_from_0 n fits) ∙ none)

-- of each row, a value that shows the change
pub clashes_show_changes : ClashesShowChanges
clashes_show_changes obs.BoolIs (delta.PutBool b) kinds number some h = (value.Bool (not b), refl, tt, λ same. is_other_bool b (cc))
clashes_show_changes obs.CounterIs (delta.PutCounter n) kinds number some h =
    (value.Counter (other_number n), refl, tt, λ same. is_other_number n (cc))
clashes_show_changes obs.CounterIs (delta.AddCounter n) kinds number some h =
    (value.Counter (pos 0), refl, tt, λ same. some (addition_of_0 n number (cc)))
clashes_show_changes obs.TextIs (delta.PutText x) kinds number some h = (value.Text (0 ∷ x), refl, tt, λ same. longer x (cc))
clashes_show_changes (obs.SetHas x) (delta.Set d) kinds number some h =
    let change = changed_at added tt d x h in (value.Set change.0, refl, tt, λ same. differs _ _ change.1 (cc))
clashes_show_changes obs.SetAll (delta.Set d) kinds number some h =
    let change = changed added tt d h in (value.Set change.0, refl, tt, λ same. change.1 (cc))
clashes_show_changes (obs.HashAt f) (delta.Hash d) kinds number some h =
    let change = changed_at put_by [] d f h in (value.Hash change.0, refl, tt, λ same. differs _ _ change.1 (ap is_some (cc)))
clashes_show_changes obs.HashAll (delta.Hash d) kinds number some h =
    let change = changed put_by [] d h in (value.Hash change.0, refl, tt, λ same. change.1 (cc))
clashes_show_changes (obs.ListAt i) (delta.List d) kinds number some h =
    let change = items.changed_at i d h in (value.List change.0, refl, change.1, λ same. change.2 (cc))
clashes_show_changes obs.ListAll (delta.List d) kinds number some h =
    let change = items.changed d h in (value.List change.0, refl, tt, λ same. change.1 (cc))
clashes_show_changes (obs.PeakIs n) (delta.Raise m) kinds number some h = (value.Peak n, refl, refl, λ same. greater-changes n m h (cc))
clashes_show_changes (obs.PeakOver n true) (delta.Raise m) kinds number some h = absurd (false≢true h)
clashes_show_changes (obs.PeakOver n false) (delta.Raise m) kinds number some h = (
  value.Peak n,
  refl,
  not_over-itself n,
  λ same. let is : is_over n (int_max n m) ≡ is_over n n = cc in
      true≢false (sym (over-greater n n m ∙ or_right _ _ h) ∙ is ∙ not_over-itself n),
)
clashes_show_changes o d kinds number some h = absurd (cc)

-- ---- compositions

-- a delta of a bool, a counter or a text
abbrev IsPlain : Delta → Type 0
IsPlain (delta.Set d) = ⊥
IsPlain (delta.Hash d) = ⊥
IsPlain (delta.List d) = ⊥
IsPlain (delta.Raise n) = ⊥
IsPlain _ = Unit {0}

-- whether it is the whole of a bool, a counter or a text that is observed
abbrev is_whole : Obs → Bool
is_whole obs.BoolIs = true
is_whole obs.CounterIs = true
is_whole obs.TextIs = true
is_whole _ = false

-- with such a delta the whole clashes, and nothing else
plain_clash : (o : Obs) (d : Delta) → IsPlain d → clash o d ≡ is_whole o
plain_clash obs.BoolIs d plain = refl
plain_clash obs.CounterIs d plain = refl
plain_clash obs.TextIs d plain = refl
plain_clash o (delta.Set d) plain = absurd plain
plain_clash o (delta.Hash d) plain = absurd plain
plain_clash o (delta.List d) plain = absurd plain
plain_clash o (delta.Raise n) plain = absurd plain
plain_clash (obs.PeakOver n true) d plain = refl
plain_clash (obs.PeakOver n false) d plain = refl
plain_clash o d plain = refl

-- a test joined with itself is that test
twice : (b : Bool) → b ≡ (b || b)
twice true = refl
twice false = refl

-- the observation alone decides of each such delta, so it decides the same of all three
plain_clashes : (o : Obs) (d e f : Delta) → IsPlain d → IsPlain e → IsPlain f → clash o f ≡ (clash o d || clash o e)
plain_clashes o d e f p q r =
    plain_clash o f r ∙ twice (is_whole o) ∙ sym (ap (λ b. b || clash o e) (plain_clash o d p) ∙ ap (λ b. is_whole o || b) (plain_clash o e q))

-- a row that has no other test
nothing_else : (a b c : Bool) → a ≡ (b || c) → (a || false) ≡ ((b || false) || (c || false))
nothing_else a b c is = simp or_none is

module _ {M V : Type 0} (left : M → Option V) (d e : Keyed M) where
  -- a composition clears or marks a text where one of the two does: the keys of laid marks are the keys of both
  pub names-composed : (x : Bytes)
      → ((composed left d e).cleared || map.contains_key (composed left d e).marks x)
      ≡ ((d.cleared || map.contains_key d.marks x) || (e.cleared || map.contains_key e.marks x))
  names-composed x =
      touches-composed left (λ m. map.contains_key m x) (λ under over. contains-overlaid (mark_after left false) (λ mark. refl) under over x) d e

  -- it clears or has any mark where one of the two does
  pub names_some-composed : ((composed left d e).cleared || has_some (composed left d e).marks)
      ≡ ((d.cleared || has_some d.marks) || (e.cleared || has_some e.marks))
  names_some-composed = touches-composed left has_some (has_some-overlaid (mark_after left false) (λ mark. refl)) d e

  -- it clears where one of the two does, whatever its marks are
  pub clears_alone-composed : ((composed left d e).cleared || false) ≡ ((d.cleared || false) || (e.cleared || false))
  clears_alone-composed = touches-composed left (λ m. false) (λ under over. refl) d e

-- row by row, each by its own test of clears and marks
set_clashes : (o : Obs) (d e : Keyed Bool)
    → clash o (compose (delta.Set d) (delta.Set e)) ≡ (clash o (delta.Set d) || clash o (delta.Set e))
set_clashes obs.BoolIs d e = refl
set_clashes obs.CounterIs d e = refl
set_clashes obs.TextIs d e = refl
set_clashes (obs.SetHas x) d e = names-composed added d e x
set_clashes obs.SetAll d e = names_some-composed added d e
set_clashes (obs.HashAt x) d e = names-composed added d e x
set_clashes obs.HashAll d e = names_some-composed added d e
set_clashes (obs.ListAt i) d e = clears_alone-composed added d e
set_clashes obs.ListAll d e = nothing_else _ _ _ (clears_alone-composed added d e)
set_clashes (obs.PeakIs n) d e = refl
set_clashes (obs.PeakOver n r) d e = twice (not r && false)

-- row by row, as of sets
hash_clashes : (o : Obs) (d e : Keyed Mark)
    → clash o (compose (delta.Hash d) (delta.Hash e)) ≡ (clash o (delta.Hash d) || clash o (delta.Hash e))
hash_clashes obs.BoolIs d e = refl
hash_clashes obs.CounterIs d e = refl
hash_clashes obs.TextIs d e = refl
hash_clashes (obs.SetHas x) d e = names-composed put_by d e x
hash_clashes obs.SetAll d e = names_some-composed put_by d e
hash_clashes (obs.HashAt x) d e = names-composed put_by d e x
hash_clashes obs.HashAll d e = names_some-composed put_by d e
hash_clashes (obs.ListAt i) d e = clears_alone-composed put_by d e
hash_clashes obs.ListAll d e = nothing_else _ _ _ (clears_alone-composed put_by d e)
hash_clashes (obs.PeakIs n) d e = refl
hash_clashes (obs.PeakOver n r) d e = twice (not r && false)

-- row by row, by clears, removals and pushes
list_clashes : (o : Obs) (d e : Listed)
    → clash o (compose (delta.List d) (delta.List e)) ≡ (clash o (delta.List d) || clash o (delta.List e))
list_clashes obs.BoolIs d e = refl
list_clashes obs.CounterIs d e = refl
list_clashes obs.TextIs d e = refl
list_clashes (obs.SetHas x) d e = nothing_else _ _ _ (clears-composed d e)
list_clashes obs.SetAll d e = nothing_else _ _ _ (clears-composed d e)
list_clashes (obs.HashAt x) d e = nothing_else _ _ _ (clears-composed d e)
list_clashes obs.HashAll d e = nothing_else _ _ _ (clears-composed d e)
list_clashes (obs.ListAt i) d e = takes-composed d e
list_clashes obs.ListAll d e = acts-composed d e
list_clashes (obs.PeakIs n) d e = refl
list_clashes (obs.PeakOver n r) d e = twice (not r && false)

-- row by row: of two raises the greater one goes above a number where one of the two does
raise_clashes : (o : Obs) (m n : ℤ) → clash o (compose (delta.Raise m) (delta.Raise n)) ≡ (clash o (delta.Raise m) || clash o (delta.Raise n))
raise_clashes obs.BoolIs m n = refl
raise_clashes obs.CounterIs m n = refl
raise_clashes obs.TextIs m n = refl
raise_clashes (obs.PeakIs k) m n = over-greater k m n
raise_clashes (obs.PeakOver k true) m n = refl
raise_clashes (obs.PeakOver k false) m n = over-greater k m n
raise_clashes o m n = refl

-- a composition clears, marks, takes out, pushes or raises where one of its parts does
by_parts : (o : Obs) (first second : Delta) → OfOneKind first second → clash o (compose first second) ≡ (clash o first || clash o second)
by_parts o first second (bools b c) = plain_clashes o (delta.PutBool b) (delta.PutBool c) (delta.PutBool c) tt tt tt
by_parts o first second (puts m n) = plain_clashes o (delta.PutCounter m) (delta.PutCounter n) (delta.PutCounter n) tt tt tt
by_parts o first second (put_then_add m n) =
    plain_clashes o (delta.PutCounter m) (delta.AddCounter n) (delta.PutCounter (wrapping_sum m n)) tt tt tt
by_parts o first second (add_then_put m n) = plain_clashes o (delta.AddCounter m) (delta.PutCounter n) (delta.PutCounter n) tt tt tt
by_parts o first second (adds m n) = plain_clashes o (delta.AddCounter m) (delta.AddCounter n) (delta.AddCounter (wrapping_sum m n)) tt tt tt
by_parts o first second (texts x y) = plain_clashes o (delta.PutText x) (delta.PutText y) (delta.PutText y) tt tt tt
by_parts o first second (sets d e) = set_clashes o d e
by_parts o first second (hashes d e) = hash_clashes o d e
by_parts o first second (lists d e) = list_clashes o d e
by_parts o first second (raises m n) = raise_clashes o m n

-- two deltas of equal kinds are one of the pairs for which it holds
pub compositions_clash_by_parts : CompositionsClashByParts
compositions_clash_by_parts o first second kinds = by_parts o first second (of_one_kind first second kinds)
