-- Operands that are gone through in order: what the checker's loops come to, as one loop over operands with their tests.
use Rattle.std.proofs.Common.{◌≡◌, ℕ, Bool, true, false, List, [], ◌∷◌, ◌++◌, Option, Some, None, Ok, Err, refl, ap, sym, ◌∙◌, subst}
use Rattle.std.specs.List.{AllByRecursion}
use Rattle.std.specs.Option.{option_or}
use Rattle.txn_trees.specs.declared.expression.Expr.{Expr}
use Rattle.txn_grammar.specs.Trees.{column_of}
use Rattle.txn_lang.specs.declared.item_type.Type.{«Type» as ItemType}
use Rattle.txn_lang.specs.Types.{Names}
use Rattle.txn_lang.specs.Typing.{HasType, Judged, and_then, unless, type_of}
use Rattle.txn_lang.proofs.Typing.{types_are_found}
use Rattle.type_errors.specs.Failing.{Asked, IsTypedOperand, IsTested, BeginsWith, IsUnsuited, Fails}

-- the complaint that a tested operand makes
abbrev pub complaint_of : Asked → ItemType → ItemType → Option ℕ
complaint_of a first own = unless (a.suits first own) (column_of a.operand)

-- the first complaint of these, behind one that may be there
abbrev pub go : Names → ItemType → Option ℕ → List Asked → Judged (Option ℕ)
go names first complaint [] = Ok complaint
go names first complaint (a ∷ rest) = and_then (type_of a.operand names) (λ own. go names first (option_or complaint (complaint_of a first own)) rest)

-- of all operands of a node, the first of which is its own first
abbrev pub go_all : Names → List Asked → Judged (Option ℕ)
go_all names [] = Ok None
go_all names (a ∷ rest) = and_then (type_of a.operand names) (λ own. go names own (complaint_of a own own) rest)

-- ---- types are found, and are one

pub found : (names : Names) (e : Expr) (t : ItemType) → HasType names e t → type_of e names ≡ Ok t
found names e t h = (types_are_found names e t).1 h

pub typed_by : (names : Names) (e : Expr) (t : ItemType) → type_of e names ≡ Ok t → HasType names e t
typed_by names e t h = (types_are_found names e t).0 h

-- ---- what the loop found

-- one of these fails, and those before it have types
pub record FailsInside (names : Names) (all : List Asked) (column : ℕ) : Type 0 where
  pub before : List Asked
  pub here : Asked
  pub after : List Asked
  pub split : all ≡ before ++ here ∷ after
  pub typed : AllByRecursion (IsTypedOperand names) before
  pub fails : Fails names here.operand column

-- all have types, and this is the first that doesn't suit
pub record IsUnsuitedFrom (names : Names) (first : ItemType) (all : List Asked) (column : ℕ) : Type 0 where
  pub before : List Asked
  pub here : Asked
  pub after : List Asked
  pub split : all ≡ before ++ here ∷ after
  pub suited : AllByRecursion (IsTested names first true) before
  pub unsuited : IsTested names first false here
  pub others : AllByRecursion (IsTypedOperand names) after
  pub at : column ≡ column_of here.operand

-- a column that is told of an operand is where it fails
abbrev pub Sound : Names → Asked → Type 0
Sound names a = (column : ℕ) → type_of a.operand names ≡ Err column → Fails names a.operand column

module _ (names : Names) where
  -- one operand more in front, which has a type
  inside_more : (a : Asked) (rest : List Asked) (column : ℕ) → IsTypedOperand names a → FailsInside names rest column → FailsInside names (a ∷ rest) column
  inside_more a rest column typed found = record {
    before = a ∷ found.before;
    here = found.here;
    after = found.after;
    split = ap (λ more. a ∷ more) found.split;
    typed = (typed, found.typed);
    fails = found.fails;
  }

  -- the first fails
  inside_here : (a : Asked) (rest : List Asked) (column : ℕ) → Fails names a.operand column → FailsInside names (a ∷ rest) column
  inside_here a rest column fails = record { before = []; here = a; after = rest; split = refl; typed = tt; fails = fails }

  -- the loop stops where one fails
  pub go_stopped : (first : ItemType) (complaint : Option ℕ) (all : List Asked) (column : ℕ) → AllByRecursion (Sound names) all
      → go names first complaint all ≡ Err column → FailsInside names all column
  go_stopped first complaint [] column sound e = absurd (cc)
  go_stopped first complaint (a ∷ rest) column sound e =
      by (λ kept. go_stopped first kept rest column sound.1) (type_of a.operand names) refl e
    where
      by : ((kept : Option ℕ) → go names first kept rest ≡ Err column → FailsInside names rest column) → (r : Judged ItemType) → type_of a.operand names ≡ r
          → and_then r (λ own. go names first (option_or complaint (complaint_of a first own)) rest) ≡ Err column
          → FailsInside names (a ∷ rest) column
      by later (Err other) is e =
          let same : other ≡ column = cc in inside_here a rest column (sound.0 column (is ∙ ap (λ c. Err c) same))
      by later (Ok own) is e =
          inside_more a rest column (record { own = own; typed = typed_by names a.operand own is })
          (later (option_or complaint (complaint_of a first own)) e)

  -- behind a complaint it is kept, and all have types
  pub go_late : (first : ItemType) (kept : ℕ) (all : List Asked) (end : Option ℕ) → go names first (Some kept) all ≡ Ok end
      → (end ≡ Some kept) × AllByRecursion (IsTypedOperand names) all
  go_late first kept [] end e = (cc, tt)
  go_late first kept (a ∷ rest) end e = by (go_late first kept rest end) (type_of a.operand names) refl e
    where
      by : (go names first (Some kept) rest ≡ Ok end → (end ≡ Some kept) × AllByRecursion (IsTypedOperand names) rest) → (r : Judged ItemType) → type_of a.operand names ≡ r → and_then r (λ own. go names first (Some kept) rest) ≡ Ok end
          → (end ≡ Some kept) × AllByRecursion (IsTypedOperand names) (a ∷ rest)
      by later (Err other) is e = absurd (cc)
      by later (Ok own) is e = ((later e).0, (record { own = own; typed = typed_by names a.operand own is }, (later e).1))

  -- the first that doesn't suit, behind one that does
  suited_more : (first own : ItemType) (a : Asked) (rest : List Asked) (column : ℕ) → HasType names a.operand own → a.suits first own ≡ true
      → IsUnsuitedFrom names first rest column → IsUnsuitedFrom names first (a ∷ rest) column
  suited_more first own a rest column typed suits found = record {
    before = a ∷ found.before;
    here = found.here;
    after = found.after;
    split = ap (λ more. a ∷ more) found.split;
    suited = (record { own = own; typed = typed; tested = suits }, found.suited);
    unsuited = found.unsuited;
    others = found.others;
    at = found.at;
  }

  -- this one, behind which all have types
  unsuited_here : (first own : ItemType) (a : Asked) (rest : List Asked) (column : ℕ) → HasType names a.operand own → a.suits first own ≡ false
      → AllByRecursion (IsTypedOperand names) rest → column ≡ column_of a.operand → IsUnsuitedFrom names first (a ∷ rest) column
  unsuited_here first own a rest column typed suits others at = record {
    before = [];
    here = a;
    after = rest;
    split = refl;
    suited = tt;
    unsuited = record { own = own; typed = typed; tested = suits };
    others = others;
    at = at;
  }

  -- by a test of one, what the loop tells of it and of those behind it
  tested : (first own : ItemType) (a : Asked) (rest : List Asked) (column : ℕ) → HasType names a.operand own
      → ((c : ℕ) → go names first None rest ≡ Ok (Some c) → IsUnsuitedFrom names first rest c)
      → (b : Bool) → a.suits first own ≡ b → go names first (unless b (column_of a.operand)) rest ≡ Ok (Some column)
      → IsUnsuitedFrom names first (a ∷ rest) column
  tested first own a rest column typed later true is e = suited_more first own a rest column typed is (later column e)
  tested first own a rest column typed later false is e =
      let kept = go_late first (column_of a.operand) rest (Some column) e in
      let same : column ≡ column_of a.operand = cc (kept.0) in
      unsuited_here first own a rest column typed is kept.1 same

  -- the loop ends with the first that doesn't suit
  pub go_told : (first : ItemType) (all : List Asked) (column : ℕ) → go names first None all ≡ Ok (Some column)
      → IsUnsuitedFrom names first all column
  go_told first [] column e = absurd (cc)
  go_told first (a ∷ rest) column e = by (λ c. go_told first rest c) (type_of a.operand names) refl e
    where
      by : ((c : ℕ) → go names first None rest ≡ Ok (Some c) → IsUnsuitedFrom names first rest c) → (r : Judged ItemType) → type_of a.operand names ≡ r → and_then r (λ own. go names first (complaint_of a first own) rest) ≡ Ok (Some column)
          → IsUnsuitedFrom names first (a ∷ rest) column
      by later (Err other) is e = absurd (cc)
      by later (Ok own) is e = tested first own a rest column (typed_by names a.operand own is) later (a.suits first own) refl e

  -- ---- the whole list

  pub all_stopped : (all : List Asked) (column : ℕ) → AllByRecursion (Sound names) all → go_all names all ≡ Err column → FailsInside names all column
  all_stopped [] column sound e = absurd (cc)
  all_stopped (a ∷ rest) column sound e = by (type_of a.operand names) refl e
    where
      by : (r : Judged ItemType) → type_of a.operand names ≡ r → and_then r (λ own. go names own (complaint_of a own own) rest) ≡ Err column
          → FailsInside names (a ∷ rest) column
      by (Err other) is e =
          let same : other ≡ column = cc in inside_here a rest column (sound.0 column (is ∙ ap (λ c. Err c) same))
      by (Ok own) is e =
          inside_more a rest column (record { own = own; typed = typed_by names a.operand own is })
          (go_stopped own (complaint_of a own own) rest column sound.1 e)

  pub all_told : (all : List Asked) (column : ℕ) → go_all names all ≡ Ok (Some column) → IsUnsuited names all column
  all_told [] column e = absurd (cc)
  all_told (a ∷ rest) column e = by (type_of a.operand names) refl e
    where
      by : (r : Judged ItemType) → type_of a.operand names ≡ r → and_then r (λ own. go names own (complaint_of a own own) rest) ≡ Ok (Some column)
          → IsUnsuited names (a ∷ rest) column
      by (Err other) is e = absurd (cc)
      by (Ok own) is e =
          let typed = typed_by names a.operand own is in
          let from = tested own own a rest column typed (λ c. go_told own rest c) (a.suits own own) refl e in
          record {
            before = from.before;
            here = from.here;
            after = from.after;
            split = from.split;
            first = own;
            begins_with = typed;
            suited = from.suited;
            unsuited = from.unsuited;
            others = from.others;
            at = from.at;
          }

  -- ---- and back

  -- where one fails behind others that have types, the loop stops
  pub stops_there : (first : ItemType) (complaint : Option ℕ) (before after : List Asked) (here : Asked) (column : ℕ)
      → AllByRecursion (IsTypedOperand names) before → type_of here.operand names ≡ Err column
      → go names first complaint (before ++ here ∷ after) ≡ Err column
  stops_there first complaint [] after here column typed fails =
      ap (λ r. and_then r (λ own. go names first (option_or complaint (complaint_of here first own)) after)) fails
  stops_there first complaint (a ∷ before) after here column typed fails =
      ap (λ r. and_then r (λ own. go names first (option_or complaint (complaint_of a first own)) (before ++ here ∷ after)))
      (found names a.operand typed.0.own typed.0.typed)
      ∙ stops_there first (option_or complaint (complaint_of a first typed.0.own)) before after here column typed.1 fails

  pub all_stop_there : (before after : List Asked) (here : Asked) (column : ℕ) → AllByRecursion (IsTypedOperand names) before
      → type_of here.operand names ≡ Err column → go_all names (before ++ here ∷ after) ≡ Err column
  all_stop_there [] after here column typed fails = ap (λ r. and_then r (λ own. go names own (complaint_of here own own) after)) fails
  all_stop_there (a ∷ before) after here column typed fails =
      ap (λ r. and_then r (λ own. go names own (complaint_of a own own) (before ++ here ∷ after))) (found names a.operand typed.0.own typed.0.typed)
      ∙ stops_there typed.0.own (complaint_of a typed.0.own typed.0.own) before after here column typed.1 fails

  -- a complaint is kept over all that have types
  kept_over : (first : ItemType) (kept : ℕ) (all : List Asked) → AllByRecursion (IsTypedOperand names) all → go names first (Some kept) all ≡ Ok (Some kept)
  kept_over first kept [] typed = refl
  kept_over first kept (a ∷ rest) typed =
      ap (λ r. and_then r (λ own. go names first (Some kept) rest)) (found names a.operand typed.0.own typed.0.typed) ∙ kept_over first kept rest typed.1

  -- the first that doesn't suit is told
  told_there : (first : ItemType) (before after : List Asked) (here : Asked) → AllByRecursion (IsTested names first true) before
      → IsTested names first false here → AllByRecursion (IsTypedOperand names) after
      → go names first None (before ++ here ∷ after) ≡ Ok (Some (column_of here.operand))
  told_there first [] after here suited unsuited others =
      ap (λ r. and_then r (λ own. go names first (complaint_of here first own) after)) (found names here.operand unsuited.own unsuited.typed)
      ∙ ap (λ b. go names first (unless b (column_of here.operand)) after) unsuited.tested
      ∙ kept_over first (column_of here.operand) after others
  told_there first (a ∷ before) after here suited unsuited others =
      ap (λ r. and_then r (λ own. go names first (complaint_of a first own) (before ++ here ∷ after))) (found names a.operand suited.0.own suited.0.typed)
      ∙ ap (λ b. go names first (unless b (column_of a.operand)) (before ++ here ∷ after)) suited.0.tested
      ∙ told_there first before after here suited.1 unsuited others

  -- of the whole list: its first operand is gone through as the others are
  all_as_rest : (first : ItemType) (a : Asked) (rest : List Asked) → HasType names a.operand first
      → go_all names (a ∷ rest) ≡ go names first None (a ∷ rest)
  all_as_rest first a rest typed =
      ap (λ r. and_then r (λ own. go names own (complaint_of a own own) rest)) (found names a.operand first typed)
      ∙ sym (ap (λ r. and_then r (λ own. go names first (complaint_of a first own) rest)) (found names a.operand first typed))

  -- a complaint at a column, as the loop's end
  abbrev ok_at : ℕ → Judged (Option ℕ)
  ok_at c = Ok (Some c)

  pub all_told_there : (all : List Asked) (column : ℕ) → IsUnsuited names all column → go_all names all ≡ Ok (Some column)
  all_told_there all column is =
      by is.before is.suited (subst (BeginsWith names is.first) is.split is.begins_with) (ap (go_all names) is.split)
    where
      at : ok_at (column_of is.here.operand) ≡ ok_at column
      at = ap ok_at (sym is.at)

      by : (before : List Asked) → AllByRecursion (IsTested names is.first true) before → BeginsWith names is.first (before ++ is.here ∷ is.after)
          → go_all names all ≡ go_all names (before ++ is.here ∷ is.after) → go_all names all ≡ Ok (Some column)
      by [] suited typed e =
          e ∙ all_as_rest is.first is.here is.after typed ∙ told_there is.first [] is.after is.here suited is.unsuited is.others ∙ at
      by (a ∷ before) suited typed e =
          e ∙ all_as_rest is.first a (before ++ is.here ∷ is.after) typed
          ∙ told_there is.first (a ∷ before) is.after is.here suited is.unsuited is.others ∙ at
