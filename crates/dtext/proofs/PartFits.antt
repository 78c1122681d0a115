-- The reader of write parts reads what the rule derives. The reader's rule is the table of forms with equal fronts put
-- together; both derive the same.
use Rattle.std.proofs.Common.{◌≡◌, ℕ, Bool, true, false, not, ◌++◌, Option, Some, None, refl, ap, ◌∙◌, arith, inl, inr, codes}
use Rattle.predictive_parsing.specs.Reading.{Reader, next, either, of}
use Rattle.predictive_parsing.specs.Rules.{Rule, Then, Pure, Or, Optional, Word, Of, Behind}
use Rattle.predictive_parsing.specs.Fits.{Fits, any, unless}
use Rattle.predictive_parsing.specs.Bytes.{IsByte, Byte, sees, behind}
use Rattle.predictive_parsing.proofs.Basic.{both}
use Rattle.predictive_parsing.proofs.Combined.{fits_as, onwards, either_fits, seen, narrowed, optional_fits}
use Rattle.predictive_parsing.proofs.Words.{byte_fits, byte_begins, behind_fits, named_fits}
use Rattle.plain_data.specs.Texts.{Bytes}
use Rattle.rdt_types.specs.declared.address.Kind.{Kind}
use Rattle.rdt_types.specs.declared.address.Kind.TheVariants as kinds
use Rattle.rdt_types.specs.declared.operation.WriteOp.{WriteOp}
use Rattle.rdt_types.specs.declared.operation.WriteOp.TheVariants as op
use Rattle.dtext.specs.Follows.{no_digit, no_more}
use Rattle.dtext.specs.Spellings.{TextRule, NumberRule, BoolRule, FieldRule, RemoveOrClear, PartRule, PartOf}
use Rattle.dtext.specs.code.Reading.{text, number, begins_number, bool, text_behind, put_of, text_or_field, put_value}
use Rattle.dtext.specs.code.Reading.{put_or_push, addition, removed, cleared, removal, clearing, remove_or_clear, raise_or_remove, part}
use Rattle.dtext.specs.code.Reading.{bool_part, counter_part, text_part, set_part, field, hash_part, list_part, peak_part, part_of}
use Rattle.dtext.proofs.TextFits.{text_fits, text_next}
use Rattle.dtext.proofs.NumberFits.{number_fits, number_begins}
use Rattle.dtext.proofs.FormFits.{bool_fits, bool_apart}

-- ---- what is put

-- a text behind a space
TextBehind : Rule ℕ Bytes
TextBehind = Then (Byte 32) (λ _. TextRule)

-- it is read as its rule says
text_behind_fits : Fits IsByte text_behind TextBehind any
unfolding text_behind TextBehind
text_behind_fits = onwards IsByte (byte_fits 32 (omega arith)) (λ _. text_fits)

-- it begins with the space
text_behind_begins : (ts us a : Bytes) → TextBehind ts a us → sees 32 (next ts) ≡ true
unfolding TextBehind
text_behind_begins ts us a r = byte_begins 32 ts r.middle r.value r.first

-- no other text follows
abbrev alone : Option ℕ → Bool
alone = unless (sees 32) any

-- a text, or a field and a text
abbrev TextOrField : Rule ℕ WriteOp
TextOrField = Then TextRule (λ first. Then (Optional TextBehind) (λ second. Pure (put_of first second)))

-- a space tells whether a second text follows
text_or_field_fits : Fits IsByte text_or_field TextOrField alone
unfolding text_or_field
text_or_field_fits =
    onwards IsByte text_fits (λ first. seen IsByte (put_of first)
    (optional_fits IsByte (sees 32) text_behind TextBehind any text_behind_fits text_behind_begins))

-- what is put, unless it is a number
abbrev TextOrBool : Rule ℕ WriteOp
TextOrBool = Or TextOrField (Of op.PutBool BoolRule)

-- a quote tells texts from truth values
text_or_bool_fits : Fits IsByte (either (sees 34) text_or_field (of op.PutBool bool)) TextOrBool alone
text_or_bool_fits =
    either_fits IsByte (sees 34) text_or_field (of op.PutBool bool) TextOrField (Of op.PutBool BoolRule) alone text_or_field_fits
    (narrowed IsByte alone (λ h e. refl) (seen IsByte op.PutBool bool_fits))
    (λ ts us a r. ap (sees 34) (text_next ts r.middle r.value r.first))
    (λ ts us a r e. bool_apart (sees 34) refl refl ts r.middle r.value r.first)

-- neither begins as a number does
text_or_bool_apart : (ts us : Bytes) (a : WriteOp) → TextOrBool ts a us → begins_number (next ts) ≡ false
text_or_bool_apart ts us a (inl r) = ap begins_number (text_next ts r.middle r.value r.first)
text_or_bool_apart ts us a (inr r) = bool_apart begins_number refl refl ts r.middle r.value r.first

-- what is put
abbrev PutValue : Rule ℕ WriteOp
PutValue = Or (Of op.PutCounter NumberRule) TextOrBool

-- where a part ends no text follows
no_more_is_alone : (h : Option ℕ) → no_more h ≡ true → alone h ≡ true
no_more_is_alone h e = (both (no_digit h) (not (sees 32 h)) e).1

-- nor does a digit
no_more_no_digit : (h : Option ℕ) → no_more h ≡ true → no_digit h ≡ true
no_more_no_digit h e = (both (no_digit h) (not (sees 32 h)) e).0

-- what is put tells its kind by its first byte
put_value_fits : Fits IsByte put_value PutValue no_more
unfolding put_value
put_value_fits = either_fits IsByte begins_number (of op.PutCounter number) _ (Of op.PutCounter NumberRule) TextOrBool no_more
    (narrowed IsByte no_more no_more_no_digit (seen IsByte op.PutCounter number_fits)) (narrowed IsByte no_more no_more_is_alone text_or_bool_fits)
    (λ ts us a r. number_begins ts r.middle r.value r.first)
    (λ ts us a r e. text_or_bool_apart ts us a r)

-- ---- the forms, by their fronts

-- the rest of `put`
abbrev Put : Rule ℕ WriteOp
Put = Behind (codes "t ") PutValue

-- the rest of `push`
abbrev Push : Rule ℕ WriteOp
Push = Behind (codes "sh ") (Of op.ListPush TextRule)

-- the two with their common front
abbrev PutOrPush : Rule ℕ WriteOp
PutOrPush = Behind (codes "pu") (Or Put Push)

-- the byte behind the front tells them apart
put_or_push_fits : Fits IsByte put_or_push PutOrPush no_more
unfolding put_or_push
put_or_push_fits =
    behind_fits (codes "pu") refl (either_fits IsByte (sees 116) _ _ Put Push no_more
    (behind_fits (codes "t ") refl put_value_fits)
    (narrowed IsByte no_more (λ h e. refl) (behind_fits (codes "sh ") refl (seen IsByte op.ListPush text_fits)))
    (λ ts us a r. ap (λ xs. sees 116 (next xs)) r.first)
    (λ ts us a r e. ap (λ xs. sees 116 (next xs)) r.first))

-- an addition to a counter or a set
abbrev Addition : Rule ℕ WriteOp
Addition = Behind (codes "add ") (Or (Of op.AddCounter NumberRule) (Of op.SetAdd TextRule))

-- what is added tells which
addition_fits : Fits IsByte addition Addition no_digit
unfolding addition
addition_fits =
    behind_fits (codes "add ") refl
    (either_fits IsByte begins_number _ _ (Of op.AddCounter NumberRule) (Of op.SetAdd TextRule) no_digit
    (seen IsByte op.AddCounter number_fits) (narrowed IsByte no_digit (λ h e. refl) (seen IsByte op.SetAdd text_fits))
    (λ ts us a r. number_begins ts r.middle r.value r.first)
    (λ ts us a r e. ap begins_number (text_next ts r.middle r.value r.first)))

-- a removal of a kind
abbrev Removal : Kind → Rule ℕ WriteOp
Removal kind = Behind (codes "remove ") (Of (removed kind) TextRule)

-- it is read as its rule says
removal_fits : (kind : Kind) → Fits IsByte (removal kind) (Removal kind) any
unfolding removal
removal_fits kind = behind_fits (codes "remove ") refl (seen IsByte (removed kind) text_fits)

-- the word alone
abbrev Clearing : Kind → Rule ℕ WriteOp
Clearing kind = Of (λ _. cleared kind) (Word (codes "clear"))

-- it is read as its rule says
clearing_fits : (kind : Kind) → Fits IsByte (clearing kind) (Clearing kind) any
unfolding clearing
clearing_fits kind = named_fits (codes "clear") (cleared kind) refl

-- the first byte tells these two apart
remove_or_clear_fits : (kind : Kind) → Fits IsByte (remove_or_clear kind) (RemoveOrClear (removed kind) (cleared kind)) any
unfolding remove_or_clear
remove_or_clear_fits kind =
    either_fits IsByte (sees 114) (removal kind) (clearing kind) (Removal kind) (Clearing kind) any (removal_fits kind)
    (clearing_fits kind)
    (λ ts us a r. ap (λ xs. sees 114 (next xs)) r.first)
    (λ ts us a r e. ap (λ xs. sees 114 (next xs)) r.first)

-- neither begins as another part does
remove_or_clear_apart : (removed : Bytes → WriteOp) (cleared : WriteOp) (test : Option ℕ → Bool) → test (Some 114) ≡ false
    → test (Some 99) ≡ false → (ts us : Bytes) (a : WriteOp) → RemoveOrClear removed cleared ts a us → test (next ts) ≡ false
remove_or_clear_apart removed cleared test m c ts us a (inl r) = ap (λ xs. test (next xs)) r.first ∙ m
remove_or_clear_apart removed cleared test m c ts us a (inr r) = ap (λ xs. test (next xs)) r.first ∙ c

-- the rest of `raise`
abbrev Raise : Rule ℕ WriteOp
Raise = Behind (codes "aise ") (Of op.Raise NumberRule)

-- the rest of `remove`, which is a set's where no kind is known
abbrev Remove : Rule ℕ WriteOp
Remove = Behind (codes "emove ") (Of op.SetRemove TextRule)

-- the two with their common front
abbrev RaiseOrRemove : Rule ℕ WriteOp
RaiseOrRemove = Behind (codes "r") (Or Raise Remove)

-- the byte behind the front tells them apart
raise_or_remove_fits : Fits IsByte raise_or_remove RaiseOrRemove no_digit
unfolding raise_or_remove
raise_or_remove_fits =
    behind_fits (codes "r") refl (either_fits IsByte (sees 97) _ _ Raise Remove no_digit
    (behind_fits (codes "aise ") refl (seen IsByte op.Raise number_fits))
    (narrowed IsByte no_digit (λ h e. refl) (behind_fits (codes "emove ") refl (seen IsByte op.SetRemove text_fits)))
    (λ ts us a r. ap (λ xs. sees 97 (next xs)) r.first)
    (λ ts us a r e. ap (λ xs. sees 97 (next xs)) r.first))

-- a raise, a removal or a clear, where no kind is known
abbrev RaiseRemoveOrClear : Rule ℕ WriteOp
RaiseRemoveOrClear = Or RaiseOrRemove (Clearing kinds.Set)

-- the first byte tells a clear from these two
raise_remove_or_clear_fits : Fits IsByte (either (sees 114) raise_or_remove (clearing kinds.Set)) RaiseRemoveOrClear no_digit
raise_remove_or_clear_fits =
    either_fits IsByte (sees 114) raise_or_remove (clearing kinds.Set) RaiseOrRemove (Clearing kinds.Set) no_digit
    raise_or_remove_fits (narrowed IsByte no_digit (λ h e. refl) (clearing_fits kinds.Set))
    (λ ts us a r. ap (λ xs. sees 114 (next xs)) r.first)
    (λ ts us a r e. ap (λ xs. sees 114 (next xs)) r.first)

-- none begins as another part does
raise_remove_or_clear_apart : (test : Option ℕ → Bool) → test (Some 114) ≡ false → test (Some 99) ≡ false → (ts us : Bytes) (a : WriteOp)
    → RaiseRemoveOrClear ts a us → test (next ts) ≡ false
raise_remove_or_clear_apart test m c ts us a (inl r) = ap (λ xs. test (next xs)) r.first ∙ m
raise_remove_or_clear_apart test m c ts us a (inr r) = ap (λ xs. test (next xs)) r.first ∙ c

-- a part that is neither put nor push
abbrev NoPut : Rule ℕ WriteOp
NoPut = Or Addition RaiseRemoveOrClear

-- the first byte tells additions from these
no_put_fits : Fits IsByte (either (sees 97) addition (either (sees 114) raise_or_remove (clearing kinds.Set))) NoPut no_digit
no_put_fits =
    either_fits IsByte (sees 97) addition _ Addition RaiseRemoveOrClear no_digit addition_fits raise_remove_or_clear_fits
    (λ ts us a r. ap (λ xs. sees 97 (next xs)) r.first)
    (λ ts us a r e. raise_remove_or_clear_apart (sees 97) refl refl ts us a r)

-- none of these begins with `p`
no_put_apart : (ts us : Bytes) (a : WriteOp) → NoPut ts a us → sees 112 (next ts) ≡ false
no_put_apart ts us a (inl r) = ap (λ xs. sees 112 (next xs)) r.first
no_put_apart ts us a (inr r) = raise_remove_or_clear_apart (sees 112) refl refl ts us a r

-- ---- the table

-- all forms, equal fronts put together
abbrev Factored : Rule ℕ WriteOp
Factored = Or PutOrPush NoPut

-- parts are read as this rule says
factored_fits : Fits IsByte part Factored no_more
unfolding part
factored_fits = either_fits IsByte (sees 112) put_or_push _ PutOrPush NoPut no_more put_or_push_fits (narrowed IsByte no_more no_more_no_digit no_put_fits)
    (λ ts us a r. ap (λ xs. sees 112 (next xs)) r.first)
    (λ ts us a r e. no_put_apart ts us a r)

-- ---- from the fronts put together to the table

-- a text, and whether another is behind it
field_to : (ts ms ns ks us : Bytes) (first : Bytes) (second : Option Bytes) (a : WriteOp) → ts ≡ codes "put " ++ ms
    → TextRule ms first ns → Optional TextBehind ns second ks → a ≡ put_of first second → ks ≡ us → PartRule ts a us
unfolding TextBehind
field_to ts ms ns ks us first second a e h (inl s) is here =
    let t = s.first in
    inr (inr (inr (inl (record {
      value = tt;
      middle = ms;
      first = e;
      second = record {
        value = first;
        middle = ns;
        first = h;
        second = record {
          value = t.value;
          middle = t.middle;
          first = t.first;
          second =
              record {
                value = s.value;
                middle = s.middle;
                first = t.second;
                second = record { is = is ∙ ap (put_of first) s.second.is; here = s.second.here ∙ here };
              };
        };
      };
    }))))
field_to ts ms ns ks us first second a e h (inr s) is here =
    inr (inr (inl (record {
      value = tt;
      middle = ms;
      first = e;
      second = record {
        value = first;
        middle = ns;
        first = h;
        second = record { is = is ∙ ap (put_of first) s.is; here = s.here ∙ here };
      };
    })))

-- each thing that is put has its row
put_to : (ts ms us : Bytes) (a : WriteOp) → ts ≡ codes "put " ++ ms → PutValue ms a us → PartRule ts a us
put_to ts ms us a e (inl n) = inr (inl (record { value = tt; middle = ms; first = e; second = n }))
put_to ts ms us a e (inr (inl t)) = let o = t.second in field_to ts ms t.middle o.middle us t.value o.value a e t.first o.first o.second.is o.second.here
put_to ts ms us a e (inr (inr b)) = inl (record { value = tt; middle = ms; first = e; second = b })

-- the two words have their rows
put_or_push_to : (ts ms us : Bytes) (a : WriteOp) → ts ≡ codes "pu" ++ ms → Or Put Push ms a us → PartRule ts a us
put_or_push_to ts ms us a e (inl r) = put_to ts r.middle us a (e ∙ ap (λ xs. codes "pu" ++ xs) r.first) r.second
put_or_push_to ts ms us a e (inr r) =
    inr (inr (inr (inr (inr (inr (inl
    (record { value = tt; middle = r.middle; first = e ∙ ap (λ xs. codes "pu" ++ xs) r.first; second = r.second })))))))

-- both additions have theirs
addition_to : (ts ms us : Bytes) (a : WriteOp) → ts ≡ codes "add " ++ ms → Or (Of op.AddCounter NumberRule) (Of op.SetAdd TextRule) ms a us → PartRule ts a us
addition_to ts ms us a e (inl r) = inr (inr (inr (inr (inl (record { value = tt; middle = ms; first = e; second = r })))))
addition_to ts ms us a e (inr r) = inr (inr (inr (inr (inr (inl (record { value = tt; middle = ms; first = e; second = r }))))))

-- a raise and a removal have theirs
raise_or_remove_to : (ts ms us : Bytes) (a : WriteOp) → ts ≡ codes "r" ++ ms → Or Raise Remove ms a us → PartRule ts a us
raise_or_remove_to ts ms us a e (inl r) =
    inr (inr (inr (inr (inr (inr (inr (inl
    (record { value = tt; middle = r.middle; first = e ∙ ap (λ xs. codes "r" ++ xs) r.first; second = r.second }))))))))
raise_or_remove_to ts ms us a e (inr r) =
    inr (inr (inr (inr (inr (inr (inr (inr (inl
    (record { value = tt; middle = r.middle; first = e ∙ ap (λ xs. codes "r" ++ xs) r.first; second = r.second })))))))))

-- so each form has its row
part_to : (ts us : Bytes) (a : WriteOp) → Factored ts a us → PartRule ts a us
part_to ts us a (inl r) = put_or_push_to ts r.middle us a r.first r.second
part_to ts us a (inr (inl r)) = addition_to ts r.middle us a r.first r.second
part_to ts us a (inr (inr (inl r))) = raise_or_remove_to ts r.middle us a r.first r.second
part_to ts us a (inr (inr (inr r))) = inr (inr (inr (inr (inr (inr (inr (inr (inr r))))))))

-- ---- and back

-- a row of `put` is the front and what is put
put_from : (ts ms us : Bytes) (a : WriteOp) → ts ≡ codes "put " ++ ms → PutValue ms a us → Factored ts a us
put_from ts ms us a e v =
    inl (record {
      value = tt;
      middle = codes "t " ++ ms;
      first = e;
      second = inl (record { value = tt; middle = ms; first = refl; second = v });
    })

-- a text with none behind it, and one with another
text_from : (ts us : Bytes) (a : WriteOp) → Of op.PutText TextRule ts a us → TextOrField ts a us
text_from ts us a r =
    record {
      value = r.value;
      middle = r.middle;
      first = r.first;
      second = record { value = None; middle = r.middle; first = inr (record { is = refl; here = refl }); second = r.second };
    }

-- a field and a text are a text and another
field_from : (ts us : Bytes) (a : WriteOp) → FieldRule ts a us → TextOrField ts a us
unfolding TextBehind
field_from ts us a r =
    let s = r.second in
    let t = s.second in
    record {
      value = r.value;
      middle = r.middle;
      first = r.first;
      second = record {
        value = Some t.value;
        middle = t.middle;
        first =
            inl (record {
              value = t.value;
              middle = t.middle;
              first = record { value = s.value; middle = s.middle; first = s.first; second = t.first };
              second =
                  record { is = refl; here = refl };
            });
        second = t.second;
      };
    }

-- a row of `add`
addition_from : (ts ms us : Bytes) (a : WriteOp) → ts ≡ codes "add " ++ ms → Or (Of op.AddCounter NumberRule) (Of op.SetAdd TextRule) ms a us → Factored ts a us
addition_from ts ms us a e r = inr (inl (record { value = tt; middle = ms; first = e; second = r }))

-- a row of `push`
push_from : (ts ms us : Bytes) (a : WriteOp) → ts ≡ codes "push " ++ ms → Of op.ListPush TextRule ms a us → Factored ts a us
push_from ts ms us a e r =
    inl (record {
      value = tt;
      middle = codes "sh " ++ ms;
      first = e;
      second = inr (record { value = tt; middle = ms; first = refl; second = r });
    })

-- a row of `raise`
raise_from : (ts us : Bytes) (a : WriteOp) → Behind (codes "raise ") (Of op.Raise NumberRule) ts a us → Factored ts a us
raise_from ts us a r =
    inr (inr (inl (record {
      value = tt;
      middle = codes "aise " ++ r.middle;
      first = r.first;
      second = inl (record { value = tt; middle = r.middle; first = refl; second = r.second });
    })))

-- a row of `remove`, and the one of `clear`
remove_or_clear_from : (ts us : Bytes) (a : WriteOp) → RemoveOrClear op.SetRemove op.SetClear ts a us → Factored ts a us
remove_or_clear_from ts us a (inl r) =
    inr (inr (inl (record {
      value = tt;
      middle = codes "emove " ++ r.middle;
      first = r.first;
      second = inr (record { value = tt; middle = r.middle; first = refl; second = r.second });
    })))
remove_or_clear_from ts us a (inr r) = inr (inr (inr r))

-- so each row is a form
part_from : (ts us : Bytes) (a : WriteOp) → PartRule ts a us → Factored ts a us
part_from ts us a (inl r) = put_from ts r.middle us a r.first (inr (inr r.second))
part_from ts us a (inr (inl r)) = put_from ts r.middle us a r.first (inl r.second)
part_from ts us a (inr (inr (inl r))) = put_from ts r.middle us a r.first (inr (inl (text_from r.middle us a r.second)))
part_from ts us a (inr (inr (inr (inl r)))) = put_from ts r.middle us a r.first (inr (inl (field_from r.middle us a r.second)))
part_from ts us a (inr (inr (inr (inr (inl r))))) = addition_from ts r.middle us a r.first (inl r.second)
part_from ts us a (inr (inr (inr (inr (inr (inl r)))))) = addition_from ts r.middle us a r.first (inr r.second)
part_from ts us a (inr (inr (inr (inr (inr (inr (inl r))))))) = push_from ts r.middle us a r.first r.second
part_from ts us a (inr (inr (inr (inr (inr (inr (inr (inl r)))))))) = raise_from ts us a r
part_from ts us a (inr (inr (inr (inr (inr (inr (inr (inr r)))))))) = remove_or_clear_from ts us a r

-- parts are read as the table says
pub part_fits : Fits IsByte part PartRule no_more
part_fits = fits_as IsByte part_to part_from factored_fits

-- ---- beside an address

-- a number that is put or added
counter_part_fits : Fits IsByte counter_part (PartOf kinds.Counter) no_digit
unfolding counter_part
counter_part_fits =
    either_fits IsByte (sees 112) _ _ (Behind (codes "put ") (Of op.PutCounter NumberRule))
    (Behind (codes "add ") (Of op.AddCounter NumberRule)) no_digit
    (behind_fits (codes "put ") refl (seen IsByte op.PutCounter number_fits)) (behind_fits (codes "add ") refl (seen IsByte op.AddCounter number_fits))
    (λ ts us a r. ap (λ xs. sees 112 (next xs)) r.first)
    (λ ts us a r e. ap (λ xs. sees 112 (next xs)) r.first)

-- what a collection alone has, or what all have: a byte tells them apart
module _ (kind : Kind) (mark : ℕ) (own : Reader ℕ WriteOp) (Own : Rule ℕ WriteOp) (own_fits : Fits IsByte own Own any)
    (begins : (ts us : Bytes) (a : WriteOp) → Own ts a us → sees mark (next ts) ≡ true)
    (no_removal : sees mark (Some 114) ≡ false) (no_clear : sees mark (Some 99) ≡ false) where
  -- what the kind alone has begins with its mark, and a removal or a clear begins with another byte
  collection_fits : Fits IsByte (either (sees mark) own (remove_or_clear kind)) (Or Own (RemoveOrClear (removed kind) (cleared kind))) any
  collection_fits =
      either_fits IsByte (sees mark) own (remove_or_clear kind) Own (RemoveOrClear (removed kind) (cleared kind)) any own_fits
      (remove_or_clear_fits kind)
      begins (λ ts us a r e. remove_or_clear_apart (removed kind) (cleared kind) (sees mark) no_removal no_clear ts us a r)

-- sets
set_part_fits : Fits IsByte set_part (PartOf kinds.Set) any
unfolding set_part
set_part_fits =
    collection_fits kinds.Set 97 (behind (codes "add ") (of op.SetAdd text)) (Behind (codes "add ") (Of op.SetAdd TextRule))
    (behind_fits (codes "add ") refl (seen IsByte op.SetAdd text_fits))
    (λ ts us a r. ap (λ xs. sees 97 (next xs)) r.first) refl refl

-- a field and a text
field_fits : Fits IsByte field FieldRule any
unfolding field
field_fits = onwards IsByte text_fits (λ first. onwards IsByte (byte_fits 32 (omega arith)) (λ _. seen IsByte (op.HashPut first) text_fits))

-- hashes
hash_part_fits : Fits IsByte hash_part (PartOf kinds.Hash) any
unfolding hash_part
hash_part_fits = collection_fits kinds.Hash 112 (behind (codes "put ") field) (Behind (codes "put ") FieldRule) (behind_fits (codes "put ") refl field_fits)
    (λ ts us a r. ap (λ xs. sees 112 (next xs)) r.first) refl refl

-- lists
list_part_fits : Fits IsByte list_part (PartOf kinds.List) any
unfolding list_part
list_part_fits =
    collection_fits kinds.List 112 (behind (codes "push ") (of op.ListPush text))
    (Behind (codes "push ") (Of op.ListPush TextRule)) (behind_fits (codes "push ") refl (seen IsByte op.ListPush text_fits))
    (λ ts us a r. ap (λ xs. sees 112 (next xs)) r.first) refl refl

-- all that anything may follow may be followed by no digit
wide : {p : Reader ℕ WriteOp} {P : Rule ℕ WriteOp} → Fits IsByte p P any → Fits IsByte p P no_digit
wide fp = narrowed IsByte no_digit (λ h e. refl) fp

-- the kind decides
pub part_of_fits : (kind : Kind) → Fits IsByte (part_of kind) (PartOf kind) no_digit
unfolding bool_part text_part peak_part
part_of_fits kinds.Bool = wide (behind_fits (codes "put ") refl (seen IsByte op.PutBool bool_fits))
part_of_fits kinds.Counter = counter_part_fits
part_of_fits kinds.Text = wide (behind_fits (codes "put ") refl (seen IsByte op.PutText text_fits))
part_of_fits kinds.Set = wide set_part_fits
part_of_fits kinds.Hash = wide hash_part_fits
part_of_fits kinds.List = wide list_part_fits
part_of_fits kinds.Peak = behind_fits (codes "raise ") refl (seen IsByte op.Raise number_fits)
