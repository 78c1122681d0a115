-- What is printed is a spelling of its value.
use Rattle.std.proofs.Common.{◌≡◌, ◌<◌, ◌≤◌, ◌+◌, ◌-◌, ◌/◌, ◌%◌, ℕ, ℤ, Bool, true, false, ◌&&◌, ◌||◌, List, [], ◌∷◌}
use Rattle.std.proofs.Common.{◌++◌, Some, None, refl, ap, sym, ◌∙◌, subst, arith, inl, inr, cond, codes, nat_eq, nat_le}
use Rattle.std.proofs.Common.{nat_lt, append_assoc}
use Rattle.std.proofs.lemmas.Bool.Decides.{nat_tests}
use Rattle.std.specs.List.{flat_map, All}
use Rattle.std.proofs.lemmas.List.Elements.{All-head, All-tail}
use Rattle.std.specs.Fmt.{signed_decimal}
use Rattle.predictive_parsing.specs.Rules.{Rule, Many, none, more, Of, Behind}
use Rattle.predictive_parsing.proofs.Words.{byte_made}
use Rattle.plain_data.specs.Texts.{Bytes}
use Rattle.rdt_types.specs.declared.address.Address.{Address}
use Rattle.rdt_types.specs.declared.outcome.Item.{Item}
use Rattle.rdt_types.specs.declared.outcome.Item.TheVariants as items
use Rattle.rdt_types.specs.declared.outcome.Outcome.{Outcome}
use Rattle.rdt_types.specs.declared.outcome.Outcome.TheVariants as outcomes
use Rattle.rdt_types.specs.declared.operation.WriteOp.{WriteOp}
use Rattle.rdt_types.specs.declared.operation.WriteOp.TheVariants as op
use Rattle.rdt_types.specs.declared.printed.Spelling.TheVariants as spelling
use Rattle.rdt_types.specs.Values.{kind_written}
use Rattle.rdt_types.specs.Printed.{word_of, hex_digit, spelling_of, spelled, printed_text, printed_address}
use Rattle.dtext.specs.Printing.{printed_bool, separated, printed_texts, printed_item, printed_outcome, printed_part}
use Rattle.dtext.specs.Printing as print
use Rattle.dtext.specs.Characters.{is_digit}
use Rattle.dtext.specs.Spellings.{is_plain, plain, short, hex_value, hex_byte, Piece, TextRule, Fits64, NumberRule}
use Rattle.dtext.specs.Spellings.{BoolRule, AfterComma, Separated, TextsRule, AddressRule, ItemRule, AfterSpace}
use Rattle.dtext.specs.Spellings.{OutcomeRule, FieldRule, RemoveOrClear, PartRule, PartOf}
use Rattle.dtext.specs.ReadBack.{FitsItem, FitsOutcome, FitsPart, read_alone}

-- ---- one byte of a text

-- a decimal digit and a letter, each by its value
digit_read : (b n : ℕ) → b ≡ 48 + n → n < 10 → hex_value b ≡ Some n
digit_read b n e h =
    let t : is_digit b ≡ true = grind (arith, nat_tests, e, h) in
    ap (λ c. cond c (Some (b - 48)) (cond (nat_le 97 b && nat_le b 102) (Some (b - 87)) None)) t ∙ ap (λ m. Some m) (omega arith)

-- a letter from `a` to `f`, by its value
letter_read : (b n : ℕ) → b ≡ 87 + n → 10 ≤ n → n < 16 → hex_value b ≡ Some n
letter_read b n e l h =
    let f : is_digit b ≡ false = grind (arith, nat_tests, e, l) in
    let t : nat_le 97 b && nat_le b 102 ≡ true = grind (arith, nat_tests, e, l, h) in
    ap (λ c. cond c (Some (b - 48)) (cond (nat_le 97 b && nat_le b 102) (Some (b - 87)) None)) f
    ∙ ap (λ c. cond c (Some (b - 87)) None) t ∙ ap (λ m. Some m) (omega arith)

-- by whether it is a decimal digit
hex_by : (n : ℕ) (t : Bool) → nat_lt n 10 ≡ t → n < 16 → hex_value (cond t (48 + n) (87 + n)) ≡ Some n
hex_by n true e h = digit_read (48 + n) n refl (grind (arith, nat_tests, e))
hex_by n false e h = letter_read (87 + n) n refl (grind (arith, nat_tests, e)) h

-- a hexadecimal digit is read as its value
hex_read : (n : ℕ) → n < 16 → hex_value (hex_digit n) ≡ Some n
hex_read n h = hex_by n (nat_lt n 10) refl h

-- the two digits of a byte
hex_pair : (b : ℕ) → hex_byte (b / 16) (b % 16) ≡ b
hex_pair b = omega arith

-- a byte by its two digits
hexadecimal_made : (b : ℕ) (us : Bytes) → b < 256 → Piece (spelled (spelling.Hexadecimal (hex_digit (b / 16)) (hex_digit (b % 16))) ++ us) b us
hexadecimal_made b us h = inl (record {
  value = tt;
  middle = 120 ∷ hex_digit (b / 16) ∷ hex_digit (b % 16) ∷ us;
  first = byte_made 92 _;
  second = inl (record {
    value = tt;
    middle = hex_digit (b / 16) ∷ hex_digit (b % 16) ∷ us;
    first = byte_made 120 _;
    second = record {
      value = b / 16;
      middle = hex_digit (b % 16) ∷ us;
      first = record { item = hex_digit (b / 16); first = refl; made = hex_read (b / 16) (omega arith) };
      second =
          record {
            value = b % 16;
            middle = us;
            first = record { item = hex_digit (b % 16); first = refl; made = hex_read (b % 16) (omega arith) };
            second =
                record { is = sym (hex_pair b); here = refl };
          };
    };
  });
})

-- a byte behind a backslash
escaped_made : (c b : ℕ) (us : Bytes) → short c ≡ Some b → Piece (spelled (spelling.Escaped c) ++ us) b us
escaped_made c b us h = inl (record { value = tt; middle = c ∷ us; first = byte_made 92 _; second = inr (record { item = c; first = refl; made = h }) })

-- a byte as itself
plain_made : (b : ℕ) (us : Bytes) → plain b ≡ Some b → Piece (spelled (spelling.Plain b) ++ us) b us
plain_made b us h = inr (record { item = b; first = refl; made = h })

-- a newline is printed as `n`
newline : (b : ℕ) → nat_eq b 10 ≡ true → short 110 ≡ Some b
newline b e = let k : b ≡ 10 = grind (arith, nat_tests, e) in ap (λ m. Some m) (sym k)

-- what is printed by digits is a byte
control_small : (b : ℕ) → nat_lt b 32 || nat_eq b 127 ≡ true → b < 256
control_small b e = grind (arith, nat_tests, e)

-- what needs no escape is plain
other_plain : (b : ℕ) → nat_eq b 34 || nat_eq b 92 ≡ false → nat_lt b 32 || nat_eq b 127 ≡ false → is_plain b ≡ true
other_plain b q h = grind (arith, nat_tests, q, h)

-- by the tests that tell how a byte is printed
piece_by : (b : ℕ) (us : Bytes) (quoted newline_is control : Bool) → nat_eq b 34 || nat_eq b 92 ≡ quoted
    → nat_eq b 10 ≡ newline_is → nat_lt b 32 || nat_eq b 127 ≡ control
    → Piece (spelled (cond quoted (spelling.Escaped b)
    (cond newline_is (spelling.Escaped 110)
    (cond control (spelling.Hexadecimal (hex_digit (b / 16)) (hex_digit (b % 16))) (spelling.Plain b)))) ++ us) b us
piece_by b us true n c q e h = escaped_made b b us (ap (λ t. cond t (Some b) (cond (nat_eq b 110) (Some 10) None)) q)
piece_by b us false true c q e h = escaped_made 110 b us (newline b e)
piece_by b us false false true q e h = hexadecimal_made b us (control_small b h)
piece_by b us false false false q e h = plain_made b us (ap (λ t. cond t (Some b) None) (other_plain b q h))

-- each byte as it is printed
piece_made : (b : ℕ) (us : Bytes) → Piece (spelled (spelling_of b) ++ us) b us
piece_made b us = piece_by b us (nat_eq b 34 || nat_eq b 92) (nat_eq b 10) (nat_lt b 32 || nat_eq b 127) refl refl refl

-- ---- texts

-- the bytes of a text
pieces_made : (text us : Bytes) → Many Piece (flat_map (λ byte. spelled (spelling_of byte)) text ++ us) text us
pieces_made [] us = none us
pieces_made (b ∷ text) us =
    let rest = flat_map (λ byte. spelled (spelling_of byte)) text in
    subst (λ ts. Many Piece ts (b ∷ text) us) (sym (append_assoc (spelled (spelling_of b)) rest us))
    (more (spelled (spelling_of b) ++ (rest ++ us)) (rest ++ us) us b text (piece_made b (rest ++ us)) (pieces_made text us))

-- a text in quotes
pub text_made : (text us : Bytes) → TextRule (printed_text text ++ us) text us
text_made text us =
    let inner = flat_map (λ byte. spelled (spelling_of byte)) text in
    record {
      value = tt;
      middle = inner ++ (34 ∷ us);
      first = record { item = 34; first = ap (λ xs. 34 ∷ xs) (append_assoc inner (34 ∷ []) us); made = refl };
      second =
          record {
            value = text;
            middle = 34 ∷ us;
            first = pieces_made text (34 ∷ us);
            second = record { value = tt; middle = us; first = byte_made 34 us; second = record { is = refl; here = refl } };
          };
    }

-- a text, seen as another value
text_of : {A : Type 0} (f : Bytes → A) (text us : Bytes) → Of f TextRule (printed_text text ++ us) (f text) us
text_of f text us = record { value = text; middle = us; first = text_made text us; second = record { is = refl; here = refl } }

-- ---- addresses

-- an address
pub address_made : (a : Address) (us : Bytes) → AddressRule (printed_address a ++ us) a us
address_made a us = record {
  value = a.kind;
  middle = 40 ∷ (printed_text a.key ++ 41 ∷ us);
  first = append_assoc (word_of a.kind) (40 ∷ (printed_text a.key ++ 41 ∷ [])) us
      ∙ ap (λ xs. word_of a.kind ++ 40 ∷ xs) (append_assoc (printed_text a.key) (41 ∷ []) us);
  second = record {
    value = tt;
    middle = printed_text a.key ++ 41 ∷ us;
    first = byte_made 40 _;
    second =
        record {
          value = a.key;
          middle = 41 ∷ us;
          first = text_made a.key (41 ∷ us);
          second = record { value = tt; middle = us; first = byte_made 41 us; second = record { is = refl; here = refl } };
        };
  };
}

-- ---- texts in brackets

-- a text behind a comma
after_comma_made : (text us : Bytes) → AfterComma (print.after_comma text ++ us) text us
after_comma_made text us = record { value = tt; middle = printed_text text ++ us; first = byte_made 44 _; second = text_made text us }

-- any number of them
more_texts_made : (texts : List Bytes) (us : Bytes) → Many AfterComma (flat_map print.after_comma texts ++ us) texts us
more_texts_made [] us = none us
more_texts_made (text ∷ texts) us =
    let rest = flat_map print.after_comma texts in
    subst (λ ts. Many AfterComma ts (text ∷ texts) us) (sym (append_assoc (print.after_comma text) rest us))
    (more (print.after_comma text ++ (rest ++ us)) (rest ++ us) us text texts (after_comma_made text (rest ++ us)) (more_texts_made texts us))

-- texts with commas between them
separated_made : (texts : List Bytes) (us : Bytes) → Separated (separated texts ++ us) texts us
separated_made [] us = inr (record { is = refl; here = refl })
separated_made (text ∷ texts) us =
    let rest = flat_map print.after_comma texts in
    inl (record {
      value = (text, texts);
      middle = us;
      first = record {
        value = text;
        middle = rest ++ us;
        first = subst (λ ts. TextRule ts text (rest ++ us)) (sym (append_assoc (printed_text text) rest us)) (text_made text (rest ++ us));
        second = record { value = texts; middle = us; first = more_texts_made texts us; second = record { is = refl; here = refl } };
      };
      second = record { is = refl; here = refl };
    })

-- texts in brackets
texts_made : (texts : List Bytes) (us : Bytes) → TextsRule (printed_texts texts ++ us) texts us
texts_made texts us = record {
  value = tt;
  middle = separated texts ++ 93 ∷ us;
  first = record { item = 91; first = ap (λ xs. 91 ∷ xs) (append_assoc (separated texts) (93 ∷ []) us); made = refl };
  second =
      record {
        value = texts;
        middle = 93 ∷ us;
        first = separated_made texts (93 ∷ us);
        second = record { value = tt; middle = us; first = byte_made 93 us; second = record { is = refl; here = refl } };
      };
}

-- ---- values

-- a truth value, seen as another value
bool_of : {A : Type 0} (f : Bool → A) (b : Bool) (us : Bytes) → Of f BoolRule (printed_bool b ++ us) (f b) us
bool_of f b us = record { value = b; middle = us; first = refl; second = record { is = refl; here = refl } }

-- a number, seen as another value
number_of : {A : Type 0} (f : ℤ → A) (n : ℤ) (us : Bytes) → Fits64 n → Of f NumberRule (signed_decimal n ++ us) (f n) us
number_of f n us h = record { value = n; middle = us; first = record { spelled = refl; fits = h }; second = record { is = refl; here = refl } }

-- a value of any type
pub item_made : (i : Item) (us : Bytes) → FitsItem i → ItemRule (printed_item i ++ us) i us
item_made (items.Int n) us h = inl (number_of items.Int n us h)
item_made (items.Text t) us h = inr (inl (text_of items.Text t us))
item_made (items.Texts texts) us h =
    inr (inr (inl (record {
      value = texts;
      middle = us;
      first = texts_made texts us;
      second = record { is = refl; here = refl };
    })))
item_made (items.Bool b) us h = inr (inr (inr (bool_of items.Bool b us)))

-- ---- outcomes

-- a value behind a space
after_space_made : (i : Item) (us : Bytes) → FitsItem i → AfterSpace (print.after_space i ++ us) i us
after_space_made i us h = record { value = tt; middle = printed_item i ++ us; first = byte_made 32 _; second = item_made i us h }

-- any number of them
emitted_made : (all : List Item) (us : Bytes) → All FitsItem all → Many AfterSpace (flat_map print.after_space all ++ us) all us
emitted_made [] us h = none us
emitted_made (i ∷ all) us h =
    let rest = flat_map print.after_space all in
    subst (λ ts. Many AfterSpace ts (i ∷ all) us) (sym (append_assoc (print.after_space i) rest us))
    (more (print.after_space i ++ (rest ++ us)) (rest ++ us) us i all
    (after_space_made i (rest ++ us) (All-head FitsItem i all h)) (emitted_made all us (All-tail FitsItem i all h)))

-- an outcome of any form
pub outcome_made : (o : Outcome) (us : Bytes) → FitsOutcome o → OutcomeRule (printed_outcome o ++ us) o us
outcome_made (outcomes.Ok all) us h =
    inl (record {
      value = tt;
      middle = flat_map print.after_space all ++ us;
      first = refl;
      second = record { value = all; middle = us; first = emitted_made all us h; second = record { is = refl; here = refl } };
    })
outcome_made (outcomes.Fail reason) us h =
    inr (inl (record { value = tt; middle = printed_text reason ++ us; first = refl; second = text_of outcomes.Fail reason us }))
outcome_made outcomes.Spent us h = inr (inr (inl (record { value = tt; middle = us; first = refl; second = record { is = refl; here = refl } })))
outcome_made outcomes.Big us h = inr (inr (inr (record { value = tt; middle = us; first = refl; second = record { is = refl; here = refl } })))

-- ---- parts

-- what stands behind a word
behind_word : {A : Type 0} (w : Bytes) (P : Rule ℕ A) (ts us : Bytes) (a : A) → P ts a us → Behind w P (w ++ ts) a us
behind_word w P ts us a r = record { value = tt; middle = ts; first = refl; second = r }

-- a removal
removal_made : (removed : Bytes → WriteOp) (cleared : WriteOp) (x us : Bytes)
    → RemoveOrClear removed cleared (codes "remove " ++ (printed_text x ++ us)) (removed x) us
removal_made removed cleared x us = inl (behind_word (codes "remove ") (Of removed TextRule) (printed_text x ++ us) us (removed x) (text_of removed x us))

-- a clear
clearing_made : (removed : Bytes → WriteOp) (cleared : WriteOp) (us : Bytes) → RemoveOrClear removed cleared (codes "clear" ++ us) cleared us
clearing_made removed cleared us = inr (record { value = tt; middle = us; first = refl; second = record { is = refl; here = refl } })

-- what all collections have is a set's where no kind is known
shared_made : (ts us : Bytes) (a : WriteOp) → RemoveOrClear op.SetRemove op.SetClear ts a us → PartRule ts a us
shared_made ts us a r = inr (inr (inr (inr (inr (inr (inr (inr r)))))))

-- a field and a text
field_made : (f t us : Bytes) → FieldRule ((printed_text f ++ 32 ∷ printed_text t) ++ us) (op.HashPut f t) us
field_made f t us = record {
  value = f;
  middle = 32 ∷ (printed_text t ++ us);
  first =
      subst (λ ts. TextRule ts f (32 ∷ (printed_text t ++ us))) (sym (append_assoc (printed_text f) (32 ∷ printed_text t) us))
      (text_made f (32 ∷ (printed_text t ++ us)));
  second =
      record {
        value = tt;
        middle = printed_text t ++ us;
        first = byte_made 32 _;
        second = record { value = t; middle = us; first = text_made t us; second = record { is = refl; here = refl } };
      };
}

-- a part of any form
pub part_made : (o : WriteOp) (us : Bytes) → FitsPart o → PartRule (printed_part o ++ us) (read_alone o) us
part_made (op.PutBool b) us h = inl (behind_word (codes "put ") _ _ us _ (bool_of op.PutBool b us))
part_made (op.PutCounter n) us h = inr (inl (behind_word (codes "put ") _ _ us _ (number_of op.PutCounter n us h)))
part_made (op.AddCounter n) us h = inr (inr (inr (inr (inl (behind_word (codes "add ") _ _ us _ (number_of op.AddCounter n us h))))))
part_made (op.PutText t) us h = inr (inr (inl (behind_word (codes "put ") _ _ us _ (text_of op.PutText t us))))
part_made (op.SetAdd x) us h = inr (inr (inr (inr (inr (inl (behind_word (codes "add ") _ _ us _ (text_of op.SetAdd x us)))))))
part_made (op.SetRemove x) us h = shared_made _ us _ (removal_made op.SetRemove op.SetClear x us)
part_made op.SetClear us h = shared_made _ us _ (clearing_made op.SetRemove op.SetClear us)
part_made (op.HashPut f t) us h = inr (inr (inr (inl (behind_word (codes "put ") _ _ us _ (field_made f t us)))))
part_made (op.HashRemove f) us h = shared_made _ us _ (removal_made op.SetRemove op.SetClear f us)
part_made op.HashClear us h = shared_made _ us _ (clearing_made op.SetRemove op.SetClear us)
part_made (op.ListPush x) us h = inr (inr (inr (inr (inr (inr (inl (behind_word (codes "push ") _ _ us _ (text_of op.ListPush x us))))))))
part_made (op.ListRemove x) us h = shared_made _ us _ (removal_made op.SetRemove op.SetClear x us)
part_made op.ListClear us h = shared_made _ us _ (clearing_made op.SetRemove op.SetClear us)
part_made (op.Raise n) us h =
    inr (inr (inr (inr (inr (inr (inr (inl (behind_word (codes "raise ") _ _ us _ (number_of op.Raise n us h)))))))))

-- a part of any form, beside an address of its kind
pub part_of_made : (o : WriteOp) (us : Bytes) → FitsPart o → PartOf (kind_written o) (printed_part o ++ us) o us
part_of_made (op.PutBool b) us h = behind_word (codes "put ") _ _ us _ (bool_of op.PutBool b us)
part_of_made (op.PutCounter n) us h = inl (behind_word (codes "put ") _ _ us _ (number_of op.PutCounter n us h))
part_of_made (op.AddCounter n) us h = inr (behind_word (codes "add ") _ _ us _ (number_of op.AddCounter n us h))
part_of_made (op.PutText t) us h = behind_word (codes "put ") _ _ us _ (text_of op.PutText t us)
part_of_made (op.SetAdd x) us h = inl (behind_word (codes "add ") _ _ us _ (text_of op.SetAdd x us))
part_of_made (op.SetRemove x) us h = inr (removal_made op.SetRemove op.SetClear x us)
part_of_made op.SetClear us h = inr (clearing_made op.SetRemove op.SetClear us)
part_of_made (op.HashPut f t) us h = inl (behind_word (codes "put ") _ _ us _ (field_made f t us))
part_of_made (op.HashRemove f) us h = inr (removal_made op.HashRemove op.HashClear f us)
part_of_made op.HashClear us h = inr (clearing_made op.HashRemove op.HashClear us)
part_of_made (op.ListPush x) us h = inl (behind_word (codes "push ") _ _ us _ (text_of op.ListPush x us))
part_of_made (op.ListRemove x) us h = inr (removal_made op.ListRemove op.ListClear x us)
part_of_made op.ListClear us h = inr (clearing_made op.ListRemove op.ListClear us)
part_of_made (op.Raise n) us h = behind_word (codes "raise ") _ _ us _ (number_of op.Raise n us h)
