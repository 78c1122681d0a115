-- Worked lines: deltas as bytes, and bytes that are no payload.
use Rattle.std.specs.Prelude.{◌≡◌, ℕ, pos, negsuc, Bool, true, false, List, [], ◌∷◌, ◌++◌, codes, Some, None, Err, refl}
use Rattle.std.proofs.Common.{ap}
use Rattle.std.specs.FinMap as map
use Rattle.plain_data.specs.Texts.{MapOf, text_cmp}
use Rattle.rdt_types.specs.declared.address.Kind.TheVariants as kind
use Rattle.rdt_types.specs.declared.delta.Delta.TheVariants as delta
use Rattle.rdt_types.specs.declared.mark.Mark.{Mark}
use Rattle.rdt_types.specs.declared.outcome.Outcome.TheVariants as outcome
use Rattle.rdt_types.specs.declared.mark.Mark.TheVariants as mark
use Rattle.rdt_types.specs.Keyed as keyed
use Rattle.rdt_types.specs.Listed as listed
use Rattle.txn_grammar.specs.declared.token.Token.TheVariants as token
use Rattle.txn_grammar.specs.Spellings.{reserved_word}
use Rattle.txn_grammar.specs.Lexer.{lex, token_at, word_at, word_token}
use Rattle.commit_file.specs.declared.version.Version.TheVariants as version
use Rattle.record_code.specs.Spelling.{truth_bytes, text_bytes, pair_bytes, list_bytes, nothing_bytes, mark_bytes}
use Rattle.record_code.specs.Spelling.{address_bytes, delta_bytes}
use Rattle.record_code.specs.Fields.{int_at, text_at, tag_at, pair_at, each_at, list_at}
use Rattle.record_code.specs.Reading.{suits_token, has_kinds, address_at, delta_of, delta_at, item_of, item_at, deltas_at}
use Rattle.record_code.specs.Payloads.{decoded}

-- ---- deltas as bytes

put_true : delta_bytes (delta.PutBool true) ≡ 0 ∷ 1 ∷ []
put_true = refl

put_seven : delta_bytes (delta.PutCounter (pos 7)) ≡ 1 ∷ 0 ∷ 0 ∷ 0 ∷ 0 ∷ 0 ∷ 0 ∷ 0 ∷ 7 ∷ []
put_seven = refl

-- 3 is taken away
add_less : delta_bytes (delta.AddCounter (negsuc 2)) ≡ 2 ∷ 255 ∷ 255 ∷ 255 ∷ 255 ∷ 255 ∷ 255 ∷ 255 ∷ 253 ∷ []
add_less = refl

put_text : delta_bytes (delta.PutText (codes "a")) ≡ 3 ∷ 0 ∷ 0 ∷ 0 ∷ 1 ∷ 97 ∷ []
put_text = refl

-- the element a is added
add_element : delta_bytes (delta.Set (keyed.of_parts false (map.from_sorted ((codes "a", true) ∷ []))))
    ≡ 4 ∷ 0 ∷ 0 ∷ 0 ∷ 0 ∷ 1 ∷ 0 ∷ 0 ∷ 0 ∷ 1 ∷ 97 ∷ 1 ∷ []
add_element =
    ap
    (λ (pairs : List (List ℕ × Bool)). 4 ∷ (truth_bytes false ++ list_bytes (pair_bytes text_bytes truth_bytes) pairs))
    (map.entries-from_sorted text_cmp ((codes "a", true) ∷ []) tt)

-- the field f is put to v
put_field : delta_bytes (delta.Hash (keyed.of_parts false (map.from_sorted ((codes "f", mark.Put (codes "v")) ∷ []))))
    ≡ 5 ∷ 0 ∷ 0 ∷ 0 ∷ 0 ∷ 1 ∷ 0 ∷ 0 ∷ 0 ∷ 1 ∷ 102 ∷ 1 ∷ 0 ∷ 0 ∷ 0 ∷ 1 ∷ 118 ∷ []
put_field =
    ap
    (λ (pairs : List (List ℕ × Mark)). 5 ∷ (truth_bytes false ++ list_bytes (pair_bytes text_bytes mark_bytes) pairs))
    (map.entries-from_sorted text_cmp ((codes "f", mark.Put (codes "v")) ∷ []) tt)

-- items a are taken out, and b is pushed
abbrev only_a : MapOf (Unit {0})
only_a = map.from_sorted ((codes "a", tt) ∷ [])

abbrev only_b : List (List ℕ)
only_b = codes "b" ∷ []

remove_and_push : delta_bytes (delta.List (listed.of_parts false only_a only_b))
    ≡ 6 ∷ 0 ∷ 0 ∷ 0 ∷ 0 ∷ 1 ∷ 0 ∷ 0 ∷ 0 ∷ 1 ∷ 97 ∷ 0 ∷ 0 ∷ 0 ∷ 1 ∷ 0 ∷ 0 ∷ 0 ∷ 1 ∷ 98 ∷ []
remove_and_push =
    ap
    (λ (pairs : List (List ℕ × Unit {0})).
    6 ∷ (truth_bytes false ++ list_bytes (pair_bytes text_bytes nothing_bytes) pairs ++ list_bytes text_bytes only_b))
    (map.entries-from_sorted text_cmp ((codes "a", tt) ∷ []) tt)

-- a peak is raised to 4
raise_to_four : delta_bytes (delta.Raise (pos 4)) ≡ 7 ∷ 0 ∷ 0 ∷ 0 ∷ 0 ∷ 0 ∷ 0 ∷ 0 ∷ 4 ∷ []
raise_to_four = refl

counter_x : address_bytes (record { kind = kind.Counter; key = codes "x" }) ≡ 1 ∷ 0 ∷ 0 ∷ 0 ∷ 1 ∷ 120 ∷ []
counter_x = refl

peak_p : address_bytes (record { kind = kind.Peak; key = codes "p" }) ≡ 6 ∷ 0 ∷ 0 ∷ 0 ∷ 1 ∷ 112 ∷ []
peak_p = refl

-- ---- and read

read_less : delta_at (2 ∷ 255 ∷ 255 ∷ 255 ∷ 255 ∷ 255 ∷ 255 ∷ 255 ∷ 253 ∷ []) ≡ Some (delta.AddCounter (negsuc 2), [])
unfolding delta_at delta_of tag_at int_at
read_less = refl

read_text : delta_at (3 ∷ 0 ∷ 0 ∷ 0 ∷ 1 ∷ 97 ∷ 9 ∷ []) ≡ Some (delta.PutText (codes "a"), 9 ∷ [])
unfolding delta_at delta_of tag_at text_at
read_text = refl

-- a raise to -2
read_raise : delta_at (7 ∷ 255 ∷ 255 ∷ 255 ∷ 255 ∷ 255 ∷ 255 ∷ 255 ∷ 254 ∷ []) ≡ Some (delta.Raise (negsuc 1), [])
unfolding delta_at delta_of tag_at int_at
read_raise = refl

read_peak : address_at version.Two (6 ∷ 0 ∷ 0 ∷ 0 ∷ 1 ∷ 112 ∷ []) ≡ Some
    (record { kind = kind.Peak; key = codes "p" }, [])
unfolding address_at tag_at text_at
read_peak = refl

-- there is no form 8, and no kind 7
no_form : delta_at (8 ∷ 0 ∷ []) ≡ None
unfolding delta_at tag_at
no_form = refl

no_kind : address_at version.Two (7 ∷ 0 ∷ 0 ∷ 0 ∷ 0 ∷ []) ≡ None
unfolding address_at tag_at
no_kind = refl

-- ---- without the newest kind

-- in version 1 there is no kind 6
no_peak : address_at version.One (6 ∷ 0 ∷ 0 ∷ 0 ∷ 0 ∷ []) ≡ None
unfolding address_at tag_at
no_peak = refl

-- and so no raise, since no address has its kind
no_raise : deltas_at version.One (outcome.Ok [])
    (0 ∷ 0 ∷ 0 ∷ 1 ∷ 1 ∷ 0 ∷ 0 ∷ 0 ∷ 1 ∷ 120 ∷ 7 ∷ 0 ∷ 0 ∷ 0 ∷ 0 ∷ 0 ∷ 0 ∷ 0 ∷ 4 ∷ []) ≡ None
unfolding list_at each_at pair_at address_at delta_at delta_of tag_at text_at int_at
no_raise = refl

-- nor a body with its word
no_peak-in-body : has_kinds version.One (codes "peak(\"b\").raise(1);") ≡ false
unfolding lex token_at word_at word_token reserved_word
no_peak-in-body = refl

-- a text in quotes is no word
peak-in-quotes : suits_token version.One (token.Text (codes "peak")) ≡ true
peak-in-quotes = refl

-- a truth value of 2 is none
no_truth : item_at (1 ∷ 2 ∷ []) ≡ None
unfolding item_at item_of tag_at
no_truth = refl

-- ---- bytes that are no payload

-- none at all, and a number of 0
no_bytes : decoded version.Two [] ≡ Err 0
unfolding decoded
no_bytes = refl

number_of_zero : decoded version.Two (0 ∷ 0 ∷ 0 ∷ 0 ∷ 0 ∷ 0 ∷ 0 ∷ 0 ∷ 0 ∷ 0 ∷ 0 ∷ 0 ∷ []) ≡ Err 0
unfolding decoded
number_of_zero = refl

-- the client 4,000,000,000 stands behind the eight bytes of the number
untold_client : decoded version.Two (0 ∷ 0 ∷ 0 ∷ 0 ∷ 0 ∷ 0 ∷ 0 ∷ 1 ∷ 238 ∷ 107 ∷ 40 ∷ 0 ∷ []) ≡ Err 8
unfolding decoded
untold_client = refl

-- a seq of 0 stands behind these and the four of the client
seq_of_zero : decoded version.Two
    (0 ∷ 0 ∷ 0 ∷ 0 ∷ 0 ∷ 0 ∷ 0 ∷ 1 ∷ 0 ∷ 0 ∷ 0 ∷ 9 ∷ 0 ∷ 0 ∷ 0 ∷ 0 ∷ 0 ∷ 0 ∷ 0 ∷ 0 ∷ []) ≡ Err 12
unfolding decoded
seq_of_zero = refl

-- and a body whose length passes the end behind the seq
body_too_short : decoded version.Two
    (0 ∷ 0 ∷ 0 ∷ 0 ∷ 0 ∷ 0 ∷ 0 ∷ 1 ∷ 0 ∷ 0 ∷ 0 ∷ 9 ∷ 0 ∷ 0 ∷ 0 ∷ 0 ∷ 0 ∷ 0 ∷ 0 ∷ 1 ∷ 0 ∷ 0 ∷ 0 ∷ 2 ∷ 97 ∷ []) ≡ Err 20
unfolding decoded text_at
body_too_short = refl
