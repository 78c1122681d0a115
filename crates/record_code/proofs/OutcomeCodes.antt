-- Outcomes and what bodies emit are read as they are written.
use Rattle.std.proofs.Common.{◌≡◌, ℕ, ◌^◌, ◌<◌, true, false, List, [], ◌∷◌, ◌++◌, Some, refl, subst, arith}
use Rattle.rdt_types.specs.declared.outcome.Item.{Item}
use Rattle.rdt_types.specs.declared.outcome.Item.TheVariants as item
use Rattle.rdt_types.specs.declared.outcome.Outcome.{Outcome}
use Rattle.rdt_types.specs.declared.outcome.Outcome.TheVariants as outcome
use Rattle.txn_lang.specs.declared.limits.TheConstants.{TEXT_LIMIT}
use Rattle.record_code.specs.declared.tags.ItemTag.{ItemTag}
use Rattle.record_code.specs.declared.tags.ItemTag.TheVariants as items
use Rattle.record_code.specs.declared.tags.OutcomeTag.{OutcomeTag}
use Rattle.record_code.specs.declared.tags.OutcomeTag.TheVariants as outcomes
use Rattle.record_code.specs.declared.tags.TheConstants.{ITEM_TAGS, OUTCOME_TAGS}
use Rattle.record_code.specs.Spelling.{text_bytes, item_bytes, outcome_bytes}
use Rattle.record_code.specs.Fields.{tag_at}
use Rattle.record_code.specs.Reading.{short_at, item_of, item_at, outcome_of, outcome_at}
use Rattle.record_code.specs.Forms.{IsShort, HasShortTexts, IsShortOutcome}
use Rattle.record_code.specs.Room.{ItemHasRoom, OutcomeHasRoom}
use Rattle.record_code.proofs.Codes.{IsBytes, IsCode, some_is, all_map, all_both, text_code, int_code, truth_code}
use Rattle.record_code.proofs.Codes.{list_code, tagged, variant}

limit_short : TEXT_LIMIT < 2 ^ 32
limit_short = let is : TEXT_LIMIT ≡ 1024 = refl in omega (arith, is)

-- texts of the length that texts may have
pub short_code : IsCode IsShort text_bytes short_at
short_code = text_code TEXT_LIMIT limit_short

-- ---- what is emitted

abbrev pub IsItem : Item → Type 0
IsItem x = HasShortTexts x × ItemHasRoom x

abbrev type_byte : ItemTag → ℕ
type_byte items.Int = 0
type_byte items.Bool = 1
type_byte items.Text = 2
type_byte items.Texts = 3

item_again : (x : Item) (rest : List ℕ) → IsItem x → item_at (item_bytes x ++ rest) ≡ Some (x, rest)
unfolding item_at item_of tag_at
item_again (item.Int n) rest h = rw (int_code.again n rest h.1) refl
item_again (item.Bool true) rest h = refl
item_again (item.Bool false) rest h = refl
item_again (item.Text text) rest h = rw (short_code.again text rest h.0) refl
item_again (item.Texts texts) rest h = rw ((list_code short_code).again texts rest (h.1, h.0)) refl

item_of_takes : (tag : ItemTag) (rest : List ℕ) (z : Item × List ℕ) → IsBytes rest → item_of tag rest ≡ Some z
    → IsItem z.0 × ((type_byte tag ∷ []) ++ rest ≡ item_bytes z.0 ++ z.1)
unfolding item_of
item_of_takes items.Int rest z fits e = variant int_code IsItem item_bytes (0 ∷ []) item.Int (λ n. refl)
    (λ n h. (tt, h)) rest z fits e
item_of_takes items.Bool rest z fits e = variant truth_code IsItem item_bytes (1 ∷ []) item.Bool (λ b. refl)
    (λ b h. (tt, tt)) rest z fits e
item_of_takes items.Text rest z fits e = variant short_code IsItem item_bytes (2 ∷ []) item.Text (λ t. refl)
    (λ t h. (h, tt)) rest z fits e
item_of_takes items.Texts rest z fits e =
    variant (list_code short_code) IsItem item_bytes (3 ∷ []) item.Texts (λ ts. refl) (λ ts h. (h.1, h.0)) rest z fits e

item_takes : (bytes : List ℕ) (z : Item × List ℕ) → IsBytes bytes → item_at bytes ≡ Some z → IsItem z.0
    × (bytes ≡ item_bytes z.0 ++ z.1)
unfolding item_at
item_takes bytes z fits e = tagged type_byte ITEM_TAGS refl IsItem item_bytes item_of item_of_takes bytes z fits e

pub item_code : IsCode IsItem item_bytes item_at
item_code = record { again = item_again; takes = item_takes }

-- ---- outcomes

abbrev pub IsOutcome : Outcome → Type 0
IsOutcome x = IsShortOutcome x × OutcomeHasRoom x

abbrev end_byte : OutcomeTag → ℕ
end_byte outcomes.Ok = 0
end_byte outcomes.Fail = 1
end_byte outcomes.Spent = 2
end_byte outcomes.Big = 3

outcome_again : (x : Outcome) (rest : List ℕ) → IsOutcome x → outcome_at (outcome_bytes x ++ rest) ≡ Some (x, rest)
unfolding outcome_at outcome_of tag_at
outcome_again (outcome.Ok xs) rest h =
    rw ((list_code item_code).again xs rest (h.1.0, all_both HasShortTexts ItemHasRoom xs h.0 h.1.1)) refl
outcome_again (outcome.Fail reason) rest h = rw (short_code.again reason rest h.0) refl
outcome_again outcome.Spent rest h = refl
outcome_again outcome.Big rest h = refl

outcome_of_takes : (tag : OutcomeTag) (rest : List ℕ) (z : Outcome × List ℕ) → IsBytes rest
    → outcome_of tag rest ≡ Some z
    → IsOutcome z.0 × ((end_byte tag ∷ []) ++ rest ≡ outcome_bytes z.0 ++ z.1)
unfolding outcome_of
outcome_of_takes outcomes.Ok rest z fits e =
    variant (list_code item_code) IsOutcome outcome_bytes (0 ∷ []) outcome.Ok (λ xs. refl)
    (λ xs h. (
      all_map IsItem HasShortTexts (λ x i. i.0) xs h.1,
      (h.0, all_map IsItem ItemHasRoom (λ x i. i.1) xs h.1),
    )) rest z fits e
outcome_of_takes outcomes.Fail rest z fits e =
    variant short_code IsOutcome outcome_bytes (1 ∷ []) outcome.Fail (λ t. refl) (λ t h. (h, tt)) rest z fits e
outcome_of_takes outcomes.Spent rest z fits e =
    subst (λ (y : Outcome × List ℕ). IsOutcome y.0 × ((2 ∷ []) ++ rest ≡ outcome_bytes y.0 ++ y.1))
    (some_is (outcome.Spent, rest) z e) ((tt, tt), refl)
outcome_of_takes outcomes.Big rest z fits e =
    subst (λ (y : Outcome × List ℕ). IsOutcome y.0 × ((3 ∷ []) ++ rest ≡ outcome_bytes y.0 ++ y.1))
    (some_is (outcome.Big, rest) z e) ((tt, tt), refl)

outcome_takes : (bytes : List ℕ) (z : Outcome × List ℕ) → IsBytes bytes → outcome_at bytes ≡ Some z
    → IsOutcome z.0 × (bytes ≡ outcome_bytes z.0 ++ z.1)
unfolding outcome_at
outcome_takes bytes z fits e =
    tagged end_byte OUTCOME_TAGS refl IsOutcome outcome_bytes outcome_of outcome_of_takes bytes z fits e

pub outcome_code : IsCode IsOutcome outcome_bytes outcome_at
outcome_code = record { again = outcome_again; takes = outcome_takes }
