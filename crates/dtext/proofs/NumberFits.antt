-- The reader of numbers reads what their rule derives.
use Rattle.std.proofs.Common.{◌≡◌, ◌<◌, ◌≤◌, ◌+◌, ◌-◌, ◌*◌, ◌^◌, ℕ, zero, suc, ℤ, pos, negsuc, neg_ℤ, Bool, true, false}
use Rattle.std.proofs.Common.{◌&&◌, ◌||◌, ◌⊎◌, [], ◌∷◌, ◌++◌, drop, Option, Some, None, Ok, Err, refl, ap, sym, ◌∙◌}
use Rattle.std.proofs.Common.{subst, arith, cond, inl, inr, nat_eq, nat_le}
use Rattle.std.proofs.lemmas.Bool.Decides.{nat_tests}
use Rattle.std.proofs.lemmas.List.Elements.{All-nil}
use Rattle.std.specs.Fmt.{decimal}
use Rattle.std.specs.Char.{digit_value}
use Rattle.std.specs.Str.Parse.{AllDigits, digits_value_after}
use Rattle.predictive_parsing.specs.Reading.{next, ahead, of, one}
use Rattle.predictive_parsing.specs.Rules.{Rule, One, Then, Pure, Or, Of}
use Rattle.predictive_parsing.specs.Fits.{Fits, Taken, any}
use Rattle.predictive_parsing.proofs.Basic.{bool_cases, both, not_true, ok_pair}
use Rattle.predictive_parsing.specs.Reads.{made_of}
use Rattle.predictive_parsing.specs.Bytes.{IsByte, Byte, sees}
use Rattle.predictive_parsing.specs.Digits.{with_digit}
use Rattle.predictive_parsing.proofs.Words.{byte_fits, byte_taken, byte_begins}
use Rattle.predictive_parsing.proofs.Combined.{fits_as, one_fits, onwards, either_fits, seen, narrowed}
use Rattle.plain_data.specs.Texts.{Bytes}
use Rattle.dtext.specs.declared.number.TheConstants.{MOST, LEAST}
use Rattle.dtext.specs.Characters.{is_digit}
use Rattle.dtext.specs.Follows.{no_digit}
use Rattle.dtext.specs.Spellings.{NaturalRule, PositiveRule, NumberRule}
use Rattle.dtext.specs.code.Reading.{leading, more, digits, positive, zero_read, natural, negative, number, begins_number}
use Rattle.dtext.proofs.Digits.{digit_worth, digit_below, digit_of, with_digit_worth, digits_value_after-ge}
use Rattle.dtext.proofs.Digits.{decimal-value_after, decimal_parts, decimal_zero, decimal_leading}

-- ---- digits behind others

-- These digits stand behind those that make a value, and if there are any, make no more than the limit with them.
pub record DigitsRule (limit value : ℕ) (ts : Bytes) (n : ℕ) (us : Bytes) : Type 0 where
  pub front : Bytes
  pub cut : ts ≡ front ++ us
  pub all : AllDigits 10 front
  pub worth : n ≡ digits_value_after 10 value front
  pub within : (n ≤ limit) ⊎ (front ≡ [])

-- whether what is ahead is a digit more
abbrev goes : ℕ → ℕ → ℕ → Bool
goes limit value b = is_digit b && nat_le (with_digit value b) limit

module _ (limit : ℕ) where
  -- a digit that keeps within the limit is taken
  digits_go : (value b : ℕ) (ts : Bytes) → goes limit value b ≡ true → digits limit value (b ∷ ts) ≡ digits limit (with_digit value b) ts
  unfolding digits
  digits_go value b ts s = ap (λ t. cond t (digits limit (with_digit value b) ts) (Ok (value, b ∷ ts))) s

  -- where none is ahead the reader is done
  digits_stop : (value : ℕ) (ts : Bytes) → ahead (goes limit value) (next ts) ≡ false → digits limit value ts ≡ Ok (value, ts)
  unfolding digits
  digits_stop value [] s = refl
  digits_stop value (b ∷ ts) s = ap (λ t. cond t (digits limit (with_digit value b) ts) (Ok (value, b ∷ ts))) s

  -- what is read of the digits, and that it is read again
  record Digits (value : ℕ) (ts : Bytes) (n : ℕ) (us : Bytes) : Type 0 where
    front : Bytes
    cut : ts ≡ front ++ us
    all : AllDigits 10 front
    worth : n ≡ digits_value_after 10 value front
    within : (n ≤ limit) ⊎ (front ≡ [])
    again : (vs : Bytes) → next vs ≡ next us → digits limit value (front ++ vs) ≡ Ok (n, vs)

  -- nothing is read where no digit more is ahead
  none_read : (value : ℕ) (ts : Bytes) → ahead (goes limit value) (next ts) ≡ false → Digits value ts value ts
  none_read value ts s =
      record {
        front = [];
        cut = refl;
        all = tt;
        worth = refl;
        within = inr refl;
        again = λ vs h. digits_stop value vs (ap (ahead (goes limit value)) h ∙ s);
      }

  -- a digit more keeps within the limit
  goes_within : (value b : ℕ) → goes limit value b ≡ true → with_digit value b ≤ limit
  goes_within value b s = grind (arith, nat_tests, (both (is_digit b) (nat_le (with_digit value b) limit) s).1)

  -- a number that is within the limit with one digit more is so with those behind it
  still_within : (value n : ℕ) (front : Bytes) → value ≤ limit → n ≡ digits_value_after 10 value front → (n ≤ limit) ⊎ (front ≡ []) → n ≤ limit
  still_within value n front l w (inl h) = h
  still_within value n front l w (inr e) = let k : n ≡ value = w ∙ ap (digits_value_after 10 value) e in omega arith

  -- one digit, and what is read behind it
  one_read : (value b : ℕ) (ts us : Bytes) (n : ℕ) → goes limit value b ≡ true → Digits (with_digit value b) ts n us → Digits value (b ∷ ts) n us
  one_read value b ts us n s x =
      let k = both (is_digit b) (nat_le (with_digit value b) limit) s in
      record {
        front = b ∷ x.front;
        cut = ap (λ xs. b ∷ xs) x.cut;
        all = (digit_below b k.0, x.all);
        worth = x.worth ∙ ap (λ v. digits_value_after 10 v x.front) (with_digit_worth value b k.0);
        within = inl (still_within (with_digit value b) n x.front (goes_within value b s) x.worth x.within);
        again = λ vs h. digits_go value b (x.front ++ vs) s ∙ x.again vs h;
      }

  -- the reader has one answer
  read_as : (value : ℕ) (ts us vs : Bytes) (n : ℕ) → digits limit value ts ≡ Ok (value, ts) → digits limit value ts ≡ Ok (n, us)
      → Digits value ts value ts → Digits value ts n us
  read_as value ts us vs n e h x =
      let k = ok_pair value n ts us (sym e ∙ h) in
      subst (λ m. Digits value ts m us) k.0 (subst (λ xs. Digits value ts value xs) k.1 x)

  -- what is read is a run of digits
  digits_read : (value : ℕ) (ts us : Bytes) (n : ℕ) → digits limit value ts ≡ Ok (n, us) → Digits value ts n us
  digits_read value [] us n e = read_as value [] us [] n (digits_stop value [] refl) e (none_read value [] refl)
  digits_read value (b ∷ ts) us n e = elim (bool_cases (goes limit value b)) [
    | inl s ↦ one_read value b ts us n s (digits_read (with_digit value b) ts us n (sym (digits_go value b ts s) ∙ e))
    | inr s ↦ read_as value (b ∷ ts) us [] n (digits_stop value (b ∷ ts) s) e (none_read value (b ∷ ts) s)
  ]

  -- digits are never refused
  digits_ok : (value : ℕ) (ts us : Bytes) → digits limit value ts ≡ Err us → ⊥
  digits_ok value [] us e = let k = digits_stop value [] refl in cc
  digits_ok value (b ∷ ts) us e = elim (bool_cases (goes limit value b)) [
    | inl s ↦ digits_ok (with_digit value b) ts us (sym (digits_go value b ts s) ∙ e)
    | inr s ↦ let k = digits_stop value (b ∷ ts) s in cc
  ]

  -- nothing goes on where no digit follows
  no_digit_stops : (value : ℕ) (us : Bytes) → no_digit (next us) ≡ true → ahead (goes limit value) (next us) ≡ false
  no_digit_stops value [] h = refl
  no_digit_stops value (b ∷ us) h = ap (λ t. t && nat_le (with_digit value b) limit) (not_true (is_digit b) h)

  -- a digit of a number within the limit goes on
  goes_on : (value b : ℕ) (ds : Bytes) → digit_value b < 10 → digits_value_after 10 (value * 10 + digit_value b) ds ≤ limit → goes limit value b ≡ true
  goes_on value b ds d l =
      let k = digit_of b d in
      let w : with_digit value b ≤ limit = omega (arith, with_digit_worth value b k, digits_value_after-ge (value * 10 + digit_value b) ds) in
      grind (arith, nat_tests, k, w)

  -- digits that keep within the limit are read
  digits_derived : (value : ℕ) (front us : Bytes) → AllDigits 10 front
      → (digits_value_after 10 value front ≤ limit) ⊎ (front ≡ []) → no_digit (next us) ≡ true
      → digits limit value (front ++ us) ≡ Ok (digits_value_after 10 value front, us)
  digits_derived value [] us d l h = digits_stop value us (no_digit_stops value us h)
  digits_derived value (b ∷ front) us d (inl l) h =
      digits_go value b (front ++ us) (goes_on value b front d.0 l)
      ∙ ap (λ v. digits limit v (front ++ us)) (with_digit_worth value b (digit_of b d.0))
      ∙ digits_derived (value * 10 + digit_value b) front us d.1 (inl l) h
  digits_derived value (b ∷ front) us d (inr e) h = absurd (cc)

  -- what is read is derived, and read again
  digits_taken : (value : ℕ) (ts us : Bytes) (n : ℕ) → Digits value ts n us → Taken (digits limit value) (DigitsRule limit value) ts n us
  digits_taken value ts us n x = record {
    prefix = x.front;
    cut = x.cut;
    derives = λ vs. record { front = x.front; cut = refl; all = x.all; worth = x.worth; within = x.within };
    again = x.again;
  }

  -- digits behind others are read as their rule says
  pub digits_fits : (value : ℕ) → Fits IsByte (digits limit value) (DigitsRule limit value) no_digit
  digits_fits value = record {
    takes = λ ts us n e. digits_taken value ts us n (digits_read value ts us n e);
    reads = λ ts us n r h.
        ap (digits limit value) r.cut
        ∙ digits_derived value r.front us r.all (subst (λ m. (m ≤ limit) ⊎ (r.front ≡ [])) r.worth r.within) h
        ∙ ap (λ m. Ok (m, us)) (sym r.worth);
    refuses = λ ts us e. absurd (digits_ok value ts us e);
    some =
        record {
          rest = [];
          value = value;
          possible = All-nil IsByte;
          derives = λ vs. record { front = []; cut = refl; all = tt; worth = refl; within = inr refl };
        };
  }

-- ---- numbers without a sign

-- by whether the byte is a digit of 1 to 9
leading_by : (b a : ℕ) (t : Bool) → nat_le 49 b && nat_le b 57 ≡ t → cond t (Some (b - 48)) None ≡ Some a → (is_digit b ≡ true) × (a ≡ digit_value b) × (0 < a)
leading_by b a true e h =
    let k = both (nat_le 49 b) (nat_le b 57) e in
    let d : is_digit b ≡ true = grind (arith, nat_tests, k) in
    let l : 49 ≤ b = grind (arith, nat_tests, k.0) in
    let w : b - 48 ≡ a = cc in
    (d, omega (arith, digit_worth b d), omega arith)
leading_by b a false e h = absurd (cc)

-- a leading digit is a digit above 0, by its value
leading_is : (b a : ℕ) → leading b ≡ Some a → (is_digit b ≡ true) × (a ≡ digit_value b) × (0 < a)
leading_is b a h = leading_by b a (nat_le 49 b && nat_le b 57) refl h

-- each such digit leads
leading_made : (b : ℕ) → digit_value b < 10 → 48 < b → leading b ≡ Some (digit_value b)
leading_made b d l =
    let w = digit_worth b (digit_of b d) in
    let t : nat_le 49 b && nat_le b 57 ≡ true = grind (arith, nat_tests, w, d, l) in
    let v : b - 48 ≡ digit_value b = omega arith in
    ap (λ c. cond c (Some (b - 48)) None) t ∙ ap (λ m. Some m) v

-- the digit 0, alone
abbrev ZeroRule : Rule ℕ ℕ
ZeroRule = Then (Byte 48) (λ _. Pure 0)

module _ (limit : ℕ) (large : 9 ≤ limit) (small : limit < 2 ^ 64) where
  -- a leading digit and digits behind it are the decimal form of what they are worth
  positive_to : (ts us : Bytes) (n : ℕ) → Then (One leading) (DigitsRule limit) ts n us → PositiveRule limit ts n us
  positive_to ts us n r =
      let o = r.first in
      let d = r.second in
      let k = leading_is o.item r.value o.made in
      let below = digit_below o.item k.0 in
      let start : decimal r.value ≡ o.item ∷ [] = ap decimal k.1 ∙ decimal_leading o.item below in
      let value : n ≡ digits_value_after 10 r.value d.front = d.worth in
      let within = still_within limit r.value n d.front (omega (arith, k.1)) value d.within in
      let whole : decimal n ≡ o.item ∷ d.front = ap decimal value
      ∙ decimal-value_after r.value d.front k.2 d.all (subst (λ m. m < 2 ^ 64) value (omega arith))
      ∙ ap (λ xs. xs ++ d.front) start in
      record {
        spelled = o.first ∙ ap (λ xs. o.item ∷ xs) d.cut ∙ ap (λ xs. xs ++ us) (sym whole);
        some = omega (arith, value, digits_value_after-ge r.value d.front, k.2);
        within = within;
      }

  -- and the decimal form of a number above 0 is such digits
  positive_from : (ts us : Bytes) (n : ℕ) → PositiveRule limit ts n us → Then (One leading) (DigitsRule limit) ts n us
  positive_from ts us n r =
      let x = decimal_parts n r.some (omega (arith, r.within)) in
      record {
        value = digit_value x.first;
        middle = x.rest ++ us;
        first = record { item = x.first; first = r.spelled ∙ ap (λ xs. xs ++ us) x.whole; made = leading_made x.first x.digit x.not_zero };
        second = record { front = x.rest; cut = refl; all = x.others; worth = sym x.value; within = inl r.within };
      }

  -- a leading digit is read by its value
  leading_fits : Fits IsByte (one leading) (One leading) any
  leading_fits = one_fits IsByte leading 49 1 refl (omega arith)

  -- numbers above 0
  pub positive_fits : Fits IsByte (positive limit) (PositiveRule limit) no_digit
  unfolding positive
  positive_fits = fits_as IsByte positive_to positive_from (onwards IsByte leading_fits (digits_fits limit))

  -- 0 alone and numbers above 0 are the numbers without a sign
  natural_to : (ts us : Bytes) (n : ℕ) → Or ZeroRule (PositiveRule limit) ts n us → NaturalRule limit ts n us
  natural_to ts us n (inl r) =
      let zero_is : n ≡ 0 = r.second.is in
      record {
        spelled = byte_taken 48 ts r.middle r.value r.first ∙ ap (λ xs. 48 ∷ xs) r.second.here ∙ ap (λ xs. xs ++ us) (sym (ap decimal zero_is ∙ decimal_zero));
        within = omega arith;
      }
  natural_to ts us n (inr r) = record { spelled = r.spelled; within = r.within }

  -- and these are 0 or above
  natural_from : (ts us : Bytes) (n : ℕ) → NaturalRule limit ts n us → Or ZeroRule (PositiveRule limit) ts n us
  natural_from ts us zero r =
      inl (record {
        value = tt;
        middle = us;
        first = record { item = 48; first = r.spelled ∙ ap (λ xs. xs ++ us) decimal_zero; made = refl };
        second =
            record { is = refl; here = refl };
      })
  natural_from ts us (suc n) r = inr (record { spelled = r.spelled; some = omega arith; within = r.within })

  -- a number above 0 begins with no zero
  positive_no_zero : (ts us : Bytes) (n : ℕ) → PositiveRule limit ts n us → sees 48 (next ts) ≡ false
  positive_no_zero ts us n r =
      let x = decimal_parts n r.some (omega (arith, r.within)) in
      let l = x.not_zero in
      ap (λ xs. sees 48 (next xs)) (r.spelled ∙ ap (λ xs. xs ++ us) x.whole) ∙ grind (arith, nat_tests, l)

  -- numbers without a sign
  pub natural_fits : Fits IsByte (natural limit) (NaturalRule limit) no_digit
  unfolding natural
  natural_fits = fits_as IsByte natural_to natural_from (either_fits IsByte (sees 48) zero_read (positive limit) ZeroRule (PositiveRule limit) no_digit
      (narrowed IsByte no_digit (λ h e. refl) (seen IsByte (λ _. 0) (byte_fits 48 (omega arith)))) positive_fits
      (λ ts us n r. byte_begins 48 ts r.middle r.value r.first)
      (λ ts us n r h. positive_no_zero ts us n r))

-- ---- numbers with a sign

-- `-` and a number above 0
abbrev NegativeRule : Rule ℕ ℤ
NegativeRule = Then (Byte 45) (λ _. Of (λ n. neg_ℤ (pos n)) (PositiveRule LEAST))

-- negative numbers
negative_fits : Fits IsByte negative NegativeRule no_digit
unfolding negative
negative_fits = onwards IsByte (byte_fits 45 (omega arith)) (λ _. seen IsByte (λ n. neg_ℤ (pos n)) (positive_fits LEAST (omega arith) (omega arith)))

-- a number without a sign
abbrev NotNegative : Rule ℕ ℤ
NotNegative = Of pos (NaturalRule MOST)

-- they are the decimal form of the negative number
negative_is : (ts us : Bytes) (m : ℕ) (n : ℤ) → ts ≡ 45 ∷ (decimal m ++ us) → 0 < m → m ≤ LEAST → n ≡ neg_ℤ (pos m) → NumberRule ts n us
negative_is ts us zero n e some l is = absurd (omega arith)
negative_is ts us (suc m) n e some l is = subst (λ z. NumberRule ts z us) (sym is) (record { spelled = e; fits = omega arith })

-- both forms are the decimal form of a number of 64 bits
number_to : (ts us : Bytes) (n : ℤ) → Or NegativeRule NotNegative ts n us → NumberRule ts n us
number_to ts us n (inl r) =
    let o = r.second in
    let p = o.first in
    negative_is ts us o.value n (byte_taken 45 ts r.middle r.value r.first
    ∙ ap (λ xs. 45 ∷ xs) (p.spelled ∙ ap (λ xs. decimal o.value ++ xs) o.second.here)) p.some p.within o.second.is
number_to ts us n (inr r) =
    let p = r.first in
    subst (λ z. NumberRule ts z us) (sym r.second.is)
    (record { spelled = p.spelled ∙ ap (λ xs. decimal r.value ++ xs) r.second.here; fits = omega (arith, p.within) })

-- and that form is one of both
number_from : (ts us : Bytes) (n : ℤ) → NumberRule ts n us → Or NegativeRule NotNegative ts n us
number_from ts us (pos n) r =
    inr (record {
      value = n;
      middle = us;
      first = record { spelled = r.spelled; within = omega (arith, r.fits) };
      second = record { is = refl; here = refl };
    })
number_from ts us (negsuc n) r = inl (record {
  value = tt;
  middle = decimal (suc n) ++ us;
  first = record { item = 45; first = r.spelled; made = refl };
  second = record {
    value = suc n;
    middle = us;
    first = record { spelled = refl; some = omega arith; within = omega (arith, r.fits) };
    second = record { is = refl; here = refl };
  };
})

-- a number without a sign begins with a digit
pub digit_first : (ts us : Bytes) (n : ℕ) → ts ≡ decimal n ++ us → n < 2 ^ 64 → (b : ℕ) × (rest : Bytes) × (ts ≡ b ∷ rest) × (48 ≤ b) × (b ≤ 57)
digit_first ts us zero e l = (48, us, e ∙ ap (λ xs. xs ++ us) decimal_zero, omega arith, omega arith)
digit_first ts us (suc n) e l =
    let x = decimal_parts (suc n) (omega arith) l in
    (x.first, x.rest ++ us, e ∙ ap (λ xs. xs ++ us) x.whole, omega (arith, x.not_zero), omega (arith, digit_worth x.first (digit_of x.first x.digit), x.digit))

-- a digit is no `-`
no_minus : (b : ℕ) → 48 ≤ b → nat_eq b 45 ≡ false
no_minus b l = grind (arith, nat_tests, l)

-- a number without a sign begins with none
not_negative_begins : (ts us : Bytes) (n : ℤ) → NotNegative ts n us → sees 45 (next ts) ≡ false
not_negative_begins ts us n r =
    let x = digit_first ts r.middle r.value r.first.spelled (omega (arith, r.first.within)) in
    ap (λ xs. sees 45 (next xs)) x.2 ∙ no_minus x.0 x.3

-- numbers of 64 bits
pub number_fits : Fits IsByte number NumberRule no_digit
unfolding number
number_fits =
    fits_as IsByte number_to number_from
    (either_fits IsByte (sees 45) negative (of pos (natural MOST)) NegativeRule NotNegative no_digit negative_fits
    (seen IsByte pos (natural_fits MOST (omega arith) (omega arith)))
    (λ ts us n r. byte_begins 45 ts r.middle r.value r.first)
    (λ ts us n r h. not_negative_begins ts us n r))

-- an alternative that holds
or_right : (a b : Bool) → b ≡ true → a || b ≡ true
or_right true b e = refl
or_right false b e = e

-- a byte from `0` to `9` begins a number
is_digit_by : (b : ℕ) → 48 ≤ b → b ≤ 57 → is_digit b || nat_eq b 45 ≡ true
is_digit_by b l h = let d : is_digit b ≡ true = grind (arith, nat_tests, l, h) in ap (λ t. t || nat_eq b 45) d

-- a number begins with a digit or with `-`
pub number_begins : (ts us : Bytes) (n : ℤ) → NumberRule ts n us → begins_number (next ts) ≡ true
number_begins ts us (pos n) r =
    let x = digit_first ts us n r.spelled (omega (arith, r.fits)) in
    ap (λ xs. begins_number (next xs)) x.2 ∙ is_digit_by x.0 x.3 x.4
number_begins ts us (negsuc n) r = ap (λ xs. begins_number (next xs)) r.spelled

-- ---- the loop over digits

-- a digit more is there where something is made of the byte
more_some : (limit value b m : ℕ) (t : Bool) → is_digit b && nat_le (with_digit value b) limit ≡ t
    → cond t (Some (with_digit value b)) None ≡ Some m → (t ≡ true) × (m ≡ with_digit value b)
more_some limit value b m true e h = (refl, cc)
more_some limit value b m false e h = absurd (cc)

-- and none where nothing is
more_none : (limit value b : ℕ) (t : Bool) → is_digit b && nat_le (with_digit value b) limit ≡ t
    → ◌≡◌ {A = Option ℕ} (cond t (Some (with_digit value b)) None) None → t ≡ false
more_none limit value b true e h = absurd (cc)
more_none limit value b false e h = refl

-- one digit more is taken
pub digits_more : (limit value : ℕ) (ts : Bytes) (m : ℕ) → made_of (more limit value) ts ≡ Some m → digits limit value ts ≡ digits limit m (drop 1 ts)
unfolding digits
digits_more limit value [] m e = absurd (cc)
digits_more limit value (b ∷ ts) m e =
    let k = more_some limit value b m (is_digit b && nat_le (with_digit value b) limit) refl e in
    ap (λ t. cond t (digits limit (with_digit value b) ts) (Ok (value, b ∷ ts))) k.0 ∙ ap (λ v. digits limit v ts) (sym k.1)

-- none is
pub digits_done : (limit value : ℕ) (ts : Bytes) → made_of (more limit value) ts ≡ None → digits limit value ts ≡ Ok (value, ts)
unfolding digits
digits_done limit value [] e = refl
digits_done limit value (b ∷ ts) e =
    ap (λ t. cond t (digits limit (with_digit value b) ts) (Ok (value, b ∷ ts)))
    (more_none limit value b (is_digit b && nat_le (with_digit value b) limit) refl e)

-- a leading digit is at most 9
pub leading_small : (b a : ℕ) → leading b ≡ Some a → a ≤ 9
leading_small b a e = let k = leading_is b a e in omega (arith, digit_below b k.0, k.1)
