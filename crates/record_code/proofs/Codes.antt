-- Fields that are read as they are written: of each the two laws, from the laws of its parts.
use Rattle.std.proofs.Common.{◌≡◌, ℕ, zero, suc, ℤ, ◌+◌, ◌^◌, ◌<◌, ◌≤◌, Bool, true, false, cond, ltb, List, [], ◌∷◌}
use Rattle.std.proofs.Common.{◌++◌, length, get_or, take, drop, slice_get, Option, Some, None, refl, sym, ap, subst}
use Rattle.std.proofs.Common.{◌∙◌, append_assoc, length-append, arith}
use Rattle.std.specs.Prelude.{◌||◌, ◌&&◌, ◌==◌}
use Rattle.std.specs.List.{flat_map, AllByRecursion}
use Rattle.std.specs.Int.{Width, w32, w64, byte_len, from_be_bytes, to_be_bytes, cast_signed, cast_unsigned}
use Rattle.std.proofs.lemmas.Bool.{ltb-false, le-ltb, eqb-true}
use Rattle.std.proofs.lemmas.List.{take_at, drop_at, take-append-drop, length-take, get_or-drop, get_or-take}
use Rattle.std.proofs.lemmas.List.{get_or_past}
use Rattle.std.proofs.lemmas.Bool.{cases_lt}
use Rattle.std.proofs.lemmas.Nat.{be_bytes_4, be_bytes_8, from_be_bytes-to_be_bytes_4, from_be_bytes-to_be_bytes_8}
use Rattle.std.proofs.Math.Facts.{to_z-of_z, of_z-to_z, Fits-of_z, Fits-of_lt, Fits-lt-pow, sfits_to_z}
use Rattle.std.proofs.Common.{inl, inr}
use Rattle.record_code.specs.Spelling.{int_bytes, truth_bytes, text_bytes, pair_bytes, list_bytes, nothing_bytes}
use Rattle.record_code.specs.Fields.{Reader, ◌>>=◌, when, number_at, int_at, text_at, tag_at, truth_at, nothing_at}
use Rattle.record_code.specs.Fields.{pair_at, each_at, list_at}
use Rattle.record_code.specs.Room.{IsInt, HasCount, Always}
use Rattle.record_code.specs.declared.tags.TheConstants.{TRUTHS}

-- ---- bytes

abbrev pub IsBytes : List ℕ → Type 0
IsBytes bytes = (i : ℕ) → get_or bytes i 0 < 256

pub IsBytes-drop : (n : ℕ) (bytes : List ℕ) → IsBytes bytes → IsBytes (drop n bytes)
IsBytes-drop n bytes h i = rw get_or-drop (h (n + i))

pub IsBytes-take : (n : ℕ) (bytes : List ℕ) → IsBytes bytes → IsBytes (take n bytes)
IsBytes-take n bytes h i =
    elim (cases_lt i n) [
      | inl lt ↦ rw (get_or-take n bytes i 0 lt) (h i)
      | inr le ↦ rw (get_or_past (take n bytes) i 0 (omega (arith, length-take n bytes))) (omega arith)
    ]

-- what is behind the front of bytes is bytes
pub IsBytes-behind : (bytes front rest : List ℕ) → IsBytes bytes → bytes ≡ front ++ rest → IsBytes rest
IsBytes-behind bytes front rest fits e =
    subst IsBytes (ap (drop (length front)) e ∙ drop_at front rest (length front) refl)
    (IsBytes-drop (length front) bytes fits)

-- ---- steps

-- what a step read, where something was read behind it
pub bind_some : {A B : Type 0} (read : Option A) (f : A → Option B) (y : B) → (read >>= f) ≡ Some y → (x : A)
    × (read ≡ Some x) × (f x ≡ Some y)
bind_some (Some x) f y e = (x, refl, e)
bind_some None f y e = absurd cc

-- a value that was found is the one
pub some_is : {A : Type 0} (x y : A) → Some x ≡ Some y → x ≡ y
some_is x y e = cc

-- a test that was passed, where `None` stands for failing it
pub guard_some : {A : Type 0} (b : Bool) (x y : A) → cond b None (Some x) ≡ Some y → (b ≡ false) × (x ≡ y)
guard_some true x y e = absurd cc
guard_some false x y e = (refl, cc)

pub test_some : {A : Type 0} (b : Bool) (x y : A) → cond b (Some x) None ≡ Some y → (b ≡ true) × (x ≡ y)
test_some true x y e = (refl, cc)
test_some false x y e = absurd cc

-- ---- facts on each of a list

pub all_map : {A : Type 0} (F G : A → Type 0) → ((x : A) → F x → G x) → (xs : List A) → AllByRecursion F xs
    → AllByRecursion G xs
all_map F G f [] h = tt
all_map F G f (x ∷ xs) h = (f x h.0, all_map F G f xs h.1)

pub all_both : {A : Type 0} (F G : A → Type 0) (xs : List A) → AllByRecursion F xs → AllByRecursion G xs
    → AllByRecursion (λ x. F x × G x) xs
all_both F G [] f g = tt
all_both F G (x ∷ xs) f g = ((f.0, g.0), all_both F G xs f.1 g.1)

-- ---- the two laws

-- What is of a form is read again as it is written, and what is read is of that form, and was so written.
pub record IsCode {A : Type 0} (Form : A → Type 0) (bytes_of : A → List ℕ) (at : Reader A) : Type 0 where
  pub again : (x : A) (rest : List ℕ) → Form x → at (bytes_of x ++ rest) ≡ Some (x, rest)
  pub takes : (bytes : List ℕ) (x : A × List ℕ) → IsBytes bytes → at bytes ≡ Some x → Form x.0
      × (bytes ≡ bytes_of x.0 ++ x.1)

-- what is behind what was read
pub behind : {A : Type 0} {Form : A → Type 0} {bytes_of : A → List ℕ} {at : Reader A} (code : IsCode Form bytes_of at)
    (bytes : List ℕ)
    (x : A × List ℕ) → IsBytes bytes → at bytes ≡ Some x → IsBytes x.1
behind {bytes_of = bytes_of} code bytes x fits e = IsBytes-behind bytes (bytes_of x.0) x.1 fits
    (code.takes bytes x fits e).1

-- a stronger form and a weaker one are the same where each gives the other
pub reformed : {A : Type 0} {Form Other : A → Type 0} {bytes_of : A → List ℕ} {at : Reader A} → IsCode Form bytes_of at
    → ((x : A) → Form x → Other x) → ((x : A) → Other x → Form x) → IsCode Other bytes_of at
reformed code there back = record {
  again = λ x rest h. code.again x rest (back x h);
  takes = λ bytes x fits e. let t = code.takes bytes x fits e in (there x.0 t.0, t.1);
}

-- ---- numbers

pub record IsWide (w : Width) (limit : ℕ) : Type 0 where
  pub len : (n : ℕ) → length (to_be_bytes w n) ≡ byte_len w
  pub back : (bytes : List ℕ) → length bytes ≡ byte_len w → IsBytes bytes
      → to_be_bytes w (from_be_bytes w bytes) ≡ bytes
  pub again : (n : ℕ) → n < limit → from_be_bytes w (to_be_bytes w n) ≡ n
  pub below : (bytes : List ℕ) → IsBytes bytes → from_be_bytes w bytes < limit

pub wide32 : IsWide w32 (2 ^ 32)
wide32 = record {
  len = λ n. refl;
  back = λ bytes len fits. be_bytes_4 bytes _ len fits refl;
  again = λ n lt. from_be_bytes-to_be_bytes_4 n lt;
  below = λ bytes fits. omega (arith, fits 0, fits 1, fits 2, fits 3);
}

pub wide64 : IsWide w64 (2 ^ 64)
wide64 = record {
  len = λ n. refl;
  back = λ bytes len fits. be_bytes_8 bytes _ len fits refl;
  again = λ n lt. from_be_bytes-to_be_bytes_8 n lt;
  below = λ bytes fits. omega (arith, fits 0, fits 1, fits 2, fits 3, fits 4, fits 5, fits 6, fits 7);
}

number_again : (w : Width) (limit : ℕ) (wide : IsWide w limit) (n : ℕ) (rest : List ℕ) → n < limit
    → number_at w (to_be_bytes w n ++ rest) ≡ Some (n, rest)
number_again w limit wide n rest lt =
    let len = wide.len n in
    let long : ltb (length (to_be_bytes w n ++ rest)) (byte_len w) ≡ false =
    le-ltb _ _ (omega (arith, length-append (to_be_bytes w n) rest)) in
    rw (
      long,
      take_at (to_be_bytes w n) rest (byte_len w) len,
      drop_at (to_be_bytes w n) rest (byte_len w) len,
      wide.again n lt,
    ) refl

number_takes : (w : Width) (limit : ℕ) (wide : IsWide w limit) (bytes : List ℕ) (x : ℕ × List ℕ) → IsBytes bytes
    → number_at w bytes ≡ Some x
    → (x.0 < limit) × (bytes ≡ to_be_bytes w x.0 ++ x.1)
number_takes w limit wide bytes x fits e =
    let g = guard_some (ltb (length bytes) (byte_len w)) (
      from_be_bytes w (take (byte_len w) bytes),
      drop (byte_len w) bytes,
    ) x e in
    let long : byte_len w ≤ length bytes = ltb-false _ _ g.0 in
    let front : to_be_bytes w (from_be_bytes w (take (byte_len w) bytes)) ≡ take (byte_len w) bytes =
    wide.back (take (byte_len w) bytes) (omega (arith, length-take (byte_len w) bytes))
    (IsBytes-take (byte_len w) bytes fits) in
    subst (λ (y : ℕ × List ℕ). (y.0 < limit) × (bytes ≡ to_be_bytes w y.0 ++ y.1)) g.1 (
      wide.below (take (byte_len w) bytes) (IsBytes-take (byte_len w) bytes fits),
      rw front (sym (take-append-drop (byte_len w) bytes)),
    )

pub number_code : (w : Width) (limit : ℕ) → IsWide w limit → IsCode (λ n. n < limit) (to_be_bytes w) (number_at w)
number_code w limit wide = record { again = number_again w limit wide; takes = number_takes w limit wide }

pub count_code : IsCode (λ n. n < 2 ^ 32) (to_be_bytes w32) (number_at w32)
count_code = number_code w32 (2 ^ 32) wide32

-- ---- numbers with a sign

int_again : (n : ℤ) (rest : List ℕ) → IsInt n → int_at (int_bytes n ++ rest) ≡ Some (n, rest)
unfolding int_at
int_again n rest fits =
    rw (
      (number_code w64 (2 ^ 64) wide64).again (cast_unsigned w64 n) rest (Fits-lt-pow (Fits-of_z fits)),
      to_z-of_z fits,
    ) refl

int_takes : (bytes : List ℕ) (x : ℤ × List ℕ) → IsBytes bytes → int_at bytes ≡ Some x → IsInt x.0
    × (bytes ≡ int_bytes x.0 ++ x.1)
unfolding int_at
int_takes bytes x fits e =
    let a = bind_some (number_at w64 bytes) (λ n. Some (cast_signed w64 n.0, n.1)) x e in
    let t = number_takes w64 (2 ^ 64) wide64 bytes a.0 fits a.1 in
    subst (λ (y : ℤ × List ℕ). IsInt y.0 × (bytes ≡ int_bytes y.0 ++ y.1)) (some_is _ x a.2)
    (sfits_to_z (Fits-of_lt t.0), rw (of_z-to_z (Fits-of_lt t.0)) t.1)

pub int_code : IsCode IsInt int_bytes int_at
int_code = record { again = int_again; takes = int_takes }

-- ---- texts

-- no longer than some number
abbrev pub IsWithin : ℕ → List ℕ → Type 0
IsWithin most text = length text ≤ most

neither : (a b : Bool) → (a || b) ≡ false → (a ≡ false) × (b ≡ false)
neither true b e = absurd cc
neither false b e = (refl, e)

or_false : (a b : Bool) → a ≡ false → b ≡ false → (a || b) ≡ false
or_false true b p q = absurd cc
or_false false b p q = q

text_again : (most : ℕ) → most < 2 ^ 32 → (text rest : List ℕ) → IsWithin most text
    → text_at most (text_bytes text ++ rest) ≡ Some (text, rest)
unfolding text_at
text_again most small text rest within =
    let fits : length text < 2 ^ 32 = omega arith in
    let parts : text_bytes text ++ rest ≡ to_be_bytes w32 (length text) ++ (text ++ rest) =
    append_assoc (to_be_bytes w32 (length text)) text rest in
    let first : number_at w32 (text_bytes text ++ rest) ≡ Some (length text, text ++ rest) =
    ap (number_at w32) parts ∙ count_code.again (length text) (text ++ rest) fits in
    let few : ltb most (length text) ≡ false = le-ltb _ _ within in
    let long : ltb (length (text ++ rest)) (length text) ≡ false =
    le-ltb _ _ (omega (arith, length-append text rest)) in
    ap (λ (o : Option (ℕ × List ℕ)). o >>= λ n. cond (ltb most n.0 || ltb (length n.1) n.0) None
    (Some (take n.0 n.1, drop n.0 n.1))) first
    ∙ rw (
      or_false (ltb most (length text)) (ltb (length (text ++ rest)) (length text)) few long,
      take_at text rest (length text) refl,
      drop_at text rest (length text) refl,
    ) refl

-- what is read is no longer, whatever the bytes are
pub text_within : (most : ℕ) (bytes : List ℕ) (x : List ℕ × List ℕ) → text_at most bytes ≡ Some x → IsWithin most x.0
unfolding text_at
text_within most bytes x e =
    let b = bind_some (number_at w32 bytes) (λ n. cond (ltb most n.0 || ltb (length n.1) n.0) None
    (Some (take n.0 n.1, drop n.0 n.1))) x e in
    let n = b.0 in
    let g = guard_some (ltb most n.0 || ltb (length n.1) n.0) (take n.0 n.1, drop n.0 n.1) x b.2 in
    let few : n.0 ≤ most = ltb-false _ _ (neither (ltb most n.0) (ltb (length n.1) n.0) g.0).0 in
    subst (λ (y : List ℕ × List ℕ). IsWithin most y.0) g.1 (omega (arith, length-take n.0 n.1))

text_takes : (most : ℕ) (bytes : List ℕ) (x : List ℕ × List ℕ) → IsBytes bytes → text_at most bytes ≡ Some x
    → IsWithin most x.0 × (bytes ≡ text_bytes x.0 ++ x.1)
unfolding text_at
text_takes most bytes x fits e =
    let b = bind_some (number_at w32 bytes) (λ n. cond (ltb most n.0 || ltb (length n.1) n.0) None
    (Some (take n.0 n.1, drop n.0 n.1))) x e in
    let n = b.0 in
    let t = count_code.takes bytes n fits b.1 in
    let g = guard_some (ltb most n.0 || ltb (length n.1) n.0) (take n.0 n.1, drop n.0 n.1) x b.2 in
    let both = neither (ltb most n.0) (ltb (length n.1) n.0) g.0 in
    let few : n.0 ≤ most = ltb-false _ _ both.0 in
    let long : n.0 ≤ length n.1 = ltb-false _ _ both.1 in
    let len : length (take n.0 n.1) ≡ n.0 = omega (arith, length-take n.0 n.1) in
    let parts : bytes ≡ text_bytes (take n.0 n.1) ++ drop n.0 n.1 =
    t.1 ∙ ap (λ (l : List ℕ). to_be_bytes w32 n.0 ++ l) (sym (take-append-drop n.0 n.1))
    ∙ sym (append_assoc (to_be_bytes w32 n.0) (take n.0 n.1) (drop n.0 n.1))
    ∙ ap (λ (k : ℕ). (to_be_bytes w32 k ++ take n.0 n.1) ++ drop n.0 n.1) (sym len) in
    subst (λ (y : List ℕ × List ℕ). IsWithin most y.0 × (bytes ≡ text_bytes y.0 ++ y.1)) g.1 (omega arith, parts)

pub text_code : (most : ℕ) → most < 2 ^ 32 → IsCode (IsWithin most) text_bytes (text_at most)
text_code most small = record { again = text_again most small; takes = text_takes most }

-- ---- single bytes

-- each thing of the row stands at the place of its byte, from some place on
abbrev pub in_place : {A : Type 0} → (A → ℕ) → ℕ → List A → Bool
in_place byte i [] = true
in_place byte i (x ∷ tags) = (byte x == i) && in_place byte (suc i) tags

both_true : (a b : Bool) → (a && b) ≡ true → (a ≡ true) × (b ≡ true)
both_true true b e = (refl, e)
both_true false b e = absurd cc

placed : {A : Type 0} (byte : A → ℕ) (from i : ℕ) (tags : List A) (tag : A) → in_place byte from tags ≡ true
    → slice_get tags i ≡ Some tag → from + i ≡ byte tag
placed byte from i [] tag right e = absurd cc
placed byte from zero (x ∷ tags) tag right e =
    let is : byte x ≡ from = eqb-true _ _ (both_true _ _ right).0 in
    let same : byte x ≡ byte tag = ap byte (some_is x tag e) in
    omega (arith, is, same)
placed byte from (suc i) (x ∷ tags) tag right e =
    let later = placed byte (suc from) i tags tag (both_true _ _ right).1 e in
    omega (arith, later)

-- it stands in the row at the place of its byte
abbrev pub IsAt : {A : Type 0} → (A → ℕ) → List A → A → Type 0
IsAt byte tags x = slice_get tags (byte x) ≡ Some x

module _ {A : Type 0} (byte : A → ℕ) (tags : List A) (right : in_place byte 0 tags ≡ true) where
  tag_again : (x : A) (rest : List ℕ) → IsAt byte tags x → tag_at tags ((byte x ∷ []) ++ rest) ≡ Some (x, rest)
  unfolding tag_at
  tag_again x rest found = rw found refl

  tag_takes : (bytes : List ℕ) (x : A × List ℕ) → IsBytes bytes → tag_at tags bytes ≡ Some x → IsAt byte tags x.0
      × (bytes ≡ (byte x.0 ∷ []) ++ x.1)
  unfolding tag_at
  tag_takes [] x fits e = absurd cc
  tag_takes (b ∷ rest) x fits e =
      let a = bind_some (slice_get tags b) (λ tag. Some (tag, rest)) x e in
      let at_zero : 0 + b ≡ byte a.0 = placed byte 0 b tags a.0 right a.1 in
      let is : b ≡ byte a.0 = omega (arith, at_zero) in
      let found : IsAt byte tags a.0 = subst (λ (k : ℕ). slice_get tags k ≡ Some a.0) is a.1 in
      subst (λ (y : A × List ℕ). IsAt byte tags y.0 × (b ∷ rest ≡ (byte y.0 ∷ []) ++ y.1)) (some_is (a.0, rest) x a.2)
      (found, ap (λ (k : ℕ). k ∷ rest) is)

  pub tag_code : IsCode (IsAt byte tags) (λ x. byte x ∷ []) (tag_at tags)
  tag_code = record { again = tag_again; takes = tag_takes }

  -- what is read by the byte in front of it, from what is read behind each byte
  pub tagged : {B : Type 0} (G : B → Type 0) (b : B → List ℕ) (of : A → Reader B)
      → ((tag : A) (rest : List ℕ) (z : B × List ℕ) → IsBytes rest → of tag rest ≡ Some z → G z.0
      × ((byte tag ∷ []) ++ rest ≡ b z.0 ++ z.1))
      → (bytes : List ℕ) (z : B × List ℕ) → IsBytes bytes → (tag_at tags bytes >>= λ tag. of tag.0 tag.1) ≡ Some z
      → G z.0 × (bytes ≡ b z.0 ++ z.1)
  tagged G b of each bytes z fits e =
      let t = bind_some (tag_at tags bytes) (λ tag. of tag.0 tag.1) z e in
      let u = tag_takes bytes t.0 fits t.1 in
      let v = each t.0.0 t.0.1 z (behind tag_code bytes t.0 fits t.1) t.2 in
      (v.0, u.1 ∙ v.1)

abbrev pub truth_byte : Bool → ℕ
truth_byte false = 0
truth_byte true = 1

truth_found : (b : Bool) → IsAt truth_byte TRUTHS b
truth_found true = refl
truth_found false = refl

same_bytes : {A : Type 0} {Form : A → Type 0} {bytes_of other : A → List ℕ} {at : Reader A} → IsCode Form bytes_of at
    → ((x : A) → bytes_of x ≡ other x) → IsCode Form other at
same_bytes {at = at} code same = record {
  again = λ x rest h. ap (λ (l : List ℕ). at (l ++ rest)) (sym (same x)) ∙ code.again x rest h;
  takes = λ bytes x fits e. let t = code.takes bytes x fits e in (t.0, t.1 ∙ ap (λ (l : List ℕ). l ++ x.1) (same x.0));
}

truth_same : (b : Bool) → truth_byte b ∷ [] ≡ truth_bytes b
truth_same true = refl
truth_same false = refl

pub truth_code : IsCode Always truth_bytes truth_at
truth_code = same_bytes (reformed (tag_code truth_byte TRUTHS refl) (λ b h. tt) (λ b h. truth_found b)) truth_same

pub nothing_code : IsCode Always nothing_bytes nothing_at
nothing_code = record {
  again = λ x rest h. refl;
  takes = λ bytes x fits e. (tt, ap (λ (y : Unit {0} × List ℕ). y.1) (some_is (tt, bytes) x e));
}

-- ---- one thing and then another

module _ {A B : Type 0} {F : A → Type 0} {G : B → Type 0} {a : A → List ℕ} {b : B → List ℕ}
    {at_a : Reader A} {at_b : Reader B}
    (first : IsCode F a at_a) (second : IsCode G b at_b) where
  pair_again : (x : A × B) (rest : List ℕ) → F x.0 × G x.1 → pair_at at_a at_b (pair_bytes a b x ++ rest) ≡ Some
      (x, rest)
  unfolding pair_at
  pair_again x rest h =
      rw (append_assoc (a x.0) (b x.1) rest, first.again x.0 (b x.1 ++ rest) h.0, second.again x.1 rest h.1) refl

  pair_takes : (bytes : List ℕ) (z : (A × B) × List ℕ) → IsBytes bytes → pair_at at_a at_b bytes ≡ Some z
      → (F z.0.0 × G z.0.1) × (bytes ≡ pair_bytes a b z.0 ++ z.1)
  unfolding pair_at
  pair_takes bytes z fits e =
      let p = bind_some (at_a bytes) (λ x. at_b x.1 >>= λ y. Some ((x.0, y.0), y.1)) z e in
      let q = bind_some (at_b p.0.1) (λ y. Some ((p.0.0, y.0), y.1)) z p.2 in
      let t = first.takes bytes p.0 fits p.1 in
      let u = second.takes p.0.1 q.0 (behind first bytes p.0 fits p.1) q.1 in
      let parts : bytes ≡ (a p.0.0 ++ b q.0.0) ++ q.0.1 =
      t.1 ∙ ap (λ (l : List ℕ). a p.0.0 ++ l) u.1 ∙ sym (append_assoc (a p.0.0) (b q.0.0) q.0.1) in
      subst (λ (y : (A × B) × List ℕ). (F y.0.0 × G y.0.1) × (bytes ≡ pair_bytes a b y.0 ++ y.1)) (some_is _ z q.2)
      ((t.0, u.0), parts)

  pub pair_code : IsCode (λ (x : A × B). F x.0 × G x.1) (pair_bytes a b) (pair_at at_a at_b)
  pair_code = record { again = pair_again; takes = pair_takes }

-- ---- many

module _ {A : Type 0} {F : A → Type 0} {a : A → List ℕ} {at_a : Reader A} (code : IsCode F a at_a) where
  each_again : (xs : List A) (rest : List ℕ) → AllByRecursion F xs
      → each_at at_a (length xs) (flat_map a xs ++ rest) ≡ Some (xs, rest)
  unfolding each_at
  each_again [] rest h = refl
  each_again (x ∷ xs) rest h =
      rw (
        append_assoc (a x) (flat_map a xs) rest,
        code.again x (flat_map a xs ++ rest) h.0,
        each_again xs rest h.1,
      ) refl

  each_takes : (count : ℕ) (bytes : List ℕ) (z : List A × List ℕ) → IsBytes bytes → each_at at_a count bytes ≡ Some z
      → (length z.0 ≡ count) × AllByRecursion F z.0 × (bytes ≡ flat_map a z.0 ++ z.1)
  unfolding each_at
  each_takes zero bytes z fits e =
      subst (λ (y : List A × List ℕ). (length y.0 ≡ 0) × AllByRecursion F y.0 × (bytes ≡ flat_map a y.0 ++ y.1))
      (some_is ([], bytes) z e)
      (refl, tt, refl)
  each_takes (suc count) bytes z fits e =
      let p = bind_some (at_a bytes) (λ x. each_at at_a count x.1 >>= λ y. Some (x.0 ∷ y.0, y.1)) z e in
      let q = bind_some (each_at at_a count p.0.1) (λ y. Some (p.0.0 ∷ y.0, y.1)) z p.2 in
      let t = code.takes bytes p.0 fits p.1 in
      let u = each_takes count p.0.1 q.0 (behind code bytes p.0 fits p.1) q.1 in
      let parts : bytes ≡ (a p.0.0 ++ flat_map a q.0.0) ++ q.0.1 =
      t.1 ∙ ap (λ (l : List ℕ). a p.0.0 ++ l) u.2 ∙ sym (append_assoc (a p.0.0) (flat_map a q.0.0) q.0.1) in
      subst (λ (y : List A × List ℕ). (length y.0 ≡ suc count) × AllByRecursion F y.0
      × (bytes ≡ flat_map a y.0 ++ y.1)) (some_is _ z q.2)
      (ap suc u.0, (t.0, u.1), parts)

  list_again : (xs : List A) (rest : List ℕ) → HasCount xs × AllByRecursion F xs
      → list_at at_a (list_bytes a xs ++ rest) ≡ Some (xs, rest)
  unfolding list_at
  list_again xs rest h =
      rw (
        append_assoc (to_be_bytes w32 (length xs)) (flat_map a xs) rest,
        count_code.again (length xs) (flat_map a xs ++ rest) h.0,
      )
      (each_again xs rest h.1)

  list_takes : (bytes : List ℕ) (z : List A × List ℕ) → IsBytes bytes → list_at at_a bytes ≡ Some z
      → (HasCount z.0 × AllByRecursion F z.0) × (bytes ≡ list_bytes a z.0 ++ z.1)
  unfolding list_at
  list_takes bytes z fits e =
      let p = bind_some (number_at w32 bytes) (λ n. each_at at_a n.0 n.1) z e in
      let t = count_code.takes bytes p.0 fits p.1 in
      let u = each_takes p.0.0 p.0.1 z (behind count_code bytes p.0 fits p.1) p.2 in
      let parts : bytes ≡ list_bytes a z.0 ++ z.1 =
      t.1 ∙ ap (λ (l : List ℕ). to_be_bytes w32 p.0.0 ++ l) u.2
      ∙ sym (append_assoc (to_be_bytes w32 p.0.0) (flat_map a z.0) z.1)
      ∙ ap (λ (k : ℕ). (to_be_bytes w32 k ++ flat_map a z.0) ++ z.1) (sym u.0) in
      ((omega (arith, t.0, u.0), u.1), parts)

  pub list_code : IsCode (λ xs. HasCount xs × AllByRecursion F xs) (list_bytes a) (list_at at_a)
  list_code = record { again = list_again; takes = list_takes }

  -- ---- what passes a test

  when_again : (test : A → Bool) (x : A) (rest : List ℕ) → F x × (test x ≡ true)
      → when test at_a (a x ++ rest) ≡ Some (x, rest)
  when_again test x rest h = rw (code.again x rest h.0, h.1) refl

  when_takes : (test : A → Bool) (bytes : List ℕ) (z : A × List ℕ) → IsBytes bytes → when test at_a bytes ≡ Some z
      → (F z.0 × (test z.0 ≡ true)) × (bytes ≡ a z.0 ++ z.1)
  when_takes test bytes z fits e =
      let p = bind_some (at_a bytes) (λ x. cond (test x.0) (Some x) None) z e in
      let g = test_some (test p.0.0) p.0 z p.2 in
      let t = code.takes bytes p.0 fits p.1 in
      subst (λ (y : A × List ℕ). (F y.0 × (test y.0 ≡ true)) × (bytes ≡ a y.0 ++ y.1)) g.1 ((t.0, g.0), t.1)

  pub when_code : (test : A → Bool) → IsCode (λ x. F x × (test x ≡ true)) a (when test at_a)
  when_code test = record { again = when_again test; takes = when_takes test }

  -- ---- a variant of a type: what stands in front of it, and what it is made of

  pub variant : {B : Type 0} (G : B → Type 0) (b : B → List ℕ) (front : List ℕ) (f : A → B)
      → ((x : A) → b (f x) ≡ front ++ a x) → ((x : A) → F x → G (f x))
      → (rest : List ℕ) (z : B × List ℕ) → IsBytes rest → (at_a rest >>= λ x. Some (f x.0, x.1)) ≡ Some z → G z.0
      × (front ++ rest ≡ b z.0 ++ z.1)
  variant {B} G b front f spelled formed rest z fits e =
      let p = bind_some (at_a rest) (λ x. Some (f x.0, x.1)) z e in
      let t = code.takes rest p.0 fits p.1 in
      let parts : front ++ rest ≡ b (f p.0.0) ++ p.0.1 =
      ap (λ (l : List ℕ). front ++ l) t.1 ∙ sym (append_assoc front (a p.0.0) p.0.1)
      ∙ ap (λ (l : List ℕ). l ++ p.0.1) (sym (spelled p.0.0)) in
      subst (λ (y : B × List ℕ). G y.0 × (front ++ rest ≡ b y.0 ++ y.1)) (some_is _ z p.2) (formed p.0.0 t.0, parts)
