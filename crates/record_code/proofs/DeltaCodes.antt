-- Deltas and the addresses at which they are are read as they are written.
use Rattle.std.proofs.Common.{◌≡◌, ℕ, Bool, true, false, T, List, [], ◌∷◌, ◌++◌, Option, Some, refl, sym, ap, subst}
use Rattle.std.proofs.Common.{◌∙◌, append_assoc}
use Rattle.std.specs.List.{AllByRecursion}
use Rattle.std.specs.FinMap as map
use Rattle.plain_data.specs.Texts.{MapOf}
use Rattle.rdt_types.specs.declared.address.Address.{Address}
use Rattle.rdt_types.specs.declared.delta.Delta.{Delta}
use Rattle.rdt_types.specs.declared.delta.Delta.TheVariants as delta
use Rattle.rdt_types.specs.declared.mark.Mark.{Mark}
use Rattle.rdt_types.specs.declared.mark.Mark.TheVariants as mark
use Rattle.rdt_types.specs.Keyed as keyed
use Rattle.rdt_types.specs.Keyed.{Keyed}
use Rattle.rdt_types.specs.Listed as listed
use Rattle.rdt_types.specs.Listed.{Listed}
use Rattle.rdt_types.specs.Marks.{added, put_by}
use Rattle.commit_file.specs.declared.version.Version.{Version}
use Rattle.commit_file.specs.declared.version.Version.TheVariants as version
use Rattle.record_code.specs.declared.tags.DeltaTag.{DeltaTag}
use Rattle.record_code.specs.declared.tags.DeltaTag.TheVariants as deltas
use Rattle.record_code.specs.declared.tags.TheConstants.{TRUTHS, DELTA_TAGS}
use Rattle.record_code.specs.Spelling.{truth_bytes, text_bytes, pair_bytes, list_bytes, nothing_bytes, kind_byte}
use Rattle.record_code.specs.Spelling.{address_bytes, mark_bytes, keyed_bytes, listed_bytes, delta_bytes}
use Rattle.record_code.specs.Fields.{Reader, ◌>>=◌, tag_at, truth_at, nothing_at, pair_at, list_at}
use Rattle.record_code.specs.Reading.{kinds_of, short_at, address_at, mark_of, mark_at, map_of, map_at, keyed_of}
use Rattle.record_code.specs.Reading.{keyed_at, listed_of, listed_at, delta_of, delta_at}
use Rattle.record_code.specs.Forms.{IsShort, IsShortMark, HasForm}
use Rattle.record_code.specs.Room.{Always, Both, HasCount, DeltaHasRoom}
use Rattle.record_code.specs.Payloads.{IsKindOf}
use Rattle.record_code.proofs.Codes.{IsBytes, IsCode, behind, bind_some, some_is, test_some, all_map, int_code}
use Rattle.record_code.proofs.Codes.{truth_byte, truth_code, nothing_code, pair_code, list_code, in_place, tag_code}
use Rattle.record_code.proofs.Codes.{tagged, variant}
use Rattle.record_code.proofs.Maps.{true_of, map_found, map_is}
use Rattle.record_code.proofs.OutcomeCodes.{short_code}

-- ---- addresses

-- an address of a kind of the version, whose key is no longer than texts may be
abbrev pub IsAddress : Version → Address → Type 0
IsAddress version address = IsKindOf version address.kind × IsShort address.key

kinds_in_place : (version : Version) → in_place kind_byte 0 (kinds_of version) ≡ true
kinds_in_place version.One = refl
kinds_in_place version.Two = refl

address_again : (version : Version) (x : Address) (rest : List ℕ) → IsAddress version x
    → address_at version (address_bytes x ++ rest) ≡ Some (x, rest)
unfolding address_at tag_at
address_again version x rest h = rw (h.0, short_code.again x.key rest h.1) refl

address_takes : (version : Version) (bytes : List ℕ) (z : Address × List ℕ) → IsBytes bytes
    → address_at version bytes ≡ Some z
    → IsAddress version z.0 × (bytes ≡ address_bytes z.0 ++ z.1)
unfolding address_at
address_takes version bytes z fits e =
    let code = tag_code kind_byte (kinds_of version) (kinds_in_place version) in
    let p = bind_some (tag_at (kinds_of version) bytes) (λ k. short_at k.1 >>= λ key. Some
    (record { kind = k.0; key = key.0 }, key.1)) z e in
    let q = bind_some (short_at p.0.1) (λ key. Some (record { kind = p.0.0; key = key.0 }, key.1)) z p.2 in
    let t = code.takes bytes p.0 fits p.1 in
    let u = short_code.takes p.0.1 q.0 (behind code bytes p.0 fits p.1) q.1 in
    subst (λ (y : Address × List ℕ). IsAddress version y.0 × (bytes ≡ address_bytes y.0 ++ y.1)) (some_is _ z q.2)
    ((t.0, u.0), t.1 ∙ ap (λ (l : List ℕ). kind_byte p.0.0 ∷ l) u.1)

pub address_code : (version : Version) → IsCode (IsAddress version) address_bytes (address_at version)
address_code version = record { again = address_again version; takes = address_takes version }

-- ---- marks

mark_again : (x : Mark) (rest : List ℕ) → IsShortMark x → mark_at (mark_bytes x ++ rest) ≡ Some (x, rest)
unfolding mark_at mark_of tag_at
mark_again (mark.Put text) rest h = rw (short_code.again text rest h) refl
mark_again mark.Removed rest h = refl

mark_of_takes : (put : Bool) (rest : List ℕ) (z : Mark × List ℕ) → IsBytes rest → mark_of put rest ≡ Some z
    → IsShortMark z.0 × ((truth_byte put ∷ []) ++ rest ≡ mark_bytes z.0 ++ z.1)
unfolding mark_of
mark_of_takes true rest z fits e = variant short_code IsShortMark mark_bytes (1 ∷ []) mark.Put (λ t. refl)
    (λ t h. h) rest z fits e
mark_of_takes false rest z fits e =
    subst (λ (y : Mark × List ℕ). IsShortMark y.0 × ((0 ∷ []) ++ rest ≡ mark_bytes y.0 ++ y.1))
    (some_is (mark.Removed, rest) z e) (tt, refl)

mark_takes : (bytes : List ℕ) (z : Mark × List ℕ) → IsBytes bytes → mark_at bytes ≡ Some z → IsShortMark z.0
    × (bytes ≡ mark_bytes z.0 ++ z.1)
unfolding mark_at
mark_takes bytes z fits e = tagged truth_byte TRUTHS refl IsShortMark mark_bytes mark_of mark_of_takes bytes z fits e

pub mark_code : IsCode IsShortMark mark_bytes mark_at
mark_code = record { again = mark_again; takes = mark_takes }

-- ---- changes of sets and hashes

module _ {M : Type 0} {F : M → Type 0} {mark : M → List ℕ} {at_mark : Reader M} (code : IsCode F mark at_mark) where
  -- the pairs of a map
  abbrev pub ArePairs : List (List ℕ × M) → Type 0
  ArePairs pairs = HasCount pairs × AllByRecursion (Both IsShort F) pairs

  pairs_code : IsCode ArePairs (list_bytes (pair_bytes text_bytes mark)) (list_at (pair_at short_at at_mark))
  pairs_code = list_code (pair_code short_code code)

  abbrev map_bytes : MapOf M → List ℕ
  map_bytes m = list_bytes (pair_bytes text_bytes mark) (map.entries m)

  map_again : (m : MapOf M) (rest : List ℕ) → ArePairs (map.entries m)
      → map_at at_mark (map_bytes m ++ rest) ≡ Some (m, rest)
  unfolding map_at
  map_again m rest h = rw (pairs_code.again (map.entries m) rest h, map_found (map.entries m) m refl) refl

  map_takes : (bytes : List ℕ) (z : MapOf M × List ℕ) → IsBytes bytes → map_at at_mark bytes ≡ Some z
      → ArePairs (map.entries z.0) × (bytes ≡ map_bytes z.0 ++ z.1)
  unfolding map_at
  map_takes bytes z fits e =
      let p = bind_some (list_at (pair_at short_at at_mark) bytes) (λ x. map_of x.0 >>= λ m. Some (m, x.1)) z e in
      let q = bind_some (map_of p.0.0) (λ m. Some (m, p.0.1)) z p.2 in
      let t = pairs_code.takes bytes p.0 fits p.1 in
      let is : map.entries q.0 ≡ p.0.0 = map_is p.0.0 q.0 q.1 in
      let read : ArePairs (map.entries q.0) × (bytes ≡ map_bytes q.0 ++ p.0.1) =
      subst (λ (pairs : List (List ℕ × M)). ArePairs pairs ×
      (bytes ≡ list_bytes (pair_bytes text_bytes mark) pairs ++ p.0.1)) (sym is) t in
      subst (λ (y : MapOf M × List ℕ). ArePairs (map.entries y.0) × (bytes ≡ map_bytes y.0 ++ y.1))
      (some_is (q.0, p.0.1) z q.2) read

  pub map_code : IsCode (λ m. ArePairs (map.entries m)) map_bytes (map_at at_mark)
  map_code = record { again = map_again; takes = map_takes }

  module _ {V : Type 0} (left : M → Option V) where
    -- a change of its form, with such pairs
    abbrev pub IsKeyed : Keyed M → Type 0
    IsKeyed d = T (keyed.has_form left d) × ArePairs (map.entries d.marks)

    keyed_again : (d : Keyed M) (rest : List ℕ) → IsKeyed d → keyed_at left at_mark (keyed_bytes mark d ++ rest) ≡ Some
        (d, rest)
    unfolding keyed_at
    keyed_again d rest h =
        rw (
          append_assoc (truth_bytes d.cleared) (map_bytes d.marks) rest,
          truth_code.again d.cleared (map_bytes d.marks ++ rest) tt,
          map_again d.marks rest h.1,
          true_of (keyed.has_form left d) h.0,
        ) refl

    keyed_takes : (bytes : List ℕ) (z : Keyed M × List ℕ) → IsBytes bytes → keyed_at left at_mark bytes ≡ Some z
        → IsKeyed z.0 × (bytes ≡ keyed_bytes mark z.0 ++ z.1)
    unfolding keyed_at
    keyed_takes bytes z fits e =
        let p = bind_some (truth_at bytes) (λ c. map_at at_mark c.1 >>= λ m. keyed_of left c.0 m.0 >>= λ d. Some
        (d, m.1)) z e in
        let q = bind_some (map_at at_mark p.0.1) (λ m. keyed_of left p.0.0 m.0 >>= λ d. Some (d, m.1)) z p.2 in
        let r = bind_some (keyed_of left p.0.0 q.0.0) (λ d. Some (d, q.0.1)) z q.2 in
        let made : Keyed M = keyed.of_parts p.0.0 q.0.0 in
        let g = test_some (keyed.has_form left made) made r.0 r.1 in
        let t = truth_code.takes bytes p.0 fits p.1 in
        let u = map_takes p.0.1 q.0 (behind truth_code bytes p.0 fits p.1) q.1 in
        let form : T (keyed.has_form left made) = subst T (sym g.0) tt in
        let parts : bytes ≡ keyed_bytes mark made ++ q.0.1 =
        t.1 ∙ ap (λ (l : List ℕ). truth_bytes p.0.0 ++ l) u.1
        ∙ sym (append_assoc (truth_bytes p.0.0) (map_bytes q.0.0) q.0.1) in
        let same : ◌≡◌ {A = Keyed M × List ℕ} (made, q.0.1) z =
        ap (λ (d : Keyed M). (d, q.0.1)) g.1 ∙ some_is (r.0, q.0.1) z r.2 in
        subst (λ (y : Keyed M × List ℕ). IsKeyed y.0 × (bytes ≡ keyed_bytes mark y.0 ++ y.1)) same ((form, u.0), parts)

    pub keyed_code : IsCode IsKeyed (keyed_bytes mark) (keyed_at left at_mark)
    keyed_code = record { again = keyed_again; takes = keyed_takes }

-- ---- changes of lists

abbrev ArePushed : List (List ℕ) → Type 0
ArePushed texts = HasCount texts × AllByRecursion IsShort texts

abbrev pub IsListed : Listed → Type 0
IsListed d = T (listed.has_form d) × ArePairs nothing_code (map.entries d.removed) × ArePushed d.pushed

abbrev removed_bytes : MapOf (Unit {0}) → List ℕ
removed_bytes m = list_bytes (pair_bytes text_bytes nothing_bytes) (map.entries m)

abbrev pushed_bytes : List (List ℕ) → List ℕ
pushed_bytes texts = list_bytes text_bytes texts

grouped : (a b c rest : List ℕ) → ((a ++ b) ++ c) ++ rest ≡ a ++ (b ++ (c ++ rest))
grouped a b c rest = simp append_assoc

listed_again : (d : Listed) (rest : List ℕ) → IsListed d → listed_at (listed_bytes d ++ rest) ≡ Some (d, rest)
unfolding listed_at
listed_again d rest h =
    let b = removed_bytes d.removed in
    let c = pushed_bytes d.pushed in
    ap listed_at (grouped (truth_bytes d.cleared) b c rest)
    ∙ rw (
      truth_code.again d.cleared (b ++ (c ++ rest)) tt,
      (map_code nothing_code).again d.removed (c ++ rest) h.1,
      (list_code short_code).again d.pushed rest h.2,
      true_of (listed.has_form d) h.0,
    ) refl

listed_takes : (bytes : List ℕ) (z : Listed × List ℕ) → IsBytes bytes → listed_at bytes ≡ Some z → IsListed z.0
    × (bytes ≡ listed_bytes z.0 ++ z.1)
unfolding listed_at
listed_takes bytes z fits e =
    let p = bind_some (truth_at bytes)
    (λ c. map_at nothing_at c.1 >>= λ m. list_at short_at m.1 >>= λ l. listed_of c.0 m.0 l.0 >>= λ d. Some
    (d, l.1)) z e in
    let q = bind_some (map_at nothing_at p.0.1)
    (λ m. list_at short_at m.1 >>= λ l. listed_of p.0.0 m.0 l.0 >>= λ d. Some (d, l.1)) z p.2 in
    let s = bind_some (list_at short_at q.0.1) (λ l. listed_of p.0.0 q.0.0 l.0 >>= λ d. Some (d, l.1)) z q.2 in
    let r = bind_some (listed_of p.0.0 q.0.0 s.0.0) (λ d. Some (d, s.0.1)) z s.2 in
    let made : Listed = listed.of_parts p.0.0 q.0.0 s.0.0 in
    let g = test_some (listed.has_form made) made r.0 r.1 in
    let t = truth_code.takes bytes p.0 fits p.1 in
    let behind_t = behind truth_code bytes p.0 fits p.1 in
    let u = (map_code nothing_code).takes p.0.1 q.0 behind_t q.1 in
    let v = (list_code short_code).takes q.0.1 s.0 (behind (map_code nothing_code) p.0.1 q.0 behind_t q.1) s.1 in
    let form : T (listed.has_form made) = subst T (sym g.0) tt in
    let parts : bytes ≡ listed_bytes made ++ s.0.1 =
    t.1 ∙ ap (λ (l : List ℕ). truth_bytes p.0.0 ++ l) (u.1 ∙ ap (λ (l : List ℕ). removed_bytes q.0.0 ++ l) v.1)
    ∙ sym (grouped (truth_bytes p.0.0) (removed_bytes q.0.0) (pushed_bytes s.0.0) s.0.1) in
    let same : ◌≡◌ {A = Listed × List ℕ} (made, s.0.1) z = ap (λ (d : Listed). (d, s.0.1)) g.1
    ∙ some_is (r.0, s.0.1) z r.2 in
    subst (λ (y : Listed × List ℕ). IsListed y.0 × (bytes ≡ listed_bytes y.0 ++ y.1)) same ((form, u.0, v.0), parts)

pub listed_code : IsCode IsListed listed_bytes listed_at
listed_code = record { again = listed_again; takes = listed_takes }

-- ---- deltas

abbrev pub IsDelta : Delta → Type 0
IsDelta d = HasForm d × DeltaHasRoom d

abbrev form_byte : DeltaTag → ℕ
form_byte deltas.PutBool = 0
form_byte deltas.PutCounter = 1
form_byte deltas.AddCounter = 2
form_byte deltas.PutText = 3
form_byte deltas.Set = 4
form_byte deltas.Hash = 5
form_byte deltas.List = 6
form_byte deltas.Raise = 7

-- a text that is named, and has nothing or a truth value beside it
abbrev named : {M : Type 0} → List ℕ × M → Type 0
named pair = IsShort pair.0

abbrev named_alone : {M : Type 0} → List ℕ × M → Type 0
named_alone pair = Both IsShort Always pair

delta_again : (x : Delta) (rest : List ℕ) → IsDelta x → delta_at (delta_bytes x ++ rest) ≡ Some (x, rest)
unfolding delta_at delta_of tag_at
delta_again (delta.PutBool true) rest h = refl
delta_again (delta.PutBool false) rest h = refl
delta_again (delta.PutCounter n) rest h = rw (int_code.again n rest h.1) refl
delta_again (delta.AddCounter n) rest h = rw (int_code.again n rest h.1) refl
delta_again (delta.Raise n) rest h = rw (int_code.again n rest h.1) refl
delta_again (delta.PutText text) rest h = rw (short_code.again text rest h.0) refl
delta_again (delta.Set d) rest h =
    rw ((keyed_code truth_code added).again d rest (
      h.0.0,
      (
        h.1,
        all_map named named_alone (λ x i. (i, tt)) (map.entries d.marks) h.0.1,
      ),
    )) refl
delta_again (delta.Hash d) rest h = rw ((keyed_code mark_code put_by).again d rest (h.0.0, (h.1, h.0.1))) refl
delta_again (delta.List d) rest h =
    rw (listed_code.again d rest (
      h.0.0,
      (
        h.1.0,
        all_map named named_alone (λ x i. (i, tt))
            (map.entries d.removed) h.0.1,
      ),
      (h.1.1, h.0.2),
    )) refl

delta_of_takes : (tag : DeltaTag) (rest : List ℕ) (z : Delta × List ℕ) → IsBytes rest → delta_of tag rest ≡ Some z
    → IsDelta z.0 × ((form_byte tag ∷ []) ++ rest ≡ delta_bytes z.0 ++ z.1)
unfolding delta_of
delta_of_takes deltas.PutBool rest z fits e = variant truth_code IsDelta delta_bytes (0 ∷ []) delta.PutBool (λ b. refl)
    (λ b h. (tt, tt)) rest z fits e
delta_of_takes deltas.PutCounter rest z fits e = variant int_code IsDelta delta_bytes (1 ∷ []) delta.PutCounter
    (λ n. refl) (λ n h. (tt, h)) rest z fits e
delta_of_takes deltas.AddCounter rest z fits e = variant int_code IsDelta delta_bytes (2 ∷ []) delta.AddCounter
    (λ n. refl) (λ n h. (tt, h)) rest z fits e
delta_of_takes deltas.Raise rest z fits e = variant int_code IsDelta delta_bytes (7 ∷ []) delta.Raise (λ n. refl)
    (λ n h. (tt, h)) rest z fits e
delta_of_takes deltas.PutText rest z fits e = variant short_code IsDelta delta_bytes (3 ∷ []) delta.PutText (λ t. refl)
    (λ t h. (h, tt)) rest z fits e
delta_of_takes deltas.Set rest z fits e =
    variant (keyed_code truth_code added) IsDelta delta_bytes (4 ∷ []) delta.Set (λ d. refl)
    (λ d h. ((h.0, all_map named_alone named (λ x i. i.0) (map.entries d.marks) h.1.1), h.1.0)) rest z fits e
delta_of_takes deltas.Hash rest z fits e =
    variant (keyed_code mark_code put_by) IsDelta delta_bytes (5 ∷ []) delta.Hash (λ d. refl)
    (λ d h. ((h.0, h.1.1), h.1.0)) rest z fits e
delta_of_takes deltas.List rest z fits e =
    variant listed_code IsDelta delta_bytes (6 ∷ []) delta.List (λ d. refl)
    (λ d h. (
      (h.0, all_map named_alone named (λ x i. i.0) (map.entries d.removed) h.1.1, h.2.1),
      (h.1.0, h.2.0),
    )) rest z fits e

delta_takes : (bytes : List ℕ) (z : Delta × List ℕ) → IsBytes bytes → delta_at bytes ≡ Some z → IsDelta z.0
    × (bytes ≡ delta_bytes z.0 ++ z.1)
unfolding delta_at
delta_takes bytes z fits e = tagged form_byte DELTA_TAGS refl IsDelta delta_bytes delta_of delta_of_takes bytes z fits e

pub delta_code : IsCode IsDelta delta_bytes delta_at
delta_code = record { again = delta_again; takes = delta_takes }
