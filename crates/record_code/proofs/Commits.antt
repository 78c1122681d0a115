-- Payloads are read as the commits that they are of, and what is read is a payload.
use Rattle.std.proofs.Common.{◌≡◌, ℕ, ◌-◌, ◌<◌, ◌≤◌, ◌^◌, zero, suc, get_or, Bool, true, false, ltb, T, List, [], ◌∷◌}
use Rattle.std.proofs.Common.{◌++◌, length, Option, Some, None, Result, Ok, Err, refl, sym, ap, subst, ◌∙◌}
use Rattle.std.proofs.Common.{append_assoc, arith}
use Rattle.std.specs.Prelude.{IsErr, is_some, not, ◌&&◌}
use Rattle.std.specs.Int.{w32, w64, to_be_bytes}
use Rattle.std.specs.List.{AllByRecursion, list_all}
use Rattle.std.specs.List.Sorted.{IsStrictlySortedBy}
use Rattle.std.specs.Map.{keys_of}
use Rattle.std.specs.FinMap.Entries.{is_sorted}
use Rattle.std.proofs.lemmas.Bool.{ltb-true, lt-ltb, le-ltb}
use Rattle.std.proofs.lemmas.List.{append-nil}
use Rattle.plain_data.proofs.TextMaps.{sorted-from_rising, rising-from_sorted}
use Rattle.rdt_types.specs.declared.address.Address.{Address}
use Rattle.rdt_types.specs.declared.delta.Delta.{Delta}
use Rattle.rdt_types.specs.declared.outcome.Outcome.{Outcome}
use Rattle.rdt_types.specs.declared.outcome.Outcome.TheVariants as outcome
use Rattle.rdt_types.specs.Addresses.{address_cmp}
use Rattle.rdt_types.specs.Deltas.{kind_changed}
use Rattle.rdt_types.specs.DeltaMaps.{Deltas}
use Rattle.txn_lang.specs.declared.commit.Commit.{Commit}
use Rattle.txn_lang.specs.Tree.{tree}
use Rattle.journal_core.specs.declared.limits.TheConstants.{LONGEST_BODY, FIRST_UNTOLD_CLIENT}
use Rattle.journal_core.specs.Bodies.{ends_in_blank}
use Rattle.commit_file.specs.declared.version.Version.{Version}
use Rattle.record_code.specs.Spelling.{text_bytes, outcome_bytes, deltas_bytes}
use Rattle.record_code.specs.Fields.{Reader}
use Rattle.record_code.specs.Reading.{has_kinds, positive_at, client_at, is_body, body_at, outcome_at, suits, may_write}
use Rattle.record_code.specs.Reading.{are_deltas, deltas_at}
use Rattle.record_code.specs.Forms.{IsFiled, OnlyWhereOk, AreForms}
use Rattle.record_code.specs.Room.{Always, Both, HaveRoom, DeltaHasRoom, HasRoom}
use Rattle.record_code.specs.Payloads.{payload, or_place, field, end_at, ◌>>=◌, decoded, IsKeptBody, IsKindOf}
use Rattle.record_code.specs.Payloads.{IsRecorded}
use Rattle.record_code.specs.Laws.{PayloadsAreRead, WhatIsReadIsAPayload, RunsAreRecorded}
use Rattle.record_code.proofs.Codes.{IsBytes, IsCode, behind, reformed, all_map, wide32, wide64, number_code, text_code}
use Rattle.record_code.proofs.Codes.{pair_code, list_code, when_code}
use Rattle.record_code.proofs.Maps.{true_of}
use Rattle.record_code.proofs.OutcomeCodes.{outcome_code}
use Rattle.record_code.proofs.DeltaCodes.{IsAddress, address_code, IsDelta, delta_code}
use Rattle.record_code.proofs.KindsTold.{kind_same, kind_itself}
use Rattle.record_code.proofs.Left.{runs_leave_forms}

-- ---- numbers

abbrev IsPositive : ℕ → Type 0
IsPositive n = (1 ≤ n) × (n < 2 ^ 64)

least_one : (n : ℕ) → ltb 0 n ≡ true → 1 ≤ n
least_one n e = omega (arith, ltb-true 0 n e)

positive_code : IsCode IsPositive (to_be_bytes w64) positive_at
positive_code =
    reformed (when_code (number_code w64 (2 ^ 64) wide64) (λ n. ltb 0 n)) (λ n h. (least_one n h.1, h.0))
    (λ n h. (h.1, lt-ltb 0 n (omega (arith, h.0))))

abbrev IsTold : ℕ → Type 0
IsTold client = client < FIRST_UNTOLD_CLIENT

told_fits : (client : ℕ) → IsTold client → client < 2 ^ 32
told_fits client lt = let is : FIRST_UNTOLD_CLIENT ≡ 4000000000 = refl in omega (arith, is, lt)

client_code : IsCode IsTold (to_be_bytes w32) client_at
client_code =
    reformed (when_code (number_code w32 (2 ^ 32) wide32) (λ client. ltb client FIRST_UNTOLD_CLIENT))
    (λ n h. ltb-true n FIRST_UNTOLD_CLIENT h.1)
    (λ n h. (told_fits n h, lt-ltb n FIRST_UNTOLD_CLIENT h))

-- ---- the body

both_of : (a b : Bool) → a ≡ true → b ≡ true → (a && b) ≡ true
both_of true b p q = q
both_of false b p q = absurd cc

each_of : (a b : Bool) → (a && b) ≡ true → (a ≡ true) × (b ≡ true)
each_of true b e = (refl, e)
each_of false b e = absurd cc

not_true : (b : Bool) → not b ≡ true → b ≡ false
not_true true e = absurd cc
not_true false e = refl

not_false : (b : Bool) → b ≡ false → not b ≡ true
not_false true e = absurd cc
not_false false e = refl

body_short : LONGEST_BODY < 2 ^ 32
body_short = let is : LONGEST_BODY ≡ 4096 = refl in omega (arith, is)

-- a body as it is kept, of whose kinds the version has each
abbrev IsBodyOf : Version → List ℕ → Type 0
IsBodyOf version text = IsKeptBody text × (has_kinds version text ≡ true)

body_code : (version : Version) → IsCode (IsBodyOf version) text_bytes (body_at version)
body_code version =
    reformed (when_code (text_code LONGEST_BODY body_short) (is_body version))
    (λ text h.
    let a = each_of (not (ends_in_blank text) && has_kinds version text) (is_some (tree text)) h.1 in
    let b = each_of (not (ends_in_blank text)) (has_kinds version text) a.0 in (
      record { text_is = record { short = h.0; trimmed = not_true _ b.0 }; has_tree = a.1 },
      b.1,
    ))
    (λ text h. (
      h.0.text_is.short,
      both_of (not (ends_in_blank text) && has_kinds version text) (is_some (tree text))
          (both_of (not (ends_in_blank text)) (has_kinds version text) (not_false _ h.0.text_is.trimmed) h.1)
          h.0.has_tree,
    ))

-- ---- the deltas

-- a delta at its address, each of its form, and room for it
abbrev IsEntry : Version → Address × Delta → Type 0
IsEntry version pair = IsAddress version pair.0 × IsDelta pair.1

-- what is asked of the deltas of a commit with this outcome
pub record AreKept (version : Version) (how : Outcome) (deltas : Deltas) : Type 0 where
  pub rising : IsStrictlySortedBy address_cmp (keys_of deltas)
  pub each : AllByRecursion IsFiled deltas
  pub kinds : AllByRecursion (λ pair. IsKindOf version pair.0.kind) deltas
  pub room : HaveRoom (Both Always DeltaHasRoom) deltas
  pub only : OnlyWhereOk how deltas

filed : (version : Version) (deltas : Deltas) → AllByRecursion (IsEntry version) deltas → list_all suits deltas ≡ true
    → AllByRecursion IsFiled deltas
filed version [] h e = tt
filed version (x ∷ deltas) h e =
    let b = each_of (suits x) (list_all suits deltas) e in (
      record { key = h.0.0.1; kind = kind_same (kind_changed x.1) x.0.kind b.0; form = h.0.1.0 },
      filed version deltas h.1 b.1,
    )

suit : (deltas : Deltas) → AllByRecursion IsFiled deltas → list_all suits deltas ≡ true
suit [] h = refl
suit (x ∷ deltas) h =
    both_of (suits x) (list_all suits deltas) (kind_itself (kind_changed x.1) x.0.kind h.0.kind) (suit deltas h.1)

entries : (version : Version) (deltas : Deltas) → AllByRecursion IsFiled deltas
    → AllByRecursion (λ pair. IsKindOf version pair.0.kind) deltas
    → AllByRecursion (Both Always DeltaHasRoom) deltas → AllByRecursion (IsEntry version) deltas
entries version [] f k r = tt
entries version (x ∷ deltas) f k r = (((k.0, f.0.key), (f.0.form, r.0.1)), entries version deltas f.1 k.1 r.1)

may_write_only : (how : Outcome) (deltas : Deltas) → may_write how deltas ≡ true → OnlyWhereOk how deltas
may_write_only (outcome.Ok items) deltas e = tt
may_write_only (outcome.Fail reason) [] e = refl
may_write_only (outcome.Fail reason) (x ∷ deltas) e = absurd cc
may_write_only outcome.Spent [] e = refl
may_write_only outcome.Spent (x ∷ deltas) e = absurd cc
may_write_only outcome.Big [] e = refl
may_write_only outcome.Big (x ∷ deltas) e = absurd cc

only_may_write : (how : Outcome) (deltas : Deltas) → OnlyWhereOk how deltas → may_write how deltas ≡ true
only_may_write (outcome.Ok items) deltas h = refl
only_may_write (outcome.Fail reason) [] h = refl
only_may_write (outcome.Fail reason) (x ∷ deltas) h = absurd cc
only_may_write outcome.Spent [] h = refl
only_may_write outcome.Spent (x ∷ deltas) h = absurd cc
only_may_write outcome.Big [] h = refl
only_may_write outcome.Big (x ∷ deltas) h = absurd cc

pub deltas_code : (version : Version) (how : Outcome) → IsCode (AreKept version how) deltas_bytes (deltas_at version how)
deltas_code version how =
    reformed (when_code (list_code (pair_code (address_code version) delta_code)) (are_deltas how))
    (λ deltas h.
    let a = each_of (is_sorted address_cmp deltas && list_all suits deltas) (may_write how deltas) h.1 in
    let b = each_of (is_sorted address_cmp deltas) (list_all suits deltas) a.0 in
    record {
      rising = rising-from_sorted address_cmp deltas (subst T (sym b.0) tt);
      each = filed version deltas h.0.1 b.1;
      kinds = all_map (IsEntry version) (λ pair. IsKindOf version pair.0.kind) (λ x i. i.0.0) deltas h.0.1;
      room = (h.0.0, all_map (IsEntry version) (Both Always DeltaHasRoom) (λ x i. (tt, i.1.1)) deltas h.0.1);
      only = may_write_only how deltas a.1;
    })
    (λ deltas h. (
      (h.room.0, entries version deltas h.each h.kinds h.room.1),
      both_of (is_sorted address_cmp deltas && list_all suits deltas) (may_write how deltas)
          (both_of (is_sorted address_cmp deltas) (list_all suits deltas)
          (true_of _ (sorted-from_rising address_cmp deltas h.rising)) (suit deltas h.each))
          (only_may_write how deltas h.only),
    ))

-- ---- the whole

-- what a step read, where something was read behind it
bind_ok : {A B : Type 0} (read : Result A ℕ) (f : A → Result B ℕ) (y : B) → (read >>= f) ≡ Ok y → (x : A)
    × (read ≡ Ok x) × (f x ≡ Ok y)
bind_ok (Ok x) f y e = (x, refl, e)
bind_ok (Err place) f y e = absurd cc

ok_is : {A : Type 0} (x y : A) → or_place 0 (Some x) ≡ Ok y → x ≡ y
ok_is x y e = cc

-- a field that was read
field_some : {A : Type 0} (place : ℕ) (read : Option A) (x : A) → or_place place read ≡ Ok x → read ≡ Some x
field_some place None x e = absurd cc
field_some place (Some y) x e = cc

-- the six fields, one behind another
fields : (n k s t o d : List ℕ) → ((((n ++ k) ++ s) ++ t) ++ o) ++ d ≡ n ++ (k ++ (s ++ (t ++ (o ++ (d ++ [])))))
fields n k s t o d = simp (append_assoc, append-nil)

pub payloads_are_read : PayloadsAreRead
unfolding decoded
payloads_are_read version c h =
    let n = to_be_bytes w64 c.number in
    let k = to_be_bytes w32 c.client in
    let s = to_be_bytes w64 c.seq in
    let t = text_bytes c.body in
    let o = outcome_bytes c.outcome in
    let d = deltas_bytes c.deltas in
    let kept : AreKept version c.outcome c.deltas =
    record {
      rising = h.forms.rising;
      each = h.forms.each;
      kinds = h.kinds.deltas;
      room = h.room.deltas;
      only =
          h.forms.only;
    } in
    let one = positive_code.again c.number (k ++ (s ++ (t ++ (o ++ (d ++ []))))) (h.number, h.room.number) in
    let two = client_code.again c.client (s ++ (t ++ (o ++ (d ++ [])))) h.client in
    let three = positive_code.again c.seq (t ++ (o ++ (d ++ []))) (h.seq, h.room.seq) in
    let four = (body_code version).again c.body (o ++ (d ++ [])) (h.body, h.kinds.body) in
    let five = outcome_code.again c.outcome (d ++ []) (h.forms.outcome, h.room.outcome) in
    let six = (deltas_code version c.outcome).again c.deltas [] kept in
    ap (decoded version) (fields n k s t o d) ∙ rw (one, two, three, four, five, six) refl

-- ---- what is read

-- fields that stand one behind another, with nothing behind them, are the whole
joined : (bytes n n' k k' s s' t t' o o' d d' : List ℕ) → bytes ≡ n ++ n' → n' ≡ k ++ k' → k' ≡ s ++ s' → s' ≡ t ++ t'
    → t' ≡ o ++ o' → o' ≡ d ++ d'
    → d' ≡ [] → bytes ≡ ((((n ++ k) ++ s) ++ t) ++ o) ++ d
joined bytes n n' k k' s s' t t' o o' d d' e1 e2 e3 e4 e5 e6 e7 =
    rw (e1, e2, e3, e4, e5, e6, e7) (sym (fields n k s t o d))

fits_at : (i : ℕ) (bytes : List ℕ) → AllByRecursion (λ byte. byte < 256) bytes → get_or bytes i 0 < 256
fits_at i [] h = omega arith
fits_at zero (b ∷ bytes) h = h.0
fits_at (suc i) (b ∷ bytes) h = fits_at i bytes h.1

end_some : (bytes : List ℕ) (z : Unit {0} × List ℕ) → end_at bytes ≡ Some z → bytes ≡ []
end_some [] z e = refl
end_some (b ∷ bytes) z e = absurd cc

module _ (version : Version) (bytes : List ℕ) where
  abbrev made : ℕ → ℕ → ℕ → List ℕ → Outcome → Deltas → Commit
  made n k s t o d = record { number = n; client = k; seq = s; body = t; outcome = o; deltas = d }

  -- what is read behind each of the fields
  abbrev behind_deltas : ℕ → ℕ → ℕ → List ℕ → Outcome → Deltas × List ℕ → Result Commit ℕ
  behind_deltas n k s t o x = field bytes end_at x.1 >>= λ end. Ok (made n k s t o x.0)

  abbrev behind_outcome : ℕ → ℕ → ℕ → List ℕ → Outcome × List ℕ → Result Commit ℕ
  behind_outcome n k s t x = field bytes (deltas_at version x.0) x.1 >>= behind_deltas n k s t x.0

  abbrev behind_body : ℕ → ℕ → ℕ → List ℕ × List ℕ → Result Commit ℕ
  behind_body n k s x = field bytes outcome_at x.1 >>= behind_outcome n k s x.0

  abbrev behind_seq : ℕ → ℕ → ℕ × List ℕ → Result Commit ℕ
  behind_seq n k x = field bytes (body_at version) x.1 >>= behind_body n k x.0

  abbrev behind_client : ℕ → ℕ × List ℕ → Result Commit ℕ
  behind_client n x = field bytes positive_at x.1 >>= behind_seq n x.0

  abbrev behind_number : ℕ × List ℕ → Result Commit ℕ
  behind_number x = field bytes client_at x.1 >>= behind_client x.0

  -- a field that was read in a payload: what it is, and that what is behind it are bytes
  record FieldRead {A : Type 0} (Form : A → Type 0) (bytes_of : A → List ℕ) (rest : List ℕ)
      (x : A × List ℕ) : Type 0 where
    form : Form x.0
    parts : rest ≡ bytes_of x.0 ++ x.1
    fits : IsBytes x.1

  taken : {A : Type 0} {Form : A → Type 0} {bytes_of : A → List ℕ} {at : Reader A} (code : IsCode Form bytes_of at)
      (rest : List ℕ)
      (x : A × List ℕ) → IsBytes rest → field bytes at rest ≡ Ok x → FieldRead Form bytes_of rest x
  taken {at = at} code rest x fits e =
      let read : at rest ≡ Some x = field_some (length bytes - length rest) (at rest) x e in
      let t = code.takes rest x fits read in
      record { form = t.0; parts = t.1; fits = behind code rest x fits read }

  read_so : (c : Commit) → IsBytes bytes → (field bytes positive_at bytes >>= behind_number) ≡ Ok c
      → IsRecorded version c × (bytes ≡ payload c)
  read_so c fits e =
      let a = bind_ok (field bytes positive_at bytes) behind_number c e in
      let n = taken positive_code bytes a.0 fits a.1 in
      let b = bind_ok (field bytes client_at a.0.1) (behind_client a.0.0) c a.2 in
      let k = taken client_code a.0.1 b.0 n.fits b.1 in
      let d = bind_ok (field bytes positive_at b.0.1) (behind_seq a.0.0 b.0.0) c b.2 in
      let s = taken positive_code b.0.1 d.0 k.fits d.1 in
      let f = bind_ok (field bytes (body_at version) d.0.1) (behind_body a.0.0 b.0.0 d.0.0) c d.2 in
      let t = taken (body_code version) d.0.1 f.0 s.fits f.1 in
      let g = bind_ok (field bytes outcome_at f.0.1) (behind_outcome a.0.0 b.0.0 d.0.0 f.0.0) c f.2 in
      let o = taken outcome_code f.0.1 g.0 t.fits g.1 in
      let h = bind_ok (field bytes (deltas_at version g.0.0) g.0.1)
      (behind_deltas a.0.0 b.0.0 d.0.0 f.0.0 g.0.0) c g.2 in
      let w = taken (deltas_code version g.0.0) g.0.1 h.0 o.fits h.1 in
      let i = bind_ok (field bytes end_at h.0.1) (λ end. Ok (made a.0.0 b.0.0 d.0.0 f.0.0 g.0.0 h.0.0)) c h.2 in
      let nothing : h.0.1 ≡ [] = end_some h.0.1 i.0 (field_some (length bytes - length h.0.1) (end_at h.0.1) i.0 i.1) in
      let same : made a.0.0 b.0.0 d.0.0 f.0.0 g.0.0 h.0.0 ≡ c =
      ok_is (made a.0.0 b.0.0 d.0.0 f.0.0 g.0.0 h.0.0) c i.2 in
      let parts : bytes ≡ payload (made a.0.0 b.0.0 d.0.0 f.0.0 g.0.0 h.0.0) =
      joined bytes (to_be_bytes w64 a.0.0) a.0.1 (to_be_bytes w32 b.0.0) b.0.1 (to_be_bytes w64 d.0.0) d.0.1
      (text_bytes f.0.0) f.0.1
      (outcome_bytes g.0.0) g.0.1 (deltas_bytes h.0.0) h.0.1 n.parts k.parts s.parts t.parts o.parts w.parts nothing in
      let recorded : IsRecorded version (made a.0.0 b.0.0 d.0.0 f.0.0 g.0.0 h.0.0) = record {
        number = n.form.0;
        client = k.form;
        seq = s.form.0;
        body = t.form.0;
        forms = record { outcome = o.form.0; rising = w.form.rising; each = w.form.each; only = w.form.only };
        kinds = record { body = t.form.1; deltas = w.form.kinds };
        room = record {
          number = n.form.1;
          client = told_fits b.0.0 k.form;
          seq = s.form.1;
          outcome = o.form.1;
          deltas = w.form.room;
        };
      } in
      subst (λ (y : Commit). IsRecorded version y × (bytes ≡ payload y)) same (recorded, parts)

pub what_is_read_is_a_payload : WhatIsReadIsAPayload
unfolding decoded
what_is_read_is_a_payload version bytes c all e = read_so version bytes c (λ i. fits_at i bytes all) e

-- ---- what may be kept

pub runs_are_recorded : RunsAreRecorded
runs_are_recorded version c h room kinds =
    let left = runs_leave_forms h.of_run.ran.body h.of_run.ran.values h.of_run.run h.of_run.ran.ran in
    let forms : AreForms c.outcome c.deltas =
    subst (λ (how : Outcome). AreForms how c.deltas) (sym h.of_run.outcome)
    (subst (λ (deltas : Deltas). AreForms h.of_run.run.outcome deltas) (sym h.of_run.deltas) left) in
    record {
      number = h.number;
      client = h.client;
      seq = h.seq;
      body = record { text_is = h.of_run.body_text; has_tree = ap is_some h.of_run.ran.read };
      forms = forms;
      kinds = kinds;
      room = room;
    }

-- ---- whose client isn't told of

-- by whether the number is from 1: if not it is refused, and else the client is
refused : (version : Version) (c : Commit) (rest : List ℕ) → HasRoom c → FIRST_UNTOLD_CLIENT ≤ c.client → (b : Bool)
    → ltb 0 c.number ≡ b
    → IsErr (decoded version (to_be_bytes w64 c.number ++ (to_be_bytes w32 c.client ++ rest)))
unfolding decoded
refused version c rest room untold true e =
    rw (
      (number_code w64 (2 ^ 64) wide64).again c.number (to_be_bytes w32 c.client ++ rest) room.number,
      e,
      (number_code w32 (2 ^ 32) wide32).again c.client rest room.client,
      le-ltb c.client FIRST_UNTOLD_CLIENT untold,
    ) refl
refused version c rest room untold false e =
    rw ((number_code w64 (2 ^ 64) wide64).again c.number (to_be_bytes w32 c.client ++ rest) room.number, e) refl

pub untold_are_refused : (version : Version) (c : Commit) → HasRoom c → FIRST_UNTOLD_CLIENT ≤ c.client
    → IsErr (decoded version (payload c))
untold_are_refused version c room untold =
    let parts = fields (to_be_bytes w64 c.number) (to_be_bytes w32 c.client) (to_be_bytes w64 c.seq)
    (text_bytes c.body) (outcome_bytes c.outcome)
    (deltas_bytes c.deltas) in
    let rest = to_be_bytes w64 c.seq ++ (text_bytes c.body ++
    (outcome_bytes c.outcome ++ (deltas_bytes c.deltas ++ []))) in
    subst (λ (bytes : List ℕ). IsErr (decoded version bytes)) (sym parts)
    (refused version c rest room untold (ltb 0 c.number) refl)
