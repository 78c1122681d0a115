-- The parts of requests are read as they are written.
use Rattle.std.proofs.Common.{◌≡◌, ℕ, ◌^◌, List, [], ◌∷◌, ◌++◌, Option, Some, refl, sym, ap, subst, ◌∙◌}
use Rattle.std.specs.Int.{w64}
use Rattle.conflict_table.specs.declared.observation.Obs.{Obs}
use Rattle.conflict_table.specs.declared.observation.Obs.TheVariants as obs
use Rattle.commit_file.specs.declared.version.Version.TheVariants as version
use Rattle.record_code.specs.Spelling.{address_bytes}
use Rattle.record_code.specs.Fields.{Reader, ◌>>=◌, tag_at}
use Rattle.record_code.proofs.Codes.{IsBytes, IsCode, some_is, reformed, wide64, number_code, int_code, truth_code}
use Rattle.record_code.proofs.Codes.{pair_code, tagged, variant}
use Rattle.record_code.proofs.OutcomeCodes.{short_code}
use Rattle.record_code.proofs.DeltaCodes.{address_code}
use Rattle.record_code.proofs.KindsTold.{two_has}
use Rattle.remote_wire.specs.declared.tags.ObsTag.{ObsTag}
use Rattle.remote_wire.specs.declared.tags.ObsTag.TheVariants as observed
use Rattle.remote_wire.specs.declared.tags.TheConstants.{OBS_TAGS}
use Rattle.remote_wire.specs.Spelling.{byte_bytes, long_bytes, obs_bytes, based_bytes, base_bytes}
use Rattle.remote_wire.specs.Forms.{IsOneByte, IsEightBytes, HasShortKey, IsObs, IsBased, IsBase}
use Rattle.remote_wire.specs.Reading.{made, byte_at, long_at, place_at, over_of, obs_of, obs_at, based_of, based_at}
use Rattle.remote_wire.specs.Reading.{base_of, base_at}

-- ---- what is made of what is read

-- a thing that is made of its parts is read as its parts are
pub made_code : {A B : Type 0} {F : A → Type 0} {a : A → List ℕ} {at_a : Reader A} → IsCode F a at_a
    → (G : B → Type 0) (b : B → List ℕ) (make : A → B) (parts : B → A) → ((y : B) → make (parts y) ≡ y)
    → ((x : A) → b (make x) ≡ a x) → ((x : A) → F x → G (make x)) → ((y : B) → G y → F (parts y))
    → IsCode G b (made make at_a)
made_code {A = A} {B = B} {a = a} {at_a = at_a} code G b make parts same spelled there back = record {
  again = λ y rest h.
      ap (λ (l : List ℕ). made make at_a (l ++ rest)) (sym (ap b (same y)) ∙ spelled (parts y))
      ∙ ap (λ (o : Option (A × List ℕ)). o >>= λ x. Some (make x.0, x.1)) (code.again (parts y) rest (back y h))
      ∙ ap (λ (z : B). Some (z, rest)) (same y);
  takes = λ bytes z fits e. variant code G b [] make spelled there bytes z fits e;
}

pub made_again : {A B : Type 0} {F : A → Type 0} {a : A → List ℕ} {at_a : Reader A} → IsCode F a at_a → (make : A → B)
    (x : A) (rest : List ℕ) → F x → made make at_a (a x ++ rest) ≡ Some (make x, rest)
made_again {A = A} code make x rest h =
    ap (λ (o : Option (A × List ℕ)). o >>= λ y. Some (make y.0, y.1)) (code.again x rest h)

-- ---- numbers and addresses

byte_again : (n : ℕ) (rest : List ℕ) → IsOneByte n → byte_at (byte_bytes n ++ rest) ≡ Some (n, rest)
unfolding byte_at
byte_again n rest h = refl

byte_takes : (bytes : List ℕ) (z : ℕ × List ℕ) → IsBytes bytes → byte_at bytes ≡ Some z → IsOneByte z.0
    × (bytes ≡ byte_bytes z.0 ++ z.1)
unfolding byte_at
byte_takes [] z fits e = absurd cc
byte_takes (byte ∷ rest) z fits e =
    subst (λ (y : ℕ × List ℕ). IsOneByte y.0 × (byte ∷ rest ≡ byte_bytes y.0 ++ y.1)) (some_is (byte, rest) z e)
    (fits 0, refl)

pub byte_code : IsCode IsOneByte byte_bytes byte_at
byte_code = record { again = byte_again; takes = byte_takes }

pub long_code : IsCode IsEightBytes long_bytes long_at
long_code = number_code w64 (2 ^ 64) wide64

pub place_code : IsCode HasShortKey address_bytes place_at
place_code = reformed (address_code version.Two) (λ x h. h.1) (λ x h. (two_has x.kind, h))

-- ---- observations

abbrev form_byte : ObsTag → ℕ
form_byte observed.BoolIs = 0
form_byte observed.CounterIs = 1
form_byte observed.TextIs = 2
form_byte observed.SetHas = 3
form_byte observed.SetAll = 4
form_byte observed.HashAt = 5
form_byte observed.HashAll = 6
form_byte observed.ListAt = 7
form_byte observed.ListAll = 8
form_byte observed.PeakIs = 9
form_byte observed.PeakOver = 10

obs_again : (x : Obs) (rest : List ℕ) → IsObs x → obs_at (obs_bytes x ++ rest) ≡ Some (x, rest)
unfolding obs_at obs_of tag_at
obs_again obs.BoolIs rest h = refl
obs_again obs.CounterIs rest h = refl
obs_again obs.TextIs rest h = refl
obs_again (obs.SetHas text) rest h = rw (short_code.again text rest h) refl
obs_again obs.SetAll rest h = refl
obs_again (obs.HashAt field) rest h = rw (short_code.again field rest h) refl
obs_again obs.HashAll rest h = refl
obs_again (obs.ListAt place) rest h = rw (long_code.again place rest h) refl
obs_again obs.ListAll rest h = refl
obs_again (obs.PeakIs n) rest h = rw (int_code.again n rest h) refl
obs_again (obs.PeakOver n over) rest h = rw ((pair_code int_code truth_code).again (n, over) rest (h, tt)) refl

-- a form without parts
pub bare : {B : Type 0} (G : B → Type 0) (b : B → List ℕ) (front : List ℕ) (x : B) (rest : List ℕ) (z : B × List ℕ) → G x
    → front ++ rest ≡ b x ++ rest → Some (x, rest) ≡ Some z → G z.0 × (front ++ rest ≡ b z.0 ++ z.1)
bare {B} G b front x rest z g same e =
    subst (λ (y : B × List ℕ). G y.0 × (front ++ rest ≡ b y.0 ++ y.1)) (some_is (x, rest) z e) (g, same)

obs_of_takes : (tag : ObsTag) (rest : List ℕ) (z : Obs × List ℕ) → IsBytes rest → obs_of tag rest ≡ Some z
    → IsObs z.0 × ((form_byte tag ∷ []) ++ rest ≡ obs_bytes z.0 ++ z.1)
unfolding obs_of
obs_of_takes observed.BoolIs rest z fits e = bare IsObs obs_bytes (0 ∷ []) obs.BoolIs rest z tt refl e
obs_of_takes observed.CounterIs rest z fits e = bare IsObs obs_bytes (1 ∷ []) obs.CounterIs rest z tt refl e
obs_of_takes observed.TextIs rest z fits e = bare IsObs obs_bytes (2 ∷ []) obs.TextIs rest z tt refl e
obs_of_takes observed.SetHas rest z fits e = variant short_code IsObs obs_bytes (3 ∷ []) obs.SetHas (λ x. refl)
    (λ x h. h) rest z fits e
obs_of_takes observed.SetAll rest z fits e = bare IsObs obs_bytes (4 ∷ []) obs.SetAll rest z tt refl e
obs_of_takes observed.HashAt rest z fits e = variant short_code IsObs obs_bytes (5 ∷ []) obs.HashAt (λ x. refl)
    (λ x h. h) rest z fits e
obs_of_takes observed.HashAll rest z fits e = bare IsObs obs_bytes (6 ∷ []) obs.HashAll rest z tt refl e
obs_of_takes observed.ListAt rest z fits e = variant long_code IsObs obs_bytes (7 ∷ []) obs.ListAt (λ x. refl)
    (λ x h. h) rest z fits e
obs_of_takes observed.ListAll rest z fits e = bare IsObs obs_bytes (8 ∷ []) obs.ListAll rest z tt refl e
obs_of_takes observed.PeakIs rest z fits e = variant int_code IsObs obs_bytes (9 ∷ []) obs.PeakIs (λ x. refl)
    (λ x h. h) rest z fits e
obs_of_takes observed.PeakOver rest z fits e =
    variant (pair_code int_code truth_code) IsObs obs_bytes (10 ∷ []) over_of (λ x. refl) (λ x h. h.0) rest z fits e

obs_takes : (bytes : List ℕ) (z : Obs × List ℕ) → IsBytes bytes → obs_at bytes ≡ Some z → IsObs z.0
    × (bytes ≡ obs_bytes z.0 ++ z.1)
unfolding obs_at
obs_takes bytes z fits e = tagged form_byte OBS_TAGS refl IsObs obs_bytes obs_of obs_of_takes bytes z fits e

pub obs_code : IsCode IsObs obs_bytes obs_at
obs_code = record { again = obs_again; takes = obs_takes }

-- ---- observations at their addresses, bases

pub based_code : IsCode IsBased based_bytes based_at
unfolding based_at
based_code =
    made_code (pair_code place_code (pair_code obs_code long_code)) IsBased based_bytes based_of
    (λ b. (b.address, (b.obs, b.base))) (λ b. refl) (λ x. refl)
    (λ x h. record { key = h.0; observed = h.1.0; base = h.1.1 }) (λ b h. (h.key, (h.observed, h.base)))

pub base_code : IsCode IsBase base_bytes base_at
unfolding base_at
base_code =
    made_code (pair_code place_code long_code) IsBase base_bytes base_of (λ b. (b.address, b.base)) (λ b. refl)
    (λ x. refl) (λ x h. record { key = h.0; base = h.1 }) (λ b h. (h.key, h.base))
