-- What is printed is a spelling of its reply.
use Rattle.std.proofs.Common.{◌≡◌, ◌≤◌, ℕ, ℤ, Bool, false, [], ◌++◌, refl, ap, sym, ◌∙◌, subst, inl, inr, codes, append-nil}
use Rattle.std.specs.Fmt.{decimal, signed_decimal}
use Rattle.plain_data.specs.Texts.{Bytes}
use Rattle.predictive_parsing.specs.Rules.{Rule, Then, Pure, Of, Word, Behind}
use Rattle.rdt_types.specs.declared.address.Kind.{Kind}
use Rattle.rdt_types.specs.declared.address.Kind.TheVariants as kinds
use Rattle.rdt_types.specs.declared.outcome.Outcome.{Outcome}
use Rattle.rdt_types.specs.declared.operation.WriteOp.{WriteOp}
use Rattle.rdt_types.specs.Printed.{printed_text, printed_address}
use Rattle.rdt_types.specs.Values.{kind_written}
use Rattle.conflict_table.specs.declared.observation.Obs.{Obs}
use Rattle.conflict_table.specs.declared.observation.Obs.TheVariants as obs
use Rattle.conflict_table.specs.Observing.{kind_observed}
use Rattle.abort_witness.specs.declared.witness.Witness.{Witness}
use Rattle.abort_witness.specs.Naming.{IsPrintable}
use Rattle.dtext.specs.Printing.{printed_outcome, printed_part}
use Rattle.dtext.specs.Spellings.{TextRule, Fits64, NumberRule, NaturalRule, AddressRule, OutcomeRule, PartOf}
use Rattle.dtext.specs.ReadBack.{FitsOutcome, FitsPart}
use Rattle.dtext.proofs.PrintedBack.{text_made, address_made, outcome_made, part_of_made}
use Rattle.session_text.specs.declared.limits.TheConstants.{LARGEST, LARGEST_SHARD, LARGEST_COLUMN, LARGEST_CLIENT}
use Rattle.session_text.specs.declared.reply.Reply.{Reply}
use Rattle.session_text.specs.declared.reply.Reply.TheVariants as reply
use Rattle.session_text.specs.declared.reply.Why.{Why}
use Rattle.session_text.specs.declared.reply.Why.TheVariants as why
use Rattle.session_text.specs.declared.words.ReplyWord.{ReplyWord}
use Rattle.session_text.specs.declared.words.ReplyWord.TheVariants as word
use Rattle.session_text.specs.declared.words.WhyWord.{WhyWord}
use Rattle.session_text.specs.declared.words.WhyWord.TheVariants as reason
use Rattle.session_text.specs.Lines.{NameRule}
use Rattle.session_text.specs.Printing.{word_of, why_of, printed_obs, printed_why, printed_witness, printed_reply}
use Rattle.session_text.specs.Replies.{Numbered, ObsOf, Column, WhyForm, WhyRule, WitnessRule, Form, ReplyRule}
use Rattle.session_text.specs.ReadBack.{IsName, FitsObs, FitsWitness, FitsWhy, Fits}

-- ---- parts

module _ {A : Type 0} (w : Bytes) (P : Rule ℕ A) where
  -- what stands behind a word
  behind : (ts us : Bytes) (a : A) → P ts a us → Behind w P (w ++ ts) a us
  behind ts us a r = record { value = tt; middle = ts; first = refl; second = r }

-- seen as another value
of : {A B : Type 0} (f : A → B) (P : Rule ℕ A) (ts us : Bytes) (a : A) → P ts a us → Of f P ts (f a) us
of f P ts us a r = record { value = a; middle = us; first = r; second = record { is = refl; here = refl } }

-- one thing and then another
next : {A B : Type 0} (P : Rule ℕ A) (Q : A → Rule ℕ B) (ts ms us : Bytes) (a : A) (b : B) → P ts a ms → Q a ms b us → Then P Q ts b us
next P Q ts ms us a b r s = record { value = a; middle = ms; first = r; second = s }

-- a number in decimal is its own spelling, whatever follows
natural : (limit n : ℕ) (us : Bytes) → n ≤ limit → NaturalRule limit (decimal n ++ us) n us
natural limit n us h = record { spelled = refl; within = h }

-- a number at the end
last : (limit n : ℕ) → n ≤ limit → NaturalRule limit (decimal n) n []
last limit n h = record { spelled = sym (append-nil (decimal n)); within = h }

-- a number behind a word, whatever follows
numbered : (w : Bytes) (n : ℕ) (us : Bytes) → n ≤ LARGEST → Numbered w (w ++ (decimal n ++ us)) n us
numbered w n us h = behind w (NaturalRule LARGEST) (decimal n ++ us) us n (natural LARGEST n us h)

-- a number behind a word, at the end
last_number : (w : Bytes) (n : ℕ) → n ≤ LARGEST → Numbered w (w ++ decimal n) n []
last_number w n h = behind w (NaturalRule LARGEST) (decimal n) [] n (last LARGEST n h)

-- a column at the end stands behind its space
last_column : (n : ℕ) → n ≤ LARGEST_COLUMN → Column (codes " " ++ decimal n) n []
last_column n h = behind (codes " ") (NaturalRule LARGEST_COLUMN) (decimal n) [] n (last LARGEST_COLUMN n h)

-- an outcome at the end stands behind its space, and is printed as one of its spellings
ending : (f : Outcome → Reply) (o : Outcome) → FitsOutcome o → Of f (Behind (codes " ") OutcomeRule) (codes " " ++ printed_outcome o) (f o) []
ending f o h = of f (Behind (codes " ") OutcomeRule) (codes " " ++ printed_outcome o) [] o
    (behind (codes " ") OutcomeRule (printed_outcome o) [] o (subst (λ ts. OutcomeRule ts o []) (append-nil (printed_outcome o)) (outcome_made o [] h)))

-- a name, whatever follows
name_made : (name us : Bytes) → IsName name → NameRule (name ++ us) name us
name_made name us r =
    let o = r.first in
    let s = r.second in
    let t = s.first in
    record {
      value = r.value;
      middle = r.middle ++ us;
      first = record { item = o.item; first = ap (λ xs. xs ++ us) o.first; made = o.made };
      second = record {
        value = s.value;
        middle = us;
        first = record { cut = ap (λ xs. xs ++ us) (t.cut ∙ ap (λ xs. s.value ++ xs) s.second.here ∙ append-nil s.value); pass = t.pass; within = t.within };
        second = record { is = s.second.is; here = refl };
      };
    }

-- ---- observations and parts beside their address

-- a word that stands for one value is its spelling, whatever follows
word_made : {A : Type 0} (w : Bytes) (a : A) (us : Bytes) → Of (λ _. a) (Word w) (w ++ us) a us
word_made w a us = record { value = tt; middle = us; first = refl; second = record { is = refl; here = refl } }

-- a number with its sign behind a word, whatever follows
signed_made : (w : Bytes) (f : ℤ → Obs) (n : ℤ) (us : Bytes) → Fits64 n → Behind w (Of f NumberRule) (w ++ (signed_decimal n ++ us)) (f n) us
signed_made w f n us h =
    behind w (Of f NumberRule) (signed_decimal n ++ us) us (f n)
    (of f NumberRule (signed_decimal n ++ us) us n (record { spelled = refl; fits = h }))

-- row by row: an observation is printed as a spelling beside an address of the kind that it observes
obs_made : (o : Obs) (us : Bytes) → FitsObs o → IsPrintable o → ObsOf (kind_observed o) (printed_obs o ++ us) o us
obs_made obs.BoolIs us h is = word_made (codes "whole") obs.BoolIs us
obs_made obs.CounterIs us h is = word_made (codes "whole") obs.CounterIs us
obs_made obs.TextIs us h is = word_made (codes "whole") obs.TextIs us
obs_made (obs.SetHas x) us h is =
    inl (behind (codes "has ") (Of obs.SetHas TextRule) (printed_text x ++ us) us (obs.SetHas x)
    (of obs.SetHas TextRule (printed_text x ++ us) us x (text_made x us)))
obs_made obs.SetAll us h is = inr (word_made (codes "all") obs.SetAll us)
obs_made (obs.HashAt f) us h is =
    inl (behind (codes "at ") (Of obs.HashAt TextRule) (printed_text f ++ us) us (obs.HashAt f)
    (of obs.HashAt TextRule (printed_text f ++ us) us f (text_made f us)))
obs_made obs.HashAll us h is = inr (word_made (codes "all") obs.HashAll us)
obs_made (obs.ListAt i) us h is = inl (of obs.ListAt (Numbered (codes "at ")) (codes "at " ++ (decimal i ++ us)) us i (numbered (codes "at ") i us h))
obs_made obs.ListAll us h is = inr (word_made (codes "all") obs.ListAll us)
obs_made (obs.PeakIs v) us h is = inl (signed_made (codes "is ") obs.PeakIs v us h)
obs_made (obs.PeakOver n r) us h is =
    subst (λ (t : Bool). ObsOf kinds.Peak (codes "over " ++ (signed_decimal n ++ us)) (obs.PeakOver n t) us) (sym is)
    (inr (signed_made (codes "over ") (λ m. obs.PeakOver m false) n us h))

-- so it is one beside every address of that kind
obs_beside : (kind : Kind) (o : Obs) (us : Bytes) → kind_observed o ≡ kind → FitsObs o → IsPrintable o
    → ObsOf kind (printed_obs o ++ us) o us
obs_beside kind o us e h n = subst (λ k. ObsOf k (printed_obs o ++ us) o us) e (obs_made o us h n)

-- and so is a part beside every address of the kind that it writes
part_beside : (kind : Kind) (p : WriteOp) (us : Bytes) → kind_written p ≡ kind → FitsPart p → PartOf kind (printed_part p ++ us) p us
part_beside kind p us e h = subst (λ k. PartOf k (printed_part p ++ us) p us) e (part_of_made p us h)

-- the address, the observation, its base, the part and the commit, each up to where the next begins
witness_made : (w : Witness) → FitsWitness w → WitnessRule (codes " " ++ printed_witness w) w []
witness_made w h =
    let k = w.address.kind in
    let e = codes " commit " ++ decimal w.number in
    let d = codes " clash " ++ (printed_part w.part ++ e) in
    let c = codes " base " ++ (decimal w.base ++ d) in
    let b = codes " " ++ (printed_obs w.obs ++ c) in
    record {
      value = w.address;
      middle = b;
      first = behind (codes " ") AddressRule (printed_address w.address ++ b) b w.address (address_made w.address b);
      second = record {
        value = w.obs;
        middle = c;
        first = behind (codes " ") (ObsOf k) (printed_obs w.obs ++ c) c w.obs (obs_beside k w.obs c h.kind.observed h.obs h.printable);
        second = record {
          value = w.base;
          middle = d;
          first = numbered (codes " base ") w.base d h.base;
          second = record {
            value = w.part;
            middle = e;
            first = behind (codes " clash ") (PartOf k) (printed_part w.part ++ e) e w.part (part_beside k w.part e h.kind.written h.part);
            second =
                record {
                  value = w.number;
                  middle = [];
                  first = last_number (codes " commit ") w.number h.number;
                  second = record { is = refl; here = refl };
                };
          };
        };
      };
    }

-- ---- why a line is refused

-- a reason is its word, and then what stands behind it
reason_made : (r : WhyWord) (a : Why) (ts : Bytes) → WhyForm r ts a [] → WhyRule (why_of r ++ ts) a []
reason_made r a ts h = record { value = r; middle = ts; first = refl; second = h }

-- nothing stands for a value that needs nothing more
here : {A : Type 0} (a : A) → Pure {I = ℕ} a [] a []
here a = record { is = refl; here = refl }

-- reason by reason: the word alone, or the word and a column
why_made : (y : Why) → FitsWhy y → WhyRule (printed_why y) y []
why_made why.Long h = reason_made reason.Long why.Long [] (here why.Long)
why_made why.Client h = reason_made reason.Client why.Client [] (here why.Client)
why_made why.Verb h = reason_made reason.Verb why.Verb [] (here why.Verb)
why_made (why.Syntax c) h =
    reason_made reason.Syntax (why.Syntax c) (codes " " ++ decimal c)
    (of why.Syntax Column (codes " " ++ decimal c) [] c (last_column c h))
why_made (why.BadType c) h =
    reason_made reason.BadType (why.BadType c) (codes " " ++ decimal c)
    (of why.BadType Column (codes " " ++ decimal c) [] c (last_column c h))
why_made (why.Writes c) h =
    reason_made reason.Writes (why.Writes c) (codes " " ++ decimal c)
    (of why.Writes Column (codes " " ++ decimal c) [] c (last_column c h))
why_made why.Name h = reason_made reason.Name why.Name [] (here why.Name)
why_made why.Busy h = reason_made reason.Busy why.Busy [] (here why.Busy)
why_made why.NoAttempt h = reason_made reason.NoAttempt why.NoAttempt [] (here why.NoAttempt)

-- ---- replies

-- a reply is its first word, and then what stands behind it
first_made : (r : ReplyWord) (a : Reply) (ts : Bytes) → Form r ts a [] → ReplyRule (word_of r ++ ts) a []
first_made r a ts h = record { value = r; middle = ts; first = refl; second = h }

-- a shard's number stands behind its space
shard_made : (shard : ℕ) (us : Bytes) → shard ≤ LARGEST_SHARD → Behind (codes " ") (NaturalRule LARGEST_SHARD) (codes " " ++ (decimal shard ++ us)) shard us
shard_made shard us h = behind (codes " ") (NaturalRule LARGEST_SHARD) (decimal shard ++ us) us shard (natural LARGEST_SHARD shard us h)

-- and so does a client's
client_made : (client : ℕ) (us : Bytes) → client ≤ LARGEST_CLIENT
    → Behind (codes " ") (NaturalRule LARGEST_CLIENT) (codes " " ++ (decimal client ++ us)) client us
client_made client us h = behind (codes " ") (NaturalRule LARGEST_CLIENT) (decimal client ++ us) us client (natural LARGEST_CLIENT client us h)

-- reply by reply, from its parts in their order
pub reply_made : (a : Reply) → Fits a → ReplyRule (printed_reply a) a []
reply_made (reply.Commit n o) h =
    first_made word.Commit (reply.Commit n o) (codes " " ++ (decimal n ++ (codes " " ++ printed_outcome o)))
    (next (Numbered (codes " ")) _ _ (codes " " ++ printed_outcome o) [] n _
    (numbered (codes " ") n (codes " " ++ printed_outcome o) h.0) (ending (reply.Commit n) o h.1))
reply_made (reply.Abort w) h =
    first_made word.Abort (reply.Abort w) (codes " " ++ printed_witness w)
    (of reply.Abort WitnessRule (codes " " ++ printed_witness w) [] w (witness_made w h))
reply_made (reply.Read a b) h =
    let us = codes " base " ++ decimal b in
    first_made word.Read (reply.Read a b) (codes " " ++ (printed_address a ++ us))
    (next (Behind (codes " ") AddressRule) _ _ us [] a _
    (behind (codes " ") AddressRule (printed_address a ++ us) us a (address_made a us))
    (of (reply.Read a) (Numbered (codes " base ")) us [] b (last_number (codes " base ") b h)))
reply_made (reply.Prepared k f) h =
    let us = codes " front " ++ decimal f in
    first_made word.Prepare (reply.Prepared k f) (codes " " ++ (decimal k ++ us))
    (next (Behind (codes " ") (NaturalRule LARGEST_SHARD)) _ _ us [] k _ (shard_made k us h.0)
    (of (reply.Prepared k) (Numbered (codes " front ")) us [] f (last_number (codes " front ") f h.1)))
reply_made (reply.Followed k f) h =
    let us = codes " front " ++ decimal f in
    first_made word.Follow (reply.Followed k f) (codes " " ++ (decimal k ++ us))
    (next (Behind (codes " ") (NaturalRule LARGEST_SHARD)) _ _ us [] k _ (shard_made k us h.0)
    (of (reply.Followed k) (Numbered (codes " front ")) us [] f (last_number (codes " front ") f h.1)))
reply_made (reply.At n o) h =
    first_made word.At (reply.At n o) (codes " " ++ (decimal n ++ (codes " " ++ printed_outcome o)))
    (next (Numbered (codes " ")) _ _ (codes " " ++ printed_outcome o) [] n _
    (numbered (codes " ") n (codes " " ++ printed_outcome o) h.0) (ending (reply.At n) o h.1))
reply_made (reply.Ran name n o) h =
    let us = codes " " ++ printed_outcome o in
    let vs = codes " " ++ (decimal n ++ us) in
    first_made word.Run (reply.Ran name n o) (codes " " ++ (name ++ vs))
    (next (Behind (codes " ") NameRule) _ _ vs [] name _ (behind (codes " ") NameRule (name ++ vs) vs name (name_made name vs h.0))
    (next (Numbered (codes " ")) _ _ us [] n _ (numbered (codes " ") n us h.1) (ending (reply.Ran name n) o h.2)))
reply_made (reply.Current n) h =
    first_made word.Current (reply.Current n) (codes " " ++ decimal n)
    (of reply.Current (Numbered (codes " ")) (codes " " ++ decimal n) [] n (last_number (codes " ") n h))
reply_made reply.Idle h = first_made word.Idle reply.Idle [] (here reply.Idle)
reply_made (reply.Seen n) h =
    first_made word.Seen (reply.Seen n) (codes " " ++ decimal n)
    (of reply.Seen (Numbered (codes " ")) (codes " " ++ decimal n) [] n (last_number (codes " ") n h))
reply_made (reply.Late n m) h =
    let us = codes " " ++ decimal m in
    first_made word.Late (reply.Late n m) (codes " " ++ (decimal n ++ us))
    (next (Numbered (codes " ")) _ _ us [] n _ (numbered (codes " ") n us h.0)
    (of (reply.Late n) (Numbered (codes " ")) us [] m (last_number (codes " ") m h.1)))
reply_made (reply.Ahead n m) h =
    let us = codes " " ++ decimal m in
    first_made word.Ahead (reply.Ahead n m) (codes " " ++ (decimal n ++ us))
    (next (Numbered (codes " ")) _ _ us [] n _ (numbered (codes " ") n us h.0)
    (of (reply.Ahead n) (Numbered (codes " ")) us [] m (last_number (codes " ") m h.1)))
reply_made (reply.Held c n) h =
    let us = codes " commit " ++ decimal n in
    first_made word.Held (reply.Held c n) (codes " " ++ (decimal c ++ us))
    (next (Behind (codes " ") (NaturalRule LARGEST_CLIENT)) _ _ us [] c _ (client_made c us h.0)
    (of (reply.Held c) (Numbered (codes " commit ")) us [] n (last_number (codes " commit ") n h.1)))
reply_made (reply.Full l) h =
    first_made word.Full (reply.Full l) (codes " " ++ decimal l)
    (of reply.Full Column (codes " " ++ decimal l) [] l (last_column l h))
reply_made reply.Disk h = first_made word.Disk reply.Disk [] (here reply.Disk)
reply_made reply.Dropped h = first_made word.Dropped reply.Dropped [] (here reply.Dropped)
reply_made (reply.Refused y) h =
    first_made word.Refused (reply.Refused y) (codes " " ++ printed_why y)
    (of reply.Refused (Behind (codes " ") WhyRule) (codes " " ++ printed_why y) [] y
    (behind (codes " ") WhyRule (printed_why y) [] y (why_made y h)))
