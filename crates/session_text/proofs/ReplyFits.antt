-- The reader of replies reads what their rule derives.
use Rattle.std.proofs.Common.{◌≡◌, ℕ, Bool, true, false, not, ◌∷◌, ◌++◌, Option, Some, refl, ap, ◌∙◌, inl, inr, arith, codes}
use Rattle.plain_data.specs.Texts.{Bytes}
use Rattle.predictive_parsing.specs.Reading.{Reader, and_then, next}
use Rattle.predictive_parsing.specs.Rules.{Rule, Then, Or, Of, Word, Behind}
use Rattle.predictive_parsing.specs.Fits.{Fits, any}
use Rattle.predictive_parsing.specs.Bytes.{IsByte, sees}
use Rattle.predictive_parsing.specs.Choices.{In, AreWords, are_bytes}
use Rattle.predictive_parsing.proofs.Basic.{both}
use Rattle.predictive_parsing.proofs.Combined.{fits_as, pure_fits, seen, onwards, narrowed, either_fits}
use Rattle.predictive_parsing.proofs.Combined as combined
use Rattle.predictive_parsing.proofs.Words.{behind_fits, named_fits}
use Rattle.predictive_parsing.proofs.Choices.{one_of_fits}
use Rattle.rdt_types.specs.declared.address.Kind.{Kind}
use Rattle.rdt_types.specs.declared.address.Kind.TheVariants as kinds
use Rattle.conflict_table.specs.declared.observation.Obs.{Obs}
use Rattle.conflict_table.specs.declared.observation.Obs.TheVariants as obs
use Rattle.dtext.specs.Follows.{no_digit, no_more}
use Rattle.dtext.specs.Spellings.{TextRule, NumberRule, NaturalRule, AddressRule, OutcomeRule}
use Rattle.dtext.proofs.TextFits.{text_fits}
use Rattle.dtext.proofs.NumberFits.{number_fits, natural_fits}
use Rattle.dtext.proofs.FormFits.{address_fits, outcome_fits}
use Rattle.dtext.proofs.PartFits.{part_of_fits}
use Rattle.session_text.specs.code.Words.{replies_are_bytes, reasons_are_bytes}
use Rattle.session_text.specs.declared.limits.TheConstants.{LARGEST, LARGEST_SHARD, LARGEST_COLUMN, LARGEST_CLIENT}
use Rattle.session_text.specs.declared.reply.Reply.TheVariants as reply
use Rattle.session_text.specs.declared.reply.Why.TheVariants as why
use Rattle.session_text.specs.declared.words.ReplyWord.{ReplyWord}
use Rattle.session_text.specs.declared.words.ReplyWord.TheVariants as first
use Rattle.session_text.specs.declared.words.TheConstants.{OTHER_REPLIES, OTHER_REASONS}
use Rattle.session_text.specs.declared.words.WhyWord.{WhyWord}
use Rattle.session_text.specs.declared.words.WhyWord.TheVariants as reason
use Rattle.session_text.specs.Printing.{word_of, why_of}
use Rattle.session_text.specs.Lines.{NameRule}
use Rattle.session_text.specs.Replies.{Numbered, ObsOf, Column, WhyForm, WhyRule, WitnessRule, Form, ReplyRule}
use Rattle.session_text.specs.code.Replies.{numbered, whole_of, whole, all, set_obs, hash_obs, list_obs, peak_obs, obs_of, column}
use Rattle.session_text.specs.code.Replies.{why_form, why_read, spaced_address, ending, spaced_name, witness, shard, client}
use Rattle.session_text.specs.code.Replies.{commit, read, prepared, followed, at, ran, late, ahead_of, held, refused, form}
use Rattle.session_text.specs.code.Replies.{reply_read}
use Rattle.session_text.proofs.LineFits.{name_fits, no_word}

-- ---- parts

module _ {A : Type 0} {p : Reader ℕ A} {P : Rule ℕ A} where
  -- what anything may follow, a digit need not
  wide : Fits IsByte p P any → Fits IsByte p P no_digit
  wide fp = narrowed IsByte no_digit (λ h e. refl) fp

  -- where a reply ends, no digit follows
  closed : Fits IsByte p P no_digit → Fits IsByte p P no_more
  closed fp = narrowed IsByte no_more (λ h e. (both (no_digit h) (not (sees 32 h)) e).0) fp

  -- and what anything may follow ends a reply
  open_ended : Fits IsByte p P any → Fits IsByte p P no_more
  open_ended fp = narrowed IsByte no_more (λ h e. refl) fp

  -- what begins with a space may follow a number or a name
  module _ {B : Type 0} {q : A → Reader ℕ B} {Q : A → Rule ℕ B} {between follows : Option ℕ → Bool} where
    -- the space that is ahead of the second is one that may follow the first
    spaced : between (Some 32) ≡ true → Fits IsByte p P between → ((a : A) → Fits IsByte (q a) (Q a) follows)
        → ((a : A) (ts us : Bytes) (b : B) → Q a ts b us → next ts ≡ Some 32)
        → Fits IsByte (λ ts. and_then (p ts) q) (Then P Q) follows
    spaced e fp fq space = combined.followed IsByte fp fq (λ a us vs b r h. ap between (space a us vs b r) ∙ e)

-- a number behind a word ends where no digit follows
numbered_fits : (w : Bytes) → are_bytes w ≡ true → Fits IsByte (numbered w) (Numbered w) no_digit
unfolding numbered
numbered_fits w h = behind_fits w h (natural_fits LARGEST (omega arith) (omega arith))

-- so does a column behind a space
column_fits : Fits IsByte column Column no_digit
unfolding column
column_fits = behind_fits (codes " ") refl (natural_fits LARGEST_COLUMN (omega arith) (omega arith))

-- and so does a shard's number behind a space
shard_fits : Fits IsByte shard (Behind (codes " ") (NaturalRule LARGEST_SHARD)) no_digit
unfolding shard
shard_fits = behind_fits (codes " ") refl (natural_fits LARGEST_SHARD (omega arith) (omega arith))

-- and a client's behind a space
client_fits : Fits IsByte client (Behind (codes " ") (NaturalRule LARGEST_CLIENT)) no_digit
unfolding client
client_fits = behind_fits (codes " ") refl (natural_fits LARGEST_CLIENT (omega arith) (omega arith))

-- an address ends with its bracket, so anything may follow it
spaced_address_fits : Fits IsByte spaced_address (Behind (codes " ") AddressRule) any
unfolding spaced_address
spaced_address_fits = behind_fits (codes " ") refl address_fits

-- a name ends where no letter, digit or `_` follows
spaced_name_fits : Fits IsByte spaced_name (Behind (codes " ") NameRule) no_word
unfolding spaced_name
spaced_name_fits = behind_fits (codes " ") refl name_fits

-- an outcome ends where neither a digit nor a space follows
ending_fits : Fits IsByte ending (Behind (codes " ") OutcomeRule) no_more
unfolding ending
ending_fits = behind_fits (codes " ") refl outcome_fits

-- ---- observations

-- the whole of a bool, a counter or a text is one word
whole_fits : (kind : Kind) → Fits IsByte (whole kind) (Of (λ _. whole_of kind) (Word (codes "whole"))) no_digit
unfolding whole
whole_fits kind = wide (named_fits (codes "whole") (whole_of kind) refl)

-- the whole of a collection is one word
all_fits : (kind : Kind) → Fits IsByte (all kind) (Of (λ _. whole_of kind) (Word (codes "all"))) any
unfolding all
all_fits kind = named_fits (codes "all") (whole_of kind) refl

-- the first letter tells an element from all of the set
set_obs_fits : Fits IsByte set_obs (ObsOf kinds.Set) any
unfolding set_obs
set_obs_fits = either_fits IsByte (sees 104) _ (all kinds.Set) (Behind (codes "has ") (Of obs.SetHas TextRule)) (Of (λ _. obs.SetAll) (Word (codes "all"))) any
    (behind_fits (codes "has ") refl (seen IsByte obs.SetHas text_fits)) (all_fits kinds.Set)
    (λ ts us a r. ap (λ xs. sees 104 (next xs)) r.first)
    (λ ts us a r e. ap (λ xs. sees 104 (next xs)) r.first)

-- a place or all, the common letter in front
module _ (mark : Rule ℕ Obs) (end : Obs) where
  -- a place, or the rest of the word for all
  abbrev Either : Rule ℕ Obs
  Either = Or mark (Of (λ _. end) (Word (codes "ll")))

-- the rest of the word before a field, and the field
hash_place : Rule ℕ Obs
hash_place = Behind (codes "t ") (Of obs.HashAt TextRule)

-- the rest of the word before a place, and the place
list_place : Rule ℕ Obs
list_place = Of obs.ListAt (Numbered (codes "t "))

-- behind the common letter the next one tells a field from all of the hash
hash_obs_factored : Fits IsByte hash_obs (Behind (codes "a") (Either hash_place obs.HashAll)) any
unfolding hash_obs hash_place
hash_obs_factored = behind_fits (codes "a") refl (either_fits IsByte (sees 116) _ _ hash_place (Of (λ _. obs.HashAll) (Word (codes "ll"))) any
    (behind_fits (codes "t ") refl (seen IsByte obs.HashAt text_fits)) (named_fits (codes "ll") obs.HashAll refl)
    (λ ts us a r. ap (λ xs. sees 116 (next xs)) r.first)
    (λ ts us a r e. ap (λ xs. sees 116 (next xs)) r.first))

-- the common letter in front of either rest makes a spelling of the rule
hash_obs_to : (ts us : Bytes) (a : Obs) → Behind (codes "a") (Either hash_place obs.HashAll) ts a us → ObsOf kinds.Hash ts a us
unfolding hash_place
hash_obs_to ts us a r = by_form r.middle r.first r.second
  where
    by_form : (ms : Bytes) → ts ≡ codes "a" ++ ms → Either (Behind (codes "t ") (Of obs.HashAt TextRule)) obs.HashAll ms a us → ObsOf kinds.Hash ts a us
    by_form ms e (inl s) = inl (record { value = tt; middle = s.middle; first = e ∙ ap (λ xs. 97 ∷ xs) s.first; second = s.second })
    by_form ms e (inr s) = inr (record { value = tt; middle = s.middle; first = e ∙ ap (λ xs. 97 ∷ xs) s.first; second = s.second })

-- and each spelling of the rule is this letter in front of one of the rests
hash_obs_from : (ts us : Bytes) (a : Obs) → ObsOf kinds.Hash ts a us → Behind (codes "a") (Either hash_place obs.HashAll) ts a us
unfolding hash_place
hash_obs_from ts us a (inl s) =
    record {
      value = tt;
      middle = codes "t " ++ s.middle;
      first = s.first;
      second = inl (record { value = tt; middle = s.middle; first = refl; second = s.second });
    }
hash_obs_from ts us a (inr s) =
    record {
      value = tt;
      middle = codes "ll" ++ s.middle;
      first = s.first;
      second = inr (record { value = tt; middle = s.middle; first = refl; second = s.second });
    }

-- so both rules derive the same, and the reader fits that of observations
hash_obs_fits : Fits IsByte hash_obs (ObsOf kinds.Hash) any
hash_obs_fits = fits_as IsByte hash_obs_to hash_obs_from hash_obs_factored

-- behind the common letter the next one tells a place from all of the list
list_obs_factored : Fits IsByte list_obs (Behind (codes "a") (Either list_place obs.ListAll)) no_digit
unfolding list_obs list_place
list_obs_factored = behind_fits (codes "a") refl (either_fits IsByte (sees 116) _ _ list_place (Of (λ _. obs.ListAll) (Word (codes "ll"))) no_digit
    (seen IsByte obs.ListAt (numbered_fits (codes "t ") refl)) (wide (named_fits (codes "ll") obs.ListAll refl))
    (λ ts us a r. ap (λ xs. sees 116 (next xs)) r.first.first)
    (λ ts us a r e. ap (λ xs. sees 116 (next xs)) r.first))

-- here too the common letter in front of either rest makes a spelling of the rule
list_obs_to : (ts us : Bytes) (a : Obs) → Behind (codes "a") (Either list_place obs.ListAll) ts a us → ObsOf kinds.List ts a us
unfolding list_place
list_obs_to ts us a r = by_form r.middle r.first r.second
  where
    by_form : (ms : Bytes) → ts ≡ codes "a" ++ ms → Either (Of obs.ListAt (Numbered (codes "t "))) obs.ListAll ms a us → ObsOf kinds.List ts a us
    by_form ms e (inl s) =
        let n = s.first in inl (record {
          value = s.value;
          middle = s.middle;
          first = record { value = tt; middle = n.middle; first = e ∙ ap (λ xs. 97 ∷ xs) n.first; second = n.second };
          second =
              s.second;
        })
    by_form ms e (inr s) = inr (record { value = tt; middle = s.middle; first = e ∙ ap (λ xs. 97 ∷ xs) s.first; second = s.second })

-- and each spelling of the rule is this letter in front of one of the rests
list_obs_from : (ts us : Bytes) (a : Obs) → ObsOf kinds.List ts a us → Behind (codes "a") (Either list_place obs.ListAll) ts a us
unfolding list_place
list_obs_from ts us a (inl s) =
    let n = s.first in record {
      value = tt;
      middle = codes "t " ++ n.middle;
      first = n.first;
      second = inl (record {
        value = s.value;
        middle = s.middle;
        first = record { value = tt; middle = n.middle; first = refl; second = n.second };
        second = s.second;
      });
    }
list_obs_from ts us a (inr s) =
    record {
      value = tt;
      middle = codes "ll" ++ s.middle;
      first = s.first;
      second = inr (record { value = tt; middle = s.middle; first = refl; second = s.second });
    }

-- so both rules derive the same, and the reader fits that of observations
list_obs_fits : Fits IsByte list_obs (ObsOf kinds.List) no_digit
list_obs_fits = fits_as IsByte list_obs_to list_obs_from list_obs_factored

-- the first letter tells a value from a number that it wasn't above
peak_obs_fits : Fits IsByte peak_obs (ObsOf kinds.Peak) no_digit
unfolding peak_obs
peak_obs_fits =
    either_fits IsByte (sees 105) _ _ (Behind (codes "is ") (Of obs.PeakIs NumberRule))
    (Behind (codes "over ") (Of (λ n. obs.PeakOver n false) NumberRule)) no_digit
    (behind_fits (codes "is ") refl (seen IsByte obs.PeakIs number_fits))
    (behind_fits (codes "over ") refl (seen IsByte (λ n. obs.PeakOver n false) number_fits))
    (λ ts us a r. ap (λ xs. sees 105 (next xs)) r.first)
    (λ ts us a r e. ap (λ xs. sees 105 (next xs)) r.first)

-- the kind decides
obs_of_fits : (kind : Kind) → Fits IsByte (obs_of kind) (ObsOf kind) no_digit
unfolding obs_of
obs_of_fits kinds.Bool = whole_fits kinds.Bool
obs_of_fits kinds.Counter = whole_fits kinds.Counter
obs_of_fits kinds.Text = whole_fits kinds.Text
obs_of_fits kinds.Set = wide set_obs_fits
obs_of_fits kinds.Hash = wide hash_obs_fits
obs_of_fits kinds.List = list_obs_fits
obs_of_fits kinds.Peak = peak_obs_fits

-- ---- why a line is refused

-- each reason is among the listed ones
all_whys : (w : WhyWord) → In (reason.Long ∷ OTHER_REASONS) w
all_whys reason.Long = inl refl
all_whys reason.Client = inr (inl refl)
all_whys reason.Verb = inr (inr (inl refl))
all_whys reason.Syntax = inr (inr (inr (inl refl)))
all_whys reason.BadType = inr (inr (inr (inr (inl refl))))
all_whys reason.Writes = inr (inr (inr (inr (inr (inl refl)))))
all_whys reason.Name = inr (inr (inr (inr (inr (inr (inl refl))))))
all_whys reason.Busy = inr (inr (inr (inr (inr (inr (inr (inl refl)))))))
all_whys reason.NoAttempt = inr (inr (inr (inr (inr (inr (inr (inr (inl refl))))))))

-- these are all the words for reasons, made of bytes, and none begins another
why_words : AreWords why_of reason.Long OTHER_REASONS
why_words = record { all = all_whys; bytes = reasons_are_bytes; apart = refl }

-- reason by reason: nothing more, or a column
why_form_fits : (w : WhyWord) → Fits IsByte (why_form w) (WhyForm w) no_digit
unfolding why_form
why_form_fits reason.Long = wide (pure_fits IsByte why.Long)
why_form_fits reason.Client = wide (pure_fits IsByte why.Client)
why_form_fits reason.Verb = wide (pure_fits IsByte why.Verb)
why_form_fits reason.Syntax = seen IsByte why.Syntax column_fits
why_form_fits reason.BadType = seen IsByte why.BadType column_fits
why_form_fits reason.Writes = seen IsByte why.Writes column_fits
why_form_fits reason.Name = wide (pure_fits IsByte why.Name)
why_form_fits reason.Busy = wide (pure_fits IsByte why.Busy)
why_form_fits reason.NoAttempt = wide (pure_fits IsByte why.NoAttempt)

-- a reason's word fits whatever follows, and tells what is read behind it
why_fits : Fits IsByte why_read WhyRule no_digit
unfolding why_read
why_fits = onwards IsByte (one_of_fits why_of reason.Long OTHER_REASONS why_words) why_form_fits

-- ---- the forms

-- each part but the first begins with a space, which may follow the part before it
witness_fits : Fits IsByte witness WitnessRule no_digit
unfolding witness
witness_fits = onwards IsByte spaced_address_fits (λ address.
    spaced refl (behind_fits (codes " ") refl (obs_of_fits address.kind)) (λ obs.
    spaced refl (numbered_fits (codes " base ") refl) (λ base.
    spaced refl (behind_fits (codes " clash ") refl (part_of_fits address.kind)) (λ part.
    seen IsByte (λ number. record { address = address; obs = obs; base = base; part = part; number = number }) (numbered_fits (codes " commit ") refl))
    (λ a ts us b r. ap next r.first.first))
    (λ a ts us b r. ap next r.first.first))
    (λ a ts us b r. ap next r.first.first))

-- the space before the outcome ends the commit's number
commit_fits : Fits IsByte commit (Form first.Commit) no_more
unfolding commit
commit_fits = spaced refl (numbered_fits (codes " ") refl) (λ n. seen IsByte (reply.Commit n) ending_fits) (λ a ts us b r. ap next r.first.first)

-- anything may follow the address, and the base is a number behind its word
read_fits : Fits IsByte read (Form first.Read) no_digit
unfolding read
read_fits = onwards IsByte spaced_address_fits (λ a. seen IsByte (reply.Read a) (numbered_fits (codes " base ") refl))

-- the space before the front ends the shard's number
prepared_fits : Fits IsByte prepared (Form first.Prepare) no_digit
unfolding prepared
prepared_fits = spaced refl shard_fits (λ k. seen IsByte (reply.Prepared k) (numbered_fits (codes " front ") refl)) (λ a ts us b r. ap next r.first.first)

-- the space before the front ends the shard's number here too
followed_fits : Fits IsByte followed (Form first.Follow) no_digit
unfolding followed
followed_fits = spaced refl shard_fits (λ k. seen IsByte (reply.Followed k) (numbered_fits (codes " front ") refl)) (λ a ts us b r. ap next r.first.first)

-- the space before the outcome ends the number here too
at_fits : Fits IsByte at (Form first.At) no_more
unfolding at
at_fits = spaced refl (numbered_fits (codes " ") refl) (λ n. seen IsByte (reply.At n) ending_fits) (λ a ts us b r. ap next r.first.first)

-- a space ends the name, and another ends the number
ran_fits : Fits IsByte ran (Form first.Run) no_more
unfolding ran
ran_fits =
    spaced refl spaced_name_fits (λ w. spaced refl (numbered_fits (codes " ") refl) (λ n. seen IsByte (reply.Ran w n) ending_fits)
    (λ a ts us b r. ap next r.first.first)) (λ a ts us b r. ap next r.first.first)

-- the space before the second number ends the first
late_fits : Fits IsByte late (Form first.Late) no_digit
unfolding late
late_fits =
    spaced refl (numbered_fits (codes " ") refl) (λ n. seen IsByte (reply.Late n) (numbered_fits (codes " ") refl))
    (λ a ts us b r. ap next r.first.first)

-- the space before the second number ends the first here too
ahead_fits : Fits IsByte ahead_of (Form first.Ahead) no_digit
unfolding ahead_of
ahead_fits =
    spaced refl (numbered_fits (codes " ") refl) (λ n. seen IsByte (reply.Ahead n) (numbered_fits (codes " ") refl))
    (λ a ts us b r. ap next r.first.first)

-- the space before the hold's commit ends the client's number
held_fits : Fits IsByte held (Form first.Held) no_digit
unfolding held
held_fits =
    spaced refl client_fits (λ client. seen IsByte (reply.Held client) (numbered_fits (codes " commit ") refl))
    (λ a ts us b r. ap next r.first.first)

-- a reason behind a space
refused_fits : Fits IsByte refused (Form first.Refused) no_digit
unfolding refused
refused_fits = seen IsByte reply.Refused (behind_fits (codes " ") refl why_fits)

-- reply by reply, each narrowed to what may follow a reply
form_fits : (w : ReplyWord) → Fits IsByte (form w) (Form w) no_more
unfolding form
form_fits first.Commit = commit_fits
form_fits first.Abort = closed (seen IsByte reply.Abort witness_fits)
form_fits first.Read = closed read_fits
form_fits first.Prepare = closed prepared_fits
form_fits first.Follow = closed followed_fits
form_fits first.At = at_fits
form_fits first.Run = ran_fits
form_fits first.Current = closed (seen IsByte reply.Current (numbered_fits (codes " ") refl))
form_fits first.Idle = open_ended (pure_fits IsByte reply.Idle)
form_fits first.Seen = closed (seen IsByte reply.Seen (numbered_fits (codes " ") refl))
form_fits first.Late = closed late_fits
form_fits first.Ahead = closed ahead_fits
form_fits first.Held = closed held_fits
form_fits first.Full = closed (seen IsByte reply.Full column_fits)
form_fits first.Disk = open_ended (pure_fits IsByte reply.Disk)
form_fits first.Dropped = open_ended (pure_fits IsByte reply.Dropped)
form_fits first.Refused = closed refused_fits

-- ---- replies

-- each first word is among the listed ones
all_words : (w : ReplyWord) → In (first.Commit ∷ OTHER_REPLIES) w
all_words first.Commit = inl refl
all_words first.Abort = inr (inl refl)
all_words first.Read = inr (inr (inl refl))
all_words first.Prepare = inr (inr (inr (inl refl)))
all_words first.Follow = inr (inr (inr (inr (inl refl))))
all_words first.At = inr (inr (inr (inr (inr (inl refl)))))
all_words first.Run = inr (inr (inr (inr (inr (inr (inl refl))))))
all_words first.Current = inr (inr (inr (inr (inr (inr (inr (inl refl)))))))
all_words first.Idle = inr (inr (inr (inr (inr (inr (inr (inr (inl refl))))))))
all_words first.Seen = inr (inr (inr (inr (inr (inr (inr (inr (inr (inl refl)))))))))
all_words first.Late = inr (inr (inr (inr (inr (inr (inr (inr (inr (inr (inl refl))))))))))
all_words first.Ahead = inr (inr (inr (inr (inr (inr (inr (inr (inr (inr (inr (inl refl)))))))))))
all_words first.Held = inr (inr (inr (inr (inr (inr (inr (inr (inr (inr (inr (inr (inl refl))))))))))))
all_words first.Full = inr (inr (inr (inr (inr (inr (inr (inr (inr (inr (inr (inr (inr (inl refl)))))))))))))
all_words first.Disk = inr (inr (inr (inr (inr (inr (inr (inr (inr (inr (inr (inr (inr (inr (inl refl))))))))))))))
all_words first.Dropped = inr (inr (inr (inr (inr (inr (inr (inr (inr (inr (inr (inr (inr (inr (inr (inl refl)))))))))))))))
all_words first.Refused = inr (inr (inr (inr (inr (inr (inr (inr (inr (inr (inr (inr (inr (inr (inr (inr (inl refl))))))))))))))))

-- these are all the first words, made of bytes, and none begins another
words : AreWords word_of first.Commit OTHER_REPLIES
words = record { all = all_words; bytes = replies_are_bytes; apart = refl }

-- a first word fits whatever follows, and tells what is read behind it
pub reply_fits : Fits IsByte reply_read ReplyRule no_more
unfolding reply_read
reply_fits = onwards IsByte (one_of_fits word_of first.Commit OTHER_REPLIES words) form_fits
