-- The words of lines and replies are bytes: a line a word.
use Rattle.std.specs.Prelude.{◌≡◌, true, refl}
use Rattle.predictive_parsing.specs.Choices.{are_bytes}
use Rattle.session_text.specs.declared.words.VerbWord.{VerbWord}
use Rattle.session_text.specs.declared.words.VerbWord.TheVariants as verb
use Rattle.session_text.specs.declared.words.ReplyWord.{ReplyWord}
use Rattle.session_text.specs.declared.words.ReplyWord.TheVariants as reply
use Rattle.session_text.specs.declared.words.WhyWord.{WhyWord}
use Rattle.session_text.specs.declared.words.WhyWord.TheVariants as why
use Rattle.session_text.specs.Lines as line
use Rattle.session_text.specs.Printing.{word_of, why_of}

pub verbs_are_bytes : (word : VerbWord) → are_bytes (line.word_of word) ≡ true
verbs_are_bytes verb.Do = refl
verbs_are_bytes verb.Try = refl
verbs_are_bytes verb.Begin = refl
verbs_are_bytes verb.Step = refl
verbs_are_bytes verb.Go = refl
verbs_are_bytes verb.Drop = refl
verbs_are_bytes verb.Sync = refl
verbs_are_bytes verb.Wait = refl
verbs_are_bytes verb.Seen = refl
verbs_are_bytes verb.Quit = refl
verbs_are_bytes verb.Look = refl
verbs_are_bytes verb.At = refl
verbs_are_bytes verb.Watch = refl
verbs_are_bytes verb.Unwatch = refl

pub replies_are_bytes : (word : ReplyWord) → are_bytes (word_of word) ≡ true
replies_are_bytes reply.Commit = refl
replies_are_bytes reply.Abort = refl
replies_are_bytes reply.Read = refl
replies_are_bytes reply.Prepare = refl
replies_are_bytes reply.Follow = refl
replies_are_bytes reply.At = refl
replies_are_bytes reply.Run = refl
replies_are_bytes reply.Current = refl
replies_are_bytes reply.Idle = refl
replies_are_bytes reply.Seen = refl
replies_are_bytes reply.Late = refl
replies_are_bytes reply.Ahead = refl
replies_are_bytes reply.Held = refl
replies_are_bytes reply.Full = refl
replies_are_bytes reply.Disk = refl
replies_are_bytes reply.Dropped = refl
replies_are_bytes reply.Refused = refl

pub reasons_are_bytes : (word : WhyWord) → are_bytes (why_of word) ≡ true
reasons_are_bytes why.Long = refl
reasons_are_bytes why.Client = refl
reasons_are_bytes why.Verb = refl
reasons_are_bytes why.Syntax = refl
reasons_are_bytes why.BadType = refl
reasons_are_bytes why.Writes = refl
reasons_are_bytes why.Name = refl
reasons_are_bytes why.Busy = refl
reasons_are_bytes why.NoAttempt = refl
