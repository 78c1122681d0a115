-- What stands between two lines of a session: others' commits, and the story behind the first.
use Rattle.std.proofs.Common.{◌≡◌, inl, inr, ℕ, ◌+◌, ◌≤◌, List, [], ◌∷◌, ◌++◌, append_assoc, map, length, Option, Some, None, refl, sym, ap, ◌∙◌, subst, arith}
use Rattle.std.specs.Prelude.{IfSome}
use Rattle.dio_core.specs.Told.{WhereTold}
use Rattle.dio_core.proofs.Told.{WhereTold-refl, WhereTold-map, IfSome-WhereTold}
use Rattle.rdt_types.specs.declared.limits.TheConstants.{LEAST_SHARDS, MOST_SHARDS}
use Rattle.session_text.specs.declared.reply.Reply.{Reply}
use Rattle.txn_grammar.specs.Characters.{Text}
use Rattle.txn_lang.specs.Journals.{own}
use Rattle.txn_lang.specs.States.{Journal}
use Rattle.docc_prepare.specs.declared.attempt.Attempt.{Attempt}
use Rattle.docc_prepare.specs.Attempts.{ran, Fits}
use Rattle.docc_prepare.specs.Backends.{IsPrefix, IsSameClient, HasGrown, IsLater}
use Rattle.docc_prepare.specs.Calls.{Known}
use Rattle.session_core.specs.declared.line.Line.{Line}
use Rattle.session_core.specs.declared.session.Session.{Session}
use Rattle.session_core.specs.declared.turn.Turn.{Turn}
use Rattle.session_core.specs.Lines.{line_of}
use Rattle.session_core.specs.Holding.{Holds, Counts, Minds, Attends}
use Rattle.client_watches.specs.Explained.{shown_of}
use Rattle.docc_prepare.specs.Readable.{CanRead}
use Rattle.session_core.specs.Explained.{Setting, Attempting, Story, attempting_of, story_of, Passes, low_after}
use Rattle.session_core.specs.Explained.{attempting_after, begun_after, Explains}
use Rattle.session_core.specs.Explained.{AreFrom, AreReported, MayBeTold}
use Rattle.session_core.specs.Sessions.{committed_by, denied_by, denied_by_all, Finds}
use Rattle.session_core.proofs.Grown.{prefix-whole, prefix-again}
use Rattle.session_core.proofs.Kept.{reads-on, fronts-on, fits-on}
use Rattle.session_core.proofs.Said.{named-append, there-append, there-stays, named-stays}
use Rattle.session_core.proofs.Woken.{HasOwned}
use Rattle.session_core.proofs.Explaining.{if-told}
use Rattle.session_core.proofs.Minding.{watches-later}
use Rattle.session_core.proofs.Shown.{begun-below, from-on, reported-after}
use Rattle.session_core.proofs.Stays.{attempting-stays, passes-stays}

-- ---- what others leave to a session

module _ (k here : Known) (later : IsLater k here) where
  -- what was given stays given, and what fits goes on to fit
  holds-later : (a : Attempt) → Holds k a → Holds here a
  holds-later a h = record {
    shards = h.shards ∙ sym later.client.shards;
    text = h.text;
    body_text = h.body_text;
    reads = reads-on k here a (let same = later.seen in omega arith) later.keeps h.reads;
    fronts = fronts-on k here a (ran a) later.keeps h.fronts;
    told = IfSome-WhereTold (HasGrown k) (λ journal. Fits journal a) (λ journal. Fits journal a) k.journal here.journal
        (λ old new fits grown. fits-on old new a grown.grows fits) h.told later.told;
  }

  -- the same of an attempt that may be open
  maybe-later : (o : Option Attempt) → IfSome o (Holds k) → IfSome o (Holds here)
  maybe-later None h = tt
  maybe-later (Some a) h = holds-later a h

  -- others add none of the client's commits
  counts-later : (seq : ℕ) (x y : Option Journal) → WhereTold (HasGrown k) x y → IfSome y (λ journal. here.seen ≤ length journal)
      → IfSome x (Counts k seq) → IfSome y (Counts here seq)
  counts-later seq None None grown within h = tt
  counts-later seq None (Some new) grown within h = absurd grown
  counts-later seq (Some old) None grown within h = tt
  counts-later seq (Some old) (Some new) grown within h = record {
    seq_is = h.seq_is ∙ ap (λ (xs : Journal). length xs + 1) (sym grown.same_own ∙ ap (λ (n : ℕ). own n new) (sym later.client.client));
    within = within;
  }

  -- a session goes on after what others did
  pub attends-later : (s : Session) → Attends k s → Attends here s
  attends-later s h = record {
    on = h.on;
    shards = subst (λ (n : ℕ). (LEAST_SHARDS ≤ n) × (n ≤ MOST_SHARDS)) (sym later.client.shards) h.shards;
    client = h.client ∙ sym later.client.client;
    begun = let b = h.begun in let same = later.seen in omega arith;
    counts = counts-later s.seq k.journal here.journal later.told later.within h.counts;
    attempt = maybe-later s.attempt h.attempt;
    watches = watches-later k here s.watching later h.watches;
  }

-- what a line finds
pub record HasFound (k here : Known) (s : Session) : Type 0 where
  pub client : IsSameClient k here
  pub seen : here.seen ≡ k.seen
  pub attends : Attends here s
  pub denied : here.denied ≡ k.denied
  pub denials : k.denials ≤ here.denials
  pub grown : WhereTold (λ old new. IsPrefix old new × (own k.client new ≡ own k.client old)) k.journal here.journal

-- as it was left
found-same : (k : Known) (s : Session) → Attends k s → HasFound k k s
found-same k s is = record {
  client = record { client = refl; trusted = refl; shards = refl; window = refl; limit = refl };
  seen = refl;
  attends = is;
  denied = refl;
  denials = omega arith;
  grown = WhereTold-refl (λ old new. IsPrefix old new × (own k.client new ≡ own k.client old)) k.journal (λ journal. (prefix-whole journal, refl));
}

-- either way the session goes on, and only others' commits have come in
pub finds : (k here : Known) (s : Session) → Attends k s → Finds k here → HasFound k here s
finds k here s is (inl same) = subst (λ (x : Known). HasFound k x s) (sym same) (found-same k s is)
finds k here s is (inr later) = record {
  client = later.client;
  seen = later.seen;
  attends = attends-later k here later s is;
  denied = later.denied;
  denials = later.denials;
  grown = WhereTold-map k.journal here.journal (λ old new grown. (grown.grows, grown.same_own)) later.told;
}

-- ---- the client's commits

-- others' commits, then the line's, then those of the lines behind it
pub owned-on : (client : ℕ) (old mid there new : Journal) (first rest : List Reply) → IsPrefix old mid × (own client mid ≡ own client old)
    → HasOwned client first mid there → HasOwned client rest there new
    → HasOwned client (first ++ rest) old new
owned-on client old mid there new first rest same one more = record {
  grows = prefix-again old mid new same.0 (prefix-again mid there new one.grows more.grows);
  own_is = more.own_is ∙ (ap (λ (xs : Journal). xs ++ committed_by new rest)
      (one.own_is ∙ (ap (λ (xs : Journal). xs ++ committed_by there first) same.1
      ∙ ap (λ (xs : Journal). own client old ++ xs) (sym (named-stays there new first more.grows one.there))))
      ∙ (append_assoc (own client old) (committed_by new first) (committed_by new rest) ∙ ap (λ (xs : Journal). own client old ++ xs)
      (sym (named-append new first rest))));
  there = there-append new first rest (there-stays there new first more.grows one.there) more.there;
}

-- ---- what the disk denied

-- reply by reply
pub denied-append : (count : ℕ) (xs ys : List Reply) → denied_by_all count (xs ++ ys) ≡ denied_by_all (denied_by_all count xs) ys
denied-append count [] ys = refl
denied-append count (r ∷ xs) ys = denied-append (denied_by count r) xs ys

-- ---- explained, line after line

-- a journal that a session's watches stand for can be read
pub can-read : (k : Known) (s : Session) (journal : Journal) → Attends k s → k.journal ≡ Some journal → CanRead journal
can-read k s journal is told = (if-told (Minds k s.watching) k.journal journal told is.watches.told).can

-- a line that passes, and then lines that are explained
pub explains-more : (set : Setting) (y : Story) (t : Session) (text : Text) (x : Turn) (texts : List Text) (turns : List Turn) (there new : Journal)
    → CanRead there → CanRead new → AreReported y → Passes set there y (line_of text) x (shown_of t.watching.watches)
    → attempting_of t ≡ attempting_after set there y.attempting (line_of text) x → IsPrefix there new
    → Explains set new (story_of (low_after y.low (line_of text) x) (begun_after y (line_of text) x) t) (map line_of texts) turns
    → Explains set new y (map line_of (text ∷ texts)) (x ∷ turns)
explains-more set y t text x texts turns there new could can reported passes is grows rest = record {
  later = shown_of t.watching.watches;
  passes = passes-stays set there new grows could can y (line_of text) x (shown_of t.watching.watches) reported passes;
  rest = subst (λ (z : Attempting). Explains set new (record {
    low = low_after y.low (line_of text) x;
    begun = begun_after y (line_of text) x;
    attempting = z;
    watches = shown_of t.watching.watches;
  }) (map line_of texts) turns)
      (is ∙ sym (attempting-stays set there new grows y (line_of text) x (shown_of t.watching.watches) passes)) rest;
}

-- behind a line that passes the story is one that may be told
pub story-behind : (k m : Known) (set : Setting) (y : Story) (t : Session) (l : Line) (x : Turn) (there : Journal) → MayBeTold k y
    → Passes set there y l x (shown_of t.watching.watches) → attempting_of t ≡ attempting_after set there y.attempting l x
    → low_after y.low l x ≤ m.seen → MayBeTold m (story_of (low_after y.low l x) (begun_after y l x) t)
story-behind k m set y t l x there may passes is seen = record {
  seen = seen;
  before = begun-below y l x may.before;
  bases = subst (λ (z : Attempting). IfSome z.attempt (AreFrom (begun_after y l x))) (sym is)
      (from-on set there y may.before l x (shown_of t.watching.watches) may.bases passes);
  reported = reported-after set there y l x (shown_of t.watching.watches) may.reported passes;
}
