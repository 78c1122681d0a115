-- What a session goes on behind, between its lines.
use Rattle.std.proofs.Common.{◌≡◌, ℕ, ◌+◌, ◌≤◌, length, Option, Some, None, refl, sym, ap, ◌∙◌, subst, arith}
use Rattle.std.specs.Prelude.{IfSome}
use Rattle.rdt_types.specs.declared.limits.TheConstants.{LEAST_SHARDS, MOST_SHARDS}
use Rattle.txn_lang.specs.Journals.{own}
use Rattle.txn_lang.specs.States.{Journal}
use Rattle.docc_prepare.specs.declared.attempt.Attempt.{Attempt}
use Rattle.docc_prepare.specs.Attempts.{ran, Fits}
use Rattle.docc_prepare.specs.Calls.{Known}
use Rattle.docc_prepare.specs.Stores.{HasFollowed}
use Rattle.session_core.specs.declared.session.Session.{Session}
use Rattle.session_core.specs.GoingOn.{SessionsGoOn}
use Rattle.session_core.specs.Holding.{Holds, Counts, Attends}
use Rattle.session_core.proofs.Kept.{reads-on, fronts-on}
use Rattle.session_core.proofs.Minding.{watches-followed}
use Rattle.session_core.proofs.Talked.{attends-later}

-- ---- what goes on where a shard was let follow

module _ (k here : Known) (followed : HasFollowed k here) where
  -- what was given stays given, and what fits goes on to fit, since the journal is the same
  holds-followed : (a : Attempt) → Holds k a → Holds here a
  holds-followed a h = record {
    shards = h.shards ∙ sym followed.client.shards;
    text = h.text;
    body_text = h.body_text;
    reads = reads-on k here a followed.seen followed.keeps h.reads;
    fronts = fronts-on k here a (ran a) followed.keeps h.fronts;
    told = subst (λ (o : Option Journal). IfSome o (λ journal. Fits journal a)) (sym followed.journal) h.told;
  }

  -- the same of an attempt that may be open
  maybe-followed : (o : Option Attempt) → IfSome o (Holds k) → IfSome o (Holds here)
  maybe-followed None h = tt
  maybe-followed (Some a) h = holds-followed a h

  -- all of the journal is seen, and the client's commits are the same
  counts-followed : (seq : ℕ) (o : Option Journal) → IfSome o (λ journal. here.seen ≡ length journal) → IfSome o (Counts k seq) → IfSome o (Counts here seq)
  counts-followed seq None all h = tt
  counts-followed seq (Some journal) all h = record {
    seq_is = h.seq_is ∙ ap (λ (n : ℕ). length (own n journal) + 1) (sym followed.client.client);
    within = omega arith;
  }

  -- the session goes on
  attends-followed : (s : Session) → Attends k s → Attends here s
  attends-followed s h = record {
    on = h.on;
    shards = subst (λ (n : ℕ). (LEAST_SHARDS ≤ n) × (n ≤ MOST_SHARDS)) (sym followed.client.shards) h.shards;
    client = h.client ∙ sym followed.client.client;
    begun = let b = h.begun in let up = followed.seen in omega arith;
    counts = subst (λ (o : Option Journal). IfSome o (Counts here s.seq)) (sym followed.journal)
        (counts-followed s.seq k.journal followed.all_seen h.counts);
    attempt = maybe-followed s.attempt h.attempt;
    watches = watches-followed k here s.watching followed h.watches;
  }

-- Others and a shard that follows take nothing of what it rests on.
pub sessions_go_on : SessionsGoOn
sessions_go_on = record {
  others = λ k l s is later. attends-later k l later s is;
  followed = λ k l s is done. attends-followed k l done s is;
}
