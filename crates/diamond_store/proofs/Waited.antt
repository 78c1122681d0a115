-- Learning more and more, until there is a commit past what was seen.
use Rattle.std.proofs.Common.{◌≡◌, ◌≤◌, ◌<◌, length, refl, ap, ◌∙◌, subst, arith}
use Rattle.history_lock.proofs.Prefixes.{IsPrefix-self, IsPrefix-trans}
use Rattle.txn_lang.specs.Journals.{IsLegal, own}
use Rattle.docc_prepare.specs.Calls.{Call, Answer}
use Rattle.docc_prepare.specs.Backends.{IsAnswered}
use Rattle.diamond_store.specs.Answers.{Learns}
use Rattle.diamond_store.specs.Passes.{Passed, known_of, is_in}
use Rattle.diamond_store.proofs.Known.{Grows, answered}

-- nothing has been learnt yet
pub learns-self : (p : Passed) → p.seen ≤ length p.journal → IsLegal p.trusted p.journal → Learns p p
learns-self p within legal = record {
  begins = IsPrefix-self p.journal;
  legal = legal;
  own_commits = refl;
  seen = omega arith;
  within = within;
  denials = omega arith;
  draws = omega arith;
  looks = omega arith;
  rest = refl;
}

-- what is learnt in turn
pub learns-trans : (p q r : Passed) → Learns p q → Learns q r → Learns p r
learns-trans p q r a b = record {
  begins = IsPrefix-trans p.journal q.journal r.journal a.begins b.begins;
  legal = b.legal;
  own_commits = subst (λ c. own c r.journal ≡ own c q.journal) (ap (λ x. x.client) a.rest) b.own_commits ∙ a.own_commits;
  seen = omega (arith, a.seen, b.seen);
  within = b.within;
  denials = omega (arith, a.denials, b.denials);
  draws = omega (arith, a.draws, b.draws);
  looks = omega (arith, a.looks, b.looks);
  rest = b.rest
      ∙ ap {A = Passed} (λ x. record x { journal = r.journal; seen = r.seen; denials = r.denials; draws = r.draws; looks = r.looks }) a.rest;
}

-- it knows no less
grows : (p q : Passed) → Learns p q → Grows p q
grows p q a = record {
  begins = a.begins;
  legal = a.legal;
  seen = a.seen;
  within = a.within;
  denials = a.denials;
  draws = a.draws;
  looks = a.looks;
  client = ap (λ x. x.client) a.rest;
  shards = ap (λ x. x.shards) a.rest;
  window = ap (λ x. x.window) a.rest;
  limit = ap (λ x. x.limit) a.rest;
  trusted = ap (λ x. x.trusted) a.rest;
}

-- a wait is over where more was seen
pub waited : (p q : Passed) → Learns p q → p.seen < q.seen → IsAnswered (known_of p) Call.wait Answer.done (known_of q)
waited p q a more =
    answered p q (grows p q a) Call.wait Answer.done refl (λ address. ap (λ x. is_in x.subscribed address) a.rest)
    (ap (λ x. x.taken) a.rest) (ap (λ x. x.denied) a.rest) a.denials tt more tt a.own_commits
