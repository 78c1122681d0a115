-- The first client of a store.
use Rattle.std.proofs.Common.{◌≡◌, ℕ, List, [], length, refl, ap, ◌∙◌, arith}
use Rattle.rdt_types.specs.declared.address.Address.{Address}
use Rattle.rdt_types.specs.declared.settings.Settings.{Settings}
use Rattle.history_lock.specs.declared.known.Known.{Known}
use Rattle.history_lock.specs.Tokens.{IsDrawn}
use Rattle.txn_lang.specs.declared.commit.Commit.{Commit}
use Rattle.diamond_store.specs.Answers.{IsFirst, IsNewest}
use Rattle.diamond_store.specs.Appending.{client_of}
use Rattle.diamond_store.specs.Passes.{passed}

-- whoever has drawn a number behind what was opened is the first client
pub drawn-first :
    (base trusted first number seen : ℕ) (opened front after : Known Commit) (subscribed : List Address) (settings : Settings)
    → trusted ≡ base → front ≡ opened → IsDrawn client_of first front number after → seen ≡ length after.seen → subscribed ≡ []
    → IsFirst base opened settings (passed trusted number after seen subscribed seen 0 settings)
drawn-first base trusted first number seen opened front after subscribed settings trusts same drawn all none = record {
  own_commits = rw same at drawn.unnamed;
  journal = ap (λ (k : Known Commit). k.seen) drawn.rest ∙ ap (λ (k : Known Commit). k.seen) same;
  seen = whole;
  subscribed = none;
  taken = whole;
  denied = refl;
  denials = ap (λ (k : Known Commit). k.count) drawn.rest ∙ ap (λ (k : Known Commit). k.count) same;
  shards = refl;
  window = refl;
  limit = refl;
  trusted = trusts;
} where
  whole : seen ≡ length opened.seen
  whole = all ∙ ap (λ (k : Known Commit). length k.seen) drawn.rest ∙ ap (λ (k : Known Commit). length k.seen) same

-- and its number is the newest
pub drawn-newest :
    (trusted named first number seen : ℕ) (opened front after : Known Commit) (subscribed : List Address) (settings : Settings)
    → named ≡ first → front ≡ opened → IsDrawn client_of first front number after
    → IsNewest named opened (passed trusted number after seen subscribed seen 0 settings)
drawn-newest trusted named first number seen opened front after subscribed settings names same drawn =
    let draws : front.draws ≡ opened.draws = ap (λ (k : Known Commit). k.draws) same in
    record {
      past = omega (arith, names, draws, drawn.past);
      newest = omega (arith, names, drawn.known);
    }
