-- What is known of commits that continue one another.
use Rattle.std.proofs.Common.{ℕ, zero, suc, ◌+◌, ◌≤◌, ◌<◌, [], ◌∷◌, ◌++◌, length, subst, arith, length-append}
use Rattle.std.specs.Prelude.{All}
use Rattle.std.specs.List.{AllByRecursion}
use Rattle.std.specs.List.Sorted.{IsStrictlySortedBy}
use Rattle.std.specs.Map.{keys_of}
use Rattle.plain_data.specs.Histories.{IsLawfulAfter}
use Rattle.rdt_types.specs.Addresses.{address_cmp}
use Rattle.txn_lang.specs.declared.commit.Commit.{Commit}
use Rattle.txn_lang.specs.States.{Journal}
use Rattle.txn_lang.specs.Journals.{MayFollow, IsLegal}
use Rattle.journal_core.specs.declared.limits.TheConstants.{FIRST_UNTOLD_CLIENT}
use Rattle.journal_core.specs.Kinds.{HasKinds}
use Rattle.journal_core.specs.Pairs.{AreNumberedFrom, AreNumbered}
use Rattle.journal_file.specs.Chains.{Continues, AreContinued}
use Rattle.journal_file.proofs.Recorded.{recorded-kinds, recorded-rising, recorded-client}

abbrev After : Journal → Journal → Type 0
After before commits = IsLawfulAfter (λ base before c. Continues before c) 0 before commits

-- of the first m commits nothing is known of their bodies
legal-after : (m : ℕ) (before commits : Journal) → length before + length commits ≤ m → After before commits
    → IsLawfulAfter MayFollow m before commits
legal-after m before [] few continued = tt
legal-after m before (commit ∷ commits) few continued = (
  record {
    number = continued.0.next.number;
    seq = continued.0.next.seq;
    runs = λ past. absurd (omega (arith, past, few, continued.0.next.number));
  },
  legal-after m (before ++ commit ∷ []) commits (omega (arith, few, length-append before (commit ∷ []))) continued.1,
)

pub continued-legal : (commits : Journal) → AreContinued commits → IsLegal (length commits) commits
continued-legal commits continued = legal-after (length commits) [] commits (omega arith) continued

numbered-after : (before commits : Journal) → After before commits → AreNumberedFrom (length before) commits
numbered-after before [] continued = tt
numbered-after before (commit ∷ commits) continued = (
  continued.0.next.number,
  subst (λ n. AreNumberedFrom n commits) (length-append before (commit ∷ [])) (numbered-after (before ++ commit ∷ []) commits continued.1),
)

pub continued-numbered : (commits : Journal) → AreContinued commits → AreNumbered commits
continued-numbered commits continued = numbered-after [] commits continued

kinds-after : (before commits : Journal) → After before commits → HasKinds commits
kinds-after before [] continued = tt
kinds-after before (commit ∷ commits) continued =
    (recorded-kinds commit continued.0.recorded, kinds-after (before ++ commit ∷ []) commits continued.1)

pub continued-kinds : (commits : Journal) → AreContinued commits → HasKinds commits
continued-kinds commits continued = kinds-after [] commits continued

abbrev AreRising : Journal → Type 0
AreRising commits = AllByRecursion (λ (commit : Commit). IsStrictlySortedBy address_cmp (keys_of commit.deltas)) commits

rising-after : (before commits : Journal) → After before commits → AreRising commits
rising-after before [] continued = tt
rising-after before (commit ∷ commits) continued =
    (recorded-rising commit continued.0.recorded, rising-after (before ++ commit ∷ []) commits continued.1)

pub continued-rising : (commits : Journal) → AreContinued commits → AreRising commits
continued-rising commits continued = rising-after [] commits continued

clients-after : (before commits : Journal) → After before commits → All (λ (commit : Commit). commit.client < FIRST_UNTOLD_CLIENT) commits
clients-after before [] continued k d within = absurd (omega (arith, within))
clients-after before (commit ∷ commits) continued zero d within = recorded-client commit continued.0.recorded
clients-after before (commit ∷ commits) continued (suc k) d within =
    clients-after (before ++ commit ∷ []) commits continued.1 k d (omega (arith, within))

pub continued-clients : (commits : Journal) → AreContinued commits → All (λ (commit : Commit). commit.client < FIRST_UNTOLD_CLIENT) commits
continued-clients commits continued = clients-after [] commits continued
