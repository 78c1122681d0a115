-- What the journal decides is what the store decides.
use Rattle.std.proofs.Common.{◌≡◌, ℕ, length, Option, Some, sym, ap, ◌∙◌, subst}
use Rattle.std.specs.Prelude.{nat_le}
use Rattle.std.specs.Option.{option_and_then}
use Rattle.abort_witness.specs.declared.witness.Found.{Found}
use Rattle.abort_witness.specs.declared.witness.Witness.{Witness}
use Rattle.txn_lang.specs.States.{Journal}
use Rattle.journal_core.specs.declared.ready.Ready.{Ready}
use Rattle.journal_core.specs.Journals.{Standing}
use Rattle.journal_core.specs.Journals as journals
use Rattle.journal_core.specs.Pairs.{least_pair, past_fronts}
use Rattle.journal_core.specs.Witnesses.{IsWitnessOf}
use Rattle.docc_prepare.specs.Calls.{Answer}
use Rattle.docc_prepare.specs.Witnesses.{witness_of}
use Rattle.docc_prepare.specs.Stores.{Store, found_past, witness_past, barred_by, decided, append_to}
use Rattle.docc_prepare.proofs.Growing.{legal_is_orderly}
use Rattle.local_world.specs.Deciding.{MayDecide, HasJournal, IsDecided}
use Rattle.local_world.proofs.Naming.{named-by-journal}

module _ (ready : Ready) (old mid : Standing) (same : mid ≡ record old { room = mid.room }) (may : MayDecide ready old) where
  -- what was made ready beforehand is memory alone, so the commits are the same
  commits-same : mid.commits ≡ old.commits
  commits-same = ap (λ (s : Standing). s.commits) same

  -- and so is the pair past the fronts
  found-same : journals.found_past ready mid ≡ journals.found_past ready old
  found-same = ap (λ (s : Standing). journals.found_past ready s) same

  module _ (s : Store) (of : HasJournal s old) where
    -- the store has the journal and its settings, so the pair past the fronts is the same
    found-is : found_past s ready ≡ journals.found_past ready mid
    found-is =
        ap (λ (n : ℕ). least_pair (past_fronts n ready.fronts ready.based) s.journal) of.shards
        ∙ ap (λ (j : Journal). least_pair (past_fronts old.shards ready.fronts ready.based) j) of.journal
        ∙ sym found-same

    -- what is a witness of the least pair is the one that the store names, and both leave the journal as it is
    pub by-clash : (found : Found) (w : Witness) → Some found ≡ journals.found_past ready mid → IsWitnessOf ready.based mid.commits found w
        → IsDecided s ready (Answer.clash w) mid.commits
    by-clash found w there is =
        let least : least_pair ready.based old.commits ≡ Some found = sym may.spared ∙ sym found-same ∙ sym there in
        let here : witness_of ready.based old.commits found ≡ Some w =
        named-by-journal ready.based old.commits found (legal_is_orderly old.commits may.legal) may.kinds least w
        (subst (λ (j : Journal). IsWitnessOf ready.based j found w) commits-same is)
        in
        let named : witness_past s ready ≡ Some w =
        ap (option_and_then (witness_of ready.based s.journal)) (found-is ∙ sym there)
        ∙ ap (λ (j : Journal). witness_of ready.based j found) of.journal
        ∙ here
        in
        let all : append_to s ready.client ready ≡ decided s ready.client ready (Some w) (barred_by s ready.client ready) (nat_le s.limit (length s.journal)) =
        ap (λ (o : Option Witness). decided s ready.client ready o (barred_by s ready.client ready) (nat_le s.limit (length s.journal))) named in record {
          answer = sym (ap (λ (p : Store × Answer). p.1) all);
          journal = commits-same ∙ sym of.journal ∙ sym (ap (λ (p : Store × Answer). p.0.journal) all);
        }
