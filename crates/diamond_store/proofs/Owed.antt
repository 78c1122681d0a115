-- What a client owes holds when the journal has grown, and lets its commit follow.
use Rattle.std.proofs.Common.{◌≡◌, ℕ, ◌+◌, List, [], length, Some, refl, sym, ap, ◌∙◌, subst}
use Rattle.std.specs.Prelude.{slice_get}
use Rattle.std.specs.List.{AllByRecursion}
use Rattle.std.specs.List.Sorted.{IsStrictlySortedBy}
use Rattle.std.specs.Map.{keys_of}
use Rattle.std.specs.Option.{option_and_then}
use mathlib.Core.List.{IsPrefix}
use Rattle.rdt_types.specs.Addresses.{address_cmp}
use Rattle.abort_witness.specs.declared.witness.Based.{Based}
use Rattle.abort_witness.specs.declared.witness.Found.{Found}
use Rattle.abort_witness.specs.declared.witness.Witness.{Witness}
use Rattle.abort_witness.specs.Kinds.{IsBasedOfOneKind}
use Rattle.txn_lang.specs.States.{Journal, known, left_by}
use Rattle.txn_lang.specs.Execution.{done, exec}
use Rattle.txn_lang.specs.Journals.{own}
use Rattle.txn_lang.specs.Tree.{tree}
use Rattle.txn_eval.specs.Running.{values_of}
use Rattle.journal_core.specs.declared.ready.Ready.{Ready}
use Rattle.journal_core.specs.Holds.{observed_alone, seen_behind, seen_by}
use Rattle.journal_core.specs.Pairs.{pairs, least_pair, past_fronts}
use Rattle.journal_core.specs.Readies.{IsRunOf, made_of}
use Rattle.journal_core.proofs.OfRuns.{kinds-of-run}
use Rattle.docc_prepare.specs.Attempts.{based, Fits}
use Rattle.docc_prepare.specs.Witnesses.{witness_of, least_witness}
use Rattle.docc_prepare.proofs.Fronts.{fronts_spare_no_pair}
use Rattle.docc_prepare.proofs.Growing.{fits_stays}
use Rattle.docc_prepare.proofs.Missing.{none-of-least}
use Rattle.docc_prepare.proofs.Undisturbed.{runs_as_it_ran, observed_of_one_kind}
use Rattle.local_world.proofs.Naming.{named-by-journal}
use Rattle.diamond_store.specs.Following.{Follows, IsSound}
use Rattle.diamond_store.specs.Owing.{IsOwed}
use Rattle.diamond_store.specs.Settling.{IsClear, IsClashPast, CanSettle}

-- it is owed to each longer journal in which the client has no more commits
pub owed-later : (shards : ℕ) (journal later : Journal) (ready : Ready) → IsOwed shards journal ready → IsPrefix journal later
    → own ready.client later ≡ own ready.client journal → IsOwed shards later ready
owed-later shards journal later ready owed more same = record {
  attempt = owed.attempt;
  runs = owed.runs;
  made = owed.made;
  text = owed.text;
  all_shards = owed.all_shards;
  fits = subst (λ (j : Journal). Fits j owed.attempt) more.1 (fits_stays journal more.0 owed.attempt owed.fits);
  next = owed.next ∙ ap (λ (mine : Journal). length mine + 1) (sym same);
  body_text = owed.body_text;
  few = owed.few;
}

module _ (m shards : ℕ) (journal : Journal) (ready : Ready) (owed : IsOwed shards journal ready) (sound : IsSound m journal) where
  -- the attempt's observations, with their bases
  abbrev observed : List Based
  observed = based owed.attempt.snaps ready.run.observations

  -- what is handed on has these observations
  based-is : ready.based ≡ observed
  based-is = ap (λ (r : Ready). r.based) owed.made

  -- each is of its address' kind, since the attempt fits the journal
  pub kinds-owed : AllByRecursion IsBasedOfOneKind ready.based
  kinds-owed =
      subst (AllByRecursion IsBasedOfOneKind) (sym based-is) (observed_of_one_kind journal owed.attempt ready.run sound.orderly owed.fits owed.runs)

  -- to look past the fronts is to look at all
  pub spared : least_pair (past_fronts shards ready.fronts ready.based) journal ≡ least_pair ready.based journal
  spared =
      ap (λ (n : ℕ). least_pair (past_fronts n ready.fronts ready.based) journal) (sym owed.all_shards)
      ∙ ap (λ (r : Ready). least_pair (past_fronts owed.attempt.shards r.fronts r.based) journal) owed.made
      ∙ ap (λ (found : List Found). slice_get found 0) (fronts_spare_no_pair journal owed.attempt ready.run sound.orderly.numbered owed.fits owed.runs)
      ∙ ap (λ (bs : List Based). least_pair bs journal) (sym based-is)

  -- where nothing clashes past the fronts, nothing does
  pub all-clear : IsClear shards ready journal → pairs ready.based journal ≡ []
  all-clear clear = none-of-least (pairs ready.based journal) (sym spared ∙ clear)

  -- the witness past the fronts is that of the least pair of all
  pub least-is : (witness : Witness) → IsClashPast shards ready journal witness → least_witness ready.based journal ≡ Some witness
  least-is witness clash =
      let least : least_pair ready.based journal ≡ Some clash.found = sym spared ∙ clash.least in
      ap (option_and_then (witness_of ready.based journal)) least
      ∙ named-by-journal ready.based journal clash.found sound.orderly kinds-owed least witness clash.names

  -- the body that is handed on is the attempt's
  body-is : ready.body ≡ owed.attempt.body.source
  body-is = ap (λ (r : Ready). r.body) owed.made

  -- the run is one of the text's body, on what was read
  pub run-owed : IsRunOf ready.body ready.run
  run-owed =
      subst (λ (text : List ℕ). IsRunOf text ready.run) (sym body-is)
      (record { body = owed.attempt.body.body; values = values_of owed.attempt.snaps; read = owed.text; ran = owed.runs })

  -- it is the text's
  read-owed : tree ready.body ≡ Some owed.attempt.body.body
  read-owed = ap tree body-is ∙ owed.text

  -- without a clash it runs on what the journal leaves as it ran
  ran-alone : IsClear shards ready journal → exec owed.attempt.body.body (known (left_by journal)) ≡ done ready.run
  ran-alone clear =
      let undisturbed = ap (λ (bs : List Based). pairs bs journal) (sym based-is) ∙ all-clear clear in
      runs_as_it_ran journal owed.attempt ready.run sound.orderly (record { fits = owed.fits; runs = owed.runs; undisturbed = undisturbed })

  -- so it observes there what it observed
  observed-owed : IsClear shards ready journal → observed_alone journal (made_of journal ready) ≡ ready.run.observations
  observed-owed clear = ap (seen_behind journal) read-owed ∙ ap seen_by (ran-alone clear)

  -- so the journal may decide on it
  pub can-settle : CanSettle shards ready journal
  can-settle = record {
    run = run-owed;
    body_text = owed.body_text;
    next = owed.next;
    kinds = kinds-owed;
    few = owed.few;
    observed = observed-owed;
  }

  -- and its commit may follow
  pub follows : IsClear shards ready journal → IsStrictlySortedBy address_cmp (keys_of ready.run.deltas) → Follows m journal (made_of journal ready)
  follows clear rising =
      let ran = ran-alone clear in
      record {
        legal = record {
          number = refl;
          seq = owed.next;
          runs = λ past. record {
            body = owed.attempt.body.body;
            run = ready.run;
            read = read-owed;
            ran = ran;
            outcome = refl;
            deltas = refl;
          };
        };
        kinds = kinds-of-run owed.attempt.body.body (known (left_by journal)) ready.run ran;
        rising = rising;
      }
