-- What `serve` promises of a store in a file, from what its parts do.
use Rattle.std.proofs.Common.{◌≡◌, ◌≢◌, ◌⊎◌, ℕ, ◌≤◌, Bool, true, false, [], ◌∷◌, ◌++◌, inl, inr, refl, sym, ap, ◌∙◌, subst, arith}
use Rattle.std.specs.Prelude.{Option, Some, None, IfSome, Result, Ok, Err, OnOk, is_err}
use Rattle.std.proofs.lemmas.Bool.{cases_lt}
use Rattle.std.specs.List.{AllByRecursion}
use Rattle.std.specs.List.Sorted.{IsStrictlySortedBy}
use Rattle.std.specs.Map.{keys_of}
use Rattle.plain_data.specs.Histories.{IsLawful, IsLawfulAfter}
use Rattle.dio_core.specs.Counts.{last_count, Rose, IsCounted}
use Rattle.dio_core.specs.Disks.{DiskState}
use Rattle.dio_core.specs.Links.{Both}
use Rattle.rdt_types.specs.Addresses.{address_cmp}
use Rattle.rdt_types.specs.declared.settings.Settings.{Settings}
use Rattle.txn_lang.specs.declared.commit.Commit.{Commit}
use Rattle.txn_lang.specs.Journals.{IsLegal, MayFollow}
use Rattle.txn_lang.specs.States.{Journal}
use Rattle.journal_core.specs.Kinds.{HasKinds}
use Rattle.commit_file.specs.declared.recover_error.RecoverError.{RecoverError}
use Rattle.commit_file.specs.declared.recover_error.RecoverError.TheVariants as error
use Rattle.commit_file.specs.Keepers.{Keeper}
use Rattle.commit_file.specs.Kept.{kept}
use Rattle.commit_file.specs.Recovering.{disk_failed}
use Rattle.commit_file.specs.Recovering as recovering
use Rattle.diamond_store.specs.Books.{IsAtMostRise}
use Rattle.diamond_store.specs.Following.{Follows}
use Rattle.script_runner.specs.Script.{Writing}
use Rattle.journal_file.specs.Commits.{CommitsFollow, IsKeptAs, commits_in}
use Rattle.journal_file.specs.Keepers.{KeepsThese, told_by, doubted_by, ReadsAs, LeavesAs}
use Rattle.diamond_server.specs.Accounts.{Gatherings}
use Rattle.diamond_server.specs.Ways.{Promising}
use Rattle.diamond_server.specs.declared.serving_all.Tally.{Tally}
use Rattle.diamond_cli.specs.Serving.{promised_of, HasServed, EndsLinks, IsSaid, ending}
use Rattle.diamond_cli.specs.Filed.{Storing, HoldsJournal, refusal, HoldsNone, IsUnwritten, IsUnaccepted, IsRefused, IsFiled, ServesFile}
use Rattle.diamond_cli.proofs.Served.{ends-unsaid, ends-nobody}

-- ---- the commits of a file

-- the deltas of each commit stand by rising address
abbrev AreRising : Journal → Type 0
AreRising journal = AllByRecursion (λ (commit : Commit). IsStrictlySortedBy address_cmp (keys_of commit.deltas)) journal

-- commit by commit
follows-after : (m : ℕ) (before journal : Journal) → IsLawfulAfter MayFollow m before journal → HasKinds journal → AreRising journal
    → IsLawfulAfter Follows m before journal
follows-after m before [] legal kinds rising = tt
follows-after m before (commit ∷ journal) legal kinds rising = (
  record { legal = legal.0; kinds = kinds.0; rising = rising.0 },
  follows-after m (before ++ commit ∷ []) journal legal.1 kinds.1 rising.1,
)

-- legal commits, whose deltas are of their kinds and rise, may follow one another in a store
pub recovered-follow : (m : ℕ) (journal : Journal) → IsLegal m journal → HasKinds journal → AreRising journal → IsLawful Follows m journal
recovered-follow m journal legal kinds rising = follows-after m [] journal legal kinds rising

-- ---- where a file was not recovered

-- the file is none of a journal, from this place on
none-held : (state : Option DiskState) (at : ℕ) → IfSome state (λ s. recovering.IsRefused (kept CommitsFollow s.file) (error.NotJournal at)) → HoldsNone state
none-held None at refused = tt
none-held (Some s) at refused = (at, refused)

module _ {L : Type 0} (g : Gatherings L) (d : Storing) (w : Writing) where
  -- no link had been accepted, and nothing was written
  pub recover-refused : (A : Type 0) (e : RecoverError) → IfSome d.state (λ s. recovering.IsRefused (kept CommitsFollow s.file) e)
      → (e ≢ error.DiskFault → d.state_then ≡ d.state) → IsCounted (disk_failed {A = A} (Err e)) d.faults d.faults_then
      → IsUnaccepted g → IsUnwritten w → IsRefused g d w e
  recover-refused A (error.NotJournal at) refused untouched counted unaccepted unwritten =
      (none-held d.state at refused, record { state = untouched (λ is. absurd (cc is)); faults = counted }, unaccepted, unwritten)
  recover-refused A error.DiskFault refused untouched counted unaccepted unwritten = (counted, unaccepted, unwritten)
  recover-refused A error.NoMemory refused untouched counted unaccepted unwritten = unwritten

-- ---- the end of the file

-- what was denied is at most what the count rose by, also behind one more call
later-rise : (first denials : ℕ) (failed : Bool) (old new : ℕ) → IsCounted failed old new → IsAtMostRise first denials old
    → IsAtMostRise first denials new
later-rise first denials false old new same most = subst (IsAtMostRise first denials) (sym same) most
later-rise first denials true old new (inl more) (inl most) = inl (omega (arith, more, most))
later-rise first denials true old new (inl more) (inr last) = inr (omega (arith, more, last))
later-rise first denials true old new (inr both) most = subst (IsAtMostRise first denials) (both.0 ∙ sym both.1) most

-- so what came of the links is the same behind it
pub later-served : {L : Type 0} (Promised : Promising) (told : L → Both) (settings : Settings) (sessions : ℕ) (g : Gatherings L) (found journal : Journal) (tally : Tally)
    (first before old new after : ℕ) (failed : Bool) → first ≡ before → IsCounted failed old new → new ≡ after
    → HasServed Promised told settings sessions g found first old tally journal → HasServed Promised told settings sessions g found before after tally journal
later-served Promised told settings sessions g found journal tally first before old new after failed start counted end served = record {
  pass = served.pass;
  low = served.low;
  high = served.high;
  set = served.set;
  served = served.served;
  knows = served.knows;
  begins = served.begins;
  legal = served.legal;
  others = served.others;
  denied = subst (λ (n : ℕ). IsAtMostRise n served.pass.denials after) start
      (subst (IsAtMostRise first served.pass.denials) end (later-rise first served.pass.denials failed old new counted served.denied));
}

-- a count that rose behind what was denied has risen since
rose-since : (first denials old new : ℕ) → first ≤ last_count → IsAtMostRise first denials old → Rose old new → Rose first new
rose-since first denials old new small most rose = elim (cases_lt first new) [
  | inl less ↦ inl less
  | inr le ↦ inr (since most rose le)
]
  where
    since : IsAtMostRise first denials old → Rose old new → new ≤ first → (first ≡ last_count) × (new ≡ last_count)
    since (inl most) (inl more) le = absurd (omega (arith, most, more, le))
    since (inl most) (inr both) le = (omega (arith, most, both.0, small), both.1)
    since (inr last) (inl more) le = absurd (omega (arith, last, more, le, small))
    since (inr last) (inr both) le = (omega (arith, both.1, le, small), both.1)

-- where nothing is doubtful, the file reads as the journal
none-doubted : (journal : Journal) (keeper : Keeper) (state : Option DiskState) (P : Type 0) → (doubted_by keeper ≡ None) ⊎ P → ¬ P
    → ReadsAs journal (doubted_by keeper) state → ReadsAs journal None state
none-doubted journal keeper state P (inl none) never reads = subst (λ doubted. ReadsAs journal doubted state) none reads
none-doubted journal keeper state P (inr p) never reads = absurd (never p)

module _ (journal : Journal) (before denials : ℕ) (old keeper : Keeper) where
  -- what is doubtful behind the last mending
  doubts-by : {A E : Type 0} (mended : Result A E) → OnOk mended (doubted_by keeper ≡ None) → IsCounted (is_err mended) old.faults keeper.faults
      → before ≤ last_count → IsAtMostRise before denials old.faults → (doubted_by keeper ≡ None) ⊎ Rose before keeper.faults
  doubts-by (Ok a) none counted small most = inl none
  doubts-by (Err e) none counted small most = inr (rose-since before denials old.faults keeper.faults small most counted)

  -- a keeper that was mended, and gave its disk back
  pub holds-journal : {A E : Type 0} (mended : Result A E) (after : ℕ) (state : Option DiskState) → OnOk mended (doubted_by keeper ≡ None)
      → IsCounted (is_err mended) old.faults keeper.faults → told_by keeper ≡ told_by old → KeepsThese journal old → before ≤ last_count
      → IsAtMostRise before denials old.faults → keeper.faults ≡ after → keeper.state ≡ state
      → (KeepsThese journal keeper → ReadsAs journal (doubted_by keeper) state)
      → (KeepsThese journal keeper → LeavesAs journal (doubted_by keeper) state) → HoldsJournal journal before after state
  holds-journal mended after state none counted same kept small most end over reads leaves =
      let keeps : KeepsThese journal keeper = subst (λ told. IfSome told (λ (list : Journal). list ≡ journal)) (sym same) kept in
      let doubts = subst (λ (n : ℕ). (doubted_by keeper ≡ None) ⊎ Rose before n) end (doubts-by mended none counted small most) in record {
        keeper = keeper;
        over = over;
        keeps = keeps;
        doubts = doubts;
        reads = reads keeps;
        leaves = leaves keeps;
        exact = λ never. none-doubted journal keeper state (Rose before after) doubts never (reads keeps);
      }

-- ---- the promises

-- a file that is kept as some commits is one of a journal
kept-held : (state : Option DiskState) → HoldsNone state → IfSome state (λ s. (journal : Journal) → IsKeptAs journal s.file → ⊥)
kept-held None none = tt
kept-held (Some s) none = λ journal is.
    let no : ◌≡◌ {A = Option Journal} None (Some journal) = sym (ap commits_in none.1) ∙ is in absurd (cc no)

module _ (Fact : Type 0) where
  -- a fact holds of each file that is kept as some commits
  abbrev IfKept : Option DiskState → Type 0
  IfKept state = IfSome state (λ s. (journal : Journal) → IsKeptAs journal s.file → Fact)

  -- so it does where there is no such file
  none-kept : (state : Option DiskState) → IfSome state (λ s. (journal : Journal) → IsKeptAs journal s.file → ⊥) → IfKept state
  none-kept None none = tt
  none-kept (Some s) none = λ journal is. absurd (none journal is)

  -- and where it holds anyway
  any-kept : (state : Option DiskState) → Fact → IfKept state
  any-kept None fact = tt
  any-kept (Some s) fact = λ journal is. fact

module _ {L : Type 0} (Promised : Promising) (told : L → Both) (settings : Settings) (sessions : ℕ) (g : Gatherings L) (d : Storing) (w : Writing) where
  -- all sessions ended: the promises, by whether an accept had failed and whether the line was written
  filed-by : (failed done : Bool) → IsFiled Promised told settings sessions g d (ending failed done) w → IsCounted failed g.faults g.faults_then
      → (done ≡ false → Rose w.faults w.faults_then) → ServesFile Promised told settings sessions g d (ending failed done) w
  filed-by true done e counted fault = record {
    statuses = refl;
    ended = λ among. e;
    unwritten = λ among. absurd (cc among);
    unaccepted = λ among. absurd (cc among);
    disk = λ is. absurd (cc is);
    refused = λ is. absurd (cc is);
    spared = λ is. absurd (cc is);
    listener = λ is. counted;
    completes = λ disk accepted written. absurd (accepted counted);
    unrefused = any-kept _ d.state (λ is. absurd (cc is));
  }
  filed-by false true e counted fault = record {
    statuses = refl;
    ended = λ among. e;
    unwritten = λ among. absurd (cc among);
    unaccepted = λ among. absurd (cc among);
    disk = λ is. absurd (cc is);
    refused = λ is. absurd (cc is);
    spared = λ is. absurd (cc is);
    listener = λ is. absurd (cc is);
    completes = λ disk accepted written. refl;
    unrefused = any-kept _ d.state (λ is. absurd (cc is));
  }
  filed-by false false e counted fault = record {
    statuses = refl;
    ended = λ among. e;
    unwritten = λ among. absurd (cc among);
    unaccepted = λ among. absurd (cc among);
    disk = λ is. absurd (cc is);
    refused = λ is. absurd (cc is);
    spared = λ is. absurd (cc is);
    listener = λ is. absurd (cc is);
    completes = λ disk accepted written. absurd (written (fault refl));
    unrefused = any-kept _ d.state (λ is. absurd (cc is));
  }

  -- at the status by which it ended
  pub filed-serves : (status : ℕ) → IsFiled Promised told settings sessions g d status w → ServesFile Promised told settings sessions g d status w
  filed-serves status e =
      let said = e.ended.said in
      subst (λ (s : ℕ). ServesFile Promised told settings sessions g d s w) (sym said.status_is) (filed-by e.ended.tally.failed said.done
      (subst (λ (s : ℕ). IsFiled Promised told settings sessions g d s w) said.status_is e) e.ended.served.served.accepted.counted said.tried.fault)

  -- the parts of what came of it all; the disk's count had not risen while the file was recovered
  pub has-filed : (status middle : ℕ) (found journal : Journal) (tally : Tally) → IfSome d.state (λ s. IsKeptAs found s.file) → middle ≡ d.faults
      → HasServed Promised told settings sessions g found middle d.faults_then tally journal → HoldsJournal journal middle d.faults_then d.state_then → IsSaid tally journal status w
      → IsFiled Promised told settings sessions g d status w
  has-filed status middle found journal tally recovered count served holds said = record {
    kept = found;
    recovered = recovered;
    ended = record {
      tally = tally;
      journal = journal;
      served = subst (λ (n : ℕ). HasServed Promised told settings sessions g found n d.faults_then tally journal) count served;
      said = said;
    };
    holds = subst (λ (n : ℕ). HoldsJournal journal n d.faults_then d.state_then) count holds;
  }

  -- where the file was not recovered, or memory was wanting
  pub refused-serves : (e : RecoverError) → IsRefused g d w e → ServesFile Promised told settings sessions g d (refusal e) w
  refused-serves (error.NotJournal at) is = record {
    statuses = refl;
    ended = λ among. absurd (cc among);
    unwritten = λ among. is.3;
    unaccepted = λ among. is.2;
    disk = λ no. absurd (cc no);
    refused = λ here. is.0;
    spared = λ here. is.1;
    listener = λ no. absurd (cc no);
    completes = λ disk accepted written. refl;
    unrefused = none-kept _ d.state (kept-held d.state is.0);
  }
  refused-serves error.DiskFault is = record {
    statuses = refl;
    ended = λ among. absurd (cc among);
    unwritten = λ among. is.2;
    unaccepted = λ among. is.1;
    disk = λ here. is.0;
    refused = λ no. absurd (cc no);
    spared = λ no. absurd (cc no);
    listener = λ no. absurd (cc no);
    completes = λ disk accepted written. absurd (disk is.0);
    unrefused = any-kept _ d.state (λ no. absurd (cc no));
  }
  refused-serves error.NoMemory is = record {
    statuses = refl;
    ended = λ among. absurd (cc among);
    unwritten = λ among. is;
    unaccepted = λ among. absurd (cc among);
    disk = λ no. absurd (cc no);
    refused = λ no. absurd (cc no);
    spared = λ no. absurd (cc no);
    listener = λ no. absurd (cc no);
    completes = λ disk accepted written. refl;
    unrefused = any-kept _ d.state (λ no. absurd (cc no));
  }

-- each link has ended that was given back: where the file was not recovered none was
pub refused-ends : {L : Type 0} (ended : L → Option Bool) (g : Gatherings L) (d : Storing) (w : Writing) (e : RecoverError) → IsRefused g d w e
    → EndsLinks ended g (refusal e)
refused-ends ended g d w (error.NotJournal at) is = ends-nobody ended g _ is.2.given
refused-ends ended g d w error.DiskFault is = ends-nobody ended g _ is.1.given
refused-ends ended g d w error.NoMemory is = ends-unsaid ended g

-- what links bring, by the word that was given
pub files-form : {L : Type 0} (wire form : Bool) (told : L → Both) (settings : Settings) (sessions : ℕ) (g : Gatherings L) (d : Storing) (status : ℕ)
    (w : Writing) → wire ≡ form → ServesFile (promised_of form) told settings sessions g d status w
    → ServesFile (promised_of wire) told settings sessions g d status w
files-form wire form told settings sessions g d status w is serves =
    subst (λ (b : Bool). ServesFile (promised_of b) told settings sessions g d status w) (sym is) serves
