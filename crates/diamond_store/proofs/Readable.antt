-- What a pass knows of the journal can be read however legally that grows, since each of its commits may follow in a store, and whatever
-- comes behind them was run.
use Rattle.std.proofs.Common.{◌≡◌, ℕ, ◌≤◌, [], ◌∷◌, ◌++◌, length, drop, sym, subst, arith, append_assoc, append-nil, length-append}
use Rattle.plain_data.specs.Histories.{IsLawful, IsLawfulAfter}
use Rattle.txn_lang.specs.declared.commit.Commit.{Commit}
use Rattle.txn_lang.specs.States.{Journal}
use Rattle.txn_lang.specs.Journals.{IsLegal, IsRunAfter, MayFollow}
use Rattle.version_shard.proofs.Legal.{commit-rises}
use Rattle.docc_prepare.specs.Readable.{CanRead, CanReadOn, StaysReadable}
use Rattle.docc_prepare.proofs.Growing.{kinds-of-commit}
use Rattle.docc_prepare.proofs.Prefixes.{longer-is}
use Rattle.diamond_store.specs.Following.{Follows, IsSound}
use Rattle.diamond_store.specs.Passes.{Passed, known_of}
use Rattle.diamond_store.proofs.Sound.{lawful-sound}

-- ---- a commit of a run

-- a legal commit that is what its body does may follow in a store
run-follows : (m : ℕ) (before : Journal) (commit : Commit) → MayFollow m before commit → IsRunAfter before commit → Follows m before commit
run-follows m before commit legal runs = record {
  legal = legal;
  kinds = kinds-of-commit before commit runs;
  rising = commit-rises before commit runs;
}

-- ---- a journal behind what is taken on trust

module _ (m : ℕ) where
  -- commits behind the first m were run, so they may follow in a store
  runs-follow : (before more : Journal) → m ≤ length before → IsLawfulAfter MayFollow m before more → IsLawfulAfter Follows m before more
  runs-follow before [] past legal = tt
  runs-follow before (commit ∷ more) past legal = (
    run-follows m before commit legal.0 (legal.0.runs (let n = legal.0.number in omega arith)),
    runs-follow (before ++ commit ∷ []) more (let l = length-append before (commit ∷ []) in omega arith) legal.1,
  )

  -- the items behind the first ones follow them
  lawful-rest : (before items rest : Journal) → IsLawfulAfter MayFollow m before (items ++ rest) → IsLawfulAfter MayFollow m (before ++ items) rest
  lawful-rest before [] rest lawful = subst (λ (b : Journal). IsLawfulAfter MayFollow m b rest) (sym (append-nil before)) lawful
  lawful-rest before (x ∷ items) rest lawful =
      subst (λ (b : Journal). IsLawfulAfter MayFollow m b rest) (append_assoc before (x ∷ []) items) (lawful-rest (before ++ x ∷ []) items rest lawful.1)

  -- both parts together are lawful
  lawful-both : (before items rest : Journal) → IsLawfulAfter Follows m before items → IsLawfulAfter Follows m (before ++ items) rest
      → IsLawfulAfter Follows m before (items ++ rest)
  lawful-both before [] rest first second = subst (λ (b : Journal). IsLawfulAfter Follows m b rest) (append-nil before) second
  lawful-both before (x ∷ items) rest first second = (
    first.0,
    lawful-both (before ++ x ∷ []) items rest first.1
        (subst (λ (b : Journal). IsLawfulAfter Follows m b rest) (sym (append_assoc before (x ∷ []) items)) second),
  )

  -- so all of a journal may follow that goes on legally behind what is taken on trust
  grown-follows : (kept more : Journal) → m ≤ length kept → IsLawful Follows m kept → IsLegal m (kept ++ more) → IsLawful Follows m (kept ++ more)
  grown-follows kept more few lawful legal = lawful-both [] kept more lawful (runs-follow kept more few (lawful-rest [] kept more legal))

-- a sound journal can be read
sound-can : (m : ℕ) (journal : Journal) → IsSound m journal → CanRead journal
sound-can m journal sound = record { orderly = sound.orderly; readable = sound.readable }

-- what may follow can be read, and so can all that it legally grows into
trusted-stays-readable : (trusted : ℕ) (journal : Journal) → trusted ≤ length journal → IsLawful Follows trusted journal → CanReadOn trusted journal
trusted-stays-readable trusted kept few lawful later grows legal =
    let more = drop (length kept) later in
    let is : later ≡ kept ++ more = longer-is kept later grows in
    let follows = grown-follows trusted kept more few lawful (subst (λ (j : Journal). IsLegal trusted j) is legal) in
    sound-can trusted later (lawful-sound trusted later (subst (λ (j : Journal). IsLawful Follows trusted j) (sym is) follows))

-- ---- a pass

-- so what a pass knows stays readable
pub pass-reads : (p : Passed) → p.seen ≤ length p.journal → p.trusted ≤ length p.journal → IsLawful Follows p.trusted p.journal
    → StaysReadable (known_of p)
pass-reads p within kept lawful = record {
  within = within;
  can = sound-can p.trusted p.journal (lawful-sound p.trusted p.journal lawful);
  can_on = trusted-stays-readable p.trusted p.journal kept lawful;
}
