-- A legal journal is the serial execution of its requests.
use Rattle.std.proofs.Common.{◌≡◌, ◌<◌, ℕ, ◌+◌, List, [], ◌∷◌, ◌++◌, fold, length, Option, Some, None, refl, sym, ap, ◌∙◌, subst, arith}
use Rattle.txn_trees.specs.declared.statement.Body.{Body}
use Rattle.rdt_types.specs.declared.outcome.Outcome.{Outcome}
use Rattle.rdt_types.specs.DeltaMaps.{Deltas}
use Rattle.txn_lang.specs.declared.commit.Commit.{Commit}
use Rattle.txn_lang.specs.States.{Journal, known, left_by}
use Rattle.txn_lang.specs.Execution.{Ran, need, done, exec}
use Rattle.txn_lang.specs.Journals.{IsLegal, MayFollow, commit_of, own}
use Rattle.txn_lang.specs.Tree.{tree}
use Rattle.txn_lang.proofs.Journals.{legal-push}
use Rattle.plain_data.specs.Histories.{IsLawfulAfter}
use Rattle.serial_order.specs.Serial.{Request, request_of, requests, committed, run_body, run_alone, LegalIsSerial}

-- a commit is what its fields are
of_fields : (c : Commit) (number seq : ℕ) (how : Outcome) (deltas : Deltas) → c.number ≡ number → c.seq ≡ seq → c.outcome ≡ how → c.deltas ≡ deltas
    → record { number = number; client = c.client; seq = seq; body = c.body; outcome = how; deltas = deltas } ≡ c
of_fields c number seq how deltas n q o d =
    ap (λ x. record { number = x; client = c.client; seq = seq; body = c.body; outcome = how; deltas = deltas }) (sym n)
    ∙ ap (λ x. record { number = c.number; client = c.client; seq = x; body = c.body; outcome = how; deltas = deltas }) (sym q)
    ∙ ap (λ x. record { number = c.number; client = c.client; seq = c.seq; body = c.body; outcome = x; deltas = deltas }) (sym o)
    ∙ ap (λ x. record { number = c.number; client = c.client; seq = c.seq; body = c.body; outcome = c.outcome; deltas = x }) (sym d)

-- a commit that may follow is the one that its request gives there
commit-same : (before : Journal) (commit : Commit) → MayFollow 0 before commit → run_alone before (request_of commit) ≡ before ++ commit ∷ []
commit-same before commit follows =
    let runs = follows.runs (subst (λ n. 0 < n) (sym follows.number) (omega arith)) in
    ap (run_body before (request_of commit)) runs.read
    ∙ ap (committed before (request_of commit)) runs.ran
    ∙ ap (λ c. before ++ c ∷ [])
    (of_fields commit (length before + 1) (length (own commit.client before) + 1) runs.run.outcome runs.run.deltas follows.number follows.seq
    runs.outcome runs.deltas)

-- so each commit behind these is
after-same : (before rest : Journal) → IsLawfulAfter MayFollow 0 before rest → fold run_alone before (requests rest) ≡ before ++ rest
after-same before [] all = sym (by before)
  where
    by : (xs : Journal) → xs ++ [] ≡ xs
    by [] = refl
    by (x ∷ xs) = ap (λ more. x ∷ more) (by xs)
after-same before (commit ∷ rest) all =
    ap (λ so_far. fold run_alone so_far (requests rest)) (commit-same before commit all.0)
    ∙ after-same (before ++ commit ∷ []) rest all.1
    ∙ joined before commit rest
  where
    joined : (xs : Journal) (c : Commit) (ys : Journal) → (xs ++ c ∷ []) ++ ys ≡ xs ++ c ∷ ys
    joined [] c ys = refl
    joined (x ∷ xs) c ys = ap (λ more. x ∷ more) (joined xs c ys)

-- one request more keeps a journal legal
alone-legal : (before : Journal) (request : Request) → IsLegal 0 before → IsLegal 0 (run_alone before request)
alone-legal before request legal = by_tree (tree request.body) refl
  where
    by_run : (body : Body) (ran : Ran) → tree request.body ≡ Some body → exec body (known (left_by before)) ≡ ran → IsLegal 0 (committed before request ran)
    by_run body (need address) read is = legal
    by_run body (done run) read is =
        legal-push 0 before (commit_of before request.client request.body run) legal (record {
          number = refl;
          seq = refl;
          runs = λ _. record { body = body; run = run; read = read; ran = is; outcome = refl; deltas = refl };
        })

    by_tree : (o : Option Body) → tree request.body ≡ o → IsLegal 0 (run_body before request o)
    by_tree None read = legal
    by_tree (Some body) read = by_run body (exec body (known (left_by before))) read refl

-- so do all
all-legal : (before : Journal) (all : List Request) → IsLegal 0 before → IsLegal 0 (fold run_alone before all)
all-legal before [] legal = legal
all-legal before (request ∷ all) legal = all-legal (run_alone before request) all (alone-legal before request legal)

pub legal_is_serial : LegalIsSerial
legal_is_serial = record { same = λ journal legal. after-same [] journal legal; legal = λ all. all-legal [] all tt }
