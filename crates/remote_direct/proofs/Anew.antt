-- What is handed on is made anew by the service, but for its fronts.
use Rattle.std.proofs.Common.{◌≡◌, ℕ, Bool, true, false, cond, ◌||◌, List, [], ◌∷◌, length, Option, Some, None, option_map, inl, inr, refl, sym, ap, ◌∙◌, subst, arith}
use Rattle.std.specs.Prelude.{IfSome, not, nat_le}
use Rattle.std.specs.List.{AllByRecursion, list_all}
use Rattle.std.specs.List.Sorted.{IsStrictlySortedBy}
use Rattle.std.specs.Map.{keys_of}
use Rattle.std.specs.Ordering.{is_eq}
use Rattle.std.proofs.lemmas.Bool.Decides.{nat_tests}
use Rattle.plain_data.proofs.Entries.{equal, sorted-insert_entry, sorted-none}
use Rattle.rdt_types.specs.contracts.address.AddressOrd.TheImpl.Laws as order
use Rattle.rdt_types.specs.declared.address.Address.{Address}
use Rattle.rdt_types.specs.declared.value.Value.{Value}
use Rattle.rdt_types.specs.Addresses.{address_cmp}
use Rattle.rdt_types.specs.Shards.{shard_of}
use Rattle.rdt_types.proofs.Addresses.{address_cmp-equal}
use Rattle.abort_witness.specs.declared.witness.Based.{Based}
use Rattle.txn_trees.specs.declared.statement.Body.{Body}
use Rattle.txn_lang.specs.declared.run.Run.{Run}
use Rattle.txn_lang.specs.declared.run.Seen.{Seen}
use Rattle.txn_lang.specs.declared.snaps.Snap.{Snap}
use Rattle.txn_lang.specs.States.{Journal}
use Rattle.txn_lang.specs.Execution.{done, exec}
use Rattle.txn_lang.specs.Observed.{IsThere}
use Rattle.txn_lang.specs.Tree.{tree}
use Rattle.txn_lang.proofs.Observed.{observed_is_there}
use Rattle.txn_eval.specs.Running.{values_of}
use Rattle.journal_core.specs.declared.limits.TheConstants.{LONGEST_BODY}
use Rattle.journal_core.specs.declared.ready.PreparedFront.{PreparedFront}
use Rattle.journal_core.specs.declared.ready.Ready.{Ready}
use Rattle.journal_core.specs.Bodies.{ends_in_blank, IsBodyText}
use Rattle.record_code.specs.Fields.{◌>>=◌}
use Rattle.docc_prepare.specs.declared.attempt.Attempt.{Attempt}
use Rattle.docc_prepare.specs.declared.attempt.Next.TheVariants as next
use Rattle.docc_prepare.specs.Attempts.{SnapList, ran, base_at, base_in, with_base, based, in_shard, has_front, least_unprepared, lesser, next_of, next_of_run, next_event, ready_of}
use Rattle.docc_prepare.specs.Attempts.{SnapFits, AreAsked}
use Rattle.docc_prepare.specs.Serial.{is_observed}
use Rattle.docc_prepare.specs.Calls.{Known}
use Rattle.docc_prepare.specs.Backends.{CanValidate, CanAppend, FitsNext}
use Rattle.docc_prepare.proofs.Asked.{reads_are_observed}
use Rattle.docc_prepare.proofs.Each.{each-more}
use Rattle.docc_prepare.proofs.EachRead.{found}
use Rattle.docc_prepare.proofs.Nexts.{appends}
use Rattle.remote_wire.specs.declared.request.Base.{Base}
use Rattle.remote_calls.specs.Spelled.{bases_of}
use Rattle.remote_service.specs.declared.kept.KeptSnap.{KeptSnap}
use Rattle.remote_service.specs.declared.service.Service.{Service}
use Rattle.remote_service.specs.Keeping.{was_given}
use Rattle.remote_service.specs.Anew.{body_of, values_on, values_at, if_done, are_observed, run_anew, ran_anew, fronts_for, handed_on, made_anew}
use Rattle.remote_service.specs.Serving.{snap_of, Stands, Serves}
use Rattle.remote_service.proofs.Found.{value-found, ReadsAt, each-value, values-rise, names-read, only-named}
use Rattle.remote_service.proofs.Handed.{handed-is}
use Rattle.remote_service.proofs.Named.{In, each-in, naming-all, naming-names}
use Rattle.remote_service.proofs.Reasked.{at, at-itself, same-snaps}
use Rattle.remote_service.proofs.Suiting.{both}
use Rattle.remote_direct.specs.Directing.{was_prepared, known_at, with_fronts}
use Rattle.remote_direct.proofs.Kept.{or-true, naming-apart, values-there, HasOne, front-there, fronts-there}

-- ---- lists

-- what holds of all holds of one of them
in-all : {A : Type 0} (P : A → Type 0) (xs : List A) (x : A) → AllByRecursion P xs → In xs x → P x
in-all P [] x all h = absurd h
in-all P (y ∷ ys) x all (inl e) = subst P e all.0
in-all P (y ∷ ys) x all (inr h) = in-all P ys x all.1 h

-- where each passes a test all do
pub all-pass : {A : Type 0} (test : A → Bool) (xs : List A) → AllByRecursion (λ x. test x ≡ true) xs → list_all test xs ≡ true
all-pass test [] all = refl
all-pass test (x ∷ xs) all = both (test x) (list_all test xs) all.0 (all-pass test xs all.1)

-- ---- observations

-- what holds of each with its base holds of all with theirs
based-all : (P : Based → Type 0) (snaps : SnapList) (xs : List Seen) → AllByRecursion (λ z. P (with_base snaps z)) xs
    → AllByRecursion P (based snaps xs)
based-all P snaps [] all = tt
based-all P snaps (z ∷ xs) all = (all.0, based-all P snaps xs all.1)

-- and what holds of all holds of each
based-each : (P : Based → Type 0) (snaps : SnapList) (xs : List Seen) → AllByRecursion P (based snaps xs)
    → AllByRecursion (λ z. P (with_base snaps z)) xs
based-each P snaps [] all = tt
based-each P snaps (z ∷ xs) all = (all.0, based-each P snaps xs all.1)

-- each has its own base
own-bases : (snaps : SnapList) (xs : List Seen) → AllByRecursion (λ b. b.base ≡ base_at snaps b.address) (based snaps xs)
own-bases snaps [] = tt
own-bases snaps (z ∷ xs) = (refl, own-bases snaps xs)

-- the address of an observation is observed
in-observed : (xs : List Seen) (z : Seen) → In xs z → is_observed xs z.address ≡ true
in-observed [] z h = absurd h
in-observed (y ∷ xs) z (inl e) =
    ap (λ b. b || is_observed xs z.address) (subst (λ (w : Seen). is_eq (address_cmp z.address w.address) ≡ true) (sym e) (at-itself z.address))
in-observed (y ∷ xs) z (inr h) =
    ap (λ b. is_eq (address_cmp z.address y.address) || b) (in-observed xs z h) ∙ or-true (is_eq (address_cmp z.address y.address))

-- what holds at each observed address holds at one that is observed
at-observed : (Q : Address → Type 0) (xs : List Seen) (a : Address) → is_observed xs a ≡ true → AllByRecursion (λ z. Q z.address) xs → Q a
at-observed Q [] a e all = absurd (cc)
at-observed Q (z ∷ xs) a e all = by (is_eq (address_cmp a z.address)) refl e (λ f. at-observed Q xs a f all.1)
  where
    by : (b : Bool) → is_eq (address_cmp a z.address) ≡ b → (b || is_observed xs a) ≡ true → (is_observed xs a ≡ true → Q a) → Q a
    by true h f rest = subst Q (sym (address_cmp-equal a z.address (equal (address_cmp a z.address) h))) all.0
    by false h f rest = rest f

-- ---- what was read

-- what was asked for one by one stands in order
asked-rise : (body : Body) (snaps : SnapList) → AreAsked body snaps → IsStrictlySortedBy address_cmp (keys_of snaps)
asked-rise body _ AreAsked.none_yet = sorted-none {K = Address} {V = Snap} address_cmp [] refl
asked-rise body _ (AreAsked.one_more {snaps} a snap asked needs) = sorted-insert_entry address_cmp order.total-law a snap snaps (asked-rise body snaps asked)

module _ (journal : Journal) (kept : List KeptSnap) (snaps : SnapList) (named : List Base) (kept_fit : AllByRecursion (λ x. SnapFits journal (snap_of x)) kept)
    (fit : AllByRecursion (SnapFits journal) snaps) (rising : IsStrictlySortedBy address_cmp (keys_of snaps))
    (each : AllByRecursion (λ n. at snaps n.address ≡ None → ⊥) named)
    (names : (a : Address) (x : Snap) → at snaps a ≡ Some x → In named (record { address = a; base = x.base })) where
  -- the values at the bases that are named are just those that were read
  same-values : (all : SnapList) → values_on kept named [] ≡ Some all → all ≡ snaps
  same-values all is = same-snaps all snaps (values-rise kept named [] all is (sorted-none {K = Address} {V = Snap} address_cmp [] refl)) rising
      (λ q. by q (at all q) (at snaps q) refl refl)
    where
      all_fit : AllByRecursion (SnapFits journal) all
      all_fit = each-value kept (SnapFits journal) (λ a base v e. value-found (λ x. SnapFits journal (snap_of x)) kept a base v kept_fit e)
          named [] all is tt

      by : (q : Address) (o p : Option Snap) → at all q ≡ o → at snaps q ≡ p → at all q ≡ at snaps q
      by q None None e f = e ∙ sym f
      by q (Some x) None e f = absurd (only-named kept (λ n. at snaps n.address ≡ None → ⊥) named [] all is each (λ a x e. absurd (cc)) q x e f)
      by q o (Some y) e f =
          let reads = in-all (ReadsAt kept all) named (record { address = q; base = y.base }) (names-read kept named [] all is) (names q y f) in
          let mine = (found (SnapFits journal) all q (record { base = y.base; value = reads.value }) all_fit reads.there).value in
          let yours = (found (SnapFits journal) snaps q y fit f).value in
          reads.there ∙ (ap (λ (v : Value). Some (record { base = y.base; value = v })) (mine ∙ sym yours) ∙ sym f)

-- ---- an attempt that is to be appended

-- no shard of an attempt is left to prepare whose append is next
none-unprepared : (a : Attempt) (run : Run) → next_event a ≡ next.Append run → least_unprepared a.shards a.fronts run.observations ≡ None
none-unprepared a run e =
    by (least_unprepared a.shards a.fronts run.observations) (sym (ap (next_of a.shards a.fronts) (appends a run e)) ∙ e)
  where
    by : (o : Option ℕ) → next_of_run run o ≡ next.Append run → o ≡ None
    by None e = refl
    by (Some shard) e = absurd (cc)

-- so each that holds an observed address has a front
each-prepared : (shards : ℕ) (fronts : List PreparedFront) (seen : List Seen) → least_unprepared shards fronts seen ≡ None
    → AllByRecursion (λ z. has_front fronts (shard_of z.address shards) ≡ true) seen
each-prepared shards fronts [] e = tt
each-prepared shards fronts (z ∷ seen) e = by (has_front fronts (shard_of z.address shards)) refl e (each-prepared shards fronts seen)
  where
    by : (b : Bool) → has_front fronts (shard_of z.address shards) ≡ b
        → cond b (least_unprepared shards fronts seen) (Some (lesser (shard_of z.address shards) (least_unprepared shards fronts seen))) ≡ None
        → (least_unprepared shards fronts seen ≡ None → AllByRecursion (λ z. has_front fronts (shard_of z.address shards) ≡ true) seen)
        → (has_front fronts (shard_of z.address shards) ≡ true) × AllByRecursion (λ z. has_front fronts (shard_of z.address shards) ≡ true) seen
    by true h e rest = (h, rest e)
    by false h e rest = absurd (cc)

-- a text as bodies are kept is that of the body
body-is : (text : List ℕ) (body : Body) → IsBodyText text → tree text ≡ Some body → body_of text ≡ Some body
body-is text body is e =
    let short = is.short in
    ap (λ b. cond b (tree text) None)
    (both (nat_le (length text) LONGEST_BODY) (not (ends_in_blank text)) (grind (arith, nat_tests, short)) (ap not is.trimmed)) ∙ e

-- a run that is done, and observed what is named
run-is : (body : Body) (snaps : SnapList) (named : List Base) (run : Run) → exec body (values_of snaps) ≡ done run
    → are_observed named run.observations ≡ true → run_anew body snaps named ≡ Some run
run-is body snaps named run is seen =
    ap (λ r. if_done r >>= λ (run : Run). cond (are_observed named run.observations) (Some run) None) is ∙ ap (λ b. cond b (Some run) None) seen

-- what is run anew
ran-is : (kept : List KeptSnap) (text : List ℕ) (named : List Base) (body : Body) (snaps : SnapList) (run : Run) → body_of text ≡ Some body
    → values_at kept named ≡ Some snaps → run_anew body snaps named ≡ Some run → ran_anew kept text named ≡ Some (snaps, run)
ran-is kept text named body snaps run is_body is_snaps is_run =
    ap (λ o. o >>= λ body. values_at kept named >>= λ snaps. run_anew body snaps named >>= λ run. Some (snaps, run)) is_body
    ∙ (ap (λ o. o >>= λ snaps. run_anew body snaps named >>= λ run. Some (snaps, run)) is_snaps
    ∙ ap (λ o. o >>= λ run. Some (snaps, run)) is_run)

module _ (s : Service) (k : Known) (journal : Journal) (stands : Stands s k.client journal) (a : Attempt) (run : Run) (seq : ℕ)
    (next_is : next_event a ≡ next.Append run) (text : tree a.body.source ≡ Some a.body.body) (asked : AreAsked a.body.body a.snaps)
    (fit : AllByRecursion (SnapFits journal) a.snaps) (seen_in : AllByRecursion (λ (read : Address × Snap). is_observed run.observations read.0 ≡ true) a.snaps)
    (body_text : IsBodyText a.body.source) (shards : a.shards ≡ k.shards) (seq_is : seq ≡ s.seq)
    (given : AllByRecursion (λ b. was_given s.snaps b.address b.base ≡ true) (based a.snaps run.observations))
    (fronted : AllByRecursion (λ p. was_prepared s.fronts p.shard (in_shard k.shards p.shard (based a.snaps run.observations)) p.front ≡ true) a.fronts) where
  abbrev all : List Based
  all = based a.snaps run.observations

  abbrev handed : Ready
  handed = ready_of a run k.client seq

  ran_is : ran a ≡ done run
  ran_is = appends a run next_is

  there : AllByRecursion (IsThere (values_of a.snaps)) run.observations
  there = observed_is_there a.body.body (values_of a.snaps) run ran_is

  -- what is named was read
  named-read : AllByRecursion (λ n. at a.snaps n.address ≡ None → ⊥) (bases_of all)
  named-read = naming-all (λ n. at a.snaps n.address ≡ None → ⊥) [] all tt
      (based-all (λ b. at a.snaps b.address ≡ None → ⊥) a.snaps run.observations
      (each-more (IsThere (values_of a.snaps)) (λ z. at a.snaps z.address ≡ None → ⊥) run.observations
      (λ z t none. let clash : None ≡ Some t.value = sym (ap (option_map (λ (x : Snap). x.value)) none) ∙ t.is in absurd (cc)) there))

  -- and observed
  named-observed : are_observed (bases_of all) run.observations ≡ true
  named-observed = all-pass (λ (b : Base). is_observed run.observations b.address) (bases_of all)
      (naming-all (λ n. is_observed run.observations n.address ≡ true) [] all tt
      (based-all (λ b. is_observed run.observations b.address ≡ true) a.snaps run.observations
      (each-more (In run.observations) (λ z. is_observed run.observations z.address ≡ true) run.observations
      (λ z h. in-observed run.observations z h) (each-in run.observations))))

  -- what was read is named
  read-named : (q : Address) (x : Snap) → at a.snaps q ≡ Some x → In (bases_of all) (record { address = q; base = x.base })
  read-named q x e =
      subst (λ (n : ℕ). In (bases_of all) (record { address = q; base = n })) (ap base_in e)
      (at-observed (λ p. In (bases_of all) (record { address = p; base = base_at a.snaps p })) run.observations q
      (found (λ read. is_observed run.observations read.0 ≡ true) a.snaps q x seen_in e)
      (based-each (λ b. In (bases_of all) (record { address = b.address; base = base_at a.snaps b.address })) a.snaps run.observations
      (naming-names (base_at a.snaps) [] all tt (own-bases a.snaps run.observations))))

  -- so the same values are found
  values-are : values_at s.snaps (bases_of all) ≡ Some a.snaps
  values-are =
      let v = values-there s.snaps (bases_of all) [] [] (naming-apart [] all tt)
      (naming-all (λ n. was_given s.snaps n.address n.base ≡ true) [] all tt given) (λ q e. refl) in
      v.1 ∙ ap (λ (xs : SnapList). Some xs) (same-values journal s.snaps a.snaps (bases_of all) stands.values fit (asked-rise a.body.body a.snaps asked)
      named-read read-named v.0 v.1)

  -- and a front for each shard
  fronts-are : (fronts : List PreparedFront) × (fronts_for s.fronts k.shards a.snaps run.observations ≡ Some fronts)
  fronts-are = fronts-there s.fronts k.shards all run.observations []
      (each-more (λ z. has_front a.fronts (shard_of z.address k.shards) ≡ true) (λ z. HasOne s.fronts k.shards all (shard_of z.address k.shards))
      run.observations (λ z h. front-there s.fronts k.shards all a.fronts (shard_of z.address k.shards) fronted h)
      (each-prepared k.shards a.fronts run.observations
      (subst (λ (n : ℕ). least_unprepared n a.fronts run.observations ≡ None) shards (none-unprepared a run next_is))))

  -- so it is made anew
  pub handed-anew : (fronts : List PreparedFront) × (made_anew s k.client k.shards handed.body (bases_of handed.based) ≡ Some (with_fronts handed fronts))
  handed-anew =
      let f = fronts-are in (
        f.0,
        ap (λ o. o >>= λ ran. handed_on s k.client k.shards a.body.source ran)
            (ran-is s.snaps a.body.source (bases_of all) a.body.body a.snaps run (body-is a.body.source a.body.body body_text text) values-are
            (run-is a.body.body a.snaps (bases_of all) run ran_is named-observed))
            ∙ (handed-is s k.client k.shards a.body.source a.snaps run f.0 f.1
            ∙ ap (λ (n : ℕ). Some (with_fronts (ready_of a run k.client n) f.0)) (sym seq_is)),
      )

-- WHAT MAY BE APPENDED IS MADE ANEW, but for its fronts.
pub made-anew : (s : Service) (k : Known) (journal : Journal) (one : Ready) → k.journal ≡ Some journal → Serves s k → CanAppend (known_at k s) one
    → (one.seq ≡ s.seq)
    × ((fronts : List PreparedFront) × (made_anew s k.client k.shards one.body (bases_of one.based) ≡ Some (with_fronts one fronts)))
made-anew s k journal one told serves can =
    let stands = subst (λ (o : Option Journal). IfSome o (Stands s k.client)) told serves.told in
    let next_fits = subst (λ (o : Option Journal). IfSome o (FitsNext (known_at k s) can.attempt one)) told can.told in
    let a = can.attempt in
    let seq : one.seq ≡ s.seq = next_fits.seq ∙ sym stands.seq in (
      seq,
      subst (λ (r : Ready). (fronts : List PreparedFront) × (made_anew s k.client k.shards r.body (bases_of r.based) ≡ Some (with_fronts r fronts))) (sym can.made)
          (handed-anew s k journal stands a one.run one.seq can.next can.text next_fits.fits.asked next_fits.fits.snaps
          (reads_are_observed journal a one.run next_fits.fits (appends a one.run can.next))
          (subst (λ (r : Ready). IsBodyText r.body) can.made can.body_text) can.all_shards seq
          (subst (λ (r : Ready). AllByRecursion (λ b. was_given s.snaps b.address b.base ≡ true) r.based) can.made
          (each-more (λ (b : Based). CanValidate (known_at k s) (shard_of b.address k.shards) b) (λ b. was_given s.snaps b.address b.base ≡ true) one.based
          (λ b v. v.given.1) can.each))
          (subst (λ (r : Ready). AllByRecursion (λ p. was_prepared s.fronts p.shard (in_shard k.shards p.shard r.based) p.front ≡ true) r.fronts) can.made
          can.fronted)),
    )
