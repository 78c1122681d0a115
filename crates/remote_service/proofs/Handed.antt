-- What is made anew may be appended, and is spelled as it was asked for.
use Rattle.std.proofs.Common.{◌≡◌, ℕ, ◌≤◌, Bool, true, false, cond, ◌||◌, List, [], ◌∷◌, length, Option, Some, None, option_map, refl, sym, ap, ◌∙◌, subst, arith}
use Rattle.std.specs.Prelude.{IfSome, not, nat_le}
use Rattle.std.specs.List.{AllByRecursion}
use Rattle.std.specs.Ordering.{is_eq}
use Rattle.std.proofs.lemmas.Bool.{false≢true}
use Rattle.std.proofs.lemmas.Bool.Decides.{nat_tests}
use Rattle.std.proofs.lemmas.List.{length-map}
use Rattle.std.proofs.lemmas.Option.{same_Some}
use Rattle.plain_data.proofs.Entries.{equal, sorted-none}
use Rattle.rdt_types.specs.declared.address.Address.{Address}
use Rattle.rdt_types.specs.declared.limits.TheConstants.{LEAST_SHARDS, MOST_SHARDS}
use Rattle.rdt_types.specs.Addresses.{address_cmp}
use Rattle.rdt_types.proofs.Addresses.{address_cmp-equal}
use Rattle.rdt_types.specs.Shards.{shard_of}
use Rattle.rdt_types.specs.Values.{kind_of}
use Rattle.abort_witness.specs.declared.witness.Based.{Based}
use Rattle.abort_witness.specs.Pairs.{HavePlaces}
use Rattle.txn_trees.specs.declared.statement.Body.{Body}
use Rattle.txn_lang.specs.declared.checked.Checked.{Checked}
use Rattle.txn_lang.specs.declared.run.Run.{Run}
use Rattle.txn_lang.specs.declared.run.Seen.{Seen}
use Rattle.txn_lang.specs.declared.snaps.Snap.{Snap}
use Rattle.txn_lang.specs.States.{Journal}
use Rattle.txn_lang.specs.Execution.{Ran, need, done, exec}
use Rattle.txn_lang.specs.Observed.{IsThere}
use Rattle.txn_lang.specs.Short.{IsShortObservation}
use Rattle.txn_lang.specs.Tree.{tree}
use Rattle.txn_lang.proofs.Few.{observations_are_few}
use Rattle.txn_lang.proofs.Observed.{observed_is_there, runs_ask_short}
use Rattle.txn_lang.proofs.Trees.{tree_read}
use Rattle.txn_eval.specs.Running.{values_of}
use Rattle.journal_core.specs.declared.limits.TheConstants.{LONGEST_BODY}
use Rattle.journal_core.specs.declared.ready.PreparedFront.{PreparedFront}
use Rattle.journal_core.specs.declared.ready.Ready.{Ready}
use Rattle.journal_core.specs.Bodies.{ends_in_blank, IsBodyText}
use Rattle.record_code.specs.Fields.{◌>>=◌}
use Rattle.docc_prepare.specs.declared.attempt.Attempt.{Attempt}
use Rattle.docc_prepare.specs.declared.attempt.Next.TheVariants as next
use Rattle.docc_prepare.specs.Attempts.{SnapList, base_at, base_in, with_base, based, in_shard, ran, next_of, next_of_run, next_event}
use Rattle.docc_prepare.specs.Attempts.{SnapFits, FrontFits, FrontsFit, Fits}
use Rattle.docc_prepare.specs.Serial.{is_observed}
use Rattle.docc_prepare.specs.Calls.{Known}
use Rattle.docc_prepare.specs.Backends.{IsGiven, CanValidate, CanAppend, FitsNext}
use Rattle.docc_prepare.proofs.Each.{each-more}
use Rattle.docc_prepare.proofs.EachRead.{found}
use Rattle.remote_wire.specs.declared.request.Base.{Base}
use Rattle.remote_calls.specs.Spelled.{bases_of}
use Rattle.remote_service.specs.declared.kept.KeptFront.{KeptFront}
use Rattle.remote_service.specs.declared.service.Service.{Service}
use Rattle.remote_service.specs.Anew.{is_body_text, body_of, values_at, if_done, are_observed, run_anew, ran_anew, fronts_for, handed_on, made_anew}
use Rattle.remote_service.specs.Serving.{snap_of, prepared_of, Stands, Serves, IsAmong, AreSame}
use Rattle.remote_service.proofs.Alike.{and_parts}
use Rattle.remote_service.proofs.Found.{bound, value-found, ReadsAt, each-value, values-rise, names-read, only-named, front-found, each-front, fronts-cover, none-left}
use Rattle.remote_service.proofs.Named.{In, in-among, each-in, entry, naming-all, naming-names}
use Rattle.remote_service.proofs.Reasked.{at, are-asked}

-- ---- what it is made of

pub record Made (s : Service) (client shards : ℕ) (text : List ℕ) (named : List Base) (ready : Ready) : Type 0 where
  pub body : Body
  pub snaps : SnapList
  pub body_is : body_of text ≡ Some body
  pub snaps_are : values_at s.snaps named ≡ Some snaps
  pub runs : exec body (values_of snaps) ≡ done ready.run
  pub observed : are_observed named ready.run.observations ≡ true
  pub fronts_are : fronts_for s.fronts shards snaps ready.run.observations ≡ Some ready.fronts
  pub client_is : ready.client ≡ client
  pub seq_is : ready.seq ≡ s.seq
  pub body_text : ready.body ≡ text
  pub based_is : ready.based ≡ based snaps ready.run.observations

-- a run that is done, and observed what is named
ran-parts : (body : Body) (snaps : SnapList) (named : List Base) (run : Run) → run_anew body snaps named ≡ Some run
    → (exec body (values_of snaps) ≡ done run) × (are_observed named run.observations ≡ true)
ran-parts body snaps named run e = by (exec body (values_of snaps)) refl e
  where
    passed : (r : Run) (b : Bool) → are_observed named r.observations ≡ b → exec body (values_of snaps) ≡ done r → cond b (Some r) None ≡ Some run
        → (exec body (values_of snaps) ≡ done run) × (are_observed named run.observations ≡ true)
    passed r true h is e = subst (λ (x : Run). (exec body (values_of snaps) ≡ done x) × (are_observed named x.observations ≡ true)) (same_Some r run e) (is, h)
    passed r false h is e = absurd (cc)

    by : (r : Ran) → exec body (values_of snaps) ≡ r → (if_done r >>= λ run. cond (are_observed named run.observations) (Some run) None) ≡ Some run
        → (exec body (values_of snaps) ≡ done run) × (are_observed named run.observations ≡ true)
    by (need a) is e = absurd (cc)
    by (done r) is e = passed r (are_observed named r.observations) refl is e

pub made-parts : (s : Service) (client shards : ℕ) (text : List ℕ) (named : List Base) (ready : Ready)
    → made_anew s client shards text named ≡ Some ready → Made s client shards text named ready
made-parts s client shards text named ready e =
    let a = bound (ran_anew s.snaps text named) (handed_on s client shards text) ready e in
    let b = bound (body_of text) (λ body. values_at s.snaps named >>= λ snaps. run_anew body snaps named >>= λ run. Some (snaps, run)) a.0 a.1 in
    let c = bound (values_at s.snaps named) (λ snaps. run_anew b.0 snaps named >>= λ run. Some (snaps, run)) a.0 b.2 in
    let d = bound (run_anew b.0 c.0 named) (λ run. Some (c.0, run)) a.0 c.2 in
    let r = ran-parts b.0 c.0 named d.0 d.1 in
    given b.0 c.0 d.0 b.1 c.1 r.0 r.1 (subst (λ (x : SnapList × Run). handed_on s client shards text x ≡ Some ready) (sym (same_Some (c.0, d.0) a.0 d.2)) a.2)
  where
    given : (body : Body) (snaps : SnapList) (run : Run) → body_of text ≡ Some body → values_at s.snaps named ≡ Some snaps
        → exec body (values_of snaps) ≡ done run → are_observed named run.observations ≡ true
        → handed_on s client shards text (snaps, run) ≡ Some ready → Made s client shards text named ready
    given body snaps run body_is snaps_are runs observed e =
        let f = bound (fronts_for s.fronts shards snaps run.observations) (λ fronts. Some (record {
          client = client;
          seq = s.seq;
          body = text;
          run = run;
          based = based snaps run.observations;
          fronts = fronts;
        })) ready e in
        subst (Made s client shards text named) (same_Some _ ready f.2)
        (record {
          body = body;
          snaps = snaps;
          body_is = body_is;
          snaps_are = snaps_are;
          runs = runs;
          observed = observed;
          fronts_are = f.1;
          client_is = refl;
          seq_is = refl;
          body_text = refl;
          based_is = refl;
        })

-- ---- its body

-- a text that is a body's is one as it is kept
body-parts : (text : List ℕ) (body : Body) → body_of text ≡ Some body → IsBodyText text × (tree text ≡ Some body)
body-parts text body e = by (is_body_text text) refl e
  where
    no-blank : (b : Bool) → not b ≡ true → b ≡ false
    no-blank true h = absurd (false≢true h)
    no-blank false h = refl

    by : (b : Bool) → is_body_text text ≡ b → cond b (tree text) None ≡ Some body → IsBodyText text × (tree text ≡ Some body)
    by false h e = absurd (cc)
    by true h e = let parts = and_parts (nat_le (length text) LONGEST_BODY) (not (ends_in_blank text)) h in
        let short : length text ≤ LONGEST_BODY = grind (arith, nat_tests, parts.0) in
        (record { short = short; trimmed = no-blank (ends_in_blank text) parts.1 }, e)

-- the body, checked
abbrev checked : (text : List ℕ) (body : Body) → tree text ≡ Some body → Checked
checked text body e = record {
  body = body;
  source = text;
  read_only = false;
  read = ∣ e ∣₁;
  typed = ∣ (tree_read text body e).1 ∣₁;
  writes_none = ∣ (λ h. absurd (false≢true h)) ∣₁;
}

-- ---- what was observed

-- each named address was observed
each-observed : (seen : List Seen) (named : List Base) → are_observed named seen ≡ true
    → AllByRecursion (λ b. is_observed seen b.address ≡ true) named
each-observed seen [] e = tt
each-observed seen (b ∷ named) e = let parts = and_parts (is_observed seen b.address) (are_observed named seen) e in
    (parts.0, each-observed seen named parts.1)

-- an attempt's own observations have their bases
own-bases : (snaps : SnapList) (seen : List Seen) → AllByRecursion (λ b. b.base ≡ base_at snaps b.address) (based snaps seen)
own-bases snaps [] = tt
own-bases snaps (z ∷ seen) = (refl, own-bases snaps seen)

-- what holds at an address that was observed
at-observed : (Q : Address → Type 0) (snaps : SnapList) (seen : List Seen) (a : Address) → is_observed seen a ≡ true
    → AllByRecursion (λ b. Q b.address) (based snaps seen) → Q a
at-observed Q snaps [] a e all = absurd (cc)
at-observed Q snaps (z ∷ seen) a e all = by (is_eq (address_cmp a z.address)) refl e (λ f. at-observed Q snaps seen a f all.1)
  where
    by : (b : Bool) → is_eq (address_cmp a z.address) ≡ b → (b || is_observed seen a) ≡ true → (is_observed seen a ≡ true → Q a) → Q a
    by true h f rest = subst Q (sym (address_cmp-equal a z.address (equal (address_cmp a z.address) h))) all.0
    by false h f rest = rest f

module _ (s : Service) (client shards : ℕ) (text : List ℕ) (named : List Base) (ready : Ready) (made : Made s client shards text named ready) where
  abbrev seen : List Seen
  seen = ready.run.observations

  there : AllByRecursion (IsThere (values_of made.snaps)) seen
  there = observed_is_there made.body (values_of made.snaps) ready.run made.runs

  -- what is read stands at a named base, so its address was observed
  read-observed : (a : Address) (x : Snap) → at made.snaps a ≡ Some x → is_observed seen a ≡ true
  read-observed = only-named s.snaps (λ b. is_observed seen b.address ≡ true) named [] made.snaps made.snaps_are (each-observed seen named made.observed)
      (λ a x e. absurd (cc))

  -- what holds of each value that is kept holds of each that is read
  values-all : (P : Address × Snap → Type 0) → AllByRecursion (λ x. P (snap_of x)) s.snaps → AllByRecursion P made.snaps
  values-all P all = each-value s.snaps P (λ a base v e. value-found (λ x. P (snap_of x)) s.snaps a base v all e) named [] made.snaps made.snaps_are tt

  -- what holds of each front that is kept holds of each that is handed on
  fronts-all : (P : PreparedFront → Type 0)
      → AllByRecursion (λ (x : KeptFront). x.based ≡ in_shard shards x.shard (based made.snaps seen) → P (prepared_of x)) s.fronts
      → AllByRecursion P ready.fronts
  fronts-all P all = each-front s.fronts shards (based made.snaps seen) P
      (λ k front e. front-found (λ x. x.based ≡ in_shard shards x.shard (based made.snaps seen) → P (prepared_of x)) s.fronts k
      (in_shard shards k (based made.snaps seen)) front all e refl)
      seen [] ready.fronts made.fronts_are tt

  -- ---- what it names

  -- each named base is that of an observation
  named-there : AllByRecursion (IsAmong (bases_of (based made.snaps seen))) named
  named-there = each-named named (names-read s.snaps named [] made.snaps made.snaps_are) (each-observed seen named made.observed)
    where
      each-named : (xs : List Base) → AllByRecursion (ReadsAt s.snaps made.snaps) xs → AllByRecursion (λ b. is_observed seen b.address ≡ true) xs
          → AllByRecursion (IsAmong (bases_of (based made.snaps seen))) xs
      each-named [] reads all = tt
      each-named (b ∷ xs) reads all = (
        in-among (bases_of (based made.snaps seen)) b
            (subst (λ (n : ℕ). In (bases_of (based made.snaps seen)) (record { address = b.address; base = n })) (ap base_in reads.0.there)
            (at-observed (λ a. In (bases_of (based made.snaps seen)) (record { address = a; base = base_at made.snaps a })) made.snaps seen b.address all.0
            (naming-names (base_at made.snaps) [] (based made.snaps seen) tt (own-bases made.snaps seen)))),
        each-named xs reads.1 all.1,
      )

  -- and each base of an observation is named
  there-named : AllByRecursion (IsAmong named) (bases_of (based made.snaps seen))
  there-named = naming-all (IsAmong named) [] (based made.snaps seen) tt (each-entry seen there)
    where
      one : (z : Seen) (o : Option Snap) → at made.snaps z.address ≡ o → IsThere (values_of made.snaps) z → IsAmong named (entry (with_base made.snaps z))
      one z None e h = absurd (let clash : None ≡ Some h.value = sym (ap (option_map (λ (x : Snap). x.value)) e) ∙ h.is in cc)
      one z (Some x) e h = subst (λ (n : ℕ). IsAmong named (record { address = z.address; base = n })) (sym (ap base_in e))
          (only-named s.snaps (IsAmong named) named [] made.snaps made.snaps_are
          (each-more (In named) (IsAmong named) named (λ b. in-among named b) (each-in named)) (λ a y f. absurd (cc)) z.address x e)

      each-entry : (xs : List Seen) → AllByRecursion (IsThere (values_of made.snaps)) xs
          → AllByRecursion (λ b. IsAmong named (entry b)) (based made.snaps xs)
      each-entry [] all = tt
      each-entry (z ∷ xs) all = (one z (at made.snaps z.address) refl all.0, each-entry xs all.1)

  pub same-named : AreSame named (bases_of ready.based)
  same-named = subst (λ (xs : List Based). AreSame named (bases_of xs)) (sym made.based_is) (record { there = named-there; back = there-named })

  -- ---- it may be appended

  module _ (k : Known) (h : Serves s k) (client_is : client ≡ k.client) (shards_are : shards ≡ k.shards)
      (range : (LEAST_SHARDS ≤ shards) × (shards ≤ MOST_SHARDS)) where
    abbrev parts : IsBodyText text × (tree text ≡ Some made.body)
    parts = body-parts text made.body made.body_is

    abbrev attempt : Attempt
    attempt = record {
      body = checked text made.body parts.1;
      shards = shards;
      snaps = made.snaps;
      fronts = ready.fronts;
      shards_in_range = range;
    }

    next_is : next_event attempt ≡ next.Append ready.run
    next_is = ap (next_of shards ready.fronts) made.runs
        ∙ ap (next_of_run ready.run) (none-left shards ready.fronts seen
        (fronts-cover s.fronts shards (based made.snaps seen) seen [] ready.fronts made.fronts_are))

    -- an observation is at the base of a value that is kept, whose kind is its address'
    valid : (z : Seen) (o : Option Snap) → at made.snaps z.address ≡ o → IsThere (values_of made.snaps) z → IsShortObservation z.address z.obs
        → CanValidate k (shard_of z.address k.shards) (with_base made.snaps z)
    valid z None e t short = absurd (let clash : None ≡ Some t.value = sym (ap (option_map (λ (x : Snap). x.value)) e) ∙ t.is in cc)
    valid z (Some x) e t short = record {
      here = refl;
      given = subst (λ (n : ℕ). IsGiven k z.address n) (sym (ap base_in e))
          (found (λ read. IsGiven k read.0 read.1.base) made.snaps z.address x
          (values-all (λ read. IsGiven k read.0 read.1.base) h.given) e);
      one_kind = record {
        observed = t.kind (subst (λ v. kind_of v ≡ z.address.kind)
            (same_Some x.value t.value (sym (ap (option_map (λ (y : Snap). y.value)) e) ∙ t.is))
            (found (λ read. kind_of read.1.value ≡ read.0.kind) made.snaps z.address x
            (values-all (λ read. kind_of read.1.value ≡ read.0.kind) h.kinds) e));
      };
      short = short;
    }

    all-valid : (xs : List Seen) → AllByRecursion (IsThere (values_of made.snaps)) xs → AllByRecursion (λ z. IsShortObservation z.address z.obs) xs
        → AllByRecursion (λ b. CanValidate k (shard_of b.address k.shards) b) (based made.snaps xs)
    all-valid [] all short = tt
    all-valid (z ∷ xs) all short = (valid z (at made.snaps z.address) refl all.0 short.0, all-valid xs all.1 short.1)

    few : HavePlaces (based made.snaps seen)
    few = let bound' = observations_are_few made.body (values_of made.snaps) ready.run made.runs in
        let same : length (based made.snaps seen) ≡ length seen = length-map seen _ in omega arith

    fronts-given : AllByRecursion (λ (p : PreparedFront). k.fronted p.shard (in_shard k.shards p.shard (based made.snaps seen)) p.front ≡ true) ready.fronts
    fronts-given = subst (λ (n : ℕ). AllByRecursion
        (λ (p : PreparedFront). k.fronted p.shard (in_shard n p.shard (based made.snaps seen)) p.front ≡ true) ready.fronts) shards_are
        (fronts-all (λ p. k.fronted p.shard (in_shard shards p.shard (based made.snaps seen)) p.front ≡ true)
        (each-more (λ (x : KeptFront). k.fronted x.shard x.based x.front ≡ true)
        (λ (x : KeptFront). x.based ≡ in_shard shards x.shard (based made.snaps seen)
        → k.fronted x.shard (in_shard shards x.shard (based made.snaps seen)) x.front ≡ true) s.fronts
        (λ x g e. subst (λ (o : List Based). k.fronted x.shard o x.front ≡ true) e g) h.fronted))

    fits : (journal : Journal) → Stands s k.client journal → Fits journal attempt
    fits journal st = record {
      asked = are-asked made.body made.snaps ready.run
          (values-rise s.snaps named [] made.snaps made.snaps_are (sorted-none {K = Address} {V = Snap} address_cmp [] refl)) made.runs read-observed;
      snaps = values-all (SnapFits journal) st.values;
      fronts = subst (FrontsFit journal shards made.snaps ready.fronts) (sym made.runs)
          (fronts-all (λ p. FrontFits journal (in_shard shards p.shard (based made.snaps seen)) p)
          (each-more (λ (x : KeptFront). FrontFits journal x.based (prepared_of x))
          (λ (x : KeptFront). x.based ≡ in_shard shards x.shard (based made.snaps seen)
          → FrontFits journal (in_shard shards x.shard (based made.snaps seen)) (prepared_of x)) s.fronts
          (λ x f e. subst (λ (o : List Based). FrontFits journal o (prepared_of x)) e f) st.fronts));
    }

    pub can-append : CanAppend k ready
    can-append = record {
      attempt = attempt;
      next = next_is;
      made = λ i. record {
        client = (made.client_is ∙ client_is) i;
        seq = ready.seq;
        body = made.body_text i;
        run = ready.run;
        based = made.based_is i;
        fronts = ready.fronts;
      };
      text = parts.1;
      body_text = subst IsBodyText (sym made.body_text) parts.0;
      all_shards = shards_are;
      given = values-all (λ read. IsGiven k read.0 read.1.base) h.given;
      fronted = subst (λ (xs : List Based). AllByRecursion
          (λ (p : PreparedFront). k.fronted p.shard (in_shard k.shards p.shard xs) p.front ≡ true) ready.fronts) (sym made.based_is) fronts-given;
      each = subst (AllByRecursion (λ b. CanValidate k (shard_of b.address k.shards) b)) (sym made.based_is)
          (all-valid seen there (runs_ask_short.observed made.body (values_of made.snaps) ready.run made.runs));
      few = subst HavePlaces (sym made.based_is) few;
      told = tells k.journal h.told;
    }
      where
        tells : (o : Option Journal) → IfSome o (Stands s k.client) → IfSome o (FitsNext k attempt ready)
        tells None st = tt
        tells (Some journal) st = record { fits = fits journal st; seq = made.seq_is ∙ st.seq }

-- ---- in the code

-- with a front for each of its shards an attempt comes to its append
pub comes-to-append : (kept : List KeptFront) (attempt : Attempt) (run : Run) → ran attempt ≡ done run
    → fronts_for kept attempt.shards attempt.snaps run.observations ≡ Some attempt.fronts → next_event attempt ≡ next.Append run
comes-to-append kept attempt run runs fronts = ap (next_of attempt.shards attempt.fronts) runs
    ∙ ap (next_of_run run) (none-left attempt.shards attempt.fronts run.observations
    (fronts-cover kept attempt.shards (based attempt.snaps run.observations) run.observations [] attempt.fronts fronts))

-- and this is handed on of it
pub handed-is : (s : Service) (client shards : ℕ) (text : List ℕ) (snaps : SnapList) (run : Run) (fronts : List PreparedFront)
    → fronts_for s.fronts shards snaps run.observations ≡ Some fronts
    → handed_on s client shards text (snaps, run) ≡ Some (record {
      client = client;
      seq = s.seq;
      body = text;
      run = run;
      based = based snaps run.observations;
      fronts = fronts;
    })
handed-is s client shards text snaps run fronts e = ap (λ o. o >>= λ fronts. Some (record {
  client = client;
  seq = s.seq;
  body = text;
  run = run;
  based = based snaps run.observations;
  fronts = fronts;
})) e

-- what is made of equal parts is made of these
pub made-as : (s : Service) (text : List ℕ) (ready : Ready) {client c shards n : ℕ} {named xs : List Base} → client ≡ c → shards ≡ n → named ≡ xs
    → made_anew s client shards text named ≡ Some ready → made_anew s c n text xs ≡ Some ready
made-as s text ready {client} {c} {shards} {n} {named} {xs} a b d e =
    subst (λ (z : ℕ). made_anew s z n text xs ≡ Some ready) a
    (subst (λ (z : ℕ). made_anew s client z text xs ≡ Some ready) b
    (subst (λ (z : List Base). made_anew s client shards text z ≡ Some ready) d e))
