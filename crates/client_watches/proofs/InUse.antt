-- What is held is in use at each line's end: on its way what is held is observed or loose, and of the loose ones it lets go.
use Rattle.std.proofs.Common.{◌≡◌, ℕ, zero, suc, Bool, true, false, cond, not, ◌&&◌, ◌||◌, List, [], ◌∷◌, ◌++◌}
use Rattle.std.proofs.Common.{Option, Some, None, option_map, is_some, refl, sym, ap, ◌∙◌, subst}
use Rattle.std.specs.List.{list_any}
use Rattle.std.specs.List.Sorted.{IsStrictlySortedBy}
use Rattle.std.specs.Map.{set_value}
use Rattle.std.specs.Option.{option_map_or}
use Rattle.std.specs.Ordering.{is_eq}
use Rattle.std.specs.BTreeMap.{is_at}
use Rattle.std.specs.Str.{bytes_eq}
use Rattle.std.proofs.lemmas.List.Folds.{list_any-append}
use Rattle.plain_data.specs.Texts.{Bytes}
use Rattle.rdt_types.specs.declared.address.Address.{Address}
use Rattle.rdt_types.specs.declared.value.Value.{Value}
use Rattle.rdt_types.specs.Addresses.{address_cmp}
use Rattle.rdt_types.specs.DeltaMaps.{Deltas, delta_at}
use Rattle.change_feed.specs.Feeds.{Fed}
use Rattle.session_text.specs.declared.reply.Reply.{Reply}
use Rattle.session_text.specs.declared.reply.Reply.TheVariants as reply
use Rattle.session_text.specs.declared.reply.Why.TheVariants as why
use Rattle.txn_lang.specs.declared.checked.Checked.{Checked}
use Rattle.txn_lang.specs.declared.run.Run.{Run}
use Rattle.txn_lang.specs.declared.run.Seen.{Seen}
use Rattle.txn_lang.specs.Execution.{Ran, need, done, exec}
use Rattle.client_cache.specs.Cached.{Cached, held, advanced, filled, released}
use Rattle.client_cache.specs.Histories.{apply_maybe}
use Rattle.rerun_driver.specs.declared.rerun.Rerun.{Rerun}
use Rattle.rerun_driver.specs.declared.rerun.Rerun.TheVariants as rerun
use Rattle.rerun_driver.specs.declared.watch.Watch.{Watch}
use Rattle.rerun_driver.specs.Watches.{Watches, watch_of, with_watch, without_watch, with_report, settled, reported, all_told, next_rerun}
use Rattle.rerun_driver.specs.Watches.{is_observed_by, is_observed}
use Rattle.docc_prepare.specs.Calls.{Known, Call, Answer}
use Rattle.docc_prepare.specs.Backends.{IsAnswered}
use Rattle.call_programs.specs.Programs.{Program, bind}
use Rattle.call_programs.specs.Safe.{AsksAny, AlwaysEnds}
use Rattle.call_programs.proofs.Programs.{always_more}
use Rattle.call_programs.proofs.Safe.{then_ends}
use Rattle.client_watches.specs.declared.watching.Watching.{Watching}
use Rattle.client_watches.specs.Watching.{addresses_of, observed_by, after_feed, with_value, with_rerun, with_first, without, is_idle, without_value}
use Rattle.client_watches.specs.Watching.{none_loose, stale_count, HasRun}
use Rattle.client_watches.specs.GoingOn.{WatchLine}
use Rattle.client_watches.specs.Standing.{AreHeld}
use Rattle.client_watches.specs.LineLaws.{program_of}
use Rattle.client_watches.specs.InUse.{HoldsInUse, LinesLetGo}
use Rattle.client_watches.specs.Lines.{Told, With, fed, take_feed, kept, read, fetch, rounds, or_late, rerun_by, rerun_one, or_more, reruns, catch_up}
use Rattle.client_watches.specs.Lines.{let_go, drop_one, drop_each, drop_idle, run_by, run_body, made, first_run, current, say_current, then_first, make, ending}
use Rattle.client_watches.proofs.Names.{reported_in}
use Rattle.client_watches.proofs.Stale.{has-run}
use Rattle.client_watches.proofs.Moving.{run-held}
use Rattle.client_watches.proofs.Values.{Rise, held-advanced, rise-advanced, held-filled, rise-filled, held-released, rise-released, at-same, at-turned}

-- ---- truth values

-- what follows from either follows from both
either : {X : Type 0} (a b : Bool) → (a || b) ≡ true → (a ≡ true → X) → (b ≡ true → X) → X
either true b h left right = left refl
either false b h left right = right h

-- one of two is enough
left_of : (a b : Bool) → a ≡ true → (a || b) ≡ true
left_of a b h = ap (λ x. x || b) h

right_of : (a b : Bool) → b ≡ true → (a || b) ≡ true
right_of true b h = refl
right_of false b h = h

-- two that follow from each other are the same
same_truth : (a b : Bool) → (a ≡ true → b ≡ true) → (b ≡ true → a ≡ true) → a ≡ b
same_truth true b there back = sym (there refl)
same_truth false true there back = back refl
same_truth false false there back = refl

-- ---- addresses

-- an address is among some
abbrev is_loose : List Address → Address → Bool
is_loose loose a = list_any (is_at (address_cmp a)) loose

-- those of what was observed are the observed ones
loose_seen : (seen : List Seen) (a : Address) → is_loose (addresses_of seen) a ≡ is_observed_by a seen
loose_seen [] a = refl
loose_seen (z ∷ seen) a = ap (λ b. is_at (address_cmp a) z.address || b) (loose_seen seen a)

-- what was observed where all of it is held, is held
seen_held : (cache : Cached) (seen : List Seen) (a : Address) → AreHeld cache seen → is_observed_by a seen ≡ true → is_some (held cache a) ≡ true
seen_held cache [] a all h = absurd (let none : false ≡ true = h in cc)
seen_held cache (z ∷ seen) a all h =
    either (is_at (address_cmp a) z.address) (is_observed_by a seen) h
    (λ here. subst (λ (x : Address). is_some (held cache x) ≡ true) (sym (at-same a z.address here)) all.0)
    (λ there. seen_held cache seen a all.1 there)

-- ---- watches

-- a feed changes nothing of what was observed
observed_told : (changes : Deltas) (ws : Watches) (a : Address) → is_observed (all_told changes ws) a ≡ is_observed ws a
observed_told changes [] a = refl
observed_told changes (x ∷ ws) a = ap (λ b. is_observed_by a x.1.observations || b) (observed_told changes ws a)

-- what is observed once a watch has run was observed before, or in that run
observed_later : (ws : Watches) (name : Bytes) (n : ℕ) (run : Run) (a : Address) → is_observed (with_report ws name n run) a ≡ true
    → (is_observed ws a || is_observed_by a run.observations) ≡ true
observed_later [] name n run a h = absurd (let none : false ≡ true = h in cc)
observed_later (x ∷ ws) name n run a h = by (bytes_eq name x.0) (watch_of ws name) (observed_later ws name n run a) h
  where
    ran : (here more seen : Bool) → (seen || more) ≡ true → ((here || more) || seen) ≡ true
    ran true more seen h = refl
    ran false true seen h = refl
    ran false false true h = refl
    ran false false false h = absurd (cc)

    other : (here later more seen : Bool) → (later ≡ true → (more || seen) ≡ true) → (here || later) ≡ true → ((here || more) || seen) ≡ true
    other true later more seen rest h = refl
    other false later more seen rest h = rest h

    by : (b : Bool) (o : Option Watch)
        → (is_observed (reported_in ws name n run o) a ≡ true → (is_observed ws a || is_observed_by a run.observations) ≡ true)
        → is_observed (option_map_or (λ watch. cond b ((x.0, settled n run watch) ∷ ws) (x ∷ set_value (bytes_eq name) ws (settled n run watch)))
        (cond b (Some x.1) o) (x ∷ ws)) a ≡ true
        → ((is_observed_by a x.1.observations || is_observed ws a) || is_observed_by a run.observations) ≡ true
    by true o rest h = ran (is_observed_by a x.1.observations) (is_observed ws a) (is_observed_by a run.observations) h
    by false None rest h =
        other (is_observed_by a x.1.observations) (is_observed ws a) (is_observed ws a) (is_observed_by a run.observations) rest h
    by false (Some watch) rest h =
        other (is_observed_by a x.1.observations) (is_observed (set_value (bytes_eq name) ws (settled n run watch)) a) (is_observed ws a)
        (is_observed_by a run.observations) rest h

-- what was observed before it is observed then, or was in its last run
observed_before : (ws : Watches) (name : Bytes) (n : ℕ) (run : Run) (a : Address) → is_observed ws a ≡ true
    → (is_observed (with_report ws name n run) a || is_loose (observed_by (watch_of ws name)) a) ≡ true
observed_before [] name n run a h = absurd (let none : false ≡ true = h in cc)
observed_before (x ∷ ws) name n run a h = by (bytes_eq name x.0) (watch_of ws name) (observed_before ws name n run a) h
  where
    ran : (here more seen loose : Bool) → loose ≡ here → (here || more) ≡ true → ((seen || more) || loose) ≡ true
    ran here more true loose same h = refl
    ran here true false loose same h = refl
    ran true false false loose same h = same
    ran false false false loose same h = absurd (cc)

    other : (here later more loose : Bool) → (more ≡ true → (later || loose) ≡ true) → (here || more) ≡ true → ((here || later) || loose) ≡ true
    other true later more loose rest h = refl
    other false later more loose rest h = rest h

    by : (b : Bool) (o : Option Watch)
        → (is_observed ws a ≡ true → (is_observed (reported_in ws name n run o) a || is_loose (observed_by o) a) ≡ true)
        → (is_observed_by a x.1.observations || is_observed ws a) ≡ true
        → (is_observed (option_map_or (λ watch. cond b ((x.0, settled n run watch) ∷ ws) (x ∷ set_value (bytes_eq name) ws (settled n run watch)))
        (cond b (Some x.1) o) (x ∷ ws)) a || is_loose (observed_by (cond b (Some x.1) o)) a) ≡ true
    by true o rest h =
        ran (is_observed_by a x.1.observations) (is_observed ws a) (is_observed_by a run.observations) (is_loose (addresses_of x.1.observations) a)
        (loose_seen x.1.observations a) h
    by false None rest h = other (is_observed_by a x.1.observations) (is_observed ws a) (is_observed ws a) false rest h
    by false (Some watch) rest h =
        other (is_observed_by a x.1.observations) (is_observed (set_value (bytes_eq name) ws (settled n run watch)) a) (is_observed ws a)
        (is_loose (addresses_of watch.observations) a) rest h

-- what is observed without a watch was observed with it
observed_without : (ws : Watches) (name : Bytes) (a : Address) → is_observed (without_watch ws name) a ≡ true → is_observed ws a ≡ true
observed_without [] name a h = h
observed_without (x ∷ ws) name a h = by (bytes_eq name x.0) (observed_without ws name a) h
  where
    by : (b : Bool) → (is_observed (without_watch ws name) a ≡ true → is_observed ws a ≡ true)
        → is_observed (cond b ws (x ∷ without_watch ws name)) a ≡ true → (is_observed_by a x.1.observations || is_observed ws a) ≡ true
    by true rest h = right_of (is_observed_by a x.1.observations) (is_observed ws a) h
    by false rest h =
        either (is_observed_by a x.1.observations) (is_observed (without_watch ws name) a) h
        (λ here. left_of (is_observed_by a x.1.observations) (is_observed ws a) here)
        (λ there. right_of (is_observed_by a x.1.observations) (is_observed ws a) (rest there))

-- what was observed with it is observed without it, or was in its last run
observed_with : (ws : Watches) (name : Bytes) (a : Address) → is_observed ws a ≡ true
    → (is_observed (without_watch ws name) a || is_loose (observed_by (watch_of ws name)) a) ≡ true
observed_with [] name a h = absurd (let none : false ≡ true = h in cc)
observed_with (x ∷ ws) name a h = by (bytes_eq name x.0) (observed_with ws name a) h
  where
    gone : (here more loose : Bool) → loose ≡ here → (here || more) ≡ true → (more || loose) ≡ true
    gone here true loose same h = refl
    gone true false loose same h = same
    gone false false loose same h = absurd (cc)

    other : (here later more loose : Bool) → (more ≡ true → (later || loose) ≡ true) → (here || more) ≡ true → ((here || later) || loose) ≡ true
    other true later more loose rest h = refl
    other false later more loose rest h = rest h

    by : (b : Bool) → (is_observed ws a ≡ true → (is_observed (without_watch ws name) a || is_loose (observed_by (watch_of ws name)) a) ≡ true)
        → (is_observed_by a x.1.observations || is_observed ws a) ≡ true
        → (is_observed (cond b ws (x ∷ without_watch ws name)) a || is_loose (observed_by (cond b (Some x.1) (watch_of ws name))) a) ≡ true
    by true rest h =
        gone (is_observed_by a x.1.observations) (is_observed ws a) (is_loose (addresses_of x.1.observations) a) (loose_seen x.1.observations a) h
    by false rest h =
        other (is_observed_by a x.1.observations) (is_observed (without_watch ws name) a) (is_observed ws a)
        (is_loose (observed_by (watch_of ws name)) a) rest h

-- ---- on the way

-- Changes are told at exactly the addresses where a value is held; what is observed is held, and what is held is observed or loose.
record HoldsBut (loose : List Address) (k : Known) (w : Watching) : Type 0 where
  rising : Rise w.cache.values
  told : (a : Address) → k.subscribed a ≡ is_some (held w.cache a)
  seen : (a : Address) → is_observed w.watches a ≡ true → is_some (held w.cache a) ≡ true
  rest : (a : Address) → is_some (held w.cache a) ≡ true → (is_observed w.watches a || is_loose loose a) ≡ true

-- so it is of the addresses that are kept as loose
abbrev Holds : Known → Watching → Type 0
Holds k w = HoldsBut w.loose k w

abbrev HoldsTold : Known → Told → Type 0
HoldsTold l told = Holds l told.0

abbrev HoldsFetched : Known → Option Reply × Watching → Type 0
HoldsFetched l r = Holds l r.1

abbrev HoldsFound : (A : Type 0) → Known → With A → Type 0
HoldsFound A l r = Holds l r.1

-- what is in use before a line is so on its way
begins_so : (k : Known) (w : Watching) → HoldsInUse k w → Holds k w
begins_so k w is = record {
  rising = is.rising;
  told = λ a. is.told a ∙ sym (is.held a);
  seen = λ a h. is.held a ∙ h;
  rest = λ a h. left_of (is_observed w.watches a) (is_loose w.loose a) (sym (is.held a) ∙ h);
}

-- and once none is loose, what is held is in use
ends_so : (k : Known) (w : Watching) → HoldsBut [] k w → HoldsInUse k w
ends_so k w is =
    let observed : (a : Address) → is_some (held w.cache a) ≡ true → is_observed w.watches a ≡ true =
    λ a h. either (is_observed w.watches a) false (is.rest a h) (λ here. here) (λ none. absurd (cc)) in
    let same : (a : Address) → is_some (held w.cache a) ≡ is_observed w.watches a =
    λ a. same_truth (is_some (held w.cache a)) (is_observed w.watches a) (observed a) (is.seen a) in
    record { rising = is.rising; held = same; told = λ a. is.told a ∙ same a }

-- ---- changes and values

-- whether there is a value, no change tells
some_changed : (f : Value → Value) (o : Option Value) → is_some (option_map f o) ≡ is_some o
some_changed f None = refl
some_changed f (Some value) = refl

-- a feed is told: the same addresses are held
holds_feed : (k l : Known) (w : Watching) (feed : Fed) → ((a : Address) → l.subscribed a ≡ k.subscribed a) → Holds k w → Holds l (after_feed w feed)
holds_feed k l w feed same is =
    let holds : (a : Address) → is_some (held (advanced w.cache feed) a) ≡ is_some (held w.cache a) =
    λ a. ap is_some (held-advanced w.cache feed a) ∙ some_changed (apply_maybe (delta_at feed.changes a)) (held w.cache a) in
    let observed = observed_told feed.changes w.watches in record {
      rising = rise-advanced w.cache feed is.rising;
      told = λ a. same a ∙ is.told a ∙ sym (holds a);
      seen = λ a h. holds a ∙ is.seen a (sym (observed a) ∙ h);
      rest = λ a h. ap (λ b. b || is_loose w.loose a) (observed a) ∙ is.rest a (sym (holds a) ∙ h);
    }

-- what changed is taken
take_holds : (k : Known) (w : Watching) → Holds k w → AlwaysEnds k (take_feed w) Holds
take_holds k w is = (tt, λ answer l step ok. by answer l step)
  where
    by : (answer : Answer) (l : Known) → IsAnswered k Call.take answer l → AlwaysEnds l (fed w answer) Holds
    by (Answer.feed feed) l step = holds_feed k l w feed step.goes_on.subscribed is
    by answer l step = tt

-- one value more is held
some_more : (b : Bool) (value : Value) (o : Option Value) → is_some (cond b (Some value) o) ≡ (b || is_some o)
some_more true value o = refl
some_more false value o = refl

holds_value : (l m : Known) (w : Watching) (address : Address) (value : Value)
    → ((a : Address) → m.subscribed a ≡ (is_at (address_cmp address) a || l.subscribed a)) → Holds l w → Holds m (with_value w address value)
holds_value l m w address value told is =
    let here : (a : Address) → Bool = λ a. is_eq (address_cmp a address) in
    let holds : (a : Address) → is_some (held (filled w.cache address value) a) ≡ (here a || is_some (held w.cache a)) =
    λ a. ap is_some (held-filled w.cache address value a) ∙ some_more (here a) value (held w.cache a) in
    let loose : (a : Address) → is_loose (w.loose ++ address ∷ []) a ≡ (is_loose w.loose a || (here a || false)) =
    λ a. list_any-append (is_at (address_cmp a)) w.loose (address ∷ []) in record {
      rising = rise-filled w.cache address value is.rising;
      told = λ a. told a ∙ ap (λ b. b || l.subscribed a) (sym (at-turned a address)) ∙ ap (λ b. here a || b) (is.told a) ∙ sym (holds a);
      seen = λ a h. holds a ∙ right_of (here a) (is_some (held w.cache a)) (is.seen a h);
      rest = λ a h. ap (λ b. is_observed w.watches a || b) (loose a)
          ∙ by (here a) (is_some (held w.cache a)) (is_observed w.watches a) (is_loose w.loose a) (is.rest a) (sym (holds a) ∙ h);
    }
  where
    by : (new old seen loose : Bool) → (old ≡ true → (seen || loose) ≡ true) → (new || old) ≡ true → (seen || (loose || (new || false))) ≡ true
    by new old true loose rest h = refl
    by new old false true rest h = refl
    by true old false false rest h = refl
    by false old false false rest h = rest h

-- a value is asked for: where it was late nothing is another
fetch_holds : (k : Known) (w : Watching) (address : Address) → Holds k w → AlwaysEnds k (fetch w address) HoldsFetched
fetch_holds k w address is = (tt, λ answer l step ok. by answer l step)
  where
    on : (l : Known) → ((a : Address) → l.subscribed a ≡ k.subscribed a) → Holds l w
    on l same = record { rising = is.rising; told = λ a. same a ∙ is.told a; seen = is.seen; rest = is.rest }

    told : (l : Known) (value : Value) → Holds l w → (answer : Answer) (m : Known) → IsAnswered l (Call.subscribe address) answer m
        → AlwaysEnds m (kept w address value answer) HoldsFetched
    told l value here Answer.done m step = holds_value l m w address value step.goes_on.subscribed here
    told l value here answer m step = tt

    by : (answer : Answer) (l : Known) → IsAnswered k (Call.read_at address w.cache.at) answer l
        → AlwaysEnds l (read w address answer) HoldsFetched
    by (Answer.value value) l step = (tt, λ answer m step_on ok. told l value (on l step.goes_on.subscribed) answer m step_on)
    by (Answer.late n horizon) l step = on l step.goes_on.subscribed
    by answer l step = tt

-- what was late is said, or the run goes on
or_late_holds : {A : Type 0} (more : Watching → Program (With A)) (found : A) (said : List Reply)
    → ((l : Known) (v : Watching) → Holds l v → AlwaysEnds l (more v) (HoldsFound A))
    → (l : Known) (o : Option Reply) (v : Watching) → Holds l v → AlwaysEnds l (or_late more found said (o, v)) (HoldsFound A)
or_late_holds more found said on l None v is = on l v is
or_late_holds more found said on l (Some late) v is = is

-- ---- reruns

-- a watch has run: what it observed before is loose
holds_rerun : (k : Known) (w : Watching) (name : Bytes) (run : Run) → next_rerun (held w.cache) w.watches ≡ rerun.Ran name run → Holds k w
    → Holds k (with_rerun w name run)
holds_rerun k w name run next is =
    let has = has-run (held w.cache) w.watches name run next in
    let all = run-held w has.watch.body run has.done in
    let old = observed_by (watch_of w.watches name) in
    let later = with_report w.watches name w.cache.at run in record {
      rising = is.rising;
      told = is.told;
      seen = λ a h. either (is_observed w.watches a) (is_observed_by a run.observations) (observed_later w.watches name w.cache.at run a h)
          (λ before. is.seen a before) (λ now. seen_held w.cache run.observations a all now);
      rest = λ a h. ap (λ b. is_observed later a || b) (list_any-append (is_at (address_cmp a)) w.loose old)
          ∙ by (is_observed later a) (is_observed w.watches a) (is_loose w.loose a) (is_loose old a)
          (observed_before w.watches name w.cache.at run a) (is.rest a h);
    }
  where
    by : (later seen loose old : Bool) → (seen ≡ true → (later || old) ≡ true) → (seen || loose) ≡ true → (later || (loose || old)) ≡ true
    by true seen loose old before h = refl
    by false seen true old before h = refl
    by false true false old before h = before refl
    by false false false old before h = absurd (cc)

-- round by round
rerun_holds : (n : ℕ) (k : Known) (said : List Reply) (w : Watching) → Holds k w → AlwaysEnds k (rerun_one n said w) (HoldsFound (Option Bool))
rerun_holds zero k said w is = tt
rerun_holds (suc n) k said w is = by (next_rerun (held w.cache) w.watches) refl (λ l v. rerun_holds n l said v)
  where
    by : (r : Rerun) → next_rerun (held w.cache) w.watches ≡ r
        → ((l : Known) (v : Watching) → Holds l v → AlwaysEnds l (rerun_one n said v) (HoldsFound (Option Bool)))
        → AlwaysEnds k (rerun_by (rerun_one n said) w said r) (HoldsFound (Option Bool))
    by (rerun.Need address) next on =
        then_ends HoldsFetched (HoldsFound (Option Bool)) (or_late (rerun_one n said) (Some false) said) k (fetch w address)
        (fetch_holds k w address is) (λ l r h. or_late_holds (rerun_one n said) (Some false) said on l r.0 r.1 h)
    by (rerun.Ran name run) next on = holds_rerun k w name run next is
    by rerun.NoneLeft next on = is

-- one watch after another
reruns_hold : (n : ℕ) (k : Known) (w : Watching) (said : List Reply) → Holds k w → AlwaysEnds k (reruns n w said) (HoldsFound Bool)
reruns_hold zero k w said is = tt
reruns_hold (suc n) k w said is =
    then_ends (HoldsFound (Option Bool)) (HoldsFound Bool) (or_more (reruns n)) k (rerun_one rounds said w) (rerun_holds rounds k said w is)
    (λ l r h. more (λ m v told. reruns_hold n m v told) l r.0 r.1 r.2 h)
  where
    more : ((l : Known) (v : Watching) (told : List Reply) → Holds l v → AlwaysEnds l (reruns n v told) (HoldsFound Bool))
        → (l : Known) (o : Option Bool) (v : Watching) (told : List Reply) → Holds l v → AlwaysEnds l (or_more (reruns n) (o, v, told)) (HoldsFound Bool)
    more next l None v told h = next l v told h
    more next l (Some all) v told h = h

-- all of them
catch_holds : (k : Known) (w : Watching) (said : List Reply) → Holds k w → AlwaysEnds k (catch_up w said) (HoldsFound Bool)
catch_holds k w said is = reruns_hold (suc (stale_count w.watches)) k w said is

-- ---- values that no watch observes

-- one value less is held
some_less : (b : Bool) (o : Option Value) → is_some (cond b None o) ≡ (not b && is_some o)
some_less true o = refl
some_less false o = refl

-- it is let go: none observed it, and the others are as they were
holds_without : (k l : Known) (w : Watching) (address : Address) (rest : List Address) → is_idle w address ≡ true
    → ((a : Address) → l.subscribed a ≡ (not (is_at (address_cmp address) a) && k.subscribed a)) → HoldsBut (address ∷ rest) k w
    → HoldsBut rest l (without_value w address)
holds_without k l w address rest idle told is =
    let here : (a : Address) → Bool = λ a. is_at (address_cmp address) a in
    let holds : (a : Address) → is_some (held (released w.cache address) a) ≡ (not (here a) && is_some (held w.cache a)) =
    λ a. ap is_some (held-released w.cache address a is.rising) ∙ some_less (here a) (held w.cache a) in record {
      rising = rise-released w.cache address is.rising;
      told = λ a. told a ∙ ap (λ b. not (here a) && b) (is.told a) ∙ sym (holds a);
      seen = λ a h. holds a ∙ still (here a) (is_some (held w.cache a)) (λ there. seen_no a h there) (is.seen a h);
      rest = λ a h. others (here a) (is_at (address_cmp a) address) (is_some (held w.cache a)) (is_observed w.watches a) (is_loose rest a)
          (at-turned a address) (is.rest a) (sym (holds a) ∙ h);
    }
  where
    unseen : (holds seen : Bool) → (holds && not seen) ≡ true → seen ≡ true → ⊥
    unseen true true h is = cc
    unseen true false h is = cc
    unseen false seen h is = cc

    seen_no : (a : Address) → is_observed w.watches a ≡ true → is_at (address_cmp address) a ≡ true → ⊥
    seen_no a h there = unseen (is_some (held w.cache address)) (is_observed w.watches address) idle
        (subst (λ (x : Address). is_observed w.watches x ≡ true) (sym (at-same address a there)) h)

    still : (b holds : Bool) → (b ≡ true → ⊥) → holds ≡ true → (not b && holds) ≡ true
    still true holds never h = absurd (never refl)
    still false holds never h = h

    others : (b c holds seen loose : Bool) → c ≡ b → (holds ≡ true → (seen || (c || loose)) ≡ true) → (not b && holds) ≡ true
        → (seen || loose) ≡ true
    others true c holds seen loose same more h = absurd (cc)
    others false true holds seen loose same more h = absurd (cc)
    others false false holds seen loose same more h = more h

-- else it is observed, or nothing is held there
holds_other : (k : Known) (w : Watching) (address : Address) (rest : List Address) → is_idle w address ≡ false → HoldsBut (address ∷ rest) k w
    → HoldsBut rest k w
holds_other k w address rest other is = record {
  rising = is.rising;
  told = is.told;
  seen = is.seen;
  rest = λ a h. by a (is_eq (address_cmp a address)) refl h (is.rest a h);
}
  where
    seen : (holds seen : Bool) → (holds && not seen) ≡ false → holds ≡ true → seen ≡ true
    seen holds true idle h = refl
    seen true false idle h = absurd (cc)
    seen false false idle h = h

    by : (a : Address) (b : Bool) → is_eq (address_cmp a address) ≡ b → is_some (held w.cache a) ≡ true
        → (is_observed w.watches a || (b || is_loose rest a)) ≡ true → (is_observed w.watches a || is_loose rest a) ≡ true
    by a true e h more =
        let same = at-same a address e in
        left_of (is_observed w.watches a) (is_loose rest a)
        (subst (λ (x : Address). is_observed w.watches x ≡ true) (sym same)
        (seen (is_some (held w.cache address)) (is_observed w.watches address) other (subst (λ (x : Address). is_some (held w.cache x) ≡ true) same h)))
    by a false e h more = more

-- the first of some addresses is looked at
drop_holds : (k : Known) (w : Watching) (address : Address) (rest : List Address) → HoldsBut (address ∷ rest) k w
    → AlwaysEnds k (drop_one w address) (HoldsBut rest)
drop_holds k w address rest is = by (is_idle w address) refl
  where
    gone : is_idle w address ≡ true → (answer : Answer) (l : Known) → IsAnswered k (Call.unsubscribe address) answer l
        → AlwaysEnds l (let_go w address answer) (HoldsBut rest)
    gone idle Answer.done l step = holds_without k l w address rest idle step.goes_on.subscribed is
    gone idle answer l step = tt

    by : (b : Bool) → is_idle w address ≡ b
        → AlwaysEnds k (cond b (Program.asks (Call.unsubscribe address) (let_go w address)) (Program.ends w)) (HoldsBut rest)
    by true idle = (tt, λ answer l step ok. gone idle answer l step)
    by false other = holds_other k w address rest other is

-- address by address
drops_hold : (rest : List Address) (k : Known) (w : Watching) → HoldsBut rest k w → AlwaysEnds k (drop_each rest w) (HoldsBut [])
drops_hold [] k w is = is
drops_hold (address ∷ rest) k w is =
    then_ends (HoldsBut rest) (HoldsBut []) (drop_each rest) k (drop_one w address) (drop_holds k w address rest is)
    (λ l v h. drops_hold rest l v h)

-- all the loose ones: what is held is in use then
idle_holds : (k : Known) (w : Watching) → Holds k w → AlwaysEnds k (drop_idle w) HoldsInUse
idle_holds k w is =
    always_more AsksAny IsAnswered (Unit {0}) (HoldsBut []) HoldsInUse k (drop_idle w) ends_so
    (drops_hold w.loose k (none_loose w) (record { rising = is.rising; told = is.told; seen = is.seen; rest = is.rest }))

-- ---- a new watch

-- it has run on the values that are held
holds_first : (k : Known) (w : Watching) (name : Bytes) (body : Checked) (run : Run) → HasRun body w run → Holds k w → Holds k (with_first w name body run)
holds_first k w name body run ran is =
    let all = run-held w body run ran in
    let observed : (a : Address) → is_observed (with_watch w.watches name (reported body w.cache.at run)) a
    ≡ (is_observed w.watches a || (is_observed_by a run.observations || false)) =
    λ a. list_any-append (λ entry. is_observed_by a entry.1.observations) w.watches ((name, reported body w.cache.at run) ∷ []) in record {
      rising = is.rising;
      told = is.told;
      seen = λ a h. either (is_observed w.watches a) (is_observed_by a run.observations || false) (sym (observed a) ∙ h) (λ before. is.seen a before)
          (λ now. either (is_observed_by a run.observations) false now (λ here. seen_held w.cache run.observations a all here) (λ none. absurd (cc)));
      rest = λ a h. ap (λ b. b || is_loose w.loose a) (observed a)
          ∙ by (is_observed w.watches a) (is_observed_by a run.observations || false) (is_loose w.loose a) (is.rest a h);
    }
  where
    by : (seen new loose : Bool) → (seen || loose) ≡ true → ((seen || new) || loose) ≡ true
    by true new loose h = refl
    by false true loose h = refl
    by false false loose h = h

-- where a body has run, that was on these values
abbrev HasRunSo : Checked → Option Run → Watching → Type 0
HasRunSo body None v = Unit {0}
HasRunSo body (Some run) v = HasRun body v run

record RanFirst (body : Checked) (l : Known) (r : With (Option Run)) : Type 0 where
  holds : Holds l r.1
  ran : HasRunSo body r.0 r.1

-- round by round
run_holds : (n : ℕ) (k : Known) (body : Checked) (said : List Reply) (w : Watching) → Holds k w
    → AlwaysEnds k (run_body n body said w) (RanFirst body)
run_holds zero k body said w is = tt
run_holds (suc n) k body said w is = by (exec body.body (held w.cache)) refl (λ l v. run_holds n l body said v)
  where
    more : ((l : Known) (v : Watching) → Holds l v → AlwaysEnds l (run_body n body said v) (RanFirst body))
        → (l : Known) (o : Option Reply) (v : Watching) → Holds l v → AlwaysEnds l (or_late (run_body n body said) None said (o, v)) (RanFirst body)
    more on l None v h = on l v h
    more on l (Some late) v h = record { holds = h; ran = tt }

    by : (r : Ran) → exec body.body (held w.cache) ≡ r
        → ((l : Known) (v : Watching) → Holds l v → AlwaysEnds l (run_body n body said v) (RanFirst body))
        → AlwaysEnds k (run_by (run_body n body said) w said r) (RanFirst body)
    by (need address) ran on =
        then_ends HoldsFetched (RanFirst body) (or_late (run_body n body said) None said) k (fetch w address) (fetch_holds k w address is)
        (λ l r h. more on l r.0 r.1 h)
    by (done run) ran on = record { holds = is; ran = ran }

-- it is a watch then
first_holds : (k : Known) (name : Bytes) (body : Checked) (said : List Reply) (w : Watching) → Holds k w
    → AlwaysEnds k (first_run name body said w) HoldsTold
first_holds k name body said w is =
    then_ends (RanFirst body) HoldsTold (λ found. Program.ends (made name body found)) k (run_body rounds body said w)
    (run_holds rounds k body said w is) (λ l r h. by l r.0 r.1 r.2 h.holds h.ran)
  where
    by : (l : Known) (o : Option Run) (v : Watching) (told : List Reply) → Holds l v → HasRunSo body o v → Holds l (made name body (o, v, told)).0
    by l None v told h ran = h
    by l (Some run) v told h ran = holds_first l v name body run ran h

-- ---- lines

-- what no watch observes is let go
ending_holds : (k : Known) (told : Told) → Holds k told.0 → AlwaysEnds k (ending told) (λ l told. HoldsInUse l told.0)
ending_holds k told is =
    then_ends HoldsInUse (λ l told. HoldsInUse l told.0) (λ w. Program.ends (w, told.1)) k (drop_idle told.0) (idle_holds k told.0 is) (λ l v h. h)

-- all are current, or a value was late
current_holds : (k : Known) (said : List Reply) (w : Watching) → Holds k w → AlwaysEnds k (say_current said w) HoldsTold
current_holds k said w is =
    then_ends (HoldsFound Bool) HoldsTold (λ found. Program.ends (current found)) k (catch_up w said) (catch_holds k w said is)
    (λ l r h. by l r.0 r.1 r.2 h)
  where
    by : (l : Known) (b : Bool) (v : Watching) (told : List Reply) → Holds l v → Holds l (current (b, v, told)).0
    by l true v told h = h
    by l false v told h = h

-- a new one is made
make_holds : (k : Known) (name : Bytes) (body : Checked) (said : List Reply) (w : Watching) → Holds k w → AlwaysEnds k (make name body said w) HoldsTold
make_holds k name body said w is =
    then_ends (HoldsFound Bool) HoldsTold (then_first name body) k (catch_up w said) (catch_holds k w said is) (λ l r h. by l r.0 r.1 r.2 h)
  where
    by : (l : Known) (b : Bool) (v : Watching) (told : List Reply) → Holds l v → AlwaysEnds l (then_first name body (b, v, told)) HoldsTold
    by l true v told h =
        then_ends HoldsInUse HoldsTold (first_run name body told) l (drop_idle v) (idle_holds l v h)
        (λ m u now. first_holds m name body told u (begins_so m u now))
    by l false v told h = h

-- LINES LET GO what no watch observes
lets_go : (k : Known) (w : Watching) (line : WatchLine) → HoldsInUse k w → AlwaysEnds k (program_of line w) (λ l told. HoldsInUse l told.0)
lets_go k w WatchLine.sync is =
    then_ends Holds (λ l told. HoldsInUse l told.0) (λ v. bind (say_current [] v) ending) k (take_feed w) (take_holds k w (begins_so k w is))
    (λ l v h. then_ends HoldsTold (λ l told. HoldsInUse l told.0) ending l (say_current [] v) (current_holds l [] v h) ending_holds)
lets_go k w (WatchLine.watch name body) is = by (is_some (watch_of w.watches name))
  where
    by : (b : Bool) → AlwaysEnds k (cond b (Program.ends (w, reply.Refused why.Name ∷ []))
        (bind (take_feed w) (λ v. bind (make name body [] v) ending))) (λ l told. HoldsInUse l told.0)
    by true = is
    by false =
        then_ends Holds (λ l told. HoldsInUse l told.0) (λ v. bind (make name body [] v) ending) k (take_feed w) (take_holds k w (begins_so k w is))
        (λ l v h. then_ends HoldsTold (λ l told. HoldsInUse l told.0) ending l (make name body [] v) (make_holds l name body [] v h) ending_holds)
lets_go k w (WatchLine.unwatch name) is = by (is_some (watch_of w.watches name))
  where
    gone : Holds k (without w name)
    gone = record {
      rising = is.rising;
      told = λ a. is.told a ∙ sym (is.held a);
      seen = λ a h. is.held a ∙ observed_without w.watches name a h;
      rest = λ a h. ap (λ b. is_observed (without_watch w.watches name) a || b)
          (list_any-append (is_at (address_cmp a)) w.loose (observed_by (watch_of w.watches name)))
          ∙ also (is_observed (without_watch w.watches name) a) (is_loose w.loose a) (is_loose (observed_by (watch_of w.watches name)) a)
          (observed_with w.watches name a (sym (is.held a) ∙ h));
    }
      where
        also : (seen loose old : Bool) → (seen || old) ≡ true → (seen || (loose || old)) ≡ true
        also true loose old h = refl
        also false true old h = refl
        also false false old h = h

    by : (b : Bool) → AlwaysEnds k (cond b (ending (without w name, reply.Dropped ∷ [])) (Program.ends (w, reply.Refused why.NoAttempt ∷ [])))
        (λ l told. HoldsInUse l told.0)
    by true = ending_holds k (without w name, reply.Dropped ∷ []) gone
    by false = is

pub lines_let_go : LinesLetGo
unfolding IsStrictlySortedBy
lines_let_go = record {
  none = λ k at nothing. record { rising = tt; held = λ a. refl; told = nothing };
  behind = lets_go;
  others = λ k l w is later. record { rising = is.rising; held = is.held; told = λ a. later.subscribed a ∙ is.told a };
  followed = λ k l w is done. record { rising = is.rising; held = is.held; told = λ a. done.subscribed a ∙ is.told a };
}
