-- Many lines of a script.
use Rattle.std.proofs.Common.{◌≡◌, ℕ, suc, ◌+◌, ◌-◌, ◌≤◌, ◌<◌, true, false, List, [], ◌∷◌, ◌++◌, length, take, drop, Option, Some, None, Ok, Err, refl, sym, ap}
use Rattle.std.proofs.Common.{◌∙◌, arith, append_assoc, length-append, fold, ◌⊎◌, inl, inr, subst}
use Rattle.plain_data.specs.declared.or_no_memory.OrNoMemory.{OrNoMemory}
use Rattle.plain_data.specs.declared.or_no_memory.OrNoMemory.TheVariants as stop
use Rattle.std.specs.Prelude.{Result, IfSome, IfOk}
use Rattle.std.specs.Result.{result_unwrap_or}
use Rattle.std.proofs.lemmas.List.{append-nil, nil_from_length, take-append-drop, take_all, take_at}
use Rattle.std.proofs.lemmas.List.Sums.{fold-append}
use Rattle.dio_core.specs.declared.line.TheConstants.{LONGEST_RUN, NEWLINE}
use Rattle.dio_core.specs.declared.line.Line.{Line}
use Rattle.dio_core.specs.declared.line.Line.TheVariants as line
use Rattle.dio_core.specs.Lines.{lines, Answers, TakesLine, IsBegun}
use Rattle.dio_core.specs.Sinks.{with_more, IsPassedOn}
use Rattle.dio_core.specs.Sources.{IsAhead}
use Rattle.dio_core.specs.declared.sink.Sink.{Ghosts as SinkTells}
use Rattle.dio_core.specs.Told.{WhereTold}
use Rattle.dio_core.proofs.Told.{WhereTold-then, WhereTold-refl}
use Rattle.dio_core.proofs.Sinks.{with_more-with_more, with_more-nil}
use Rattle.rdt_types.specs.declared.settings.Settings.{Settings}
use Rattle.txn_grammar.specs.Characters.{Text}
use Rattle.script_runner.specs.declared.stop.Cause.{Cause}
use Rattle.script_runner.specs.declared.stop.Cause.TheVariants as cause
use Rattle.script_runner.specs.declared.stop.TheConstants.{MOST_LINES}
use Rattle.script_runner.specs.Play.{ScriptWorld, Played, played, play, nothing_played, first_world, one_more, world_after, reply_to}
use Rattle.script_runner.specs.Script.{IsPlayed, IsBrokenOff, HasTooManyLines, IsCutOff, IsCutOffBehindLine, HasPassedOn, HasCommits, Writing, writing, but_last}
use Rattle.script_runner.specs.code.Turns.{Moment, moment, DoesLine, BeginsLine, Turns, StopsReading, HasPlayed, Plays, Ran, StopsBetween}

-- one more line, played after the others
played-push : (settings : Settings) (raws : List Text) (raw : Text)
    → played settings (raws ++ raw ∷ []) ≡ one_more (played settings raws) raw
played-push settings raws raw = fold-append one_more (nothing_played settings) raws (raw ∷ [])

-- its output is that of the others and the reply to it
output-push : (settings : Settings) (raws : List Text) (raw : Text)
    → (played settings (raws ++ raw ∷ [])).output ≡ (played settings raws).output ++ reply_to (played settings raws).world raw
output-push settings raws raw = ap (λ (p : Played). p.output) (played-push settings raws raw)

-- more lines only add to the output
output-grows : (raws : List Text) (p : Played) → length p.output ≤ length (fold one_more p raws).output
output-grows [] p = omega arith
output-grows (raw ∷ raws) p =
    omega (arith, output-grows raws (one_more p raw), length-append p.output (reply_to p.world raw))

-- so some of the lines have no more output than all of them
output-take : (settings : Settings) (n : ℕ) (raws : List Text)
    → length (played settings (take n raws)).output ≤ length (played settings raws).output
output-take settings n raws =
    let all : played settings raws ≡ fold one_more (played settings (take n raws)) (drop n raws) =
    ap (played settings) (sym (take-append-drop n raws)) ∙ fold-append one_more (nothing_played settings) (take n raws) (drop n raws) in
    omega (arith, output-grows (drop n raws) (played settings (take n raws)), ap (λ (p : Played). length p.output) all)

-- all of one text and then some of another
take-beyond : (xs ys : Text) (k : ℕ) → take (length xs + k) (xs ++ ys) ≡ xs ++ take k ys
take-beyond [] ys k = ap (λ (n : ℕ). take n ys) (let e : 0 + k ≡ k = omega arith in e)
take-beyond (x ∷ xs) ys k =
    let further : suc (length xs) + k ≡ suc (length xs + k) = omega arith in
    ap (λ (n : ℕ). take n (x ∷ (xs ++ ys))) further ∙ ap (λ zs. x ∷ zs) (take-beyond xs ys k)

-- all lines but the last, where one was added
but_last-push : (raws : List Text) (raw : Text) → but_last (raws ++ raw ∷ []) ≡ raws
but_last-push raws raw =
    let long : length (raws ++ raw ∷ []) - 1 ≡ length raws = omega (arith, length-append raws (raw ∷ [])) in
    ap (λ (n : ℕ). take n (raws ++ raw ∷ [])) long ∙ take_at raws (raw ∷ []) (length raws) refl

-- nothing was played yet, in the first world
pub plays-none : (settings : Settings) (left taken : Option Text) (world : ScriptWorld) → world ≡ first_world settings
    → Plays settings 0 left taken (moment world left taken)
plays-none settings left taken world first = WhereTold-refl (HasPlayed settings 0 taken (moment world left taken)) left (λ all. record {
  raws = [];
  read = refl;
  many = refl;
  made = first;
  output = sym (with_more-nil taken);
})

module _ (settings : Settings) where
  -- one more line of an input that is told
  more_played : (n : ℕ) (left taken : Option Text) (now then : Moment) (all mid rest : Text) → HasPlayed settings n taken now all mid
      → DoesLine now then mid rest
      → HasPlayed settings (n + 1) taken then all rest
  more_played n left taken now then all mid rest past line =
      let out = (played settings past.raws).output in
      let same = ap (λ (w : ScriptWorld). reply_to w line.raw) past.made in record {
        raws = past.raws ++ line.raw ∷ [];
        read = past.read ∙ ap (λ ls. past.raws ++ ls) line.read ∙ sym (append_assoc past.raws (line.raw ∷ []) (lines rest));
        many = length-append past.raws (line.raw ∷ []) ∙ ap (λ k. k + 1) past.many;
        made =
            line.world ∙ ap (λ (w : ScriptWorld). world_after w line.raw) past.made
            ∙ sym (ap (λ (p : Played). p.world) (played-push settings past.raws line.raw));
        output =
            line.output ∙ ap (λ t. with_more t (reply_to now.world line.raw)) past.output
            ∙ with_more-with_more taken out (reply_to now.world line.raw)
            ∙ ap (λ reply. with_more taken (out ++ reply)) same
            ∙ ap (with_more taken) (sym (output-push settings past.raws line.raw));
      }

  -- and then a line
  pub plays-more : (n : ℕ) (left taken : Option Text) (now then : Moment) → Plays settings n left taken now → Turns (Ok true) now then
      → Plays settings (n + 1) left taken then
  plays-more n left taken now then = WhereTold-then left now.left then.left (more_played n left taken now then)

  -- the input ended behind these lines
  ended : (n : ℕ) (left taken : Option Text) (now then : Moment) (all mid rest : Text) → n ≤ MOST_LINES → then.taken ≡ now.taken
      → HasPlayed settings n taken now all mid → (mid ≡ []) × (rest ≡ []) → IsPlayed settings taken then.taken all rest
  ended n left taken now then all mid rest few same past none =
      let read : lines all ≡ past.raws = past.read ∙ ap (λ bytes. past.raws ++ lines bytes) none.0 ∙ append-nil past.raws in record {
        whole = none.1;
        few = omega (arith, ap length read, past.many);
        output = same ∙ past.output ∙ ap (λ raws. with_more taken (played settings raws).output) (sym read);
      }

  -- a turn that found no line
  pub plays-ended : {A : Type 0} (made : A) (n : ℕ) (left taken : Option Text) (now then : Moment) → n ≤ MOST_LINES → Plays settings n left taken now → Turns (Ok false) now then
      → Ran settings (Ok made) left taken then.left then.taken
  plays-ended made n left taken now then few past none =
      WhereTold-then left now.left then.left (λ all mid rest. ended n left taken now then all mid rest few none.1) past none.0

  -- what the script has behind these lines is what the whole input leaves
  all_played : (n : ℕ) (taken : Option Text) (now : Moment) (all mid rest : Text) → HasPlayed settings n taken now all mid
      → (mid ≡ []) × (rest ≡ []) → now.world ≡ (play settings all).world
  all_played n taken now all mid rest past none =
      let read : lines all ≡ past.raws = past.read ∙ ap (λ bytes. past.raws ++ lines bytes) none.0 ∙ append-nil past.raws in
      past.made ∙ ap (λ raws. (played settings raws).world) (sym read)

  -- so the commits that it has are those that the input leaves
  pub plays-counted : (n : ℕ) (left taken : Option Text) (now then : Moment) (number : Option ℕ) → Plays settings n left taken now
      → Turns (Ok false) now then → IfSome number (λ k. k ≡ length now.world.store.journal) → IfSome left (HasCommits settings number)
  plays-counted n left taken now then number past none counted = by left now.left then.left past none.0
    where
      count : (all : Text) → now.world ≡ (play settings all).world → (number : Option ℕ) → IfSome number (λ k. k ≡ length now.world.store.journal)
          → HasCommits settings number all
      count all is None counted = tt
      count all is (Some k) counted = counted ∙ ap (λ (w : ScriptWorld). length w.store.journal) is

      by : (x y z : Option Text) → WhereTold (HasPlayed settings n taken now) x y → WhereTold (λ all rest. (all ≡ []) × (rest ≡ [])) y z
          → IfSome x (HasCommits settings number)
      by None y z past none = tt
      by (Some all) None z past none = absurd past
      by (Some all) (Some mid) None past none = absurd none
      by (Some all) (Some mid) (Some rest) past none = count all (all_played n taken now all mid rest past none) number counted

  -- a line was begun behind these, and nothing more was written
  broken : (n k : ℕ) (left taken : Option Text) (now then : Moment) (all mid rest : Text) → n ≤ MOST_LINES → k < LONGEST_RUN → then.taken ≡ now.taken
      → HasPlayed settings n taken now all mid → IsBegun k mid rest → IsBrokenOff settings taken then.taken all rest
  broken n k left taken now then all mid rest few short same past begun = record {
    raws = past.raws;
    broken = mid;
    read = past.read;
    few = omega (arith, past.many);
    breaks = (k, omega arith, short, begun);
    output = same ∙ past.output;
  }

  -- a run that was broken off in a line is cut off there
  cut_broken : (taken taken_then : Option Text) (all rest : Text) → IsBrokenOff settings taken taken_then all rest
      → IsCutOff settings taken taken_then all rest
  cut_broken taken taken_then all rest off =
      let out = (played settings off.raws).output in record {
        raws = off.raws;
        behind = off.broken;
        read = off.read;
        few = off.few;
        place = off.breaks;
        count = length out;
        within = omega arith;
        answered = output-take settings (length off.raws - 1) off.raws;
        output = off.output ∙ ap (with_more taken) (sym (take_all (length out) out (omega arith)));
      }

  -- a line was read behind these, and of its reply a prefix was taken
  cut_begun : (n : ℕ) (left taken : Option Text) (now then : Moment) (all mid rest : Text) → n < MOST_LINES
      → HasPlayed settings n taken now all mid → BeginsLine now then mid rest → IsCutOff settings taken then.taken all rest
  cut_begun n left taken now then all mid rest few past line =
      let raws = past.raws ++ line.raw ∷ [] in
      let out = (played settings past.raws).output in
      let reply = reply_to now.world line.raw in
      let whole : (played settings raws).output ≡ out ++ reply =
      output-push settings past.raws line.raw ∙ ap (λ (w : ScriptWorld). out ++ reply_to w line.raw) (sym past.made) in
      let k = line.output.0 in
      let some : take (length out + k) (out ++ reply) ≡ out ++ take k reply = take-beyond out reply k in record {
        raws = raws;
        behind = rest;
        read = past.read ∙ ap (λ ls. past.raws ++ ls) line.read ∙ sym (append_assoc past.raws (line.raw ∷ []) (lines rest));
        few = omega (arith, length-append past.raws (line.raw ∷ []), past.many);
        place = (0, omega arith, omega arith, (omega arith, tt, refl));
        count = length out + k;
        within = omega (arith, ap length whole, length-append out reply, line.output.1);
        answered = omega (arith, ap (λ ls. length (played settings ls).output) (but_last-push past.raws line.raw));
        output =
            line.output.2 ∙ ap (λ t. with_more t (take k reply)) past.output
            ∙ with_more-with_more taken out (take k reply)
            ∙ ap (with_more taken) (sym some ∙ ap (take (length out + k)) (sym whole));
      }

  -- a line broke off behind these
  stopped_reading : (A : Type 0) (n : ℕ) (left taken : Option Text) (now then : Moment) → n ≤ MOST_LINES → Plays settings n left taken now → then.taken ≡ now.taken
      → (e : OrNoMemory Cause) → StopsReading e now.left then.left → Ran {A = A} settings (Err e) left taken then.left then.taken
  stopped_reading A n left taken now then few past same (stop.Cause cause.ReadFault) off =
      WhereTold-then left now.left then.left (λ all mid rest. broken n off.0 left taken now then all mid rest few off.2 same) past off.3
  stopped_reading A n left taken now then few past same (stop.Cause cause.WriteFault) off = absurd off
  stopped_reading A n left taken now then few past same (stop.Cause cause.TooManyLines) off = absurd off
  stopped_reading A n left taken now then few past same stop.NoMemory off =
      WhereTold-then left now.left then.left
      (λ all mid rest played begun. cut_broken taken then.taken all rest
      (broken n off.0 left taken now then all mid rest few off.2 same played begun))
      past off.3

  -- a turn that stopped
  pub plays-stopped : (A : Type 0) (n : ℕ) (left taken : Option Text) (now then : Moment) → n < MOST_LINES → Plays settings n left taken now → (e : OrNoMemory Cause)
      → Turns (Err e) now then → Ran {A = A} settings (Err e) left taken then.left then.taken
  unfolding cut_begun
  plays-stopped A n left taken now then few past (stop.Cause cause.ReadFault) turn =
      stopped_reading A n left taken now then (omega arith) past turn.1 (stop.Cause cause.ReadFault) turn.0
  plays-stopped A n left taken now then few past (stop.Cause cause.WriteFault) turn =
      WhereTold-then left now.left then.left
      (λ all mid rest played line. (cut_begun n left taken now then all mid rest few played line, refl)) past turn
  plays-stopped A n left taken now then few past (stop.Cause cause.TooManyLines) turn = absurd turn
  plays-stopped A n left taken now then few past stop.NoMemory (inl off) = stopped_reading A n left taken now then
      (omega arith) past off.1 stop.NoMemory off.0
  plays-stopped A n left taken now then few past stop.NoMemory (inr line) =
      WhereTold-then left now.left then.left (λ all mid rest. cut_begun n left taken now then all mid rest few) past line

  -- a line broke off behind the last one that may be read
  pub plays-unread : (A : Type 0) (n : ℕ) (left taken : Option Text) (now then : Moment) → n ≤ MOST_LINES → Plays settings n left taken now → then.taken ≡ now.taken
      → (e : OrNoMemory Cause) → StopsReading e now.left then.left → Ran {A = A} settings (Err e) left taken then.left then.taken
  plays-unread A n left taken now then few past same e off = stopped_reading A n left taken now then few past same e off

  -- a line behind the last one that may be read
  one_too_many : (n : ℕ) (left taken : Option Text) (now then : Moment) (l : Line) (all mid rest : Text) → n ≡ MOST_LINES → then.taken ≡ now.taken
      → (l ≡ line.End → ⊥)
      → HasPlayed settings n taken now all mid → Answers l mid rest → HasTooManyLines settings taken then.taken all rest
  one_too_many n left taken now then line.End all mid rest most same some past takes = absurd (some refl)
  one_too_many n left taken now then (line.Bytes bytes) all mid rest most same some past takes = record {
    raws = past.raws;
    next = takes.raw;
    read = past.read ∙ ap (λ ls. past.raws ++ ls) takes.first.0;
    most = past.many ∙ most;
    output = same ∙ past.output;
  }
  one_too_many n left taken now then line.TooLong all mid rest most same some past takes = record {
    raws = past.raws;
    next = takes.raw;
    read = past.read ∙ ap (λ ls. past.raws ++ ls) takes.first.0;
    most = past.many ∙ most;
    output = same ∙ past.output;
  }

  -- where the source tells its bytes
  pub plays-too_many : (A : Type 0) (n : ℕ) (left taken : Option Text) (now then : Moment) (l : Line) → n ≡ MOST_LINES → then.taken ≡ now.taken → (l ≡ line.End → ⊥)
      → Plays settings n left taken now → TakesLine l now.left then.left → Ran {A = A} settings (Err (stop.Cause cause.TooManyLines)) left taken then.left then.taken
  plays-too_many A n left taken now then l most same some =
      WhereTold-then left now.left then.left (λ all mid rest. one_too_many n left taken now then l all mid rest most same some)

-- a run whose flush failed at the end is cut off behind the last line
pub cut_whole : (settings : Settings) (taken taken_then : Option Text) (all rest : Text) → IsPlayed settings taken taken_then all rest
    → IsCutOffBehindLine settings taken taken_then all rest
cut_whole settings taken taken_then all rest is =
    let out = (played settings (lines all)).output in (
      record {
        raws = lines all;
        behind = [];
        read = sym (append-nil (lines all));
        few = is.few;
        place = (0, omega arith, omega arith, (omega arith, tt, is.whole));
        count = length out;
        within = omega arith;
        answered = output-take settings (length (lines all) - 1) (lines all);
        output = is.output ∙ ap (with_more taken) (sym (take_all (length out) out (omega arith)));
      },
      is.whole,
    )

-- where nothing was read and nothing taken, a run is cut off before its first line
pub cut_unread : (settings : Settings) (left taken : Option Text) → WhereTold (IsCutOff settings taken taken) left left
cut_unread settings left taken = WhereTold-refl (IsCutOff settings taken taken) left (λ all. record {
  raws = [];
  behind = all;
  read = refl;
  few = omega arith;
  place = (0, omega arith, omega arith, (omega arith, tt, refl));
  count = 0;
  within = omega arith;
  answered = omega arith;
  output = sym (with_more-nil taken);
})

-- ---- between two answers

-- before the first line nothing was answered
pub unread-between : (settings : Settings) (left : Option Text) (w : Writing) → w.taken_then ≡ w.taken → IfSome left (HasPassedOn settings w)
unread-between settings None w same = tt
unread-between settings (Some all) w same =
    record { answered = []; behind = all; read = refl; output = same ∙ sym (with_more-nil w.taken); passed = inl refl }

-- behind so many lines their answers were taken, and passed on unless there were none or a whole line is left
lines-between : (settings : Settings) (n : ℕ) (left : Option Text) (now : Moment) (w : Writing) → Plays settings n left w.taken now
    → now.taken ≡ w.taken_then → (n ≡ 0) ⊎ (IsAhead NEWLINE now.left ⊎ IsPassedOn w.taken_then w.passed_then) → IfSome left (HasPassedOn settings w)
lines-between settings n left now w past same passed = by left now.left past passed
  where
    by : (x y : Option Text) → WhereTold (HasPlayed settings n w.taken now) x y
        → (n ≡ 0) ⊎ (IsAhead NEWLINE y ⊎ IsPassedOn w.taken_then w.passed_then) → IfSome x (HasPassedOn settings w)
    by None y past passed = tt
    by (Some all) None past passed = absurd past
    by (Some all) (Some mid) past (inl none) = record {
      answered = past.raws;
      behind = mid;
      read = past.read;
      output = sym same ∙ past.output;
      passed = inl (nil_from_length past.raws (past.many ∙ none));
    }
    by (Some all) (Some mid) past (inr passed) =
        record { answered = past.raws; behind = mid; read = past.read; output = sym same ∙ past.output; passed = inr passed }

-- a run that stops for want of memory has written nothing since its last answer
pub stops-between : (A : Type 0) (settings : Settings) {W : Type 0} (told : SinkTells W) (n : ℕ) (left : Option Text) (now : Moment) (first last then : W)
    → Plays settings n left (told.taken first) now → now.taken ≡ told.taken last
    → (n ≡ 0) ⊎ (IsAhead NEWLINE now.left ⊎ IsPassedOn (told.taken last) (told.passed last))
    → (e : OrNoMemory Cause) → (e ≡ stop.NoMemory → then ≡ last) → StopsBetween {A = A} settings (Err e) left (writing told first then)
stops-between A settings {W} told n left now first last then past same passed (stop.Cause cause) wrote = tt
stops-between A settings {W} told n left now first last then past same passed stop.NoMemory wrote =
    subst (λ (x : W). IfSome left (HasPassedOn settings (writing told first x))) (sym (wrote refl))
    (lines-between settings n left now (writing told first last) past same passed)

-- ---- how many commits were made

-- what a run whose lines ended so answers of that
pub counted-end : (settings : Settings) (left : Option Text) (ended : Result (Option ℕ) (OrNoMemory Cause)) (number : Option ℕ)
    → IfOk ended (λ n. IfSome left (HasCommits settings n)) → number ≡ result_unwrap_or ended None → IfSome left (HasCommits settings number)
counted-end settings left (Ok n) number counted is = subst (λ (m : Option ℕ). IfSome left (HasCommits settings m)) (sym is) counted
counted-end settings None (Err e) number counted is = tt
counted-end settings (Some all) (Err e) number counted is = subst (λ (m : Option ℕ). HasCommits settings m all) (sym is) tt
