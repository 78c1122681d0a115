-- Lines of a session over a link, one after another, and how they end.
use Rattle.std.proofs.Common.{◌≡◌, ℕ, ◌+◌, ◌≤◌, ◌<◌, ◌⊎◌, Bool, true, false, List, [], ◌∷◌, ◌++◌, map, length, Option, Some, None, Result, Ok, Err, inl, inr}
use Rattle.std.proofs.Common.{refl, sym, ap, ◌∙◌, subst, arith}
use Rattle.std.proofs.Common.{append_assoc, length-append}
use Rattle.std.specs.Prelude.{IfOk, IfErr}
use Rattle.std.proofs.lemmas.List.{append-nil, map-append}
use Rattle.plain_data.specs.declared.or_no_memory.OrNoMemory.TheVariants as stop
use Rattle.dio_core.specs.declared.line.TheConstants.{LONGEST_LINE}
use Rattle.dio_core.specs.declared.line.Line.{Line}
use Rattle.dio_core.specs.declared.line.Line.TheVariants as line
use Rattle.dio_core.specs.Counts.{Rose}
use Rattle.dio_core.specs.Sinks.{TakesPrefix}
use Rattle.dio_core.specs.Lines.{lines, TakesFirst, Answers as LineAnswers, TakesLine, BreaksOff, line_of as cut_of}
use Rattle.dio_core.specs.Links.{Both, Incoming, Outgoing}
use Rattle.dio_core.specs.Told.{WhereTold}
use Rattle.dio_core.proofs.Told.{WhereTold-refl, WhereTold-map, WhereTold-then}
use Rattle.session_text.specs.declared.reply.Reply.{Reply}
use Rattle.txn_grammar.specs.Characters.{Text}
use Rattle.docc_prepare.specs.Calls.{Known, Call, Answer}
use Rattle.session_core.specs.declared.session.Session.{Session}
use Rattle.session_core.specs.declared.turn.Turn.{Turn}
use Rattle.session_core.specs.Holding.{Attends}
use Rattle.script_runner.specs.Play.{left}
use Rattle.script_runner.specs.declared.stop.TheConstants.{MOST_LINES}
use Rattle.diamond_server.specs.declared.status.Cause.TheVariants as cause
use Rattle.diamond_server.specs.Talking.{Told, Answers, Talks, AreInOrder, turn_text, is_over, first_session, reply_line, reply_lines, printed, output, line_told}
use Rattle.diamond_server.specs.Talking.{MayBegin}
use Rattle.diamond_server.specs.Promises.{HasRead, ReadsToTheEnd, ReadsUpToAFault, ReadsOneMore, ReadsNext, TakesPart, TakesWhole, IsServed, IsCutShort}
use Rattle.diamond_server.specs.code.Serving.{Stop, HoldsBack, CutsOff, Settles, Finds, BreaksOffIn, FindsLine, Replies, StopsBy, text_of, kept, DoesLine}
use Rattle.diamond_server.specs.code.Serving.{at_most}
use Rattle.diamond_server.specs.code.Serving.{FindsNone, StopsIn, DoesUnheard, Turns, HasServed, Ends}
use Rattle.diamond_server.proofs.CutShort.{cut-accounted, met-none}
use Rattle.diamond_server.proofs.Held.{holds-same, holds-then, holds-more, holds-none, cuts-then, cuts-held, next-none, reads-none, reads-line}
use Rattle.diamond_server.proofs.Talked.{output-more, talk-accounted, talk-ordered, order-on, ordered-in}

-- ---- texts

-- one reply more adds its line
pub lines-push : (rs : List Reply) (r : Reply) → reply_lines (rs ++ r ∷ []) ≡ reply_lines rs ++ reply_line r
lines-push [] r = append-nil (reply_line r)
lines-push (x ∷ rs) r = ap (λ rest. reply_line x ++ rest) (lines-push rs r) ∙ sym (append_assoc (reply_line x) (reply_lines rs) (reply_line r))

-- ---- reading

-- a line of which it is told is there
takes-first : (told : Told) (all rest : Text) → LineAnswers (line_told told) all rest → TakesFirst (line_told told) all rest
takes-first Told.long all rest takes = takes
takes-first (Told.answered text said) all rest takes = takes

-- one line more was read
read-more : (tolds : List Told) (told : Told) (all mid rest : Text) → HasRead tolds all mid → LineAnswers (line_told told) mid rest
    → HasRead (tolds ++ told ∷ []) all rest
read-more tolds told all mid rest past takes =
    let first = takes-first told mid rest takes in record {
      raws = past.raws ++ first.raw ∷ [];
      read = past.read ∙ ap (λ ls. past.raws ++ ls) first.first.0 ∙ sym (append_assoc past.raws (first.raw ∷ []) (lines rest));
      cut =
          map-append cut_of past.raws (first.raw ∷ [])
          ∙ ap (λ ls. ls ++ cut_of first.raw ∷ []) past.cut
          ∙ ap (λ (l : Line). map line_told tolds ++ l ∷ []) (sym first.answered)
          ∙ sym (map-append line_told tolds (told ∷ []));
    }

-- a line that is there
some-first : (l : Line) (all rest : Text) → (l ≡ line.End → ⊥) → LineAnswers l all rest → TakesFirst l all rest
some-first line.End all rest some takes = absurd (some refl)
some-first (line.Bytes bytes) all rest some takes = takes
some-first line.TooLong all rest some takes = takes

-- the result that is an error
abbrev pub error : Stop → Result Line Stop
error e = Err e

-- the result that is none
abbrev pub going : Bool → Result Bool Stop
going b = Ok b

-- what is held back where no line was found
none-then : {B : Type 0} (old : B) (x : Both) (held : Text) (new : B) (y z : Both) (mid after : Text) → FindsNone old x held new y mid → z.inwards ≡ y.inwards
    → HoldsBack y.outwards mid z.outwards after → FindsNone old x held new z after
none-then old x held new y z mid after none same on = record {
  left = subst (λ (i : Incoming). WhereTold (λ all rest. (all ≡ []) × (rest ≡ [])) x.inwards.left i.left) (sym same) none.left;
  reads = ap (λ (i : Incoming). i.faults) same ∙ none.reads;
  holds = holds-then x.outwards y.outwards z.outwards held mid after none.holds on;
  backend = none.backend;
}

module _ {B : Type 0} (known : B → Known) (goes : B → Call → Answer → B → Type 0) where
  -- ---- a line, and what becomes of its answer

  -- what is held back behind a line that was done
  does-then : (old : B) (s : Session) (x : Both) (held : Text) (new : B) (o : Option Session) (y z : Both) (mid after : Text)
      → DoesLine known goes old s x held new o y mid → z.inwards ≡ y.inwards → HoldsBack y.outwards mid z.outwards after
      → DoesLine known goes old s x held new o z after
  does-then old s x held new o y z mid after turn same on = record {
    told = turn.told;
    does = turn.does;
    read = subst (λ (i : Incoming). TakesLine (line_told turn.told) x.inwards.left i.left) (sym same) turn.read;
    reads = ap (λ (i : Incoming). i.faults) same ∙ turn.reads;
    holds = holds-then x.outwards y.outwards z.outwards (held ++ printed turn.told) mid after turn.holds on;
  }

  -- a turn that stopped, and then nothing more was read
  stops-then : (old : B) (s : Session) (x : Both) (new : B) (y z : Both) → StopsIn known goes old s x new y → z.inwards ≡ y.inwards
      → StopsIn known goes old s x new z
  stops-then old s x new y z stops same = record {
    begun = stops.begun;
    begins = stops.begins;
    read = subst (λ (i : Incoming). WhereTold (ReadsNext stops.begun) x.inwards.left i.left) (sym same) stops.read;
    reads = ap (λ (i : Incoming). i.faults) same ∙ stops.reads;
  }

  -- a line that was done, whose answer was cut off
  unheard-then : (old : B) (s : Session) (x : Both) (held : Text) (new : B) (o : Option Session) (y z : Both) (mid : Text)
      → DoesLine known goes old s x held new o y mid → z.inwards ≡ y.inwards → CutsOff y.outwards mid z.outwards
      → DoesUnheard known goes old s x held new z
  unheard-then old s x held new o y z mid turn same cuts = record {
    session = o;
    told = turn.told;
    does = turn.does;
    read = subst (λ (i : Incoming). TakesLine (line_told turn.told) x.inwards.left i.left) (sym same) turn.read;
    reads = ap (λ (i : Incoming). i.faults) same ∙ turn.reads;
    cuts = cuts-then x.outwards y.outwards z.outwards (held ++ printed turn.told) mid turn.holds cuts;
  }

  -- what was cut off stays so where nothing is held back behind it
  cut-then : (old : B) (s : Session) (x : Both) (held : Text) (new : B) (y z : Both) (mid after : Text)
      → (StopsIn known goes old s x new y × CutsOff x.outwards held y.outwards) ⊎ DoesUnheard known goes old s x held new y → z.inwards ≡ y.inwards
      → mid ≡ [] → HoldsBack y.outwards mid z.outwards after
      → (StopsIn known goes old s x new z × CutsOff x.outwards held z.outwards) ⊎ DoesUnheard known goes old s x held new z
  cut-then old s x held new y z mid after (inl stopped) same empty on =
      inl (stops-then old s x new y z stopped.0 same, cuts-held x.outwards y.outwards z.outwards held mid after stopped.1 empty on)
  cut-then old s x held new y z mid after (inr turn) same empty on = inr (record {
    session = turn.session;
    told = turn.told;
    does = turn.does;
    read = subst (λ (i : Incoming). TakesLine (line_told turn.told) x.inwards.left i.left) (sym same) turn.read;
    reads = ap (λ (i : Incoming). i.faults) same ∙ turn.reads;
    cuts = cuts-held x.outwards y.outwards z.outwards (held ++ printed turn.told) mid after turn.cuts empty on;
  })

  -- the same of a line that was done, or a fault, or none
  turn-then : (old : B) (s : Session) (x : Both) (held : Text) (new : B) (t : Session) (y z : Both) (mid after : Text) (outcome : Result Bool Stop)
      → Turns known goes outcome old s x held new t y mid → z.inwards ≡ y.inwards → (mid ≡ [] → after ≡ []) → HoldsBack y.outwards mid z.outwards after
      → Turns known goes outcome old s x held new t z after
  turn-then old s x held new t y z mid after (Ok true) turn same none on = does-then old s x held new (Some t) y z mid after turn same on
  turn-then old s x held new t y z mid after (Ok false) (inl found) same none on = inl (none-then old x held new y z mid after found same on)
  turn-then old s x held new t y z mid after (Ok false) (inr turn) same none on = inr (does-then old s x held new None y z mid after turn same on)
  turn-then old s x held new t y z mid after (Err stop.NoMemory) turn same none on =
      (stops-then old s x new y z turn.0 same, holds-then x.outwards y.outwards z.outwards held mid after turn.1 on, turn.2)
  turn-then old s x held new t y z mid after (Err (stop.Cause cause.ReadFault)) turn same none on = (
    record {
      breaks = subst (λ (i : Incoming). BreaksOff x.inwards.left i.left) (sym same) turn.0.breaks;
      reads = subst (λ (i : Incoming). Rose x.inwards.faults i.faults) (sym same) turn.0.reads;
      holds = holds-then x.outwards y.outwards z.outwards held mid after turn.0.holds on;
      emptied = none turn.0.emptied;
    },
    turn.1,
  )
  turn-then old s x held new t y z mid after (Err (stop.Cause cause.WriteFault)) turn same none on =
      (none turn.0, cut-then old s x held new y z mid after turn.1 same turn.0 on)
  turn-then old s x held new t y z mid after (Err (stop.Cause cause.StoreFault)) turn same none on = (
    stops-then old s x new y z turn.0 same,
    holds-then x.outwards y.outwards z.outwards held mid after turn.1 on,
    turn.2,
  )
  turn-then old s x held new t y z mid after (Err (stop.Cause cause.TooManyLines)) turn same none on = absurd turn

  -- where what was held back could not be written, the line was done or begun, or there was none
  turn-failed : (old : B) (s : Session) (x : Both) (held : Text) (new : B) (t : Session) (y z : Both) (mid : Text) (outcome : Result Bool Stop)
      → Turns known goes outcome old s x held new t y mid → z.inwards ≡ y.inwards → (mid ≡ [] → ⊥) → CutsOff y.outwards mid z.outwards
      → (StopsIn known goes old s x new z × CutsOff x.outwards held z.outwards) ⊎ DoesUnheard known goes old s x held new z
  turn-failed old s x held new t y z mid (Ok true) turn same some cuts = inr (unheard-then old s x held new (Some t) y z mid turn same cuts)
  turn-failed old s x held new t y z mid (Ok false) (inl none) same some cuts = inl (
    stops-then old s x new y z (record {
      begun = None;
      begins = none.backend;
      read = WhereTold-map x.inwards.left y.inwards.left (λ all rest at. record { first = tt; past = []; cut = at.0 ∙ sym at.1 }) none.left;
      reads = none.reads;
    }) same,
    cuts-then x.outwards y.outwards z.outwards held mid none.holds cuts,
  )
  turn-failed old s x held new t y z mid (Ok false) (inr turn) same some cuts = inr (unheard-then old s x held new None y z mid turn same cuts)
  turn-failed old s x held new t y z mid (Err stop.NoMemory) turn same some cuts =
      inl (stops-then old s x new y z turn.0 same, cuts-then x.outwards y.outwards z.outwards held mid turn.1 cuts)
  turn-failed old s x held new t y z mid (Err (stop.Cause cause.ReadFault)) turn same some cuts = absurd (some turn.0.emptied)
  turn-failed old s x held new t y z mid (Err (stop.Cause cause.WriteFault)) turn same some cuts = absurd (some turn.0)
  turn-failed old s x held new t y z mid (Err (stop.Cause cause.StoreFault)) turn same some cuts =
      inl (stops-then old s x new y z turn.0 same, cuts-then x.outwards y.outwards z.outwards held mid turn.1 cuts)
  turn-failed old s x held new t y z mid (Err (stop.Cause cause.TooManyLines)) turn same some cuts = absurd turn

  -- ---- what a line comes to

  -- a turn whose text is held back behind what was
  pub turn-replies : (old : B) (s : Session) (text bytes : Text) (said : Turn) (new : B) (t : Session) (x y : Outgoing) (held mid after : Text) (on : Bool)
      → length text ≤ LONGEST_LINE → bytes ≡ text → Answers known goes old s bytes said new t → HoldsBack x held y mid → after ≡ mid ++ turn_text said
      → ((s : Session) → left s said ≡ kept on s) → Replies known goes old s (line.Bytes text) x held on new t y after
  turn-replies old s text bytes said new t x y held mid after on short same answers holds more goes_on = record {
    told = Told.answered text said;
    line_is = refl;
    does = record {
      short = short;
      after = t;
      answers = subst (λ (z : Text). Answers known goes old s z said new t) same answers;
      goes_on = sym (goes_on t);
    };
    holds = subst (λ (bytes : Text). HoldsBack x (held ++ turn_text said) y bytes) (sym more) (holds-more x y held mid (turn_text said) holds);
  }

  -- a refusal is
  pub refusal-replies : (old : B) (s : Session) (l : Line) (x : Outgoing) (held after : Text) → line.TooLong ≡ l → after ≡ held ++ printed Told.long
      → Replies known goes old s l x held true old s x after
  refusal-replies old s l x held after is more = record {
    told = Told.long;
    line_is = is;
    does = (refl, refl);
    holds = subst (λ (bytes : Text). HoldsBack x (held ++ printed Told.long) x bytes) (sym more) (holds-same x (held ++ printed Told.long));
  }

  -- none was found
  pub turn-none : (old : B) (s : Session) (l : Line) (x y : Both) (held after : Text) → l ≡ line.End → Finds l x held y after
      → Turns known goes (Ok false) old s x held old s y after
  turn-none old s l x y held after end found = inl (record {
    left = subst (λ (l : Line). TakesLine l x.inwards.left y.inwards.left) end found.read;
    reads = found.reads;
    holds = found.holds;
    backend = refl;
  })

  -- a look for it stopped
  pub turn-unfound : (old : B) (s : Session) (e : Stop) (x y : Both) (held after : Text) → FindsLine (error e) x held y after
      → Turns known goes (Err e) old s x held old s y after
  turn-unfound old s stop.NoMemory x y held after found =
      (record { begun = None; begins = refl; read = found.read; reads = found.reads }, found.holds, refl)
  turn-unfound old s (stop.Cause cause.ReadFault) x y held after found = (found, refl)
  turn-unfound old s (stop.Cause cause.WriteFault) x y held after found = (
    found.emptied,
    inl (
      record {
        begun = None;
        begins = refl;
        read = reads-none x.inwards.left y.inwards.left found.read;
        reads = found.reads;
      },
      found.cuts,
    ),
  )
  turn-unfound old s (stop.Cause cause.StoreFault) x y held after found = absurd found
  turn-unfound old s (stop.Cause cause.TooManyLines) x y held after found = absurd found

  -- it was answered
  does-replied : (old : B) (s : Session) (l : Line) (x m y : Both) (held mid after : Text) (on : Bool) (new : B) (t : Session) → Finds l x held m mid
      → y.inwards ≡ m.inwards → Replies known goes old s l m.outwards mid on new t y.outwards after
      → DoesLine known goes old s x held new (kept on t) y after
  does-replied old s l x m y held mid after on new t found same replies = record {
    told = replies.told;
    does = replies.does;
    read = subst (λ (l : Line). TakesLine l x.inwards.left y.inwards.left) (sym replies.line_is)
        (subst (λ (i : Incoming). TakesLine l x.inwards.left i.left) (sym same) found.read);
    reads = ap (λ (i : Incoming). i.faults) same ∙ found.reads;
    holds = holds-then x.outwards m.outwards y.outwards (held ++ printed replies.told) (mid ++ printed replies.told) after
        (holds-more x.outwards m.outwards held mid (printed replies.told) found.holds) replies.holds;
  }

  -- and the session goes on or not
  turn-replied : (old : B) (s : Session) (l : Line) (x m y : Both) (held mid after : Text) (on : Bool) (new : B) (t : Session) → Finds l x held m mid
      → y.inwards ≡ m.inwards → Replies known goes old s l m.outwards mid on new t y.outwards after
      → Turns known goes (Ok on) old s x held new t y after
  turn-replied old s l x m y held mid after true new t found same replies = does-replied old s l x m y held mid after true new t found same replies
  turn-replied old s l x m y held mid after false new t found same replies =
      inr (does-replied old s l x m y held mid after false new t found same replies)

  -- it was not answered
  turn-refused : (old : B) (s : Session) (l : Line) (x m y : Both) (held mid after : Text) (e : Stop) (new : B) (t : Session) → Finds l x held m mid
      → y.inwards ≡ m.inwards
      → StopsBy e (MayBegin known goes old (Some s) (text_of l) new) (known old).faults (known new).faults m.outwards mid y.outwards after
      → Turns known goes (Err e) old s x held new t y after
  turn-refused old s l x m y held mid after e new t found same = by e
    where
      stopped : MayBegin known goes old (Some s) (text_of l) new → StopsIn known goes old s x new y
      stopped begins = record {
        begun = text_of l;
        begins = begins;
        read = subst (λ (i : Incoming). WhereTold (ReadsNext (text_of l)) x.inwards.left i.left) (sym same)
            (reads-line l x.inwards.left m.inwards.left found.read);
        reads = ap (λ (i : Incoming). i.faults) same ∙ found.reads;
      }

      by : (e : Stop) → StopsBy e (MayBegin known goes old (Some s) (text_of l) new) (known old).faults (known new).faults m.outwards mid y.outwards after
          → Turns known goes (Err e) old s x held new t y after
      by stop.NoMemory stops =
          (stopped stops.0, holds-then x.outwards m.outwards y.outwards held mid after found.holds stops.1, stops.2)
      by (stop.Cause cause.ReadFault) stops = absurd stops
      by (stop.Cause cause.WriteFault) stops =
          (stops.2, inl (stopped stops.0, cuts-then x.outwards m.outwards y.outwards held mid found.holds stops.1))
      by (stop.Cause cause.StoreFault) stops =
          (stopped stops.0, holds-then x.outwards m.outwards y.outwards held mid after found.holds stops.1, stops.2)
      by (stop.Cause cause.TooManyLines) stops = absurd stops

  -- whatever it was answered
  pub turn-answered : (old : B) (s : Session) (l : Line) (x m y : Both) (held mid after : Text) (r : Result Bool Stop) (new : B) (t : Session)
      → Finds l x held m mid → y.inwards ≡ m.inwards
      → IfOk r (λ on. Replies known goes old s l m.outwards mid on new t y.outwards after)
      → IfErr r (λ e. StopsBy e (MayBegin known goes old (Some s) (text_of l) new) (known old).faults (known new).faults m.outwards mid y.outwards after)
      → Turns known goes r old s x held new t y after
  turn-answered old s l x m y held mid after (Ok on) new t found same replies stops =
      turn-replied old s l x m y held mid after on new t found same replies
  turn-answered old s l x m y held mid after (Err e) new t found same replies stops =
      turn-refused old s l x m y held mid after e new t found same stops

  -- a turn stays one behind what becomes of what is held back
  pub turn-settles : (old : B) (s : Session) (x : Both) (held : Text) (new : B) (t : Session) (y z : Both) (mid after : Text) (outcome result : Result Bool Stop)
      → Turns known goes outcome old s x held new t y mid → z.inwards ≡ y.inwards → Settles outcome result y.outwards mid z.outwards after
      → Turns known goes result old s x held new t z after
  turn-settles old s x held new t y z mid after outcome result turn same (inl stands) =
      subst (λ (r : Result Bool Stop). Turns known goes r old s x held new t z after) (sym stands.is)
      (turn-then old s x held new t y z mid after outcome turn same stands.emptied stands.holds)
  turn-settles old s x held new t y z mid after outcome result turn same (inr failed) =
      subst (λ (r : Result Bool Stop). Turns known goes r old s x held new t z after) (sym failed.is)
      (failed.emptied, turn-failed old s x held new t y z mid outcome turn same failed.some failed.cuts)

module _ {B : Type 0} {known : B → Known} {goes : B → Call → Answer → B → Type 0} where
  -- ---- lines

  -- nothing was read yet
  first-serves : (old : B) (x : Both) → HasServed known goes 0 old x old (first_session (known old)) x []
  first-serves old x = record {
    tolds = [];
    talks = Talks.silent;
    many = refl;
    read = WhereTold-refl (HasRead []) x.inwards.left (λ all. record { raws = []; read = refl; cut = refl });
    reads = refl;
    holds = holds-same x.outwards [];
  }

  -- the same of the session that a new one is
  pub serves-none : {old : B} {x : Both} {s : Session} {held : Text} → s ≡ first_session (known old) → held ≡ []
      → HasServed known goes 0 old x old s x held
  serves-none {old = old} {x = x} {s = s} first none = subst (λ (held : Text). HasServed known goes 0 old x old s x held) (sym none)
      (subst (λ (s : Session). HasServed known goes 0 old x old s x []) (sym first) (first-serves old x))

  module _ {n : ℕ} {old : B} {x : Both} {now : B} {s : Session} {y : Both} {held : Text} (past : HasServed known goes n old x now s y held) where
    -- a line more
    talks-on : (new : B) (o : Option Session) (z : Both) (after : Text) (turn : DoesLine known goes now s y held new o z after)
        → Talks known goes old (first_session (known old)) (past.tolds ++ turn.told ∷ []) new o
    talks-on new o z after turn = Talks.says turn.told past.talks turn.does refl

    many-on : (new : B) (o : Option Session) (z : Both) (after : Text) (turn : DoesLine known goes now s y held new o z after)
        → length (past.tolds ++ turn.told ∷ []) ≡ n + 1
    many-on new o z after turn = length-append past.tolds (turn.told ∷ []) ∙ ap (λ k. k + 1) past.many

    read-on : (new : B) (o : Option Session) (z : Both) (after : Text) (turn : DoesLine known goes now s y held new o z after)
        → WhereTold (HasRead (past.tolds ++ turn.told ∷ [])) x.inwards.left z.inwards.left
    read-on new o z after turn =
        WhereTold-then x.inwards.left y.inwards.left z.inwards.left (read-more past.tolds turn.told) past.read turn.read

    holds-on : (new : B) (o : Option Session) (z : Both) (after : Text) (turn : DoesLine known goes now s y held new o z after)
        → HoldsBack x.outwards (output (past.tolds ++ turn.told ∷ [])) z.outwards after
    holds-on new o z after turn =
        subst (λ (bytes : Text). HoldsBack x.outwards bytes z.outwards after) (sym (output-more past.tolds turn.told))
        (holds-then x.outwards y.outwards z.outwards (output past.tolds ++ printed turn.told) (held ++ printed turn.told) after
        (holds-more x.outwards y.outwards (output past.tolds) held (printed turn.told) past.holds) turn.holds)

    does-more : (new : B) (t : Session) (z : Both) (after : Text) → DoesLine known goes now s y held new (Some t) z after
        → HasServed known goes (n + 1) old x new t z after
    does-more new t z after turn = record {
      tolds = past.tolds ++ turn.told ∷ [];
      talks = talks-on new (Some t) z after turn;
      many = many-on new (Some t) z after turn;
      read = read-on new (Some t) z after turn;
      reads = turn.reads ∙ past.reads;
      holds = holds-on new (Some t) z after turn;
    }

    -- a turn behind which another may follow
    pub serves-more : {b : Bool} {new : B} {t : Session} {z : Both} {after : Text} → b ≡ true → Turns known goes (Ok b) now s y held new t z after
        → HasServed known goes (n + 1) old x new t z after
    serves-more {new = new} {t = t} {z = z} {after = after} more turn =
        does-more new t z after (subst (λ (b : Bool). Turns known goes (Ok b) now s y held new t z after) more turn)

    module _ (is : Attends (known old) (first_session (known old))) where
      -- a line ended the session
      served-quit : (new : B) (z : Both) (after : Text) → n < MOST_LINES → after ≡ [] → DoesLine known goes now s y held new None z after
          → IsServed known goes old new x z ReadsToTheEnd
      served-quit new z after few none turn =
          let talks = talks-on new None z after turn in
          let holds = holds-on new None z after turn in
          let ordered = talk-ordered known goes old (first_session (known old)) (past.tolds ++ turn.told ∷ []) new None talks in record {
            tolds = past.tolds ++ turn.told ∷ [];
            session = None;
            talks = talks;
            accounted = talk-accounted known goes old new (past.tolds ++ turn.told ∷ []) None is talks;
            heard = record {
              few = (let many = many-on new None z after turn in omega arith);
              in_order = ordered.0;
              reads = WhereTold-map x.inwards.left z.inwards.left (λ all rest read. record { read = read; ended = inr ordered.1 })
                  (read-on new None z after turn);
              taken = holds-none x.outwards z.outwards (output (past.tolds ++ turn.told ∷ [])) after none holds;
              flushed = holds.flushed;
            };
          }

      -- the lines so far are in order, and none has ended the session
      past-order : AreInOrder past.tolds × (is_over past.tolds ≡ false)
      past-order = order-on past.tolds (talk-ordered known goes old (first_session (known old)) past.tolds now (Some s) past.talks)

      -- and the store has not failed in them
      past-unfaulted : (known now).faults ≡ (known old).faults
      past-unfaulted = (talk-accounted known goes old now past.tolds (Some s) is past.talks).faults

      -- nothing more was done, and what was held back was passed on
      served-so-far : (new : B) (z : Both) (after : Text) (Reads : List Told → Text → Text → Type 0) → n ≤ MOST_LINES → new ≡ now
          → after ≡ [] → HoldsBack y.outwards held z.outwards after → WhereTold (Reads past.tolds) x.inwards.left z.inwards.left
          → IsServed known goes old new x z Reads
      served-so-far new z after Reads few same none on reads =
          let talks = subst (λ (b : B). Talks known goes old (first_session (known old)) past.tolds b (Some s)) (sym same) past.talks in
          let holds = holds-then x.outwards y.outwards z.outwards (output past.tolds) held after past.holds on in record {
            tolds = past.tolds;
            session = Some s;
            talks = talks;
            accounted = talk-accounted known goes old new past.tolds (Some s) is talks;
            heard = record {
              few = (let many = past.many in omega arith);
              in_order = past-order.0;
              reads = reads;
              taken = holds-none x.outwards z.outwards (output past.tolds) after none holds;
              flushed = holds.flushed;
            };
          }

      -- the input ended
      reads-ended : (left : Option Text) → WhereTold (λ all rest. (all ≡ []) × (rest ≡ [])) y.inwards.left left
          → WhereTold (ReadsToTheEnd past.tolds) x.inwards.left left
      reads-ended left none = WhereTold-then x.inwards.left y.inwards.left left (λ all mid rest read at.
          record { read = subst (HasRead past.tolds all) (at.0 ∙ sym at.1) read; ended = inl at.1 }) past.read none

      served-ended : (new : B) (z : Both) (after : Text) → n ≤ MOST_LINES → after ≡ [] → FindsNone now y held new z after
          → IsServed known goes old new x z ReadsToTheEnd
      served-ended new z after few none found =
          served-so-far new z after ReadsToTheEnd few found.backend none found.holds (reads-ended z.inwards.left found.left)

      -- a line broke off
      reads-broken : (left : Option Text) → BreaksOff y.inwards.left left → WhereTold (ReadsUpToAFault past.tolds) x.inwards.left left
      reads-broken left off = WhereTold-then x.inwards.left y.inwards.left left (λ all mid rest read begun.
          record { broken = mid; read = read; breaks = (off.0, off.1, off.2, begun); on = past-order.1 }) past.read off.3

      served-broken : (new : B) (z : Both) (after : Text) → n ≤ MOST_LINES → new ≡ now → BreaksOffIn y held z after
          → IsServed known goes old new x z ReadsUpToAFault
      served-broken new z after few same off =
          served-so-far new z after ReadsUpToAFault few same off.emptied off.holds (reads-broken z.inwards.left off.breaks)

      -- one line more was read
      reads-over : (left : Option Text) (l : Line) → n ≡ MOST_LINES → (l ≡ line.End → ⊥) → TakesLine l y.inwards.left left
          → WhereTold (ReadsOneMore past.tolds) x.inwards.left left
      reads-over left l most some takes = WhereTold-then x.inwards.left y.inwards.left left (λ all mid rest read takes.
          let first = some-first l mid rest some takes in
          record { most = past.many ∙ most; behind = mid; next = first.raw; read = read; more = first.first.0; on = past-order.1 }) past.read takes

      -- ---- what is cut short

      -- the lines so far, and then a turn that stopped
      cut-in : (new : B) (z : Both) (Takes : List Told → Outgoing → Outgoing → Type 0) (stopped : StopsIn known goes now s y new z) → n ≤ MOST_LINES
          → Takes past.tolds x.outwards z.outwards → IsCutShort known goes (known new) old new x z Takes
      cut-in new z Takes stopped few taken = record {
        tolds = past.tolds;
        begun = stopped.begun;
        there = now;
        session = Some s;
        talks = past.talks;
        behind = stopped.begins;
        accounted = cut-accounted known goes old now new (known new) past.tolds (Some s) stopped.begun is past.talks stopped.begins
            (met-none (known new));
        few = (let many = past.many in omega arith);
        in_order = past-order.0;
        reads = WhereTold-then x.inwards.left y.inwards.left z.inwards.left
            (λ all mid rest read next. record { behind = mid; read = read; next = next }) past.read stopped.read;
        taken = taken;
      }

      -- what was held back was taken
      cut-whole : (new : B) (z : Both) (after : Text) → n ≤ MOST_LINES → after ≡ [] → StopsIn known goes now s y new z
          → HoldsBack y.outwards held z.outwards after → IsCutShort known goes (known new) old new x z TakesWhole
      cut-whole new z after few none stopped on =
          let holds = holds-then x.outwards y.outwards z.outwards (output past.tolds) held after past.holds on in
          cut-in new z TakesWhole stopped few
          (record { taken = holds-none x.outwards z.outwards (output past.tolds) after none holds; flushed = holds.flushed })

      -- or some first bytes of it
      cut-part : (new : B) (z : Both) → n ≤ MOST_LINES → StopsIn known goes now s y new z → CutsOff y.outwards held z.outwards
          → IsCutShort known goes (known new) old new x z TakesPart
      cut-part new z few stopped cuts =
          cut-in new z TakesPart stopped few (cuts-then x.outwards y.outwards z.outwards (output past.tolds) held past.holds cuts).part

      -- the lines so far, and one more whose answer was cut off
      cut-unheard : (new : B) (z : Both) → n < MOST_LINES → DoesUnheard known goes now s y held new z
          → IsCutShort known goes (known new) old new x z TakesPart
      cut-unheard new z few turn =
          let talks : Talks known goes old (first_session (known old)) (past.tolds ++ turn.told ∷ []) new turn.session =
          Talks.says turn.told past.talks turn.does refl in
          let cuts = cuts-then x.outwards y.outwards z.outwards (output past.tolds ++ printed turn.told) (held ++ printed turn.told)
          (holds-more x.outwards y.outwards (output past.tolds) held (printed turn.told) past.holds) turn.cuts in record {
            tolds = past.tolds ++ turn.told ∷ [];
            begun = None;
            there = new;
            session = turn.session;
            talks = talks;
            behind = refl;
            accounted = cut-accounted known goes old new new (known new) (past.tolds ++ turn.told ∷ []) turn.session None is talks refl
                (met-none (known new));
            few = (let many = length-append past.tolds (turn.told ∷ []) ∙ ap (λ k. k + 1) past.many in omega arith);
            in_order = ordered-in (past.tolds ++ turn.told ∷ []) turn.session
                (talk-ordered known goes old (first_session (known old)) (past.tolds ++ turn.told ∷ []) new turn.session talks);
            reads = WhereTold-map x.inwards.left z.inwards.left (λ all rest read. record { behind = rest; read = read; next = next-none rest })
                (WhereTold-then x.inwards.left y.inwards.left z.inwards.left (read-more past.tolds turn.told) past.read turn.read);
            taken = subst (λ (bytes : Text). TakesPrefix bytes x.outwards.taken z.outwards.taken) (sym (output-more past.tolds turn.told)) cuts.part;
          }

      -- either way
      cut-off : (new : B) (z : Both) → n < MOST_LINES
          → (StopsIn known goes now s y new z × CutsOff y.outwards held z.outwards) ⊎ DoesUnheard known goes now s y held new z
          → IsCutShort known goes (known new) old new x z TakesPart × (z.inwards.faults ≡ x.inwards.faults) × Rose x.outwards.faults z.outwards.faults
      cut-off new z few (inl stopped) = (
        cut-part new z (omega arith) stopped.0 stopped.1,
        stopped.0.reads ∙ past.reads,
        subst (λ (m : ℕ). Rose m z.outwards.faults) past.holds.writes stopped.1.rose,
      )
      cut-off new z few (inr turn) = (
        cut-unheard new z few turn,
        turn.reads ∙ past.reads,
        subst (λ (m : ℕ). Rose m z.outwards.faults) past.holds.writes turn.cuts.rose,
      )

      -- ---- how the lines end

      -- a turn stopped
      pub ends-stopped : (new : B) (t : Session) (z : Both) (after : Text) (e : Stop) → n < MOST_LINES → after ≡ []
          → Turns known goes (Err e) now s y held new t z after → Ends known goes (Err e) old x new z
      ends-stopped new t z after stop.NoMemory few none turn = (
        cut-whole new z after (omega arith) none turn.0 turn.1,
        (turn.0.reads ∙ past.reads, turn.1.writes ∙ past.holds.writes),
        turn.2 ∙ past-unfaulted,
      )
      ends-stopped new t z after (stop.Cause cause.ReadFault) few none turn = (
        served-broken new z after (omega arith) turn.1 turn.0,
        subst (λ (m : ℕ). Rose m z.inwards.faults) past.reads turn.0.reads,
        turn.0.holds.writes ∙ past.holds.writes,
      )
      ends-stopped new t z after (stop.Cause cause.WriteFault) few none turn = cut-off new z few turn.1
      ends-stopped new t z after (stop.Cause cause.StoreFault) few none turn = (
        cut-whole new z after (omega arith) none turn.0 turn.1,
        (turn.0.reads ∙ past.reads, turn.1.writes ∙ past.holds.writes),
        subst (λ (m : ℕ). Rose m (known new).faults) past-unfaulted turn.2,
      )
      ends-stopped new t z after (stop.Cause cause.TooManyLines) few none turn = absurd turn

      -- a turn was the last
      last-whole : (new : B) (z : Both) (after : Text) → n < MOST_LINES → after ≡ []
          → FindsNone now y held new z after ⊎ DoesLine known goes now s y held new None z after → Ends known goes (Ok tt) old x new z
      last-whole new z after few none (inl found) =
          (served-ended new z after (omega arith) none found, (found.reads ∙ past.reads, found.holds.writes ∙ past.holds.writes))
      last-whole new z after few none (inr turn) =
          (served-quit new z after few none turn, (turn.reads ∙ past.reads, turn.holds.writes ∙ past.holds.writes))

      -- the same of its answer
      pub ends-whole : {b : Bool} {new : B} (t : Session) {z : Both} {after : Text} → n < MOST_LINES → b ≡ false
          → ((going b ≡ Ok true → ⊥) → after ≡ []) → Turns known goes (Ok b) now s y held new t z after → Ends known goes (Ok tt) old x new z
      ends-whole {b = b} {new = new} t {z = z} {after = after} few last emptied turn =
          last-whole new z after few (emptied (λ is. let no : true ≡ false = cc in absurd (cc)))
          (subst (λ (b : Bool). Turns known goes (Ok b) now s y held new t z after) last turn)

      -- the input ended behind the last line that may be read
      ends-at_most : {l : Line} {z : Both} {after : Text} → n ≡ MOST_LINES → after ≡ [] → l ≡ line.End → Finds l y held z after
          → Ends known goes (Ok tt) old x now z
      ends-at_most {z = z} {after = after} most none end found = (
        served-ended now z after (omega arith) none (record {
          left = subst (λ (l : Line). TakesLine l y.inwards.left z.inwards.left) end found.read;
          reads = found.reads;
          holds = found.holds;
          backend = refl;
        }),
        (found.reads ∙ past.reads, found.holds.writes ∙ past.holds.writes),
      )

      -- there is one line more
      ends-over : {l : Line} {z : Both} {after : Text} → n ≡ MOST_LINES → after ≡ [] → (l ≡ line.End → ⊥) → Finds l y held z after
          → Ends known goes (Err (stop.Cause cause.TooManyLines)) old x now z
      ends-over {l = l} {z = z} {after = after} most none some found = (
        served-so-far now z after ReadsOneMore (omega arith) refl none found.holds (reads-over z.inwards.left l most some found.read),
        (found.reads ∙ past.reads, found.holds.writes ∙ past.holds.writes),
      )

      -- one or the other
      pub ends-behind : {r : Result (Unit {0}) Stop} (l : Line) {z : Both} {after : Text} → r ≡ at_most l → n ≡ MOST_LINES → after ≡ []
          → Finds l y held z after → Ends known goes r old x now z
      ends-behind {r = r} l {z = z} {after = after} is most none found =
          subst (λ (r : Result (Unit {0}) Stop). Ends known goes r old x now z) (sym is) (by l found)
        where
          by : (l : Line) → Finds l y held z after → Ends known goes (at_most l) old x now z
          by line.End found = ends-at_most most none refl found
          by (line.Bytes text) found = ends-over most none (λ same. let no : ⊥ = cc in no) found
          by line.TooLong found = ends-over most none (λ same. let no : ⊥ = cc in no) found

      -- it broke off
      pub ends-unread : (z : Both) (after : Text) (e : Stop) → n ≡ MOST_LINES → after ≡ [] → FindsLine (error e) y held z after
          → Ends known goes (Err e) old x now z
      ends-unread z after stop.NoMemory most none found = (
        cut-whole now z after (omega arith) none (record { begun = None; begins = refl; read = found.read; reads = found.reads }) found.holds,
        (found.reads ∙ past.reads, found.holds.writes ∙ past.holds.writes),
        past-unfaulted,
      )
      ends-unread z after (stop.Cause cause.ReadFault) most none found = (
        served-broken now z after (omega arith) refl found,
        subst (λ (m : ℕ). Rose m z.inwards.faults) past.reads found.reads,
        found.holds.writes ∙ past.holds.writes,
      )
      ends-unread z after (stop.Cause cause.WriteFault) most none found = (
        cut-part now z (omega arith)
            (record { begun = None; begins = refl; read = reads-none y.inwards.left z.inwards.left found.read; reads = found.reads }) found.cuts,
        found.reads ∙ past.reads,
        subst (λ (m : ℕ). Rose m z.outwards.faults) past.holds.writes found.cuts.rose,
      )
      ends-unread z after (stop.Cause cause.StoreFault) most none found = absurd found
      ends-unread z after (stop.Cause cause.TooManyLines) most none found = absurd found
