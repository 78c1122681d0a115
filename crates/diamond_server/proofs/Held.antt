-- What is held back of a session's output, and what becomes of it.
use Rattle.std.proofs.Common.{◌≡◌, ℕ, ◌+◌, ◌≤◌, ◌⊎◌, Bool, true, false, [], ◌∷◌, ◌++◌, length, take, drop, Option, Some, None, Result, Ok, Err, inl, inr, refl, sym, ap}
use Rattle.std.proofs.Common.{◌∙◌, subst, arith, append_assoc, append-nil, length-append, length-drop, take-append-drop}
use Rattle.std.proofs.lemmas.List.{take_all, drop_all, drop-drop, take-append-le, drop-append-le}
use Rattle.std.specs.Prelude.{not, IfOk, IfErr, OnOk, OnErr}
use Rattle.dio_core.specs.Told.{WhereTold}
use Rattle.dio_core.proofs.Told.{WhereTold-map, WhereTold-same}
use Rattle.dio_core.proofs.Sources.{WhereTold-prefix}
use Rattle.std.specs.Bool.{OnTrue}
use Rattle.plain_data.specs.declared.or_no_memory.OrNoMemory.TheVariants as stop
use Rattle.dio_core.specs.declared.line.Line.{Line}
use Rattle.dio_core.specs.declared.line.Line.TheVariants as line
use Rattle.dio_core.specs.Counts.{Rose, IsCounted}
use Rattle.dio_core.specs.declared.line.TheConstants.{NEWLINE, LONGEST_LINE}
use Rattle.dio_core.specs.Lines.{TakesLine, Answers as LineAnswers, TakesFirst, BreaksOff, IsUnbroken}
use Rattle.dio_core.specs.Links.{Both, Incoming, Outgoing}
use Rattle.dio_core.specs.Sinks.{with_more, TakesPrefix, IsPassedOn}
use Rattle.dio_core.specs.Sources.{with_prefix}
use Rattle.dio_core.proofs.Lines.{TakesLine-ahead}
use Rattle.dio_core.proofs.Sinks.{with_more-take, with_more-nil}
use Rattle.txn_grammar.specs.Characters.{Text}
use Rattle.diamond_server.specs.declared.status.Cause.TheVariants as cause
use Rattle.diamond_server.specs.Promises.{ReadsNext}
use Rattle.diamond_server.specs.code.Serving.{Stop, read_stopped, StopsReading, HoldsBack, CutsOff, PassesOn, Settles, IsAtHand, Finds, LosesLine, LeavesLine, FindsLine, text_of}

-- the result that is an error
abbrev pub write_failed : Result Bool Stop
write_failed = Err (stop.Cause cause.WriteFault)

-- ---- what is held back

-- so many bytes, and then so many of the others, are no more than there are
part-within : (n m : ℕ) (a b : Text) → n ≤ length a → b ≡ drop n a → m ≤ length b → n + m ≤ length a
part-within n m a b first rest second =
    let same = ap length rest in let fewer = length-drop n a in omega (arith, first, second, same, fewer)

-- and were taken
part-taken : (n m : ℕ) (a b : Text) (x y z : Option Text) → y ≡ with_more x (take n a) → b ≡ drop n a → z ≡ with_more y (take m b)
    → z ≡ with_more x (take (n + m) a)
part-taken n m a b x y z first rest second =
    with_more-take n m a x y z first (second ∙ ap (λ (bytes : Text). with_more y (take m bytes)) rest)

-- as it was
pub holds-same : (x : Outgoing) (held : Text) → HoldsBack x held x held
holds-same x held = record {
  part = (0, omega arith, sym (with_more-nil x.taken));
  rest = refl;
  flushed = λ passed. passed;
  writes = refl;
}

-- of a link that is as it was
pub holds-still : (x y : Outgoing) (held : Text) → y ≡ x → HoldsBack x held y held
holds-still x y held same = subst (λ (y : Outgoing). HoldsBack x held y held) (sym same) (holds-same x held)

-- and then
pub holds-then : (x y z : Outgoing) (a b c : Text) → HoldsBack x a y b → HoldsBack y b z c → HoldsBack x a z c
holds-then x y z a b c first second =
    let n = first.part.0 in
    let m = second.part.0 in record {
      part = (
        n + m,
        part-within n m a b first.part.1 first.rest second.part.1,
        part-taken n m a b x.taken y.taken z.taken first.part.2 first.rest second.part.2,
      );
      rest = second.rest ∙ ap (drop m) first.rest ∙ drop-drop m n a;
      flushed = λ passed. second.flushed (first.flushed passed);
      writes = second.writes ∙ first.writes;
    }

-- and then no more was taken than some first bytes
pub cuts-then : (x y z : Outgoing) (a b : Text) → HoldsBack x a y b → CutsOff y b z → CutsOff x a z
cuts-then x y z a b first second =
    let n = first.part.0 in
    let m = second.part.0 in record {
      part = (
        n + m,
        part-within n m a b first.part.1 first.rest second.part.1,
        part-taken n m a b x.taken y.taken z.taken first.part.2 first.rest second.part.2,
      );
      rose = subst (λ (k : ℕ). Rose k z.faults) first.writes second.rose;
    }

-- where nothing was held back behind them, no more than those first bytes were taken
pub cuts-held : (x y z : Outgoing) (a b c : Text) → CutsOff x a y → b ≡ [] → HoldsBack y b z c → CutsOff x a z
cuts-held x y z a b c first none second =
    let few = second.part.1 in
    let short = ap length none in
    let nothing : take second.part.0 b ≡ [] =
    ap (take second.part.0) none ∙ take_all second.part.0 [] (omega arith) in record {
      part = (
        first.part.0,
        first.part.1,
        second.part.2 ∙ ap (with_more y.taken) nothing ∙ with_more-nil y.taken ∙ first.part.2,
      );
      rose = subst (λ (n : ℕ). Rose x.faults n) (sym second.writes) first.rose;
    }

-- with more behind
pub holds-more : (x y : Outgoing) (a b more : Text) → HoldsBack x a y b → HoldsBack x (a ++ more) y (b ++ more)
holds-more x y a b more h =
    let n = h.part.0 in record {
      part = (
        n,
        (let all = length-append a more in let few = h.part.1 in omega (arith, all, few)),
        h.part.2 ∙ ap (with_more x.taken) (sym (take-append-le n a more h.part.1)),
      );
      rest = ap (λ (bytes : Text). bytes ++ more) h.rest ∙ sym (drop-append-le n a more h.part.1);
      flushed = h.flushed;
      writes = h.writes;
    }

-- what is no longer held back has been taken
pub holds-none : (x y : Outgoing) (held after : Text) → after ≡ [] → HoldsBack x held y after → y.taken ≡ with_more x.taken held
holds-none x y held after none h =
    let n = h.part.0 in
    h.part.2
    ∙ ap (with_more x.taken)
    (sym (append-nil (take n held)) ∙ ap (λ (bytes : Text). take n held ++ bytes) (sym none ∙ h.rest) ∙ take-append-drop n held)

-- where nothing was held back, nothing is to be passed on
pub passes-none : (x : Outgoing) (held : Text) → held ≡ [] → PassesOn true x held x
passes-none x held none = subst (λ (bytes : Text). HoldsBack x bytes x []) (sym none) (holds-same x [])

-- a text was written and passed on, or not
passes-all : (b : Bool) (x y : Outgoing) (held : Text) → OnTrue b (y.taken ≡ with_more x.taken held) → TakesPrefix held x.taken y.taken
    → OnTrue b (IsPassedOn y.taken y.passed) → IsCounted (not b) x.faults y.faults → (held ≡ [] → ⊥) → PassesOn b x held y
passes-all true x y held taken part passed writes some = record {
  part = (length held, omega arith, taken ∙ ap (with_more x.taken) (sym (take_all (length held) held (omega arith))));
  rest = sym (drop_all (length held) held (omega arith));
  flushed = λ before. passed;
  writes = writes;
}
passes-all false x y held taken part passed writes some = (some, record { part = part; rose = writes })

-- the text that is what was held back
pub passes-said : (b : Bool) (x y : Outgoing) (held text : Text) → text ≡ held → OnTrue b (y.taken ≡ with_more x.taken text)
    → TakesPrefix text x.taken y.taken → OnTrue b (IsPassedOn y.taken y.passed) → IsCounted (not b) x.faults y.faults → (held ≡ [] → ⊥)
    → PassesOn b x held y
passes-said b x y held text same taken part passed writes some =
    passes-all b x y held (subst (λ (t : Text). OnTrue b (y.taken ≡ with_more x.taken t)) same taken)
    (subst (λ (t : Text). TakesPrefix t x.taken y.taken) same part) passed writes some

-- what was passed on is held back no longer
pub passes-held : (b : Bool) (x y : Outgoing) (held after : Text) → b ≡ true → after ≡ [] → PassesOn b x held y → HoldsBack x held y after
passes-held true x y held after is none h = subst (λ (bytes : Text). HoldsBack x held y bytes) (sym none) h
passes-held false x y held after is none h = absurd (let no : ⊥ = cc in no)

-- or some first bytes of it were
pub passes-cut : (b : Bool) (x y : Outgoing) (held : Text) → b ≡ false → PassesOn b x held y → CutsOff x held y
passes-cut false x y held is h = h.1
passes-cut true x y held is h = absurd (let no : ⊥ = cc in no)

-- ---- behind a line

-- it is held back
pub settles-kept : (outcome : Result Bool Stop) (x : Outgoing) (held : Text) → Settles outcome outcome x held x held
settles-kept outcome x held = inl (record { is = refl; holds = holds-same x held; emptied = λ none. none })

-- or passed on
pub settles-passed : (b : Bool) (outcome : Result Bool Stop) (x y : Outgoing) (held : Text) → b ≡ true → PassesOn b x held y
    → Settles outcome outcome x held y []
settles-passed true outcome x y held is h = inl (record { is = refl; holds = h; emptied = λ none. refl })
settles-passed false outcome x y held is h = absurd (let no : ⊥ = cc in no)

-- or not
pub settles-failed : (b : Bool) (outcome : Result Bool Stop) (x y : Outgoing) (held : Text) → b ≡ false → PassesOn b x held y
    → Settles outcome write_failed x held y []
settles-failed false outcome x y held is h = inr (record { is = refl; some = h.0; cuts = h.1; emptied = refl })
settles-failed true outcome x y held is h = absurd (let no : ⊥ = cc in no)

-- the same of what a link and an outcome have become that are as they were
pub settled-kept : (outcome result : Result Bool Stop) (x y : Outgoing) (held after : Text) → result ≡ outcome → y ≡ x → after ≡ held
    → Settles outcome result x held y after
settled-kept outcome result x y held after is same kept =
    subst (λ (r : Result Bool Stop). Settles outcome r x held y after) (sym is)
    (subst (λ (y : Outgoing). Settles outcome outcome x held y after) (sym same)
    (subst (λ (bytes : Text). Settles outcome outcome x held x bytes) (sym kept) (settles-kept outcome x held)))

-- and of what has been passed on
pub settled-passed : (b : Bool) (outcome result : Result Bool Stop) (x y z : Outgoing) (held after : Text) → result ≡ outcome → z ≡ y → after ≡ []
    → b ≡ true → PassesOn b x held y → Settles outcome result x held z after
settled-passed b outcome result x y z held after is same none passed passes =
    subst (λ (r : Result Bool Stop). Settles outcome r x held z after) (sym is)
    (subst (λ (y : Outgoing). Settles outcome outcome x held y after) (sym same)
    (subst (λ (bytes : Text). Settles outcome outcome x held y bytes) (sym none) (settles-passed b outcome x y held passed passes)))

-- where the session goes on, what is so behind the line is so still
pub settled-on : (outcome result : Result Bool Stop) (P : Type 0) (x y : Outgoing) (held after : Text) → Settles outcome result x held y after
    → OnOk outcome P → result ≡ Ok true → P
settled-on outcome result P x y held after (inl stands) on is = subst (λ (r : Result Bool Stop). OnOk r P) (sym stands.is ∙ is) on
settled-on outcome result P x y held after (inr failed) on is = absurd (let no : write_failed ≡ Ok true = sym failed.is ∙ is in cc)

-- ---- what is lost

-- nothing
pub next-none : (all : Text) → ReadsNext None all all
next-none all = record { first = tt; past = []; cut = refl }

-- where nothing was read
pub reads-none : (old new : Option Text) → new ≡ old → WhereTold (ReadsNext None) old new
reads-none old new same = WhereTold-same (ReadsNext None) old new same next-none

-- some bytes
next-past : (bytes all rest : Text) → all ≡ bytes ++ rest → ReadsNext None all rest
next-past bytes all rest cut = record { first = tt; past = bytes; cut = cut }

-- those that were read ahead
reads-ahead : (n : ℕ) (buffer : Text) (old new : Option Text) → old ≡ with_prefix (take n buffer ++ NEWLINE ∷ []) new
    → WhereTold (ReadsNext None) old new
reads-ahead n buffer old new front =
    WhereTold-map old new (next-past (take n buffer ++ NEWLINE ∷ [])) (WhereTold-prefix (take n buffer ++ NEWLINE ∷ []) old new front)

-- for want of memory
pub reads-lost : {T E : Type 0} (r : Result T E) (n : ℕ) (buffer : Text) (old new : Option Text) → old ≡ with_prefix (take n buffer ++ NEWLINE ∷ []) new
    → OnErr r (WhereTold (ReadsNext None) old new)
reads-lost (Ok x) n buffer old new front = tt
reads-lost (Err e) n buffer old new front = reads-ahead n buffer old new front

-- those of a line that has broken off
pub reads-broken_off : (old new : Option Text) → BreaksOff old new → WhereTold (ReadsNext None) old new
reads-broken_off old new off = WhereTold-map old new (λ all rest begun.
    next-past (take off.0 all) all rest (sym (take-append-drop off.0 all) ∙ ap (λ (bytes : Text). take off.0 all ++ bytes) (sym begun.2))) off.3

-- a line, with its newline where it has one
taken-cut : (l : Line) (all rest : Text) → TakesFirst l all rest → (past : Text) × (all ≡ past ++ rest)
taken-cut l all rest takes = by takes.first.1
  where
    by : (all ≡ takes.raw ++ NEWLINE ∷ rest) ⊎ (all ≡ takes.raw ++ rest) → (past : Text) × (all ≡ past ++ rest)
    by (inl ended) = (takes.raw ++ NEWLINE ∷ [], ended ∙ sym (append_assoc takes.raw (NEWLINE ∷ []) rest))
    by (inr last) = (takes.raw, last)

-- of the session, or not
next-line : (l : Line) (all rest : Text) → LineAnswers l all rest → ReadsNext (text_of l) all rest
next-line line.End all rest takes = record { first = tt; past = []; cut = takes.0 ∙ sym takes.1 }
next-line (line.Bytes text) all rest takes =
    let past = taken-cut (line.Bytes text) all rest takes in record { first = takes; past = past.0; cut = past.1 }
next-line line.TooLong all rest takes =
    let past = taken-cut line.TooLong all rest takes in record { first = tt; past = past.0; cut = past.1 }

pub reads-line : (l : Line) (old new : Option Text) → TakesLine l old new → WhereTold (ReadsNext (text_of l)) old new
reads-line l old new takes = WhereTold-map old new (next-line l) takes

-- ---- the next line

-- a line of bytes is one
is-bytes : (bytes : Text) → line.Bytes bytes ≡ line.End → ⊥
is-bytes bytes e = absurd (let no : ⊥ = cc in no)

-- one that was read ahead with its newline is at hand
pub ahead-at-hand : (n : ℕ) (buffer bytes : Text) (old new : Option Text) → bytes ≡ take n buffer → n ≤ length buffer → n ≤ LONGEST_LINE
    → IsUnbroken (take n buffer) → old ≡ with_prefix (take n buffer ++ NEWLINE ∷ []) new → IsAtHand (Some (line.Bytes bytes)) old new
ahead-at-hand n buffer bytes old new is within short unbroken front =
    (is-bytes bytes, subst (λ (b : Text). TakesLine (line.Bytes b) old new) (sym is) (TakesLine-ahead n buffer old new within short unbroken front))

-- it was at hand
pub finds-ahead : (l : Line) (x y : Both) (held : Text) → IsAtHand (Some l) x.inwards.left y.inwards.left → y.inwards.faults ≡ x.inwards.faults
    → y.outwards ≡ x.outwards → Finds l x held y held
finds-ahead l x y held ahead reads outwards =
    record { read = ahead.1; reads = reads; holds = holds-still x.outwards y.outwards held outwards; emptied = λ is. absurd (ahead.0 is) }

-- it came, once what was held back was passed on
pub finds-awaited : (r : Result Line Stop) (x m y : Both) (held : Text) → HoldsBack x.outwards held m.outwards [] → m.inwards ≡ x.inwards
    → y.outwards ≡ m.outwards → IsCounted (read_stopped r) m.inwards.faults y.inwards.faults
    → IfOk r (λ l. TakesLine l m.inwards.left y.inwards.left) → IfErr r (λ e. StopsReading e m.inwards.left y.inwards.left) → FindsLine r x held y []
finds-awaited r x m y held passed same outwards reads takes stops =
    by r (subst (λ (i : Incoming). IsCounted (read_stopped r) i.faults y.inwards.faults) same reads)
    (subst (λ (i : Incoming). IfOk r (λ l. TakesLine l i.left y.inwards.left)) same takes)
    (subst (λ (i : Incoming). IfErr r (λ e. StopsReading e i.left y.inwards.left)) same stops)
  where
    holds : HoldsBack x.outwards held y.outwards []
    holds = holds-then x.outwards m.outwards y.outwards held [] [] passed (holds-still m.outwards y.outwards [] outwards)

    by : (r : Result Line Stop) → IsCounted (read_stopped r) x.inwards.faults y.inwards.faults → IfOk r (λ l. TakesLine l x.inwards.left y.inwards.left)
        → IfErr r (λ e. StopsReading e x.inwards.left y.inwards.left) → FindsLine r x held y []
    by (Ok l) reads takes stops = record { read = takes; reads = reads; holds = holds; emptied = λ is. refl }
    by (Err stop.NoMemory) reads takes stops = record { read = reads-broken_off x.inwards.left y.inwards.left stops; reads = reads; holds = holds }
    by (Err (stop.Cause cause.ReadFault)) reads takes stops = record { breaks = stops; reads = reads; holds = holds; emptied = refl }
    by (Err (stop.Cause cause.WriteFault)) reads takes stops = absurd stops
    by (Err (stop.Cause cause.StoreFault)) reads takes stops = absurd stops
    by (Err (stop.Cause cause.TooManyLines)) reads takes stops = absurd stops

-- memory was wanting for it
pub finds-lost : (x y : Both) (held : Text) → WhereTold (ReadsNext None) x.inwards.left y.inwards.left → y.inwards.faults ≡ x.inwards.faults
    → y.outwards ≡ x.outwards → LosesLine x held y held
finds-lost x y held read reads outwards = record { read = read; reads = reads; holds = holds-still x.outwards y.outwards held outwards }

-- it wasn't looked for, since what was held back could not be written
pub finds-unpassed : (b : Bool) (x y : Both) (held after : Text) → b ≡ false → PassesOn b x.outwards held y.outwards → y.inwards ≡ x.inwards
    → after ≡ [] → LeavesLine x held y after
finds-unpassed b x y held after is passes same none = record {
  read = ap (λ (i : Incoming). i.left) same;
  reads = ap (λ (i : Incoming). i.faults) same;
  cuts = passes-cut b x.outwards y.outwards held is passes;
  emptied = none;
}

-- nothing is at hand, so the link is as it was
pub none-ahead : (r : Result Line Stop) (x m y : Both) (held after : Text) → m.inwards.left ≡ x.inwards.left → m.inwards.faults ≡ x.inwards.faults
    → m.outwards ≡ x.outwards → FindsLine r m held y after → FindsLine r x held y after
none-ahead r x m y held after left faults outwards =
    subst (λ (b : Both). FindsLine r b held y after) (same m.inwards.left x.inwards.left m.inwards.faults x.inwards.faults left faults outwards)
  where
    one : Option Text → ℕ → Outgoing → Both
    one left faults outwards = record { inwards = record { left = left; faults = faults }; outwards = outwards }

    same : (l l2 : Option Text) (n n2 : ℕ) → l ≡ l2 → n ≡ n2 → m.outwards ≡ x.outwards → one l n m.outwards ≡ one l2 n2 x.outwards
    same l l2 n n2 a b c = rw (a, b, c) refl
