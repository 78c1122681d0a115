-- The watches that a line leaves are those of the backend's client, and stand for the journal where that is told.
use Rattle.std.proofs.Common.{◌≡◌, Option, Some, None, refl, sym, ◌∙◌, subst}
use Rattle.std.specs.Prelude.{IfSome}
use Rattle.txn_lang.specs.States.{Journal}
use Rattle.docc_prepare.specs.Calls.{Known}
use Rattle.docc_prepare.specs.Backends.{IsAnswered, IsSameClient}
use Rattle.call_programs.specs.Programs.{Program}
use Rattle.call_programs.specs.Safe.{MayAsk, IsSafe, AsksAny, AlwaysEnds}
use Rattle.call_programs.proofs.Programs.{always_more}
use Rattle.client_watches.specs.declared.watching.Watching.{Watching}
use Rattle.client_watches.specs.Keeping.{Keeps}
use Rattle.docc_prepare.specs.Readable.{CanReadOn}
use Rattle.client_watches.specs.Goals.{Goal}
use Rattle.client_watches.specs.Laws.{Attends, GoesOn, MayBeShown, Passes, Forgets}
use Rattle.client_watches.specs.GoingOn.{WatchLine}
use Rattle.client_watches.specs.LineLaws.{program_of}
use Rattle.client_watches.specs.Lines.{Told, sync, watch, unwatch}
use Rattle.client_watches.proofs.Safe.{lines_are_safe}
use Rattle.client_watches.proofs.Explaining.{sync_is_explained}
use Rattle.client_watches.proofs.Forgotten.{unwatch_is_explained}
use Rattle.client_watches.proofs.Making.{watch_is_explained}
use Rattle.session_core.specs.Holding.{Minds, WatchesAttend}
use Rattle.docc_prepare.proofs.Readable.{can-read-on}
use Rattle.session_core.proofs.Minding.{untold-on, told-attends, reported-seen}

-- ---- every program

-- it is one client of one store
pub same_client : {A : Type 0} (k c : Known) (p : Program A) → IsSameClient k c → AlwaysEnds c p (λ l a. IsSameClient k l)
same_client k c (Program.ends a) same = same
same_client k c (Program.asks call next) same = (
  tt,
  λ answer l step ok. let more = step.client in same_client k l (next answer) (record {
    client = more.client ∙ same.client;
    trusted = more.trusted ∙ same.trusted;
    shards = more.shards ∙ same.shards;
    window = more.window ∙ same.window;
    limit = more.limit ∙ same.limit;
  }),
)
same_client k c Program.stuck same = tt

-- what isn't told isn't told behind it
pub untold_behind : {A : Type 0} (c : Known) (p : Program A) → c.journal ≡ None → AlwaysEnds c p (λ l a. l.journal ≡ None)
untold_behind c (Program.ends a) none = none
untold_behind c (Program.asks call next) none = (tt, λ answer l step ok. untold_behind l (next answer) (untold-on c l call answer step none))
untold_behind c Program.stuck none = tt

-- a safe program ends with what it always ends with, too
pub both_safe : {A : Type 0} (first second : Known → A → Type 0) (c : Known) (p : Program A) → IsSafe c p first → AlwaysEnds c p second
    → IsSafe c p (λ l a. first l a × second l a)
both_safe first second c (Program.ends a) safe all = (safe, all)
both_safe first second c (Program.asks call next) safe all =
    (safe.0, λ answer l step ok. both_safe first second l (next answer) (safe.1 answer l step ok) (all.1 answer l step ok))
both_safe first second c Program.stuck safe all = safe

-- ---- a line of watches

-- a journal that has grown, for which the watches stand
abbrev HasGoneOn : Known → Journal → Known → Told → Type 0
HasGoneOn k old l told = (new : Journal) × GoesOn k l told.0 old new

-- by each form of line
gone_on : (k : Known) (w : Watching) (line : WatchLine) (old : Journal) → Attends k w old → CanReadOn k.trusted old → MayBeShown k w k.seen
    → AlwaysEnds k (program_of line w) (HasGoneOn k old)
gone_on k w WatchLine.sync old is on may =
    always_more AsksAny IsAnswered (Unit {0}) (λ l (told : Told). Passes k l w told.0 k.seen Goal.current told.1 old) (HasGoneOn k old) k (sync w)
    (λ l told there. (there.new, there.goes_on)) (sync_is_explained k w k.seen old is on may)
gone_on k w (WatchLine.watch name body) old is on may =
    always_more AsksAny IsAnswered (Unit {0}) (λ l (told : Told). Passes k l w told.0 k.seen (Goal.watch name body) told.1 old) (HasGoneOn k old) k
    (watch w name body) (λ l told there. (there.new, there.goes_on)) (watch_is_explained k w name body k.seen old is on may)
gone_on k w (WatchLine.unwatch name) old is on may =
    always_more AsksAny IsAnswered (Unit {0}) (λ l (told : Told). Forgets k l w told.0 name told.1 old) (HasGoneOn k old) k (unwatch w name)
    (λ l told there. (there.new, there.goes_on)) (unwatch_is_explained k w name old is on)

-- where the journal is told, and where it isn't
pub watches_attend : (k : Known) (w : Watching) (line : WatchLine) → WatchesAttend k w → IsSafe k (program_of line w) (λ l told. WatchesAttend l told.0)
watches_attend k w line is = by k.journal refl is.told
  where
    safe : IsSafe k (program_of line w) (λ l told. Keeps l told.0)
    safe = lines_are_safe k w line is.keeps

    by : (o : Option Journal) → k.journal ≡ o → IfSome o (Minds k w) → IsSafe k (program_of line w) (λ l told. WatchesAttend l told.0)
    by None e minds =
        always_more MayAsk IsAnswered ⊥ (λ l (told : Told). Keeps l told.0 × (l.journal ≡ None)) (λ l (told : Told). WatchesAttend l told.0) k
        (program_of line w)
        (λ l told h. record { keeps = h.0; told = subst (λ (o : Option Journal). IfSome o (Minds l told.0)) (sym h.1) tt })
        (both_safe (λ l (told : Told). Keeps l told.0) (λ l (told : Told). l.journal ≡ None) k (program_of line w) safe
        (untold_behind k (program_of line w) e))
    by (Some old) e minds =
        always_more MayAsk IsAnswered ⊥ (λ l (told : Told). (Keeps l told.0 × IsSameClient k l) × HasGoneOn k old l told)
        (λ l (told : Told). WatchesAttend l told.0) k (program_of line w) (λ l told h. behind l told old h.0.0 h.0.1 minds h.1.0 h.1.1)
        (both_safe (λ l (told : Told). Keeps l told.0 × IsSameClient k l) (HasGoneOn k old) k (program_of line w)
        (both_safe (λ l (told : Told). Keeps l told.0) (λ l (told : Told). IsSameClient k l) k (program_of line w) safe
        (same_client k k (program_of line w) (record { client = refl; trusted = refl; shards = refl; window = refl; limit = refl })))
        (gone_on k w line old (told-attends k w old e is.keeps minds) minds.can_on (reported-seen k w old is.keeps minds)))
      where
        behind : (l : Known) (told : Told) (old : Journal) → Keeps l told.0 → IsSameClient k l → Minds k w old → (new : Journal)
            → GoesOn k l told.0 old new → WatchesAttend l told.0
        behind l told old keeps same minds new on = record {
          keeps = keeps;
          told = subst (λ (o : Option Journal). IfSome o (Minds l told.0)) (sym on.attends.told) (record {
            subscribes = on.attends.subscribes;
            stands = on.attends.stands;
            can = on.attends.can;
            can_on = can-read-on k.trusted l.trusted old new same.trusted on.grows minds.can_on;
          });
        }
