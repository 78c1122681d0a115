-- The world of a script stands before its first line, and behind each.
use Rattle.std.proofs.Common.{◌≡◌, ◌≢◌, ℕ, zero, suc, ◌≤◌, ◌<◌, Bool, true, false, cond, List, [], ◌∷◌, ◌++◌, length, get_or, set, fold}
use Rattle.std.proofs.Common.{Option, Some, None, Result, Ok, Err}
use Rattle.std.proofs.Common.{◌⊎◌, inl, inr, refl, sym, ap, ◌∙◌, subst, arith, length-append, drop}
use Rattle.std.specs.declared.alloc.AllocError.{AllocError}
use Rattle.std.specs.Prelude.{OnOk, IfSome, nat_le, nat_lt}
use Rattle.std.proofs.lemmas.List.{length-set, length-drop}
use Rattle.std.specs.List.{prefix_len}
use Rattle.std.proofs.lemmas.Bool.Decides.{nat_tests}
use Rattle.dio_core.specs.declared.line.TheConstants.{LONGEST_LINE}
use Rattle.dio_core.specs.declared.line.Line.{Line}
use Rattle.dio_core.specs.declared.line.Line.TheVariants as line
use Rattle.dio_core.specs.Lines.{lines, line_of as cut_of, IsShort}
use Rattle.rdt_types.specs.declared.settings.Settings.{Settings}
use Rattle.txn_grammar.specs.Characters.{Text, is_blank}
use Rattle.txn_lang.specs.Journals.{IsLegal}
use Rattle.session_core.proofs.Minding.{none-keeps, none-minds}
use Rattle.client_watches.proofs.Lined.{beginnings_attend}
use Rattle.docc_prepare.specs.declared.limits.TheConstants.{CLIENTS}
use Rattle.docc_prepare.specs.Stores.{Store, IsSound, known_by, first_store, followed}
use Rattle.docc_prepare.proofs.Stored.{first_store_is_sound}
use Rattle.docc_prepare.proofs.Elsewhere.{shards_follow}
use Rattle.docc_prepare.proofs.Readable.{legal-reads}
use Rattle.session_core.specs.declared.line.Line.{Line as Asked}
use Rattle.session_core.specs.declared.session.Session.{Session}
use Rattle.session_core.specs.declared.turn.Turn.{Turn}
use Rattle.session_core.specs.declared.turn.Turn.TheVariants as turn
use Rattle.session_core.specs.Lines.{line_of}
use Rattle.session_core.specs.Verbs.{LineEnd}
use Rattle.session_core.specs.Holding.{Attends}
use Rattle.session_core.specs.Words.{trimmed_start, trimmed_end, is_quiet}
use Rattle.session_core.proofs.GoingOn.{sessions_go_on}
use Rattle.session_core.proofs.Ready.{line-ready}
use Rattle.script_runner.specs.declared.words.TheConstants.{LAST_CLIENT}
use Rattle.session_text.specs.Lines.{is_solid}
use Rattle.script_runner.specs.Words.{first_word, after_word, small_number, client_named, if_client, is_follow, if_shard, shard_named}
use Rattle.script_runner.specs.Play.{ScriptWorld, first_session, first_sessions, first_world, session_of, Told, Did, did, left, play_line, ended_line}
use Rattle.script_runner.specs.Play.{follow_line, client_line}
use Rattle.script_runner.specs.Play.{Done, done, placed, named_line, text_line, answer, Played, nothing_played, one_more, play}
use Rattle.script_runner.specs.code.Lines.{Answers}
use Rattle.script_runner.specs.Worlds.{Stands, ScriptsStand}
use Rattle.script_runner.proofs.Places.{set-here, set-elsewhere, at-end, same-or-not}
use Rattle.script_runner.proofs.Stood.{IsPlayedTo, line-played}

-- ---- the first world

-- there are as many sessions as clients
many-first : (n : ℕ) → length (first_sessions n) ≡ n
many-first zero = refl
many-first (suc n) = let long = length-append (first_sessions n) (Some (first_session n) ∷ []) in let most = many-first n in omega arith

-- each stands at its client's place
pub each-first : (n client : ℕ) → IfSome (get_or (first_sessions n) client None) (λ s. s ≡ first_session client)
each-first zero client = tt
each-first (suc n) client = by (each-first n client) (at-end (first_sessions n) (Some (first_session n)) None client)
  where
    goal : Option Session → Type 0
    goal o = IfSome o (λ s. s ≡ first_session client)

    by : goal (get_or (first_sessions n) client None)
        → (get_or (first_sessions n ++ Some (first_session n) ∷ []) client None ≡ get_or (first_sessions n) client None)
        ⊎ ((client ≡ length (first_sessions n)) × (get_or (first_sessions n ++ Some (first_session n) ∷ []) client None ≡ Some (first_session n)))
        → goal (get_or (first_sessions n ++ Some (first_session n) ∷ []) client None)
    by before (inl same) = subst goal (sym same) before
    by before (inr last) = subst goal (sym last.1) (ap first_session (sym (last.0 ∙ many-first n)))

-- a first session attends the first store
first-attends : (settings : Settings) (client : ℕ)
    → Attends (known_by (first_store settings.shards settings.window settings.limit) client) (first_session client)
first-attends settings client =
    let some = settings.shards_in_range.0 in
    let store = first_store settings.shards settings.window settings.limit in
    let sound = first_store_is_sound settings.shards settings.window settings.limit (omega arith) in record {
      on = refl;
      shards = settings.shards_in_range;
      client = refl;
      begun = omega arith;
      counts = record { seq_is = refl; within = sound.seen client };
      attempt = tt;
      watches = record {
        keeps = none-keeps (known_by store client) 0 (omega arith);
        told = none-minds (known_by store client) 0 store.journal (omega arith) (legal-reads store.journal sound.legal)
            (beginnings_attend.readable store.journal);
      };
    }

-- The first world stands.
pub first-stands : (settings : Settings) → Stands (first_world settings)
first-stands settings =
    let some = settings.shards_in_range.0 in
    let store = first_store settings.shards settings.window settings.limit in record {
      sound = first_store_is_sound settings.shards settings.window settings.limit (omega arith);
      places = many-first CLIENTS;
      attend = λ client. by client (get_or (first_sessions CLIENTS) client None) (each-first CLIENTS client);
    }
  where
    by : (client : ℕ) (o : Option Session) → IfSome o (λ s. s ≡ first_session client)
        → IfSome o (Attends (known_by (first_store settings.shards settings.window settings.limit) client))
    by client None e = tt
    by client (Some s) e =
        subst (Attends (known_by (first_store settings.shards settings.window settings.limit) client)) (sym e) (first-attends settings client)

-- so does what is made of the first store and the first sessions
pub made-stands : (settings : Settings) (store : Store) (sessions : List (Option Session))
    → store ≡ first_store settings.shards settings.window settings.limit → sessions ≡ first_sessions CLIENTS
    → Stands (record { store = store; sessions = sessions })
made-stands settings store sessions first all =
    subst (λ (s : Store). Stands (record { store = s; sessions = sessions })) (sym first)
    (subst (λ (xs : List (Option Session)). Stands (record { store = first_store settings.shards settings.window settings.limit; sessions = xs })) (sym all)
    (first-stands settings))

-- ---- the line of a client

-- What a client's line leaves: a sound store, its session, if it goes on, and those of all others.
pub record Leaves (s : Store) (client : ℕ) (d : Did) : Type 0 where
  pub sound : IsSound d.store
  pub mine : IfSome d.session (Attends (known_by d.store client))
  pub others : (other : ℕ) → other ≢ client → (theirs : Session) → Attends (known_by s other) theirs → Attends (known_by d.store other) theirs

module _ (s : Store) (client : ℕ) (sound : IsSound s) (below : client < CLIENTS) where
  -- a line that changes nothing
  stays : (o : Option Session) (told : Told) → IfSome o (Attends (known_by s client)) → Leaves s client (did s o told)
  stays o told is = record { sound = sound; mine = is; others = λ other apart theirs h. h }

  module _ (session : Session) (is : Attends (known_by s client) session) where
    -- a shard that follows takes nothing of what a session rests on
    follow-leaves : (o : Option ℕ) → Leaves s client (follow_line client s session (if_shard s.shards o))
    follow-leaves None = stays (Some session) _ is
    follow-leaves (Some shard) = by (nat_lt shard s.shards) refl
      where
        by : (b : Bool) → nat_lt shard s.shards ≡ b → Leaves s client (follow_line client s session (cond b (Some shard) None))
        by false e = stays (Some session) _ is
        by true e =
            let there : shard < s.shards = grind (arith, nat_tests) in
            let after = shards_follow s client shard sound below there in record {
              sound = after.sound;
              mine = sessions_go_on.followed (known_by s client) (known_by (followed s client shard) client) session is after.mine;
              others = λ other apart theirs h.
                  sessions_go_on.others (known_by s other) (known_by (followed s client shard) other) theirs h (after.others other apart);
            }

    -- a session that goes on behind its line attends
    left-attends : (k : Store) (t : Session) (x : Turn) → Attends (known_by k client) t → IfSome (left t x) (Attends (known_by k client))
    left-attends k t turn.Quiet h = h
    left-attends k t (turn.Replies replies) h = h
    left-attends k t turn.WaitWanted h = h
    left-attends k t (turn.Ended replies) h = tt

    -- what a line is played to
    ended-leaves : (asked : Asked) (x : Option LineEnd × Store) → IsPlayedTo s client session asked x → Leaves s client (ended_line client session asked x)
    ended-leaves asked x h = subst (λ (x : Option LineEnd × Store). Leaves s client (ended_line client session asked x)) (sym h.is) (record {
      sound = h.leave.sound;
      mine = left-attends h.store h.end.0 h.end.1 h.attends;
      others = h.leave.others;
    })

    -- a line of the session, or one that lets a shard follow
    either-leaves : (b : Bool) (x y : Did) → Leaves s client x → Leaves s client y → Leaves s client (cond b x y)
    either-leaves true x y kx ky = kx
    either-leaves false x y kx ky = ky

    line-leaves : (text : Text) → length text ≤ LONGEST_LINE → Leaves s client (client_line client s (Some session) text)
    line-leaves text short = either-leaves (is_follow text) (follow_line client s session (shard_named s.shards (after_word text)))
        (ended_line client session (line_of text) (play_line client s session (line_of text))) (follow-leaves (small_number (trimmed_end (after_word text))))
        (ended-leaves (line_of text) (play_line client s session (line_of text))
        (line-played s client session (line_of text) below sound is (line-ready text short)))

  -- the line of a client who may have quit
  pub client-leaves : (o : Option Session) (text : Text) → length text ≤ LONGEST_LINE → IfSome o (Attends (known_by s client))
      → Leaves s client (client_line client s o text)
  client-leaves None text short is = stays None _ tt
  client-leaves (Some session) text short is = line-leaves session is text short

-- ---- one line

-- the world stands where the client's line has left that
placed-stands : (world : ScriptWorld) (client : ℕ) (d : Did) → Stands world → Leaves world.store client d → Stands (placed world client d).world
placed-stands world client d h leaves = record {
  sound = leaves.sound;
  places = length-set world.sessions client d.session ∙ h.places;
  attend = λ c. by c (same-or-not c client);
}
  where
    by : (c : ℕ) → (c ≡ client) ⊎ (c ≢ client) → IfSome (get_or (set world.sessions client d.session) c None) (Attends (known_by d.store c))
    by c (inl same) = subst (λ (n : ℕ). IfSome (get_or (set world.sessions client d.session) n None) (Attends (known_by d.store n))) (sym same)
        (set-here (λ o. IfSome o (Attends (known_by d.store client))) world.sessions client d.session None leaves.mine tt)
    by c (inr apart) = subst (λ o. IfSome o (Attends (known_by d.store c))) (sym (set-elsewhere world.sessions client c d.session None apart))
        (all (get_or world.sessions c None) (h.attend c))
      where
        all : (o : Option Session) → IfSome o (Attends (known_by world.store c)) → IfSome o (Attends (known_by d.store c))
        all None is = tt
        all (Some theirs) is = leaves.others c apart theirs is

-- the client that a word names is one of them
named-stands : (world : ScriptWorld) (o : Option ℕ) (text : Text) → Stands world → length text ≤ LONGEST_LINE
    → Stands (named_line world (if_client o) text).world
named-stands world None text h short = h
named-stands world (Some client) text h short = by (nat_le client LAST_CLIENT) refl
  where
    by : (b : Bool) → nat_le client LAST_CLIENT ≡ b → Stands (named_line world (cond b (Some client) None) text).world
    by false e = h
    by true e =
        let below : client < CLIENTS = grind (arith, nat_tests) in
        placed-stands world client (client_line client world.store (session_of world client) text) h
        (client-leaves world.store client h.sound below (session_of world client) text short (h.attend client))

-- either of two worlds that stand does
either-stands : (b : Bool) (x y : Done) → Stands x.world → Stands y.world → Stands (cond b x y).world
either-stands true x y kx ky = kx
either-stands false x y kx ky = ky

-- without the blanks at its beginning a text is no longer
pub trimmed-shorter : (z : Text) → length (trimmed_start z) ≤ length z
trimmed-shorter z = let e = length-drop (prefix_len is_blank z) z in omega arith

-- nor is what comes behind its first word
pub after-shorter : (z : Text) → length (after_word z) ≤ length z
after-shorter z =
    let e = length-drop (prefix_len is_solid z) z in let t = trimmed-shorter (drop (prefix_len is_solid z) z) in omega arith

-- what is cut from an input is short, or too long to be read
pub cut-short : (raw : Text) → IsShort (cut_of raw)
cut-short raw = by (nat_lt LONGEST_LINE (length raw)) refl
  where
    by : (b : Bool) → nat_lt LONGEST_LINE (length raw) ≡ b → IsShort (cond b line.TooLong (line.Bytes raw))
    by true e = tt
    by false e = let short : length raw ≤ LONGEST_LINE = grind (arith, nat_tests) in short

-- a line without the blanks at its beginning
text-stands : (world : ScriptWorld) (text : Text) → Stands world → length text ≤ LONGEST_LINE → Stands (text_line world text).world
text-stands world text h short = either-stands (is_quiet text) (done world Told.nothing) (named_line world (client_named (first_word text)) (after_word text)) h
    (named-stands world (small_number (first_word text)) (after_word text) h (let shorter = after-shorter text in omega arith))

-- Behind each line the world stands.
pub answer-stands : (world : ScriptWorld) (l : Line) → Stands world → IsShort l → Stands (answer world l).world
answer-stands world (line.Bytes bytes) h short = text-stands world (trimmed_start bytes) h (let shorter = trimmed-shorter bytes in omega arith)
answer-stands world line.TooLong h short = h
answer-stands world line.End h short = h

-- so the world stands that code has left, unless memory ran out
pub answered-stands : (r : Result (Unit {0}) AllocError) (before output : Text) (world left : ScriptWorld) (l : Line) → Stands world → IsShort l
    → Answers r before output left (answer world l) → OnOk r (Stands left)
answered-stands (Ok done) before output world left l h short leaves = subst Stands leaves.left_is (answer-stands world l h short)
answered-stands (Err e) before output world left l h short leaves = tt

-- ---- many lines

-- lines in order keep it standing
pub played-stands : (raws : List Text) (p : Played) → Stands p.world → Stands (fold one_more p raws).world
played-stands [] p h = h
played-stands (raw ∷ raws) p h = played-stands raws (one_more p raw) (answer-stands p.world (cut_of raw) h (cut-short raw))

-- so every script leaves a world that stands, as the first one does
pub scripts_stand : ScriptsStand
scripts_stand settings bytes = played-stands (lines bytes) (nothing_played settings) (first-stands settings)

-- the journal of a script is legal, as that of every world that stands
pub play-legal : (settings : Settings) (bytes : Text) → IsLegal 0 (play settings bytes).world.store.journal
play-legal settings bytes = (scripts_stand settings bytes).sound.legal

-- the same of an input that may not be told
pub played_is_legal : (settings : Settings) (o : Option Text) → IfSome o (λ bytes. IsLegal 0 (play settings bytes).world.store.journal)
played_is_legal settings None = tt
played_is_legal settings (Some bytes) = play-legal settings bytes
