-- The reply to `unwatch` passes: what no watch observes any longer is let go, and that is all.
use Rattle.std.proofs.Common.{◌≡◌, inl, inr, Bool, true, false, cond, [], ◌∷◌, Some, None, is_some, refl, sym, ap, ◌∙◌}
use Rattle.std.specs.Map.{remove_entry}
use Rattle.std.specs.Str.{bytes_eq}
use Rattle.plain_data.specs.Texts.{Bytes}
use Rattle.std.proofs.Math.Seq.{take-length}
use Rattle.session_text.specs.declared.reply.Reply.TheVariants as reply
use Rattle.session_text.specs.declared.reply.Why.TheVariants as why
use Rattle.rerun_driver.specs.Watches.{Watches, watch_of, without_watch}
use Rattle.docc_prepare.specs.Calls.{Known}
use Rattle.docc_prepare.specs.Backends.{IsAnswered}
use Rattle.call_programs.specs.Programs.{Program}
use Rattle.call_programs.specs.Safe.{AsksAny, AlwaysEnds}
use Rattle.call_programs.proofs.Programs.{always_more}
use Rattle.client_watches.specs.Watching.{none_loose, without}
use Rattle.client_watches.specs.Keeping.{AreDistinct}
use Rattle.client_watches.specs.Explained.{ShownList, shown_of}
use Rattle.client_watches.specs.Laws.{Forgets}
use Rattle.client_watches.specs.LineLaws.{UnwatchIsExplained}
use Rattle.client_watches.specs.Lines.{Told}
use Rattle.client_watches.specs.Lines.{drop_idle, ending}
use Rattle.client_watches.proofs.Kept.{keeps-without}
use Rattle.client_watches.proofs.Moving.{stands-without}
use Rattle.client_watches.proofs.Telling.{shown-named}
use Rattle.client_watches.proofs.Names.{same_name}
use Rattle.client_watches.proofs.Hearing.{Sees, AlwaysTold, then_told, IsToldAt, told_always, StandsSo, Dropped, idle_so}
use Rattle.client_watches.proofs.Hearing.{attends_so}

-- ---- one watch less

-- it is one less of what is shown
shown-without : (ws : Watches) (name : Bytes) → shown_of (without_watch ws name) ≡ remove_entry (bytes_eq name) (shown_of ws)
shown-without [] name = refl
shown-without (x ∷ ws) name = by (bytes_eq name x.0) (shown-without ws name)
  where
    by : (b : Bool) → shown_of (without_watch ws name) ≡ remove_entry (bytes_eq name) (shown_of ws)
        → shown_of (cond b ws (x ∷ without_watch ws name))
        ≡ cond b (shown_of ws) ((x.0, record { body = x.1.body; number = x.1.number }) ∷ remove_entry (bytes_eq name) (shown_of ws))
    by true rest = refl
    by false rest = ap (λ (later : ShownList). (x.0, record { body = x.1.body; number = x.1.number }) ∷ later) rest

-- where names differ none has the name then
none-left-named : (ws : Watches) (name : Bytes) → AreDistinct ws → watch_of (without_watch ws name) name ≡ None
none-left-named [] name all = refl
none-left-named (x ∷ ws) name all = by (bytes_eq name x.0) refl (none-left-named ws name all.1)
  where
    by : (b : Bool) → bytes_eq name x.0 ≡ b → watch_of (without_watch ws name) name ≡ None
        → watch_of (cond b ws (x ∷ without_watch ws name)) name ≡ None
    by true e rest = ap (watch_of ws) (same_name name x.0 e) ∙ all.0
    by false e rest = ap (λ b. cond b (Some x.1) (watch_of (without_watch ws name) name)) e ∙ rest

-- ---- the line

-- what is kept stands, with the watches and the replies with which the line came to its end
pub record Ended (told : Told) (t : Sees) (end : Told) : Type 0 where
  pub stands : StandsSo t end.0
  pub same : end.0.watches ≡ told.0.watches
  pub said : end.1 ≡ told.1

ended_so : (s : Sees) (told : Told) → StandsSo s told.0 → AlwaysTold s (ending told) (Ended told)
ended_so s told is =
    then_told (Dropped s (none_loose told.0)) (Ended told) (λ w. Program.ends (w, told.1)) s (drop_idle told.0) (idle_so s told.0 is)
    (λ t v h. record { stands = h.stands; same = h.same; said = refl })

-- UNWATCH IS EXPLAINED
pub unwatch_is_explained : UnwatchIsExplained
unwatch_is_explained k w name old is on = by (is_some (watch_of w.watches name)) refl
  where
    forgotten : is_some (watch_of w.watches name) ≡ true → (l : Known) (end : Told)
        → IsToldAt old (Ended (without w name, reply.Dropped ∷ [])) l end → Forgets k l w end.0 name end.1 old
    forgotten e l end h = record {
      new = h.journal;
      goes_on = record { grows = h.grows; attends = attends_so l h.journal h.can end.0 h.told h.so.stands };
      passes = inr (record {
        was = sym (shown-named w.watches name) ∙ e;
        replies_are = h.so.said;
        gone = sym (shown-named end.0.watches name) ∙ ap (λ (ws : Watches). is_some (watch_of ws name)) h.so.same
            ∙ ap is_some (none-left-named w.watches name is.keeps.names);
        others = ap shown_of h.so.same ∙ shown-without w.watches name;
      });
    }

    by : (b : Bool) → is_some (watch_of w.watches name) ≡ b → AlwaysEnds k (cond b (ending (without w name, reply.Dropped ∷ []))
        (Program.ends (w, reply.Refused why.NoAttempt ∷ []))) (λ l told. Forgets k l w told.0 name told.1 old)
    by true e =
        let gone : Told = (without w name, reply.Dropped ∷ []) in
        always_more AsksAny IsAnswered (Unit {0}) (IsToldAt old (Ended gone)) (λ l told. Forgets k l w told.0 name told.1 old) k (ending gone)
        (λ l end h. forgotten e l end h)
        (told_always old k.trusted on (Ended gone) k old is.can (ending gone) is.told refl (take-length old)
        (ended_so (record { known = k; journal = old; can = is.can }) gone (record {
          keeps = keeps-without k w is.keeps name;
          subscribes = record { rising = is.subscribes.rising; told = is.subscribes.told; taken = is.subscribes.taken };
          stands = stands-without old w name is.stands;
        })))
    by false e = record {
      new = old;
      goes_on = record { grows = take-length old; attends = is };
      passes = inl (sym (shown-named w.watches name) ∙ e, record { replies_are = refl; same = refl });
    }
