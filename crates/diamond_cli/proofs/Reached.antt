-- What `remote` promises, from what it does.
use Rattle.std.proofs.Common.{◌≡◌, ◌≢◌, ◌⊎◌, ◌==◌, ◌||◌, ℕ, Bool, true, false, cond, List, [], ◌∷◌, inl, inr, refl, sym, ap, ◌∙◌, subst}
use Rattle.std.specs.Prelude.{Option, Some, None, IfSome}
use Rattle.std.specs.List.{list_any, AllByRecursion}
use Rattle.std.proofs.lemmas.Bool.{eqb-true}
use Rattle.dio_core.specs.Counts.{Rose}
use Rattle.dio_core.specs.Links.{Both}
use Rattle.dio_core.specs.Sources.{with_prefix}
use Rattle.dio_core.specs.Sinks.{with_more}
use Rattle.script_runner.specs.declared.status.TheConstants.{WHOLE, READ_FAULT, WRITE_FAULT, NO_MEMORY, TOO_MANY_LINES}
use Rattle.diamond_server.specs.declared.status.TheConstants.{STORE_FAULT}
use Rattle.diamond_server.specs.Accounts.{Gatherings}
use Rattle.remote_command.specs.declared.remote.TheConstants.{BROKEN_LINK}
use Rattle.remote_command.specs.Linked.{plain, KeepsPromises}
use Rattle.diamond_cli.specs.declared.line.TheConstants.{LISTENER_FAULT}
use Rattle.diamond_cli.specs.declared.remote.TheConstants.{NO_LINK}
use Rattle.diamond_cli.specs.Serving.{IsAmong}
use Rattle.diamond_cli.specs.Reaching.{session_statuses, IsReached, Reaches}

-- what is so of a status that may be the first, or is among the others
among-by : (P : ℕ → Type 0) (s status : ℕ) (others b : Bool) → (s == status) ≡ b → P s → (others ≡ true → P status)
    → (b || others) ≡ true → P status
among-by P s status others true e first later h = subst P (eqb-true s status e) first
among-by P s status others false e first later h = later h

-- what is so of each of some statuses is so of a status among them
among-all : (P : ℕ → Type 0) (statuses : List ℕ) (status : ℕ) → AllByRecursion P statuses → IsAmong statuses status → P status
among-all P [] status all among = absurd (cc among)
among-all P (s ∷ statuses) status all among =
    among-by P s status (list_any (λ t. t == status) statuses) (s == status) refl all.0 (among-all P statuses status all.1) among

-- a status of a session: it is one of those of the command, and says that a link came
record IsOfSession (status : ℕ) : Type 0 where
  known : IsAmong (NO_MEMORY ∷ LISTENER_FAULT ∷ NO_LINK ∷ session_statuses) status
  accepted : status ≢ LISTENER_FAULT
  there : status ≢ NO_LINK

-- those of a session, where a link that failed or broke stands for a store that failed
of-session : (status : ℕ)
    → IsAmong (WHOLE ∷ READ_FAULT ∷ WRITE_FAULT ∷ NO_MEMORY ∷ STORE_FAULT ∷ TOO_MANY_LINES ∷ []) (plain status) → IsOfSession status
of-session status among = by (status == BROKEN_LINK) refl
  where
    one : (s : ℕ) → IsAmong (NO_MEMORY ∷ LISTENER_FAULT ∷ NO_LINK ∷ session_statuses) s → (s == LISTENER_FAULT) ≡ false → (s == NO_LINK) ≡ false
        → IsOfSession s
    one s known other none = record {
      known = known;
      accepted = λ is. let no : true ≡ false = sym (ap (λ n. n == LISTENER_FAULT) is) ∙ other in absurd (cc no);
      there = λ is. let no : true ≡ false = sym (ap (λ n. n == NO_LINK) is) ∙ none in absurd (cc no);
    }

    by : (b : Bool) → (status == BROKEN_LINK) ≡ b → IsOfSession status
    by true e = subst IsOfSession (sym (eqb-true status BROKEN_LINK e)) (one BROKEN_LINK refl refl refl)
    by false e =
        among-all IsOfSession (WHOLE ∷ READ_FAULT ∷ WRITE_FAULT ∷ NO_MEMORY ∷ STORE_FAULT ∷ TOO_MANY_LINES ∷ []) status
        (one WHOLE refl refl refl, (one READ_FAULT refl refl refl, (one WRITE_FAULT refl refl refl, (one NO_MEMORY refl refl refl, (one STORE_FAULT refl refl refl, (one TOO_MANY_LINES refl refl refl, tt))))))
        (subst (IsAmong (WHOLE ∷ READ_FAULT ∷ WRITE_FAULT ∷ NO_MEMORY ∷ STORE_FAULT ∷ TOO_MANY_LINES ∷ []))
        (ap (λ b. cond b STORE_FAULT status) e) among)

module _ {L : Type 0} (told : L → Both) (g : Gatherings L) (x y : Both) where
  -- memory was wanting, and nothing is said of what came of it
  pub unreached : Reaches told g NO_MEMORY x y
  unreached = record {
    statuses = refl;
    reached = λ among. absurd (cc among);
    listener = λ is. absurd (cc is);
    none_left = λ is. absurd (cc is);
    nobody = λ none accepted. inr refl;
    untouched = λ among. absurd (cc among);
  }

  -- where one is taken, one was left
  some-left : (was : L) (links links_then : Option (List L)) → links ≡ with_prefix (was ∷ []) links_then → links ≡ Some [] → ⊥
  some-left was links None accepted none =
      let no : ◌≡◌ {A = Option (List L)} None (Some []) = sym accepted ∙ none in absurd (cc no)
  some-left was links (Some rest) accepted none =
      let no : ◌≡◌ {A = Option (List L)} (Some (was ∷ rest)) (Some []) = sym accepted ∙ none in absurd (cc no)

  -- a link came, and was given back behind its session
  pub reached : (status : ℕ) → IsReached told g status x y → Reaches told g status x y
  reached status r =
      let of = of-session status r.session.session.statuses in record {
        statuses = of.known;
        reached = λ among. r;
        listener = λ is. absurd (of.accepted is);
        none_left = λ is. absurd (of.there is);
        nobody = λ none accepted. absurd (some-left r.was g.links g.links_then r.accepted none);
        untouched = λ among. among-all (λ s. s ≡ status → y ≡ x) (LISTENER_FAULT ∷ NO_LINK ∷ []) status
            ((λ is. absurd (of.accepted (sym is))), ((λ is. absurd (of.there (sym is))), tt)) among refl;
      }

-- no link came, and all is as it was
pub no-link : {L : Type 0} (told : L → Both) (g : Gatherings L) (x : Both) → IfSome g.links (λ links. links ≡ []) → Reaches told g NO_LINK x x
no-link told g x none = record {
  statuses = refl;
  reached = λ among. absurd (cc among);
  listener = λ is. absurd (cc is);
  none_left = λ is. none;
  nobody = λ left accepted. inl refl;
  untouched = λ among. refl;
}

-- the accept failed
pub failed-accept : {L : Type 0} (told : L → Both) (g : Gatherings L) (x : Both) → Rose g.faults g.faults_then → Reaches told g LISTENER_FAULT x x
failed-accept told g x rose = record {
  statuses = refl;
  reached = λ among. absurd (cc among);
  listener = λ is. rose;
  none_left = λ is. absurd (cc is);
  nobody = λ left accepted. absurd (accepted rose);
  untouched = λ among. refl;
}
