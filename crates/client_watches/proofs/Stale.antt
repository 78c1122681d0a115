-- The first stale watch: it is the one of its name, and once it takes a report one less is stale.
use Rattle.std.proofs.Common.{◌≡◌, ℕ, suc, Bool, true, false, cond, [], ◌∷◌, Option, Some, None, is_some, IsSome, refl, sym, ap, ◌∙◌, subst}
use Rattle.std.specs.Map.{set_value}
use Rattle.std.specs.Option.{option_map_or}
use Rattle.std.specs.Str.{bytes_eq}
use Rattle.plain_data.specs.Texts.{Bytes}
use Rattle.rdt_types.specs.declared.address.Address.{Address}
use Rattle.txn_lang.specs.declared.run.Run.{Run}
use Rattle.txn_lang.specs.States.{PartialState}
use Rattle.txn_lang.specs.Execution.{Ran, need, done, exec}
use Rattle.rerun_driver.specs.declared.watch.Watch.{Watch}
use Rattle.rerun_driver.specs.declared.rerun.Rerun.{Rerun}
use Rattle.rerun_driver.specs.declared.rerun.Rerun.TheVariants as rerun
use Rattle.rerun_driver.specs.Watches.{Watches, watch_of, with_report, settled, first_stale, rerun_of, next_rerun}
use Rattle.client_watches.specs.Watching.{one_if, stale_count}
use Rattle.client_watches.specs.Keeping.{AreDistinct}
use Rattle.client_watches.proofs.Names.{same_name, name_itself, reported_in}

-- what the first stale watch is among the others
pub record IsFirst (ws : Watches) (e : Bytes × Watch) : Type 0 where
  pub found : watch_of ws e.0 ≡ Some e.1
  pub stale : e.1.stale ≡ true
  pub fewer : (v : Watch) → v.stale ≡ false → stale_count ws ≡ suc (stale_count (set_value (bytes_eq e.0) ws v))

-- where it is the first of all
first-here : (x : Bytes × Watch) (ws : Watches) → x.1.stale ≡ true → IsFirst (x ∷ ws) x
first-here x ws stale = record {
  found = ap (λ b. cond b (Some x.1) (watch_of ws x.0)) (name_itself x.0);
  stale = stale;
  fewer = λ v fresh.
      ap (λ b. one_if b (stale_count ws)) stale
      ∙ ap (λ b. suc (one_if b (stale_count ws))) (sym fresh)
      ∙ sym (ap (λ b. suc (stale_count (cond b ((x.0, v) ∷ ws) (x ∷ set_value (bytes_eq x.0) ws v)))) (name_itself x.0));
}

-- where it is behind one that isn't stale
first-behind : (x : Bytes × Watch) (ws : Watches) (e : Bytes × Watch) → x.1.stale ≡ false → watch_of ws x.0 ≡ None → IsFirst ws e → IsFirst (x ∷ ws) e
first-behind x ws e fresh none is = by (bytes_eq e.0 x.0) refl
  where
    by : (b : Bool) → bytes_eq e.0 x.0 ≡ b → IsFirst (x ∷ ws) e
    by true h = absurd (let same = same_name e.0 x.0 h in let other : watch_of ws e.0 ≡ None = ap (watch_of ws) same ∙ none in let f = is.found in cc)
    by false h = record {
      found = ap (λ b. cond b (Some x.1) (watch_of ws e.0)) h ∙ is.found;
      stale = is.stale;
      fewer = λ v f.
          ap (λ b. one_if b (stale_count ws)) fresh ∙ is.fewer v f
          ∙ ap (λ b. suc (one_if b (stale_count (set_value (bytes_eq e.0) ws v)))) (sym fresh)
          ∙ sym (ap (λ b. suc (stale_count (cond b ((x.0, v) ∷ ws) (x ∷ set_value (bytes_eq e.0) ws v)))) h);
    }

-- among watches whose names differ
pub first-among : (ws : Watches) (e : Bytes × Watch) → AreDistinct ws → first_stale ws ≡ Some e → IsFirst ws e
first-among [] e all h = absurd (cc)
first-among (x ∷ ws) e all h = by x.1.stale refl h (first-among ws e all.1)
  where
    by : (b : Bool) → x.1.stale ≡ b → cond b (Some x) (first_stale ws) ≡ Some e → (first_stale ws ≡ Some e → IsFirst ws e) → IsFirst (x ∷ ws) e
    by true stale f rest = let same : x ≡ e = cc in subst (IsFirst (x ∷ ws)) same (first-here x ws stale)
    by false fresh f rest = first-behind x ws e fresh all.0 (rest f)

-- ---- what runs next

-- by the first stale watch
abbrev pub rerun_by_first : PartialState → Option (Bytes × Watch) → Rerun
rerun_by_first state o = option_map_or (λ entry. rerun_of entry.0 (exec entry.1.body.body state)) o rerun.NoneLeft

-- a run that was made is the first stale watch's
pub record HasRun (state : PartialState) (ws : Watches) (name : Bytes) (run : Run) : Type 0 where
  pub watch : Watch
  pub first : first_stale ws ≡ Some (name, watch)
  pub done : exec watch.body.body state ≡ done run

-- only the first stale watch runs, and it is done where there is a run
pub has-run : (state : PartialState) (ws : Watches) (name : Bytes) (run : Run) → next_rerun state ws ≡ rerun.Ran name run → HasRun state ws name run
has-run state ws name run e = by (first_stale ws) refl e
  where
    one : (x : Bytes × Watch) (r : Ran) → first_stale ws ≡ Some x → exec x.1.body.body state ≡ r → rerun_of x.0 r ≡ rerun.Ran name run
        → HasRun state ws name run
    one x (need address) f is h = absurd (cc)
    one x (done other) f is h =
        let named : x.0 ≡ name = cc in let same : other ≡ run = cc in record {
          watch = x.1;
          first = f ∙ ap (λ n. Some (n, x.1)) named;
          done = is ∙ ap done same;
        }

    by : (o : Option (Bytes × Watch)) → first_stale ws ≡ o → rerun_by_first state o ≡ rerun.Ran name run → HasRun state ws name run
    by None f h = absurd (cc)
    by (Some x) f h = one x (exec x.1.body.body state) f refl h

-- what is needed, the first stale watch's run needs
pub record Needs (state : PartialState) (ws : Watches) (address : Address) : Type 0 where
  pub entry : Bytes × Watch
  pub first : first_stale ws ≡ Some entry
  pub needed : exec entry.1.body.body state ≡ need address

-- only the first stale watch runs, so it is the one that needs a value
pub it-needs : (state : PartialState) (ws : Watches) (address : Address) → next_rerun state ws ≡ rerun.Need address → Needs state ws address
it-needs state ws address e = by (first_stale ws) refl e
  where
    one : (x : Bytes × Watch) (r : Ran) → first_stale ws ≡ Some x → exec x.1.body.body state ≡ r → rerun_of x.0 r ≡ rerun.Need address
        → Needs state ws address
    one x (need other) f is h = let same : other ≡ address = cc in record { entry = x; first = f; needed = is ∙ ap need same }
    one x (done run) f is h = absurd (cc)

    by : (o : Option (Bytes × Watch)) → first_stale ws ≡ o → rerun_by_first state o ≡ rerun.Need address → Needs state ws address
    by None f h = absurd (cc)
    by (Some x) f h = one x (exec x.1.body.body state) f refl h

-- the watch that has run takes its report, and one less is stale
pub one-fewer : (state : PartialState) (ws : Watches) (name : Bytes) (n : ℕ) (run : Run) → AreDistinct ws → next_rerun state ws ≡ rerun.Ran name run
    → stale_count ws ≡ suc (stale_count (with_report ws name n run))
one-fewer state ws name n run all e =
    let h = has-run state ws name run e in
    let f = first-among ws (name, h.watch) all h.first in
    f.fewer (settled n run h.watch) refl ∙ ap (λ o. suc (stale_count (reported_in ws name n run o))) (sym f.found)

-- and it is there
pub is-there : (state : PartialState) (ws : Watches) (name : Bytes) (run : Run) → AreDistinct ws → next_rerun state ws ≡ rerun.Ran name run
    → IsSome (watch_of ws name)
is-there state ws name run all e =
    let h = has-run state ws name run e in
    ap is_some (first-among ws (name, h.watch) all h.first).found

-- where nothing is left to run none is stale
pub none-if-left : (state : PartialState) (ws : Watches) → next_rerun state ws ≡ rerun.NoneLeft → first_stale ws ≡ None
none-if-left state ws e = by (first_stale ws) refl e
  where
    one : (x : Bytes × Watch) (r : Ran) → rerun_of x.0 r ≡ rerun.NoneLeft → ⊥
    one x (need address) h = cc
    one x (done run) h = cc

    by : (o : Option (Bytes × Watch)) → first_stale ws ≡ o → rerun_by_first state o ≡ rerun.NoneLeft → first_stale ws ≡ None
    by None f h = f
    by (Some x) f h = absurd (one x (exec x.1.body.body state) h)
