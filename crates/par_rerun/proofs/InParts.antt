-- Two parts of a list, one behind the other, come to what the list comes to.
use Rattle.std.proofs.Common.{◌≡◌, ◌≤◌, ◌+◌, ℕ, List, [], ◌∷◌, ◌++◌, take, drop, length, refl, sym, ap, ◌∙◌}
use Rattle.std.proofs.lemmas.List.{drop-drop, take-append-drop}
use Rattle.plain_data.specs.Texts.{Bytes}
use Rattle.txn_lang.specs.declared.run.Run.{Run}
use Rattle.txn_lang.specs.States.{PartialState}
use Rattle.watch_reruns.specs.declared.reruns.Reruns.{Reruns}
use Rattle.watch_reruns.specs.declared.reruns.Reruns.TheVariants as reruns
use Rattle.watch_reruns.specs.declared.reruns.WatchRun.{WatchRun}
use Rattle.watch_reruns.specs.declared.reruns.WatchRun.TheVariants as watch_run
use Rattle.rerun_driver.specs.Watches.{Bodies}
use Rattle.watch_reruns.specs.Reruns.{behind, begun_by, watch_rerun, reruns_of}
use Rattle.watch_reruns.proofs.Behind.{behind-none}
use Rattle.par_rerun.specs.Parts.{in_turn}

-- a watch's run is in front of two parts
begun-in_turn : (run : WatchRun) (part others : Reruns) → begun_by run (in_turn part others) ≡ in_turn (begun_by run part) others
begun-in_turn (watch_run.Need address) part others = refl
begun-in_turn (watch_run.Done name run) (reruns.Need address) others = refl
begun-in_turn (watch_run.Done name run) (reruns.Ran list) (reruns.Need address) = refl
begun-in_turn (watch_run.Done name run) (reruns.Ran list) (reruns.Ran more) = refl

-- two lists come to what the first comes to, and then the other
pub reruns-append : (state : PartialState) (first others : Bodies)
    → reruns_of state (first ++ others) ≡ in_turn (reruns_of state first) (reruns_of state others)
reruns-append state [] others = sym (behind-none (reruns_of state others))
reruns-append state (watch ∷ first) others =
    let run = watch_rerun state watch.0 watch.1 in
    ap (begun_by run) (reruns-append state first others) ∙ begun-in_turn run (reruns_of state first) (reruns_of state others)

-- a part of a list and what is behind it come to what the list comes to from that part on
pub part-and-behind : (state : PartialState) (list : Bodies) (from size : ℕ)
    → in_turn (reruns_of state (take size (drop from list))) (reruns_of state (drop (from + size) list)) ≡ reruns_of state (drop from list)
part-and-behind state list from size =
    ap (λ l. in_turn (reruns_of state (take size (drop from list))) (reruns_of state l)) (sym (drop-drop size from list))
    ∙ sym (reruns-append state (take size (drop from list)) (drop size (drop from list)))
    ∙ ap (reruns_of state) (take-append-drop size (drop from list))
