-- What is known of reruns once the first of them are done.
use Rattle.std.proofs.Common.{◌≡◌, List, [], ◌∷◌, ◌++◌, append_assoc, refl, sym, ap}
use Rattle.plain_data.specs.Texts.{Bytes}
use Rattle.txn_lang.specs.declared.run.Run.{Run}
use Rattle.watch_reruns.specs.declared.reruns.Reruns.{Reruns}
use Rattle.watch_reruns.specs.declared.reruns.Reruns.TheVariants as reruns
use Rattle.watch_reruns.specs.Reruns.{in_front, behind}

-- behind none
pub behind-none : (all : Reruns) → behind [] all ≡ all
behind-none (reruns.Need address) = refl
behind-none (reruns.Ran list) = refl

-- behind one more
pub behind-more : (list : List (Bytes × Run)) (ran : Bytes × Run) (all : Reruns) → behind list (in_front ran all) ≡ behind (list ++ ran ∷ []) all
behind-more list ran (reruns.Need address) = refl
behind-more list ran (reruns.Ran others) = ap reruns.Ran (sym (append_assoc list (ran ∷ []) others))
