-- What the reruns of a list come to where it is run in two parts.
use Rattle.std.specs.Prelude.{◌≡◌, List, [], ◌∷◌, refl}
use Rattle.plain_data.specs.Texts.{Bytes}
use Rattle.rdt_types.specs.declared.address.Address.{Address}
use Rattle.txn_lang.specs.declared.run.Run.{Run}
use Rattle.watch_reruns.specs.declared.reruns.Reruns.{Reruns}
use Rattle.watch_reruns.specs.declared.reruns.Reruns.TheVariants as reruns
use Rattle.watch_reruns.specs.Reruns.{behind}

-- TWO PARTS: the first needs a value, and that is all; or its runs are done, and the others are behind them
abbrev pub in_turn : Reruns → Reruns → Reruns
in_turn (reruns.Need address) others = reruns.Need address
in_turn (reruns.Ran list) others = behind list others

-- ---- worked

-- of two parts that need a value the first tells which
parts-first : (address other : Address) → in_turn (reruns.Need address) (reruns.Need other) ≡ reruns.Need address
parts-first address other = refl

-- where the second alone needs one, what the first has run isn't told
parts-second : (ran : Bytes × Run) (address : Address) → in_turn (reruns.Ran (ran ∷ [])) (reruns.Need address) ≡ reruns.Need address
parts-second ran address = refl

-- the runs of two parts are in their order
parts-two : (one two : Bytes × Run) → in_turn (reruns.Ran (one ∷ [])) (reruns.Ran (two ∷ [])) ≡ reruns.Ran (one ∷ two ∷ [])
parts-two one two = refl
