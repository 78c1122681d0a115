-- Threads may share a driver: nothing of it is a thread's own.
use mathlib.Core.List.{List, [], ◌∷◌}
use mir.Syntax.{Lifetime, Sym}
use base.Fml.{Lft}
use denote.RattleType.{RattleType}
use denote.Ref.{ShrRef}
use denote.Struct.Field.{u64-field}
use denote.Struct.Tuple.{TupleAt, type_at}
use denote.Param.Send.{IsSend, IsSync, sendable, shr_send, view_sync}
use denote.Param.SendFields.{declared_send, declared_sync}
use Rattle.std.proofs.Crossing.{crosses}
use Rattle.std.proofs.MapsCrossing.{crosses as maps}
use Rattle.plain_data.proofs.boxed.Boxed.TheSendSync.{the_sync as boxed_sync}
use Rattle.plain_data.proofs.sequence.Sequence.TheSendSync.{the_sync as sequence_sync}
use Rattle.rdt_types.proofs.address.Kind.TheSendSync.{the_field_sync as kind_sync}
use Rattle.txn_trees.proofs.word.Operator.TheSendSync.{the_field_sync as operator_sync}
use Rattle.txn_trees.proofs.word.ReadWord.TheSendSync.{the_field_sync as read_sync}
use Rattle.txn_trees.proofs.word.Relation.TheSendSync.{the_field_sync as relation_sync}
use Rattle.txn_trees.proofs.word.WriteWord.TheSendSync.{the_field_sync as write_sync}
use Rattle.std.proofs.option.Option.TheSendSync.{the_sync as option_sync}
use Rattle.txn_trees.proofs.expression.ExprNode.TheLaws.TheKnot.{crosses as expressions, sync-Expr}
use Rattle.txn_trees.proofs.statement.StmtNode.TheLaws.TheKnot.{crosses as statements, sync-Stmt}
use Rattle.txn_trees.specs.contracts.statement.Stmt as stmt
use Rattle.txn_trees.specs.contracts.statement.Body as body
use Rattle.txn_lang.specs.contracts.checked.Checked as checked
use Rattle.txn_lang.specs.contracts.run.Seen as seen
use Rattle.plain_data.proofs.text_map.TextMap.TheSendSync.{the_sync as map_sync}
use Rattle.plain_data.proofs.ordered_map.OrderedMap.TheSendSync.{the_sync as ordered_sync}
use Rattle.rdt_types.specs.contracts.address.Address as address
use Rattle.rdt_types.specs.contracts.value.Value as value
use Rattle.client_cache.specs.contracts.cache.Cache as cache
use Rattle.client_cache.specs.contracts.cache.Cache.TheInside as cache_inside
use Rattle.rerun_driver.specs.contracts.numbers.Numbers as numbers
use Rattle.rerun_driver.specs.contracts.places.Places as places
use Rattle.rerun_driver.specs.contracts.watch.Watch as watch
use Rattle.rerun_driver.specs.contracts.roll.Roll as roll
use Rattle.rerun_driver.specs.contracts.roll.Roll.TheInside as roll_inside
use Rattle.rerun_driver.specs.contracts.driver.Driver as driver
use Rattle.rerun_driver.specs.contracts.driver.Driver.TheInside as driver_inside

numbers_sync : IsSync numbers.the_row
numbers_sync = search (crosses, sendable) depth 20

seen_sync : IsSync seen.the_row
seen_sync = search (crosses, sendable) depth 20

stmt_sync : IsSync stmt.the_row
stmt_sync = search (statements, expressions, option_sync, boxed_sync, sequence_sync, kind_sync, operator_sync, read_sync, relation_sync, write_sync, crosses, sendable) depth 30

body_sync : IsSync body.the_row
body_sync = search (stmt_sync, sequence_sync, crosses, sendable) depth 20

checked_sync : IsSync checked.the_row
checked_sync = declared_sync checked.the_type (
  search (body_sync, sendable) depth 20,
  (search (sequence_sync, crosses, sendable) depth 20, (search sendable depth 20, tt)),
)

watch_sync : IsSync watch.the_row
watch_sync = declared_sync watch.the_type (
  search (checked_sync, sendable) depth 20,
  (search sendable depth 20, (search (sequence_sync, seen_sync, crosses, sendable) depth 20, (search sendable depth 20, tt))),
)

places_sync : IsSync places.the_row
places_sync = search (maps, crosses, numbers_sync, sendable) depth 20

roll_sync : IsSync roll.the_row
roll_sync = view_sync _ _ _ _ _ (declared_sync roll_inside.the_type (
  search (numbers_sync, sendable) depth 20,
  (search (watch_sync, crosses, sendable) depth 30, (search (numbers_sync, sendable) depth 20, (search sendable depth 20, tt))),
))

pub driver_sync : IsSync driver.the_row
driver_sync = view_sync _ _ _ _ _ (declared_sync driver_inside.the_type (
  search (crosses, sendable) depth 20,
  (search (roll_sync, sendable) depth 20, (search (places_sync, sendable) depth 20, (search sendable depth 20, tt))),
))

-- ---- a cache

address_sync : IsSync address.the_row
address_sync = declared_sync address.the_type (search (kind_sync, sendable) depth 20, (search (sequence_sync, crosses, sendable) depth 20, tt))

value_sync : IsSync value.the_row
value_sync = search (map_sync, ordered_sync, sequence_sync, crosses, sendable) depth 30

-- nor is anything of a cache
pub cache_sync : IsSync cache.the_row
cache_sync = view_sync _ _ _ _ _ (declared_sync cache_inside.the_type (
  search (crosses, sendable) depth 20,
  (search sendable depth 20, (search (maps, address_sync, value_sync, sendable) depth 20, tt)),
))

-- ---- a number

pub number_sync : IsSync u64-field.row
number_sync = search sendable depth 20

-- ---- what a closure has of six variables

module _ (name : Sym) (l1 l2 l3 l4 l5 l6 : Lifetime) (k1 k2 k3 k4 k5 k6 : Lft) (A B C D E F : RattleType) where
  -- it may go to another thread where threads may share all six
  pub six_send : IsSync A → IsSync B → IsSync C → IsSync D → IsSync E → IsSync F
      → IsSend (TupleAt name (ShrRef l1 k1 A ∷ ShrRef l2 k2 B ∷ ShrRef l3 k3 C ∷ ShrRef l4 k4 D ∷ ShrRef l5 k5 E ∷ ShrRef l6 k6 F ∷ []))
  six_send s1 s2 s3 s4 s5 s6 = declared_send (type_at name (ShrRef l1 k1 A ∷ ShrRef l2 k2 B ∷ ShrRef l3 k3 C ∷ ShrRef l4 k4 D ∷ ShrRef l5 k5 E ∷ ShrRef l6 k6 F ∷ [])) (
    search (shr_send, s1) depth 6,
    (
      search (shr_send, s2) depth 6,
      (
        search (shr_send, s3) depth 6,
        (search (shr_send, s4) depth 6, (search (shr_send, s5) depth 6, (search (shr_send, s6) depth 6, tt))),
      ),
    ),
  )
