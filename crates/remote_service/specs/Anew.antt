-- The body of an append, run anew on the values that were given. The client's word counts for nothing here: what is handed on is
-- made of the body's text, of what the service keeps, and of the bases that are named, which say which of that is meant.
use Rattle.std.specs.Prelude.{◌≡◌, ℕ, Bool, ◌&&◌, not, nat_le, if◌then◌else◌, List, [], ◌∷◌, ◌++◌, length, pos, Option, Some, None}
use Rattle.std.specs.Prelude.{option_map, codes, refl}
use Rattle.std.specs.List.{list_all}
use Rattle.std.specs.Map.{lookup}
use Rattle.std.specs.BTreeMap.{insert_entry, is_at}
use Rattle.rdt_types.specs.declared.value.Value.{Value}
use Rattle.rdt_types.specs.declared.value.Value.TheVariants as value
use Rattle.rdt_types.specs.Addresses.{address_cmp}
use Rattle.rdt_types.specs.Shards.{shard_of}
use Rattle.abort_witness.specs.declared.witness.Based.{Based}
use Rattle.txn_trees.specs.declared.statement.Body.{Body}
use Rattle.txn_lang.specs.declared.run.Run.{Run}
use Rattle.txn_lang.specs.declared.run.Seen.{Seen}
use Rattle.txn_lang.specs.declared.snaps.Snap.{Snap}
use Rattle.txn_lang.specs.Execution.{Ran, need, done, exec}
use Rattle.txn_lang.specs.Tree.{tree}
use Rattle.txn_eval.specs.Running.{values_of}
use Rattle.journal_core.specs.declared.limits.TheConstants.{LONGEST_BODY}
use Rattle.journal_core.specs.declared.ready.PreparedFront.{PreparedFront}
use Rattle.journal_core.specs.declared.ready.Ready.{Ready}
use Rattle.journal_core.specs.Bodies.{ends_in_blank}
use Rattle.record_code.specs.Fields.{◌>>=◌}
use Rattle.docc_prepare.specs.Attempts.{SnapList, based, in_shard, has_front}
use Rattle.docc_prepare.specs.Serial.{is_observed}
use Rattle.remote_wire.specs.declared.request.Base.{Base}
use Rattle.remote_service.specs.declared.kept.KeptSnap.{KeptSnap}
use Rattle.remote_service.specs.declared.kept.KeptFront.{KeptFront}
use Rattle.remote_service.specs.declared.service.Service.{Service}
use Rattle.remote_service.specs.Keeping.{value_kept, front_kept, counter_x, two_values}

-- ---- its body

-- whether a text is one as bodies are kept: at most 4,096 bytes, and no blank at its end
abbrev pub is_body_text : List ℕ → Bool
is_body_text text = nat_le (length text) LONGEST_BODY && not (ends_in_blank text)

-- the body that such a text is, if it is one
abbrev pub body_of : List ℕ → Option Body
body_of text = if is_body_text text then tree text else None

-- ---- its values

-- a value where none was read before
abbrev pub unless_read : Option Snap → Option Value → Option Value
unless_read None given = given
unless_read (Some snap) given = None

-- the value that was given at a named base, unless its address was named before
abbrev pub named_value : List KeptSnap → SnapList → Base → Option Value
named_value kept snaps named =
    unless_read (lookup (is_at (address_cmp named.address)) snaps) (value_kept kept named.address named.base)

-- the values with one more, at a named base
abbrev pub with_value : SnapList → Base → Value → SnapList
with_value snaps named v = insert_entry address_cmp snaps named.address (record { base = named.base; value = v })

-- these values, and those at the other named bases
abbrev pub values_on : List KeptSnap → List Base → SnapList → Option SnapList
values_on kept [] snaps = Some snaps
values_on kept (b ∷ rest) snaps = do
  v ← named_value kept snaps b
  values_on kept rest (with_value snaps b v)

-- The values at the named bases: none, where an address is named twice, or a base isn't among those that are kept.
abbrev pub values_at : List KeptSnap → List Base → Option SnapList
values_at kept named = values_on kept named []

-- ---- its run

-- a run that is done
abbrev pub if_done : Ran → Option Run
if_done (need address) = None
if_done (done run) = Some run

-- whether each named address was observed
abbrev pub are_observed : List Base → List Seen → Bool
are_observed named seen = list_all (λ b. is_observed seen b.address) named

-- The run of a body on the values at the named bases, where it is done and observed just these addresses. (None of others is
-- observed, since a run observes only what has a value.)
abbrev pub run_anew : Body → SnapList → List Base → Option Run
run_anew body snaps named = do
  run ← if_done (exec body (values_of snaps))
  if are_observed named run.observations then Some run else None

-- ---- its fronts

-- the front that was given last for what was observed in a shard
abbrev pub front_in : List KeptFront → ℕ → List Based → ℕ → Option ℕ
front_in kept shards observed shard = front_kept kept shard (in_shard shards shard observed)

-- the fronts with that of one shard more
abbrev pub and_front : List PreparedFront → ℕ → ℕ → List PreparedFront
and_front fronts shard front = fronts ++ record { shard = shard; front = front } ∷ []

-- the fronts with that of a shard, if it has none yet
abbrev pub with_shard : List KeptFront → ℕ → List Based → ℕ → List PreparedFront → Option (List PreparedFront)
with_shard kept shards observed shard fronts =
    if has_front fronts shard then Some fronts
    else option_map (and_front fronts shard) (front_in kept shards observed shard)

-- these fronts, and those of the shards in which something more was observed
abbrev pub fronts_on : List KeptFront → ℕ → List Based → List Seen → List PreparedFront → Option (List PreparedFront)
fronts_on kept shards observed [] fronts = Some fronts
fronts_on kept shards observed (z ∷ rest) fronts = do
  more ← with_shard kept shards observed (shard_of z.address shards) fronts
  fronts_on kept shards observed rest more

-- The front of each shard in which something was observed, the last that was given for just what was observed there: none, where
-- a shard has none.
abbrev pub fronts_for : List KeptFront → ℕ → SnapList → List Seen → Option (List PreparedFront)
fronts_for kept shards snaps seen = fronts_on kept shards (based snaps seen) seen []

-- ---- what is handed on

-- A body that is run anew: the values at the named bases, and its run on these.
abbrev pub ran_anew : List KeptSnap → List ℕ → List Base → Option (SnapList × Run)
ran_anew kept text named = do
  body ← body_of text
  snaps ← values_at kept named
  run ← run_anew body snaps named
  Some (snaps, run)

-- What is handed on of a run and of the values that it was run on.
abbrev pub handed_on : Service → ℕ → ℕ → List ℕ → SnapList × Run → Option Ready
handed_on s client shards text ran = do
  fronts ← fronts_for s.fronts shards ran.0 ran.1.observations
  Some (record {
    client = client;
    seq = s.seq;
    body = text;
    run = ran.1;
    based = based ran.0 ran.1.observations;
    fronts = fronts;
  })

-- WHAT IS HANDED ON OF AN APPEND that names a body's text and bases, of a client of a store with so many shards. There is nothing
-- to hand on where the text is none of a body, an address is named twice, a base isn't kept, the run isn't done with just these
-- addresses observed, or a shard has no front for what was observed in it.
abbrev pub made_anew : Service → ℕ → ℕ → List ℕ → List Base → Option Ready
made_anew s client shards text named = ran_anew s.snaps text named >>= λ ran. handed_on s client shards text ran

-- ---- worked lines

abbrev named_x : ℕ → Base
named_x base = record { address = counter_x; base = base }

-- the counter as it was after 4 commits
values_at-example : values_at two_values (named_x 4 ∷ []) ≡ Some ((counter_x, record { base = 4; value = value.Counter (pos 6) }) ∷ [])
values_at-example = refl

-- not after 2, since that wasn't given
values_at-unknown : values_at two_values (named_x 2 ∷ []) ≡ None
values_at-unknown = refl

-- and no address twice
values_at-twice : values_at two_values (named_x 3 ∷ named_x 4 ∷ []) ≡ None
values_at-twice = refl

-- who has observed nothing needs no front
fronts_for-nothing : fronts_for [] 4 [] [] ≡ Some []
fronts_for-nothing = refl

-- a body's text has no blank at its end
body_of-blank : body_of (codes "emit 1; ") ≡ None
body_of-blank = refl
