-- What the code keeps goes with the body's own operations.
use Rattle.std.proofs.Common.{◌≡◌, Bool, true, false, List, [], ◌∷◌, ◌++◌, Option, Some, None, refl, ap, sym, ◌∙◌, subst, cond}
use Rattle.std.proofs.lemmas.List.Sums.{fold-append}
use Rattle.rdt_types.specs.declared.address.Address.{Address}
use Rattle.rdt_types.specs.declared.value.Value.{Value}
use Rattle.rdt_types.specs.declared.operation.WriteOp.{WriteOp}
use Rattle.rdt_types.specs.Values.{kind_written, default_of}
use Rattle.rdt_types.specs.Deltas.{delta_of}
use Rattle.rdt_types.specs.DeltaMaps.{with_delta}
use Rattle.conflict_table.specs.declared.read.ReadOp.{ReadOp}
use Rattle.conflict_table.specs.Reads.{replay, answer, is_decided, observed}
use Rattle.conflict_table.specs.Composed.{composed_of, left_by, observed_by}
use Rattle.conflict_table.proofs.Composing.{reads_go_by_compositions}
use Rattle.txn_trees.specs.declared.statement.Body.{Body}
use Rattle.write_buffer.specs.declared.asked.Asked.{Asked}
use Rattle.write_buffer.specs.declared.asked.Asked.TheVariants.{Answered, Need}
use Rattle.write_buffer.specs.Asking.{asked, asked_over, with_value}
use Rattle.txn_lang.specs.declared.progress.Stop.TheVariants as stop
use Rattle.txn_lang.specs.declared.progress.Progress.{Progress}
use Rattle.txn_lang.specs.States.{PartialState}
use Rattle.txn_lang.specs.Own.{Operations, at_address, with_seen, deltas_of, AreOfTheirKinds}
use Rattle.txn_lang.specs.Steps.{Step, stopped, gives, Stepping, answered, read_at, write_at}
use Rattle.txn_lang.specs.Items.{Names}
use Rattle.txn_lang.specs.Rules.{body_run}
use Rattle.txn_lang.specs.Execution.{Own, own_memory, own_read, own_value, ended, own_run, exec, begun, nothing_yet}
use Rattle.txn_lang.proofs.Replay.{delta_at-deltas, AllOf-at_address}
use Rattle.txn_lang.proofs.Simulation.{Suits, Simulates, Fine, Same, onto, body_simulates, answered_bounded, answered_lacking}
use Rattle.txn_eval.specs.declared.kept.Kept.{Kept}
use Rattle.txn_eval.specs.code.Buffering.{kept, answered_by, kept_write, nothing_kept, kept_ended, exec_over}

-- what is kept in place of own operations: their deltas, and the same observations
abbrev overlaid : Own → Kept
overlaid o = record { buffer = deltas_of o.operations; observations = o.observations }

-- the code keeps just that, and each operation is of the kind of its address
abbrev GoesWith : Own → Kept → Type 0
GoesWith o k = (k ≡ overlaid o) × AreOfTheirKinds o.operations

-- operations of their addresses' kinds stay so with one more that is of its own
all_push : (own : Operations) (w : Address × WriteOp) → AreOfTheirKinds own → kind_written w.1 ≡ w.0.kind → AreOfTheirKinds (own ++ w ∷ [])
all_push [] w all is = (is, tt)
all_push (x ∷ own) w all is = (all.0, all_push own w all.1 is)

module _ (s : PartialState) where
  -- a step over the own operations and one over the deltas go along with each other
  abbrev Both : {A : Type 0} → Stepping Own A → Stepping Kept A → Type 0
  Both f g = Simulates GoesWith (λ _. Unit {0}) (λ _. Unit {0}) (λ _. Unit {0}) f g

  -- two steps ended alike, and what they kept goes with each other
  abbrev Along : {A : Type 0} → Step Own A → Step Kept A → Type 0
  Along u v = Same GoesWith (λ _. Unit {0}) (λ _. Unit {0}) (λ _. Unit {0}) u v

  module _ (r : ReadOp) (a : Address) (p : Progress Own) (all : AreOfTheirKinds p.memory.operations) where
    -- the own operations at the address
    abbrev ops : List WriteOp
    ops = at_address a p.memory.operations

    -- what is kept in place of them
    abbrev over : Kept
    over = overlaid p.memory

    -- what the own operations answer
    abbrev told : Bool → Option Value → Asked
    told true v = Answered (answer r (replay ops (default_of a.kind))) None
    told false None = Need
    told false (Some v) = Answered (answer r (replay ops v)) (Some (observed r ops v))

    -- by whether they decide and whether a value is there: a composition leaves what its operations leave, and observes the same
    told_by : (b : Bool) (v : Option Value) → is_decided r ops ≡ b
        → cond b (Answered (answer r (left_by (composed_of ops) (default_of a.kind))) None) (with_value r (composed_of ops) v) ≡ told b v
    told_by true v is =
        ap (λ x. Answered (answer r x) None)
        (reads_go_by_compositions r a.kind ops (default_of a.kind) (AllOf-at_address a p.memory.operations all)).2
    told_by false None is = refl
    told_by false (Some v) is =
        let law = reads_go_by_compositions r a.kind ops v (AllOf-at_address a p.memory.operations all) in
        ap (λ x. Answered (answer r x) (Some (observed_by r (composed_of ops) v))) law.2
        ∙ ap (λ o. Answered (answer r (replay ops v)) (Some o)) (law.1 is)

    -- the deltas answer the same
    asked_is : (b : Bool) (v : Option Value) → is_decided r ops ≡ b → s a ≡ v → asked over.buffer a r (s a) ≡ told b v
    asked_is b v is there =
        ap (λ d. asked_over d a r (s a)) (delta_at-deltas p.memory.operations [] a)
        ∙ ap (asked_over (composed_of ops) a r) there
        ∙ ap (λ b. cond b (Answered (answer r (left_by (composed_of ops) (default_of a.kind))) None) (with_value r (composed_of ops) v))
        ((reads_go_by_compositions r a.kind ops (default_of a.kind) (AllOf-at_address a p.memory.operations all)).0 ∙ is)
        ∙ told_by b v is

    -- by whether they decide and whether a value is there: both answer and note the same, or both need the value
    told_along : (b : Bool) (v : Option Value)
        → Along (answered a (cond b (Some (answer r (replay ops (default_of a.kind)), p.memory)) (own_value r a v p.memory)) p)
        (answered a (answered_by a over (told b v)) (onto over p))
    told_along true v = (over, (refl, all), refl)
    told_along false None = (over, (refl, all), refl)
    told_along false (Some v) =
        (record { buffer = over.buffer; observations = with_seen p.memory.observations (record { address = a; obs = observed r ops v }) }, (refl, all), refl)

    -- so a read answers the same of both, as the deltas answer what the own operations do
    read_along : Along (read_at (own_memory s) r a p) (read_at (kept s) r a (onto over p))
    read_along =
        subst (λ t. Along (read_at (own_memory s) r a p) (answered a (answered_by a over t) (onto over p)))
        (sym (asked_is (is_decided r ops) (s a) refl refl)) (told_along (is_decided r ops) (s a))

  -- what goes with the own operations is their deltas, over which a read goes alike
  reads : (r : ReadOp) (a : Address) → Suits a.kind r → Both (read_at (own_memory s) r a) (read_at (kept s) r a)
  reads r a suits = record {
    back = λ p fine. tt;
    forth = λ p t with_it fine. subst (λ k. Along (read_at (own_memory s) r a p) (read_at (kept s) r a (onto k p))) (sym with_it.0)
        (read_along r a p with_it.1);
    bounded = λ p h. answered_bounded a (own_read s r a p.memory) p h;
    lacking = λ p. answered_lacking GoesWith (λ _. Unit {0}) (λ _. Unit {0}) (λ _. Unit {0}) a (own_read s r a p.memory) p (λ _. tt);
  }

  -- to add a delta to those of the operations is to take the deltas of the operations with one more
  writes : (a : Address) (o : WriteOp) → kind_written o ≡ a.kind → Both (write_at (own_memory s) a o) (write_at (kept s) a o)
  writes a o k = record {
    back = λ p fine. tt;
    forth = λ p t with_it fine. (
      kept_write a o t,
      (
        ap (kept_write a o) with_it.0
            ∙ ap (λ ds. record { buffer = ds; observations = p.memory.observations })
            (sym (fold-append (λ deltas w. with_delta deltas w.0 (delta_of w.1)) [] p.memory.operations ((a, o) ∷ []))),
        all_push p.memory.operations (a, o) with_it.1 k,
      ),
      refl,
    );
    bounded = λ p h. h;
    lacking = λ p. tt;
  }

  -- by how the run ended: its outcome, deltas and observations are those of the memory that goes with it
  ended_alike : (u : Step Own Names) (v : Step Kept Names)
      → (Fine GoesWith (λ _. Unit {0}) (λ _. Unit {0}) (λ _. Unit {0}) u → Along u v) → ended u ≡ kept_ended v
  ended_alike (gives x p) v sim = let z = sim tt in ap (λ b. kept_ended (gives x (onto b p))) (sym z.1.0) ∙ ap kept_ended (sym z.2)
  ended_alike (stopped (stop.Need a) p) v sim = let z = sim (tt, tt) in ap kept_ended (sym z.2)
  ended_alike (stopped (stop.Fail e) p) v sim =
      let z = sim (tt, tt) in ap (λ b. kept_ended (stopped (stop.Fail e) (onto b p))) (sym z.1.0) ∙ ap kept_ended (sym z.2)
  ended_alike (stopped stop.Spent p) v sim = let z = sim (tt, tt) in ap (λ b. kept_ended (stopped stop.Spent (onto b p))) (sym z.1.0) ∙ ap kept_ended (sym z.2)
  ended_alike (stopped stop.Big p) v sim = let z = sim (tt, tt) in ap (λ b. kept_ended (stopped stop.Big (onto b p))) (sym z.1.0) ∙ ap kept_ended (sym z.2)
  ended_alike (stopped stop.NoMemory p) v sim =
      let z = sim (tt, tt) in ap (λ b. kept_ended (stopped stop.NoMemory (onto b p))) (sym z.1.0) ∙ ap kept_ended (sym z.2)

-- the run of the rules over the own operations is the run over the deltas
pub exec_is_over : (b : Body) (s : PartialState) → exec b s ≡ exec_over b s
unfolding exec exec_over
exec_is_over b s =
    let sim = body_simulates GoesWith (λ _. Unit {0}) (λ _. Unit {0}) (λ _. Unit {0}) (own_memory s) (kept s) (reads s) (writes s) b in
    ended_alike s (own_run b s) (body_run (kept s) b (begun nothing_kept)) (sim.forth (begun nothing_yet) nothing_kept (refl, tt))
