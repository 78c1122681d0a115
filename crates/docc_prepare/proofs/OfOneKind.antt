-- Kinds: the values that a journal leaves are of the kinds of their addresses.
use Rattle.std.proofs.Common.{◌≡◌, [], ◌∷◌, fold, Option, Some, None, refl, ◌∙◌}
use Rattle.std.specs.List.{AllByRecursion}
use Rattle.rdt_types.specs.declared.address.Kind.{Kind}
use Rattle.rdt_types.specs.declared.address.Kind.TheVariants as kind
use Rattle.rdt_types.specs.declared.address.Address.{Address}
use Rattle.rdt_types.specs.declared.value.Value.{Value}
use Rattle.rdt_types.specs.declared.delta.Delta.{Delta}
use Rattle.rdt_types.specs.declared.delta.Delta.TheVariants as delta
use Rattle.rdt_types.specs.Values.{kind_of, default_of}
use Rattle.rdt_types.specs.Deltas.{apply, kind_changed}
use Rattle.rdt_types.specs.DeltaMaps.{Deltas, delta_at}
use Rattle.txn_lang.specs.declared.commit.Commit.{Commit}
use Rattle.txn_lang.specs.States.{Journal, after, apply_maybe}
use Rattle.docc_prepare.specs.Serial.{AreOfTheirKinds}
use Rattle.journal_core.proofs.OfRuns.{kind-at}

-- ---- values that a journal leaves

-- what a delta leaves is of the delta's kind, whatever stood there before
kind-apply : (d : Delta) (v : Value) → kind_of (apply d v) ≡ kind_changed d
kind-apply (delta.PutBool b) v = refl
kind-apply (delta.PutCounter n) v = refl
kind-apply (delta.AddCounter n) v = refl
kind-apply (delta.PutText t) v = refl
kind-apply (delta.Set d) v = refl
kind-apply (delta.Hash d) v = refl
kind-apply (delta.List d) v = refl
kind-apply (delta.Raise n) v = refl

-- by whether a commit changes the address: its delta there is of the kind of the address
kind-changed : (ds : Deltas) (a : Address) (v : Value) → AreOfTheirKinds ds → kind_of v ≡ a.kind → kind_of (after ds a v) ≡ a.kind
kind-changed ds a v all is = by (delta_at ds a) refl
  where
    by : (o : Option Delta) → delta_at ds a ≡ o → kind_of (apply_maybe o v) ≡ a.kind
    by None e = is
    by (Some d) e = kind-apply d v ∙ kind-at ds a d all e

-- the default of a kind is of that kind
kind-default : (k : Kind) → kind_of (default_of k) ≡ k
kind-default kind.Bool = refl
kind-default kind.Counter = refl
kind-default kind.Text = refl
kind-default kind.Set = refl
kind-default kind.Hash = refl
kind-default kind.List = refl
kind-default kind.Peak = refl

-- so commit after commit leaves a value of the kind of the address
kind-folded : (journal : Journal) (a : Address) (v : Value) → AllByRecursion (λ commit. AreOfTheirKinds commit.deltas) journal → kind_of v ≡ a.kind
    → kind_of (fold (λ value (commit : Commit). after commit.deltas a value) v journal) ≡ a.kind
kind-folded [] a v all is = is
kind-folded (commit ∷ journal) a v all is = kind-folded journal a (after commit.deltas a v) all.1 (kind-changed commit.deltas a v all.0 is)

-- what a journal leaves at an address is of its kind
pub kind-left : (journal : Journal) (a : Address) → AllByRecursion (λ commit. AreOfTheirKinds commit.deltas) journal
    → kind_of (fold (λ value (commit : Commit). after commit.deltas a value) (default_of a.kind) journal) ≡ a.kind
kind-left journal a all = kind-folded journal a (default_of a.kind) all (kind-default a.kind)
