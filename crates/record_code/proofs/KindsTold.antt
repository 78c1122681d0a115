-- Kinds are told apart, and version 2 has them all.
use Rattle.std.proofs.Common.{◌≡◌, ◌&&◌, ℕ, true, List, [], ◌∷◌, Option, Some, None, refl, ap, ◌∙◌, subst}
use Rattle.std.specs.List.{AllByRecursion, list_all}
use denote.Enum.Bare.{same_true}
use Rattle.rdt_types.specs.declared.address.Kind.{Kind}
use Rattle.rdt_types.specs.declared.address.Kind.TheVariants as kind
use Rattle.rdt_types.specs.contracts.address.Kind.{the_type}
use Rattle.rdt_types.specs.contracts.address.KindPartialEq.TheImpl as kinds
use Rattle.rdt_types.specs.DeltaMaps.{Deltas}
use Rattle.txn_grammar.specs.declared.token.Spot.{Spot}
use Rattle.txn_grammar.specs.Tokens.{of_symbol, kind_of}
use Rattle.txn_grammar.specs.Lexer.{lex}
use Rattle.commit_file.specs.declared.version.Version.TheVariants as version
use Rattle.record_code.specs.Reading.{has_kind, has_told, suits_spot, has_kinds}
use Rattle.record_code.specs.Payloads.{IsKindOf}
use Rattle.record_code.specs.Laws.{TwoHasAllKinds}

pub kind_same : (a b : Kind) → kinds.ghosts.eq a b ≡ true → a ≡ b
kind_same a b e = same_true the_type tt a b e

itself : (a : Kind) → kinds.ghosts.eq a a ≡ true
itself kind.Bool = refl
itself kind.Counter = refl
itself kind.Text = refl
itself kind.Set = refl
itself kind.Hash = refl
itself kind.List = refl
itself kind.Peak = refl

pub kind_itself : (a b : Kind) → a ≡ b → kinds.ghosts.eq a b ≡ true
kind_itself a b e = subst (λ (k : Kind). kinds.ghosts.eq a k ≡ true) e (itself a)

-- version 2 has every kind
pub two_has : (k : Kind) → IsKindOf version.Two k
two_has kind.Bool = refl
two_has kind.Counter = refl
two_has kind.Text = refl
two_has kind.Set = refl
two_has kind.Hash = refl
two_has kind.List = refl
two_has kind.Peak = refl

written : (deltas : Deltas) → AllByRecursion (λ pair. IsKindOf version.Two pair.0.kind) deltas
written [] = tt
written (x ∷ deltas) = (two_has x.0.kind, written deltas)

-- and so it has those of every body
two_has-kind : (k : Kind) → has_kind version.Two k ≡ true
two_has-kind kind.Bool = refl
two_has-kind kind.Counter = refl
two_has-kind kind.Text = refl
two_has-kind kind.Set = refl
two_has-kind kind.Hash = refl
two_has-kind kind.List = refl
two_has-kind kind.Peak = refl

two_has-told : (k : Option Kind) → has_told version.Two k ≡ true
two_has-told None = refl
two_has-told (Some k) = two_has-kind k

two_has-spots : (spots : List Spot) → list_all (suits_spot version.Two) spots ≡ true
two_has-spots [] = refl
two_has-spots (spot ∷ spots) =
    ap (λ b. b && list_all (suits_spot version.Two) spots) (two_has-told (of_symbol kind_of spot.token))
    ∙ two_has-spots spots

pub two_has-body : (text : List ℕ) → has_kinds version.Two text ≡ true
two_has-body text = two_has-spots (lex text)

pub two_has_all_kinds : TwoHasAllKinds
two_has_all_kinds commit = record { body = two_has-body commit.body; deltas = written commit.deltas }
