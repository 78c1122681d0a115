-- The tree of a text.
use Rattle.std.proofs.Common.{◌≡◌, Option, Some, None, Ok, Err, refl, ap, ◌∙◌, subst}
use Rattle.txn_trees.specs.declared.statement.Body.{Body}
use Rattle.txn_grammar.specs.Characters.{Text}
use Rattle.txn_grammar.specs.Parsed.{parsed}
use Rattle.txn_grammar.proofs.Parses.{parsed_sound, parsed_complete}
use Rattle.txn_lang.specs.Types.{Names}
use Rattle.txn_lang.specs.Typing.{Judged, judge, IsTyped}
use Rattle.txn_lang.specs.Tree.{if_accepted, if_typed, tree, TreesAreTypedBodies}
use Rattle.txn_lang.proofs.Typing.{bodies_are_judged}

-- a body that was accepted
accepted : (b c : Body) (r : Judged Names) → judge b ≡ r → if_accepted b r ≡ Some c → (b ≡ c) × IsTyped b
accepted b c (Ok names) e h = (cc, (bodies_are_judged b).0 (names, e))
accepted b c (Err column) e h = absurd (cc)

-- what is read and accepted
read_and_accepted : (z : Text) (c : Body) (o : Option Body) → parsed z ≡ o → if_typed o ≡ Some c → (parsed z ≡ Some c) × IsTyped c
read_and_accepted z c None e h = absurd (cc)
read_and_accepted z c (Some b) e h =
    let k = accepted b c (judge b) refl h in
    (e ∙ ap (λ x. Some x) k.0, subst IsTyped k.0 k.1)

-- a tree is a body that was read and is well typed
pub tree_read : (z : Text) (b : Body) → tree z ≡ Some b → (parsed z ≡ Some b) × IsTyped b
unfolding tree
tree_read z b e = read_and_accepted z b (parsed z) refl e

-- and such a body is the tree
pub tree_of_typed : (z : Text) (b : Body) → parsed z ≡ Some b → IsTyped b → tree z ≡ Some b
unfolding tree
tree_of_typed z b e t = let found = (bodies_are_judged b).1 t in ap if_typed e ∙ ap (if_accepted b) found.1

-- the reader finds what the grammar derives, and the checker accepts what is well typed, no more and no less
pub trees_are_typed_bodies : TreesAreTypedBodies
trees_are_typed_bodies z b =
    (λ e. let k = tree_read z b e in (parsed_sound z b k.0, k.1), λ h. tree_of_typed z b (parsed_complete z b h.0) h.1)
