-- What two calls have added, one after another.
use Rattle.std.proofs.Common.{◌≡◌, ℕ, ◌++◌, refl, ap, ◌∙◌, append_assoc}
use Rattle.std.specs.Prelude.{codes}
use Rattle.plain_data.specs.Texts.{Bytes}
use Rattle.load_script.specs.LoadText.{key_in, puts}

-- it stands behind what there was
pub two_added : (text a b both one two : Bytes) → a ++ b ≡ both → one ≡ text ++ a → two ≡ one ++ b → two ≡ text ++ both
two_added text a b both one two are first second =
    second ∙ ap (λ t. t ++ b) first ∙ append_assoc text a b ∙ ap (λ t. text ++ t) are

-- the two keys of a put
pub puts_are : (p q : ℕ) → key_in (codes "hash(\"h\").put(") p (codes ",") ++ key_in (codes " ") q (codes ");") ≡ puts p q
unfolding puts
puts_are p q = refl
