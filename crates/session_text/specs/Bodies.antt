-- The bodies of verbs.
use Rattle.std.specs.Prelude.{◌≡◌, ◌≤◌, ℕ, length, Option, Some, None}
use Rattle.plain_data.specs.Texts.{Bytes}
use Rattle.session_text.specs.declared.verb.Verb.{Verb}
use Rattle.session_text.specs.declared.verb.Verb.TheVariants as verb

-- the text of a verb's body, if it has one
abbrev pub body_in : Verb → Option Bytes
body_in (verb.Do text) = Some text
body_in (verb.Try attempts text) = Some text
body_in (verb.Begin text) = Some text
body_in (verb.Look text) = Some text
body_in (verb.At number text) = Some text
body_in (verb.Watch name text) = Some text
body_in other = None

-- a verb whose body is no longer than this
abbrev pub IsWithin : ℕ → Verb → Type 0
IsWithin limit v = (text : Bytes) → body_in v ≡ Some text → length text ≤ limit
