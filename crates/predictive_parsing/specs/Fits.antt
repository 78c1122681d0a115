-- What it means that a reader reads exactly what a rule derives and refuses at the first item that the rule can't go on
-- with. `Possible` says which items can come at all.
use Rattle.std.specs.Prelude.{◌≡◌, Bool, true, not, ◌&&◌, List, [], ◌++◌, Option, Ok, Err}
use Rattle.std.specs.List.{All}
use Rattle.predictive_parsing.specs.Reading.{Reader, next}
use Rattle.predictive_parsing.specs.Rules.{Rule}

-- The reader took this prefix. The rule derives it whatever follows, and it is read again where the same item is ahead.
pub record Taken {I A : Type 0} (p : Reader I A) (P : Rule I A) (ts : List I) (a : A) (us : List I) : Type 0 where
  pub prefix : List I
  pub cut : ts ≡ prefix ++ us
  pub derives : (vs : List I) → P (prefix ++ vs) a vs
  pub again : (vs : List I) → next vs ≡ next us → p (prefix ++ vs) ≡ Ok (a, vs)

-- These items go on to something that the rule derives.
pub record Completes {I A : Type 0} (Possible : I → Type 0) (P : Rule I A) (prefix : List I) : Type 0 where
  pub rest : List I
  pub value : A
  pub possible : All Possible rest
  pub derives : (vs : List I) → P (prefix ++ (rest ++ vs)) value vs

-- The reader took this prefix and no further: the prefix goes on to something, and not by the item ahead.
pub record Stuck {I A : Type 0} (Possible : I → Type 0) (p : Reader I A) (P : Rule I A) (ts us : List I) : Type 0 where
  pub prefix : List I
  pub cut : ts ≡ prefix ++ us
  pub again : (vs : List I) → next vs ≡ next us → p (prefix ++ vs) ≡ Err vs
  pub completes : Completes Possible P prefix

-- The reader and the rule agree wherever the item behind the value satisfies `follows`.
pub record Fits {I A : Type 0} (Possible : I → Type 0) (p : Reader I A) (P : Rule I A) (follows : Option I → Bool) : Type 0 where
  pub takes : (ts us : List I) (a : A) → p ts ≡ Ok (a, us) → Taken p P ts a us
  pub reads : (ts us : List I) (a : A) → P ts a us → follows (next us) ≡ true → p ts ≡ Ok (a, us)
  pub refuses : (ts us : List I) → p ts ≡ Err us → Stuck Possible p P ts us
  pub some : Completes Possible P []

-- anything may follow
abbrev pub any : {I : Type 0} → Option I → Bool
any ahead = true

-- what may follow unless it could be taken for the beginning of something else
abbrev pub unless : {I : Type 0} → (Option I → Bool) → (Option I → Bool) → Option I → Bool
unless starts follows ahead = follows ahead && not (starts ahead)
