-- What it means that tokens are read back by a rule, and how that follows rule by rule.
use Rattle.std.proofs.Common.{◌≡◌, List, [], ◌∷◌, ◌++◌, map, Option, Some, refl, ap, sym, ◌∙◌, subst, append_assoc, append-nil}
use Rattle.std.specs.List.{flat_map}
use Rattle.predictive_parsing.specs.Rules.{Rule, One, Then, Pure, Many, none, more}
use Rattle.txn_grammar.specs.declared.token.Spot.{Spot}
use Rattle.txn_grammar.specs.declared.token.Token.{Token}
use Rattle.txn_print.specs.Pieces.{Piece}
use Rattle.txn_print.specs.ReadBack.{tokens}

-- the tokens of pieces
abbrev pub tokens_of : List Piece → List Token
tokens_of = map (λ (p : Piece). p.token)

-- each of them
abbrev pub Each : {A : Type 0} → (A → Type 0) → List A → Type 0
Each P [] = Unit {0}
Each P (x ∷ xs) = P x × Each P xs

-- what holds of each of two lists holds of each of both together: element by element of the first
pub Each-append : {A : Type 0} (P : A → Type 0) (xs ys : List A) → Each P xs → Each P ys → Each P (xs ++ ys)
Each-append P [] ys h k = k
Each-append P (x ∷ xs) ys h k = (h.0, Each-append P xs ys h.1 k)

-- ---- lists of tokens, cut

-- spots whose tokens are these, taken apart
record Cut (xs : List Spot) (a b : List Token) : Type 0 where
  left : List Spot
  right : List Spot
  whole : xs ≡ left ++ right
  lefts : tokens left ≡ a
  rights : tokens right ≡ b

-- one and others
record First (xs : List Spot) (x : Token) (b : List Token) : Type 0 where
  spot : Spot
  rest : List Spot
  whole : xs ≡ spot ∷ rest
  token : spot.token ≡ x
  others : tokens rest ≡ b

-- each spot has one token, so spots with tokens have a first one, and the others have the other tokens
first_of_them : (xs : List Spot) (x : Token) (b : List Token) → tokens xs ≡ x ∷ b → First xs x b
first_of_them [] x b e = absurd (cc)
first_of_them (s ∷ xs) x b e = record { spot = s; rest = xs; whole = refl; token = cc; others = cc }

-- spots are cut where their tokens are: one spot goes to the left for each token of the first part
cut : (a b : List Token) (xs : List Spot) → tokens xs ≡ a ++ b → Cut xs a b
cut [] b xs e = record { left = []; right = xs; whole = refl; lefts = refl; rights = e }
cut (x ∷ a) b xs e =
    let c = first_of_them xs x (a ++ b) e in
    let r = cut a b c.rest c.others in
    record {
      left = c.spot ∷ r.left;
      right = r.right;
      whole = c.whole ∙ ap (λ ys. c.spot ∷ ys) r.whole;
      lefts = ap (λ y. y ∷ tokens r.left) c.token ∙ ap (λ ys. x ∷ ys) r.lefts;
      rights = r.rights;
    }

-- each spot has a token, so where there are no tokens there are no spots
none_left : (xs : List Spot) → tokens xs ≡ [] → xs ≡ []
none_left [] e = refl
none_left (s ∷ xs) e = absurd (cc)

-- f goes to the elements of both lists: element by element of the first
map-append : {A B : Type 0} (f : A → B) (xs ys : List A) → map f (xs ++ ys) ≡ map f xs ++ map f ys
map-append f [] ys = refl
map-append f (x ∷ xs) ys = ap (λ zs. f x ∷ zs) (map-append f xs ys)

-- ---- read back

-- The rule derives a value from these spots, whatever follows, and seen by e it is w.
pub record Again {A B : Type 0} (e : A → B) (R : Rule Spot A) (xs vs : List Spot) (w : B) : Type 0 where
  pub value : A
  pub derives : R (xs ++ vs) value vs
  pub alike : e value ≡ w

module _ (Good : Piece → Type 0) where
  -- The pieces are good ones, and wherever their tokens stand, the rule derives a value from them that is w, seen by e.
  pub record Back {A B : Type 0} (e : A → B) (R : Rule Spot A) (pieces : List Piece) (w : B) : Type 0 where
    pub good : Each Good pieces
    pub again : (xs vs : List Spot) → tokens xs ≡ tokens_of pieces → Again e R xs vs w

  -- the same by a rule that derives as much
  pub within : {A B : Type 0} (e : A → B) (R Q : Rule Spot A) (pieces : List Piece) (w : B)
      → ((ts us : List Spot) (a : A) → R ts a us → Q ts a us) → Back e R pieces w → Back e Q pieces w
  within e R Q pieces w f b = record {
    good = b.good;
    again = λ xs vs h. let z = b.again xs vs h in record { value = z.value; derives = f (xs ++ vs) vs z.value z.derives; alike = z.alike };
  }

  -- nothing at all
  pub pure_back : {A B : Type 0} (e : A → B) (a : A) (w : B) → e a ≡ w → Back e (Pure a) [] w
  pure_back e a w h = record {
    good = tt;
    again = λ xs vs g. record { value = a; derives = record { is = refl; here = ap (λ ys. ys ++ vs) (none_left xs g) }; alike = h };
  }

  -- what f makes of one token
  pub record Made {A B : Type 0} (e : A → B) (f : Spot → Option A) (spot : Spot) (w : B) : Type 0 where
    pub value : A
    pub made : f spot ≡ Some value
    pub alike : e value ≡ w

  -- there is exactly one spot, and what f makes of it goes by its token
  one_again : {A B : Type 0} (e : A → B) (f : Spot → Option A) (piece : Piece) (w : B)
      → ((spot : Spot) → spot.token ≡ piece.token → Made e f spot w) → (xs vs : List Spot) → tokens xs ≡ piece.token ∷ []
      → Again e (One f) xs vs w
  one_again e f piece w made xs vs h =
      let x = first_of_them xs piece.token [] h in
      let m = made x.spot x.token in
      record {
        value = m.value;
        derives = record { item = x.spot; first = ap (λ ys. ys ++ vs) (x.whole ∙ ap (λ ys. x.spot ∷ ys) (none_left x.rest x.others)); made = m.made };
        alike = m.alike;
      }

  -- the rule takes the one token; f makes a value of it that looks like w, wherever it stands
  pub one_back : {A B : Type 0} (e : A → B) (f : Spot → Option A) (piece : Piece) (w : B) → Good piece
      → ((spot : Spot) → spot.token ≡ piece.token → Made e f spot w) → Back e (One f) (piece ∷ []) w
  one_back e f piece w g made = record { good = (g, tt); again = one_again e f piece w made }

  -- some spots with these tokens
  spots : List Piece → List Spot
  spots [] = []
  spots (p ∷ ps) = record { column = 0; token = p.token } ∷ spots ps

  -- each spot was made with the token of its piece
  spots-tokens : (ps : List Piece) → tokens (spots ps) ≡ tokens_of ps
  unfolding spots
  spots-tokens [] = refl
  spots-tokens (p ∷ ps) = ap (λ xs. p.token ∷ xs) (spots-tokens ps)

  -- one thing and then another
  then_again : {A B C D : Type 0} (e : A → C) (f : B → D) (P : Rule Spot A) (Q : A → Rule Spot B) (ps qs : List Piece) (w : C) (v : D)
      → Back e P ps w → ((a : A) → e a ≡ w → Back f (Q a) qs v) → (xs vs : List Spot) → tokens xs ≡ tokens_of (ps ++ qs) → Again f (Then P Q) xs vs v
  then_again e f P Q ps qs w v b c xs vs h =
      let x = cut (tokens_of ps) (tokens_of qs) xs (h ∙ map-append (λ (p : Piece). p.token) ps qs) in
      let y = b.again x.left (x.right ++ vs) x.lefts in
      let z = (c y.value y.alike).again x.right vs x.rights in
      let all : x.left ++ (x.right ++ vs) ≡ xs ++ vs = sym (ap (λ ys. ys ++ vs) x.whole ∙ append_assoc x.left x.right vs) in
      record {
        value = z.value;
        derives = record { value = y.value; middle = x.right ++ vs; first = subst (λ ys. P ys y.value (x.right ++ vs)) all y.derives; second = z.derives };
        alike = z.alike;
      }

  -- the tokens are cut behind the first part; the second rule reads on, whatever value like w was read before it
  pub then_back : {A B C D : Type 0} (e : A → C) (f : B → D) (P : Rule Spot A) (Q : A → Rule Spot B) (ps qs : List Piece) (w : C) (v : D)
      → Back e P ps w → ((a : A) → e a ≡ w → Back f (Q a) qs v) → Back f (Then P Q) (ps ++ qs) v
  then_back e f P Q ps qs w v b c =
      let x = b.again (spots ps) [] (spots-tokens ps) in
      record { good = Each-append Good ps qs b.good (c x.value x.alike).good; again = then_again e f P Q ps qs w v b c }

  -- one thing, seen as another value
  pub mapped_back : {A B C D : Type 0} (e : A → C) (f : B → D) (P : Rule Spot A) (g : A → B) (ps : List Piece) (w : C) (v : D)
      → Back e P ps w → ((a : A) → e a ≡ w → f (g a) ≡ v) → Back f (Then P (λ a. Pure (g a))) ps v
  mapped_back e f P g ps w v b h =
      subst (λ qs. Back f (Then P (λ a. Pure (g a))) qs v) (append-nil ps)
      (then_back e f P (λ a. Pure (g a)) ps [] w v b (λ a k. pure_back f (g a) v (h a k)))

  -- one and any number of others
  more_again : {A B : Type 0} (e : A → B) (P : Rule Spot A) (pieces : A → List Piece) (a : A) (as_ : List A)
      → Back e P (pieces a) (e a) → Back (map e) (Many P) (flat_map pieces as_) (map e as_)
      → (xs vs : List Spot) → tokens xs ≡ tokens_of (flat_map pieces (a ∷ as_)) → Again (map e) (Many P) xs vs (map e (a ∷ as_))
  more_again e P pieces a as_ b rest xs vs h =
      let qs = flat_map pieces as_ in
      let x = cut (tokens_of (pieces a)) (tokens_of qs) xs (h ∙ map-append (λ (p : Piece). p.token) (pieces a) qs) in
      let y = b.again x.left (x.right ++ vs) x.lefts in
      let z = rest.again x.right vs x.rights in
      let all : x.left ++ (x.right ++ vs) ≡ xs ++ vs = sym (ap (λ ys. ys ++ vs) x.whole ∙ append_assoc x.left x.right vs) in
      record {
        value = y.value ∷ z.value;
        derives = subst (λ ys. Many P ys (y.value ∷ z.value) vs) all (more (x.left ++ (x.right ++ vs)) (x.right ++ vs) vs y.value z.value y.derives z.derives);
        alike = ap (λ b. b ∷ map e z.value) y.alike ∙ ap (λ bs. e a ∷ bs) z.alike;
      }

  -- any number of them, one after another
  pub many_back : {A B : Type 0} (e : A → B) (P : Rule Spot A) (pieces : A → List Piece) (as_ : List A)
      → Each (λ a. Back e P (pieces a) (e a)) as_ → Back (map e) (Many P) (flat_map pieces as_) (map e as_)
  many_back e P pieces [] h = record {
    good = tt;
    again = λ xs vs k. record { value = []; derives = subst (λ ys. Many P (ys ++ vs) [] vs) (sym (none_left xs k)) (none vs); alike = refl };
  }
  many_back e P pieces (a ∷ as_) h =
      let rest = many_back e P pieces as_ h.1 in
      record { good = Each-append Good (pieces a) (flat_map pieces as_) h.0.good rest.good; again = more_again e P pieces a as_ h.0 rest }
