-- Lists of links: accepted one after another, joined, and given back.
use Rattle.std.proofs.Common.{◌≡◌, ℕ, ◌+◌, ◌==◌, ◌≤◌, List, [], ◌∷◌, ◌++◌, length, map, Bool, true, false, Option, Result, Ok}
use Rattle.std.proofs.Common.{Err, refl, ap, sym, ◌∙◌, arith, subst, append_assoc, append-nil, length-append}
use Rattle.std.specs.Prelude.{All, IfOk, IfSome, IsTrue, if◌then◌else◌, slice_index_or}
use mathlib.Core.List.{IsPrefix, map-append}
use Rattle.std.proofs.lemmas.List.Elements.{All-nil, All-cons, All-append, All-rest}
use Rattle.std.proofs.lemmas.List.{length-map, nil_from_length}
use Rattle.history_lock.proofs.Prefixes.{IsPrefix-trans}
use Rattle.dio_core.specs.Counts.{Rose, IsCounted}
use Rattle.dio_core.specs.declared.listener.Listener.{Ghosts as ListenerTells}
use Rattle.dio_core.specs.Links.{Both}
use Rattle.dio_core.specs.Sources.{with_prefix}
use Rattle.dio_core.specs.Sinks.{with_more}
use Rattle.dio_core.proofs.Sources.{with_prefix-append, with_prefix-none}
use Rattle.dio_core.proofs.Sinks.{with_more-with_more, with_more-nil}
use Rattle.diamond_store.specs.Answers.{Learns}
use Rattle.diamond_store.specs.Passes.{Passed, known_of}
use Rattle.diamond_store.specs.declared.join_error.JoinError.{JoinError}
use Rattle.diamond_store.specs.declared.join_error.JoinError.TheVariants as join_error
use Rattle.session_core.specs.Explained.{setting_of}
use Rattle.script_runner.specs.declared.status.TheConstants.{WHOLE}
use Rattle.diamond_server.specs.Accounts.{Account, Seat, seat_of, given_of, status_in, joined_in, link_in, IsServed, Rises, faults_of}
use Rattle.diamond_server.specs.Accounts.{Gatherings, gatherings, Accepting, AllServed, AllServedSince, AreEnded, IsTold, FaultIsTold}
use Rattle.diamond_server.specs.Promises.{TellsStoreFault}
use Rattle.diamond_server.specs.Ways.{Promising, TellsFaults, having_met}
use Rattle.diamond_server.specs.code.Settling.{IsNear, IsNearTalk, JoinsNext, AcceptingSince, Turns, Settling}

-- ---- statuses

-- one status more counts where it isn't 0
faults-append : (xs : List ℕ) (s : ℕ) → faults_of (xs ++ s ∷ []) ≡ faults_of xs + (if s == WHOLE then 0 else 1)
faults-append [] s = omega arith
faults-append (x ∷ xs) s = let h = faults-append xs s in omega (arith, h)

-- each status counts once at most
faults-few : (xs : List ℕ) → faults_of xs ≤ length xs
faults-few [] = omega arith
faults-few (x ∷ xs) = by (x == WHOLE) (faults-few xs)
  where
    by : (t : Bool) → faults_of xs ≤ length xs → (if t then 0 else 1) + faults_of xs ≤ length (x ∷ xs)
    by true h = omega (arith, h)
    by false h = omega (arith, h)

-- ---- clients

-- what a pass has learnt leaves it one of the same store
same-store : (j k : Passed) → Learns j k → setting_of (known_of k) ≡ setting_of (known_of j)
same-store j k learns = ap (λ (p : Passed). setting_of (known_of p)) learns.rest

-- more may have been drawn since
rises-more : (j k : Passed) (low mid high : ℕ) (rs : List (Result Passed JoinError)) → Rises j low rs mid → Learns j k → mid ≤ high → Rises k low rs high
rises-more j k low mid high [] p learns le = omega arith
rises-more j k low mid high (Ok q ∷ rs) p learns le =
    (p.0 ∙ sym (same-store j k learns), p.1, rises-more j k (q.client + 1) mid high rs p.2 learns le)
rises-more j k low mid high (Err (join_error.Clients drawn) ∷ rs) p learns le =
    (p.0, (let d = p.1 in let more = learns.draws in omega arith), rises-more j k low mid high rs p.2 learns le)
rises-more j k low mid high (Err join_error.NoMemory ∷ rs) p learns le = rises-more j k low mid high rs p learns le

-- one more joined, or none
rises-next : (j k : Passed) (low mid high : ℕ) (rs : List (Result Passed JoinError)) (r : Result Passed JoinError) → Rises j low rs mid
    → Learns j k → mid ≤ high → JoinsNext k mid high r → Rises k low (rs ++ r ∷ []) high
rises-next j k low mid high [] (Ok q) p learns le next = (next.0, (let a = next.1 in omega arith), (let b = next.2 in omega arith))
rises-next j k low mid high [] (Err (join_error.Clients drawn)) p learns le next = (next.0, next.1, omega arith)
rises-next j k low mid high [] (Err join_error.NoMemory) p learns le next = omega arith
rises-next j k low mid high (Ok q ∷ rs) r p learns le next =
    (p.0 ∙ sym (same-store j k learns), p.1, rises-next j k (q.client + 1) mid high rs r p.2 learns le next)
rises-next j k low mid high (Err (join_error.Clients drawn) ∷ rs) r p learns le next =
    (p.0, (let d = p.1 in let more = learns.draws in omega arith), rises-next j k low mid high rs r p.2 learns le next)
rises-next j k low mid high (Err join_error.NoMemory ∷ rs) r p learns le next = rises-next j k low mid high rs r p learns le next

-- ---- what is near stays near

module _ {L : Type 0} where
  -- who has learnt more knows what was known
  near-more : (j k : Passed) → IsPrefix j.journal k.journal → j.denials ≤ k.denials → (a : Account L) → IsNear j a → IsNear k a
  near-more j k p few a near = by a.talk near
    where
      by : (t : Result (Passed × Passed) JoinError) → IsNearTalk j t → IsNearTalk k t
      by (Err e) n = n
      by (Ok t) n = (IsPrefix-trans t.1.journal j.journal k.journal n.0 p, (let m = n.1 in omega arith))

  -- one more was joined, of which the pass knows all
  pub near-next : (j k : Passed) (all more : List (Account L)) (a : Account L) → Learns j k → All (IsNear j) all → more ≡ all ++ a ∷ [] → IsNear k a
      → All (IsNear k) more
  near-next j k all more a learns near grown last =
      subst (All (IsNear k)) (sym grown) (All-append (IsNear k) all (a ∷ [])
      (λ i d lt. near-more j k learns.begins learns.denials (slice_index_or all i d) (near i d lt)) (All-cons (IsNear k) a [] last (All-nil (IsNear k))))

  -- its seat was the first of those still to be joined
  pub seats-next : (all more : List (Account L)) (a : Account L) (x : Seat L) (rest left begun : List (Seat L)) → more ≡ all ++ a ∷ []
      → rest ≡ x ∷ left → seat_of a ≡ x → map seat_of all ++ rest ≡ begun → map seat_of more ++ left ≡ begun
  seats-next all more a x rest left begun grown first same whole =
      ap (λ w. map seat_of w ++ left) grown
      ∙ (ap (λ w. w ++ left) (map-append seat_of all (a ∷ []))
      ∙ (append_assoc (map seat_of all) (seat_of a ∷ []) left
      ∙ (ap (λ s. map seat_of all ++ s ∷ left) same ∙ (ap (λ w. map seat_of all ++ w) (sym first) ∙ whole))))

  -- at the end none is still to be joined
  pub seats-end : (all : List (Account L)) (rest begun : List (Seat L)) (n : ℕ) → n ≡ 0 → n ≡ length rest → map seat_of all ++ rest ≡ begun
      → map seat_of all ≡ begun
  seats-end all rest begun n none len whole =
      let nil : rest ≡ [] = nil_from_length rest (omega arith) in
      sym (append-nil (map seat_of all)) ∙ (ap (λ w. map seat_of all ++ w) (sym nil) ∙ whole)

  -- ---- links accepted

  -- a listener that tells this, when the serving begins and when it ends
  abbrev telling : Option (List L) → Option (List L) → Option (List (L × ℕ)) → Option (List (L × ℕ)) → ℕ → ℕ → Gatherings L
  telling links left given given_then before after =
      record { links = links; links_then = left; given = given; given_then = given_then; faults = before; faults_then = after }

  -- what was first of the rest is last of those that were taken
  links-next : (links rest left : Option (List L)) (xs : List L) (x : L) → links ≡ with_prefix xs rest → rest ≡ with_prefix (x ∷ []) left
      → links ≡ with_prefix (xs ++ x ∷ []) left
  links-next links rest left xs x p first = p ∙ (ap (with_prefix xs) first ∙ sym (with_prefix-append xs (x ∷ []) left))

  -- before the first turn nothing was taken
  pub turns-start : (pass : Passed) (low : ℕ) (links : Option (List L)) (n : ℕ) → Turns pass low low 0 links links n n []
  turns-start pass low links n = record { taken = sym (with_prefix-none links); clients = omega arith; many = refl; count = refl }

  -- a turn accepts the first of the rest, and its client joins behind those before it
  pub turns-next : (j k : Passed) (low high more turns : ℕ) (links rest left : Option (List L)) (before now after : ℕ) (seats grown : List (Seat L))
      (s : Seat L) (x : L) → Turns j low high turns links rest before now seats → rest ≡ with_prefix (x ∷ []) left → link_in s ≡ x → Learns j k → high ≤ more
      → JoinsNext k high more (joined_in s) → after ≡ now → grown ≡ seats ++ s ∷ []
      → Turns k low more (turns + 1) links left before after grown
  turns-next j k low high more turns links rest left before now after seats grown s x p first link learns le next same is =
      subst (Turns k low more (turns + 1) links left before after) (sym is) (record {
        taken = links-next links rest left (map link_in seats) x p.taken first ∙ ap (λ w. with_prefix w left)
            (ap (λ y. map link_in seats ++ y ∷ []) (sym link) ∙ sym (map-append link_in seats (s ∷ [])));
        clients = subst (λ w. Rises k low w more) (sym (map-append joined_in seats (s ∷ [])))
            (rises-next j k low high more (map joined_in seats) (joined_in s) p.clients learns le next);
        many = (let l = length-append seats (s ∷ []) in let m = p.many in omega (arith, l, m));
        count = same ∙ p.count;
      })

  -- an accept failed: nothing more was taken, and the count rose
  pub turns-failed : (pass : Passed) (low high most turns : ℕ) (links rest left : Option (List L)) (given given_then : Option (List (L × ℕ)))
      (before now after : ℕ) (seats same : List (Seat L)) → Turns pass low high turns links rest before now seats → turns ≤ most
      → left ≡ rest → same ≡ seats → Rose now after
      → Accepting pass low high most (telling links left given given_then before after) same true
  turns-failed pass low high most turns links rest left given given_then before now after seats same p le unchanged is rose =
      subst (λ w. Accepting pass low high most (telling links left given given_then before after) w true) (sym is) (record {
        taken = p.taken ∙ ap (with_prefix (map link_in seats)) (sym unchanged);
        clients = p.clients;
        few = (let m = p.many in omega (arith, m));
        counted = subst (λ (n : ℕ). Rose n after) p.count rose;
        less = λ no. absurd (cc no);
      })

  -- none is left
  pub turns-none : (pass : Passed) (low high most turns : ℕ) (links rest left : Option (List L)) (given given_then : Option (List (L × ℕ)))
      (before now after : ℕ) (seats same : List (Seat L)) → Turns pass low high turns links rest before now seats → turns ≤ most
      → IfSome rest (λ xs. xs ≡ []) → left ≡ rest → same ≡ seats → after ≡ now
      → Accepting pass low high most (telling links left given given_then before after) same false
  turns-none pass low high most turns links rest left given given_then before now after seats same p le none unchanged is counted =
      subst (λ w. Accepting pass low high most (telling links left given given_then before after) w false) (sym is) (record {
        taken = p.taken ∙ ap (with_prefix (map link_in seats)) (sym unchanged);
        clients = p.clients;
        few = (let m = p.many in omega (arith, m));
        counted = counted ∙ p.count;
        less = λ _ _. subst (λ o. IfSome o (λ xs. xs ≡ [])) (sym unchanged) none;
      })

  -- all turns were made
  pub turns-end : (pass : Passed) (low high most turns : ℕ) (links rest : Option (List L)) (given given_then : Option (List (L × ℕ)))
      (before now : ℕ) (seats : List (Seat L)) → Turns pass low high turns links rest before now seats → turns ≤ most → most ≤ turns
      → Accepting pass low high most (telling links rest given given_then before now) seats false
  turns-end pass low high most turns links rest given given_then before now seats p le whole = record {
    taken = p.taken;
    clients = p.clients;
    few = (let m = p.many in omega (arith, m));
    counted = p.count;
    less = λ _ fewer. absurd (let m = p.many in omega (arith, m));
  }

  -- what was accepted stays so for a pass that has learnt more
  pub accepting-more : (j k : Passed) (low mid high most : ℕ) (g : Gatherings L) (seats same : List (Seat L)) (failed : Bool)
      → Accepting j low mid most g seats failed → Learns j k → mid ≤ high → same ≡ seats
      → Accepting k low high most g same failed
  accepting-more j k low mid high most g seats same failed p learns le is =
      subst (λ w. Accepting k low high most g w failed) (sym is) (record {
        taken = p.taken;
        clients = rises-more j k low mid high (map joined_in seats) p.clients learns le;
        few = p.few;
        counted = p.counted;
        less = p.less;
      })

  -- one that tells the same, as where it was closed
  pub accepting-same : {N : Type 0} (told : ListenerTells N L) (pass : Passed) (low high most : ℕ) (old mid new : N) (seats : List (Seat L)) (failed : Bool)
      → told.links new ≡ told.links mid → told.accept_faults new ≡ told.accept_faults mid
      → Accepting pass low high most (gatherings told old mid) seats failed → Accepting pass low high most (gatherings told old new) seats failed
  accepting-same told pass low high most old mid new seats failed links faults p =
      record {
        taken = p.taken ∙ ap (with_prefix (map link_in seats)) (sym links);
        clients = p.clients;
        few = p.few;
        counted = subst (IsCounted failed (told.accept_faults old)) (sym faults) p.counted;
        less = λ ended fewer. subst (λ o. IfSome o (λ xs. xs ≡ [])) (sym links) (p.less ended fewer);
      }

  -- ---- links given back

  -- before the first nothing was given back
  pub settling-start : (Promised : Promising) (told : L → Both) (pass : Passed) (all rest : List (Account L)) (old : Option (List (L × ℕ))) → rest ≡ all → All (IsNear pass) all
      → Settling Promised told pass all rest old old 0
  settling-start Promised told pass all rest old is near =
      record { done = []; parts = is; given = sym (with_more-nil old); faulted_is = refl; served = All-nil _; near = subst (All (IsNear pass)) (sym is) near }

  -- the first of the rest is given back behind those before it, and counts by its status
  pub settling-next : (Promised : Promising) (told : L → Both) (pass : Passed) (all rest left : List (Account L)) (a : Account L) (old new more : Option (List (L × ℕ))) (n m : ℕ)
      → Settling Promised told pass all rest old new n → rest ≡ a ∷ left → more ≡ with_more new (given_of a ∷ []) → IsServed Promised told pass a
      → m ≡ n + (if a.status == WHOLE then 0 else 1) → Settling Promised told pass all left old more m
  settling-next Promised told pass all rest left a old new more n m p first back served counted = record {
    done = p.done ++ a ∷ [];
    parts = append_assoc p.done (a ∷ []) left ∙ (ap (λ w. p.done ++ w) (sym first) ∙ p.parts);
    given = back ∙ (ap (λ o. with_more o (given_of a ∷ [])) p.given ∙ (with_more-with_more old (map given_of p.done) (given_of a ∷ [])
        ∙ ap (with_more old) (sym (map-append given_of p.done (a ∷ [])))));
    faulted_is = counted ∙ (ap (λ (k : ℕ). k + (if a.status == WHOLE then 0 else 1)) p.faulted_is ∙ (sym (faults-append (map status_in p.done) a.status)
        ∙ ap faults_of (sym (map-append status_in p.done (a ∷ [])))));
    served = All-append (IsServed Promised told pass) p.done (a ∷ []) p.served (All-cons (IsServed Promised told pass) a [] served (All-nil _));
    near = All-rest (IsNear pass) a left rest first p.near;
  }

  -- the next to be settled is near, and the count has room
  pub settling-near : (Promised : Promising) (told : L → Both) (pass : Passed) (all rest left : List (Account L)) (a : Account L) (old new : Option (List (L × ℕ))) (n : ℕ)
      → Settling Promised told pass all rest old new n → rest ≡ a ∷ left → IsNear pass a
  settling-near Promised told pass all rest left a old new n p first = subst (All (IsNear pass)) first p.near 0 a (omega arith)

  -- those that count are among those that are done, so one more is within all
  pub settling-few : (Promised : Promising) (told : L → Both) (pass : Passed) (all rest left : List (Account L)) (a : Account L) (old new : Option (List (L × ℕ))) (n : ℕ)
      → Settling Promised told pass all rest old new n → rest ≡ a ∷ left → n + 1 ≤ length all
  settling-few Promised told pass all rest left a old new n p first =
      let few = faults-few (map status_in p.done) in
      let l = length-map p.done status_in in
      let whole : length all ≡ length p.done + length rest = ap length (sym p.parts) ∙ length-append p.done rest in
      omega (arith, p.faulted_is, few, l, whole, ap length first)

  -- at the end none is to come
  pub settling-end : (Promised : Promising) (told : L → Both) (pass : Passed) (all rest : List (Account L)) (old new : Option (List (L × ℕ))) (n k : ℕ) → k ≡ 0 → k ≡ length rest
      → Settling Promised told pass all rest old new n → Settling Promised told pass all [] old new n
  settling-end Promised told pass all rest old new n k none len p =
      let nil : rest ≡ [] = nil_from_length rest (omega arith) in subst (λ w. Settling Promised told pass all w old new n) nil p

  -- before the first nothing was given back that isn't ended
  pub ended-start : (ended : L → Option Bool) (old : Option (List (L × ℕ))) → AreEnded ended old old
  ended-start ended old = record { back = []; given_back = sym (with_more-nil old); each = All-nil _ }

  -- a link that is ended is given back behind those before it
  pub ended-next : (ended : L → Option Bool) (old new more : Option (List (L × ℕ))) (b : L × ℕ) → AreEnded ended old new
      → more ≡ with_more new (b ∷ []) → IfSome (ended b.0) IsTrue → AreEnded ended old more
  ended-next ended old new more b are back is =
      let IsEnded : L × ℕ → Type 0 = λ b. IfSome (ended b.0) IsTrue in record {
        back = are.back ++ b ∷ [];
        given_back = back ∙ (ap (λ o. with_more o (b ∷ [])) are.given_back ∙ with_more-with_more old are.back (b ∷ []));
        each = All-append IsEnded are.back (b ∷ []) are.each (All-cons IsEnded b [] is (All-nil _));
      }

  -- so it is from what was given back before the first was accepted
  pub ended-from : (ended : L → Option Bool) (old mid new : Option (List (L × ℕ))) → mid ≡ old → AreEnded ended mid new → AreEnded ended old new
  ended-from ended old mid new same are = subst (λ (o : Option (List (L × ℕ))). AreEnded ended o new) same are

  -- ---- all of it

  -- there are as many accounts as seats
  pub few-ended : (pass : Passed) (low high most : ℕ) (g : Gatherings L) (all : List (Account L)) (failed : Bool)
      → Accepting pass low high most g (map seat_of all) failed → length all ≤ most
  few-ended pass low high most g all failed p = let few = p.few in omega (arith, few, length-map all seat_of)

  -- what is promised of a link tells a fault of the store
  fault-told : (Promised : Promising) (told : L → Both) (pass : Passed) → TellsFaults Promised → (a : Account L) → IsServed Promised told pass a → FaultIsTold a
  fault-told Promised told pass tells a is = by a.talk is
    where
      by : (talk : Result (Passed × Passed) JoinError) → IsTold Promised (having_met pass) (told a.was) (told a.link) a.status talk
          → IfOk talk (λ (t : Passed × Passed). TellsStoreFault (known_of t.0) (known_of t.1) a.status)
      by (Ok t) is = tells (known_of t.0) (known_of t.1) (known_of (having_met pass t.1)) a.status (told a.was) (told a.link) is.1
      by (Err e) is = tt

  -- what was accepted was all given back, so there is an account of each
  pub served-all : (Promised : Promising) (told : L → Both) (pass : Passed) (low high most : ℕ) (g : Gatherings L) (mid : Option (List (L × ℕ))) (all : List (Account L)) (n k : ℕ)
      (failed : Bool) → TellsFaults Promised → Accepting pass low high most g (map seat_of all) failed → mid ≡ g.given → Settling Promised told pass all [] mid g.given_then n
      → k ≡ length all → AllServed Promised told pass low high most g (record { accepted = k; faulted = n; failed = failed })
  served-all Promised told pass low high most g mid all n k failed tells p same q number =
      let whole : q.done ≡ all = sym (append-nil q.done) ∙ q.parts in
      let served : All (IsServed Promised told pass) all = subst (All (IsServed Promised told pass)) whole q.served in record {
        accounts = all;
        accepted = p;
        number = number;
        served = served;
        faults_told = λ k d within. fault-told Promised told pass tells _ (served k d within);
        given_back = q.given ∙ (ap (λ o. with_more o (map given_of q.done)) same ∙ ap (λ w. with_more g.given (map given_of w)) whole);
        faulted = q.faulted_is ∙ ap (λ w. faults_of (map status_in w)) whole;
      }

  -- so it is of a serving, whose listener was given all of them back
  pub served-since : {N : Type 0} (listened : ListenerTells N L) (Promised : Promising) (told : L → Both) (first : ℕ) (p q r : Passed) (most : ℕ) (old mid new : N)
      (all : List (Account L)) (n k : ℕ) (failed : Bool) → TellsFaults Promised → r ≡ q → listened.links new ≡ listened.links mid
      → listened.accept_faults new ≡ listened.accept_faults mid → listened.given_back mid ≡ listened.given_back old
      → AcceptingSince first p q most (gatherings listened old mid) (map seat_of all) failed
      → Settling Promised told q all [] (listened.given_back mid) (listened.given_back new) n → k ≡ length all
      → AllServedSince Promised told first p r most (gatherings listened old new) (record { accepted = k; faulted = n; failed = failed })
  served-since listened Promised told first p q r most old mid new all n k failed tells same links faults given accepted settled number =
      subst (λ (w : Passed). AllServedSince Promised told first p w most (gatherings listened old new) (record { accepted = k; faulted = n; failed = failed }))
      (sym same)
      (served-all Promised told q (first + p.draws) (first + q.draws) most (gatherings listened old new) (listened.given_back mid) all n k failed tells
      (accepting-same listened q (first + p.draws) (first + q.draws) most old mid new (map seat_of all) failed links faults accepted) given settled number)

  -- a pass that stayed the same explains the same
  pub served-at : (Promised : Promising) (told : L → Both) (u v : Passed) (a : Account L) → u ≡ v → IsServed Promised told u a → IsServed Promised told v a
  served-at Promised told u v a is p = subst (λ (w : Passed). IsServed Promised told w a) is p
