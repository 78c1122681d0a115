-- Whole sessions by their programs: what holds of a line holds of line after line, with others at work between them.
use Rattle.std.proofs.Common.{◌≡◌, inl, ℕ, ◌≤◌, List, [], ◌∷◌, ◌++◌, map, length, refl, sym, ap, ◌∙◌, subst, arith}
use Rattle.std.proofs.lemmas.List.{append-nil}
use Rattle.dio_core.specs.Told.{WhereTold}
use Rattle.dio_core.specs.declared.line.TheConstants.{LONGEST_LINE}
use Rattle.dio_core.proofs.Told.{WhereTold-refl, WhereTold-map, WhereTold-then}
use Rattle.txn_grammar.specs.Characters.{Text}
use Rattle.txn_lang.specs.Journals.{own}
use Rattle.txn_lang.specs.States.{Journal}
use Rattle.docc_prepare.specs.Calls.{Known}
use Rattle.client_watches.specs.Explained.{shown_of}
use Rattle.session_core.specs.declared.session.Session.{Session}
use Rattle.session_core.specs.declared.turn.Turn.{Turn}
use Rattle.session_core.specs.Explained.{Setting, Story, attempting_of, story_of, Passes, replies_in, low_after, attempting_after, begun_after}
use Rattle.session_core.specs.Explained.{Explains, LinePasses, MayBeTold, setting_of}
use Rattle.session_core.specs.Holding.{Attends}
use Rattle.session_core.specs.Lines.{line_of}
use Rattle.session_core.specs.LineTalks.{IsDone, AreDone, DoneLinesAreExplained}
use Rattle.session_core.specs.Sessions.{denied_by_all, all_replies, ExplainsAll}
use Rattle.session_core.proofs.Done.{has_done}
use Rattle.session_core.proofs.Explained.{told-then, told-start, where-told, same-setting}
use Rattle.session_core.proofs.Grown.{prefix-whole, prefix-again}
use Rattle.session_core.proofs.Said.{denied-rises}
use Rattle.session_core.proofs.Talked.{finds, owned-on, denied-append, can-read, explains-more, story-behind}
use Rattle.session_core.proofs.Woken.{HasOwned}

-- ---- sessions, and the client's commits

-- line by line
pub done_attends : (k : Known) (s : Session) (texts : List Text) (turns : List Turn) (l : Known) (u : Session) → Attends k s
    → AreDone k s texts turns l u → Attends l u
done_attends k s texts turns l u is AreDone.silent = is
done_attends k s texts turns l u is
    (AreDone.done {here = here} {l = m} {t = t} {text = text} {said = x} {texts = rest} {turns = more} found_it short said talks) =
    done_attends m t rest more l u (has_done here m s t text x (finds k here s is found_it).attends short said).attends talks

-- one line more, behind the others
pub done_more : (k : Known) (s : Session) (texts : List Text) (turns : List Turn) (l : Known) (t : Session) (m : Known) (u : Session) (text : Text)
    (said : Turn) → AreDone k s texts turns l t → length text ≤ LONGEST_LINE → IsDone l t text said m u
    → AreDone k s (texts ++ text ∷ []) (turns ++ said ∷ []) m u
done_more k s texts turns l t m u text said AreDone.silent short is = AreDone.done (inl refl) short is AreDone.silent
done_more k s texts turns l t m u text said
    (AreDone.done {l = there} {t = r} {texts = rest} {turns = more} found_it first one talks) short is =
    AreDone.done found_it first one (done_more there r rest more l t m u text said talks short is)

-- line by line, each by what it says of the client's commits
pub done_owned : (k : Known) (s : Session) (texts : List Text) (turns : List Turn) (l : Known) (u : Session) → Attends k s
    → AreDone k s texts turns l u
    → WhereTold (HasOwned k.client (all_replies turns)) k.journal l.journal
done_owned k s texts turns l u is AreDone.silent =
    WhereTold-refl (HasOwned k.client []) k.journal
    (λ journal. record { grows = prefix-whole journal; own_is = sym (append-nil (own k.client journal)); there = tt })
done_owned k s texts turns l u is
    (AreDone.done {here = here} {l = m} {t = t} {text = text} {said = x} {texts = rest} {turns = more} found_it short said talks) =
    let it = finds k here s is found_it in
    let mine : here.client ≡ k.client = it.client.client in
    let same : m.client ≡ k.client = (has_done here m s t text x it.attends short said).client.client ∙ mine in
    let one = subst (λ (c : ℕ). WhereTold (HasOwned c (replies_in x)) here.journal m.journal) mine
    (has_done here m s t text x it.attends short said).owns in
    let others = subst (λ (c : ℕ). WhereTold (HasOwned c (all_replies more)) m.journal l.journal) same
    (done_owned m t rest more l u (has_done here m s t text x (finds k here s is found_it).attends short said).attends talks) in
    WhereTold-then {T = HasOwned k.client (replies_in x ++ all_replies more)} k.journal here.journal l.journal
    (λ old mid new same rest. owned-on k.client old mid rest.0 new (replies_in x) (all_replies more) same rest.1 rest.2) it.grown
    (WhereTold-then {T = λ mid new. (there : Journal) × HasOwned k.client (replies_in x) mid there × HasOwned k.client (all_replies more)
    there new} here.journal m.journal l.journal (λ mid there new one more. (there, one, more)) one others)

-- ---- denials

-- line by line, each by what it says of denials; others count none of the client's
pub done_denied : (k : Known) (s : Session) (texts : List Text) (turns : List Turn) (l : Known) (u : Session) → Attends k s
    → AreDone k s texts turns l u
    → l.denied ≡ denied_by_all k.denied (all_replies turns)
done_denied k s texts turns l u is AreDone.silent = refl
done_denied k s texts turns l u is
    (AreDone.done {here = here} {l = m} {t = t} {text = text} {said = x} {texts = rest} {turns = more} found_it short said talks) =
    let it = finds k here s is found_it in
    let one = (has_done here m s t text x it.attends short said).denied in
    done_denied m t rest more l u (has_done here m s t text x (finds k here s is found_it).attends short said).attends talks
    ∙ (ap (λ (n : ℕ). denied_by_all n (all_replies more)) (one ∙ ap (λ (n : ℕ). denied_by_all n (replies_in x)) it.denied) ∙ sym
    (denied-append k.denied (replies_in x) (all_replies more)))

-- what is known of denials rises no less, line by line
pub done_known : (k : Known) (s : Session) (texts : List Text) (turns : List Turn) (l : Known) (u : Session) → Attends k s
    → AreDone k s texts turns l u
    → denied_by_all k.denials (all_replies turns) ≤ l.denials
done_known k s texts turns l u is AreDone.silent = omega arith
done_known k s texts turns l u is
    (AreDone.done {here = here} {l = m} {t = t} {text = text} {said = x} {texts = rest} {turns = more} found_it short said talks) =
    let it = finds k here s is found_it in
    let one = (has_done here m s t text x it.attends short said).known in
    let up = denied-rises k.denials here.denials (replies_in x) it.denials in
    let far = done_known m t rest more l u (has_done here m s t text x (finds k here s is found_it).attends short said).attends talks in
    let both = denied-rises (denied_by_all k.denials (replies_in x)) m.denials (all_replies more) (omega arith) in
    let same = denied-append k.denials (replies_in x) (all_replies more) in omega arith

-- ---- explained

-- line by line: each is explained by its journal, and so by the one at the end, behind which the story is one that may be told
pub done_explained : (k : Known) (s : Session) (texts : List Text) (turns : List Turn) (l : Known) (u : Session) → Attends k s
    → AreDone k s texts turns l u
    → (low begun : ℕ) → MayBeTold k (story_of low begun s)
    → WhereTold (ExplainsAll (setting_of k) (story_of low begun s) texts turns) k.journal l.journal
done_explained k s texts turns l u is AreDone.silent low begun may = told-start
    (ExplainsAll (setting_of k) (story_of low begun s) [] []) k.journal
    (λ journal told. record { grows = prefix-whole journal; explains = tt })
done_explained k s texts turns l u is
    (AreDone.done {here = here} {l = m} {t = t} {text = text} {said = x} {texts = rest} {turns = more} found_it short said talks) low begun may =
    let it = finds k here s is found_it in
    let attending = (has_done here m s t text x it.attends short said).attends in
    let ends = done_attends m t rest more l u attending talks in
    let y : Story = story_of low begun s in
    let may_here : MayBeTold here y = record {
      seen = (let b = may.seen in let same = it.seen in omega arith);
      before = may.before;
      bases = may.bases;
      reported = may.reported;
    } in
    let one = (has_done here m s t text x it.attends short said).explained low begun may_here in
    let set_here : setting_of here ≡ setting_of k = same-setting k here it.client in
    let set_there : setting_of m ≡ setting_of k = same-setting here m (has_done here m s t text x it.attends short said).client ∙ set_here in
    let others = done_owned m t rest more l u attending talks in
    WhereTold-then {T = ExplainsAll (setting_of k) y (text ∷ rest) (x ∷ more)} k.journal here.journal l.journal
    (λ old mid new grown later. record { grows = prefix-again old mid new grown.0 later.grows; explains = later.explains })
    it.grown
    (told-then {R = LinePasses here m y (line_of text) x t} {S = HasOwned m.client (all_replies more)} {T = ExplainsAll (setting_of k) y (text ∷ rest)
    (x ∷ more)} here.journal m.journal l.journal
    (λ mid there new from to passes owned.
    let later = shown_of t.watching.watches in
    let passing = subst (λ (set : Setting). Passes set there y (line_of text) x later) set_here passes.passes in
    let after : attempting_of t ≡ attempting_after (setting_of k) there y.attempting (line_of text) x = passes.attempting ∙ ap
    (λ (set : Setting). attempting_after set there y.attempting (line_of text) x) set_here in
    let may_there = story-behind k m (setting_of k) y t (line_of text) x there may passing after passes.shown in
    let further = where-told (ExplainsAll (setting_of m) (story_of (low_after low (line_of text) x) (begun_after y (line_of text) x) t) rest more)
    m.journal l.journal there new from to
    (done_explained m t rest more l u attending talks (low_after low (line_of text) x) (begun_after y (line_of text) x) may_there) in
    record {
      grows = prefix-again mid there new passes.grows further.grows;
      explains = explains-more (setting_of k) y t text x rest more there new (can-read m t there attending from) (can-read l u new ends to)
          may.reported passing after further.grows
          (subst (λ (set : Setting). Explains set new
          (story_of (low_after low (line_of text) x) (begun_after y (line_of text) x) t) (map line_of rest) more) set_there further.explains);
    }) one others)

-- the facts of line after line
pub done_lines_are_explained : DoneLinesAreExplained
done_lines_are_explained k l s t texts turns is talks = record {
  attends = done_attends k s texts turns l t is talks;
  explained = done_explained k s texts turns l t is talks;
  own_commits = WhereTold-map k.journal l.journal (λ old new h. h.own_is) (done_owned k s texts turns l t is talks);
  denied = done_denied k s texts turns l t is talks;
  known_denied = done_known k s texts turns l t is talks;
}
