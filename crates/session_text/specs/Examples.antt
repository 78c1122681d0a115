-- Lines, read; and one line by the rules.
use Rattle.std.specs.Prelude.{◌≡◌, [], codes, Ok, Err, refl}
use Rattle.std.proofs.lemmas.List.Sums.{AllPass-from_list_all}
use Rattle.predictive_parsing.specs.Reading.{one, run, run_up_to, whole}
use Rattle.predictive_parsing.specs.Bytes.{byte, word}
use Rattle.predictive_parsing.specs.Choices.{closest, one_of}
use Rattle.dtext.specs.Characters.{is_blank}
use Rattle.dtext.specs.code.Reading.{digits, positive, natural}
use Rattle.session_text.specs.declared.verb.Verb.TheVariants as verb
use Rattle.session_text.specs.declared.words.VerbWord.TheVariants as word_for
use Rattle.session_text.specs.Lines.{IsVerb}
use Rattle.session_text.specs.code.Lines.{gap, solid, rest, body, name, alone, tries, at, watch, unwatch, form, line}

-- blanks at the end are the body's
reads_do : whole line (codes " do  emit 1; ") ≡ Ok (verb.Do (codes "emit 1; "))
unfolding whole line form body gap rest solid one_of closest word byte one run
reads_do = refl

-- a body that is missing
reads_look : whole line (codes "look") ≡ Ok (verb.Look [])
unfolding whole line form body gap rest solid one_of closest word byte one run
reads_look = refl

-- a number in front of the body
reads_try : whole line (codes "try 16 emit 1;") ≡ Ok (verb.Try 16 (codes "emit 1;"))
unfolding whole line form tries body gap rest solid positive digits one_of closest word byte one run
reads_try = refl

-- 17 attempts are too many: what stands behind the 1 is no form's
refuses_17 : whole line (codes "try 17 emit 1;") ≡ Err (codes "7 emit 1;")
unfolding whole line form tries body gap rest solid positive digits one_of closest word byte one run
refuses_17 = refl

-- as of no commit at all
reads_at : whole line (codes "at 0 emit 1;") ≡ Ok (verb.At 0 (codes "emit 1;"))
unfolding whole line form at body gap rest solid natural positive digits one_of closest word byte one run
reads_at = refl

-- a name in front of the body, told from `wait` at the third byte
reads_watch : whole line (codes "watch a_1 emit 1;") ≡ Ok (verb.Watch (codes "a_1") (codes "emit 1;"))
unfolding whole line form watch name body gap rest solid one_of closest word byte one run run_up_to
reads_watch = refl

-- more behind a name that stands alone
refuses_more : whole line (codes "unwatch a_1 b") ≡ Err (codes "b")
unfolding whole line form unwatch name alone gap one_of closest word byte one run run_up_to
refuses_more = refl

-- a word that no verb has
refuses_word : whole line (codes "set") ≡ Err (codes "t")
unfolding whole line form one_of closest word byte one run
refuses_word = refl

-- ---- by the rules

-- a blank behind `quit` means nothing
asks_quit : IsVerb (codes "quit ") verb.Quit
asks_quit = record {
  value = [];
  middle = codes "quit ";
  first = record { cut = refl; pass = AllPass-from_list_all is_blank [] refl };
  second = record {
    value = word_for.Quit;
    middle = codes " ";
    first = refl;
    second = record {
      value = codes " ";
      middle = [];
      first = record { cut = refl; pass = AllPass-from_list_all is_blank (codes " ") refl };
      second = record { is = refl; here = refl };
    };
  };
}
