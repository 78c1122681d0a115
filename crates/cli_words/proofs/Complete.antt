-- Words of a form are read.
use Rattle.std.proofs.Common.{◌≡◌, ℕ, zero, suc, false, not, cond, List, ◌∷◌, ◌++◌, inl, inr, ap, sym, ◌∙◌}
use Rattle.std.specs.Prelude.{Result, Ok, Err}
use Rattle.cli_words.specs.declared.name.CommandName.{CommandName}
use Rattle.cli_words.specs.declared.name.OptionName.{OptionName}
use Rattle.cli_words.specs.declared.refusal.Why.{Why}
use Rattle.cli_words.specs.declared.refusal.Why.TheVariants as why
use Rattle.cli_words.specs.declared.reading.Reading.{Reading}
use Rattle.cli_words.specs.declared.reading.Reading.TheVariants as reading
use Rattle.cli_words.specs.Forms.{Word, EQUALS, Takes, option_word, Given, nothing_given, SpellsOption, IsOption, AreOptions, IsForm, OneForm}
use Rattle.cli_words.specs.code.Reading.{option_named, is_given, with_value, ready, name_part, value_part, free_option, with_free, begun, step, on, after}
use Rattle.cli_words.proofs.Names.{command_named-complete, option_named-complete, takes-complete}
use Rattle.cli_words.proofs.Names.{name-alone, value-alone, name-joined, value-joined, has_value-joined}
use Rattle.cli_words.proofs.Values.{free-complete, value-complete}

-- the option that a command takes and that is not given yet is free
free-is : (c : CommandName) (given : Given) (o : OptionName) → Takes c o → is_given o given ≡ false → (x : Word) → x ≡ option_word o
    → free_option c given (option_named x) ≡ Ok o
free-is c given o taken free x e =
    ap (λ w. free_option c given (option_named w)) e ∙ ap (free_option c given) (option_named-complete o)
    ∙ ap (λ t. cond (not t) (Err why.NoOption) (cond (is_given o given) (Err why.GivenTwice) (Ok o))) (takes-complete c o taken)
    ∙ ap (λ t. cond t (Err why.GivenTwice) (Ok o)) free

-- the name alone waits for its value
waits : (c : CommandName) (given : Given) (o : OptionName) → Takes c o → is_given o given ≡ false
    → step (reading.Ready c given) (option_word o) ≡ Ok (reading.Waiting c given o)
unfolding step
waits c given o taken free =
    ap (with_free c given (option_word o)) (free-is c given o taken free (name_part (option_word o)) (name-alone o))
    ∙ ap (λ t. cond t (ready c (with_value o (value_part (option_word o)) given)) (Ok (reading.Waiting c given o))) (value-alone o)

-- the value behind it is given
reads : (c : CommandName) (given next : Given) (o : OptionName) (value : Word) → with_value o value given ≡ Ok next
    → step (reading.Waiting c given o) value ≡ Ok (reading.Ready c next)
unfolding step
reads c given next o value e = ap (ready c) e

-- so it is in one word with its name
reads_joined : (c : CommandName) (given next : Given) (o : OptionName) (value : Word) → Takes c o → is_given o given ≡ false
    → with_value o value given ≡ Ok next
    → step (reading.Ready c given) (option_word o ++ EQUALS ∷ value) ≡ Ok (reading.Ready c next)
unfolding step
reads_joined c given next o value taken free e =
    let word : Word = option_word o ++ EQUALS ∷ value in
    ap (with_free c given word) (free-is c given o taken free (name_part word) (name-joined o value))
    ∙ ap (λ t. cond t (ready c (with_value o (value_part word) given)) (Ok (reading.Waiting c given o))) (has_value-joined o value)
    ∙ ap (λ v. ready c (with_value o v given)) (value-joined o value)
    ∙ ap (ready c) e

-- an option is read, however it is spelled
pub option_read : (c : CommandName) (words rest : List Word) (given next : Given) → IsOption c words rest given next
    → after words (reading.Ready c given) ≡ after rest (reading.Ready c next)
option_read c words rest given next is = by is.spelled
  where
    free : is_given is.option given ≡ false
    free = free-complete is.option is.value given next is.gives

    value : with_value is.option is.value given ≡ Ok next
    value = value-complete is.option is.value given next is.gives

    by : SpellsOption is.option is.value words rest → after words (reading.Ready c given) ≡ after rest (reading.Ready c next)
    by (inl e) =
        ap (λ ws. after ws (reading.Ready c given)) e
        ∙ ap (on (after (is.value ∷ rest))) (waits c given is.option is.taken free)
        ∙ ap (on (after rest)) (reads c given next is.option is.value value)
    by (inr e) =
        ap (λ ws. after ws (reading.Ready c given)) e
        ∙ ap (on (after rest)) (reads_joined c given next is.option is.value is.taken free value)

-- each option that was spelled is read by the step above, and the rest again so
pub options_read : (n : ℕ) (c : CommandName) (words : List Word) (given end : Given) → AreOptions c n words given end
    → after words (reading.Ready c given) ≡ Ok (reading.Ready c end)
options_read zero c words given end h = ap (λ ws. after ws (reading.Ready c given)) h.0 ∙ ap (λ g. Ok (reading.Ready c g)) (sym h.1)
options_read (suc n) c words given end h =
    option_read c words h.0 given h.1 h.2 ∙ options_read n c h.0 h.1 end h.3

-- a form is a command, which its word names, and options behind it
pub form_read : (words : List Word) (c : CommandName) (given : Given) → IsForm words c given → after words reading.Start ≡ Ok (reading.Ready c given)
unfolding step
form_read words c given form =
    ap (λ ws. after ws reading.Start) form.begins
    ∙ ap (λ found. on (after form.rest) (begun found)) (command_named-complete c)
    ∙ options_read form.count c form.rest nothing_given given form.options

-- words are of one form at most
pub one_form : OneForm
one_form words c d g h a b =
    let same : ◌≡◌ {A = Result Reading Why} (Ok (reading.Ready c g)) (Ok (reading.Ready d h)) = sym (form_read words c g a) ∙ form_read words d h b in
    let ready : reading.Ready c g ≡ reading.Ready d h = cc in
    (cc, cc)
