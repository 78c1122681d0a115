use Rattle.std.proofs.Common.{◌∙◌, sym, ap}
use Rattle.cli_words.specs.code.Reading.{is_led}
use Rattle.cli_words.proofs.Numbers.{parsed-is}
use Rattle.cli_words.proofs.number.plain_number.Goals as goal

pub returns-else-is_led : goal.returns-else-is_led
returns-else-is_led c =
    c.ok.ensures.value
    ∙ parsed-is c.args.word.now c.parse.result (ap is_led (sym c.as_bytes.ensures.value) ∙ sym c.is_led.ensures ∙ c.if-is_led.false)
    c.parse.ensures.value.0
