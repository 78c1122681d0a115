-- A run that comes to a pause comes to it on more values too, since it says what is so on whatever more is known.
use Rattle.txn_eval.specs.Pausing.{PausesStay}

pub pauses_stay : PausesStay
pauses_stay stmts snaps more pause extends is = record { comes = λ t further. is.comes t (λ a v here. further a v (extends a v here)) }
