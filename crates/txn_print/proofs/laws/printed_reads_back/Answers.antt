use Rattle.txn_print.proofs.ReadBack.{read_back, parse_back}
use Rattle.txn_print.proofs.laws.printed_reads_back.Goals as goal

pub returns-clause-derived : goal.returns-clause-derived
returns-clause-derived c z body r = read_back z body r

pub returns-clause-parsed : goal.returns-clause-parsed
returns-clause-parsed c z body e = parse_back z body e
