use Rattle.wire_server.proofs.serving_all.RequestsServes.tells_faults.Goals as goal

-- they tell each, also where a write has failed
pub returns : goal.returns
returns c = λ k l m status x y p written. p.1
