-- What is promised of a link over which the requests of a client are answered, by what its client knows.
use Rattle.diamond_server.specs.Ways.{AnyStep, Promising}
use Rattle.wire_server.specs.Promises.{Promises, TellsEachStoreFault}

-- WHAT IS PROMISED OF SUCH A LINK, from what its client knew as it joined (k) to what it knew at the end (l): what `serve_wire` promises,
-- each call keeping the clause of every backend, and that each fault of the store is told; and so it is by the journal that the client
-- knows later (m).
abbrev pub RequestsPromised : Promising
RequestsPromised k l m status x y = Promises (λ n. n) AnyStep m k l x y status × TellsEachStoreFault k l status
