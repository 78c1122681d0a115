use Rattle.std.proofs.Common.{ap}
use Rattle.slab.specs.Slab as slab
use Rattle.edge_slab.specs.declared.links.Edge.{Edge}
use Rattle.edge_slab.proofs.Linking.{same_links}
use Rattle.edge_slab.proofs.links.Links.make_room.Goals as goal

pub returns-in_err-make_room-clause-same : goal.returns-in_err-make_room-clause-same
returns-in_err-make_room-clause-same c =
    same_links c.args.self.now (record { edges = c.reserve.new.self; at_place = c.make_room.new.self; of_subscriber = c.args.self.now.of_subscriber })
    (λ key. ap (λ (s : slab.Slab Edge). slab.get s key) c.reserve.ensures.rest_kept) (ap slab.slab_len c.reserve.ensures.rest_kept)
    c.make_room.ensures.same (λ lists are. are)

pub returns-in_err-make_room-2-clause-same : goal.returns-in_err-make_room-2-clause-same
returns-in_err-make_room-2-clause-same c =
    same_links c.args.self.now (record { edges = c.reserve.new.self; at_place = c.make_room.new.self; of_subscriber = c.make_room-2.new.self })
    (λ key. ap (λ (s : slab.Slab Edge). slab.get s key) c.reserve.ensures.rest_kept) (ap slab.slab_len c.reserve.ensures.rest_kept)
    c.make_room.ensures.same c.make_room-2.ensures.same

pub returns-clause-same : goal.returns-clause-same
returns-clause-same c =
    same_links c.args.self.now (record { edges = c.reserve.new.self; at_place = c.make_room.new.self; of_subscriber = c.make_room-2.new.self })
    (λ key. ap (λ (s : slab.Slab Edge). slab.get s key) c.reserve.ensures.rest_kept) (ap slab.slab_len c.reserve.ensures.rest_kept)
    c.make_room.ensures.same c.make_room-2.ensures.same
