use Rattle.std.proofs.Common.{◌+◌, ◌≤◌, sym, ap, ◌∙◌, arith}
use Rattle.std.specs.Vec.{vec_capacity}
use Rattle.hold_core.specs.Books.{Holding}
use Rattle.hold_core.proofs.Keeping.{room-left, kept-more}
use Rattle.hold_core.proofs.book.HoldBook.added.Goals as goal

-- what the commit leaves are fewer than there is memory for
pub begin_by-requires : goal.begin_by-requires
begin_by-requires c =
    let book = c.self.inside in
    let next = c.requires.next ∙ ap (λ (b : Holding). b.length + 1) (sym c.self.view_is) in
    record {
      room = rw (c.end_by.ensures.rest, c.end_by.ensures.capacity)
          (room-left book.length (vec_capacity book.holds) book.holds.items c.args.commit.now c.self.invariant next);
    }

pub invariant_of-self : goal.invariant_of-self
invariant_of-self c =
    let book = c.self.inside in
    let next = c.requires.next ∙ ap (λ (b : Holding). b.length + 1) (sym c.self.view_is) in
    let grown : vec_capacity book.holds ≤ vec_capacity c.begin_by.new.holds =
    let same = c.end_by.ensures.capacity in
    let more = c.begin_by.ensures.capacity in
    omega (arith, same, more) in
    rw (c.begin_by.ensures.more, c.end_by.ensures.rest)
    (kept-more book.length (vec_capacity book.holds) (vec_capacity c.begin_by.new.holds) book.from book.holds.items c.args.commit.now
    c.args.observations c.self.invariant next grown)
