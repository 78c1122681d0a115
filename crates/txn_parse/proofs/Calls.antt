-- What a call of a closure says of the values behind its references.
use Rattle.std.proofs.Common.{refl}
use Rattle.std.specs.Fn.{Shared, FnReturnsAt}
use Rattle.std.proofs.lemmas.Fn.{says}
use denote.Ref.{Bor, MutBor}
use Rattle.txn_parse.specs.code.Closures.{ReturnsAtMut}

-- at a `&`
pub told_at : {F T R : Type 0} (g : Shared F (Bor T × Unit {0}) R) {f : F} {x : Bor T} {r : R} → g.post f (x, tt) r → FnReturnsAt g f x.now r
told_at g {f} {x} {r} e = record { shown = x; shows = refl; says = says g e refl }

-- at a `&mut`
pub left_at : {F T R : Type 0} (g : Shared F (MutBor T × Unit {0}) (R × (MutBor T × Unit {0}))) {f : F} {x y : MutBor T} {r : R}
    → g.post f (x, tt) (r, (y, tt)) → ReturnsAtMut g f x.now r y.now
left_at g {f} {x} {y} {r} e = record { shown = x; shows = refl; left = y; met = e; leaves = refl }
