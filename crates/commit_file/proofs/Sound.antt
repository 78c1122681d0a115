-- A moment after a write, and what a read shows.
use Rattle.std.proofs.Common.{◌≡◌, ℕ, ◌+◌, ◌-◌, ◌<◌, ◌≤◌, min, max, List, [], ◌∷◌, ◌++◌, length, take, drop, Result, Ok, Err, refl, ap, sym, ◌∙◌, subst, arith, length-drop, length-take, take-append-drop}
use Rattle.std.proofs.lemmas.List.{take_at, take_all, drop-drop}
use Rattle.std.proofs.lemmas.Grind.{common_steps}
use Rattle.dio_core.specs.Disks.{Durable, DiskState, MayLeave, loosened, overwritten, write_start}
use Rattle.dio_core.proofs.Disks.{LeavesFile-Writes, Writes-done}
use Rattle.commit_file.specs.Tapes.{IsCoherent}

pub sound_written : (s : DiskState) (at end : ℕ) (bytes file synced : List ℕ) (loose : List (ℕ × ℕ)) (greatest : ℕ) → IsCoherent s → at ≤ length s.file
    → end ≡ at + length bytes → 0 < length bytes → file ≡ overwritten s.file at bytes → synced ≡ s.durable.synced → loose ≡ (at, end) ∷ s.durable.loose
    → greatest ≡ max s.durable.greatest end
    → IsCoherent (record { file = file; durable = record { synced = synced; loose = loose; least = s.durable.least; greatest = greatest } })
sound_written s at end bytes file synced loose greatest sound within ends some file_is synced_is loose_is greatest_is =
    let t : DiskState = record { file = file; durable = record { synced = synced; loose = loose; least = s.durable.least; greatest = greatest } } in
    let start : at ≡ min at (length s.file) = omega arith in
    let durable : t.durable ≡ loosened (write_start s.file at) (at + length bytes) s.durable =
    ap (λ l. record { synced = l; loose = loose; least = s.durable.least; greatest = greatest }) synced_is
    ∙ ap (λ l. record { synced = s.durable.synced; loose = l; least = s.durable.least; greatest = greatest }) loose_is
    ∙ ap (λ n. record { synced = s.durable.synced; loose = (at, end) ∷ s.durable.loose; least = s.durable.least; greatest = n }) greatest_is
    ∙ ap (λ n. record { synced = s.durable.synced; loose = (at, n) ∷ s.durable.loose; least = s.durable.least; greatest = max s.durable.greatest n }) ends
    ∙ ap (λ n. record { synced = s.durable.synced; loose = (n, at + length bytes) ∷ s.durable.loose; least = s.durable.least; greatest = max s.durable.greatest (at + length bytes) }) start in
    let left : MayLeave t.durable t.file = LeavesFile-Writes (Ok 0) at bytes s t sound.reads (Writes-done ℕ ℕ 0 at bytes s t some file_is durable) in
    record {
      reads = left;
      no_shorter = subst (λ l. s.durable.least ≤ length l) (sym synced_is) sound.no_shorter;
      no_longer = subst (λ l. length l ≤ greatest) (sym synced_is) (omega (arith, sound.no_longer));
    }

-- a piece of what is left, at the front of a buffer
pub shows_piece : (file piece back : List ℕ) (at count : ℕ) → piece ≡ take count (drop at file) → length piece ≡ count
    → drop at file ≡ take count (piece ++ back) ++ drop (at + count) file
shows_piece file piece back at count is long =
    let front : take count (piece ++ back) ≡ piece = take_at piece back count long in
    sym (take-append-drop count (drop at file)) ∙ ap (λ l. l ++ drop count (drop at file)) (sym is ∙ sym front)
    ∙ ap (λ l. take count (piece ++ back) ++ l) (drop-drop_at at count file)
  where
    drop-drop_at : (a b : ℕ) (xs : List ℕ) → drop b (drop a xs) ≡ drop (a + b) xs
    drop-drop_at a b xs = drop-drop b a xs

-- the same, of the code's own cut
pub shows_copied : (file piece back : List ℕ) (at count room : ℕ) → at < length file → 0 < room → piece ≡ take count (take (length file - at) (drop at file))
    → count ≡ min (length (take (length file - at) (drop at file))) room
    → (at < length file → 0 < count) × (drop at file ≡ take count (piece ++ back) ++ drop (at + count) file)
shows_copied file piece back at count room inside some is count_is =
    let all : take (length file - at) (drop at file) ≡ drop at file = take_all (length file - at) (drop at file) (omega (arith, length-drop at file)) in
    let long : length (take (length file - at) (drop at file)) ≡ length file - at = ap length all ∙ length-drop at file in
    let piece_is : piece ≡ take count (drop at file) = is ∙ ap (take count) all in (
      (λ _. omega (arith, count_is, long)),
      shows_piece file piece back at count piece_is (ap length piece_is ∙ length-take count (drop at file) ∙ omega (arith, count_is, long, length-drop at file)),
    )
