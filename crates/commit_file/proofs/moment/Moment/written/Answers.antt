use Rattle.std.proofs.Common.{◌≡◌, ◌≤◌, ◌∷◌, ap, sym, ◌∙◌, length, subst}
use Rattle.dio_core.specs.Disks.{DiskState, overwritten}
use Rattle.commit_file.proofs.Sound.{sound_written}
use Rattle.commit_file.proofs.moment.Moment.written.Goals as goal

pub invariant_of-result : goal.invariant_of-result
invariant_of-result c =
    let i = c.self.inside in
    let s : DiskState = record { file = i.file; durable = record { synced = i.synced; loose = i.loose; least = i.least; greatest = i.greatest } } in
    let same : i.file ≡ c.args.self.now.file = ap (λ (t : DiskState). t.file) c.self.view_is in
    let within : c.args.at ≤ length i.file = subst (λ l. c.args.at ≤ length l) (sym same) c.requires.within in
    sound_written s c.args.at c.args.end c.args.bytes.now c.in_ok-spliced.field-0 c.in_ok-clone.field-0 c.insert.new.self c.max.result
    c.self.invariant within c.requires.end c.requires.some
    (c.in_ok-spliced.ensures ∙ ap (λ l. overwritten l c.args.at c.args.bytes.now) c.as_slice-2.ensures)
    c.in_ok-clone.ensures.cases
    (c.in_ok-insert.ensures.ok ∙ ap (λ l. (c.args.at, c.args.end) ∷ l) (c.in_ok-loose.ensures ∙ c.as_slice.ensures))
    c.max.ensures
