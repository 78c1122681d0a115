use Rattle.std.proofs.Common.{◌≡◌, IfOk, sym, ap, ◌∙◌, subst}
use Rattle.std.specs.FinMap as fin
use Rattle.rdt_types.specs.Values.{hash_in}
use Rattle.rdt_types.specs.Marks.{put_by}
use Rattle.write_buffer.proofs.KeySets.{keys-applied}
use Rattle.write_buffer.proofs.Over.{keys_none, not_hash}
use Rattle.write_buffer.proofs.answering.hash_over.Goals as goal

pub returns-in_ok-key_set-in-Hash : goal.returns-in_ok-key_set-in-Hash
returns-in_ok-key_set-in-Hash c =
    let same = c.in_ok-key_set-in-Hash.ensures ∙ ap (λ v. fin.keys (hash_in v)) (sym c.in-Hash.is) in
    subst (λ keys. IfOk c.keys_over-in-Hash.result (λ xs. xs ≡ keys))
    (keys-applied put_by c.args.d.now _ (hash_in c.args.value.now) same) c.keys_over-in-Hash.ensures

pub returns-in_default : goal.returns-in_default
returns-in_default c =
    let same = keys_none _ c.new.ensures ∙ sym (keys_none _ (not_hash c.args.value.now c.in_default.not-Hash)) in
    subst (λ keys. IfOk c.keys_over-in_default-2.result (λ xs. xs ≡ keys))
    (keys-applied put_by c.args.d.now _ (hash_in c.args.value.now) same) c.keys_over-in_default-2.ensures
