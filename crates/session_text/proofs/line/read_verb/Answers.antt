use Rattle.session_text.specs.code.Lines as spec
use Rattle.session_text.proofs.Verbs.{read_is, forms_are, bad_is}
use Rattle.session_text.proofs.line.read_verb.Goals as goal

pub returns : goal.returns
returns c =
    record {
      read =
          read_is c.args.bytes.now c.new-cursor.result c.finish_line.result c.new-cursor.ensures
          (λ n. c.finish_line.ensures.answer (spec.line c.new-cursor.result) c.line-found.ensures
          (λ e. n (c.finish_line.ensures.memory e)));
      forms =
          forms_are c.args.bytes.now c.new-cursor.result c.finish_line.result c.new-cursor.ensures
          (λ n. c.finish_line.ensures.answer (spec.line c.new-cursor.result) c.line-found.ensures
          (λ e. n (c.finish_line.ensures.memory e)));
      bad =
          bad_is c.args.bytes.now c.new-cursor.result c.finish_line.result c.new-cursor.ensures
          (λ n. c.finish_line.ensures.answer (spec.line c.new-cursor.result) c.line-found.ensures
          (λ e. n (c.finish_line.ensures.memory e)));
    }
