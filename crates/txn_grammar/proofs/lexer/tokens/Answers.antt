use Rattle.std.proofs.Common.{rules, arith, ◌∙◌, ap, drop, ◌<◌, length, ◌+◌}
use Rattle.std.proofs.lemmas.List.{take_rest}
use Rattle.txn_grammar.specs.Lexer.{lex, lex_from, spot, token_at}
use Rattle.txn_grammar.proofs.Cuts.{one_more, last_one, lexeme_goes, lexeme_ends, moves_at}
use Rattle.txn_grammar.proofs.lexer.tokens.Goals as goal

pub loop-at-init : goal.loop-at-init
unfolding lex
loop-at-init c = search rules

pub overflow_add-at-else-is_blank : goal.overflow_add-at-else-is_blank
overflow_add-at-else-is_blank c =
    let z = c.args.source.now in
    let below : c.loop-at.at < length z = omega arith in
    let m = moves_at z c.loop-at.at c.in_ok-token.field-0 below (c.in_ok-token.ensures ∙ ap token_at (take_rest z c.loop-at.at)) in
    omega (arith, m)

pub loop-at-smaller : goal.loop-at-smaller
loop-at-smaller c =
    let z = c.args.source.now in
    let below : c.loop-at.at < length z = omega arith in
    let m = moves_at z c.loop-at.at c.in_ok-token.field-0 below (c.in_ok-token.ensures ∙ ap token_at (take_rest z c.loop-at.at)) in
    omega (arith, m)

pub returns-then-ends : goal.returns-then-ends
returns-then-ends c =
    let z = c.args.source.now in
    let at = c.loop-at.at in
    let found = c.in_ok-token.field-0 in
    let below : at < length z = omega arith in
    let e = c.in_ok-token.ensures ∙ ap token_at (take_rest z at) in
    let cut = lexeme_ends z at below found e (search rules) (search rules) in
    last_one c.push.new.self.items c.loop-at.spots.items (lex_from (at + 1) 0 (drop at z)) (lex z) (spot (at + 1) found.token)
    c.in_ok-push.ensures.items cut c.loop-at.invariant.0

pub loop-at-preserved : goal.loop-at-preserved
loop-at-preserved c =
    let z = c.args.source.now in
    let at = c.loop-at.at in
    let found = c.in_ok-token.field-0 in
    let below : at < length z = omega arith in
    let e = c.in_ok-token.ensures ∙ ap token_at (take_rest z at) in
    let m = moves_at z at found below e in
    let cut = lexeme_goes z at below found e (search rules) (search rules) in (
      one_more c.push.new.self.items c.loop-at.spots.items (lex_from ((at + found.len) + 1) 0 (drop (at + found.len) z))
          (lex_from (at + 1) 0 (drop at z)) (lex z) (spot (at + 1) found.token) c.in_ok-push.ensures.items cut
          c.loop-at.invariant.0,
      omega (arith, m),
    )
