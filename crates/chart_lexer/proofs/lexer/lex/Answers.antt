use Rattle.std.proofs.Common.{ℕ, ◌<◌, length, arith}
use Rattle.std.proofs.lemmas.List.{map_push, length-take, length-drop}
use Rattle.token_grammar.specs.Token.{lexemes}
use Rattle.chart_lexer.proofs.Cuts.{after_blank, after_token, at_stop, next_line, next_column}
use Rattle.chart_lexer.proofs.lexer.lex.Goals as goal

pub returns-in-Stop : goal.returns-in-Stop
returns-in-Stop c =
    at_stop (lexemes c.fronts.tokens.items) c.fronts.place c.args.text.now c.fronts.at c.in-Stop.stop _ c.in-Stop.ensures.value c.fronts.invariant.so_far

pub fronts-preserved-in-Blank : goal.fronts-preserved-in-Blank
fronts-preserved-in-Blank c =
    let some : c.fronts.at < length c.args.text.now =
    omega (arith, c.in-Blank.ensures.within, length-take {A = ℕ}, length-drop {A = ℕ}) in
    record {
      bound = omega arith;
      line = next_line c.fronts.place _ _ c.fronts.at c.after_byte-place.ensures c.fronts.invariant.line;
      column = next_column c.fronts.place _ _ c.fronts.at c.after_byte-place.ensures c.fronts.invariant.column;
      so_far =
          rw c.after_byte-place.ensures
          (after_blank (lexemes c.fronts.tokens.items) c.fronts.place c.args.text.now c.fronts.at _ some c.in-Blank.ensures.value c.fronts.invariant.so_far);
    }

pub fronts-preserved : goal.fronts-preserved
fronts-preserved c =
    let fits = c.in-Token.ensures.within in
    record {
      bound = omega (arith, fits.0, fits.1, length-take {A = ℕ}, length-drop {A = ℕ});
      line = rw c.right_of-place.ensures (omega (arith, fits.0, c.fronts.invariant.line));
      column = rw c.right_of-place.ensures (omega (arith, c.fronts.invariant.column));
      so_far =
          rw (c.right_of-place.ensures, c.in_ok-push-in-Token.ensures.items, map_push)
          (after_token (lexemes c.fronts.tokens.items) c.fronts.place c.args.text.now c.fronts.at c.in-Token.kind c.in-Token.length _ c.in-Token.ensures.value fits.0 fits.1 c.fronts.invariant.so_far);
    }
