use Rattle.std.proofs.Common.{ℕ, ◌≤◌, length, arith}
use Rattle.std.proofs.lemmas.List.{map_push, length-take, length-drop}
use Rattle.token_grammar.specs.Token.{lexemes}
use Rattle.statechart_lexer.proofs.Cuts.{after_skip, after_token, at_stop}
use Rattle.statechart_lexer.proofs.lexer.lex.Goals as goal

pub returns-in-Stop : goal.returns-in-Stop
returns-in-Stop c =
    at_stop (lexemes c.fronts.tokens.items) c.fronts.place c.args.text.now c.fronts.at c.in-Stop.stop _ c.in-Stop.ensures.value c.fronts.invariant.so_far

pub fronts-preserved-in-Skip : goal.fronts-preserved-in-Skip
fronts-preserved-in-Skip c =
    let fits = c.in-Skip.ensures.within in
    let over = c.after_bytes-place.ensures in
    record {
      bound = omega (arith, fits.0, fits.1, length-take {A = ℕ}, length-drop {A = ℕ});
      line = omega (arith, over.line, fits.1, c.fronts.invariant.line, length-take {A = ℕ}, length-drop {A = ℕ});
      column = omega (arith, over.column, fits.1, c.fronts.invariant.column, length-take {A = ℕ}, length-drop {A = ℕ});
      some = over.some;
      so_far =
          rw over.value
          (after_skip (lexemes c.fronts.tokens.items) c.fronts.place c.args.text.now c.fronts.at c.in-Skip.length _ c.in-Skip.ensures.value fits.0 fits.1 c.fronts.invariant.so_far);
    }

pub fronts-preserved : goal.fronts-preserved
fronts-preserved c =
    let fits = c.in-Token.ensures.within in
    let over = c.after_bytes-place-in-Token.ensures in
    let within : c.in-Token.taken ≤ length _ = omega (arith, fits.1.0, fits.1.1) in
    record {
      bound = omega (arith, fits.0, within, length-take {A = ℕ}, length-drop {A = ℕ});
      line = omega (arith, over.line, within, c.fronts.invariant.line, length-take {A = ℕ}, length-drop {A = ℕ});
      column = omega (arith, over.column, within, c.fronts.invariant.column, length-take {A = ℕ}, length-drop {A = ℕ});
      some = over.some;
      so_far =
          rw (over.value, c.in_ok-push-in-Token.ensures.items, map_push)
          (after_token (lexemes c.fronts.tokens.items) c.fronts.place c.args.text.now c.fronts.at c.in-Token.kind c.in-Token.length c.in-Token.taken _ c.in-Token.ensures.value fits.0 within c.fronts.invariant.so_far);
    }
