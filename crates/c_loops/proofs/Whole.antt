-- A function is made a loop where it may be one.
use Rattle.std.proofs.Common.{◌≡◌, ℕ, Bool, true, false, cond, List, length, sym, ap, ◌∙◌, subst}
use Rattle.std.proofs.lemmas.List.{length-map}
use Rattle.flow_base.specs.Lists.{items_of}
use Rattle.flow_base.specs.declared.list.List.{List as Items}
use Rattle.c_subset.specs.Trees.{Block, Function}
use Rattle.c_subset.specs.declared.trees.CType.{CType}
use Rattle.c_subset.specs.declared.trees.Function as declared_function
use Rattle.c_subset.specs.declared.trees.Line as declared_line
use Rattle.c_subset.specs.Lines.{line_of, lines_in, lines_of, IsFunction}
use Rattle.c_loops.specs.Loops.{turned, may_loop, looped}

-- a function has the types and as many lines as its lines say
may-same : (f : declared_function.Function) (g : Function) → IsFunction f g
    → may_loop f.result (items_of f.parameters) (length (items_of f.lines))
    ≡ may_loop g.result g.parameters (length (lines_of g.body))
may-same f g h =
    ap (λ (t : CType). may_loop t (items_of f.parameters) (length (items_of f.lines))) h.result
    ∙ ap (λ (ts : List CType). may_loop g.result ts (length (items_of f.lines))) h.parameters
    ∙ ap (λ (n : ℕ). may_loop g.result g.parameters n)
    (sym (length-map (items_of f.lines) line_of) ∙ ap length h.lines)

-- one that may not be a loop stays as it is
pub plain-is : (f : declared_function.Function) (g : Function) (p : ℕ)
    → may_loop f.result (items_of f.parameters) (length (items_of f.lines)) ≡ false
    → IsFunction f g → IsFunction f (looped p g)
plain-is f g p none h =
    subst (λ (b : Bool). IsFunction f (cond b (record g { body = turned p g.body }) g))
    (sym (sym (may-same f g h) ∙ none)) h

-- another has the lines of its body, as a loop where it may be one
pub loop-is : (f : declared_function.Function) (ls : Items declared_line.Line) (g : Function) (p : ℕ) (b : Block)
    → ((a : Block) → lines_in (items_of f.lines) ≡ lines_of a → b ≡ a)
    → may_loop f.result (items_of f.parameters) (length (items_of f.lines)) ≡ true
    → lines_in (items_of ls) ≡ lines_of (turned p b) → IsFunction f g
    → IsFunction (record f { lines = ls }) (looped p g)
loop-is f ls g p b is may made h =
    at (may_loop g.result g.parameters (length (lines_of g.body))) (sym (may-same f g h) ∙ may)
    (is g.body h.lines)
  where
    at : (a : Bool) → a ≡ true → b ≡ g.body
        → IsFunction (record f { lines = ls }) (cond a (record g { body = turned p g.body }) g)
    at true may same = record {
      result = h.result;
      parameters = h.parameters;
      lines = made ∙ ap (λ (b : Block). lines_of (turned p b)) same;
    }
    at false may same = absurd cc
