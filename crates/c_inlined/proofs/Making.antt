-- A function of the code in which calls are replaced.
use Rattle.std.proofs.Common.{◌≡◌, ℕ, true, List, Some, slice_get, refl, sym, ap, ◌∙◌, subst}
use Rattle.flow_base.specs.Lists.{items_of}
use Rattle.flow_base.specs.declared.list.List.{List as Items}
use Rattle.c_subset.specs.declared.trees.CType.{CType}
use Rattle.c_subset.specs.declared.trees.Function as declared_function
use Rattle.c_subset.specs.declared.trees.Line as declared_line
use Rattle.c_subset.specs.Trees.{Block, Function}
use Rattle.c_subset.specs.Lines.{lines_in, lines_of}
use Rattle.c_bare.specs.Bare.{AreFunctions}
use Rattle.c_placing.specs.Placing.{placed}
use Rattle.c_placing.proofs.Base.{as-it-is}
use Rattle.c_inlined.specs.Inlined.{block_reads_below, IsInlined, IsMadeOf}

pub made-of : (fs : List declared_function.Function) (gs : List Function) (p n : ℕ) (f : declared_function.Function)
    (a b : Block) (types : Items CType) (ls : Items declared_line.Line) → AreFunctions fs gs → slice_get fs p ≡ Some f
    → ((c : Block) → lines_in (items_of f.lines) ≡ lines_of c → a ≡ placed 0 c) → block_reads_below n a ≡ true
    → IsInlined gs p f.result n a b → items_of types ≡ items_of f.parameters → lines_in (items_of ls) ≡ lines_of b
    → IsMadeOf gs p (record { result = f.result; parameters = types; lines = ls })
made-of fs gs p n f a b types ls are here copy below is same made g there =
    let h = are.each p f g here there in
    let body : a ≡ g.body = copy g.body h.lines ∙ as-it-is g.body in (
      record { result = g.result; parameters = g.parameters; body = b },
      record { result = h.result; parameters = same ∙ h.parameters; lines = made },
      record {
        result = refl;
        parameters = refl;
        base = n;
        below = subst (λ (c : Block). block_reads_below n c ≡ true) body below;
        body = subst (λ (t : CType). IsInlined gs p t n g.body b) h.result
            (subst (λ (c : Block). IsInlined gs p f.result n c b) body is);
      },
    )
