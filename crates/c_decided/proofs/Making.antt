-- A function that was gone through has decided tests.
use Rattle.std.proofs.Common.{◌≡◌, ℕ, true, refl, ap, ◌∙◌, subst}
use Rattle.flow_base.specs.Lists.{items_of}
use Rattle.c_subset.specs.declared.trees.CType.{CType}
use Rattle.c_subset.specs.declared.trees.Function as declared_function
use Rattle.c_subset.specs.Trees.{Block, Function}
use Rattle.c_subset.specs.Lines.{IsFunction, lines_in, lines_of}
use Rattle.c_decided.specs.Facts.{alone}
use Rattle.c_decided.specs.Decided.{Plan}
use Rattle.c_decided.specs.Walk.{walked}
use Rattle.c_decided.specs.Made.{BodyIsDecided, body_of, is_right, AreMadeLines, IsMadeFunction}
use Rattle.c_decided.proofs.WalkedRight.{walked-right}
use Rattle.c_decided.proofs.Staying.{walked-stays}

body-decided : (P : Plan) (p : ℕ) (result : CType) (a : Block) → is_right P p result a ≡ true
    → BodyIsDecided P p result a (body_of P p result a)
body-decided P p result a right int =
    ((walked P p result a (alone (P.begins p))).after, walked-right int P p result a (alone (P.begins p)) right)

-- the function with the body that was made
pub function_made : (P : Plan) (p : ℕ) (f : declared_function.Function) (g : Function)
    (made : declared_function.Function) → made.result ≡ f.result → items_of made.parameters ≡ items_of f.parameters
    → AreMadeLines P p f.result g.body (lines_in (items_of made.lines)) → IsFunction f g → IsMadeFunction P p g made
function_made P p f g made er ep lines is =
    let right : is_right P p g.result g.body ≡ true =
    subst (λ (t : CType). is_right P p t g.body ≡ true) is.result lines.1 in (
      record g { body = body_of P p g.result g.body },
      record {
        result = er ∙ is.result;
        parameters = ep ∙ is.parameters;
        lines = lines.0 ∙ ap (λ (t : CType). lines_of (body_of P p t g.body)) is.result;
      },
      record {
        result = refl;
        parameters = refl;
        body = body-decided P p g.result g.body right;
        stays = λ stays. ap (λ (b : Block). record g { body = b })
            (walked-stays P p g.result stays g.body (alone (P.begins p)));
      },
    )
