use Rattle.std.proofs.Common.{ℕ, drop, arith, length-take}
use Rattle.flow_base.proofs.Pieces.{rest_is}
use Rattle.event_file.proofs.TokenLemmas.{tokens_none, tokens_to_blank, tokens_to_end}
use Rattle.event_file.proofs.tokens.next_token.Goals as goal

-- no token
pub returns-in_err-start-clause-tokens : goal.returns-in_err-start-clause-tokens
returns-in_err-start-clause-tokens c = rw c.from_residual.ensures (tokens_none c.args.text.now c.in_err-start.ensures.place)

-- a token up to a blank
pub returns-in-Some-clause-tokens : goal.returns-in-Some-clause-tokens
returns-in-Some-clause-tokens c =
    let text = c.args.text.now in
    let start = c.in_ok-start.start in
    let k = c.in-Some.ensures.place in
    let at = rw (rest_is start text) at k in
    let e = tokens_to_blank text start c.in-Some.end c.in_ok-start.ensures.place c.in_ok-start.ensures.within at in
    rw (rest_is start text, rest_is c.in-Some.end (drop start text)) e.0

pub returns-in-Some-clause-some : goal.returns-in-Some-clause-some
returns-in-Some-clause-some c =
    let text = c.args.text.now in
    let start = c.in_ok-start.start in
    let k = c.in-Some.ensures.place in
    let at = rw (rest_is start text) at k in
    let e = tokens_to_blank text start c.in-Some.end c.in_ok-start.ensures.place c.in_ok-start.ensures.within at in
    omega (arith, e.1, c.in-Some.ensures.within, length-take {A = ℕ})

-- the last token
pub returns-in-None-clause-tokens : goal.returns-in-None-clause-tokens
returns-in-None-clause-tokens c =
    let text = c.args.text.now in
    let start = c.in_ok-start.start in
    let k = c.in-None.ensures.place in
    let at = rw (rest_is start text) at k in
    rw (rest_is start text) (tokens_to_end text start c.in_ok-start.ensures.place c.in_ok-start.ensures.within at)
