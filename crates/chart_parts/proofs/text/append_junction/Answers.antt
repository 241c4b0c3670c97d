use Rattle.std.proofs.Common.{◌∙◌, ◌+◌, ◌++◌, codes, decimal, string_bytes, ap, append_assoc}
use Rattle.actions.specs.Names.{names_of}
use Rattle.chart_parts.specs.PartText.{list_words, state_words, part_text}
use Rattle.chart_parts.proofs.Turns.{three_parts}
use Rattle.chart_parts.proofs.text.append_junction.Goals as goal

-- the words, one after the other
pub returns : goal.returns
unfolding part_text
returns c =
    let old = string_bytes c.args.out.now in
    let two = string_bytes c.push_str.new.self in
    let words = codes "search of junction " in
    let number = decimal (c.args.junction + 1) in
    let state = state_words c.args.shape.now (names_of c.args.names.now) c.args.state in
    let rest = list_words c.args.kind ++ state in
    three_parts old (string_bytes c.append_count.new.out) two _ (words ++ number) (codes " from ") rest
    c.in_ok-append_count.ensures c.in_ok-push_str.ensures.bytes
    (c.in_ok-append_state.ensures ∙ ap (λ list. two ++ (list ++ state)) c.list_words.ensures)
    ∙ ap (λ text. old ++ text) (append_assoc words number (codes " from " ++ rest))
