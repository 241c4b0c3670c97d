use Rattle.std.proofs.Common.{◌∙◌, ◌++◌, codes, string_bytes, ap}
use Rattle.actions.specs.Names.{names_of}
use Rattle.chart_parts.specs.PartText.{way_words, state_words, part_text}
use Rattle.chart_parts.proofs.TextLemmas.{way_text}
use Rattle.chart_parts.proofs.text.append_way.Goals as goal

pub returns-in_ok-append_state-2 : goal.returns-in_ok-append_state-2
unfolding part_text
returns-in_ok-append_state-2 c =
    let tree = c.args.shape.now in
    let names = names_of c.args.names.now in
    let old = string_bytes c.args.out.now in
    way_text c.args.state c.args.dest (way_words c.args.way) (state_words tree names c.args.state)
    (codes " on the way to " ++ state_words tree names c.args.dest) old (string_bytes c.append_state.new.out) _
    c.if-state-dest.true
    (c.in_ok-append_state.ensures
    ∙ ap (λ words. old ++ (words ++ state_words tree names c.args.state)) c.way_words.ensures)
    c.in_ok-append_state-2.ensures
