use Rattle.std.proofs.Common.{ℕ, List, map, subst}
use Rattle.std.specs.Prelude.{decimal}
use Rattle.std.specs.List.{join_with_byte}
use Rattle.actions.specs.Names.{names_of}
use Rattle.trace_text.specs.Pieces.{Written}
use Rattle.trace_text.specs.Trace.{line_front, event_word, event_name, path_of, active_states, value_texts, listed}
use Rattle.trace_text.proofs.PutLemmas.{front_parts}
use Rattle.trace_text.proofs.trace.put_front.Goals as goal

-- the parts make the front of the line
pub returns : goal.returns
unfolding line_front
returns g c = λ w f all h.
    let view = c.args.view.now in
    let tree = view.shape.now in
    let n = names_of view.names.now in
    let word = c.event_word.ensures in
    let h1 = c.put_head.ensures w f all h in
    let h2 = c.put.ensures w f _ (rw word at h1) in
    let h3 = c.put_states.ensures w f _ h2 in
    let h4 = c.put-2.ensures w f _ h3 in
    let h5 = c.put_data.ensures w f _ h4 in
    let h6 = c.put_byte.ensures w f _ h5 in
    let h7 = c.put_outputs.ensures w f _ h6 in
    let h8 = c.put_byte-2.ensures w f _ h7 in
    subst (λ (z : List ℕ). Written w (g.O.Sink.wrote c.put_byte-2.new.out) f (g.O.Sink.faults c.put_byte-2.new.out) z
    c.put_byte-2.new.self)
    (front_parts all (decimal c.args.index) (event_word n c.args.event)
    (join_with_byte 44 (map (path_of tree n) (active_states tree view.marks.now)))
    (listed (value_texts n.vars view.vals.now)) (listed (map (event_name n) view.outputs.now))) h8
