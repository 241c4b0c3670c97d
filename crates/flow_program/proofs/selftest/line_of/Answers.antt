use Rattle.std.proofs.Common.{ap, ◌∙◌, List, ℕ}
use Rattle.flow_program.specs.CaseLine.{line_text}
use Rattle.flow_program.proofs.SelftestLemmas.{line_in_pieces}
use Rattle.flow_program.proofs.selftest.line_of.Goals as goal

pub returns : goal.returns
returns c =
    let m = c.args.measures.now in
    c.in_ok-line.ensures.ok ∙ line_in_pieces c.args.n c.args.states m.events m.trace_bytes c.result_of-result.result.now
    ∙ ap (λ (x : List ℕ). line_text c.args.n c.args.states m.events m.trace_bytes x) c.result_of-result.ensures
