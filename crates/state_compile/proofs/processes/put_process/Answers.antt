use Rattle.list_compile.specs.Drafts.{code_seen}
use Rattle.state_compile.proofs.Turns.{three_parts}
use Rattle.state_compile.proofs.processes.put_process.Goals as goal

pub returns : goal.returns
returns c =
    let done =
    three_parts (code_seen c.args.code.now) _ _ _ _ _ _ c.in_ok-put_outer.ensures c.in_ok-put_inner.ensures
    c.in_ok-put_children.ensures in
    done
