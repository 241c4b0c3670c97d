use Rattle.list_compile.specs.Drafts.{code_seen}
use Rattle.state_compile.proofs.Turns.{two_parts}
use Rattle.state_compile.proofs.exits.put_exit.Goals as goal

pub returns : goal.returns
returns c =
    let done =
    two_parts (code_seen c.args.code.now) _ _ _ _ c.in_ok-put_exit_start.ensures c.in_ok-put_exit_end.ensures in
    done
