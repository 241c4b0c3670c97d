use Rattle.std.proofs.Common.{◌≡◌, ap, length, arith}
use Rattle.std.proofs.lemmas.Bool.{ltb-true}
use Rattle.std.proofs.lemmas.List.{length-map}
use Rattle.flow_base.specs.Lists.{items_of}
use Rattle.active_config.specs.Tree.{state_count}
use Rattle.code_language.specs.declared.code.RawState.{RawState}
use Rattle.code_passes.proofs.keys.is_home_of.Goals as goal

-- the state is there
pub returns-in-Some : goal.returns-in-Some
unfolding state_count
returns-in-Some c below s e =
    let same : c.in-Some.state ≡ s = cc e in
    let all = length-map (items_of c.args.raw.now.states) (λ (x : RawState). x.parent) in
    let less = ltb-true c.in-Some.state (length c.items.result.now) below in
    omega (arith, same, all, less, ap length c.items.ensures)
