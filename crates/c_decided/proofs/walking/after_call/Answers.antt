use Rattle.std.proofs.Common.{◌≡◌, ◌&&◌, ℕ, true, Result, IfOk, subst}
use Rattle.c_subset.specs.declared.trees.CType.{CType}
use Rattle.c_facts.specs.Facts as domain
use Rattle.c_facts.specs.Views.{known_of, places_of}
use Rattle.c_decided.specs.Facts.{Facts}
use Rattle.c_decided.specs.Numbered as numbered
use Rattle.c_decided.specs.Views.{by_of, facts_of, function_of}
use Rattle.c_decided.specs.declared.plan.Facts.{Facts as Found}
use Rattle.c_decided.specs.declared.plan.FunctionFacts.{FunctionFacts}
use Rattle.c_decided.proofs.walking.after_call.Goals as goal

-- after the call of a function in another one
abbrev Called : {E : Type 0} → Result Found E → CType → ℕ → Facts → FunctionFacts → FunctionFacts → Type 0
Called r t i F callee own = IfOk r (λ after.
    ((domain.covers (numbered.all_of F.by) (known_of callee.begins)
    && domain.all_covered (places_of callee.touched) (places_of own.touched)) ≡ true)
    × (facts_of after ≡ record {
      type = t;
      local = i;
      by = numbered.brought t (numbered.each
          (domain.framed (domain.is_touched (places_of callee.touched)) (numbered.all_of F.by)) (by_of callee.leaves));
    }))

pub returns : goal.returns
returns c =
    let F = facts_of c.args.facts.now in
    subst (λ (own : FunctionFacts). Called c.known_call.result c.args.of c.args.local F
    (function_of c.args.plan.now c.args.function) own) c.in-Some-find.ensures
    (subst (λ (callee : FunctionFacts). Called c.known_call.result c.args.of c.args.local F callee
    c.in-Some-find.caller.now) c.in-Some.ensures c.known_call.ensures)
