use Rattle.std.proofs.Common.{◌≡◌, ◌<◌, ◌∷◌, [], ◌++◌, List, length, get_or, take, false, None, sym, ap, ◌∙◌, arith}
use Rattle.std.proofs.Common.{add-one}
use Rattle.actions.specs.declared.names.Var.{Var}
use Rattle.chart_tree.specs.declared.sort.InitText.{InitText}
use Rattle.chart_tree.specs.declared.sort.InitText.TheVariants as inits
use Rattle.resolved_tree.specs.Plain as plain
use Rattle.chart_check.proofs.PartLemmas.{inits_more}
use Rattle.chart_check.proofs.inits.with_inits.Goals as goal

-- the first value that is read where there is none
abbrev no_init : InitText
no_init = inits.Number false (record { units = 0; places = 0; q = None }) (record { line = 0; column = 0 })

pub loop-v-preserved : goal.loop-v-preserved
loop-v-preserved c =
    let vs = c.args.vars.now in
    let xs = c.args.inits.now in
    let v = c.loop-v.v in
    let var = c.index-vars-v.result in
    let within : v < length vs = omega arith in
    let within_inits : v < length xs = omega (arith, c.requires.sized) in
    let made : c.in_ok-with_init.field-0 ≡ plain.with_init (get_or vs v var) (get_or xs v no_init) =
    c.in_ok-with_init.ensures ∙ ap (λ (x : Var). plain.with_init x (get_or xs v no_init)) c.index-vars-v.is in
    c.in_ok-push.ensures.items
    ∙ ap (λ (zs : List Var). zs ++ c.in_ok-with_init.field-0 ∷ []) c.loop-v.invariant
    ∙ ap (λ (z : Var). plain.with_inits (take v vs) (take v xs) ++ z ∷ []) made
    ∙ sym (inits_more vs xs v var no_init within within_inits)
    ∙ ap (λ n. plain.with_inits (take n vs) (take n xs)) (sym (add-one v))
