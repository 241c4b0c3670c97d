use Rattle.std.proofs.Common.{◌+◌, refl, sym, ◌∙◌}
use Rattle.flow_base.proofs.Pieces.{rest_is}
use Rattle.actions.specs.Names.{names_of}
use Rattle.event_file.proofs.ValueLemmas.{Names-datum, gives_no_input, gives_twice, kept_gives, kept_made, kept_inputs}
use Rattle.event_file.proofs.values.give.Goals as goal

pub returns-then-not-is_input-clause-gave : goal.returns-then-not-is_input-clause-gave
returns-then-not-is_input-clause-gave c =
    let e = c.items-vars.ensures in
    let p = c.in-Some-place_of_var.ensures.place in
    let w = c.in-Some-place_of_var.ensures.within in
    let i = c.index-vars-place.is in
    let d : Names-datum (names_of c.args.names.now) c.args.token.now c.in-Some.sign c.in-Some-place_of_var.place c.index-vars-place.result =
    record { sign = c.in-Some.ensures.place; place = p; within = w; is = rw e at i } in
    gives_no_input (names_of c.args.names.now) c.args.vals.now.values c.args.token.now c.in-Some.sign c.in-Some-place_of_var.place c.index-vars-place.result d
    (sym c.is_input.ensures ∙ c.if-not-is_input.true)

pub returns-then-is_named-clause-gave : goal.returns-then-is_named-clause-gave
returns-then-is_named-clause-gave c =
    let e = c.items-vars.ensures in
    let p = c.in-Some-place_of_var.ensures.place in
    let w = c.in-Some-place_of_var.ensures.within in
    let i = c.index-vars-place.is in
    let d : Names-datum (names_of c.args.names.now) c.args.token.now c.in-Some.sign c.in-Some-place_of_var.place c.index-vars-place.result =
    record { sign = c.in-Some.ensures.place; place = p; within = w; is = rw e at i } in
    gives_twice (names_of c.args.names.now) c.args.vals.now.values c.args.token.now c.in-Some.sign c.in-Some-place_of_var.place c.index-vars-place.result d
    (sym c.is_input.ensures ∙ c.if-not-is_input.false) (sym c.is_named.ensures ∙ c.if-is_named.true)

pub returns-clause-gave : goal.returns-clause-gave
returns-clause-gave c =
    let e = c.items-vars.ensures in
    let p = c.in-Some-place_of_var.ensures.place in
    let w = c.in-Some-place_of_var.ensures.within in
    let i = c.index-vars-place.is in
    let d : Names-datum (names_of c.args.names.now) c.args.token.now c.in-Some.sign c.in-Some-place_of_var.place c.index-vars-place.result =
    record { sign = c.in-Some.ensures.place; place = p; within = w; is = rw e at i } in
    let k = c.give_text.ensures.kept in
    let kept = rw (rest_is (c.in-Some.sign + 1) c.args.token.now) at k in
    kept_gives (names_of c.args.names.now) c.args.vals.now c.give_text.new.vals c.args.token.now c.in-Some.sign c.in-Some-place_of_var.place c.index-vars-place.result _ c.give_text.result d
    (sym c.is_input.ensures ∙ c.if-not-is_input.false) (sym c.is_named.ensures ∙ c.if-is_named.false) refl kept

pub returns-clause-made : goal.returns-clause-made
returns-clause-made c =
    kept_made (names_of c.args.names.now) c.args.vals.now c.give_text.new.vals c.in-Some-place_of_var.place _ c.give_text.result c.give_text.ensures.kept c.requires.made

pub returns-clause-values : goal.returns-clause-values
returns-clause-values c = λ all.
    let e = c.items-vars.ensures in
    let p = c.in-Some-place_of_var.ensures.place in
    let w = c.in-Some-place_of_var.ensures.within in
    let i = c.index-vars-place.is in
    let d : Names-datum (names_of c.args.names.now) c.args.token.now c.in-Some.sign c.in-Some-place_of_var.place c.index-vars-place.result =
    record { sign = c.in-Some.ensures.place; place = p; within = w; is = rw e at i } in
    kept_inputs (names_of c.args.names.now) c.args.vals.now c.give_text.new.vals c.args.token.now c.in-Some.sign c.in-Some-place_of_var.place c.index-vars-place.result _ c.give_text.result d
    (sym c.is_input.ensures ∙ c.if-not-is_input.false) c.give_text.ensures.sort c.requires.made c.give_text.ensures.kept all
