use Rattle.std.proofs.Common.{◌≡◌, map, ◌+◌, length, true, false, refl, sym, ap}
use Rattle.std.proofs.Common.{◌∙◌, subst, arith}
use Rattle.std.specs.Prelude.{nat_le, ◌==◌}
use Rattle.std.proofs.lemmas.Bool.Decides.{nat_tests}
use Rattle.active_config.specs.Marks.{is_on, is_bare, can_mark}
use Rattle.actions.specs.Trees.{stmt_of}
use Rattle.actions.specs.Work.{Ended, Done, nothing, if_some}
use Rattle.sos_interpreter.proofs.Halts.{failed_through, failed_does, nothing_of, passed, ended_as, settled_at}
use Rattle.sos_interpreter.proofs.Measure.{visit_falls}
use Rattle.sos_interpreter.proofs.Paths.{enter_no, enter_fault, enter_cut, enter_done, inside_leaf, inside_or}
use Rattle.sos_interpreter.proofs.Paths.{inside_each, toward_one, toward_none, default_fault, default_after}
use Rattle.sos_interpreter.proofs.Paths.{defaults_search, defaults_return, fired_fault, fired_cut, fired_done}
use Rattle.sos_interpreter.proofs.Paths.{take_exit_fault, take_not_bare, take_play_fault, take_cut, take_left}
use Rattle.sos_interpreter.proofs.Paths.{take_enters, process_fault, process_after, outer_fault, outer_taken}
use Rattle.sos_interpreter.proofs.Paths.{during_fault, during_cut, inner_fault, inner_after, inner_take_fault}
use Rattle.sos_interpreter.proofs.Paths.{inner_taken, kids_leaf, kids_none, kids_fault, kids_one, kids_out, kids_each}
use Rattle.sos_interpreter.proofs.Paths.{assign_done, assign_fault, emit_done, emit_fault, sent_ends, sent_fault}
use Rattle.sos_interpreter.proofs.Paths.{exit_off, exit_children_fault, exit_not_bare, exit_block_fault, exit_cut}
use Rattle.sos_interpreter.proofs.Paths.{exit_kept, exit_left, exit_active_one, exit_active_none, exit_children_leaf}
use Rattle.sos_interpreter.proofs.Paths.{exit_children_or, exit_children_and, send_too_deep, send_fault, send_off}
use Rattle.sos_interpreter.proofs.Paths.{send_on, send_on_fault}
use Rattle.sos_interpreter.proofs.SearchLemmas.{block_ended, leads_begin, of_none, passes_over, at_end, guard_faults}
use Rattle.sos_interpreter.proofs.SearchLemmas.{condition_faults, condition_cut, junction_faults, at_dead_end, at_state}
use Rattle.sos_interpreter.proofs.SearchLemmas.{at_junction, goes_back, finds_nothing, of_parts, of_all, collected}
use Rattle.sos_interpreter.proofs.SearchLemmas.{collected_are}
use Rattle.sos_interpreter.proofs.Settling.{settled_now, settled_true, settled_false}
use Rattle.sos_interpreter.proofs.Turns.{block_turn, block_turn_cut, block_turn_fault, block_turns_end, play_turn}
use Rattle.sos_interpreter.proofs.Turns.{play_turn_skip, play_turn_pay_fault, play_turn_fault, play_turn_cut}
use Rattle.sos_interpreter.proofs.Turns.{play_turns_end, exit_turn, exit_turn_fault, exit_turns_end, enter_turn}
use Rattle.sos_interpreter.proofs.Turns.{enter_turn_fault, enter_turns_end, each_turn, each_turn_off, each_turn_fault}
use Rattle.sos_interpreter.proofs.Turns.{each_turn_out, each_turns_end, empty_is, not_empty, sum_pushed, all_item}
use Rattle.sos_interpreter.proofs.Turns.{exit_turns_begin, enter_turns_begin, each_turns_begin}
use Rattle.sos_interpreter.proofs.Uses.{block_uses, pay_done}
use Rattle.sos_rules.specs.Finds.{AreActions}
use Rattle.sos_interpreter.specs.Settled.{Settled}
use Rattle.sos_interpreter.specs.Views.{chart_in, rules_in, now_of, end_of, went_of, found_of}
use Rattle.sos_rules.specs.Searches.{receiver, receives}
use Rattle.checked_chart.proofs.Walks.{stands_first, stands_next, stands_last, stands_prev, ahead_falls}
use Rattle.checked_chart.specs.Homes.{child_toward}
use Rattle.checked_chart.specs.Valid.{AreTrans, AreStmts, IsStmt, IsDest}
use Rattle.checked_chart.specs.Views.{block_seen, list_seen, trans_seen}
use Rattle.sos_interpreter.proofs.+rules.Goals as goal

-- ---- blocks and sends

pub blocks::run_block-returns-in_err-statement-clause-gives :
    goal.blocks::run_block-returns-in_err-statement-clause-gives
blocks::run_block-returns-in_err-statement-clause-gives t c =
    failed_through end_of _ _ _ _ c.from_residual.ensures.1 c.in_err-statement.ensures.gives
    (λ x h. block_turn_fault _ _ _ c.args.stmts.now c.loop-stmt.stmt-index c.loop-stmt.invariant.goes
    (omega arith) c.stmt-item.is h)

pub blocks::run_block-returns-in-Cut-clause-gives : goal.blocks::run_block-returns-in-Cut-clause-gives
blocks::run_block-returns-in-Cut-clause-gives t c =
    block_turn_cut _ _ _ c.args.stmts.now c.loop-stmt.stmt-index c.loop-stmt.invariant.goes
    (omega arith) c.stmt-item.is (ended_as end_of c.in-Cut.is c.in_ok-statement.ensures.gives)

pub blocks::run_block-loop-stmt-preserved : goal.blocks::run_block-loop-stmt-preserved
blocks::run_block-loop-stmt-preserved t c = record {
  goes =
      block_turn _ _ _ c.args.stmts.now c.loop-stmt.stmt-index c.loop-stmt.invariant.goes (omega arith)
      c.stmt-item.is (ended_as end_of c.in-Done.is c.in_ok-statement.ensures.gives);
  fits = c.statement.ensures.fits;
}

pub blocks::run_block-returns-clause-gives : goal.blocks::run_block-returns-clause-gives
blocks::run_block-returns-clause-gives t c =
    block_turns_end _ _ _ c.args.stmts.now c.loop-stmt.stmt-index c.loop-stmt.invariant.goes (omega arith)

pub blocks::run_block-statement-requires : goal.blocks::run_block-statement-requires
blocks::run_block-statement-requires t c = (
  omega (arith, c.decreases),
  (
    c.loop-stmt.invariant.fits,
    (
      c.requires.life,
      all_item stmt_of (IsStmt (chart_in c.args.setting.now)) c.args.stmts.now c.loop-stmt.stmt-index c.stmt-item.result
          c.requires.stmts (omega arith) c.stmt-item.is,
    ),
  ),
)

pub blocks::statement-returns-in_err-assign-in-Assign-clause-gives :
    goal.blocks::statement-returns-in_err-assign-in-Assign-clause-gives
blocks::statement-returns-in_err-assign-in-Assign-clause-gives t c =
    failed_does nothing_of _ _ _ _ c.from_residual.ensures.1 c.in_err-assign-in-Assign.ensures.does
    (λ x h. assign_fault _ _ _ _ _ (ap stmt_of c.in-Assign.is) h)

pub blocks::statement-returns-in_ok-assign-in-Assign-clause-gives :
    goal.blocks::statement-returns-in_ok-assign-in-Assign-clause-gives
blocks::statement-returns-in_ok-assign-in-Assign-clause-gives t c =
    assign_done _ _ _ _ _ (ap stmt_of c.in-Assign.is) c.in_ok-assign-in-Assign.ensures.does

pub blocks::statement-returns-in_err-pay-in-Emit-clause-gives :
    goal.blocks::statement-returns-in_err-pay-in-Emit-clause-gives
blocks::statement-returns-in_err-pay-in-Emit-clause-gives t c =
    failed_does nothing_of _ _ _ _ c.from_residual-in_err-pay-in-Emit.ensures.1 c.in_err-pay-in-Emit.ensures.does
    (λ x h. emit_fault _ _ _ _ _ (ap stmt_of c.in-Emit.is) h)

pub blocks::statement-returns-in_err-emit-in-Emit-clause-gives :
    goal.blocks::statement-returns-in_err-emit-in-Emit-clause-gives
blocks::statement-returns-in_err-emit-in-Emit-clause-gives t c =
    failed_does nothing_of _ _ _ _ c.from_residual-in_err-emit-in-Emit.ensures.1
    c.in_err-emit-in-Emit.ensures.does
    (λ x h. absurd cc)

pub blocks::statement-returns-in_ok-emit-in-Emit-clause-gives :
    goal.blocks::statement-returns-in_ok-emit-in-Emit-clause-gives
blocks::statement-returns-in_ok-emit-in-Emit-clause-gives t c =
    settled_at c.in_ok-emit-in-Emit.ensures.does
    (emit_done _ _ _ _ _ (ap stmt_of c.in-Emit.is) c.in_ok-pay-in-Emit.ensures.does)

pub blocks::statement-returns-in_err-send-in-Send-clause-gives :
    goal.blocks::statement-returns-in_err-send-in-Send-clause-gives
blocks::statement-returns-in_err-send-in-Send-clause-gives t c =
    failed_through nothing_of _ _ _ _ c.from_residual-in_err-send-in-Send.ensures.1 c.in_err-send-in-Send.ensures.gives
    (λ x h. sent_fault _ _ _ _ h (ap stmt_of c.in-Send.is))

pub blocks::statement-returns-in_ok-send-in-Send-clause-gives :
    goal.blocks::statement-returns-in_ok-send-in-Send-clause-gives
blocks::statement-returns-in_ok-send-in-Send-clause-gives t c =
    sent_ends _ _ _ _ c.in_ok-send-in-Send.ensures.gives (ap stmt_of c.in-Send.is) c.alive.ensures

pub blocks::statement-returns-in_err-send-in-SendTo-clause-gives :
    goal.blocks::statement-returns-in_err-send-in-SendTo-clause-gives
blocks::statement-returns-in_err-send-in-SendTo-clause-gives t c =
    failed_through nothing_of _ _ _ _ c.from_residual-in_err-send-in-SendTo.ensures.1
    c.in_err-send-in-SendTo.ensures.gives
    (λ x h. sent_fault _ _ _ _ h (ap stmt_of c.in-SendTo.is))

pub blocks::statement-returns-in_ok-send-in-SendTo-clause-gives :
    goal.blocks::statement-returns-in_ok-send-in-SendTo-clause-gives
blocks::statement-returns-in_ok-send-in-SendTo-clause-gives t c =
    sent_ends _ _ _ _ c.in_ok-send-in-SendTo.ensures.gives (ap stmt_of c.in-SendTo.is) c.alive-in-SendTo.ensures

pub blocks::send-returns-then-now-setting-clause-gives : goal.blocks::send-returns-then-now-setting-clause-gives
blocks::send-returns-then-now-setting-clause-gives t c =
    let deep : nat_le c.args.setting.now.bounds.depth c.args.now.depth ≡ true = grind (arith, nat_tests) in
    send_too_deep _ _ _ deep

pub blocks::send-returns-in_err-pay-clause-gives : goal.blocks::send-returns-in_err-pay-clause-gives
blocks::send-returns-in_err-pay-clause-gives t c =
    failed_does nothing_of _ _ _ _ c.from_residual.ensures.1 c.in_err-pay.ensures.does (λ x h.
    let deep : nat_le c.args.setting.now.bounds.depth c.args.now.depth ≡ false = grind (arith, nat_tests) in
    send_fault _ _ _ deep h)

pub blocks::send-returns-in_err-process-in-None-clause-gives :
    goal.blocks::send-returns-in_err-process-in-None-clause-gives
blocks::send-returns-in_err-process-in-None-clause-gives t c =
    failed_through went_of _ _ _ _ c.from_residual-in_err-process-in-None.ensures.1
    c.in_err-process-in-None.ensures.gives
    (λ x h.
    let deep : nat_le c.args.setting.now.bounds.depth c.args.now.depth ≡ false = grind (arith, nat_tests) in
    send_on_fault _ _ _ deep c.in_ok-pay.ensures.does (ap (λ o. receives o c.pay.new.self) c.in-None.is)
    (c.root.ensures.root ∙ ap receiver (sym c.in-None.is)) (omega arith) h)

pub blocks::send-returns-in_ok-process-in-None-clause-gives :
    goal.blocks::send-returns-in_ok-process-in-None-clause-gives
blocks::send-returns-in_ok-process-in-None-clause-gives t c =
    let deep : nat_le c.args.setting.now.bounds.depth c.args.now.depth ≡ false = grind (arith, nat_tests) in
    send_on _ _ _ deep c.in_ok-pay.ensures.does (ap (λ o. receives o c.pay.new.self) c.in-None.is)
    (c.root.ensures.root ∙ ap receiver (sym c.in-None.is)) (omega arith) c.in_ok-process-in-None.ensures.gives

pub blocks::send-returns-then-not-on-clause-gives : goal.blocks::send-returns-then-not-on-clause-gives
blocks::send-returns-then-not-on-clause-gives t c =
    let deep : nat_le c.args.setting.now.bounds.depth c.args.now.depth ≡ false = grind (arith, nat_tests) in
    let off : is_on c.in-Some.state c.pay.new.self.marks ≡ false = cc in
    send_off _ _ _ deep c.in_ok-pay.ensures.does (ap (λ o. receives o c.pay.new.self) c.in-Some.is ∙ off)

pub blocks::send-returns-in_err-process-in-Some-clause-gives :
    goal.blocks::send-returns-in_err-process-in-Some-clause-gives
blocks::send-returns-in_err-process-in-Some-clause-gives t c =
    failed_through went_of _ _ _ _ c.from_residual-in_err-process-in-Some.ensures.1
    c.in_err-process-in-Some.ensures.gives
    (λ x h.
    let deep : nat_le c.args.setting.now.bounds.depth c.args.now.depth ≡ false = grind (arith, nat_tests) in
    let on : is_on c.in-Some.state c.pay.new.self.marks ≡ true = cc in
    send_on_fault _ _ _ deep c.in_ok-pay.ensures.does (ap (λ o. receives o c.pay.new.self) c.in-Some.is ∙ on)
    (ap receiver (sym c.in-Some.is)) (omega arith) h)

pub blocks::send-returns-in_ok-process-in-Some-clause-gives :
    goal.blocks::send-returns-in_ok-process-in-Some-clause-gives
blocks::send-returns-in_ok-process-in-Some-clause-gives t c =
    let deep : nat_le c.args.setting.now.bounds.depth c.args.now.depth ≡ false = grind (arith, nat_tests) in
    let on : is_on c.in-Some.state c.pay.new.self.marks ≡ true = cc in
    send_on _ _ _ deep c.in_ok-pay.ensures.does (ap (λ o. receives o c.pay.new.self) c.in-Some.is ∙ on)
    (ap receiver (sym c.in-Some.is)) (omega arith) c.in_ok-process-in-Some.ensures.gives

-- ---- searches

pub searches::search-loop-places-init : goal.searches::search-loop-places-init
searches::search-loop-places-init t c = record {
  leads = leads_begin c.new-places.ensures.items;
  fits = c.requires.fits;
  rest = c.requires.list;
  rests = of_none _ c.new-places.ensures.items;
  actions = of_none _ c.new-places.ensures.items;
}

pub searches::search-returns-in-None-pop-clause-gives : goal.searches::search-returns-in-None-pop-clause-gives
searches::search-returns-in-None-pop-clause-gives t c =
    finds_nothing (omega (arith, c.in-None-pop.ensures.cases.0, c.loop-places.places.ok.0))
    (at_end _ c.in-None.ensures.cases c.loop-places.invariant.leads)

pub searches::search-loop-places-preserved-in-Some-pop : goal.searches::search-loop-places-preserved-in-Some-pop
searches::search-loop-places-preserved-in-Some-pop t c =
    let chart = chart_in c.args.setting.now in
    let rests =
    of_parts (λ p. AreTrans chart (list_seen p.rest.now)) _ _ c.in-Some-pop.ensures.items
    c.loop-places.invariant.rests in
    let actions =
    of_parts (λ p. AreStmts chart (block_seen p.action.now)) _ _ c.in-Some-pop.ensures.items
    c.loop-places.invariant.actions in
    record {
      leads =
          goes_back c.in-Some-pop.place c.in-Some-pop.ensures.items
          (at_end _ c.in-None.ensures.cases c.loop-places.invariant.leads);
      fits = c.loop-places.invariant.fits;
      rest = rests.1;
      rests = rests.0;
      actions = actions.0;
    }

pub searches::search-returns-in_err-enabled-in-Some-clause-gives :
    goal.searches::search-returns-in_err-enabled-in-Some-clause-gives
searches::search-returns-in_err-enabled-in-Some-clause-gives t c =
    failed_does (λ b. b) _ _ _ _ c.from_residual.ensures.1 c.in_err-enabled-in-Some.ensures.does
    (λ x h. guard_faults c.in-Some.ensures.cases.0 c.loop-places.invariant.leads h)

pub searches::search-returns-in_err-run_block-in-Some-clause-gives :
    goal.searches::search-returns-in_err-run_block-in-Some-clause-gives
searches::search-returns-in_err-run_block-in-Some-clause-gives t c =
    failed_through end_of _ _ _ _ c.from_residual-in_err-run_block-in-Some.ensures.1
    c.in_err-run_block-in-Some.ensures.gives
    (λ x h. condition_faults c.in-Some.ensures.cases.0 c.loop-places.invariant.leads
    c.in_ok-enabled-in-Some.ensures.does c.if-branch.true c.items.ensures h)

pub searches::search-returns-in-Cut-clause-gives : goal.searches::search-returns-in-Cut-clause-gives
searches::search-returns-in-Cut-clause-gives t c =
    condition_cut c.in-Some.ensures.cases.0 c.loop-places.invariant.leads
    c.in_ok-enabled-in-Some.ensures.does c.if-branch.true c.items.ensures c.in-Cut.is
    c.in_ok-run_block-in-Some.ensures.gives

pub searches::search-returns-in-State-clause-found : goal.searches::search-returns-in-State-clause-found
searches::search-returns-in-State-clause-found t c =
    let chart = chart_in c.args.setting.now in
    let list = subst (λ xs. AreTrans chart (list_seen xs)) c.in-Some.ensures.cases.0 c.loop-places.invariant.rest in (
      (subst (IsDest chart) c.in-State.is list.0.dest).1,
      subst (AreActions chart)
          (sym (collected c.in_ok-actions-in-State.ensures.ok c.deref.ensures.value c.items-in-State.ensures))
          (collected_are chart c.loop-places.places.items _ c.loop-places.invariant.actions list.0.action.stmts),
    )

pub searches::search-returns-in_err-pay-in-Junction-clause-gives :
    goal.searches::search-returns-in_err-pay-in-Junction-clause-gives
searches::search-returns-in_err-pay-in-Junction-clause-gives t c =
    failed_does nothing_of _ _ _ _ c.from_residual-in_err-pay-in-Junction.ensures.1
    c.in_err-pay-in-Junction.ensures.does
    (λ x h. junction_faults c.in-Some.ensures.cases.0 c.loop-places.invariant.leads
    c.in_ok-enabled-in-Some.ensures.does c.if-branch.true c.items.ensures c.in-Done.is
    c.in_ok-run_block-in-Some.ensures.gives (sym c.in-Junction.is) h)

pub searches::search-returns-then-is_empty-clause-gives : goal.searches::search-returns-then-is_empty-clause-gives
searches::search-returns-then-is_empty-clause-gives t c =
    let none =
    sym (ap list_seen (empty_is c.junction-next.result.now (grind (arith, nat_tests))))
    ∙ c.junction-next.ensures.list in
    at_dead_end c.in-Some.ensures.cases.0 c.loop-places.invariant.leads
    c.in_ok-enabled-in-Some.ensures.does c.if-branch.true c.items.ensures c.in-Done.is
    c.in_ok-run_block-in-Some.ensures.gives (sym c.in-Junction.is) c.in_ok-pay-in-Junction.ensures.does none

pub searches::search-loop-places-smaller-in-Junction : goal.searches::search-loop-places-smaller-in-Junction
searches::search-loop-places-smaller-in-Junction t c =
    let paid = pay_done c.args.setting.now.bounds c.run_block.new.world _ c.in_ok-pay-in-Junction.ensures.does in
    visit_falls c.args.setting.now.bounds.steps c.loop-places.world.used c.run_block.new.world.used _ _
    (length c.in-Some.others.now) _ _ _
    (block_uses _ c.junction-next.ensures.tree c.args.setting.now.bounds _ _ _ c.loop-places.world c.run_block.new.world
    Done (block_ended _ _ c.items.ensures c.in-Done.is c.in_ok-run_block-in-Some.ensures.gives))
    paid.0 paid.1 (omega (arith, c.in-Some.ensures.cases.1)) c.junction-next.ensures.short
    (sum_pushed (λ p. length p.rest.now + 1) _ c.loop-places.places.items _ c.in_ok-push_place-in-Junction.ensures.ok)

pub searches::search-loop-places-preserved-in-Junction : goal.searches::search-loop-places-preserved-in-Junction
searches::search-loop-places-preserved-in-Junction t c =
    let chart = chart_in c.args.setting.now in
    let list = subst (λ xs. AreTrans chart (list_seen xs)) c.in-Some.ensures.cases.0 c.loop-places.invariant.rest in
    let some = not_empty trans_seen c.junction-next.result.now (grind (arith, nat_tests)) in
    let pushed = c.in_ok-push_place-in-Junction.ensures.ok in
    record {
      leads =
          at_junction c.in-Some.ensures.cases.0 c.loop-places.invariant.leads
          c.in_ok-enabled-in-Some.ensures.does c.if-branch.true c.items.ensures c.in-Done.is
          c.in_ok-run_block-in-Some.ensures.gives
          _ pushed refl (ap block_seen c.items-in-Junction.ensures) (sym c.in-Junction.is)
          c.in_ok-pay-in-Junction.ensures.does c.junction-next.ensures.list some;
      fits = c.pay.ensures.fits;
      rest = c.junction-next.ensures.valid;
      rests = of_all (λ p. AreTrans chart (list_seen p.rest.now)) _ _ pushed c.loop-places.invariant.rests list.1;
      actions =
          of_all (λ p. AreStmts chart (block_seen p.action.now)) _ _ pushed c.loop-places.invariant.actions
          (subst (AreStmts chart) (sym (ap block_seen c.items-in-Junction.ensures)) list.0.action.stmts);
    }

pub searches::search-loop-places-preserved : goal.searches::search-loop-places-preserved
searches::search-loop-places-preserved t c =
    let list =
    subst (λ xs. AreTrans (chart_in c.args.setting.now) (list_seen xs)) c.in-Some.ensures.cases.0
    c.loop-places.invariant.rest in
    record {
      leads =
          passes_over c.in-Some.ensures.cases.0 c.loop-places.invariant.leads c.in_ok-enabled-in-Some.ensures.does
          c.if-branch.false;
      fits = c.loop-places.invariant.fits;
      rest = list.1;
      rests = c.loop-places.invariant.rests;
      actions = c.loop-places.invariant.actions;
    }

pub searches::search-returns-in-State-clause-gives : goal.searches::search-returns-in-State-clause-gives
searches::search-returns-in-State-clause-gives t c =
    at_state c.in-Some.ensures.cases.0 c.loop-places.invariant.leads
    c.in_ok-enabled-in-Some.ensures.does c.if-branch.true c.items.ensures c.in-Done.is
    c.in_ok-run_block-in-Some.ensures.gives (sym c.in-State.is)
    (collected c.in_ok-actions-in-State.ensures.ok c.deref.ensures.value c.items-in-State.ensures)

-- ---- leaving

pub exits::exit-returns-then-not-on-clause-gives : goal.exits::exit-returns-then-not-on-clause-gives
exits::exit-returns-then-not-on-clause-gives t c =
    let off : is_on c.args.state c.args.world.now.marks ≡ false = cc in
    exit_off _ _ _ off

pub exits::exit-returns-in_err-exit_children-clause-gives : goal.exits::exit-returns-in_err-exit_children-clause-gives
exits::exit-returns-in_err-exit_children-clause-gives t c =
    failed_through nothing_of _ _ _ _ c.from_residual.ensures.1 c.in_err-exit_children.ensures.gives (λ x h.
    let on : is_on c.args.state c.args.world.now.marks ≡ true = cc in
    exit_children_fault _ _ _ on h)

pub exits::exit-returns-then-not-bare-clause-gives : goal.exits::exit-returns-then-not-bare-clause-gives
exits::exit-returns-then-not-bare-clause-gives t c =
    let chart = chart_in c.args.setting.now in
    let on : is_on c.args.state c.args.world.now.marks ≡ true = cc in
    let bare : is_bare chart.tree c.args.state c.exit_children.new.world.marks ≡ false = cc in
    exit_not_bare _ _ _ on c.in_ok-exit_children.ensures.gives bare

pub exits::exit-returns-in_err-run_block-clause-gives : goal.exits::exit-returns-in_err-run_block-clause-gives
exits::exit-returns-in_err-run_block-clause-gives t c =
    let chart = chart_in c.args.setting.now in
    failed_through end_of _ _ _ _ c.from_residual-in_err-run_block.ensures.1 c.in_err-run_block.ensures.gives
    (λ x h.
    let on : is_on c.args.state c.args.world.now.marks ≡ true = cc in
    let bare : is_bare chart.tree c.args.state c.exit_children.new.world.marks ≡ true = cc in
    exit_block_fault _ _ _ c.block.ensures.block on c.in_ok-exit_children.ensures.gives bare h)

pub exits::exit-returns-in-Cut-clause-gives : goal.exits::exit-returns-in-Cut-clause-gives
exits::exit-returns-in-Cut-clause-gives t c =
    let chart = chart_in c.args.setting.now in
    let on : is_on c.args.state c.args.world.now.marks ≡ true = cc in
    let bare : is_bare chart.tree c.args.state c.exit_children.new.world.marks ≡ true = cc in
    exit_cut _ _ _ c.block.ensures.block on c.in_ok-exit_children.ensures.gives bare
    (ended_as end_of c.in-Cut.is c.in_ok-run_block.ensures.gives)

pub exits::exit-returns-else-bare-clause-gives : goal.exits::exit-returns-else-bare-clause-gives
exits::exit-returns-else-bare-clause-gives t c =
    let chart = chart_in c.args.setting.now in
    let on : is_on c.args.state c.args.world.now.marks ≡ true = cc in
    let bare : is_bare chart.tree c.args.state c.exit_children.new.world.marks ≡ true = cc in
    let off : is_bare chart.tree c.args.state c.run_block.new.world.marks ≡ false = cc in
    exit_kept _ _ _ c.block.ensures.block on c.in_ok-exit_children.ensures.gives bare
    (ended_as end_of c.in-Done.is c.in_ok-run_block.ensures.gives) off

pub exits::exit-returns-then-bare-clause-gives : goal.exits::exit-returns-then-bare-clause-gives
exits::exit-returns-then-bare-clause-gives t c =
    let chart = chart_in c.args.setting.now in
    let now = now_of c.args.now in
    let on : is_on c.args.state c.args.world.now.marks ≡ true = cc in
    let bare : is_bare chart.tree c.args.state c.exit_children.new.world.marks ≡ true = cc in
    let off : is_bare chart.tree c.args.state c.run_block.new.world.marks ≡ true = cc in
    subst (λ v. Settled (λ n. (rules_in c.args.setting.now n).exit c.args.state now c.args.world.now) (Ended tt v))
    (sym c.clear.ensures.cleared) (exit_left _ _ _ c.block.ensures.block on c.in_ok-exit_children.ensures.gives bare
    (ended_as end_of c.in-Done.is c.in_ok-run_block.ensures.gives) off)

pub exits::exit_children-returns-in-Leaf-clause-gives : goal.exits::exit_children-returns-in-Leaf-clause-gives
exits::exit_children-returns-in-Leaf-clause-gives t c =
    exit_children_leaf _ _ _ c.args.state c.in-Leaf.ensures

pub exits::exit_children-returns-in-Or-clause-gives : goal.exits::exit_children-returns-in-Or-clause-gives
exits::exit_children-returns-in-Or-clause-gives t c =
    passed _ _ _ c.exit_active.ensures.gives
    (λ q h. exit_children_or _ _ _ c.args.state c.args.world.now c.in-Or.ensures h)

pub exits::exit_children-returns-in-And-clause-gives : goal.exits::exit_children-returns-in-And-clause-gives
exits::exit_children-returns-in-And-clause-gives t c =
    passed _ _ _ c.exit_all.ensures.gives (λ q h. exit_children_and _ _ _ c.args.state c.in-And.ensures refl h)

pub exits::exit_all-loop-next-init : goal.exits::exit_all-loop-next-init
exits::exit_all-loop-next-init t c = record {
  goes = exit_turns_begin _ _ _ _ c.last_child-next.ensures.child;
  stands =
      stands_last (chart_in c.args.setting.now).tree c.last_child-next.ensures.tree c.args.state _
      c.last_child-next.ensures.child;
  fits = c.requires.fits;
}

pub exits::exit_all-returns-in_err-exit-clause-gives : goal.exits::exit_all-returns-in_err-exit-clause-gives
exits::exit_all-returns-in_err-exit-clause-gives t c =
    failed_through nothing_of _ _ _ _ c.from_residual.ensures.1 c.in_err-exit.ensures.gives
    (λ x h. exit_turn_fault _ _ _ _ c.loop-next.invariant.goes c.in-Some.is c.loop-next.invariant.stands h)

pub exits::exit_all-prev_sibling-next-requires : goal.exits::exit_all-prev_sibling-next-requires
exits::exit_all-prev_sibling-next-requires t c =
    (c.loop-next.invariant.stands.child c.in-Some.child c.in-Some.is).within

pub exits::exit_all-loop-next-preserved : goal.exits::exit_all-loop-next-preserved
exits::exit_all-loop-next-preserved t c =
    let chart = chart_in c.args.setting.now in
    record {
      goes =
          exit_turn _ _ _ _ c.loop-next.invariant.goes c.in-Some.is c.loop-next.invariant.stands
          c.prev_sibling-next.ensures.sibling c.in_ok-exit.ensures.gives;
      stands =
          stands_prev chart.tree c.prev_sibling-next.ensures.tree c.args.state c.in-Some.child _ _ c.in-Some.is
          c.loop-next.invariant.stands c.prev_sibling-next.ensures.sibling;
      fits = c.exit.ensures.fits;
    }

pub exits::exit_all-returns-clause-gives : goal.exits::exit_all-returns-clause-gives
exits::exit_all-returns-clause-gives t c =
    exit_turns_end _ _ _ _ c.loop-next.invariant.goes c.in_default.is

pub exits::exit_all-exit-requires : goal.exits::exit_all-exit-requires
exits::exit_all-exit-requires t c =
    let child = c.loop-next.invariant.stands.child c.in-Some.child c.in-Some.is in
    (omega (arith, child.above, child.within, c.decreases), (c.loop-next.invariant.fits, child.within))

pub exits::exit_active-returns-in-None-clause-gives : goal.exits::exit_active-returns-in-None-clause-gives
exits::exit_active-returns-in-None-clause-gives t c =
    exit_active_none _ _ _ c.args.state c.in-None.ensures.child

pub exits::exit_active-returns-in-Some-clause-gives : goal.exits::exit_active-returns-in-Some-clause-gives
exits::exit_active-returns-in-Some-clause-gives t c =
    passed _ _ _ c.exit.ensures.gives (λ q h. exit_active_one _ _ _ c.args.state c.in-Some.ensures.child h)

-- ---- entering

pub entries::enter-returns-then-not-can_mark-clause-gives : goal.entries::enter-returns-then-not-can_mark-clause-gives
entries::enter-returns-then-not-can_mark-clause-gives t c =
    let chart = chart_in c.args.setting.now in
    let can : can_mark chart.tree c.args.state c.args.world.now.marks ≡ false = cc in
    enter_no _ _ _ can

pub entries::enter-returns-in_err-run_block-clause-gives : goal.entries::enter-returns-in_err-run_block-clause-gives
entries::enter-returns-in_err-run_block-clause-gives t c =
    let chart = chart_in c.args.setting.now in
    failed_through end_of _ _ _ _ c.from_residual.ensures.1 c.in_err-run_block.ensures.gives (λ x h.
    let can : can_mark chart.tree c.args.state c.args.world.now.marks ≡ true = cc in
    enter_fault _ _ _ c.args.target c.args.world.now c.block.ensures.block can c.enter.ensures.entered h)

pub entries::enter-returns-in-Cut-clause-gives : goal.entries::enter-returns-in-Cut-clause-gives
entries::enter-returns-in-Cut-clause-gives t c =
    let chart = chart_in c.args.setting.now in
    let can : can_mark chart.tree c.args.state c.args.world.now.marks ≡ true = cc in
    enter_cut _ _ _ c.args.target c.args.world.now c.block.ensures.block can c.enter.ensures.entered
    (ended_as end_of c.in-Cut.is c.in_ok-run_block.ensures.gives)

pub entries::enter-returns-in-Done-clause-gives : goal.entries::enter-returns-in-Done-clause-gives
entries::enter-returns-in-Done-clause-gives t c =
    let chart = chart_in c.args.setting.now in
    passed _ _ _ c.enter_inside.ensures.gives (λ q h.
    let can : can_mark chart.tree c.args.state c.args.world.now.marks ≡ true = cc in
    enter_done _ _ _ c.args.target c.args.world.now c.block.ensures.block can c.enter.ensures.entered
    (ended_as end_of c.in-Done.is c.in_ok-run_block.ensures.gives) h)

pub entries::enter_inside-returns-in-Leaf-clause-gives : goal.entries::enter_inside-returns-in-Leaf-clause-gives
entries::enter_inside-returns-in-Leaf-clause-gives t c =
    inside_leaf _ _ _ c.args.state c.args.target c.in-Leaf.ensures

pub entries::enter_inside-returns-in-Or-clause-gives : goal.entries::enter_inside-returns-in-Or-clause-gives
entries::enter_inside-returns-in-Or-clause-gives t c =
    passed _ _ _ c.enter_toward.ensures.gives
    (λ q h. inside_or _ _ _ c.args.state c.args.target c.args.world.now c.in-Or.ensures h)

pub entries::enter_inside-returns-in-And-clause-gives : goal.entries::enter_inside-returns-in-And-clause-gives
entries::enter_inside-returns-in-And-clause-gives t c =
    passed _ _ _ c.enter_all.ensures.gives (λ q h. inside_each _ _ _ c.args.state c.in-And.ensures refl h)

pub entries::enter_all-loop-next-init : goal.entries::enter_all-loop-next-init
entries::enter_all-loop-next-init t c = record {
  goes = enter_turns_begin _ _ _ _ c.first_child-next.ensures.child;
  stands =
      stands_first (chart_in c.args.setting.now).tree c.first_child-next.ensures.tree c.args.state _
      c.first_child-next.ensures.child;
  fits = c.requires.fits;
}

pub entries::enter_all-path_in-requires-clause-child : goal.entries::enter_all-path_in-requires-clause-child
entries::enter_all-path_in-requires-clause-child t c =
    (c.loop-next.invariant.stands.child c.in-Some.child c.in-Some.is).within

pub entries::enter_all-enter-requires : goal.entries::enter_all-enter-requires
entries::enter_all-enter-requires t c =
    let child = c.loop-next.invariant.stands.child c.in-Some.child c.in-Some.is in (
      omega (arith, child.above, child.within, c.decreases),
      (c.loop-next.invariant.fits, (child.within, c.path_in.ensures.within)),
    )

pub entries::enter_all-returns-in_err-enter-clause-gives : goal.entries::enter_all-returns-in_err-enter-clause-gives
entries::enter_all-returns-in_err-enter-clause-gives t c =
    failed_through nothing_of _ _ _ _ c.from_residual.ensures.1 c.in_err-enter.ensures.gives
    (λ x h. enter_turn_fault _ _ _ _ c.loop-next.invariant.goes c.in-Some.is
    c.loop-next.invariant.stands c.path_in.ensures.path h)

pub entries::enter_all-next_sibling-next-requires : goal.entries::enter_all-next_sibling-next-requires
entries::enter_all-next_sibling-next-requires t c =
    (c.loop-next.invariant.stands.child c.in-Some.child c.in-Some.is).within

pub entries::enter_all-loop-next-smaller : goal.entries::enter_all-loop-next-smaller
entries::enter_all-loop-next-smaller t c =
    ahead_falls (chart_in c.args.setting.now).tree c.in-Some.child _ _ c.in-Some.is
    (c.loop-next.invariant.stands.child c.in-Some.child c.in-Some.is).within c.next_sibling-next.ensures.after

pub entries::enter_all-loop-next-preserved : goal.entries::enter_all-loop-next-preserved
entries::enter_all-loop-next-preserved t c =
    let chart = chart_in c.args.setting.now in
    record {
      goes =
          enter_turn _ _ _ _
          c.loop-next.invariant.goes c.in-Some.is c.loop-next.invariant.stands c.path_in.ensures.path
          c.next_sibling-next.ensures.sibling c.in_ok-enter.ensures.gives;
      stands =
          stands_next chart.tree c.next_sibling-next.ensures.tree c.args.state c.in-Some.child _ _ c.in-Some.is
          c.loop-next.invariant.stands c.next_sibling-next.ensures.sibling;
      fits = c.enter.ensures.fits;
    }

pub entries::enter_all-returns-clause-gives : goal.entries::enter_all-returns-clause-gives
entries::enter_all-returns-clause-gives t c =
    enter_turns_end _ _ _ _ c.loop-next.invariant.goes c.in_default.is

pub entries::enter_toward-returns-then-state-target-clause-gives :
    goal.entries::enter_toward-returns-then-state-target-clause-gives
entries::enter_toward-returns-then-state-target-clause-gives t c =
    passed _ _ _ c.defaults.ensures.gives (λ q h.
    let sd : (c.args.state == c.args.target) ≡ true = grind (arith, nat_tests) in
    settled_true (c.args.state == c.args.target)
    (λ n. (rules_in c.args.setting.now n).defaults c.args.state (now_of c.args.now)) _
    c.args.world.now q sd h)

pub entries::enter_toward-returns-clause-gives : goal.entries::enter_toward-returns-clause-gives
entries::enter_toward-returns-clause-gives t c =
    let chart = chart_in c.args.setting.now in
    passed _ _ _ c.enter_child.ensures.gives (λ q h.
    let sd : (c.args.state == c.args.target) ≡ false = grind (arith, nat_tests) in
    settled_false (c.args.state == c.args.target) _
    (λ n. if_some (child_toward chart.tree c.args.state c.args.target) nothing
    (λ x. (rules_in c.args.setting.now n).enter x c.args.target (now_of c.args.now))) c.args.world.now q sd h)

pub entries::enter_child-returns-in-None-clause-gives : goal.entries::enter_child-returns-in-None-clause-gives
entries::enter_child-returns-in-None-clause-gives t c =
    toward_none _ _ _ c.args.state c.args.target c.in-None.ensures.child

pub entries::enter_child-returns-in-Some-clause-gives : goal.entries::enter_child-returns-in-Some-clause-gives
entries::enter_child-returns-in-Some-clause-gives t c =
    passed _ _ _ c.enter.ensures.gives (λ q h. toward_one _ _ _ c.args.state c.in-Some.ensures.child h)

-- ---- entering by default

pub defaults::defaults-returns-in-Some-clause-gives : goal.defaults::defaults-returns-in-Some-clause-gives
defaults::defaults-returns-in-Some-clause-gives t c =
    passed _ _ _ c.enter.ensures.gives (λ q h. defaults_return _ _ _ c.in-Some.ensures.child h)

pub defaults::defaults-returns-in-None-clause-gives : goal.defaults::defaults-returns-in-None-clause-gives
defaults::defaults-returns-in-None-clause-gives t c =
    passed _ _ _ c.default_search.ensures.gives (λ q h. defaults_search _ _ _ c.in-None.ensures.child h)

pub defaults::default_search-returns-in_err-target-clause-gives :
    goal.defaults::default_search-returns-in_err-target-clause-gives
defaults::default_search-returns-in_err-target-clause-gives t c =
    failed_through found_of _ _ _ _ c.from_residual.ensures.1 c.in_err-target.ensures.gives (λ x h. default_fault _ _ _
    c.list.ensures.list h)

pub defaults::default_search-returns-in-DeadEnd-clause-gives :
    goal.defaults::default_search-returns-in-DeadEnd-clause-gives
defaults::default_search-returns-in-DeadEnd-clause-gives t c =
    default_after _ _ _ c.list.ensures.list (ended_as found_of c.in-DeadEnd.is c.in_ok-target.ensures.gives)
    (settled_now _)

pub defaults::default_search-returns-in-No-clause-gives : goal.defaults::default_search-returns-in-No-clause-gives
defaults::default_search-returns-in-No-clause-gives t c =
    default_after _ _ _ c.list.ensures.list (ended_as found_of c.in-No.is c.in_ok-target.ensures.gives) (settled_now _)

pub defaults::default_search-returns-clause-gives : goal.defaults::default_search-returns-clause-gives
defaults::default_search-returns-clause-gives t c =
    default_after _ _ _ c.list.ensures.list (ended_as found_of c.in-Stop.is c.in_ok-target.ensures.gives)
    (settled_now _)

pub defaults::default_search-returns-in_err-play-in-Fire-clause-gives :
    goal.defaults::default_search-returns-in_err-play-in-Fire-clause-gives
defaults::default_search-returns-in_err-play-in-Fire-clause-gives t c =
    failed_through end_of _ _ _ _ c.from_residual-in_err-play-in-Fire.ensures.1 c.in_err-play-in-Fire.ensures.gives
    (λ x h. default_after _ _ _ c.list.ensures.list (ended_as found_of c.in-Fire.is c.in_ok-target.ensures.gives)
    (fired_fault _ _ _ c.in-Fire.target (ap (map (λ a. block_seen a.now)) c.deref.ensures.value) h))

pub defaults::default_search-returns-in-Cut-clause-gives : goal.defaults::default_search-returns-in-Cut-clause-gives
defaults::default_search-returns-in-Cut-clause-gives t c =
    default_after _ _ _ c.list.ensures.list (ended_as found_of c.in-Fire.is c.in_ok-target.ensures.gives)
    (fired_cut _ _ _ c.in-Fire.target (ap (map (λ a. block_seen a.now)) c.deref.ensures.value)
    (ended_as end_of c.in-Cut.is c.in_ok-play-in-Fire.ensures.gives))

pub defaults::default_search-returns-in-Fire-clause-gives : goal.defaults::default_search-returns-in-Fire-clause-gives
defaults::default_search-returns-in-Fire-clause-gives t c =
    passed _ _ _ c.enter_child.ensures.gives
    (λ q h. default_after _ _ _ c.list.ensures.list (ended_as found_of c.in-Fire.is c.in_ok-target.ensures.gives)
    (fired_done _ _ _ c.in-Fire.target (ap (map (λ a. block_seen a.now)) c.deref.ensures.value)
    (ended_as end_of c.in-Done.is c.in_ok-play-in-Fire.ensures.gives) h))

-- ---- firings

pub firings::play-loop-action-preserved-then-is_empty : goal.firings::play-loop-action-preserved-then-is_empty
firings::play-loop-action-preserved-then-is_empty t c = record {
  goes =
      play_turn_skip _ _ _ (λ a. block_seen a.now)
      c.args.actions.now c.loop-action.action-index c.loop-action.invariant.goes (omega arith) c.action-item.is
      (ap block_seen (empty_is c.action-item.result.now (grind (arith, nat_tests))));
  fits = c.loop-action.invariant.fits;
}

pub firings::play-returns-in_err-pay-clause-gives : goal.firings::play-returns-in_err-pay-clause-gives
firings::play-returns-in_err-pay-clause-gives t c =
    failed_does nothing_of _ _ _ _ c.from_residual.ensures.1 c.in_err-pay.ensures.does (λ x h.
    let some = not_empty stmt_of c.action-item.result.now (grind (arith, nat_tests)) in
    play_turn_pay_fault _ _ _ (λ a. block_seen a.now)
    c.args.actions.now c.loop-action.action-index c.loop-action.invariant.goes (omega arith) c.action-item.is some h)

pub firings::play-run_block-requires : goal.firings::play-run_block-requires
firings::play-run_block-requires t c = (
  omega (arith, c.decreases),
  (
    c.pay.ensures.fits,
    (
      c.requires.state,
      all_item (λ a. block_seen a.now) (AreStmts (chart_in c.args.setting.now)) c.args.actions.now
          c.loop-action.action-index c.action-item.result c.requires.actions (omega arith) c.action-item.is,
    ),
  ),
)

pub firings::play-returns-in_err-run_block-clause-gives : goal.firings::play-returns-in_err-run_block-clause-gives
firings::play-returns-in_err-run_block-clause-gives t c =
    failed_through end_of _ _ _ _ c.from_residual-in_err-run_block.ensures.1 c.in_err-run_block.ensures.gives
    (λ x h.
    let some = not_empty stmt_of c.action-item.result.now (grind (arith, nat_tests)) in
    play_turn_fault _ _ _ (λ a. block_seen a.now)
    c.args.actions.now c.loop-action.action-index c.loop-action.invariant.goes (omega arith) c.action-item.is some
    c.in_ok-pay.ensures.does h)

pub firings::play-returns-in-Cut-clause-gives : goal.firings::play-returns-in-Cut-clause-gives
firings::play-returns-in-Cut-clause-gives t c =
    let some = not_empty stmt_of c.action-item.result.now (grind (arith, nat_tests)) in
    play_turn_cut _ _ _ (λ a. block_seen a.now)
    c.args.actions.now c.loop-action.action-index c.loop-action.invariant.goes (omega arith) c.action-item.is some
    c.in_ok-pay.ensures.does
    (ended_as end_of c.in-Cut.is c.in_ok-run_block.ensures.gives)

pub firings::play-loop-action-preserved : goal.firings::play-loop-action-preserved
firings::play-loop-action-preserved t c =
    let some = not_empty stmt_of c.action-item.result.now (grind (arith, nat_tests)) in
    record {
      goes =
          play_turn _ _ _ (λ a. block_seen a.now)
          c.args.actions.now c.loop-action.action-index c.loop-action.invariant.goes (omega arith) c.action-item.is
          some c.in_ok-pay.ensures.does
          (ended_as end_of c.in-Done.is c.in_ok-run_block.ensures.gives);
      fits = c.run_block.ensures.fits;
    }

pub firings::play-returns-clause-gives : goal.firings::play-returns-clause-gives
firings::play-returns-clause-gives t c =
    play_turns_end _ _ _ (λ a. block_seen a.now)
    c.args.actions.now c.loop-action.action-index c.loop-action.invariant.goes (omega arith)

pub firings::take-returns-in_err-exit_active-clause-gives : goal.firings::take-returns-in_err-exit_active-clause-gives
firings::take-returns-in_err-exit_active-clause-gives t c =
    failed_through nothing_of _ _ _ _ c.from_residual.ensures.1 c.in_err-exit_active.ensures.gives
    (λ x h. take_exit_fault _ _ _ h)

pub firings::take-returns-then-not-bare-clause-gives : goal.firings::take-returns-then-not-bare-clause-gives
firings::take-returns-then-not-bare-clause-gives t c =
    let chart = chart_in c.args.setting.now in
    let bare : is_bare chart.tree c.args.state c.exit_active.new.world.marks ≡ false = cc in
    take_not_bare _ _ _ c.in_ok-exit_active.ensures.gives bare

pub firings::take-returns-in_err-play-clause-gives : goal.firings::take-returns-in_err-play-clause-gives
firings::take-returns-in_err-play-clause-gives t c =
    let chart = chart_in c.args.setting.now in
    failed_through end_of _ _ _ _ c.from_residual-in_err-play.ensures.1 c.in_err-play.ensures.gives (λ x h.
    let bare : is_bare chart.tree c.args.state c.exit_active.new.world.marks ≡ true = cc in
    take_play_fault _ _ _ c.in_ok-exit_active.ensures.gives bare h)

pub firings::take-returns-in-Cut-clause-gives : goal.firings::take-returns-in-Cut-clause-gives
firings::take-returns-in-Cut-clause-gives t c =
    let chart = chart_in c.args.setting.now in
    let bare : is_bare chart.tree c.args.state c.exit_active.new.world.marks ≡ true = cc in
    take_cut _ _ _ c.in_ok-exit_active.ensures.gives bare (ended_as end_of c.in-Cut.is c.in_ok-play.ensures.gives)

pub firings::take-returns-then-not-bare-2-clause-gives : goal.firings::take-returns-then-not-bare-2-clause-gives
firings::take-returns-then-not-bare-2-clause-gives t c =
    let chart = chart_in c.args.setting.now in
    let bare : is_bare chart.tree c.args.state c.exit_active.new.world.marks ≡ true = cc in
    let off : is_bare chart.tree c.args.state c.play.new.world.marks ≡ false = cc in
    take_left _ _ _ c.in_ok-exit_active.ensures.gives bare
    (ended_as end_of c.in-Done.is c.in_ok-play.ensures.gives) off

pub firings::take-returns-else-not-bare-2-clause-gives : goal.firings::take-returns-else-not-bare-2-clause-gives
firings::take-returns-else-not-bare-2-clause-gives t c =
    let chart = chart_in c.args.setting.now in
    passed _ _ _ c.enter_toward.ensures.gives (λ q h.
    let bare : is_bare chart.tree c.args.state c.exit_active.new.world.marks ≡ true = cc in
    let off : is_bare chart.tree c.args.state c.play.new.world.marks ≡ true = cc in
    take_enters _ _ _ c.in_ok-exit_active.ensures.gives bare
    (ended_as end_of c.in-Done.is c.in_ok-play.ensures.gives) off h)

-- ---- processing

pub processing::process-returns-in_err-target-clause-gives : goal.processing::process-returns-in_err-target-clause-gives
processing::process-returns-in_err-target-clause-gives t c =
    failed_through found_of _ _ _ _ c.from_residual.ensures.1 c.in_err-target.ensures.gives (λ x h. process_fault _ _ _
    c.list.ensures.list h)

pub processing::process-returns-in-Stop-clause-gives : goal.processing::process-returns-in-Stop-clause-gives
processing::process-returns-in-Stop-clause-gives t c =
    process_after _ _ _ c.list.ensures.list (ended_as found_of c.in-Stop.is c.in_ok-target.ensures.gives)
    (settled_now _)

pub processing::process-returns-in-DeadEnd-clause-gives : goal.processing::process-returns-in-DeadEnd-clause-gives
processing::process-returns-in-DeadEnd-clause-gives t c =
    passed _ _ _ c.go_on_inside.ensures.gives (λ q h. process_after _ _ _ c.list.ensures.list
    (ended_as found_of c.in-DeadEnd.is c.in_ok-target.ensures.gives) h)

pub processing::process-returns-in-No-clause-gives : goal.processing::process-returns-in-No-clause-gives
processing::process-returns-in-No-clause-gives t c =
    passed _ _ _ c.go_on_inside-in-No.ensures.gives (λ q h. process_after _ _ _ c.list.ensures.list
    (ended_as found_of c.in-No.is c.in_ok-target.ensures.gives) h)

pub processing::process-returns-in_err-take-in-Fire-clause-gives :
    goal.processing::process-returns-in_err-take-in-Fire-clause-gives
processing::process-returns-in_err-take-in-Fire-clause-gives t c =
    failed_through nothing_of _ _ _ _ c.from_residual-in_err-take-in-Fire.ensures.1 c.in_err-take-in-Fire.ensures.gives
    (λ x h. process_after _ _ _ c.list.ensures.list (ended_as found_of c.in-Fire.is c.in_ok-target.ensures.gives)
    (outer_fault _ _ _ c.args.state c.home-home.ensures.home (ap (map (λ a. block_seen a.now)) c.deref.ensures.value)
    h))

pub processing::process-returns-in_ok-take-in-Fire-clause-gives :
    goal.processing::process-returns-in_ok-take-in-Fire-clause-gives
processing::process-returns-in_ok-take-in-Fire-clause-gives t c =
    process_after _ _ _ c.list.ensures.list (ended_as found_of c.in-Fire.is c.in_ok-target.ensures.gives)
    (outer_taken _ _ _ c.args.state c.home-home.ensures.home (ap (map (λ a. block_seen a.now)) c.deref.ensures.value)
    c.in_ok-take-in-Fire.ensures.gives)

pub processing::go_on_inside-returns-in_err-run_block-clause-gives :
    goal.processing::go_on_inside-returns-in_err-run_block-clause-gives
processing::go_on_inside-returns-in_err-run_block-clause-gives t c =
    failed_through end_of _ _ _ _ c.from_residual.ensures.1 c.in_err-run_block.ensures.gives
    (λ x h. during_fault _ _ _ c.block.ensures.block h)

pub processing::go_on_inside-returns-in-Cut-clause-gives : goal.processing::go_on_inside-returns-in-Cut-clause-gives
processing::go_on_inside-returns-in-Cut-clause-gives t c =
    during_cut _ _ _ c.block.ensures.block (ended_as end_of c.in-Cut.is c.in_ok-run_block.ensures.gives)

pub processing::go_on_inside-returns-in_err-target-in-Done-clause-gives :
    goal.processing::go_on_inside-returns-in_err-target-in-Done-clause-gives
processing::go_on_inside-returns-in_err-target-in-Done-clause-gives t c =
    failed_through found_of _ _ _ _ c.from_residual-in_err-target-in-Done.ensures.1
    c.in_err-target-in-Done.ensures.gives
    (λ x h. inner_fault _ _ _ c.block.ensures.block (ended_as end_of c.in-Done.is c.in_ok-run_block.ensures.gives)
    c.list.ensures.list h)

pub processing::go_on_inside-returns-in-Stop-clause-gives : goal.processing::go_on_inside-returns-in-Stop-clause-gives
processing::go_on_inside-returns-in-Stop-clause-gives t c =
    inner_after _ _ _ c.block.ensures.block (ended_as end_of c.in-Done.is c.in_ok-run_block.ensures.gives)
    c.list.ensures.list (ended_as found_of c.in-Stop.is c.in_ok-target-in-Done.ensures.gives) (settled_now _)

pub processing::go_on_inside-returns-in-DeadEnd-clause-gives :
    goal.processing::go_on_inside-returns-in-DeadEnd-clause-gives
processing::go_on_inside-returns-in-DeadEnd-clause-gives t c =
    passed _ _ _ c.process_children.ensures.gives (λ q h. inner_after _ _ _ c.block.ensures.block
    (ended_as end_of c.in-Done.is c.in_ok-run_block.ensures.gives) c.list.ensures.list
    (ended_as found_of c.in-DeadEnd.is c.in_ok-target-in-Done.ensures.gives) h)

pub processing::go_on_inside-returns-in-No-clause-gives : goal.processing::go_on_inside-returns-in-No-clause-gives
processing::go_on_inside-returns-in-No-clause-gives t c =
    passed _ _ _ c.process_children-in-No.ensures.gives (λ q h. inner_after _ _ _ c.block.ensures.block
    (ended_as end_of c.in-Done.is c.in_ok-run_block.ensures.gives) c.list.ensures.list
    (ended_as found_of c.in-No.is c.in_ok-target-in-Done.ensures.gives) h)

pub processing::go_on_inside-returns-in_err-take-in-Fire-clause-gives :
    goal.processing::go_on_inside-returns-in_err-take-in-Fire-clause-gives
processing::go_on_inside-returns-in_err-take-in-Fire-clause-gives t c =
    failed_through nothing_of _ _ _ _ c.from_residual-in_err-take-in-Fire.ensures.1 c.in_err-take-in-Fire.ensures.gives
    (λ x h. inner_after _ _ _ c.block.ensures.block (ended_as end_of c.in-Done.is c.in_ok-run_block.ensures.gives)
    c.list.ensures.list
    (ended_as found_of c.in-Fire.is c.in_ok-target-in-Done.ensures.gives)
    (inner_take_fault _ _ _ (ap (map (λ a. block_seen a.now)) c.deref.ensures.value) h))

pub processing::go_on_inside-returns-in_ok-take-in-Fire-clause-gives :
    goal.processing::go_on_inside-returns-in_ok-take-in-Fire-clause-gives
processing::go_on_inside-returns-in_ok-take-in-Fire-clause-gives t c =
    inner_after _ _ _ c.block.ensures.block (ended_as end_of c.in-Done.is c.in_ok-run_block.ensures.gives)
    c.list.ensures.list
    (ended_as found_of c.in-Fire.is c.in_ok-target-in-Done.ensures.gives)
    (inner_taken _ _ _ (ap (map (λ a. block_seen a.now)) c.deref.ensures.value) c.in_ok-take-in-Fire.ensures.gives)

pub processing::process_children-returns-in-Leaf-clause-gives :
    goal.processing::process_children-returns-in-Leaf-clause-gives
processing::process_children-returns-in-Leaf-clause-gives t c =
    kids_leaf _ _ _ c.args.state c.in-Leaf.ensures

pub processing::process_children-returns-in-None-clause-gives :
    goal.processing::process_children-returns-in-None-clause-gives
processing::process_children-returns-in-None-clause-gives t c =
    kids_none _ _ _ c.args.state c.in-Or.ensures c.in-None.ensures.child

pub processing::process_children-returns-in_err-process-in-Some-clause-gives :
    goal.processing::process_children-returns-in_err-process-in-Some-clause-gives
processing::process_children-returns-in_err-process-in-Some-clause-gives t c =
    failed_through went_of _ _ _ _ c.from_residual.ensures.1 c.in_err-process-in-Some.ensures.gives
    (λ x h. kids_fault _ _ _ c.args.state c.in-Or.ensures c.in-Some.ensures.child h)

pub processing::process_children-returns-in-Stay-clause-gives :
    goal.processing::process_children-returns-in-Stay-clause-gives
processing::process_children-returns-in-Stay-clause-gives t c =
    kids_one _ _ _ c.args.state c.in-Or.ensures c.in-Some.ensures.child
    (ended_as went_of c.in-Stay.is c.in_ok-process-in-Some.ensures.gives) refl

pub processing::process_children-returns-in-Out-clause-gives :
    goal.processing::process_children-returns-in-Out-clause-gives
processing::process_children-returns-in-Out-clause-gives t c =
    kids_out _ _ _ c.args.state c.out_of.ensures c.in-Or.ensures c.in-Some.ensures.child
    (ended_as went_of c.in-Out.is c.in_ok-process-in-Some.ensures.gives)

pub processing::process_children-returns-in-And-clause-gives :
    goal.processing::process_children-returns-in-And-clause-gives
processing::process_children-returns-in-And-clause-gives t c =
    passed _ _ _ c.process_all.ensures.gives (λ q h. kids_each _ _ _ c.args.state c.in-And.ensures refl h)

pub processing::process_all-loop-next-init : goal.processing::process_all-loop-next-init
processing::process_all-loop-next-init t c = record {
  goes = each_turns_begin _ _ _ _ c.first_child-next.ensures.child;
  stands =
      stands_first (chart_in c.args.setting.now).tree c.first_child-next.ensures.tree c.args.state _
      c.first_child-next.ensures.child;
  fits = c.requires.fits;
}

pub processing::process_all-on-requires-clause-state : goal.processing::process_all-on-requires-clause-state
processing::process_all-on-requires-clause-state t c =
    (c.loop-next.invariant.stands.child c.in-Some.child c.in-Some.is).within

pub processing::process_all-process-requires : goal.processing::process_all-process-requires
processing::process_all-process-requires t c =
    let child = c.loop-next.invariant.stands.child c.in-Some.child c.in-Some.is in
    (omega (arith, child.above, child.within, c.decreases), (c.loop-next.invariant.fits, child.within))

pub processing::process_all-returns-in_err-process-clause-gives :
    goal.processing::process_all-returns-in_err-process-clause-gives
processing::process_all-returns-in_err-process-clause-gives t c =
    failed_through went_of _ _ _ _ c.from_residual.ensures.1 c.in_err-process.ensures.gives (λ x h.
    let on : is_on c.in-Some.child c.loop-next.world.marks ≡ true = cc in
    each_turn_fault _ _ _ _ c.loop-next.invariant.goes c.in-Some.is c.loop-next.invariant.stands on h)

pub processing::process_all-returns-in-Out-clause-gives : goal.processing::process_all-returns-in-Out-clause-gives
processing::process_all-returns-in-Out-clause-gives t c =
    let on : is_on c.in-Some.child c.loop-next.world.marks ≡ true = cc in
    each_turn_out _ _ _ _ c.loop-next.invariant.goes c.in-Some.is c.loop-next.invariant.stands on
    (ended_as went_of c.in-Out.is c.in_ok-process.ensures.gives)

pub processing::process_all-next_sibling-next-requires : goal.processing::process_all-next_sibling-next-requires
processing::process_all-next_sibling-next-requires t c =
    (c.loop-next.invariant.stands.child c.in-Some.child c.in-Some.is).within

pub processing::process_all-loop-next-smaller : goal.processing::process_all-loop-next-smaller
processing::process_all-loop-next-smaller t c =
    ahead_falls (chart_in c.args.setting.now).tree c.in-Some.child _ _ c.in-Some.is
    (c.loop-next.invariant.stands.child c.in-Some.child c.in-Some.is).within c.next_sibling-next.ensures.after

pub processing::process_all-returns-clause-gives : goal.processing::process_all-returns-clause-gives
processing::process_all-returns-clause-gives t c =
    each_turns_end _ _ _ _ c.loop-next.invariant.goes c.in_default.is

pub processing::process_all-loop-next-preserved-then-not-on :
    goal.processing::process_all-loop-next-preserved-then-not-on
processing::process_all-loop-next-preserved-then-not-on t c =
    let chart = chart_in c.args.setting.now in
    let off : is_on c.in-Some.child c.loop-next.world.marks ≡ false = cc in
    record {
      goes =
          each_turn_off _ _ _ _ c.loop-next.invariant.goes c.in-Some.is c.loop-next.invariant.stands
          c.next_sibling-next.ensures.sibling off;
      stands =
          stands_next chart.tree c.next_sibling-next.ensures.tree c.args.state c.in-Some.child _ _ c.in-Some.is
          c.loop-next.invariant.stands c.next_sibling-next.ensures.sibling;
      fits = c.loop-next.invariant.fits;
    }

pub processing::process_all-loop-next-preserved : goal.processing::process_all-loop-next-preserved
processing::process_all-loop-next-preserved t c =
    let chart = chart_in c.args.setting.now in
    let on : is_on c.in-Some.child c.loop-next.world.marks ≡ true = cc in
    record {
      goes =
          each_turn _ _ _ _ c.loop-next.invariant.goes c.in-Some.is c.loop-next.invariant.stands on
          c.next_sibling-next.ensures.sibling (ended_as went_of c.in-Stay.is c.in_ok-process.ensures.gives);
      stands =
          stands_next chart.tree c.next_sibling-next.ensures.tree c.args.state c.in-Some.child _ _ c.in-Some.is
          c.loop-next.invariant.stands c.next_sibling-next.ensures.sibling;
      fits = c.process.ensures.fits;
    }

pub processing::process_all-loop-next-smaller-then-not-on : goal.processing::process_all-loop-next-smaller-then-not-on
processing::process_all-loop-next-smaller-then-not-on t c =
    ahead_falls (chart_in c.args.setting.now).tree c.in-Some.child _ _ c.in-Some.is
    (c.loop-next.invariant.stands.child c.in-Some.child c.in-Some.is).within c.next_sibling-next.ensures.after
