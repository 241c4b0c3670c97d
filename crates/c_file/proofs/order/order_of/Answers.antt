use Rattle.std.proofs.Common.{◌∙◌, ℕ, List, Bool, length, ap, sym, subst}
use Rattle.c_text.specs.Labels.{labels_of}
use Rattle.c_file.specs.Made.{functions_of}
use Rattle.c_file.specs.Order.{AreBelow, IsOrder, declared_in}
use Rattle.c_file.specs.Ordering.{AreEarly}
use Rattle.c_file.proofs.OrderLemmas.{order_below}
use Rattle.c_file.proofs.order.order_of.Goals as goal

pub completed-requires : goal.completed-requires
completed-requires c =
    c.count.ensures ∙ sym c.requires.uses.reached.size ∙ ap length (sym c.deref.ensures.value)

pub early_flags-requires-clause-within : goal.early_flags-requires-clause-within
early_flags-requires-clause-within c =
    subst (AreBelow (length (functions_of c.args.made.now))) (sym c.deref-3.ensures.value)
    (order_below c.args.uses.now.reached.items c.in_ok-functions.functions.items _
    (subst (λ (bs : List Bool). IsOrder bs c.in_ok-functions.functions.items) c.deref.ensures.value
    c.in_ok-functions.ensures) c.requires.uses.reached.size)

pub declared-requires-clause-within : goal.declared-requires-clause-within
declared-requires-clause-within c =
    subst (AreBelow (length (functions_of c.args.made.now))) (sym c.deref-4.ensures.value)
    (order_below c.args.uses.now.reached.items c.in_ok-functions.functions.items _
    (subst (λ (bs : List Bool). IsOrder bs c.in_ok-functions.functions.items) c.deref.ensures.value
    c.in_ok-functions.ensures) c.requires.uses.reached.size)

pub declared-requires-clause-early : goal.declared-requires-clause-early
declared-requires-clause-early c =
    subst (λ (fs : List ℕ). AreEarly (functions_of c.args.made.now) fs c.deref-5.result.now)
    (c.deref-3.ensures.value ∙ sym c.deref-4.ensures.value)
    (subst (λ (bs : List Bool). AreEarly (functions_of c.args.made.now) c.deref-3.result.now bs)
    (sym c.deref-5.ensures.value) c.in_ok-early.ensures)

pub returns : goal.returns
returns c = record {
  is = subst (λ (bs : List Bool). IsOrder bs c.in_ok-functions.functions.items) c.deref.ensures.value
      c.in_ok-functions.ensures;
  declared =
      c.in_ok-declared.ensures
      ∙ ap (declared_in (labels_of c.args.made.now.labels) (functions_of c.args.made.now)) c.deref-4.ensures.value;
}
