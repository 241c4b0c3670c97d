use Rattle.std.proofs.Common.{◌≡◌, ◌∙◌, ℕ, List, Bool, false, length, replicate, ap, sym, subst, arith}
use Rattle.std.proofs.lemmas.List.{with_items_is, length-replicate}
use Rattle.c_file.specs.Made.{functions_of}
use Rattle.c_file.specs.Ordering.{AreEarly}
use Rattle.c_file.proofs.order.early_flags.Goals as goal

pub stand_all-requires-clause-stands : goal.stand_all-requires-clause-stands
stand_all-requires-clause-stands c =
    c.deref_mut.ensures.value ∙ c.in_ok-stands.ensures.items_if_clones_equal (λ y h. h)
    ∙ ap (λ (n : ℕ). replicate n false) c.count-count.ensures

pub stand_all-requires-clause-early : goal.stand_all-requires-clause-early
stand_all-requires-clause-early c =
    c.deref_mut-2.ensures.value ∙ c.in_ok-early.ensures.items_if_clones_equal (λ y h. h)
    ∙ ap (λ (n : ℕ). replicate n false) c.count-count.ensures

pub returns : goal.returns
returns c =
    let flags = c.stand_all.new.early in
    let all = ap length (c.in_ok-early.ensures.items_if_clones_equal (λ y h. h)
    ∙ ap (λ (n : ℕ). replicate n false) c.count-count.ensures)
    ∙ length-replicate (length (functions_of c.args.made.now)) false in
    let size : length flags ≡ c.in_ok-early.early.len =
    c.in_ok-stand_all.ensures.size ∙ sym all ∙ sym c.in_ok-early.early.ok.0 in
    subst (λ (fs : List Bool). AreEarly (functions_of c.args.made.now) c.args.order.now fs)
    (sym (with_items_is c.in_ok-early.early flags size)) c.in_ok-stand_all.ensures
