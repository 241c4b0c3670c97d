use Rattle.std.proofs.Common.{◌&&◌, sym, ap, ◌∙◌, refl}
use Rattle.std.specs.List.{list_all}
use Rattle.flow_base.specs.Lists.{items_of}
use Rattle.c_subset.specs.Lines.{lines_in}
use Rattle.c_bare.specs.Scanning.{line_selects}
use Rattle.c_bare.proofs.Written.{needless-is}
use Rattle.c_bare.proofs.functions.is_needless.Goals as goal

pub returns-then-not-may_go : goal.returns-then-not-may_go
returns-then-not-may_go c =
    λ g h. let select = list_all (line_selects c.args.flags.now) (lines_in (items_of c.args.function.now.lines)) in
    ap (λ b. b && select) (sym c.if-not-may_go.true)
    ∙ needless-is c.args.flags.now c.args.number c.args.function.now g c.may_go.result select
    (rw (c.items-lines.ensures, c.items.ensures) at c.may_go.ensures) refl h

pub returns : goal.returns
returns c =
    λ g h. ap (λ b. b && c.lines_select.result) (sym c.if-not-may_go.false)
    ∙ needless-is c.args.flags.now c.args.number c.args.function.now g c.may_go.result c.lines_select.result
    (rw (c.items-lines.ensures, c.items.ensures) at c.may_go.ensures)
    (rw c.items-lines.ensures at c.lines_select.ensures) h
