use Rattle.std.proofs.Common.{sym, ap, string_bytes}
use Rattle.actions.specs.Names.{names_of}
use Rattle.chart_parts.proofs.TextLemmas.{root_path, first_path, next_path}
use Rattle.chart_parts.proofs.text.+append_path.Goals as goal
use Rattle.chart_parts.proofs.text.+append_path.Goals.{then-parent-ne0+in_ok-push_str, else-parent-ne0}

pub returns-in_default : goal.returns-in_default
returns-in_default t c =
    root_path c.args.shape.now (names_of c.args.names.now) c.args.state (string_bytes c.args.out.now)
    (sym c.in_default.ensures.parent)

pub returns : goal.returns
returns t c =
    let tree = c.args.shape.now in
    let names = names_of c.args.names.now in
    let s = c.args.state in
    let p = c.in-Some.parent in
    let name = c.state_name.result.now in
    let old = string_bytes c.args.out.now in
    let one = string_bytes c.append_path.new.out in
    elim c.if-parent-ne0.branch [
      | then-parent-ne0+in_ok-push_str w ↦
          next_path tree names s p name old one (string_bytes w.push_str.new.self) (string_bytes c.if-parent-ne0.out) _
          c.requires.tree (sym c.in-Some.ensures.parent) c.state_name.ensures w.if-parent-ne0.true
          c.in_ok-append_path.ensures w.in_ok-push_str.ensures.bytes (ap (λ text. string_bytes text) w.out-is)
          c.in_ok-push_str-2.ensures.bytes
      | else-parent-ne0 w ↦
          first_path tree names s p name old one (string_bytes c.if-parent-ne0.out) _ c.requires.tree
          (sym c.in-Some.ensures.parent) c.state_name.ensures w.if-parent-ne0.false c.in_ok-append_path.ensures
          (ap (λ text. string_bytes text) w.out-is) c.in_ok-push_str-2.ensures.bytes
    ]
