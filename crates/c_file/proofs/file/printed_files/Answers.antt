use Rattle.std.proofs.Common.{ℕ, ap}
use Rattle.c_text.specs.Labels.{labels_of}
use Rattle.c_file.specs.Comments.{said_of}
use Rattle.c_file.specs.Made.{functions_of}
use Rattle.c_file.specs.Source.{source_text}
use Rattle.c_file.proofs.SourceLemmas.{same_lines}
use Rattle.c_file.proofs.file.printed_files.Goals as goal

pub returns : goal.returns
returns c = record {
  written = c.in_ok-uses.uses.reached.items;
  changing = c.in_ok-uses.uses.changing.items;
  order = c.in_ok-order.order.functions.items;
  facts = c.in_ok-facts.facts;
  hold = c.in_ok-facts.ensures;
  may_change = c.in_ok-uses.ensures.changing;
  is_order = c.in_ok-order.ensures.is;
  header_is = c.in_ok-header.ensures;
  source_is =
      same_lines _ _ _
      (ap (λ (n : ℕ). source_text (labels_of c.args.made.now.labels) (said_of c.args.made.now.said) c.args.identity
      c.args.made.now.shape.bounds c.args.made.now.shape.outputs c.args.made.now.shape.notes n
      (functions_of c.args.made.now) c.in_ok-uses.uses.reached.items c.in_ok-uses.uses.changing.items
      c.in_ok-order.order.functions.items) c.calls_number-calls.ensures)
      c.in_ok-source.ensures;
}
