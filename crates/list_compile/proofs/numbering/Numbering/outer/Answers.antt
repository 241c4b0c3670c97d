use Rattle.std.proofs.Common.{◌∙◌, arith}
use Rattle.list_compile.proofs.numbering.Numbering.outer.Goals as goal

pub entry-requires : goal.entry-requires
entry-requires c = omega (arith, c.args.self.now.numbers.outer.long, c.requires)

pub returns : goal.returns
returns c = record {
  reached = c.entry.ensures ∙ c.args.self.now.numbers.outer.each c.args.state c.requires;
  low =
      omega (
        arith,
        c.entry.ensures,
        c.args.self.now.numbers.outer.each c.args.state c.requires,
        c.args.self.now.numbers.outer.low c.args.state c.requires,
      );
}
