use Rattle.std.proofs.Common.{◌∙◌, arith}
use Rattle.list_compile.proofs.numbering.Numbering.default.Goals as goal

pub entry-requires : goal.entry-requires
entry-requires c = omega (arith, c.args.self.now.numbers.default.long, c.requires)

pub returns : goal.returns
returns c = record {
  reached = c.entry.ensures ∙ c.args.self.now.numbers.default.each c.args.state c.requires;
  low =
      omega (
        arith,
        c.entry.ensures,
        c.args.self.now.numbers.default.each c.args.state c.requires,
        c.args.self.now.numbers.default.low c.args.state c.requires,
      );
}
