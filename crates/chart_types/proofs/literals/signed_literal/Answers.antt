use Rattle.chart_types.proofs.LiteralLemmas.{no_fault_read}
use Rattle.chart_types.proofs.literals.signed_literal.Goals as goal

-- the literal denotes a number
pub unreachable-requires : goal.unreachable-requires
unreachable-requires c = no_fault_read c.args.negative c.args.lit _ c.requires c.in-Err.ensures
