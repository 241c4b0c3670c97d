-- How far up a level lies in the descent from expressions to operands.
use Rattle.std.proofs.Common.{ℕ}
use Rattle.statechart_operands.specs.declared.operands.Level.{Level}
use Rattle.statechart_operands.specs.declared.operands.Level.TheVariants as levels

-- how far up a level lies, with room for the calls between two levels
abbrev pub rank : Level → ℕ
rank levels.Products = 2
rank levels.Sums = 5
rank levels.Comparisons = 8
rank levels.Conjunctions = 12
rank levels.Disjunctions = 15
