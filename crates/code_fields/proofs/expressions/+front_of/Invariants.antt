use Rattle.code_fields.proofs.expressions.+front_of.Given as goal

abbrev pub decreases-front_of : goal.decreases-front_of
decreases-front_of l = l.depth
