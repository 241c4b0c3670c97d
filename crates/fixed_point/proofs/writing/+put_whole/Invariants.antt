use Rattle.fixed_point.proofs.writing.+put_whole.Given as goal

abbrev pub decreases-put_whole : goal.decreases-put_whole
decreases-put_whole l = l.number
