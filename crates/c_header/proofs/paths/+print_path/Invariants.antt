use Rattle.c_header.proofs.paths.+print_path.Given as goal

-- the path of the parent, which has a lower number
abbrev pub decreases-print_path : goal.decreases-print_path
decreases-print_path l = l.state
