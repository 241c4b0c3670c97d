use Rattle.chart_parts.proofs.text.+append_path.Given as goal

-- the parent of a state comes before it
abbrev pub decreases-append_path : goal.decreases-append_path
decreases-append_path l = l.state
