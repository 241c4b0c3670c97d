use Rattle.c_file.proofs.facts.facts_of.Goals as goal

pub returns : goal.returns
returns c = record {
  reached = c.requires.uses.reached;
  most_calls = c.in_ok-calls.ensures.most;
  few_calls = c.in_ok-calls.ensures.few;
  wide = c.any_wide.ensures;
}
