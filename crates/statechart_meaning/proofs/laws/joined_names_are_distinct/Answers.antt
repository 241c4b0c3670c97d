use Rattle.statechart_meaning.proofs.JoinedLemmas.{joined_apart}
use Rattle.statechart_meaning.proofs.laws.joined_names_are_distinct.Goals as goal

pub returns : goal.returns
returns c x y xs ys h i e = joined_apart x y xs ys h i e
