-- What the header says of the functions of the source.
use Rattle.std.specs.Prelude.{◌≡◌, ◌<◌, ◌^◌, ℕ, Bool, List, IfSome}
use Rattle.c_subset.specs.Trees.{Function}
use Rattle.c_text.specs.Labels.{Labels}
use Rattle.c_header.specs.declared.facts.SourceFacts.{SourceFacts}
use Rattle.c_header.specs.Header.{calls_number}
use Rattle.c_file.specs.Heights.{HasMostOpen}
use Rattle.c_file.specs.Reached.{AreReached}
use Rattle.c_file.specs.Source.{any_wide}

-- These functions of a file are reached, and the facts hold of the functions: how many are open at once at most, if that is
-- known, which is a constant that fits an `int` of 32 bits (6.7.2.2 p2), and whether one of those that are reached names
-- a type of 128 bits
pub record AreFacts (L : Labels) (functions : List Function) (written : List Bool) (facts : SourceFacts) : Type 0 where
  pub reached : AreReached L functions written
  pub most_calls : IfSome facts.calls (HasMostOpen L functions)
  pub few_calls : calls_number facts.calls < 2 ^ 31
  pub wide : facts.wide ≡ any_wide written 0 functions
