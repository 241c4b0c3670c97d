-- The plan, and what is known at a place, as the code keeps them.
use Rattle.std.specs.Prelude.{ℕ, true, false, slice_index_or, List, [], ◌∷◌}
use Rattle.flow_base.specs.Lists.{items_of}
use Rattle.c_trees.specs.Blocks.{block_of}
use Rattle.c_facts.specs.Views.{places_of, known_of}
use Rattle.c_facts.specs.declared.known.Places.TheVariants as places
use Rattle.c_facts.specs.declared.known.Rows.TheVariants as rows
use Rattle.c_facts.specs.declared.known.Known.TheVariants as known
use Rattle.c_decided.specs.Facts as spec
use Rattle.c_decided.specs.Decided as decided
use Rattle.c_decided.specs.Walk as walk
use Rattle.c_decided.specs.declared.plan.Cases.{Cases}
use Rattle.c_decided.specs.declared.plan.Cases.TheVariants as cases
use Rattle.c_decided.specs.declared.plan.ByNumber.{ByNumber}
use Rattle.c_decided.specs.declared.plan.Facts.{Facts}
use Rattle.c_decided.specs.declared.plan.FunctionFacts.{FunctionFacts}
use Rattle.c_decided.specs.declared.plan.Plan.{Plan}
use Rattle.c_decided.specs.declared.walking.Walked.{Walked}

-- by each of some numbers
abbrev pub cases_of : Cases → List spec.Numbered
cases_of cases.End = []
cases_of (cases.Case' n k p rest) = record { number = n; known = known_of k } ∷ cases_of rest

-- by a number
abbrev pub by_of : ByNumber → spec.ByNumber
by_of b = record { cases = cases_of b.cases; others = known_of b.others }

-- at a place
abbrev pub facts_of : Facts → spec.Facts
facts_of f = record { type = f.of; local = f.local; by = by_of f.by }

-- of a function that isn't there: it isn't called
abbrev pub missing : FunctionFacts
missing = record {
  begins = known.Never;
  leaves = record { cases = cases.End; others = known.Of rows.End };
  touched = places.Empty;
  stays = false;
}

-- what is known of a function
abbrev pub function_of : Plan → ℕ → FunctionFacts
function_of plan p = slice_index_or (items_of plan.functions) p missing

-- the plan
abbrev pub plan_of : Plan → decided.Plan
plan_of plan = record {
  begins = λ p. known_of (function_of plan p).begins;
  leaves = λ p. by_of (function_of plan p).leaves;
  touched = λ p. places_of (function_of plan p).touched;
  stays = λ p. (function_of plan p).stays;
}

-- statements that were gone through and are right
abbrev pub walked_of : Walked → walk.Walked
walked_of w = record { right = true; block = block_of w.tree; after = facts_of w.after }
