-- What a file is written for, as contracts see it.
use Rattle.std.specs.Prelude.{suc, true, slice_index_or}
use Rattle.flow_base.specs.Lists.{items_of}
use Rattle.actions.specs.Names.{names_of}
use Rattle.c_functions.specs.Plans.{Shape}
use Rattle.c_functions.specs.Plans as plans
use Rattle.c_shape.specs.declared.fault_tests.Tests.{Tests}
use Rattle.c_shape.specs.declared.file_shape.FileShape.{FileShape}

-- which faults are tested: the result of a procedure that has no entry is tested after a call
abbrev pub tests_seen : Tests → plans.Tests
tests_seen tests = record {
  steps = tests.steps;
  depth = tests.depth;
  after = λ p. slice_index_or tests.after.items p true;
}

-- the shape that the code keeps: a state's number as a child is one more than its own
abbrev pub shape_seen : FileShape → Shape
shape_seen s = record {
  tree = s.tree.now;
  numbers = λ x. suc x;
  names = names_of s.names.now;
  bounds = s.bounds;
  tests = tests_seen s.tests.now;
  outputs = s.outputs;
  procs = s.procs;
  noted = items_of s.noted;
  notes = s.notes;
}
