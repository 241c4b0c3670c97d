-- What is written of code.
use Rattle.std.specs.Prelude.{List, map}
use Rattle.flow_base.specs.Lists.{items_of}
use Rattle.actions.specs.declared.names.EventDecl.{EventDecl}
use Rattle.actions.specs.declared.names.Var.{Var}
use Rattle.code_language.specs.declared.code.RawCode.{RawCode}
use Rattle.code_language.specs.declared.code.RawState.{RawState}
use Rattle.code_language.specs.Code.{Code, Procedures, tree_of_states, instrs_of}

-- the states, the data, the events and the procedures
pub record Written : Type 0 where
  pub states : List RawState
  pub vars : List Var
  pub events : List EventDecl
  pub procedures : Procedures

-- what is written of a `RawCode`
abbrev pub written_of : RawCode → Written
written_of raw =
    record {
      states = items_of raw.states;
      vars = items_of raw.vars;
      events = items_of raw.events;
      procedures = record {
        procs = map (λ is. instrs_of (items_of is)) (items_of raw.procs);
        start = raw.start;
        react = raw.react;
      };
    }

-- the code that is written
abbrev pub code_written : Written → Code
code_written w =
    record {
      tree = tree_of_states w.states;
      names = record {
        states = map (λ (s : RawState). s.name) w.states;
        vars = w.vars;
        events = w.events;
      };
      procedures = w.procedures;
    }
