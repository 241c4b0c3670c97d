-- The files and the sinks of a call: what a contract sees of them at a moment.
use Rattle.std.specs.Prelude.{◌≡◌, ◌≢◌, ℕ, List, Option}
use Rattle.std.specs.List.{AllByRecursion}
use Rattle.flow_base.specs.declared.inputs.Inputs.{Ghosts as Inputs}
use Rattle.flow_base.specs.declared.sink.Sink.{Ghosts as Sink}

-- files: what each has left, where that is known, and how often reads of each failed
pub record Sources : Type 0 where
  pub left : List ℕ → Option (List ℕ)
  pub faults : List ℕ → ℕ

-- a sink: what it holds, where that is known, and how often writes of it failed
pub record Output : Type 0 where
  pub holds : Option (List ℕ)
  pub faults : ℕ

-- the files and standard output when a call begins and when it has ended
pub record Call : Type 0 where
  pub sources_before : Sources
  pub sources_after : Sources
  pub output_before : Output
  pub output_after : Output

-- the files that a value of the code stands for
abbrev pub sources_of : {I : Type 0} → Inputs I → I → Sources
sources_of members inputs = record { left = members.left inputs; faults = members.faults inputs }

-- the sink that a value of the code stands for
abbrev pub output_of : {O : Type 0} → Sink O → O → Output
output_of members out = record { holds = members.wrote out; faults = members.faults out }

-- the call between two moments of its files and of its sink
abbrev pub call_of : {I O : Type 0} → Inputs I → Sink O → I → I → O → O → Call
call_of inputs out inputs_before inputs_after out_before out_after =
    record {
      sources_before = sources_of inputs inputs_before;
      sources_after = sources_of inputs inputs_after;
      output_before = output_of out out_before;
      output_after = output_of out out_after;
    }

-- files of other names have left what they had
abbrev pub OthersStay : List (List ℕ) → Sources → Sources → Type 0
OthersStay names before after =
    (other : List ℕ) → AllByRecursion (λ name. other ≢ name) names → after.left other ≡ before.left other
