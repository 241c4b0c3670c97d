-- What contracts see of the values of the reader.
use Rattle.std.specs.Prelude.{◌≡◌, ◌≢◌, ℕ, List, Bool, true, false, map, Option, Some, None, Result, Ok, Err}
use Rattle.flow_base.specs.Lists.{items_of}
use Rattle.code_language.specs.declared.code.RawCode.{RawCode}
use Rattle.code_language.specs.Code.{code_of, instr_of, instrs_of}
use Rattle.code_language.specs.WellFormed.{IsCode}
use Rattle.code_text.specs.Reading.{Partial, Procs, spelled, IsCause}
use Rattle.code_text.specs.Written.{written_of}
use Rattle.code_text.specs.declared.fault.CodeTextFault.{CodeTextFault}
use Rattle.code_text.specs.declared.fault.CodeTextFault.TheVariants as faults
use Rattle.code_text.specs.declared.counts.Procs.{Procs as ProcsRead}
use Rattle.code_text.specs.declared.partial.Partial.{Partial as PartialRead}

-- the three numbers
abbrev pub three_of : ProcsRead → Procs
three_of procs = record { count = procs.count; start = procs.start; react = procs.react }

-- what was read
abbrev pub partial_of : PartialRead → Partial
partial_of p =
    record {
      format = p.format;
      states = p.states.items;
      vars = p.vars.items;
      events = p.events.items;
      start = p.start;
      react = p.react;
      procs = map (λ is. instrs_of (items_of is)) p.procs.items;
      instrs = map instr_of p.instrs.items;
      expected = p.expected;
    }

-- whether the line was read, and what is read with it
abbrev pub GoesOn : Option Partial → Bool → Partial → Type 0
GoesOn next true new = next ≡ Some new
GoesOn next false new = next ≡ None

-- what was returned, seen by view, is the outcome, unless memory ran out
abbrev pub Answers : {X Y : Type 0} → (X → Y)
    → Result X CodeTextFault → Result Y CodeTextFault → Type 0
Answers view (Ok x) outcome = outcome ≡ Ok (view x)
Answers view (Err fault) outcome = fault ≢ faults.Memory → outcome ≡ Err fault

-- what reading a text as code may answer: the well-formed code that it spells, or why it isn't read
abbrev pub IsAnswer : List ℕ → Result RawCode CodeTextFault → Type 0
IsAnswer text (Ok raw) = (spelled text ≡ Ok (written_of raw)) × IsCode (code_of raw)
IsAnswer text (Err fault) = IsCause text fault
