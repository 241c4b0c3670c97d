-- What contracts see of the values of the reader.
use Rattle.code_language.specs.declared.code.RawState.{RawState}
use Rattle.code_lines.specs.declared.states.StateLine.{StateLine}

-- a state with the bytes of its name
abbrev pub state_of : StateLine → RawState
state_of s = record { parent = s.parent; comp = s.comp; name = s.name.now }
