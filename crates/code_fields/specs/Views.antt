-- What contracts see of the values of the reader.
use Rattle.std.specs.Prelude.{List, ℕ}
use Rattle.std.specs.Option.{option_copied}
use Rattle.actions.specs.Trees.{expr_of}
use Rattle.actions.specs.declared.names.Var.{Var}
use Rattle.actions.specs.declared.names.EventDecl.{EventDecl}
use Rattle.code_fields.specs.Cuts.{Parts, Field}
use Rattle.code_fields.specs.Expressions.{ReadExpr}
use Rattle.code_fields.specs.declared.cuts.Parts.{Parts as PartsAt}
use Rattle.code_fields.specs.declared.cuts.Field.{Field as FieldAt}
use Rattle.code_fields.specs.declared.declarations.VarParts.{VarParts}
use Rattle.code_fields.specs.declared.declarations.EventParts.{EventParts}
use Rattle.code_fields.specs.declared.expressions.ReadExpr.{ReadExpr as ReadExprAt}

-- the bytes of both parts
abbrev pub parts_of : PartsAt → Parts
parts_of parts = record { front = parts.front.now; rest = parts.rest.now }

-- the bytes of the word, and of what follows it
abbrev pub field_of : FieldAt → Field
field_of field = record { word = field.word.now; rest = option_copied field.rest }

-- a datum with the bytes of its name
abbrev pub var_of : VarParts → Var
var_of v = record { name = v.name.now; kind = v.kind; sort = v.sort; mode = v.mode; init = v.init }

-- an event with the bytes of its name
abbrev pub event_of : EventParts → EventDecl
event_of e = record { name = e.name.now; kind = e.kind }

-- the expression and the bytes that follow it
abbrev pub front_of : ReadExprAt → ReadExpr
front_of front = record { expr = expr_of front.expr; left = front.left; rest = option_copied front.rest }
