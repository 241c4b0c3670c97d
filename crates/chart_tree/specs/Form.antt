-- The kinds of fault of a text: how they are printed, and when a text is too long.
use Rattle.std.specs.Prelude.{◌≡◌, ℕ, ◌<◌, List, length, codes}
use Rattle.token_grammar.specs.declared.token.Span.{Span}
use Rattle.token_grammar.specs.declared.fault.TokenFault.{TokenFault}
use Rattle.token_grammar.specs.declared.fault.TokenFault.TheVariants as reading
use Rattle.token_grammar.specs.declared.fault.Thing.TheVariants as things
use Rattle.chart_tree.specs.declared.fault.FormKind.{FormKind}
use Rattle.chart_tree.specs.declared.fault.FormKind.TheVariants as forms
use Rattle.chart_tree.specs.declared.limits.TheConstants.{CHART_TEXT_LIMIT}

-- the kind of a fault of reading
abbrev pub kind_of : TokenFault → FormKind
kind_of reading.Expected = forms.Expected
kind_of reading.LiteralTooLong = forms.LiteralTooLong
kind_of reading.LiteralNotBinary = forms.LiteralNotBinary
kind_of reading.NestTooDeep = forms.NestTooDeep
kind_of (reading.TooMany thing) = forms.TooMany thing

-- the number of a kind of fault
abbrev pub form_number : FormKind → ℕ
form_number forms.BadByte = 1
form_number forms.BadToken = 2
form_number forms.Expected = 3
form_number forms.LiteralTooLong = 4
form_number forms.LiteralNotBinary = 5
form_number forms.TextTooLong = 6
form_number forms.NestTooDeep = 7
form_number (forms.TooMany thing) = 8
form_number forms.NameTwice = 9
form_number forms.UnknownName = 10
form_number forms.WrongKind = 11
form_number forms.TypeClash = 12
form_number forms.TooWide = 13
form_number forms.AssignsInput = 14
form_number forms.EventKind = 15
form_number forms.InitRange = 16
form_number forms.EmptyComposition = 17
form_number forms.DefaultMissing = 18
form_number forms.DefaultUnwanted = 19
form_number forms.DefaultOpen = 20
form_number forms.DefaultLeaves = 21
form_number forms.InnerLeaves = 22
form_number forms.CrossesRegions = 23
form_number forms.TooManyPairs = 24
form_number forms.HistoryUnwanted = 26

-- the name of a kind of fault
abbrev pub form_name : FormKind → List ℕ
form_name forms.BadByte = codes "BadByte"
form_name forms.BadToken = codes "BadToken"
form_name forms.Expected = codes "Expected"
form_name forms.LiteralTooLong = codes "LiteralTooLong"
form_name forms.LiteralNotBinary = codes "LiteralNotBinary"
form_name forms.TextTooLong = codes "TextTooLong"
form_name forms.NestTooDeep = codes "NestTooDeep"
form_name (forms.TooMany things.States) = codes "TooMany states"
form_name (forms.TooMany things.Junctions) = codes "TooMany junctions"
form_name (forms.TooMany things.Transitions) = codes "TooMany transitions"
form_name (forms.TooMany things.Variables) = codes "TooMany variables"
form_name (forms.TooMany things.Events) = codes "TooMany events"
form_name (forms.TooMany things.Statements) = codes "TooMany statements"
form_name (forms.TooMany things.Operators) = codes "TooMany operators"
form_name (forms.TooMany things.Items) = codes "TooMany items"
form_name forms.NameTwice = codes "NameTwice"
form_name forms.UnknownName = codes "UnknownName"
form_name forms.WrongKind = codes "WrongKind"
form_name forms.TypeClash = codes "TypeClash"
form_name forms.TooWide = codes "TooWide"
form_name forms.AssignsInput = codes "AssignsInput"
form_name forms.EventKind = codes "EventKind"
form_name forms.InitRange = codes "InitRange"
form_name forms.EmptyComposition = codes "EmptyComposition"
form_name forms.DefaultMissing = codes "DefaultMissing"
form_name forms.DefaultUnwanted = codes "DefaultUnwanted"
form_name forms.DefaultOpen = codes "DefaultOpen"
form_name forms.DefaultLeaves = codes "DefaultLeaves"
form_name forms.InnerLeaves = codes "InnerLeaves"
form_name forms.CrossesRegions = codes "CrossesRegions"
form_name forms.TooManyPairs = codes "TooManyPairs"
form_name forms.HistoryUnwanted = codes "HistoryUnwanted"

-- a text that is too long is refused at its first byte, before all other faults
pub record IsTooLong (text : List ℕ) (kind : FormKind) (at : Span) : Type 0 where
  pub kind_is : kind ≡ forms.TextTooLong
  pub long : CHART_TEXT_LIMIT < length text
  pub place : at ≡ record { line = 1; column = 1 }
