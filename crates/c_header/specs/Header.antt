-- The header of a chart's C.
use Rattle.std.specs.Prelude.{ℕ, ◌+◌, ◌==◌, Bool, true, false, List, [], ◌∷◌, ◌++◌, length, codes, decimal}
use Rattle.std.specs.Prelude.{Option, Some, None, if◌then◌else◌}
use Rattle.flow_base.specs.declared.bounds.Bounds.{Bounds}
use Rattle.flow_base.specs.declared.fault.Fault.TheVariants as faults
use Rattle.active_config.specs.Tree.{state_count}
use Rattle.actions.specs.declared.names.EventDecl.{EventDecl}
use Rattle.actions.specs.declared.names.EventKind.{EventKind}
use Rattle.actions.specs.declared.names.EventKind.TheVariants as event_kinds
use Rattle.c_names.specs.Stems.{guard_of_chart, name_of_chart}
use Rattle.c_functions.specs.Layout.{on_c}
use Rattle.c_functions.specs.Plans.{Shape, layout, used_field, fault_number, refused_number, init_function}
use Rattle.c_functions.specs.Plans.{start_function, react_function, word}
use Rattle.c_subset.specs.declared.trees.CType.TheVariants.{Truth}
use Rattle.c_text.specs.declared.kinds.Kind.TheVariants.{Outside}
use Rattle.c_text.specs.Labels.{Labels, labels_for}
use Rattle.c_text.specs.Expressions.{bare}
use Rattle.c_text.specs.Functions.{prototype_text}
use Rattle.c_header.specs.declared.facts.SourceFacts.{SourceFacts}
use Rattle.c_header.specs.declared.identity.Identity.{Identity}
use Rattle.c_header.specs.declared.states.About.{About}
use Rattle.c_header.specs.declared.states.About.TheVariants.{Active, Remembered, Bits, Test}
use Rattle.c_header.specs.declared.paths.Form.TheVariants.{Words}
use Rattle.c_header.specs.Identity.{identity_text, sums_text}
use Rattle.c_header.specs.Paths.{path_text, state_label}
use Rattle.c_header.specs.Fields.{texts_below, data_text, counters_text, active_field, last_field, for_or, bits_line}

-- a text with the chart's name in it
abbrev pub titled_text : List ℕ → List ℕ → List ℕ → List ℕ
titled_text front chart back = front ++ (chart ++ back)

-- a text with one of the chart's names in C in it: the word after the chart's name goes on with other text
abbrev pub named_text : List ℕ → List ℕ → List ℕ → List ℕ
named_text front chart back = front ++ name_of_chart chart back

-- ---- the beginning

-- what an engineer has to know
unfoldable pub usage_text : List ℕ → List ℕ
usage_text chart =
    codes "\n   All memory is one struct, which the caller owns. Before the start and before each event\n"
    ++ (codes "   store the inputs (in_..). After it read the outputs (out_..), the events that were\n"
    ++ (codes "   emitted (out[0] to out[outs - 1]) and which states are active. Each call returns whether\n"
    ++ (codes "   it ended without a fault. After a fault, which fault and fault_datum tell, the run is\n"
    ++ (named_text (codes "   over: the next call is ") chart
    (codes "init. An input has to lie in the range of its type,\n")
    ++ (codes "   which stands beside it. Local data (loc_..) may be read. All other fields belong to the\n"
    ++ codes "   chart alone. */\n")))))

-- a line with the name that is defined where the header was read
abbrev pub guard_line : List ℕ → List ℕ → List ℕ → List ℕ
guard_line front chart back = front ++ (guard_of_chart chart ++ back)

-- the header is read once; the name that is replaced is that of nothing else (Scope)
unfoldable pub guard_text : List ℕ → List ℕ
guard_text chart =
    guard_line (codes "#ifndef ") chart (codes "\n") ++ guard_line (codes "#define ") chart (codes "\n\n")

-- what the header needs: that `int` has 32 bits and that numbers below 0 have two's complement, which the types of
-- <stdint.h> have too (7.18.1.1); in C++ what it declares is C
unfoldable pub needs_text : List ℕ → List ℕ
needs_text chart =
    guard_text chart
    ++ (codes "#include <limits.h>\n#include <stdbool.h>\n#include <stdint.h>\n\n"
    ++ (codes "#if UINT_MAX != 4294967295u || INT_MAX != 2147483647 || INT_MIN != -2147483647 - 1\n"
    ++ (codes "#error \"int must have 32 bits, and two's complement\"\n#endif\n\n"
    ++ codes "#ifdef __cplusplus\nextern \"C\" {\n#endif\n\n")))

-- that the source needs integers of 128 bits, where it does
unfoldable pub wide_needs : Bool → List ℕ
wide_needs true =
    codes "#if !defined(__SIZEOF_INT128__)\n#error \"the source computes in 128 bits: it needs __int128\"\n#endif\n\n"
wide_needs false = []

-- ---- numbers

-- enum { CHART_prefixNAME = NUMBER }; which no field of the struct can meet: fields have names of their own (6.2.3 p1)
unfoldable pub define_line : List ℕ → List ℕ → List ℕ → ℕ → List ℕ
define_line chart prefix name number =
    codes "enum { " ++ (name_of_chart chart prefix ++ (name ++ (codes " = " ++ (decimal number ++ codes " };\n"))))

-- the number of an event, but for local ones
abbrev pub event_line : List ℕ → ℕ → List ℕ → EventKind → List ℕ
event_line chart number name event_kinds.Input = define_line chart (codes "E_") name number
event_line chart number name event_kinds.Local = []
event_line chart number name event_kinds.Output = define_line chart (codes "E_") name number

-- events from a number on
abbrev pub event_lines : List ℕ → ℕ → List EventDecl → List ℕ
event_lines chart number [] = []
event_lines chart number (e ∷ rest) = event_line chart number e.name e.kind ++ event_lines chart (number + 1) rest

-- the number of a reaction without an event
abbrev pub tick_line : List ℕ → List EventDecl → List ℕ
tick_line chart es = define_line chart [] (codes "TICK") (length es)

-- the events, and a reaction without one
unfoldable pub events_text : List ℕ → List EventDecl → List ℕ
events_text chart es =
    named_text (codes "/* The events: those that ") chart (codes "react takes, and those that are emitted. */\n")
    ++ (event_lines chart 0 es ++ tick_line chart es)

-- the faults
unfoldable pub faults_text : List ℕ → List ℕ
faults_text chart =
    codes "\n/* The faults. */\n"
    ++ (define_line chart (codes "FAULT_") (codes "NONE") (fault_number None)
    ++ (define_line chart (codes "FAULT_") (codes "DEPTH") (fault_number (Some faults.Depth))
    ++ (define_line chart (codes "FAULT_") (codes "STEPS") (fault_number (Some faults.Steps))
    ++ (define_line chart (codes "FAULT_") (codes "OVERFLOW") (fault_number (Some (faults.Overflow 0)))
    ++ (define_line chart (codes "FAULT_") (codes "ZERO") (fault_number (Some faults.Zero))
    ++ define_line chart (codes "FAULT_") (codes "EVENT") refused_number)))))

-- the bounds, and how many entries the arrays have
unfoldable pub bounds_text : List ℕ → Bounds → ℕ → ℕ → List ℕ
bounds_text chart bounds outputs notes =
    codes "\n/* The bounds of an event: how deep sends nest, and how many steps it takes. */\n"
    ++ (define_line chart [] (codes "DEPTH") bounds.depth
    ++ (define_line chart [] (codes "STEPS") bounds.steps
    ++ (codes "\n/* How many entries out[] and note[] have. */\n"
    ++ (define_line chart [] (codes "OUTPUTS") outputs
    ++ define_line chart [] (codes "NOTES") notes))))

-- what stands above how many functions of the source are open at once at most, with the one that is called from outside
abbrev pub calls_comment : Option ℕ → List ℕ
calls_comment (Some most) =
    codes "\n/* How many functions of the source are open at once at most, with start or react. */\n"
calls_comment None =
    codes "\n/* 0: it isn't known. Functions may call themselves, by way of others too. */\n"

-- that number: 0 where it isn't known
abbrev pub calls_number : Option ℕ → ℕ
calls_number (Some most) = most
calls_number None = 0

-- functions may call themselves only where the compiler is told that they may
abbrev pub recursion_text : List ℕ → Option ℕ → List ℕ
recursion_text chart (Some most) = []
recursion_text chart None =
    named_text (codes "#if !defined(") chart (codes "MAY_RECURSE)\n")
    ++ named_text (codes "#error \"functions may call themselves: where they may, define ") chart
    (codes "MAY_RECURSE\"\n#endif\n")

-- how many functions are open at once at most
unfoldable pub calls_text : List ℕ → Option ℕ → List ℕ
calls_text chart calls =
    calls_comment calls ++ (define_line chart [] (codes "CALLS") (calls_number calls) ++ recursion_text chart calls)

-- ---- states

-- /* Whether A/B is active. */
unfoldable pub test_comment : Shape → ℕ → List ℕ
test_comment K x = codes "/* Whether " ++ (path_text Words K.tree K.names x ++ codes " is active. */\n")

-- static inline bool CHART_in_A_B(const CHART_chart *m), or CHART_in_17 where the path is too long
unfoldable pub test_head : List ℕ → Shape → ℕ → List ℕ
test_head chart K x =
    named_text (codes "static inline bool ") chart (codes "in_")
    ++ (state_label K.tree K.names x ++ named_text (codes "(const ") chart (codes "chart *m)\n"))

-- { return TEST; }
unfoldable pub test_body : Labels → Shape → ℕ → List ℕ
test_body L K x =
    codes "{\n    return " ++ (bare L Outside (on_c K.tree (layout K) K.numbers x) ++ codes ";\n}\n\n")

-- the test whether a state is active
unfoldable pub test_text : List ℕ → Labels → Shape → ℕ → List ℕ
test_text chart L K x = test_comment K x ++ (test_head chart K x ++ test_body L K x)

-- what is written about a state
abbrev pub state_text : List ℕ → Labels → Shape → About → ℕ → List ℕ
state_text chart L K Active x = for_or K x (active_field chart L K x)
state_text chart L K Remembered x = for_or K x (last_field chart L K x)
state_text chart L K Bits x = bits_line L K x
state_text chart L K Test x = if x == 0 then [] else test_text chart L K x

-- the same of all states
unfoldable pub states_text : List ℕ → Labels → Shape → About → List ℕ
states_text chart L K about = texts_below (state_text chart L K about) (state_count K.tree)

-- ---- the struct and the calls

-- the arrays
unfoldable pub rows_text : Shape → List ℕ
rows_text K =
    codes "    uint32_t out[" ++ (decimal K.outputs
    ++ (codes "]; /* the events that the last event emitted */\n    uint32_t note["
    ++ (decimal K.notes ++ codes "]; /* what is to be done before the event goes on */\n")))

-- the fields of data, and those after them
unfoldable pub values_fields : Labels → Shape → List ℕ
values_fields L K = data_text L 0 K.names.vars ++ counters_text L K.tests.steps (used_field K)

-- the fields of states
unfoldable pub states_fields : List ℕ → Labels → Shape → List ℕ
states_fields chart L K =
    states_text chart L K Active ++ (states_text chart L K Remembered ++ states_text chart L K Bits)

-- the struct
unfoldable pub struct_text : List ℕ → Labels → Shape → List ℕ
struct_text chart L K =
    codes "typedef struct {\n" ++ (values_fields L K
    ++ (states_fields chart L K ++ (rows_text K ++ named_text (codes "} ") chart (codes "chart;\n\n"))))

-- the call that stores the first values
unfoldable pub init_text : Labels → Shape → List ℕ
init_text L K =
    codes "/* Stores the first values of all data; nothing is active. Inputs that are stored after it hold\n"
    ++ (codes "   at the start. */\n" ++ prototype_text L (init_function K) false Truth [])

-- the call that begins a run
unfoldable pub start_text : List ℕ → Labels → Shape → List ℕ
start_text chart L K =
    named_text (codes "\n/* Begins the run: enters the chart. Returns false, too, and changes nothing, unless ") chart
    (codes "init\n   was called since the last run began. */\n")
    ++ prototype_text L (start_function K) false Truth []

-- the call for an event
unfoldable pub react_text : List ℕ → Labels → Shape → List ℕ
react_text chart L K =
    named_text (codes "\n/* Takes an event: ") chart (codes "TICK or one of the input events; any other number is a fault.\n")
    ++ (codes "   Returns false, too, and changes nothing, before the start and after a fault. */\n"
    ++ (prototype_text L (react_function K) false Truth (word ∷ []) ++ codes "\n"))

-- ---- the whole

-- what stands before the struct
unfoldable pub front_text : List ℕ → Shape → SourceFacts → Identity → List ℕ
front_text chart K facts identity =
    identity_text chart identity
    ++ (usage_text chart
    ++ (needs_text chart
    ++ (wide_needs facts.wide
    ++ (events_text chart K.names.events
    ++ (faults_text chart
    ++ (bounds_text chart K.bounds K.outputs K.notes
    ++ (calls_text chart facts.calls ++ sums_text chart identity)))))))

-- the end
abbrev pub end_text : List ℕ
end_text = codes "#ifdef __cplusplus\n}\n#endif\n\n#endif\n"

-- what stands from the struct on
unfoldable pub back_text : List ℕ → Labels → Shape → List ℕ
back_text chart L K =
    struct_text chart L K
    ++ (init_text L K ++ (start_text chart L K ++ (react_text chart L K ++ (states_text chart L K Test ++ end_text))))

-- the header of a chart of that name, of whose source these facts hold, of this making
unfoldable pub header_text : List ℕ → Shape → SourceFacts → Identity → List ℕ
header_text chart K facts identity =
    front_text chart K facts identity ++ back_text chart (labels_for chart K.names K.tree K.procs) K
