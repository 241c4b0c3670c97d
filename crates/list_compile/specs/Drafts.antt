-- Drafts and code as contracts see them.
use Rattle.std.specs.Prelude.{◌≡◌, List, ◌++◌, map}
use Rattle.flow_base.specs.declared.list.List.{List as Listed}
use Rattle.flow_base.specs.Lists.{items_of}
use Rattle.code_language.specs.declared.instr.Instr.{Instr as DeclaredInstr}
use Rattle.actions.specs.Exprs.{Stmt}
use Rattle.code_language.specs.Code.{instrs_of}
use Rattle.code_language.specs.Instrs.{Cond, OnHome, BareHome, Instr}
use Rattle.list_compile.specs.declared.blocks.Lasting.{Lasting}
use Rattle.list_compile.specs.declared.blocks.Lasting.TheVariants.{On, Bare}
use Rattle.list_compile.specs.declared.draft.Draft.{Draft}

-- the statements of a block
abbrev pub Stmts : Type 0
Stmts = List Stmt

-- the instructions of a procedure
abbrev pub Instrs : Type 0
Instrs = List Instr

-- the instructions of a procedure, as values of the definitions
abbrev pub code_seen : Listed DeclaredInstr → List Instr
code_seen code = instrs_of (items_of code)

-- the procedures of a draft
abbrev pub procs_of : Draft → List (List Instr)
procs_of d = map (λ is. instrs_of (items_of is)) (items_of d.procs)

-- the first procedures are a front of the others: what was appended comes after them
abbrev pub IsFront : List (List Instr) → List (List Instr) → Type 0
IsFront first all = (more : List (List Instr)) × (all ≡ first ++ more)

-- the test of how long an action or a search goes on
abbrev pub test_of : Lasting → Cond
test_of On = OnHome
test_of Bare = BareHome
