-- Statements without sets of locals that nothing reads, in which what a call returns goes to a local of its own kind
-- where nothing reads it.
use Rattle.std.specs.Prelude.{ℕ, Bool, true, false, List, [], map, if◌then◌else◌}
use Rattle.c_subset.specs.declared.trees.CType.{CType}
use Rattle.c_subset.specs.Trees.{CExpr, Function, File}
use Rattle.c_subset.specs.Trees.{Block, End, Set, Store, StoreAt, Call, Select, If, While, Return}
use Rattle.c_trees.specs.Sizes.{is_short}
use Rattle.c_unread.specs.Live.{LocalName, is_live, without, taken_by, united, with_read, with_all_read}
use Rattle.c_unread.specs.Live.{with_named}

-- statements, and the locals that they, and what comes after them, may read before they are set
pub record Trimmed : Type 0 where
  pub block : Block
  pub live : List LocalName

-- x = e; before others, where the local may be read after it, else the others alone
abbrev pub set_before : Bool → CType → ℕ → CExpr → Trimmed → Trimmed
set_before true t i e rest = record { block = Set t i e rest.block; live = with_read e (without t i rest.live) }
set_before false t i e rest = rest

-- an `if` before others: of either part may be read what that part may read
abbrev pub if_before : CExpr → Trimmed → Trimmed → Trimmed → Trimmed
if_before e first second rest = record {
  block = If e first.block second.block rest.block;
  live = with_read e (united first.live second.live);
}

-- Statements without sets of locals that nothing reads, before others that may read these locals
unfoldable pub trimmed : Block → List LocalName → Trimmed
trimmed End live = record { block = End; live = live }
trimmed (Set t i e rest) live =
    let after = trimmed rest live in set_before (is_live t i after.live) t i e after
trimmed (Store f e rest) live =
    let after = trimmed rest live in record { block = Store f e after.block; live = with_read e after.live }
trimmed (StoreAt a i e rest) live =
    let after = trimmed rest live in
    record { block = StoreAt a i e after.block; live = with_read e (with_read i after.live) }
-- the call stays: it may change the struct
trimmed (Call t i f args rest) live =
    let after = trimmed rest live in
    record {
      block = Call t (taken_by t i after.live) f args after.block;
      live = with_all_read args (without t i after.live);
    }
-- where no case fits, nothing is set
trimmed (Select t i e cases args rest) live =
    let after = trimmed rest live in
    record {
      block = Select t (taken_by t i after.live) e cases args after.block;
      live = with_all_read args (with_read e after.live);
    }
trimmed (If e a b rest) live =
    let after = trimmed rest live in if_before e (trimmed a after.live) (trimmed b after.live) after
-- the next turn may read all that one may read
trimmed (While e a rest) live =
    let after = trimmed rest live in
    let turn = with_named a (with_read e after.live) in
    record { block = While e (trimmed a turn).block after.block; live = turn }
trimmed (Return e) live = record { block = Return e; live = with_read e [] }

-- a function without them, if it isn't long
abbrev pub trimmed_of : Function → Function
trimmed_of f = record {
  result = f.result;
  parameters = f.parameters;
  body = if is_short f.body then (trimmed f.body []).block else f.body;
}

-- the file of such functions
abbrev pub with_trimmed : File → File
with_trimmed file = record file { functions = map trimmed_of file.functions }
