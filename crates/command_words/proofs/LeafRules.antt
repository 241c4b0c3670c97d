-- The arguments of a command as `clap` walks over them.
use Rattle.std.proofs.Common.{◌≡◌, ℕ, Bool, true, false, not, ◌&&◌, ◌||◌, cond, List, [], Some, None, codes, option_map}
use Rattle.std.specs.List.{fold, list_any}
use Rattle.clap.specs.Faults.{defaults_fault}
use Rattle.clap.specs.Takes.{is_given}
use Rattle.clap.specs.Simple.{Shape}
use Rattle.clap.specs.Walk.{Row, Rule, arg_by_id, arg_by_index, arg_by_long, arg_by_short, takes_several, with_default}
use Rattle.clap.specs.declared.builder.value_parser.ValueParser.{ValueParser}
use Rattle.clap.specs.declared.builder.value_parser.ValueParser.TheVariants as parsers
use Rattle.command_words.specs.Numbers.{Text}
use Rattle.command_words.specs.Options.{Bound, Depth, Steps, limit_of, option_named}
use Rattle.command_words.proofs.RowLemmas.{one_rule}

-- the name of an option, which is its id too
abbrev pub name_of : Bound → Text
name_of Depth = codes "depth"
name_of Steps = codes "steps"

-- the first file, or the number
abbrev pub first_rule : ValueParser → Rule
first_rule p = one_rule (codes "first") None (Some 1) p true

-- the second file
abbrev pub second_rule : Rule
second_rule = one_rule (codes "second") None (Some 2) parsers.String true

-- the parser of an option's value
abbrev pub bound_parser : Bound → ValueParser
bound_parser bound = parsers.Unsigned 1 (limit_of bound)

-- an option
abbrev pub bound_rule : Bound → Rule
bound_rule bound = one_rule (name_of bound) (Some (name_of bound)) None (bound_parser bound) false

-- the arguments are one file that the parser accepts, or two files; and the options of a run, where the command is
-- bounded
pub record IsLeaf (R : List Rule) (two : Bool) (p : ValueParser) (bounded : Bool) : Type 0 where
  pub no_short : (x : ℕ) → arg_by_short R x ≡ None
  pub long : (name : Text) → arg_by_long R name ≡ option_map bound_rule (option_named bounded name)
  pub known : (name : Text) (bound : Bound) → option_named bounded name ≡ Some bound
      → arg_by_id R (name_of bound) ≡ Some (bound_rule bound)
  pub at_1 : arg_by_index R 1 ≡ Some (first_rule p)
  pub at_2 : arg_by_index R 2 ≡ cond two (Some second_rule) None
  pub at_3 : arg_by_index R 3 ≡ None
  pub id_first : arg_by_id R (codes "first") ≡ Some (first_rule p)
  pub id_second : two ≡ true → arg_by_id R (codes "second") ≡ Some second_rule
  pub several : (n : ℕ) (a : Rule) → arg_by_index R n ≡ Some a → takes_several a ≡ false
  pub defaults : (rows : List Row) → defaults_fault rows R ≡ []
  pub finish : (rows : List Row) → fold with_default rows R ≡ rows
  pub wants : (rows : List Row) → list_any (λ a. a.required && not (is_given a.id rows)) R
      ≡ (not (is_given (codes "first") rows) || (two && not (is_given (codes "second") rows)))

-- a command of the program: its name, its arguments, whether it has two files, the parser of its first argument, and
-- whether it is bounded
pub record Leaf : Type 0 where
  pub name : Text
  pub rules : List Rule
  pub two : Bool
  pub parser : ValueParser
  pub bounded : Bool
  pub is_leaf : IsLeaf rules two parser bounded

-- a command as the walk reads it
abbrev pub leaf_shape : Text → List Rule → Shape
leaf_shape name R = record {
  name = name;
  aliases = [];
  rules = R;
  is_plain = true;
  is_leaf = true;
  no_binary_name = true;
  disable_help_flag = true;
  disable_help_subcommand = true;
  disable_version_flag = false;
  propagate_version = false;
  has_version = false;
  has_long_version = false;
  args_override_self = false;
  arg_required_else_help = false;
  subcommand_required = false;
  subcommand_negates_reqs = false;
  is_built = true;
}

-- the shape of a command of the program
abbrev pub shape_of_leaf : Leaf → Shape
shape_of_leaf L = leaf_shape L.name L.rules
