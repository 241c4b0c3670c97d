-- The commands of one file, of one number and of a run, as `clap` builds them.
use Rattle.std.proofs.Common.{◌≡◌, ◌∙◌, ℕ, Bool, true, false, not, ◌||◌, cond, refl, ap, subst, List, [], ◌∷◌}
use Rattle.std.proofs.Common.{Option, Some, None, codes, option_map}
use Rattle.std.specs.Prelude.{nat_eq}
use Rattle.std.specs.List.{fold}
use Rattle.std.specs.Str.{bytes_eq}
use Rattle.clap.specs.Faults.{default_fault, defaults_fault, given_default_fault}
use Rattle.clap.specs.Takes.{is_given}
use Rattle.clap.specs.Walk.{Row, Rule, arg_by_id, has_row, takes_several, with_default}
use Rattle.clap.specs.declared.builder.value_parser.ValueParser.{ValueParser}
use Rattle.clap.specs.declared.builder.value_parser.ValueParser.TheVariants as parsers
use Rattle.command_words.specs.declared.words.TheConstants.{NUMBER_LIMIT}
use Rattle.command_words.specs.Numbers.{Text}
use Rattle.command_words.specs.Options.{Bound, Depth, Steps}
use Rattle.command_words.proofs.RowLemmas.{one_rule}
use Rattle.command_words.proofs.LeafRules.{IsLeaf, Leaf, bound_parser, bound_rule, first_rule, name_of, second_rule}

-- ---- no defaults

-- a test that always holds
or_true : (b : Bool) → (b || true) ≡ true
or_true true = refl
or_true false = refl

-- two equal choices
same_both : {X : Type 0} (b : Bool) (x : X) → cond b x x ≡ x
same_both true x = refl
same_both false x = refl

module _ (id : Text) (long : Option Text) (index : Option ℕ) (parser : ValueParser) (required : Bool) where
  abbrev rule : Rule
  rule = one_rule id long index parser required

  -- an argument without a default has no fault of it
  no_default : (rows : List Row) → default_fault rows rule ≡ []
  no_default rows = ap (λ b. cond b [] (given_default_fault rule [])) (or_true (has_row id rows))

  -- it adds no row
  same_rows : (rows : List Row) → with_default rows rule ≡ rows
  same_rows rows = same_both (has_row id rows) rows

  -- before other arguments it adds no fault
  pub more_defaults : (rows : List Row) (rest : List Rule) → defaults_fault rows rest ≡ []
      → defaults_fault rows (rule ∷ rest) ≡ []
  unfolding defaults_fault
  more_defaults rows rest e = rw (no_default rows, same_rows rows) e

  -- before other arguments it adds no row
  pub more_rows : (rows : List Row) (rest : List Rule) → fold with_default rows rest ≡ rows
      → fold with_default rows (rule ∷ rest) ≡ rows
  more_rows rows rest e = ap (λ (r : List Row). fold with_default r rest) (same_rows rows) ∙ e

-- no arguments have no fault of defaults
pub no_defaults : (rows : List Row) → defaults_fault rows [] ≡ []
unfolding defaults_fault
no_defaults rows = refl

-- ---- one file, or one number

-- the arguments are those of a command that isn't bounded
pub one_leaf : (p : ValueParser) → IsLeaf (first_rule p ∷ []) false p false
one_leaf p = record {
  no_short = λ x. refl;
  long = λ name. refl;
  known = λ name bound e. absurd (cc);
  at_1 = refl;
  at_2 = refl;
  at_3 = refl;
  id_first = refl;
  id_second = λ e. absurd (cc);
  several = λ n a e. one (nat_eq 1 n) a e;
  defaults = λ rows. more_defaults (codes "first") None (Some 1) p true rows [] (no_defaults rows);
  finish = λ rows. more_rows (codes "first") None (Some 1) p true rows [] refl;
  wants = λ rows. refl;
}
  where
    one : (b : Bool) (a : Rule) → cond b (Some (first_rule p)) None ≡ Some a → takes_several a ≡ false
    one true a e = let same : first_rule p ≡ a = cc in subst (λ (r : Rule). takes_several r ≡ false) same refl
    one false a e = absurd (cc)

-- a command of one file
abbrev pub file_leaf : Text → Leaf
file_leaf name = record {
  name = name;
  rules = first_rule parsers.String ∷ [];
  two = false;
  parser = parsers.String;
  bounded = false;
  is_leaf = one_leaf parsers.String;
}

-- a command of one number
abbrev pub number_leaf : Text → Leaf
number_leaf name = record {
  name = name;
  rules = first_rule (parsers.Unsigned 0 NUMBER_LIMIT) ∷ [];
  two = false;
  parser = parsers.Unsigned 0 NUMBER_LIMIT;
  bounded = false;
  is_leaf = one_leaf (parsers.Unsigned 0 NUMBER_LIMIT);
}

-- ---- two files and bounds

-- the options by the tests of their names
pub options_are : (b c : Bool)
    → cond (b || false) (Some (bound_rule Depth)) (cond (c || false) (Some (bound_rule Steps)) None)
    ≡ option_map bound_rule (cond b (Some Depth) (cond c (Some Steps) None))
options_are true c = refl
options_are false true = refl
options_are false false = refl

-- the arguments of a run
abbrev run_rules : List Rule
run_rules = first_rule parsers.String ∷ second_rule ∷ bound_rule Depth ∷ bound_rule Steps ∷ []

-- the arguments are those of a bounded command of two files
pub two_leaf : IsLeaf run_rules true parsers.String true
two_leaf = record {
  no_short = λ x. refl;
  long = λ name. options_are (bytes_eq (codes "depth") name) (bytes_eq (codes "steps") name);
  known = λ name bound e. known bound;
  at_1 = refl;
  at_2 = refl;
  at_3 = refl;
  id_first = refl;
  id_second = λ e. refl;
  several = λ n a e. places (nat_eq 1 n) (nat_eq 2 n) a e;
  defaults = λ rows. more_defaults (codes "first") None (Some 1) parsers.String true rows
      (second_rule ∷ bound_rule Depth ∷ bound_rule Steps ∷ [])
      (more_defaults (codes "second") None (Some 2) parsers.String true rows (bound_rule Depth ∷ bound_rule Steps ∷ [])
      (more_defaults (codes "depth") (Some (codes "depth")) None (bound_parser Depth) false rows (bound_rule Steps ∷ [])
      (more_defaults (codes "steps") (Some (codes "steps")) None (bound_parser Steps) false rows []
      (no_defaults rows))));
  finish = λ rows. more_rows (codes "first") None (Some 1) parsers.String true rows
      (second_rule ∷ bound_rule Depth ∷ bound_rule Steps ∷ [])
      (more_rows (codes "second") None (Some 2) parsers.String true rows (bound_rule Depth ∷ bound_rule Steps ∷ [])
      (more_rows (codes "depth") (Some (codes "depth")) None (bound_parser Depth) false rows (bound_rule Steps ∷ [])
      (more_rows (codes "steps") (Some (codes "steps")) None (bound_parser Steps) false rows [] refl)));
  wants = λ rows. wanted (not (is_given (codes "first") rows)) (not (is_given (codes "second") rows));
}
  where
    known : (bound : Bound) → arg_by_id run_rules (name_of bound) ≡ Some (bound_rule bound)
    known Depth = refl
    known Steps = refl

    places : (b c : Bool) (a : Rule)
        → cond b (Some (first_rule parsers.String)) (cond c (Some second_rule) None) ≡ Some a
        → takes_several a ≡ false
    places true c a e =
        let same : first_rule parsers.String ≡ a = cc in subst (λ (r : Rule). takes_several r ≡ false) same refl
    places false true a e = let same : second_rule ≡ a = cc in subst (λ (r : Rule). takes_several r ≡ false) same refl
    places false false a e = absurd (cc)

    wanted : (b c : Bool) → (b || (c || false)) ≡ (b || c)
    wanted true c = refl
    wanted false true = refl
    wanted false false = refl

-- a run
abbrev pub run_leaf : Text → Leaf
run_leaf name = record {
  name = name;
  rules = run_rules;
  two = true;
  parser = parsers.String;
  bounded = true;
  is_leaf = two_leaf;
}
