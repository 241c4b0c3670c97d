-- The commands of one file and bounds, as `clap` builds them.
use Rattle.std.proofs.Common.{◌≡◌, Bool, true, false, cond, refl, subst, List, [], ◌∷◌, Some, None, codes}
use Rattle.std.specs.Prelude.{nat_eq}
use Rattle.std.specs.Str.{bytes_eq}
use Rattle.clap.specs.Walk.{Rule, arg_by_id, takes_several}
use Rattle.clap.specs.declared.builder.value_parser.ValueParser.TheVariants as parsers
use Rattle.command_words.specs.Numbers.{Text}
use Rattle.command_words.specs.Options.{Bound, Depth, Steps}
use Rattle.command_words.proofs.LeafRules.{IsLeaf, Leaf, bound_parser, bound_rule, first_rule, name_of}
use Rattle.command_words.proofs.Leaves.{more_defaults, more_rows, no_defaults, options_are}

-- the arguments of such a command
abbrev text_rules : List Rule
text_rules = first_rule parsers.String ∷ bound_rule Depth ∷ bound_rule Steps ∷ []

-- the arguments are those of a bounded command of one file
pub bounded_leaf : IsLeaf text_rules false parsers.String true
bounded_leaf = record {
  no_short = λ x. refl;
  long = λ name. options_are (bytes_eq (codes "depth") name) (bytes_eq (codes "steps") name);
  known = λ name bound e. known bound;
  at_1 = refl;
  at_2 = refl;
  at_3 = refl;
  id_first = refl;
  id_second = λ e. absurd (cc);
  several = λ n a e. one (nat_eq 1 n) a e;
  defaults = λ rows. more_defaults (codes "first") None (Some 1) parsers.String true rows
      (bound_rule Depth ∷ bound_rule Steps ∷ [])
      (more_defaults (codes "depth") (Some (codes "depth")) None (bound_parser Depth) false rows (bound_rule Steps ∷ [])
      (more_defaults (codes "steps") (Some (codes "steps")) None (bound_parser Steps) false rows []
      (no_defaults rows)));
  finish = λ rows. more_rows (codes "first") None (Some 1) parsers.String true rows
      (bound_rule Depth ∷ bound_rule Steps ∷ [])
      (more_rows (codes "depth") (Some (codes "depth")) None (bound_parser Depth) false rows (bound_rule Steps ∷ [])
      (more_rows (codes "steps") (Some (codes "steps")) None (bound_parser Steps) false rows [] refl));
  wants = λ rows. refl;
}
  where
    known : (bound : Bound) → arg_by_id text_rules (name_of bound) ≡ Some (bound_rule bound)
    known Depth = refl
    known Steps = refl

    one : (b : Bool) (a : Rule) → cond b (Some (first_rule parsers.String)) None ≡ Some a → takes_several a ≡ false
    one true a e =
        let same : first_rule parsers.String ≡ a = cc in subst (λ (r : Rule). takes_several r ≡ false) same refl
    one false a e = absurd (cc)

-- a command that writes one text of a chart
abbrev pub text_leaf : Text → Leaf
text_leaf name = record {
  name = name;
  rules = text_rules;
  two = false;
  parser = parsers.String;
  bounded = true;
  is_leaf = bounded_leaf;
}
