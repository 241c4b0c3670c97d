-- The rows of a parse by their ids, and one use of an argument with one value.
use Rattle.std.proofs.Common.{◌≡◌, ◌∙◌, ℕ, Bool, true, false, ◌||◌, cond, refl, ap, List, [], ◌∷◌, ◌++◌}
use Rattle.std.proofs.Common.{Option, Some, None, is_some}
use Rattle.std.proofs.lemmas.List.{append-nil}
use Rattle.std.specs.List.{find}
use Rattle.std.specs.Str.{bytes_eq}
use Rattle.clap.specs.Kinds.{Kinds, or_else, values_kinds}
use Rattle.clap.specs.ValueTests.{accepts}
use Rattle.clap.specs.Values.{reading_of}
use Rattle.clap.specs.Faults.{use_fault, repeat_fault}
use Rattle.clap.specs.Walk.{Row, Rule, Text, at_row, has_row, more_values, used, with_values}
use Rattle.clap.specs.declared.builder.ArgAction.TheVariants.{Set}
use Rattle.clap.specs.declared.builder.value_parser.ValueParser.{ValueParser}
use Rattle.clap.specs.declared.parser.matches.ValueSource.TheVariants.{CommandLine}

-- ---- lists of kinds

-- where neither of two faults is there, the first isn't
pub or_left : (a b : Kinds) → or_else a b ≡ [] → a ≡ []
or_left [] b e = refl
or_left (k ∷ ks) b e = absurd (cc)

-- where neither of two faults is there, the second isn't
pub or_right : (a b : Kinds) → or_else a b ≡ [] → b ≡ []
or_right [] b e = e
or_right (k ∷ ks) b e = absurd (cc)

-- ---- rows

-- the row has that id
abbrev pub has : Text → Row → Bool
has id r = bytes_eq r.id id

-- a change at an id that no row has puts the missing row last
pub at_row-absent : (id : Text) (change : Row → List Row) (missing rows : List Row) → find (has id) rows ≡ None
    → at_row id change missing rows ≡ rows ++ missing
at_row-absent id change missing [] e = refl
at_row-absent id change missing (r ∷ rs) e = go (has id r) e (at_row-absent id change missing rs)
  where
    go : (b : Bool) → cond b (Some r) (find (has id) rs) ≡ None
        → (find (has id) rs ≡ None → at_row id change missing rs ≡ rs ++ missing)
        → cond b (change r ++ rs) (r ∷ at_row id change missing rs) ≡ r ∷ (rs ++ missing)
    go true e f = absurd (cc)
    go false e f = ap (λ xs. r ∷ xs) (f e)

-- an id has a row where one is found
pub has_row-find : (id : Text) (rows : List Row) → has_row id rows ≡ is_some (find (has id) rows)
has_row-find id [] = refl
has_row-find id (r ∷ rs) = go (has id r) (has_row-find id rs)
  where
    go : (b : Bool) → has_row id rs ≡ is_some (find (has id) rs)
        → (b || has_row id rs) ≡ is_some (cond b (Some r) (find (has id) rs))
    go true e = refl
    go false e = e

-- one more row changes nothing of what is found of another id
pub find-other : (id : Text) (r : Row) (rows : List Row) → has id r ≡ false
    → find (has id) (rows ++ r ∷ []) ≡ find (has id) rows
find-other id r [] e = ap (λ b. cond b (Some r) None) e
find-other id r (x ∷ xs) e = ap (λ o. cond (has id x) (Some x) o) (find-other id r xs e)

-- one more row of an id that had none is found
pub find-new : (id : Text) (r : Row) (rows : List Row) → find (has id) rows ≡ None → has id r ≡ true
    → find (has id) (rows ++ r ∷ []) ≡ Some r
find-new id r [] none e = ap (λ b. cond b (Some r) None) e
find-new id r (x ∷ xs) none e = go (has id x) none (λ n. find-new id r xs n e)
  where
    go : (b : Bool) → cond b (Some x) (find (has id) xs) ≡ None
        → (find (has id) xs ≡ None → find (has id) (xs ++ r ∷ []) ≡ Some r)
        → cond b (Some x) (find (has id) (xs ++ r ∷ [])) ≡ Some r
    go true n f = absurd (cc)
    go false n f = f n

-- ---- an argument with one value

-- an argument as the walk reads it: an option by its long name, or any other by its place
abbrev pub one_rule : Text → Option Text → Option ℕ → ValueParser → Bool → Rule
one_rule id long index parser required = record {
  id = id;
  long = long;
  aliases = [];
  short = None;
  short_aliases = [];
  index = index;
  action = Some Set;
  range = Some (record { start_inclusive = 1; end_inclusive = 1 });
  value_names = 0;
  defaults = [];
  missing = [];
  trailing_var_arg = false;
  parser = Some parser;
  ignore_case = false;
  required = required;
  is_simple = true;
  is_free = true;
}

-- the row of its value
abbrev pub row : Text → ValueParser → Text → Row
row id parser value = record {
  id = id;
  values = value ∷ [];
  count = None;
  source = Some CommandLine;
  reading = reading_of parser;
}

module _ (id : Text) (long : Option Text) (index : Option ℕ) (parser : ValueParser) (required : Bool) where
  abbrev rule : Rule
  rule = one_rule id long index parser required

  -- its first use adds its row
  pub used-absent : (value : Text) (rows : List Row) → find (has id) rows ≡ None
      → used rule (value ∷ []) rows ≡ rows ++ row id parser value ∷ []
  used-absent value rows none =
      ap (with_values id (reading_of parser) CommandLine (value ∷ []))
      (at_row-absent id (λ r. []) [] rows none ∙ append-nil rows)
      ∙ at_row-absent id (more_values CommandLine (value ∷ [])) (row id parser value ∷ []) rows none

  -- its first use passes with a value that the parser accepts
  pub use_passes : (value : Text) (rows : List Row) → find (has id) rows ≡ None → accepts false parser value ≡ true
      → use_fault false rule (value ∷ []) rows ≡ []
  use_passes value rows none accepted = rw (has_row-find id rows, none, accepted) refl

  -- a second use fails
  pub use_repeats : (value : Text) (rows : List Row) (r : Row) → find (has id) rows ≡ Some r
      → use_fault false rule (value ∷ []) rows ≡ [] → ⊥
  use_repeats value rows r some e =
      let is : has_row id rows ≡ true = has_row-find id rows ∙ ap is_some some in
      let bad = rw is at (or_left (repeat_fault false id rows) _ e) in
      absurd (cc)

  -- a use with a value that the parser refuses fails
  pub use_refuses : (value : Text) (rows : List Row) → accepts false parser value ≡ false
      → use_fault false rule (value ∷ []) rows ≡ [] → ⊥
  use_refuses value rows refused e =
      let bad = rw refused at (or_right (repeat_fault false id rows) (values_kinds false parser (value ∷ [])) e) in
      absurd (cc)

  -- a use without a value fails
  pub use_lacks : (rows : List Row) → use_fault false rule [] rows ≡ [] → ⊥
  use_lacks rows e = absurd (cc)
