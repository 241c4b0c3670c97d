-- One more value of an option on the walk.
use Rattle.std.proofs.Common.{◌≡◌, ◌∙◌, ℕ, Bool, true, false, refl, ap, List, [], ◌∷◌, Option, Some, None, codes}
use Rattle.std.proofs.Common.{option_map}
use Rattle.clap.specs.Faults.{settle_fault, turn_fault, use_fault}
use Rattle.clap.specs.Simple.{Shape}
use Rattle.clap.specs.Walk.{Held, Row, Rule, Walk, arg_by_id, idle, option, used, walked}
use Rattle.clap.specs.declared.builder.value_parser.ValueParser.{ValueParser}
use Rattle.command_words.specs.Numbers.{Text, is_number_in}
use Rattle.command_words.specs.Options.{Bound, Depth, Steps, limit_of}
use Rattle.command_words.specs.Reading.{Given, with_value}
use Rattle.command_words.proofs.NumberLemmas.{accepts_bound}
use Rattle.command_words.proofs.RowLemmas.{row, used-absent, use_passes, use_repeats, use_refuses, use_lacks}
use Rattle.command_words.proofs.WordForms.{IsPlain}
use Rattle.command_words.proofs.LeafRules.{bound_parser, bound_rule, name_of}
use Rattle.command_words.proofs.GivenRows.{Holds, holds_depth, holds_steps}
use Rattle.command_words.proofs.LeafWalk.{Ready, place_after, walk_at}

-- the value is taken, by the definition and by `clap`; or it is declined by both
pub data ValueStep (two : Bool) (p : ValueParser) (bound : Bound) (v : Text) (rows : List Row)
    (given : Given) : Type 0 where
  taken : (g : Given) → with_value bound v given ≡ Some g → g.files ≡ given.files
      → use_fault false (bound_rule bound) (v ∷ []) rows ≡ []
      → Holds two p (used (bound_rule bound) (v ∷ []) rows) g → ValueStep two p bound v rows given
  declined : with_value bound v given ≡ None → (use_fault false (bound_rule bound) (v ∷ []) rows ≡ [] → ⊥)
      → ValueStep two p bound v rows given

-- one of these it is
pub value_step : (two : Bool) (p : ValueParser) (bound : Bound) (v : Text) (rows : List Row) (given : Given)
    → Holds two p rows given → ValueStep two p bound v rows given
value_step two p Depth v rows given holds = go given.depth (is_number_in 1 (limit_of Depth) v) refl refl
  where
    name : Text
    name = codes "depth"

    go : (d : Option Text) (b : Bool) → given.depth ≡ d → is_number_in 1 (limit_of Depth) v ≡ b
        → ValueStep two p Depth v rows given
    go (Some t) b e f =
        declined (rw e refl) (use_repeats name (Some name) None (bound_parser Depth) false v rows
        (row name (bound_parser Depth) t) (holds.depth ∙ ap (option_map (row name (bound_parser Depth))) e))
    go None false e f =
        declined (rw (e, f) refl)
        (use_refuses name (Some name) None (bound_parser Depth) false v rows (accepts_bound Depth v ∙ f))
    go None true e f =
        let none = holds.depth ∙ ap (option_map (row name (bound_parser Depth))) e in
        taken (record given { depth = Some v }) (rw (e, f) refl) refl
        (use_passes name (Some name) None (bound_parser Depth) false v rows none (accepts_bound Depth v ∙ f))
        (rw (used-absent name (Some name) None (bound_parser Depth) false v rows none)
        (holds_depth two p rows given v e f holds))
value_step two p Steps v rows given holds = go given.steps (is_number_in 1 (limit_of Steps) v) refl refl
  where
    name : Text
    name = codes "steps"

    go : (d : Option Text) (b : Bool) → given.steps ≡ d → is_number_in 1 (limit_of Steps) v ≡ b
        → ValueStep two p Steps v rows given
    go (Some t) b e f =
        declined (rw e refl) (use_repeats name (Some name) None (bound_parser Steps) false v rows
        (row name (bound_parser Steps) t) (holds.steps ∙ ap (option_map (row name (bound_parser Steps))) e))
    go None false e f =
        declined (rw (e, f) refl)
        (use_refuses name (Some name) None (bound_parser Steps) false v rows (accepts_bound Steps v ∙ f))
    go None true e f =
        let none = holds.steps ∙ ap (option_map (row name (bound_parser Steps))) e in
        taken (record given { steps = Some v }) (rw (e, f) refl) refl
        (use_passes name (Some name) None (bound_parser Steps) false v rows none (accepts_bound Steps v ∙ f))
        (rw (used-absent name (Some name) None (bound_parser Steps) false v rows none)
        (holds_steps two p rows given v e f holds))

-- ---- an option that waits for its value

-- the option is held without a value
abbrev pub without_value : List Row → ℕ → Bound → Held
without_value rows skip bound = record { rows = rows; pending = Some (name_of bound, []); skip = skip }

-- the option is held with its value
abbrev pub with_its_value : List Row → ℕ → Bound → Text → Held
with_its_value rows skip bound word = record { rows = rows; pending = Some (name_of bound, word ∷ []); skip = skip }

-- the walk waits for the value
abbrev pub walk_waiting : List Row → ℕ → Bound → Given → Walk
walk_waiting rows skip bound given =
    walk_at (without_value rows skip bound) (option (name_of bound)) (place_after given.files) false

-- the option is one of the arguments
abbrev pub Known : List Rule → Bound → Type 0
Known R bound = arg_by_id R (name_of bound) ≡ Some (bound_rule bound)

-- without its value an option can't be settled
pub unsettled_without_value : (R : List Rule) (rows : List Row) (skip : ℕ) (bound : Bound) → Known R bound
    → settle_fault R false (without_value rows skip bound) ≡ [] → ⊥
unsettled_without_value R rows skip bound known =
    rw known (use_lacks (name_of bound) (Some (name_of bound)) None (bound_parser bound) false rows)

-- a word that is no flag becomes the value
pub walked_value : (R : List Rule) (rows : List Row) (skip n : ℕ) (bound : Bound) (word : Text) → Known R bound
    → IsPlain word
    → walked R [] (walk_at (without_value rows skip bound) (option (name_of bound)) n false) word
    ≡ walk_at (with_its_value rows skip bound word) idle n false
unfolding walked
walked_value R rows skip n Depth word known is = rw (is.not_end, is.no_long, is.no_short, known) refl
walked_value R rows skip n Steps word known is = rw (is.not_end, is.no_long, is.no_short, known) refl

-- such a word has no fault yet
pub turn_value : (s : Shape) (rows : List Row) (skip n : ℕ) (bound : Bound) (word : Text) → IsPlain word
    → turn_fault s [] (walk_at (without_value rows skip bound) (option (name_of bound)) n false) word ≡ []
turn_value s rows skip n bound word is = rw (is.not_end, is.no_long, is.no_short) refl

-- a value that is taken can be settled
pub ready_value : (R : List Rule) (two : Bool) (p : ValueParser) (rows : List Row) (skip : ℕ) (bound : Bound)
    (word : Text)
    (g : Given) → Known R bound → skip ≡ 0 → use_fault false (bound_rule bound) (word ∷ []) rows ≡ []
    → Holds two p (used (bound_rule bound) (word ∷ []) rows) g → Ready R two p (with_its_value rows skip bound word) g
ready_value R two p rows skip bound word g known fresh passes holds = record {
  settles = rw known passes;
  holds = rw known holds;
  fresh = fresh;
}

-- a value that is declined can't be settled
pub unready_value : (R : List Rule) (rows : List Row) (skip : ℕ) (bound : Bound) (word : Text) → Known R bound
    → (use_fault false (bound_rule bound) (word ∷ []) rows ≡ [] → ⊥)
    → settle_fault R false (with_its_value rows skip bound word) ≡ [] → ⊥
unready_value R rows skip bound word known bad = rw known bad
