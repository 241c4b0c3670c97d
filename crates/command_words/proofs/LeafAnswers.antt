-- What the parse of a command answers.
use Rattle.std.proofs.Common.{◌≡◌, ◌∙◌, ℕ, Bool, true, false, ◌&&◌, ◌^◌, ◌<◌, ◌≤◌, cond, refl, ap, ap₂, subst, arith}
use Rattle.std.proofs.Common.{List, [], ◌∷◌, Option, Some, None, codes, option_map}
use Rattle.std.specs.Prelude.{nat_le, option_and_then, slice_get, unwrap_or}
use Rattle.std.specs.List.{find}
use Rattle.clap.specs.Kinds.{Kinds}
use Rattle.clap.specs.Faults.{level_fault}
use Rattle.clap.specs.Simple.{rows_at}
use Rattle.clap.specs.Walk.{Row, first_of, nothing_held, row_text}
use Rattle.clap.specs.declared.builder.value_parser.ValueParser.{ValueParser}
use Rattle.clap.specs.declared.builder.value_parser.ValueParser.TheVariants as parsers
use Rattle.command_words.specs.declared.words.TheConstants.{NUMBER_LIMIT, NET_STEP_LIMIT}
use Rattle.command_words.specs.Numbers.{Text, is_number_in, number_of}
use Rattle.command_words.specs.Commands.{RunBounds, usual_bounds, Command, Net}
use Rattle.command_words.specs.Options.{Bound, Depth, Steps, limit_of}
use Rattle.command_words.specs.Reading.{Given, nothing, read_words}
use Rattle.command_words.specs.Words.{bounds_of, net_bounds_of, with_one, with_two, with_number}
use Rattle.command_words.specs.Asked.{number_in, number_at, bounds_with, bounds_found, file_found, run_found}
use Rattle.command_words.specs.Asked.{net_bounds_with, net_bounds_found, net_found, number_found}
use Rattle.command_words.proofs.NumberLemmas.{accepts_number, in_range, small_number}
use Rattle.command_words.proofs.RowLemmas.{has, row}
use Rattle.command_words.proofs.WordForms.{AreUtf8}
use Rattle.command_words.proofs.LeafRules.{Leaf, shape_of_leaf}
use Rattle.command_words.proofs.GivenRows.{Agrees, Holds, exactly}
use Rattle.command_words.proofs.LeafClaims.{claims}

-- ---- the level of a command

-- before the first word no rows hold what is given
nothing_read : (two : Bool) (p : ValueParser) → Holds two p [] nothing
nothing_read two p = record {
  first = refl;
  second = refl;
  depth = refl;
  steps = refl;
  fits = λ f e. absurd (cc);
  room = refl;
  depth_fits = λ v e. absurd (cc);
  steps_fits = λ v e. absurd (cc);
}

-- the level of the parse below the command agrees with the definition
pub level_agrees : (L : Leaf) (words : List Text) → AreUtf8 words
    → Agrees L.two L.parser (option_and_then (exactly L.two L.parser) (read_words L.bounded None words nothing))
    (level_fault (shape_of_leaf L) [] nothing_held words false []) (rows_at (shape_of_leaf L) words).1
level_agrees L words u =
    (claims L words u).idles nothing_held nothing
    (record { settles = refl; holds = nothing_read L.two L.parser; fresh = refl })

-- ---- what the rows stand for

-- the text of an argument
pub first_is : (id : Text) (q : ValueParser) (rows : List Row) (o : Option Text)
    → find (has id) rows ≡ option_map (row id q) o → first_of id rows ≡ o
first_is id q rows o e = ap (option_and_then (λ (r : Row). slice_get r.values 0)) e ∙ go o
  where
    go : (o : Option Text) → option_and_then (λ (r : Row). slice_get r.values 0) (option_map (row id q) o) ≡ o
    go None = refl
    go (Some v) = refl

-- the number of an argument
number_is : (id : Text) (least most : ℕ) (rows : List Row) (o : Option Text)
    → find (has id) rows ≡ option_map (row id (parsers.Unsigned least most)) o
    → ((v : Text) → o ≡ Some v → is_number_in 0 NUMBER_LIMIT v ≡ true) → number_at id rows ≡ option_map number_of o
number_is id least most rows o e small =
    ap (λ (x : Option Row). option_and_then number_in (option_and_then row_text x)) e ∙ go o small
  where
    go : (o : Option Text) → ((v : Text) → o ≡ Some v → is_number_in 0 NUMBER_LIMIT v ≡ true)
        → option_and_then number_in (option_and_then row_text (option_map (row id (parsers.Unsigned least most)) o))
        ≡ option_map number_of o
    go None small = refl
    go (Some v) small = ap (λ b. cond b (Some (number_of v)) None) (small v refl)

-- a bound is in its range where the default one is
bound_in : (bound : Bound) (usual : ℕ) (o : Option Text) → (nat_le 1 usual && nat_le usual (limit_of bound)) ≡ true
    → ((v : Text) → o ≡ Some v → is_number_in 1 (limit_of bound) v ≡ true)
    → (nat_le 1 (unwrap_or (option_map number_of o) usual)
    && nat_le (unwrap_or (option_map number_of o) usual) (limit_of bound)) ≡ true
bound_in bound usual None e fits = e
bound_in bound usual (Some v) e fits =
    let ends = in_range 1 (limit_of bound) v (fits v refl) in
    ap₂ (λ (a b : Bool). a && b) ends.0 ends.1

-- the numbers of the options
pub numbers_are : (two : Bool) (p : ValueParser) (rows : List Row) (given : Given) → Holds two p rows given
    → (number_at (codes "depth") rows ≡ option_map number_of given.depth)
    × (number_at (codes "steps") rows ≡ option_map number_of given.steps)
numbers_are two p rows given h =
    let low : 32 ≤ NUMBER_LIMIT = omega arith in
    let high : 50000 ≤ NUMBER_LIMIT = omega arith in (
      number_is (codes "depth") 1 (limit_of Depth) rows given.depth h.depth
          (λ v e. small_number 32 v low (h.depth_fits v e)),
      number_is (codes "steps") 1 (limit_of Steps) rows given.steps h.steps
          (λ v e. small_number 50000 v high (h.steps_fits v e)),
    )

-- the bounds of a run
pub bounds_are : (two : Bool) (p : ValueParser) (rows : List Row) (given : Given) → Holds two p rows given
    → bounds_found rows ≡ Some (bounds_of given)
bounds_are two p rows given h =
    let numbers = numbers_are two p rows given h in
    ap₂ (λ (d s : Option ℕ). bounds_with (unwrap_or d usual_bounds.depth) (unwrap_or s usual_bounds.steps)) numbers.0
    numbers.1
    ∙ ap₂ (λ (a b : Bool). cond (a && b) (Some (bounds_of given)) None)
    (bound_in Depth usual_bounds.depth given.depth refl h.depth_fits)
    (bound_in Steps usual_bounds.steps given.steps refl h.steps_fits)

-- the bounds of a net, where its steps aren't too many
net_bounds_are : (two : Bool) (p : ValueParser) (rows : List Row) (given : Given) → Holds two p rows given
    → net_bounds_found rows ≡ cond (nat_le (net_bounds_of given).steps NET_STEP_LIMIT) (Some (net_bounds_of given)) None
net_bounds_are two p rows given h =
    let numbers = numbers_are two p rows given h in
    ap₂ (λ (d s : Option ℕ). net_bounds_with (unwrap_or d usual_bounds.depth) (unwrap_or s NET_STEP_LIMIT)) numbers.0
    numbers.1
    ∙ ap₂ (λ (a b : Bool). cond (nat_le (net_bounds_of given).steps NET_STEP_LIMIT)
    (cond (a && b) (Some (net_bounds_of given)) None) None)
    (bound_in Depth usual_bounds.depth given.depth refl h.depth_fits)
    (bound_in Steps NET_STEP_LIMIT given.steps refl h.steps_fits)

-- ---- what each command answers

-- the parse answers the command where there is one; where there is none it fails, or nothing is found
abbrev pub Answers : {C : Type 0} → Option C → Kinds → Option C → Type 0
Answers None kinds found = kinds ≡ [] → found ≡ None
Answers (Some command) kinds found = (kinds ≡ []) × (found ≡ Some command)

-- a command of one file
pub file_answers : (command : Text → Command) (o : Option Given) (kinds : Kinds) (rows : List Row)
    → Agrees false parsers.String (option_and_then (exactly false parsers.String) o) kinds rows
    → Answers (option_and_then (λ given. with_one command given.files) o) kinds (file_found command rows)
file_answers command None kinds rows a = λ e. absurd (a e)
file_answers command (Some given) kinds rows a = go given.files a
  where
    go : (files : List Text)
        → Agrees false parsers.String (exactly false parsers.String (record given { files = files })) kinds rows
        → Answers (with_one command files) kinds (file_found command rows)
    go [] a = λ e. absurd (a e)
    go (f ∷ []) a = (a.0, ap (option_map command) (first_is (codes "first") parsers.String rows (Some f) a.1.first))
    go (f ∷ g ∷ more) a = λ e. absurd (a e)

-- a run
pub run_answers : (command : Text → Text → RunBounds → Command) (o : Option Given) (kinds : Kinds) (rows : List Row)
    → Agrees true parsers.String (option_and_then (exactly true parsers.String) o) kinds rows
    → Answers
    (option_and_then (λ given. with_two (λ first second. command first second (bounds_of given)) given.files) o)
    kinds (run_found command rows)
run_answers command None kinds rows a = λ e. absurd (a e)
run_answers command (Some given) kinds rows a = go given.files a
  where
    found : Option Text → Option Text → Option RunBounds → Option Command
    found first second bounds =
        option_and_then (λ (files : Text × Text). option_map (command files.0 files.1) bounds)
        (option_and_then (λ x. option_map (λ y. (x, y)) second) first)

    go : (files : List Text)
        → Agrees true parsers.String (exactly true parsers.String (record given { files = files })) kinds rows
        → Answers (with_two (λ first second. command first second (bounds_of given)) files) kinds
        (run_found command rows)
    go [] a = λ e. absurd (a e)
    go (f ∷ []) a = λ e. absurd (a e)
    go (f ∷ g ∷ []) a = (
      a.0,
      λ i. found (first_is (codes "first") parsers.String rows (Some f) a.1.first i)
          (first_is (codes "second") parsers.String rows (Some g) a.1.second i)
          (bounds_are true parsers.String rows (record given { files = f ∷ g ∷ [] }) a.1 i),
    )
    go (f ∷ g ∷ h ∷ more) a = λ e. absurd (a e)

-- a net
pub net_answers : (o : Option Given) (kinds : Kinds) (rows : List Row)
    → Agrees true parsers.String (option_and_then (exactly true parsers.String) o) kinds rows
    → Answers
    (option_and_then (λ given. cond (nat_le (net_bounds_of given).steps NET_STEP_LIMIT)
    (with_two (λ first second. Net first second (net_bounds_of given)) given.files) None) o)
    kinds (net_found rows)
net_answers None kinds rows a = λ e. absurd (a e)
net_answers (Some given) kinds rows a =
    go given.files (nat_le (net_bounds_of given).steps NET_STEP_LIMIT) refl a
  where
    found : Option Text → Option Text → Option RunBounds → Option Command
    found first second bounds =
        option_and_then (λ (files : Text × Text). option_map (Net files.0 files.1) bounds)
        (option_and_then (λ x. option_map (λ y. (x, y)) second) first)

    -- what is found of two files
    found_is : (f g : Text) (b : Bool) → nat_le (net_bounds_of given).steps NET_STEP_LIMIT ≡ b
        → Holds true parsers.String rows (record given { files = f ∷ g ∷ [] })
        → net_found rows ≡ option_map (Net f g) (cond b (Some (net_bounds_of given)) None)
    found_is f g b e h =
        (λ i. found (first_is (codes "first") parsers.String rows (Some f) h.first i)
        (first_is (codes "second") parsers.String rows (Some g) h.second i)
        (net_bounds_are true parsers.String rows (record given { files = f ∷ g ∷ [] }) h i))
        ∙ ap (λ t. option_map (Net f g) (cond t (Some (net_bounds_of given)) None)) e

    go : (files : List Text) (b : Bool) → nat_le (net_bounds_of given).steps NET_STEP_LIMIT ≡ b
        → Agrees true parsers.String (exactly true parsers.String (record given { files = files })) kinds rows
        → Answers (cond b (with_two (λ first second. Net first second (net_bounds_of given)) files) None) kinds
        (net_found rows)
    go [] true e a = λ z. absurd (a z)
    go [] false e a = λ z. absurd (a z)
    go (f ∷ []) true e a = λ z. absurd (a z)
    go (f ∷ []) false e a = λ z. absurd (a z)
    go (f ∷ g ∷ []) true e a = (a.0, found_is f g true e a.1)
    go (f ∷ g ∷ []) false e a = λ z. found_is f g false e a.1
    go (f ∷ g ∷ h ∷ more) true e a = λ z. absurd (a z)
    go (f ∷ g ∷ h ∷ more) false e a = λ z. absurd (a z)

-- a command of one number
pub number_answers : (command : ℕ → Command) (o : Option Given) (kinds : Kinds) (rows : List Row)
    → Agrees false (parsers.Unsigned 0 NUMBER_LIMIT)
    (option_and_then (exactly false (parsers.Unsigned 0 NUMBER_LIMIT)) o) kinds rows
    → Answers (option_and_then (λ given. with_number command given.files) o) kinds (number_found command rows)
number_answers command None kinds rows a = λ e. absurd (a e)
number_answers command (Some given) kinds rows a = go given.files a
  where
    small : NUMBER_LIMIT < 2 ^ 64
    small = omega arith

    test : (f : Text) (b : Bool) → is_number_in 0 NUMBER_LIMIT f ≡ b
        → Agrees false (parsers.Unsigned 0 NUMBER_LIMIT)
        (cond b (Some (record given { files = f ∷ [] })) None) kinds rows
        → Answers (cond b (Some (command (number_of f))) None) kinds (number_found command rows)
    test f true e a = (
      a.0,
      ap (option_map command) (number_is (codes "first") 0 NUMBER_LIMIT rows (Some f) a.1.first
          (λ v same. let is : f ≡ v = cc in subst (λ (x : Text). is_number_in 0 NUMBER_LIMIT x ≡ true) is e)),
    )
    test f false e a = λ z. absurd (a z)

    go : (files : List Text)
        → Agrees false (parsers.Unsigned 0 NUMBER_LIMIT)
        (exactly false (parsers.Unsigned 0 NUMBER_LIMIT) (record given { files = files }))
        kinds rows
        → Answers (with_number command files) kinds (number_found command rows)
    go [] a = λ e. absurd (a e)
    go (f ∷ []) a = test f (is_number_in 0 NUMBER_LIMIT f) refl
        (subst
        (λ (b : Bool). Agrees false (parsers.Unsigned 0 NUMBER_LIMIT)
        (cond b (Some (record given { files = f ∷ [] })) None) kinds rows)
        (accepts_number 0 NUMBER_LIMIT f small) a)
    go (f ∷ g ∷ more) a = λ e. absurd (a e)
