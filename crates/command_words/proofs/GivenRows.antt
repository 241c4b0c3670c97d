-- The rows of a parse that have what the words give.
use Rattle.std.proofs.Common.{◌≡◌, ◌∙◌, Bool, true, false, not, ◌&&◌, ◌||◌, cond, refl, ap, subst, List, [], ◌∷◌, ◌++◌}
use Rattle.std.proofs.Common.{Option, Some, None, is_some, codes, option_map}
use Rattle.std.specs.Prelude.{slice_get}
use Rattle.std.specs.List.{find}
use Rattle.std.specs.Option.{option_map_or}
use Rattle.clap.specs.Facts.{explicit_source}
use Rattle.clap.specs.Kinds.{Kinds}
use Rattle.clap.specs.Takes.{is_given}
use Rattle.clap.specs.ValueTests.{accepts}
use Rattle.clap.specs.Walk.{Row}
use Rattle.clap.specs.declared.error.ErrorKind.TheVariants as kind
use Rattle.clap.specs.declared.builder.value_parser.ValueParser.{ValueParser}
use Rattle.clap.specs.declared.builder.value_parser.ValueParser.TheVariants as parsers
use Rattle.command_words.specs.Numbers.{Text, is_number_in}
use Rattle.command_words.specs.Options.{Depth, Steps, limit_of}
use Rattle.command_words.specs.Reading.{Given}
use Rattle.command_words.proofs.RowLemmas.{has, row, find-other, find-new}
use Rattle.command_words.proofs.LeafRules.{bound_parser}

-- no more files than are wanted
abbrev pub has_room : Bool → List Text → Bool
has_room two [] = true
has_room two (a ∷ []) = true
has_room two (a ∷ b ∷ []) = two
has_room two (a ∷ b ∷ c ∷ more) = false

-- the rows have what is given, which the parsers accept
pub record Holds (two : Bool) (p : ValueParser) (rows : List Row) (given : Given) : Type 0 where
  pub first : find (has (codes "first")) rows ≡ option_map (row (codes "first") p) (slice_get given.files 0)
  pub second : find (has (codes "second")) rows
      ≡ option_map (row (codes "second") parsers.String) (slice_get given.files 1)
  pub depth : find (has (codes "depth")) rows ≡ option_map (row (codes "depth") (bound_parser Depth)) given.depth
  pub steps : find (has (codes "steps")) rows ≡ option_map (row (codes "steps") (bound_parser Steps)) given.steps
  pub fits : (first : Text) → slice_get given.files 0 ≡ Some first → accepts false p first ≡ true
  pub room : has_room two given.files ≡ true
  pub depth_fits : (v : Text) → given.depth ≡ Some v → is_number_in 1 (limit_of Depth) v ≡ true
  pub steps_fits : (v : Text) → given.steps ≡ Some v → is_number_in 1 (limit_of Steps) v ≡ true

-- ---- one more of each

-- the first file
pub holds_first : (two : Bool) (p : ValueParser) (rows : List Row) (depth steps : Option Text) (v : Text)
    → accepts false p v ≡ true → Holds two p rows (record { files = []; depth = depth; steps = steps })
    → Holds two p (rows ++ row (codes "first") p v ∷ []) (record { files = v ∷ []; depth = depth; steps = steps })
holds_first two p rows depth steps v fit h = record {
  first = find-new (codes "first") (row (codes "first") p v) rows h.first refl;
  second = find-other (codes "second") (row (codes "first") p v) rows refl ∙ h.second;
  depth = find-other (codes "depth") (row (codes "first") p v) rows refl ∙ h.depth;
  steps = find-other (codes "steps") (row (codes "first") p v) rows refl ∙ h.steps;
  fits = λ f e. let same : v ≡ f = cc in subst (λ (t : Text). accepts false p t ≡ true) same fit;
  room = refl;
  depth_fits = h.depth_fits;
  steps_fits = h.steps_fits;
}

-- the second file
pub holds_second : (two : Bool) (p : ValueParser) (rows : List Row) (depth steps : Option Text) (a v : Text)
    → two ≡ true
    → Holds two p rows (record { files = a ∷ []; depth = depth; steps = steps })
    → Holds two p (rows ++ row (codes "second") parsers.String v ∷ [])
    (record { files = a ∷ v ∷ []; depth = depth; steps = steps })
holds_second two p rows depth steps a v both h = record {
  first = find-other (codes "first") (row (codes "second") parsers.String v) rows refl ∙ h.first;
  second = find-new (codes "second") (row (codes "second") parsers.String v) rows h.second refl;
  depth = find-other (codes "depth") (row (codes "second") parsers.String v) rows refl ∙ h.depth;
  steps = find-other (codes "steps") (row (codes "second") parsers.String v) rows refl ∙ h.steps;
  fits = h.fits;
  room = both;
  depth_fits = h.depth_fits;
  steps_fits = h.steps_fits;
}

-- a depth
pub holds_depth : (two : Bool) (p : ValueParser) (rows : List Row) (given : Given) (v : Text) → given.depth ≡ None
    → is_number_in 1 (limit_of Depth) v ≡ true → Holds two p rows given
    → Holds two p (rows ++ row (codes "depth") (bound_parser Depth) v ∷ []) (record given { depth = Some v })
holds_depth two p rows given v none fit h =
    let r = row (codes "depth") (bound_parser Depth) v in
    record {
      first = find-other (codes "first") r rows refl ∙ h.first;
      second = find-other (codes "second") r rows refl ∙ h.second;
      depth = find-new (codes "depth") r rows
          (h.depth ∙ ap (option_map (row (codes "depth") (bound_parser Depth))) none) refl;
      steps = find-other (codes "steps") r rows refl ∙ h.steps;
      fits = h.fits;
      room = h.room;
      depth_fits = λ t e. let same : v ≡ t = cc in
          subst (λ (x : Text). is_number_in 1 (limit_of Depth) x ≡ true) same fit;
      steps_fits = h.steps_fits;
    }

-- a number of steps
pub holds_steps : (two : Bool) (p : ValueParser) (rows : List Row) (given : Given) (v : Text) → given.steps ≡ None
    → is_number_in 1 (limit_of Steps) v ≡ true → Holds two p rows given
    → Holds two p (rows ++ row (codes "steps") (bound_parser Steps) v ∷ []) (record given { steps = Some v })
holds_steps two p rows given v none fit h =
    let r = row (codes "steps") (bound_parser Steps) v in
    record {
      first = find-other (codes "first") r rows refl ∙ h.first;
      second = find-other (codes "second") r rows refl ∙ h.second;
      depth = find-other (codes "depth") r rows refl ∙ h.depth;
      steps = find-new (codes "steps") r rows
          (h.steps ∙ ap (option_map (row (codes "steps") (bound_parser Steps))) none) refl;
      fits = h.fits;
      room = h.room;
      depth_fits = h.depth_fits;
      steps_fits = λ t e. let same : v ≡ t = cc in
          subst (λ (x : Text). is_number_in 1 (limit_of Steps) x ≡ true) same fit;
    }

-- ---- at the end of the words

-- exactly one file, which the parser accepts
abbrev pub has_one : ValueParser → List Text → Bool
has_one p [] = false
has_one p (first ∷ []) = accepts false p first
has_one p (first ∷ second ∷ rest) = false

-- exactly two files, the first of which the parser accepts
abbrev pub has_two : ValueParser → List Text → Bool
has_two p [] = false
has_two p (first ∷ []) = false
has_two p (first ∷ second ∷ []) = accepts false p first
has_two p (first ∷ second ∷ third ∷ rest) = false

-- exactly the files that are wanted
abbrev pub has_files : Bool → ValueParser → List Text → Bool
has_files two p files = cond two (has_two p files) (has_one p files)

-- what is given, if it has exactly the files that are wanted
abbrev pub exactly : Bool → ValueParser → Given → Option Given
exactly two p given = cond (has_files two p given.files) (Some given) None

-- a parse agrees with what is given: it fails where nothing is, and otherwise its rows have what is given
abbrev pub Agrees : Bool → ValueParser → Option Given → Kinds → List Row → Type 0
Agrees two p None kinds rows = kinds ≡ [] → ⊥
Agrees two p (Some given) kinds rows = (kinds ≡ []) × Holds two p rows given

-- a file is given where its row is there
given_is : (id : Text) (q : ValueParser) (rows : List Row) (o : Option Text)
    → find (has id) rows ≡ option_map (row id q) o → is_given id rows ≡ is_some o
given_is id q rows o e = ap (λ x. option_map_or (λ (r : Row). explicit_source r.source) x false) e ∙ go o
  where
    go : (o : Option Text)
        → option_map_or (λ (r : Row). explicit_source r.source) (option_map (row id q) o) false ≡ is_some o
    go None = refl
    go (Some v) = refl

-- the fault of files that are missing
abbrev pub missing_kinds : Bool → List Row → Kinds
missing_kinds two rows =
    cond (not (is_given (codes "first") rows) || (two && not (is_given (codes "second") rows)))
    (kind.MissingRequiredArgument ∷ []) []

-- at the end of the words a parse fails exactly where files are missing
pub end_agrees : (two : Bool) (p : ValueParser) (rows : List Row) (given : Given) → Holds two p rows given
    → Agrees two p (exactly two p given) (missing_kinds two rows) rows
end_agrees two p rows given holds = go two given.files holds
  where
    go : (t : Bool) (files : List Text) → Holds t p rows (record given { files = files })
        → Agrees t p (exactly t p (record given { files = files })) (missing_kinds t rows) rows
    go true [] h = rw (given_is (codes "first") p rows None h.first) (λ e. absurd (cc))
    go false [] h = rw (given_is (codes "first") p rows None h.first) (λ e. absurd (cc))
    go true (a ∷ []) h =
        rw (
          given_is (codes "first") p rows (Some a) h.first,
          given_is (codes "second") parsers.String rows None h.second,
        ) (λ e. absurd (cc))
    go false (a ∷ []) h = rw (h.fits a refl, given_is (codes "first") p rows (Some a) h.first) (refl, h)
    go true (a ∷ b ∷ []) h =
        rw (
          h.fits a refl,
          given_is (codes "first") p rows (Some a) h.first,
          given_is (codes "second") parsers.String rows (Some b) h.second,
        ) (refl, h)
    go false (a ∷ b ∷ []) h = let bad = h.room in absurd (cc)
    go true (a ∷ b ∷ c ∷ more) h = let bad = h.room in absurd (cc)
    go false (a ∷ b ∷ c ∷ more) h = let bad = h.room in absurd (cc)
