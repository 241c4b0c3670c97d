-- The walk over the words after a command agrees with what the definition reads.
use Rattle.std.proofs.Common.{◌≡◌, ◌∙◌, ℕ, Bool, true, false, ◌==◌, cond, refl, sym, ap, ap₂, subst}
use Rattle.std.proofs.Common.{List, [], ◌∷◌, ◌++◌, Option, Some, None, option_map}
use Rattle.std.specs.Prelude.{option_and_then}
use Rattle.std.specs.List.{before_first}
use Rattle.std.proofs.lemmas.List.{append_assoc}
use Rattle.clap.specs.Kinds.{Kinds, or_else}
use Rattle.clap.specs.Faults.{long_fault, other_fault, settle_fault, step_fault, turn_fault, use_fault, walk_fault}
use Rattle.clap.specs.Simple.{Shape}
use Rattle.clap.specs.Walk.{Held, Row, Rule, Step, Walk, after_flag, after_step, arg_by_index, finished, idle, long_met}
use Rattle.clap.specs.Walk.{option, reacted, settled, to_positional, value, walked}
use Rattle.clap.specs.declared.error.ErrorKind.TheVariants as kind
use Rattle.clap.specs.declared.builder.value_parser.ValueParser.{ValueParser}
use Rattle.command_words.specs.Numbers.{Text}
use Rattle.command_words.specs.Options.{Bound, limit_of, begins_with_hyphen, option_named, option_word, value_in}
use Rattle.command_words.specs.Reading.{Given, with_files, with_value, read_word, read_words}
use Rattle.command_words.proofs.NumberLemmas.{accepts_bound, hyphen_no_number}
use Rattle.command_words.proofs.RowLemmas.{or_left, or_right, use_refuses}
use Rattle.command_words.proofs.WordForms.{AreUtf8, WordForm, IsPlain, form_of, is_end, is_long, is_short, is_file}
use Rattle.command_words.proofs.WordForms.{short_refused}
use Rattle.command_words.proofs.LeafRules.{IsLeaf, Leaf, bound_parser, bound_rule, name_of, shape_of_leaf}
use Rattle.command_words.proofs.GivenRows.{Agrees, Holds, exactly, has_files}
use Rattle.command_words.proofs.KeptFiles.{CannotFit, cannot_fit, nil_after}
use Rattle.command_words.proofs.LeafWalk.{Ready, place_after, walk_at, end_kinds, kinds_from, Follows}
use Rattle.command_words.proofs.LeafWalk.{stops, moves, fails, end, unsettled_fails, unsettled_fails_trailing}
use Rattle.command_words.proofs.LeafWalk.{flag_stops}
use Rattle.command_words.proofs.LeafWalk.{short_fails, long_fails}
use Rattle.command_words.proofs.FileSteps.{FileStep, placed, unsettled, surplus, file_step}
use Rattle.command_words.proofs.ValueSteps.{Known, ValueStep, taken, declined, value_step, without_value}
use Rattle.command_words.proofs.ValueSteps.{with_its_value, walk_waiting}
use Rattle.command_words.proofs.ValueSteps.{unsettled_without_value, walked_value, turn_value, ready_value}
use Rattle.command_words.proofs.ValueSteps.{unready_value}

module _ (L : Leaf) where
  abbrev R : List Rule
  R = L.rules

  abbrev two : Bool
  two = L.two

  abbrev p : ValueParser
  p = L.parser

  abbrev s : Shape
  s = shape_of_leaf L

  abbrev leaf : IsLeaf R two p L.bounded
  leaf = L.is_leaf

  -- ---- after `--`

  -- files in another order of joining
  joined : (given : Given) (word : Text) (rest : List Text) → CannotFit two p (given.files ++ word ∷ [])
      → exactly two p (with_files (word ∷ rest) given) ≡ None
  joined given word rest hope =
      ap (λ b. cond b (Some (with_files (word ∷ rest) given)) None)
      (ap (has_files two p) (sym (append_assoc given.files (word ∷ []) rest)) ∙ hope rest)

  -- all words are files
  trails : (words : List Text) (h : Held) (given : Given) → Ready R two p h given
      → Follows L (exactly two p (with_files words given)) (walk_at h idle (place_after given.files) true) words
  unfolding walk_fault walked
  trails [] h given ready =
      subst
      (λ (fs : List Text). Agrees two p (exactly two p (record given { files = fs })) (end_kinds L h) (finished R h))
      (nil_after given.files) (end L h given ready)
  trails (word ∷ rest) h given ready =
      let w = walk_at h idle (place_after given.files) true in
      elim (file_step L h given word ready) [
        | placed after t e r ↦ subst
            (λ (fs : List Text). Follows L (exactly two p (record given { files = fs })) w (word ∷ rest))
            (append_assoc given.files (word ∷ []) rest)
            (moves L (exactly two p (with_files rest (with_files (word ∷ []) given))) w
            (walk_at after idle (place_after (given.files ++ word ∷ [])) true) word rest t (e true)
            (trails rest after (with_files (word ∷ []) given) r))
        | unsettled after n t e bad fresh hope ↦ fails L (exactly two p (with_files (word ∷ rest) given)) w
            (word ∷ rest)
            (joined given word rest hope)
            (moves L None w (walk_at after idle n true) word rest t (e true)
            (unsettled_fails_trailing L rest after idle n bad))
        | surplus bad hope ↦ fails L (exactly two p (with_files (word ∷ rest) given)) w (word ∷ rest)
            (joined given word rest hope) (stops L w word rest bad)
      ]

  -- ---- before `--`

  -- what the definition reads, if it has exactly the files that are wanted
  abbrev pub wanted : Option Bound → List Text → Given → Option Given
  wanted waiting words given = option_and_then (exactly two p) (read_words L.bounded waiting words given)

  -- the walk agrees between two words, and where an option waits for its value
  pub record Claims (words : List Text) : Type 0 where
    pub idles : (h : Held) (given : Given) → Ready R two p h given
        → Follows L (wanted None words given) (walk_at h idle (place_after given.files) false) words
    pub waits : (rows : List Row) (skip : ℕ) (given : Given) (bound : Bound) → Known R bound → Holds two p rows given
        → skip ≡ 0 → Follows L (wanted (Some bound) words given) (walk_waiting rows skip bound given) words

  -- the same at an equal place
  at_place : (m n : ℕ) (h : Held) (o : Option Given) (words : List Text) → m ≡ n
      → Follows L o (walk_at h idle m false) words → Follows L o (walk_at h idle n false) words
  at_place m n h o words e a = subst (λ (k : ℕ). Follows L o (walk_at h idle k false) words) e a

  -- a separate word as the value of an option
  value_word : (word : Text) (rest : List Text) → AreUtf8 (word ∷ rest) → Claims rest → (rows : List Row) (skip : ℕ)
      (given : Given) (bound : Bound) → Known R bound → Holds two p rows given → skip ≡ 0 → IsPlain word
      → Follows L (wanted (Some bound) (word ∷ rest) given) (walk_waiting rows skip bound given) (word ∷ rest)
  unfolding read_words
  value_word word rest u ih rows skip given bound known holds fresh is = test (begins_with_hyphen word) refl
    where
      w : Walk
      w = walk_waiting rows skip bound given

      n : ℕ
      n = place_after given.files

      after : Held
      after = with_its_value rows skip bound word

      fails_later : (use_fault false (bound_rule bound) (word ∷ []) rows ≡ [] → ⊥) → kinds_from L w (word ∷ rest) ≡ []
          → ⊥
      fails_later bad =
          moves L None w (walk_at after idle n false) word rest (turn_value s rows skip n bound word is)
          (walked_value R rows skip n bound word known is)
          (unsettled_fails L rest after n (unready_value R rows skip bound word known bad) fresh u.1)

      reads : Option Given → Option Given
      reads o = option_and_then (exactly two p) (option_and_then (read_words L.bounded None rest) o)

      step : ValueStep two p bound word rows given → Follows L (reads (with_value bound word given)) w (word ∷ rest)
      step (taken g e files passes now) = rw e
          (moves L (wanted None rest g) w (walk_at after idle n false) word rest
          (turn_value s rows skip n bound word is)
          (walked_value R rows skip n bound word known is)
          (at_place (place_after g.files) n after (wanted None rest g) rest (ap place_after files)
          (ih.idles after g (ready_value R two p rows skip bound word g known fresh passes now))))
      step (declined e bad) = rw e (fails_later bad)

      test : (b : Bool) → begins_with_hyphen word ≡ b
          → Follows L (option_and_then (exactly two p)
          (cond b None (option_and_then (read_words L.bounded None rest) (with_value bound word given)))) w
          (word ∷ rest)
      test true e = fails_later
          (use_refuses (name_of bound) (Some (name_of bound)) None (bound_parser bound) false word rows
          (accepts_bound bound word ∙ hyphen_no_number 1 (limit_of bound) word e))
      test false e = step (value_step two p bound word rows given holds)

  -- an option, with its value or without
  option_met_is : (x : ℕ) (xs : Text) (rest : List Text) → Claims rest → (h : Held) (given : Given)
      → Ready R two p h given
      → Follows L (wanted None ((45 ∷ 45 ∷ x ∷ xs) ∷ rest) given) (walk_at h idle (place_after given.files) false)
      ((45 ∷ 45 ∷ x ∷ xs) ∷ rest)
  unfolding read_words walked
  option_met_is x xs rest ih h given ready =
      go (option_named L.bounded id) (value_in (x ∷ xs)) refl
      (ap (λ (a : Option Rule). turns a (value_in (x ∷ xs))) (leaf.long id))
      (ap (λ (a : Option Rule). walks a (value_in (x ∷ xs))) (leaf.long id))
    where
      word : Text
      word = 45 ∷ 45 ∷ x ∷ xs

      id : Text
      id = before_first (λ b. b == 61) (x ∷ xs)

      n : ℕ
      n = place_after given.files

      w : Walk
      w = walk_at h idle n false

      met : Option Rule → Option Text → Held × Step
      met a v = after_flag R idle word (long_met R a v h).0 (long_met R a v h).1

      turns : Option Rule → Option Text → Kinds
      turns a v = or_else (long_fault R false a v h) (step_fault s n (met a v).0 (met a v).1)

      walks : Option Rule → Option Text → Walk
      walks a v = after_step R word w (met a v).0 (met a v).1

      reads : Option Bound → Option Text → Option Given
      reads o v =
          option_and_then (exactly two p)
          (read_word (option_word o v) word rest given (λ waiting. read_words L.bounded waiting rest))

      go : (o : Option Bound) (v : Option Text) → option_named L.bounded id ≡ o
          → turn_fault s [] w word ≡ turns (option_map bound_rule o) v
          → walked R [] w word ≡ walks (option_map bound_rule o) v → Follows L (reads o v) w (word ∷ rest)
      go None v e t k = stops L w word rest (λ f. let bad : kind.UnknownArgument ∷ [] ≡ [] = sym t ∙ f in absurd (cc))
      go (Some bound) None e t k =
          moves L (wanted (Some bound) rest given) w (walk_waiting (settled R h).rows h.skip bound given) word rest
          (t ∙ ap (λ (z : Kinds). or_else z []) ready.settles) k
          (ih.waits (settled R h).rows h.skip given bound (leaf.known id bound e) ready.holds ready.fresh)
      go (Some bound) (Some v) e t k = step (value_step two p bound v (settled R h).rows given ready.holds)
        where
          after : Held
          after = reacted R (bound_rule bound) (v ∷ []) h

          step : ValueStep two p bound v (settled R h).rows given
              → Follows L (reads (Some bound) (Some v)) w (word ∷ rest)
          step (taken g is files passes now) = rw is
              (moves L (wanted None rest g) w (walk_at after idle n false) word rest
              (t ∙ ap₂ (λ (a b : Kinds). or_else (or_else a b) []) ready.settles passes) k
              (at_place (place_after g.files) n after (wanted None rest g) rest (ap place_after files)
              (ih.idles after g (record { settles = refl; holds = now; fresh = ready.fresh }))))
          step (declined is bad) = rw is
              (stops L w word rest (λ f. bad (or_right (settle_fault R false h) _ (or_left _ _ (sym t ∙ f)))))

  -- a file
  file_word : (word : Text) (rest : List Text) → AreUtf8 rest → Claims rest → (h : Held) (given : Given)
      → Ready R two p h given → IsPlain word
      → Follows L (wanted None (word ∷ rest) given) (walk_at h idle (place_after given.files) false) (word ∷ rest)
  unfolding read_words walked
  file_word word rest u ih h given ready is = rw (is.file L.bounded) (go (file_step L h given word ready))
    where
      n : ℕ
      n = place_after given.files

      w : Walk
      w = walk_at h idle n false

      turn_is : turn_fault s [] w word ≡ step_fault s n h value
      turn_is = rw (is.not_end, is.no_long, is.no_short) refl

      walk_is : walked R [] w word ≡ to_positional R (arg_by_index R n) word w h
      walk_is = rw (is.not_end, is.no_long, is.no_short) refl

      more : Given
      more = with_files (word ∷ []) given

      none : CannotFit two p (given.files ++ word ∷ []) → wanted None rest more ≡ None
      none hope = cannot_fit two p L.bounded None rest more hope

      go : FileStep L h given word → Follows L (wanted None rest more) w (word ∷ rest)
      go (placed after t e r) =
          moves L (wanted None rest more) w
          (walk_at after idle (place_after (given.files ++ word ∷ [])) false) word rest
          (turn_is ∙ t) (walk_is ∙ e false) (ih.idles after more r)
      go (unsettled after m t e bad fresh hope) = fails L (wanted None rest more) w (word ∷ rest) (none hope)
          (moves L None w (walk_at after idle m false) word rest (turn_is ∙ t) (walk_is ∙ e false)
          (unsettled_fails L rest after m bad fresh u))
      go (surplus bad hope) = fails L (wanted None rest more) w (word ∷ rest) (none hope)
          (stops L w word rest (λ f. bad (sym turn_is ∙ f)))

  -- any word between two words
  idle_word : (word : Text) (rest : List Text) → AreUtf8 (word ∷ rest) → Claims rest → (h : Held) (given : Given)
      → Ready R two p h given
      → Follows L (wanted None (word ∷ rest) given) (walk_at h idle (place_after given.files) false) (word ∷ rest)
  unfolding read_words walk_fault walked
  idle_word word rest u ih h given ready = go (form_of word)
    where
      w : Walk
      w = walk_at h idle (place_after given.files) false

      go : WordForm word → Follows L (wanted None (word ∷ rest) given) w (word ∷ rest)
      go (is_end is) = subst (λ (x : Text). Follows L (wanted None (x ∷ rest) given) w (x ∷ rest)) (sym is)
          (trails rest h given ready)
      go (is_long x xs is) = subst (λ (z : Text). Follows L (wanted None (z ∷ rest) given) w (z ∷ rest)) (sym is)
          (option_met_is x xs rest ih h given ready)
      go (is_short x xs is e) = fails L (wanted None (word ∷ rest) given) w (word ∷ rest)
          (ap (λ k. option_and_then (exactly two p)
          (read_word k word rest given (λ waiting. read_words L.bounded waiting rest)))
          (short_refused x xs word L.bounded is e))
          (stops L w word rest (flag_stops L h idle (place_after given.files) word
          (short_fails L x xs word h is e u.0 ready.fresh)))
      go (is_file is) = file_word word rest u.1 ih h given ready is

  -- any word where an option waits for its value
  waiting_word : (word : Text) (rest : List Text) → AreUtf8 (word ∷ rest) → Claims rest → (rows : List Row) (skip : ℕ)
      (given : Given) (bound : Bound) → Known R bound → Holds two p rows given → skip ≡ 0
      → Follows L (wanted (Some bound) (word ∷ rest) given) (walk_waiting rows skip bound given) (word ∷ rest)
  unfolding read_words walk_fault walked
  waiting_word word rest u ih rows skip given bound known holds fresh = go (form_of word)
    where
      n : ℕ
      n = place_after given.files

      h : Held
      h = without_value rows skip bound

      w : Walk
      w = walk_waiting rows skip bound given

      hyphened : (t : Text) → word ≡ 45 ∷ t → wanted (Some bound) (word ∷ rest) given ≡ None
      hyphened t is = ap (λ (x : Text). wanted (Some bound) (x ∷ rest) given) is

      refused : (t : Text) → word ≡ 45 ∷ t → (kinds_from L w (word ∷ rest) ≡ [] → ⊥)
          → Follows L (wanted (Some bound) (word ∷ rest) given) w (word ∷ rest)
      refused t is bad = fails L (wanted (Some bound) (word ∷ rest) given) w (word ∷ rest) (hyphened t is) bad

      go : WordForm word → Follows L (wanted (Some bound) (word ∷ rest) given) w (word ∷ rest)
      go (is_end is) = refused (45 ∷ []) is
          (subst (λ (x : Text). kinds_from L w (x ∷ rest) ≡ [] → ⊥) (sym is)
          (unsettled_fails_trailing L rest h (option (name_of bound)) n
          (unsettled_without_value R rows skip bound known)))
      go (is_long x xs is) = refused (45 ∷ x ∷ xs) is
          (stops L w word rest (flag_stops L h (option (name_of bound)) n word
          (subst (λ (z : Text). other_fault s None z h ≡ [] → ⊥) (sym is)
          (long_fails L x xs h (unsettled_without_value R rows skip bound known)))))
      go (is_short x xs is e) = refused (x ∷ xs) is
          (stops L w word rest
          (flag_stops L h (option (name_of bound)) n word (short_fails L x xs word h is e u.0 fresh)))
      go (is_file is) = value_word word rest u ih rows skip given bound known holds fresh is

  -- no words
  no_words : Claims []
  unfolding read_words walk_fault
  no_words = record {
    idles = λ h given ready. end L h given ready;
    waits = λ rows skip given bound known holds fresh. λ e. unsettled_without_value R rows skip bound known
        (or_left _ _ e);
  }

  -- for all words
  pub claims : (words : List Text) → AreUtf8 words → Claims words
  claims [] u = no_words
  claims (word ∷ rest) u =
      let ih = claims rest u.1 in
      record { idles = idle_word word rest u ih; waits = waiting_word word rest u ih }
