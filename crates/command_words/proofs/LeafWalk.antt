-- The walk over the words after a command: how it goes on, and from where it fails.
use Rattle.std.proofs.Common.{◌≡◌, ◌∙◌, ℕ, zero, suc, Bool, true, false, ◌&&◌, ◌==◌, cond, refl, sym, ap, subst, arith}
use Rattle.std.proofs.Common.{List, [], ◌∷◌, Option, Some, None, length, option_map}
use Rattle.std.specs.Prelude.{option_and_then, slice_get}
use Rattle.std.specs.List.{fold, before_first}
use Rattle.std.specs.Option.{option_map_or}
use Rattle.std.specs.Str.{bytes_eq, chars, IsUtf8}
use Rattle.clap.specs.Lexer.{long_of, long_of_rest, short_of}
use Rattle.clap.specs.Kinds.{Kinds, or_else}
use Rattle.clap.specs.Faults.{bundle_step_fault, check_fault, defaults_fault, flags_fault, long_fault, other_fault}
use Rattle.clap.specs.Faults.{positional_fault, settle_fault, step_fault, turn_fault, walk_fault}
use Rattle.clap.specs.Simple.{Shape}
use Rattle.clap.specs.Walk.{Held, Row, Rule, Waiting, Walk, arg_by_index, finished, idle, is_pending, option}
use Rattle.clap.specs.Walk.{positional}
use Rattle.clap.specs.Walk.{settled, takes_several, value, walked}
use Rattle.clap.specs.declared.error.ErrorKind.TheVariants as kind
use Rattle.clap.specs.declared.builder.value_parser.ValueParser.{ValueParser}
use Rattle.command_words.specs.Numbers.{Text}
use Rattle.command_words.specs.Options.{Bound, option_named, value_in}
use Rattle.command_words.specs.Reading.{Given}
use Rattle.command_words.proofs.NumberLemmas.{and_false}
use Rattle.command_words.proofs.RowLemmas.{or_left}
use Rattle.command_words.proofs.WordForms.{AreUtf8, form_of, is_end, is_long, is_short, is_file, short_head}
use Rattle.command_words.proofs.LeafRules.{IsLeaf, Leaf, bound_rule, shape_of_leaf}
use Rattle.command_words.proofs.GivenRows.{Agrees, Holds, end_agrees, exactly, missing_kinds}

-- what is held between two words, where no option waits for its value: it can be settled, and then the rows have what
-- is given
pub record Ready (R : List Rule) (two : Bool) (p : ValueParser) (h : Held) (given : Given) : Type 0 where
  pub settles : settle_fault R false h ≡ []
  pub holds : Holds two p (settled R h).rows given
  pub fresh : h.skip ≡ 0

-- the place of the next file
abbrev pub place_after : List Text → ℕ
place_after [] = 1
place_after (a ∷ []) = 2
place_after (a ∷ b ∷ more) = 3

-- the walk with what it holds, at a place, before `--` or after it
abbrev pub walk_at : Held → Waiting → ℕ → Bool → Walk
walk_at h waiting n trailing =
    record { held = h; waiting = waiting; position = n; is_trailing = trailing; stopped = None }

module _ (L : Leaf) where
  abbrev R : List Rule
  R = L.rules

  abbrev two : Bool
  two = L.two

  abbrev p : ValueParser
  p = L.parser

  abbrev s : Shape
  s = shape_of_leaf L

  abbrev leaf : IsLeaf R two p L.bounded
  leaf = L.is_leaf

  -- the faults at the end of the words
  abbrev pub end_kinds : Held → Kinds
  end_kinds h =
      or_else (settle_fault R false h)
      (or_else (defaults_fault (settled R h).rows R) (check_fault s (finished R h) false))

  -- the faults from there
  abbrev pub kinds_from : Walk → List Text → Kinds
  kinds_from w words = or_else (walk_fault s [] w words) (end_kinds (fold (walked R []) w words).held)

  -- the rows at the end
  abbrev pub rows_from : Walk → List Text → List Row
  rows_from w words = finished R (fold (walked R []) w words).held

  -- the walk from there agrees with what is given
  abbrev pub Follows : Option Given → Walk → List Text → Type 0
  Follows o w words = Agrees two p o (kinds_from w words) (rows_from w words)

  -- ---- one word

  -- after a word without a fault the faults are those of the rest
  kinds_after : (w : Walk) (word : Text) (rest : List Text) → turn_fault s [] w word ≡ []
      → kinds_from w (word ∷ rest) ≡ kinds_from (walked R [] w word) rest
  unfolding walk_fault
  kinds_after w word rest e =
      ap
      (λ k. or_else (or_else k (walk_fault s [] (walked R [] w word) rest))
      (end_kinds (fold (walked R []) (walked R [] w word) rest).held))
      e

  -- a word with a fault fails the parse
  pub stops : (w : Walk) (word : Text) (rest : List Text) → (turn_fault s [] w word ≡ [] → ⊥)
      → kinds_from w (word ∷ rest) ≡ [] → ⊥
  unfolding walk_fault
  stops w word rest bad e = bad (or_left _ _ (or_left _ _ e))

  -- after a word without a fault the walk agrees where the rest does
  pub moves : (o : Option Given) (w after : Walk) (word : Text) (rest : List Text) → turn_fault s [] w word ≡ []
      → walked R [] w word ≡ after → Follows o after rest → Follows o w (word ∷ rest)
  moves o w after word rest t e a =
      subst (λ (k : Kinds). Agrees two p o k (rows_from w (word ∷ rest))) (sym (kinds_after w word rest t))
      (subst (λ (x : Walk). Follows o x rest) (sym e) a)

  -- a parse that fails agrees with nothing
  pub fails : (o : Option Given) (w : Walk) (words : List Text) → o ≡ None → (kinds_from w words ≡ [] → ⊥)
      → Follows o w words
  fails o w words e bad = subst (λ (x : Option Given). Follows x w words) (sym e) bad

  -- at the end of the words the walk agrees
  pub end : (h : Held) (given : Given) → Ready R two p h given
      → Agrees two p (exactly two p given) (end_kinds h) (finished R h)
  end h given ready =
      let holds =
      subst (λ (rows : List Row). Holds two p rows given) (sym (leaf.finish (settled R h).rows)) ready.holds in
      let is : end_kinds h ≡ missing_kinds two (finished R h) =
      λ i. or_else (ready.settles i) (or_else (leaf.defaults (settled R h).rows i)
      (cond (leaf.wants (finished R h) i) (kind.MissingRequiredArgument ∷ []) [])) in
      subst (λ (k : Kinds). Agrees two p (exactly two p given) k (finished R h)) (sym is)
      (end_agrees two p (finished R h) given holds)

  -- ---- what can't be settled fails

  -- a word that is no flag fails by what it settles alone
  pub positional_is : (a : Rule) (h : Held) → takes_several a ≡ false
      → positional_fault R false a h ≡ settle_fault R false h
  positional_is a h e =
      ap (λ b. cond (is_pending a h.pending && b) [] (settle_fault R false h)) e
      ∙ ap (λ b. cond b [] (settle_fault R false h)) (and_false (is_pending a h.pending))

  -- a file
  unsettled_file_fails : (n : ℕ) (h : Held) → (settle_fault R false h ≡ [] → ⊥) → step_fault s n h value ≡ [] → ⊥
  unsettled_file_fails n h bad = go (arg_by_index R n) refl
    where
      go : (o : Option Rule) → arg_by_index R n ≡ o
          → option_map_or (λ a. positional_fault R false a h) o (kind.UnknownArgument ∷ []) ≡ [] → ⊥
      go None e f = absurd (cc)
      go (Some a) e f = bad (sym (positional_is a h (leaf.several n a e)) ∙ f)

  -- words after `--`
  pub unsettled_fails_trailing : (words : List Text) (h : Held) (waiting : Waiting) (n : ℕ)
      → (settle_fault R false h ≡ [] → ⊥)
      → kinds_from (walk_at h waiting n true) words ≡ [] → ⊥
  unfolding walk_fault
  unsettled_fails_trailing [] h waiting n bad e = bad (or_left _ _ e)
  unsettled_fails_trailing (word ∷ rest) h waiting n bad e = stops (walk_at h waiting n true) word rest
      (unsettled_file_fails n h bad) e

  -- ---- flags

  -- a word before `--` fails where it fails as a flag or a file
  pub flag_stops : (h : Held) (waiting : Waiting) (n : ℕ) (word : Text) → (other_fault s None word h ≡ [] → ⊥)
      → turn_fault s [] (walk_at h waiting n false) word ≡ [] → ⊥
  flag_stops h idle n word bad e = bad (or_left _ _ e)
  flag_stops h (option id) n word bad e = bad (or_left _ _ e)
  flag_stops h positional n word bad e = bad (or_left _ _ e)

  -- a bundle of short flags fails at its first
  flags_fail : (k : ℕ) (flags : Text) (skip : ℕ) (h : Held) (c : ℕ) → slice_get (chars flags) 0 ≡ Some c → skip ≡ 0
      → flags_fault R false (suc k) flags skip h ≡ [] → ⊥
  unfolding flags_fault
  flags_fail k flags skip h c head fresh = go (slice_get (chars flags) 0) skip head fresh
    where
      go : (o : Option ℕ) (n : ℕ) → o ≡ Some c → n ≡ 0
          → bundle_step_fault R false o flags n h (flags_fault R false k) ≡ [] → ⊥
      go None n e f = absurd (cc)
      go (Some y) zero e f = rw (leaf.no_short y) (λ q. absurd (cc))
      go (Some y) (suc n) e f = absurd (omega arith)

  -- a word of one hyphen and more fails
  pub short_fails : (x : ℕ) (xs word : Text) (h : Held) → word ≡ 45 ∷ x ∷ xs → (x == 45) ≡ false → IsUtf8 word
      → h.skip ≡ 0 → other_fault s None word h ≡ [] → ⊥
  short_fails x xs word h is e u fresh =
      let c = short_head x xs (subst IsUtf8 is u) in
      let not_end : bytes_eq word (45 ∷ 45 ∷ []) ≡ false =
      ap (λ (w : Text). bytes_eq w (45 ∷ 45 ∷ [])) is ∙ ap (λ b. b && bytes_eq xs []) e in
      let no_long : long_of word ≡ None =
      ap long_of is ∙ ap (λ b. option_and_then long_of_rest (cond b (Some xs) None)) e in
      let short : short_of word ≡ Some (x ∷ xs) = ap short_of is ∙ ap (λ b. cond b None (Some (x ∷ xs))) e in
      rw (not_end, no_long, short) (flags_fail (length xs) (x ∷ xs) h.skip (record h { skip = 0 }) c.0 c.1 fresh)

  -- a word of two hyphens and more
  pub long_fails : (x : ℕ) (xs : Text) (h : Held) → (settle_fault R false h ≡ [] → ⊥)
      → other_fault s None (45 ∷ 45 ∷ x ∷ xs) h ≡ [] → ⊥
  long_fails x xs h bad =
      rw (leaf.long (before_first (λ b. b == 61) (x ∷ xs)))
      (go (option_named L.bounded (before_first (λ b. b == 61) (x ∷ xs))) (value_in (x ∷ xs)))
    where
      go : (o : Option Bound) (v : Option Text) → long_fault R false (option_map bound_rule o) v h ≡ [] → ⊥
      go None v f = absurd (cc)
      go (Some bound) None f = bad f
      go (Some bound) (Some v) f = bad (or_left _ _ f)

  -- words before `--`
  pub unsettled_fails : (words : List Text) (h : Held) (n : ℕ) → (settle_fault R false h ≡ [] → ⊥) → h.skip ≡ 0
      → AreUtf8 words → kinds_from (walk_at h idle n false) words ≡ [] → ⊥
  unfolding walk_fault walked
  unsettled_fails [] h n bad fresh u = λ e. bad (or_left _ _ e)
  unsettled_fails (word ∷ rest) h n bad fresh u = elim (form_of word) [
    | is_end is ↦ subst (λ (w : Text). kinds_from (walk_at h idle n false) (w ∷ rest) ≡ [] → ⊥) (sym is)
        (λ e. unsettled_fails_trailing rest h idle n bad e)
    | is_long x xs is ↦ stops (walk_at h idle n false) word rest (flag_stops h idle n word
        (subst (λ (w : Text). other_fault s None w h ≡ [] → ⊥) (sym is) (long_fails x xs h bad)))
    | is_short x xs is e ↦ stops (walk_at h idle n false) word rest (flag_stops h idle n word
        (short_fails x xs word h is e u.0 fresh))
    | is_file is ↦ stops (walk_at h idle n false) word rest
        (rw (is.not_end, is.no_long, is.no_short) (unsettled_file_fails n h bad))
  ]
