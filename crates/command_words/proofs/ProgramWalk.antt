-- The walk of a program over its first word, which names one of its commands.
use Rattle.std.proofs.Common.{◌≡◌, ◌∙◌, ℕ, zero, suc, true, false, ◌&&◌, ◌==◌, cond, refl, sym, ap, subst, arith}
use Rattle.std.proofs.Common.{List, [], ◌∷◌, ◌++◌, Option, Some, None, is_some, codes, length, option_map}
use Rattle.std.specs.Prelude.{option_and_then, slice_get}
use Rattle.std.specs.List.{find, fold}
use Rattle.std.specs.Option.{option_map_or}
use Rattle.std.specs.Str.{bytes_eq, chars, IsUtf8}
use Rattle.clap.proofs.WalkLemmas.{walk_stopped}
use Rattle.clap.specs.Lexer.{long_of, long_of_rest, short_of}
use Rattle.clap.specs.Kinds.{Kinds, or_else}
use Rattle.clap.specs.Faults.{built_fault, bundle_step_fault, check_fault, defaults_fault, entered_fault, flags_fault}
use Rattle.clap.specs.Faults.{level_fault, other_fault, settle_fault, turn_fault, walk_fault}
use Rattle.clap.specs.Simple.{App, Shape, entered, label_of, names_of, rows_at}
use Rattle.clap.specs.Walk.{Held, Walk, answers_to, finished, idle, nothing_held, settled, stop_after, subcommand_met}
use Rattle.clap.specs.Walk.{Row, walk_from, walked}
use Rattle.command_words.specs.Numbers.{Text}
use Rattle.command_words.proofs.NumberLemmas.{and_false}
use Rattle.command_words.proofs.RowLemmas.{or_left}
use Rattle.command_words.proofs.WordForms.{AreUtf8, WordForm, is_end, is_long, is_short, is_file, form_of, short_head}

-- the program as it is built, but for its commands
abbrev pub built_top : Text → Shape
built_top name = record {
  name = name;
  aliases = [];
  rules = [];
  is_plain = true;
  is_leaf = false;
  no_binary_name = true;
  disable_help_flag = true;
  disable_help_subcommand = true;
  disable_version_flag = false;
  propagate_version = false;
  has_version = false;
  has_long_version = false;
  args_override_self = false;
  arg_required_else_help = false;
  subcommand_required = true;
  subcommand_negates_reqs = false;
  is_built = true;
}

module _ (program : Text) (subs : List Shape) where
  -- the program of that name and of these commands, as it is built
  abbrev pub P : App
  P = record { top = built_top program; subs = subs }

  -- the names of the commands
  abbrev pub names : List (Text × List Text)
  names = names_of P

  -- the faults of a parse
  abbrev pub faults_of : List Text → Kinds
  faults_of words = built_fault P nothing_held words

  -- the command that a parse enters, with its rows
  abbrev pub entry_of : List Text → Option (Text × List Row)
  entry_of words = entered P (stop_after [] names words)

  -- ---- the name of a command

  -- the walk stopped at the name, with the words after it
  abbrev walk_stopped_at : Text → List Text → Walk
  walk_stopped_at n seen = record (walk_from nothing_held) { stopped = Some (n, seen) }

  -- from there it has no fault
  stopped_fault : (n : Text) (words seen : List Text) → walk_fault P.top names (walk_stopped_at n seen) words ≡ []
  unfolding walk_fault walked
  stopped_fault n [] seen = refl
  stopped_fault n (word ∷ rest) seen = stopped_fault n rest (seen ++ word ∷ [])

  -- the walk stops at the name
  met_walk : (n : Text) → subcommand_met names idle n ≡ Some n
      → walked [] names (walk_from nothing_held) n ≡ walk_stopped_at n []
  unfolding walked
  met_walk n e = rw e refl

  -- the name has no fault
  met_turn : (n : Text) → subcommand_met names idle n ≡ Some n → turn_fault P.top names (walk_from nothing_held) n ≡ []
  met_turn n e = rw (e, and_false (bytes_eq n (codes "help"))) refl

  -- the walk over all words
  walk_is : (n : Text) (rest : List Text) → subcommand_met names idle n ≡ Some n
      → fold (walked [] names) (walk_from nothing_held) (n ∷ rest) ≡ walk_stopped_at n rest
  walk_is n rest e =
      ap (λ (w : Walk). fold (walked [] names) w rest) (met_walk n e)
      ∙ sym (walk_stopped [] names (walk_from nothing_held) n [] rest)

  -- it has no fault
  fault_is : (n : Text) (rest : List Text) → subcommand_met names idle n ≡ Some n
      → walk_fault P.top names (walk_from nothing_held) (n ∷ rest) ≡ []
  unfolding walk_fault
  fault_is n rest e =
      ap (λ (k : Kinds). or_else k (walk_fault P.top names (walked [] names (walk_from nothing_held) n) rest))
      (met_turn n e)
      ∙ ap (λ (w : Walk). walk_fault P.top names w rest) (met_walk n e) ∙ stopped_fault n rest []

  -- ---- the whole parse

  -- its faults, from where the walk ends and the faults of the walk
  abbrev whole : Walk → Kinds → Kinds
  whole w k =
      or_else k (or_else (entered_fault P w.stopped) (or_else (settle_fault [] false w.held)
      (or_else (defaults_fault (settled [] w.held).rows [])
      (check_fault P.top (finished [] w.held) (is_some (entered P w.stopped))))))

  -- these are the faults of the program
  whole_is : (words : List Text) → faults_of words
      ≡ whole (fold (walked [] names) (walk_from nothing_held) words)
      (walk_fault P.top names (walk_from nothing_held) words)
  whole_is words = refl

  -- no second fault
  or_nothing : (k : Kinds) → or_else k [] ≡ k
  or_nothing [] = refl
  or_nothing (k ∷ ks) = refl

  -- the faults of the level below
  abbrev below : Option Shape → List Text → Kinds
  below o rest = option_map_or (λ s. level_fault s [] nothing_held rest false []) o []

  -- where the walk stopped at a command the faults are those of the command
  stopped_whole : (n : Text) (S : Shape) (rest : List Text) → find (λ s. answers_to n (label_of s)) P.subs ≡ Some S
      → whole (walk_stopped_at n rest) [] ≡ level_fault S [] nothing_held rest false []
  unfolding defaults_fault
  stopped_whole n S rest e =
      ap
      (λ (o : Option Shape). or_else (below o rest)
      (check_fault P.top [] (is_some (option_map (λ s. rows_at s rest) o)))) e
      ∙ or_nothing (level_fault S [] nothing_held rest false [])

  -- where the first word names a command, the faults and the rows are those of the command
  pub enters : (n : Text) (S : Shape) (rest : List Text) → subcommand_met names idle n ≡ Some n
      → find (λ s. answers_to n (label_of s)) P.subs ≡ Some S
      → (faults_of (n ∷ rest) ≡ level_fault S [] nothing_held rest false [])
      × (entry_of (n ∷ rest) ≡ Some (rows_at S rest))
  enters n S rest met found = (
    whole_is (n ∷ rest)
        ∙ ap (λ (w : Walk). whole w (walk_fault P.top names (walk_from nothing_held) (n ∷ rest))) (walk_is n rest met)
        ∙ ap (whole (walk_stopped_at n rest)) (fault_is n rest met) ∙ stopped_whole n S rest found,
    ap (λ (w : Walk). entered P w.stopped) (walk_is n rest met)
        ∙ ap (λ (o : Option Shape). option_map (λ s. rows_at s rest) o) found,
  )

  -- ---- any other first word

  -- without a word the parse fails
  pub no_words_fail : faults_of [] ≡ [] → ⊥
  unfolding walk_fault walked defaults_fault
  no_words_fail = λ e. absurd (cc)

  -- a bundle of short flags fails at its first
  flags_fail : (k : ℕ) (flags : Text) (skip : ℕ) (h : Held) (c : ℕ) → slice_get (chars flags) 0 ≡ Some c → skip ≡ 0
      → flags_fault [] false (suc k) flags skip h ≡ [] → ⊥
  unfolding flags_fault
  flags_fail k flags skip h c head fresh = go (slice_get (chars flags) 0) skip head fresh
    where
      go : (o : Option ℕ) (n : ℕ) → o ≡ Some c → n ≡ 0
          → bundle_step_fault [] false o flags n h (flags_fault [] false k) ≡ [] → ⊥
      go None n e f = absurd (cc)
      go (Some y) zero e f = λ q. absurd (cc)
      go (Some y) (suc n) e f = absurd (omega arith)

  -- a word of one hyphen and more fails
  short_fails : (x : ℕ) (xs word : Text) → word ≡ 45 ∷ x ∷ xs → (x == 45) ≡ false → IsUtf8 word
      → other_fault P.top None word nothing_held ≡ [] → ⊥
  short_fails x xs word is e u =
      let c = short_head x xs (subst IsUtf8 is u) in
      let not_end : bytes_eq word (45 ∷ 45 ∷ []) ≡ false =
      ap (λ (w : Text). bytes_eq w (45 ∷ 45 ∷ [])) is ∙ ap (λ b. b && bytes_eq xs []) e in
      let no_long : long_of word ≡ None =
      ap long_of is ∙ ap (λ b. option_and_then long_of_rest (cond b (Some xs) None)) e in
      let short : short_of word ≡ Some (x ∷ xs) = ap short_of is ∙ ap (λ b. cond b None (Some (x ∷ xs))) e in
      rw (not_end, no_long, short) (flags_fail (length xs) (x ∷ xs) 0 nothing_held c.0 c.1 refl)

  -- a first word that names no command fails
  pub unknown_fails : (word : Text) (rest : List Text) → AreUtf8 (word ∷ rest) → subcommand_met names idle word ≡ None
      → faults_of (word ∷ rest) ≡ [] → ⊥
  unfolding walk_fault walked defaults_fault
  unknown_fails word rest u none = go (form_of word)
    where
      turn : (turn_fault P.top names (walk_from nothing_held) word ≡ [] → ⊥) → faults_of (word ∷ rest) ≡ [] → ⊥
      turn bad e = bad (or_left _ _ (or_left _ _ e))

      flag : (other_fault P.top None word nothing_held ≡ [] → ⊥)
          → turn_fault P.top names (walk_from nothing_held) word ≡ [] → ⊥
      flag bad e = bad (subst (λ (o : Option Text). other_fault P.top o word nothing_held ≡ []) none (or_left _ _ e))

      ended : (rest : List Text) → subcommand_met names idle (45 ∷ 45 ∷ []) ≡ None
          → faults_of ((45 ∷ 45 ∷ []) ∷ rest) ≡ [] → ⊥
      ended [] n = rw n (λ e. absurd (cc))
      ended (w ∷ ws) n = rw n (λ e. absurd (cc))

      go : WordForm word → faults_of (word ∷ rest) ≡ [] → ⊥
      go (is_end is) =
          subst (λ (w : Text). subcommand_met names idle w ≡ None → faults_of (w ∷ rest) ≡ [] → ⊥) (sym is) (ended rest)
          none
      go (is_long x xs is) =
          turn (flag (subst (λ (w : Text). other_fault P.top None w nothing_held ≡ [] → ⊥) (sym is) (λ e. absurd (cc))))
      go (is_short x xs is e) = turn (flag (short_fails x xs word is e u.0))
      go (is_file is) = turn (rw (none, is.not_end, is.no_long, is.no_short) (λ e. absurd (cc)))
