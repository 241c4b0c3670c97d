-- One more file on the walk.
use Rattle.std.proofs.Common.{◌≡◌, ◌∙◌, ℕ, Bool, true, false, ◌||◌, cond, refl, ap, List, [], ◌∷◌, ◌++◌}
use Rattle.std.proofs.Common.{Option, Some, None, codes}
use Rattle.clap.specs.ValueTests.{accepts}
use Rattle.clap.specs.Faults.{settle_fault, step_fault}
use Rattle.clap.specs.Simple.{Shape}
use Rattle.clap.specs.Walk.{Held, Rule, arg_by_index, idle, is_pending, positional_held, pushed, settled, to_positional}
use Rattle.clap.specs.Walk.{value}
use Rattle.clap.specs.declared.builder.value_parser.ValueParser.{ValueParser}
use Rattle.clap.specs.declared.builder.value_parser.ValueParser.TheVariants as parsers
use Rattle.command_words.specs.Numbers.{Text}
use Rattle.command_words.specs.Reading.{Given, with_files}
use Rattle.command_words.proofs.NumberLemmas.{and_false}
use Rattle.command_words.proofs.RowLemmas.{one_rule, used-absent, use_passes, use_refuses}
use Rattle.command_words.proofs.LeafRules.{IsLeaf, Leaf, first_rule, second_rule, shape_of_leaf}
use Rattle.command_words.proofs.GivenRows.{Holds, has_files, holds_first, holds_second}
use Rattle.command_words.proofs.KeptFiles.{CannotFit}
use Rattle.command_words.proofs.LeafWalk.{Ready, place_after, positional_is, walk_at}

-- no test added
or_false : (b : Bool) → (b || false) ≡ b
or_false true = refl
or_false false = refl

-- ---- files that don't fit

-- a first file that the parser refuses
first_cannot_fit : (two : Bool) (p : ValueParser) (word : Text) → accepts false p word ≡ false
    → CannotFit two p (word ∷ [])
first_cannot_fit true p word e [] = refl
first_cannot_fit false p word e [] = e
first_cannot_fit true p word e (a ∷ []) = e
first_cannot_fit false p word e (a ∷ []) = refl
first_cannot_fit true p word e (a ∷ b ∷ more) = refl
first_cannot_fit false p word e (a ∷ b ∷ more) = refl

-- a second file where one is wanted
second_cannot_fit : (two : Bool) (p : ValueParser) (a word : Text) → two ≡ false → CannotFit two p (a ∷ word ∷ [])
second_cannot_fit two p a word e rest = ap (λ b. has_files b p (a ∷ word ∷ rest)) e

-- a third file
third_cannot_fit : (two : Bool) (p : ValueParser) (a b : Text) (more : List Text) (word : Text)
    → CannotFit two p ((a ∷ b ∷ more) ++ word ∷ [])
third_cannot_fit true p a b [] word rest = refl
third_cannot_fit false p a b [] word rest = refl
third_cannot_fit true p a b (m ∷ more) word rest = refl
third_cannot_fit false p a b (m ∷ more) word rest = refl

module _ (L : Leaf) where
  abbrev R : List Rule
  R = L.rules

  abbrev two : Bool
  two = L.two

  abbrev p : ValueParser
  p = L.parser

  abbrev s : Shape
  s = shape_of_leaf L

  abbrev leaf : IsLeaf R two p L.bounded
  leaf = L.is_leaf

  -- the file waits to be settled, after what was held before
  abbrev holding : Held → Text → Text → Held
  holding h id word = record { rows = (settled R h).rows; pending = Some (id, word ∷ []); skip = h.skip }

  -- this is what the walk holds
  held_is : (id : Text) (index : Option ℕ) (q : ValueParser) (word : Text) (h : Held)
      → positional_held R (one_rule id None index q true) word h ≡ holding h id word
  held_is id index q word h =
      ap (λ b. pushed id word (cond b h (settled R h)))
      (and_false (is_pending (one_rule id None index q true) h.pending))

  -- after this file the walk stands so
  abbrev pub GoesTo : Held → List Text → Text → Held → ℕ → Type 0
  GoesTo h files word after n = (trailing : Bool)
      → to_positional R (arg_by_index R (place_after files)) word (walk_at h idle (place_after files) trailing) h
      ≡ walk_at after idle n trailing

  -- a file is placed; or it is placed and can't be settled; or it is one too many
  pub data FileStep (h : Held) (given : Given) (word : Text) : Type 0 where
    placed : (after : Held) → step_fault s (place_after given.files) h value ≡ []
        → GoesTo h given.files word after (place_after (given.files ++ word ∷ []))
        → Ready R two p after (with_files (word ∷ []) given) → FileStep h given word
    unsettled : (after : Held) (n : ℕ) → step_fault s (place_after given.files) h value ≡ []
        → GoesTo h given.files word after n → (settle_fault R false after ≡ [] → ⊥) → after.skip ≡ 0
        → CannotFit two p (given.files ++ word ∷ []) → FileStep h given word
    surplus : (step_fault s (place_after given.files) h value ≡ [] → ⊥) → CannotFit two p (given.files ++ word ∷ [])
        → FileStep h given word

  -- one of these it is
  pub file_step : (h : Held) (given : Given) (word : Text) → Ready R two p h given → FileStep h given word
  file_step h given word ready = go given.files ready
    where
      first_fault : step_fault s 1 h value ≡ []
      first_fault = rw leaf.at_1 (positional_is L (first_rule p) h refl ∙ ready.settles)

      first_walk : GoesTo h [] word (holding h (codes "first") word) 2
      first_walk trailing =
          rw leaf.at_1 (λ i. walk_at (held_is (codes "first") (Some 1) p word h i) idle 2 (or_false trailing i))

      first_step : Holds two p (settled R h).rows (record given { files = [] })
          → FileStep h (record given { files = [] }) word
      first_step holds = test (accepts false p word) refl
        where
          test : (b : Bool) → accepts false p word ≡ b → FileStep h (record given { files = [] }) word
          test true e = placed (holding h (codes "first") word) first_fault first_walk (record {
            settles = rw leaf.id_first
                (use_passes (codes "first") None (Some 1) p true word (settled R h).rows holds.first e);
            holds = rw leaf.id_first
                (rw (used-absent (codes "first") None (Some 1) p true word (settled R h).rows holds.first)
                (holds_first two p (settled R h).rows given.depth given.steps word e holds));
            fresh = ready.fresh;
          })
          test false e = unsettled (holding h (codes "first") word) 2 first_fault first_walk
              (rw leaf.id_first (use_refuses (codes "first") None (Some 1) p true word (settled R h).rows e))
              ready.fresh (first_cannot_fit two p word e)

      second_step : (a : Text) (b : Bool) → two ≡ b → Holds two p (settled R h).rows (record given { files = a ∷ [] })
          → FileStep h (record given { files = a ∷ [] }) word
      second_step a false e holds = surplus (rw (leaf.at_2, e) (λ f. absurd (cc))) (second_cannot_fit two p a word e)
      second_step a true e holds =
          let at : arg_by_index R 2 ≡ Some second_rule = leaf.at_2 ∙ ap (λ b. cond b (Some second_rule) None) e in
          let none = holds.second in
          placed (holding h (codes "second") word) (rw at (positional_is L second_rule h refl ∙ ready.settles))
          (λ trailing. rw at
          (λ i. walk_at (held_is (codes "second") (Some 2) parsers.String word h i) idle 3 (or_false trailing i)))
          (record {
            settles = rw (leaf.id_second e)
                (use_passes (codes "second") None (Some 2) parsers.String true word (settled R h).rows none refl);
            holds = rw (leaf.id_second e)
                (rw (used-absent (codes "second") None (Some 2) parsers.String true word (settled R h).rows none)
                (holds_second two p (settled R h).rows given.depth given.steps a word e holds));
            fresh = ready.fresh;
          })

      go : (files : List Text) → Ready R two p h (record given { files = files })
          → FileStep h (record given { files = files }) word
      go [] r = first_step r.holds
      go (a ∷ []) r = second_step a two refl r.holds
      go (a ∷ b ∷ more) r = surplus (rw leaf.at_3 (λ f. absurd (cc))) (third_cannot_fit two p a b more word)
