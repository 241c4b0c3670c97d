-- From a parse to the command that the words ask for.
use Rattle.std.proofs.Common.{◌≡◌, ◌∙◌, Bool, true, false, refl, sym, ap, List, [], ◌∷◌, map, Option, Some, None}
use Rattle.std.proofs.Common.{option_map, String, string_bytes}
use Rattle.std.specs.Prelude.{option_and_then}
use Rattle.std.specs.Str.{bytes_eq}
use Rattle.std.specs.declared.alloc.Global.{Global}
use Rattle.std.proofs.lemmas.Str.{IsUtf8-string_bytes}
use Rattle.std.proofs.lemmas.Slice.Eq.{bytes_eq-Decides}
use Rattle.clap.specs.Kinds.{Kinds}
use Rattle.clap.specs.Walk.{Row}
use Rattle.command_words.specs.Numbers.{Text}
use Rattle.command_words.proofs.WordForms.{AreUtf8}
use Rattle.command_words.proofs.LeafAnswers.{Answers}

-- each word is a `String`
pub are_utf8 : (words : List (String Global)) → AreUtf8 (map string_bytes words)
are_utf8 [] = tt
are_utf8 (word ∷ rest) = (IsUtf8-string_bytes word, are_utf8 rest)

-- a text that is another isn't equal by the test
pub differs : (a b : Text) → (b ≡ a → ⊥) → bytes_eq a b ≡ false
differs a b bad = go (bytes_eq a b) refl
  where
    go : (t : Bool) → bytes_eq a b ≡ t → t ≡ false
    go true e = absurd (bad (sym ((bytes_eq-Decides a b).0 e)))
    go false e = refl

module _ {C : Type 0} where
  -- no fault: what was found is what the words ask for
  pub found_is : (o : Option C) (kinds : Kinds) (found : Option C) → Answers o kinds found → kinds ≡ [] → found ≡ o
  found_is None kinds found a e = a e
  found_is (Some command) kinds found a e = a.1

  -- a fault: the words ask for nothing
  pub none_is : (o : Option C) (kinds : Kinds) (found : Option C) → Answers o kinds found → (kinds ≡ [] → ⊥)
      → None ≡ o
  none_is None kinds found a bad = refl
  none_is (Some command) kinds found a bad = absurd (bad a.0)

  -- what is found by the name and the rows of what was met is what is found of the parse
  pub found_of_met : {X : Type 0} (named : Text → List Row → Option C) (o : Option X) (name_of : X → Text)
      (rows_at : X → List Row) (n : Text) (rows : List Row) (found : Option C) → Some n ≡ option_map name_of o
      → Some rows ≡ option_map (λ (p : Text × List Row). p.1) (option_map (λ x. (name_of x, rows_at x)) o)
      → found ≡ named n rows
      → found ≡ option_and_then (λ (p : Text × List Row). named p.0 p.1) (option_map (λ x. (name_of x, rows_at x)) o)
  found_of_met named None name_of rows_at n rows found e f is = absurd cc
  found_of_met named (Some x) name_of rows_at n rows found e f is =
      let same : n ≡ name_of x = cc in
      let all : rows ≡ rows_at x = cc in
      is ∙ (ap (λ (t : Text). named t rows) same ∙ ap (λ (r : List Row). named (name_of x) r) all)
