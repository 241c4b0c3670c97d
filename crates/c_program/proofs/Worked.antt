-- The definition at words that were worked by hand.
use Rattle.std.proofs.Common.{◌≡◌, ℕ, refl, codes, [], ◌∷◌, Option, Some, None}
use Rattle.command_words.specs.Commands.{RunBounds}
use Rattle.command_words.specs.Reading.{read_words}
use Rattle.c_program.specs.Commands.{Header, Source}
use Rattle.c_program.specs.Words.{command_of_texts}

abbrev bounds : ℕ → ℕ → Option RunBounds
bounds depth steps = Some (record { depth = depth; steps = steps })

no_options : command_of_texts (codes "header" ∷ codes "lamp" ∷ []) ≡ Some (Header (codes "lamp") None)
unfolding read_words
no_options = refl

usual_steps : command_of_texts (codes "source" ∷ codes "lamp" ∷ codes "--depth" ∷ codes "3" ∷ [])
    ≡ Some (Source (codes "lamp") (bounds 3 10000))
unfolding read_words
usual_steps = refl

usual_depth : command_of_texts (codes "source" ∷ codes "--steps=50000" ∷ codes "lamp" ∷ [])
    ≡ Some (Source (codes "lamp") (bounds 8 50000))
unfolding read_words
usual_depth = refl

two_files : command_of_texts (codes "header" ∷ codes "lamp" ∷ codes "ev" ∷ []) ≡ None
unfolding read_words
two_files = refl

of_another_program : command_of_texts (codes "check" ∷ codes "lamp" ∷ []) ≡ None
of_another_program = refl
