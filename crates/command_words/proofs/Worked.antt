-- The definition at words that were worked by hand.
use Rattle.std.proofs.Common.{◌≡◌, ℕ, refl, codes, [], ◌∷◌, Some, None}
use Rattle.command_words.specs.Commands.{RunBounds, Rules, Exec, Net, Selftest}
use Rattle.command_words.specs.Reading.{read_words}
use Rattle.command_words.specs.Words.{command_of_texts}

abbrev bounds : ℕ → ℕ → RunBounds
bounds depth steps = record { depth = depth; steps = steps }

no_words : command_of_texts [] ≡ None
unfolding read_words
no_words = refl

one_file : command_of_texts (codes "rules" ∷ codes "lamp" ∷ []) ≡ None
unfolding read_words
one_file = refl

too_deep : command_of_texts (codes "rules" ∷ codes "lamp" ∷ codes "ev" ∷ codes "--depth" ∷ codes "33" ∷ []) ≡ None
unfolding read_words
too_deep = refl

twice : command_of_texts
    (codes "rules" ∷ codes "lamp" ∷ codes "ev" ∷ codes "--steps" ∷ codes "5" ∷ codes "--steps" ∷ codes "5" ∷ []) ≡ None
unfolding read_words
twice = refl

negative : command_of_texts (codes "rules" ∷ codes "lamp" ∷ codes "ev" ∷ codes "--depth" ∷ codes "-1" ∷ []) ≡ None
unfolding read_words
negative = refl

no_number : command_of_texts (codes "selftest" ∷ codes "-1" ∷ []) ≡ None
unfolding read_words
no_number = refl

attached : command_of_texts (codes "rules" ∷ codes "--depth=+08" ∷ codes "--" ∷ codes "lamp" ∷ codes "ev" ∷ [])
    ≡ Some (Rules (codes "lamp") (codes "ev") (bounds 8 10000))
unfolding read_words
attached = refl

usual : command_of_texts (codes "rules" ∷ codes "lamp" ∷ codes "ev" ∷ [])
    ≡ Some (Rules (codes "lamp") (codes "ev") (bounds 8 10000))
unfolding read_words
usual = refl

between : command_of_texts (codes "rules" ∷ codes "lamp" ∷ codes "--steps" ∷ codes "50000" ∷ codes "ev" ∷ [])
    ≡ Some (Rules (codes "lamp") (codes "ev") (bounds 8 50000))
unfolding read_words
between = refl

ended : command_of_texts (codes "exec" ∷ codes "--" ∷ codes "-x" ∷ codes "--depth" ∷ [])
    ≡ Some (Exec (codes "-x") (codes "--depth") (bounds 8 10000))
unfolding read_words
ended = refl

empty_file : command_of_texts (codes "rules" ∷ [] ∷ codes "-" ∷ []) ≡ Some (Rules [] (codes "-") (bounds 8 10000))
unfolding read_words
empty_file = refl

usual_net : command_of_texts (codes "net" ∷ codes "lamp" ∷ codes "ev" ∷ [])
    ≡ Some (Net (codes "lamp") (codes "ev") (bounds 8 2500))
unfolding read_words
usual_net = refl

long_net : command_of_texts (codes "net" ∷ codes "lamp" ∷ codes "ev" ∷ codes "--steps" ∷ codes "2501" ∷ []) ≡ None
unfolding read_words
long_net = refl

minus_zero : command_of_texts (codes "selftest" ∷ codes "--" ∷ codes "-0" ∷ []) ≡ None
unfolding read_words
minus_zero = refl

plus_seven : command_of_texts (codes "selftest" ∷ codes "+07" ∷ []) ≡ Some (Selftest 7)
unfolding read_words
plus_seven = refl
