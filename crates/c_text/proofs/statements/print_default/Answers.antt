use Rattle.std.proofs.Common.{◌≡◌, ℕ, List, ◌++◌, ap, ◌∙◌, append_assoc, Result, Ok, Err}
use Rattle.std.specs.Prelude.{OnOk}
use Rattle.c_text.specs.Statements.{default_text}
use Rattle.c_text.proofs.statements.print_default.Goals as goal

-- three parts, one after the other
three_printed : {E : Type 0} (r : Result (Unit {0}) E) (old a b c one two now : List ℕ) → one ≡ old ++ a → two ≡ one ++ b
    → OnOk r (now ≡ two ++ c) → OnOk r (now ≡ old ++ (a ++ (b ++ c)))
three_printed (Ok x) old a b c one two now p q last =
    last ∙ ap (λ (t : List ℕ). t ++ c) q ∙ append_assoc one b c ∙ ap (λ (t : List ℕ). t ++ (b ++ c)) p
    ∙ append_assoc old a (b ++ c)
three_printed (Err e) old a b c one two now p q last = tt

pub returns : goal.returns
unfolding default_text
returns c =
    three_printed _ _ _ _ _ _ _ _ c.in_ok-print_words.ensures c.in_ok-print_words-2.ensures c.print_words-3.ensures
