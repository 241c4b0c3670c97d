-- Runs of bytes that pass a test, at the front of a text.
use Rattle.std.proofs.Common.{◌≡◌, ℕ, ◌+◌, ◌<◌, Bool, true, false, cond, List, [], ◌∷◌, ◌++◌, length, refl, ap, ◌∙◌}
use Rattle.std.proofs.Common.{eq-eqb, length-append, arith}
use Rattle.std.proofs.lemmas.List.Folds.{prefix_len-append}
use Rattle.std.specs.List.{prefix_len}
use Rattle.chart_lexer.specs.Bytes.{begins}

-- a run ends where a byte fails the test
pub run_ends : (p : ℕ → Bool) (front back : List ℕ) → begins p back ≡ false
    → prefix_len p (front ++ back) ≡ prefix_len p front
run_ends p [] [] h = refl
run_ends p [] (b ∷ back) h = rw h refl
run_ends p (b ∷ front) back h = rw (run_ends p front back h) refl

-- a byte that passes begins a run
pub run_some : (p : ℕ → Bool) (text : List ℕ) → begins p text ≡ true → 0 < prefix_len p text
run_some p [] h = absurd cc
run_some p (b ∷ text) h = rw h (omega arith)

-- where all pass of two texts, all pass of both, one after the other
pub run_append : (p : ℕ → Bool) (front back : List ℕ) → prefix_len p front ≡ length front
    → prefix_len p back ≡ length back
    → prefix_len p (front ++ back) ≡ length (front ++ back)
run_append p front back all all_back =
    prefix_len-append p front back
    ∙ ap (λ (t : Bool). cond t (length front + prefix_len p back) (prefix_len p front)) (eq-eqb _ _ all)
    ∙ omega (arith, all_back, length-append front back)
