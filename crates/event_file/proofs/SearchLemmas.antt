-- What a search for a byte finds.
use Rattle.std.proofs.Common.{◌≡◌, ℕ, Bool, true, false, List, length, refl, arith}
use Rattle.std.proofs.lemmas.List.Sums.{position_or_len_is}
use Rattle.std.specs.List.{position_or_len}
use Rattle.memchr.specs.Find.{NoneBefore, Nowhere, Passes}

fails : (passes : Bool) → ¬ (passes ≡ true) → passes ≡ false
fails true never = absurd (never refl)
fails false never = refl

-- the place that was found is the first
pub found_first : (test : ℕ → Bool) (text : List ℕ) (k : ℕ) → NoneBefore (Passes test text) 0 (length text) k × Passes test text k
    → position_or_len test text ≡ k
found_first test text k found =
    let first = found.0 in
    position_or_len_is test text k 0 (omega (arith, first.high))
    (λ j before. fails _ (λ hit. first.before j (omega arith) before hit)) (λ _. found.1)

-- no place was found
pub found_nowhere : (test : ℕ → Bool) (text : List ℕ) → Nowhere (Passes test text) 0 (length text)
    → position_or_len test text ≡ length text
found_nowhere test text nowhere =
    position_or_len_is test text (length text) 0 (omega arith)
    (λ j within. fails _ (λ hit. nowhere j (omega arith) within hit)) (λ past. absurd (omega arith))
