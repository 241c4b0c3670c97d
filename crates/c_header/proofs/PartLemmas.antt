-- A text is printed in parts, one after the other.
use Rattle.std.proofs.Common.{◌≡◌, ℕ, List, ◌++◌, ap, ◌∙◌, append_assoc, Result, Ok, Err, is_ok, if◌then◌else◌}
use Rattle.std.specs.Prelude.{OnOk}

-- what the last part leaves is the whole
pub last : {T E : Type 0} (r : Result T E) (new was whole : List ℕ) → OnOk r (new ≡ was) → was ≡ whole
    → OnOk r (new ≡ whole)
last (Ok x) new was whole left all = left ∙ all
last (Err e) new was whole left all = tt

-- what `push_str` leaves
pub pushed : {T E : Type 0} (r : Result T E) (new more same : List ℕ) → new ≡ (if is_ok r then more else same)
    → OnOk r (new ≡ more)
pushed (Ok x) new more same left = left
pushed (Err e) new more same left = tt

-- a part after one that was printed
after : (old a rest now : List ℕ) → now ≡ old ++ a → now ++ rest ≡ old ++ (a ++ rest)
after old a rest now is = ap (λ (t : List ℕ). t ++ rest) is ∙ append_assoc old a rest

-- a fifth part after four that were printed
pub five_parts : (old a b c d e one two three four : List ℕ)
    → one ≡ old ++ a → two ≡ one ++ b → three ≡ two ++ c → four ≡ three ++ d
    → four ++ e ≡ old ++ (a ++ (b ++ (c ++ (d ++ e))))
five_parts old a b c d e one two three four p q r s =
    after three d e four s ∙ after two c (d ++ e) three r ∙ after one b (c ++ (d ++ e)) two q
    ∙ after old a (b ++ (c ++ (d ++ e))) one p

-- a sixth part after five
pub six_parts : (old a b c d e f one two three four five : List ℕ)
    → one ≡ old ++ a → two ≡ one ++ b → three ≡ two ++ c → four ≡ three ++ d → five ≡ four ++ e
    → five ++ f ≡ old ++ (a ++ (b ++ (c ++ (d ++ (e ++ f)))))
six_parts old a b c d e f one two three four five p q r s t =
    after four e f five t ∙ five_parts old a b c d (e ++ f) one two three four p q r s

-- an eighth part after seven that were printed
pub eight_parts : (old a b c d e f g h one two three four five six seven : List ℕ)
    → one ≡ old ++ a → two ≡ one ++ b → three ≡ two ++ c → four ≡ three ++ d → five ≡ four ++ e → six ≡ five ++ f
    → seven ≡ six ++ g → seven ++ h ≡ old ++ (a ++ (b ++ (c ++ (d ++ (e ++ (f ++ (g ++ h)))))))
eight_parts old a b c d e f g h one two three four five six seven p q r s t u v =
    after six g h seven v ∙ after five f (g ++ h) six u ∙ after four e (f ++ (g ++ h)) five t
    ∙ after three d (e ++ (f ++ (g ++ h))) four s ∙ after two c (d ++ (e ++ (f ++ (g ++ h)))) three r
    ∙ after one b (c ++ (d ++ (e ++ (f ++ (g ++ h))))) two q
    ∙ after old a (b ++ (c ++ (d ++ (e ++ (f ++ (g ++ h)))))) one p

-- a ninth part after eight
pub nine_parts : (old a b c d e f g h i one two three four five six seven eight : List ℕ)
    → one ≡ old ++ a → two ≡ one ++ b → three ≡ two ++ c → four ≡ three ++ d → five ≡ four ++ e → six ≡ five ++ f
    → seven ≡ six ++ g → eight ≡ seven ++ h
    → eight ++ i ≡ old ++ (a ++ (b ++ (c ++ (d ++ (e ++ (f ++ (g ++ (h ++ i))))))))
nine_parts old a b c d e f g h i one two three four five six seven eight p q r s t u v w =
    after seven h i eight w ∙ eight_parts old a b c d e f g (h ++ i) one two three four five six seven p q r s t u v

-- a part that was printed of what is the same
pub of_same : {X : Type 0} (text : X → List ℕ) (x y : X) (old now : List ℕ) → now ≡ old ++ text x → x ≡ y
    → now ≡ old ++ text y
of_same text x y old now is same = is ∙ ap (λ z. old ++ text z) same
