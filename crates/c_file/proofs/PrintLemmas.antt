-- Texts that are printed one after the other.
use Rattle.std.proofs.Common.{◌≡◌, ◌<◌, ℕ, Bool, List, [], ◌++◌, length, slice_get, get_or, Option, Some, Result, sym}
use Rattle.std.proofs.Common.{ap, subst, ◌∙◌, append_assoc}
use Rattle.std.specs.Prelude.{OnOk}
use Rattle.std.specs.Option.{option_map_or}
use Rattle.std.proofs.lemmas.Option.{slice_get-get_or}
use Rattle.flow_base.specs.Lists.{items_of}
use Rattle.c_subset.specs.declared.trees.CType.{CType}
use Rattle.c_subset.specs.declared.trees.Function as declared
use Rattle.c_subset.specs.Lines.{IsFunction}
use Rattle.c_subset.specs.Trees.{Function}
use Rattle.c_text.specs.Functions.{prototype_text}
use Rattle.c_text.specs.Labels.{Labels}

-- two texts
pub two_printed : (old first second now later : List ℕ)
    → now ≡ old ++ first → later ≡ now ++ second → later ≡ old ++ (first ++ second)
two_printed old first second now later one two =
    two ∙ ap (λ (t : List ℕ). t ++ second) one ∙ append_assoc old first second

-- four texts
pub four_printed : (old first second third fourth one two three four : List ℕ)
    → one ≡ old ++ first → two ≡ one ++ second → three ≡ two ++ third → four ≡ three ++ fourth
    → four ≡ old ++ (first ++ (second ++ (third ++ fourth)))
four_printed old first second third fourth one two three four a b c d =
    two_printed old first (second ++ (third ++ fourth)) one four a
    (two_printed one second (third ++ fourth) two four b (two_printed two third fourth three four c d))

-- a text where nothing was before
pub first_printed : (old text now : List ℕ) → old ≡ [] → now ≡ old ++ text → now ≡ text
first_printed old text now none is = is ∙ ap (λ (t : List ℕ). t ++ text) none

-- three texts
pub three_printed : (old first second third one two three : List ℕ)
    → one ≡ old ++ first → two ≡ one ++ second → three ≡ two ++ third → three ≡ old ++ (first ++ (second ++ third))
three_printed old first second third one two three a b c =
    two_printed old first (second ++ third) one three a (two_printed one second third two three b c)

-- six texts
pub six_printed : (old a b c d e f one two three four five six : List ℕ)
    → one ≡ old ++ a → two ≡ one ++ b → three ≡ two ++ c → four ≡ three ++ d → five ≡ four ++ e → six ≡ five ++ f
    → six ≡ old ++ (a ++ (b ++ (c ++ (d ++ (e ++ f)))))
six_printed old a b c d e f one two three four five six p q r s t u =
    three_printed old a b (c ++ (d ++ (e ++ f))) one two six p q (four_printed two c d e f three four five six r s t u)

-- a text that was printed of what is the same
pub of_same : {X : Type 0} (text : X → List ℕ) (x y : X) (old now : List ℕ) → now ≡ old ++ text x → x ≡ y
    → now ≡ old ++ text y
of_same text x y old now is same = is ∙ ap (λ z. old ++ text z) same

-- a declaration is that of the function of the file
pub declared_as : (L : Labels) (f : ℕ) (r s : Bool) (h : declared.Function) (g : Function) (ts : List CType)
    (old now : List ℕ) → r ≡ s → ts ≡ items_of h.parameters → IsFunction h g
    → now ≡ old ++ prototype_text L f r h.result ts → now ≡ old ++ prototype_text L f s g.result g.parameters
declared_as L f r s h g ts old now reads items is printed =
    printed ∙ ap (λ (b : Bool). old ++ prototype_text L f b h.result ts) reads
    ∙ ap (λ (t : CType). old ++ prototype_text L f s t ts) is.result
    ∙ ap (λ (xs : List CType). old ++ prototype_text L f s g.result xs) (items ∙ is.parameters)

-- a text that was printed is an equal one
pub printed_as : {E : Type 0} (r : Result (Unit {0}) E) (old new text other : List ℕ) → OnOk r (new ≡ old ++ text)
    → text ≡ other → OnOk r (new ≡ old ++ other)
printed_as r old new text other printed same = subst (λ (t : List ℕ). OnOk r (new ≡ old ++ t)) same printed

-- what is printed of the function that has a number in the file
pub at_number : (text : Function → List ℕ) (functions : List Function) (f : ℕ) (d : Function) (old now : List ℕ)
    → f < length functions → ((g : Function) → slice_get functions f ≡ Some g → now ≡ old ++ text g)
    → now ≡ old ++ option_map_or text (slice_get functions f) []
at_number text functions f d old now within printed =
    let there : slice_get functions f ≡ Some (get_or functions f d) = slice_get-get_or functions f d within in
    printed (get_or functions f d) there
    ∙ ap (λ (o : Option Function). old ++ option_map_or text o []) (sym there)
