-- The lines of data and events, in both directions.
use Rattle.std.proofs.Common.{◌≡◌, ℕ, zero, suc, ◌+◌, ◌^◌, ◌<◌, ◌≤◌, Bool}
use Rattle.std.proofs.Common.{true, false, nat_eq, List, [], ◌∷◌, ◌++◌, Option}
use Rattle.std.proofs.Common.{Some, None, refl, sym, ap, ◌∙◌, subst, arith}
use Rattle.std.specs.Prelude.{codes, decimal, option_map, option_and_then, ℤ, pos, negsuc, unsigned_abs}
use Rattle.std.specs.Fmt.{signed_decimal}
use Rattle.std.specs.Str.{bytes_eq}
use Rattle.std.proofs.lemmas.Bool.Decides.{nat_tests}
use Rattle.std.proofs.lemmas.Option.{none-some, same_Some, cond_some, option_and_then_some}
use Rattle.std.proofs.lemmas.Slice.Eq.{bytes_eq-Decides}
use Rattle.fixed_point.specs.declared.fitting.Mode.{Mode}
use Rattle.fixed_point.specs.declared.fitting.Mode.TheVariants as modes
use Rattle.actions.specs.declared.names.EventDecl.{EventDecl}
use Rattle.actions.specs.declared.names.EventKind.{EventKind}
use Rattle.actions.specs.declared.names.Sort.{Sort}
use Rattle.actions.specs.declared.names.Sort.TheVariants as sorts
use Rattle.actions.specs.declared.names.Var.{Var}
use Rattle.actions.specs.declared.names.VarKind.{VarKind}
use Rattle.code_fields.specs.Cuts.{Parts}
use Rattle.code_fields.specs.Spelling.{IsName, IsVar, IsEvent, is_init_of, var_kind_word, event_kind_word, sort_word}
use Rattle.code_fields.specs.Spelling.{mode_word, mode_in, var_line, event_line}
use Rattle.code_fields.specs.Fields.{kept, word_then, behind, name_of, var_kind_of, event_kind_of, mode_of, mode_for}
use Rattle.code_fields.specs.Fields.{sort_of, magnitude_of, negative, signed_by, signed_of, init_for, var_with_init}
use Rattle.code_fields.specs.Fields.{var_with_mode, var_with_sort, var_with_kind, var_of, event_with_kind, event_of}
use Rattle.code_fields.proofs.CutLemmas.{Lacks, option_map_some, word_then-line, word_then-some}
use Rattle.code_fields.proofs.NumberLemmas.{numeral-some, numeral-decimal, decimal-lacks, minus}
use Rattle.code_fields.proofs.BehindLemmas.{behind-append, behind-some, name_of-name, name_of-some}
use Rattle.code_fields.proofs.WordLemmas.{var_kind_of-word, var_kind_of-some, event_kind_of-word, event_kind_of-some}
use Rattle.code_fields.proofs.WordLemmas.{mode_of-word, mode_of-some}
use Rattle.code_fields.proofs.ScaleLemmas.{sort_of-word, sort_of-some}
use Rattle.code_fields.proofs.NewlineLemmas.{IsLine, var_kind_is_word, event_kind_is_word}
use Rattle.code_fields.proofs.NewlineLemmas.{mode_in_is_word, sort_is_word}
use Rattle.code_fields.proofs.NewlineLemmas.{signed_word, word_line, line_then, name_line}

-- ---- first values

-- another byte than a minus sign
no_sign : (b : ℕ) → nat_eq b 45 ≡ false → nat_eq 45 b ≡ false
no_sign b h = grind (arith, nat_tests)

-- a text without a minus sign doesn't begin with one
no_minus : (text : List ℕ) → Lacks 45 text → behind (codes "-") text ≡ None
unfolding behind
no_minus [] h = refl
no_minus (b ∷ text) h = rw (no_sign b h.0) refl

-- a whole number is read
signed_of-decimal : (z : ℤ) → unsigned_abs z ≤ 2 ^ 64 → signed_of (signed_decimal z) ≡ Some z
unfolding signed_of
signed_of-decimal (pos n) h =
    let few : n ≤ 2 ^ 64 = h in
    ap (signed_by (decimal n)) (no_minus (decimal n) (decimal-lacks 45 n minus (omega arith)))
    ∙ ap (λ (o : Option ℕ). option_map (λ m. pos m) o) (numeral-decimal (2 ^ 64 + 1) n (omega arith) (omega arith))
signed_of-decimal (negsuc n) h =
    let few : suc n ≤ 2 ^ 64 = h in
    ap (signed_by (45 ∷ decimal (suc n))) (behind-append (codes "-") (decimal (suc n)))
    ∙ ap (λ (o : Option ℕ). option_and_then negative o) (numeral-decimal (2 ^ 64 + 1) (suc n) (omega arith) (omega arith))

-- what is read is that number's text
abbrev IsSigned : List ℕ → ℤ → Type 0
IsSigned token z = (token ≡ signed_decimal z) × (unsigned_abs z ≤ 2 ^ 64)

-- with a minus sign
negative_is : (token rest : List ℕ) (n : ℕ) (z : ℤ) → token ≡ 45 ∷ rest → n < 2 ^ 64 + 1 → rest ≡ decimal n
    → negative n ≡ Some z → IsSigned token z
negative_is token rest zero z is few text h = absurd (none-some z h)
negative_is token rest (suc n) z is few text h =
    let token_is : token ≡ signed_decimal (negsuc n) = is ∙ ap (λ (t : List ℕ). 45 ∷ t) text in
    let small : suc n ≤ 2 ^ 64 = omega arith in
    subst (IsSigned token) (same_Some (negsuc n) z h) (token_is, small)

-- with or without it
signed_by-some : (token : List ℕ) (o : Option (List ℕ)) (z : ℤ) → behind (codes "-") token ≡ o
    → signed_by token o ≡ Some z → IsSigned token z
signed_by-some token None z e h =
    option_map_some (λ n. pos n) (magnitude_of token) z h (λ n is made.
    let got = numeral-some (2 ^ 64 + 1) token n is in
    let small : n ≤ 2 ^ 64 = omega (arith, got.0) in
    subst (IsSigned token) made (got.1, small))
signed_by-some token (Some rest) z e h =
    option_and_then_some negative (magnitude_of rest) z h (λ n is g.
    let got = numeral-some (2 ^ 64 + 1) rest n is in
    negative_is token rest n z (behind-some (codes "-") token rest e) got.0 got.1 g)

-- only its text is read as a whole number
signed_of-some : (token : List ℕ) (z : ℤ) → signed_of token ≡ Some z → IsSigned token z
unfolding signed_of
signed_of-some token z h = signed_by-some token (behind (codes "-") token) z refl h

-- a first value is read
init_for-decimal : (s : Sort) (z : ℤ) → is_init_of s z ≡ true → unsigned_abs z ≤ 2 ^ 64
    → init_for s (signed_decimal z) ≡ Some z
init_for-decimal s z fits few =
    ap (λ (o : Option ℤ). option_and_then (kept (is_init_of s)) o) (signed_of-decimal z few) ∙ rw fits refl

-- a first value of that sort
record IsInit (s : Sort) (token : List ℕ) (z : ℤ) : Type 0 where
  text : token ≡ signed_decimal z
  small : unsigned_abs z ≤ 2 ^ 64
  fits : is_init_of s z ≡ true

-- and only such
init_for-some : (s : Sort) (token : List ℕ) (z : ℤ) → init_for s token ≡ Some z → IsInit s token z
init_for-some s token z h =
    option_and_then_some (kept (is_init_of s)) (signed_of token) z h (λ y is g.
    let got = cond_some (is_init_of s y) y z g in
    let text = signed_of-some token y is in
    subst (IsInit s token) got.1 (record { text = text.0; small = text.1; fits = got.0 }))

-- ---- modes

-- the mode of a datum is read
mode_for-word : (s : Sort) (m : Mode) → (s ≡ sorts.Flag → m ≡ modes.Saturate) → mode_for s (mode_in s m) ≡ Some m
mode_for-word sorts.Flag m h = ap (λ n. Some n) (sym (h refl))
mode_for-word (sorts.Number s) m h = mode_of-word m

-- a mode by its word
abbrev IsMode : Sort → List ℕ → Mode → Type 0
IsMode s word m = (word ≡ mode_in s m) × (s ≡ sorts.Flag → m ≡ modes.Saturate)

-- and no other word
mode_for-some : (s : Sort) (word : List ℕ) (m : Mode) → mode_for s word ≡ Some m → IsMode s word m
mode_for-some sorts.Flag word m h =
    let got = cond_some (bytes_eq word (codes "-")) modes.Saturate m h in
    ((bytes_eq-Decides word (codes "-")).0 got.0, λ e. sym got.1)
mode_for-some (sorts.Number s) word m h = (mode_of-some word m h, λ e. absurd cc)

-- ---- data

-- the words of a datum from its name, its first value, its mode and its sort on
abbrev from_init : Var → List ℕ
from_init v = signed_decimal v.init ++ (32 ∷ v.name)

abbrev from_mode : Var → List ℕ
from_mode v = mode_in v.sort v.mode ++ (32 ∷ from_init v)

abbrev from_sort : Var → List ℕ
from_sort v = sort_word v.sort ++ (32 ∷ from_mode v)

-- its magnitude is far below the greatest number that is printed
init_small : (n : ℕ) → n ≤ 2 ^ 64 → n < 10 ^ 64
init_small n h = omega arith

-- the line of a datum is read as it
pub var_of-line : (v : Var) → IsVar v → var_of (var_line v) ≡ Some v
unfolding var_of
var_of-line v h =
    let value = signed_word v.init (init_small (unsigned_abs v.init) h.small) in
    ap (λ (o : Option (List ℕ)). option_and_then (word_then var_kind_of var_with_kind) o) (behind-append (codes "d ") (var_kind_word v.kind ++ (32 ∷ from_sort v)))
    ∙ (word_then-line var_kind_of var_with_kind (var_kind_word v.kind) (from_sort v) v.kind (var_kind_is_word v.kind).0 (var_kind_of-word v.kind)
    ∙ (word_then-line sort_of (var_with_sort v.kind) (sort_word v.sort) (from_mode v) v.sort (sort_is_word v.sort).0 (sort_of-word v.sort)
    ∙ (word_then-line (mode_for v.sort) (var_with_mode v.kind v.sort) (mode_in v.sort v.mode) (from_init v) v.mode (mode_in_is_word v.sort v.mode).0 (mode_for-word v.sort v.mode h.mode)
    ∙ (word_then-line (init_for v.sort) (var_with_init v.kind v.sort v.mode) (signed_decimal v.init) v.name v.init value.0 (init_for-decimal v.sort v.init h.init h.small)
    ∙ ap (λ (o : Option (List ℕ)). option_map (λ name. record { name = name; kind = v.kind; sort = v.sort; mode = v.mode; init = v.init }) o) (name_of-name v.name h.named)))))

-- a datum that a line spells
abbrev IsVarLine : List ℕ → Var → Type 0
IsVarLine line v = (line ≡ var_line v) × IsVar v

-- from its name on
named_var : (line rest : List ℕ) (kind : VarKind) (s : Sort) (m : Mode) (z : ℤ) (v : Var)
    → (s ≡ sorts.Flag → m ≡ modes.Saturate) → is_init_of s z ≡ true → unsigned_abs z ≤ 2 ^ 64
    → line ≡ codes "d " ++ (var_kind_word kind ++ (32 ∷ (sort_word s ++ (32 ∷ (mode_in s m ++ (32 ∷ (signed_decimal z ++ (32 ∷ rest))))))))
    → var_with_init kind s m z rest ≡ Some v → IsVarLine line v
named_var line rest kind s m z v mode fits small is h =
    option_map_some (λ name. record { name = name; kind = kind; sort = s; mode = m; init = z }) (name_of rest) v h (λ name e made.
    let got = name_of-some rest name e in
    subst (IsVarLine line) made (
      is ∙ ap (λ (t : List ℕ). codes "d " ++ (var_kind_word kind ++ (32 ∷ (sort_word s ++ (32 ∷ (mode_in s m ++ (32 ∷ (signed_decimal z ++ (32 ∷ t))))))))) got.0,
      record { named = got.1; mode = mode; init = fits; small = small },
    ))

-- only the line of the datum is read so
pub var_of-some : (line : List ℕ) (v : Var) → var_of line ≡ Some v → IsVarLine line v
unfolding var_of
var_of-some line v h =
    option_and_then_some (word_then var_kind_of var_with_kind) (behind (codes "d ") line) v h (λ text e g.
    word_then-some var_kind_of var_with_kind text v g (λ w1 r1 kind t1 e1 g1.
    word_then-some sort_of (var_with_sort kind) r1 v g1 (λ w2 r2 s t2 e2 g2.
    word_then-some (mode_for s) (var_with_mode kind s) r2 v g2 (λ w3 r3 m t3 e3 g3.
    word_then-some (init_for s) (var_with_init kind s m) r3 v g3 (λ w4 r4 z t4 e4 g4.
    let mode = mode_for-some s w3 m e3 in
    let init = init_for-some s w4 z e4 in
    let from_3 : r3 ≡ signed_decimal z ++ 32 ∷ r4 = t4 ∙ ap (λ (w : List ℕ). w ++ 32 ∷ r4) init.text in
    let from_2 : r2 ≡ mode_in s m ++ 32 ∷ (signed_decimal z ++ 32 ∷ r4) =
    t3 ∙ (ap (λ (w : List ℕ). w ++ 32 ∷ r3) mode.0 ∙ ap (λ (t : List ℕ). mode_in s m ++ 32 ∷ t) from_3) in
    let from_1 : r1 ≡ sort_word s ++ 32 ∷ (mode_in s m ++ 32 ∷ (signed_decimal z ++ 32 ∷ r4)) =
    t2 ∙ (ap (λ (w : List ℕ). w ++ 32 ∷ r2) (sort_of-some w2 s e2) ∙ ap (λ (t : List ℕ). sort_word s ++ 32 ∷ t) from_2) in
    let from_0 : text ≡ var_kind_word kind ++ 32 ∷ (sort_word s ++ 32 ∷ (mode_in s m ++ 32 ∷ (signed_decimal z ++ 32 ∷ r4))) =
    t1 ∙ (ap (λ (w : List ℕ). w ++ 32 ∷ r1) (var_kind_of-some w1 kind e1) ∙ ap (λ (t : List ℕ). var_kind_word kind ++ 32 ∷ t) from_1) in
    named_var line r4 kind s m z v mode.1 init.fits init.small
    (behind-some (codes "d ") line text e ∙ ap (λ (t : List ℕ). codes "d " ++ t) from_0) g4)))))

-- it has no newline in it
pub var_line-is : (v : Var) → IsVar v → IsLine (var_line v)
var_line-is v h =
    line_then (codes "d ") (var_kind_word v.kind ++ (32 ∷ from_sort v)) refl
    (word_line (var_kind_word v.kind) (from_sort v) (var_kind_is_word v.kind)
    (word_line (sort_word v.sort) (from_mode v) (sort_is_word v.sort)
    (word_line (mode_in v.sort v.mode) (from_init v) (mode_in_is_word v.sort v.mode)
    (word_line (signed_decimal v.init) v.name (signed_word v.init (init_small (unsigned_abs v.init) h.small)) (name_line v.name h.named)))))

-- ---- events

-- the line of an event is read as it
pub event_of-line : (x : EventDecl) → IsEvent x → event_of (event_line x) ≡ Some x
unfolding event_of
event_of-line x h =
    ap (λ (o : Option (List ℕ)). option_and_then (word_then event_kind_of event_with_kind) o) (behind-append (codes "e ") (event_kind_word x.kind ++ (32 ∷ x.name)))
    ∙ (word_then-line event_kind_of event_with_kind (event_kind_word x.kind) x.name x.kind (event_kind_is_word x.kind).0 (event_kind_of-word x.kind)
    ∙ ap (λ (o : Option (List ℕ)). option_map (λ name. record { name = name; kind = x.kind }) o) (name_of-name x.name h))

-- an event that a line spells
abbrev IsEventLine : List ℕ → EventDecl → Type 0
IsEventLine line x = (line ≡ event_line x) × IsEvent x

-- only the line of the event is read so
pub event_of-some : (line : List ℕ) (x : EventDecl) → event_of line ≡ Some x → IsEventLine line x
unfolding event_of
event_of-some line x h =
    option_and_then_some (word_then event_kind_of event_with_kind) (behind (codes "e ") line) x h (λ text e g.
    word_then-some event_kind_of event_with_kind text x g (λ w r kind t is k.
    option_map_some (λ name. record { name = name; kind = kind }) (name_of r) x k (λ name n made.
    let got = name_of-some r name n in
    let text_is : text ≡ event_kind_word kind ++ 32 ∷ name =
    t ∙ (ap (λ (v : List ℕ). v ++ 32 ∷ r) (event_kind_of-some w kind is) ∙ ap (λ (v : List ℕ). event_kind_word kind ++ 32 ∷ v) got.0) in
    subst (IsEventLine line) made (behind-some (codes "e ") line text e ∙ ap (λ (v : List ℕ). codes "e " ++ v) text_is, got.1))))

-- it has no newline in it
pub event_line-is : (x : EventDecl) → IsEvent x → IsLine (event_line x)
event_line-is x h =
    line_then (codes "e ") (event_kind_word x.kind ++ (32 ∷ x.name)) refl
    (word_line (event_kind_word x.kind) x.name (event_kind_is_word x.kind) (name_line x.name h))
