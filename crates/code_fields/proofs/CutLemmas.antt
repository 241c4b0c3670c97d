-- The parts of a text round a byte.
use Rattle.std.proofs.Common.{◌≡◌, ℕ, zero, suc, ◌+◌, ◌<◌, Bool, true, false, nat_eq, List, [], ◌∷◌, ◌++◌}
use Rattle.std.proofs.Common.{length, take, drop, Option, Some, None, refl, sym, ap, ◌∙◌, arith}
use Rattle.std.proofs.lemmas.Bool.{eqb-true, false_from_ne_true}
use Rattle.std.proofs.lemmas.Bool.Decides.{nat_tests}
use Rattle.std.proofs.lemmas.Option.{none-some, same_Some, option_and_then_some}
use Rattle.std.specs.Prelude.{if◌then◌else◌, option_map, option_and_then}
use Rattle.std.specs.List.{AllByRecursion}
use Rattle.memchr.specs.Find.{Nowhere, Passes, IsFirstByte, is_byte}
use Rattle.code_fields.specs.Cuts.{Parts, parts_with, parts_at, Field, field_at, field_of, joined}
use Rattle.code_fields.specs.Fields.{word_then}

-- the parts round the byte at a place
abbrev parts_round : ℕ → List ℕ → Parts
parts_round n text = record { front = take n text; rest = drop (n + 1) text }

-- the parts round the first such byte
found : (byte n : ℕ) (text : List ℕ) → n < length text → Nowhere (Passes (is_byte byte) text) 0 n
    → Passes (is_byte byte) text n → parts_at byte text ≡ Some (parts_round n text)
found byte n [] lt before here = absurd (omega arith)
found byte zero (b ∷ text) lt before here = rw here refl
found byte (suc n) (b ∷ text) lt before here =
    let other : nat_eq b byte ≡ false = false_from_ne_true _ (before 0 (omega arith) (omega arith)) in
    let rest = found byte n text (omega arith) (λ k low high. before (suc k) (omega arith) (omega arith)) here in
    let next : suc n + 1 ≡ suc (n + 1) = omega arith in
    rw (other, rest, next) refl

-- a search that found such a byte
pub parts_at-found : (byte : ℕ) (text : List ℕ) (n : ℕ) → IsFirstByte (is_byte byte) text (Some n)
    → Some (parts_round n text) ≡ parts_at byte text
parts_at-found byte text n first = sym (found byte n text first.0.high first.0.before first.1)

-- and one that found none
pub parts_at-missing : (byte : ℕ) (text : List ℕ) → IsFirstByte (is_byte byte) text None → None ≡ parts_at byte text
parts_at-missing byte [] first = refl
parts_at-missing byte (b ∷ text) first =
    let other : nat_eq b byte ≡ false = false_from_ne_true _ (first 0 (omega arith) (omega arith)) in
    let rest = parts_at-missing byte text (λ k low high. first (suc k) (omega arith) (omega arith)) in
    rw (other, ← rest) refl

-- where a value that is made of another is there, so is the other
pub option_map_some : {A B P : Type 0} (f : A → B) (o : Option A) (y : B) → option_map f o ≡ Some y
    → ((x : A) → o ≡ Some x → f x ≡ y → P) → P
option_map_some f None y h k = absurd (none-some y h)
option_map_some f (Some x) y h k = k x refl (same_Some (f x) y h)

-- the parts of a text round a byte
part_some : (b byte : ℕ) (text : List ℕ) (here : Bool) (before : Option Parts) (parts : Parts)
    → (here ≡ true → b ≡ byte)
    → ((p : Parts) → before ≡ Some p → text ≡ p.front ++ byte ∷ p.rest)
    → (if here then Some (record { front = []; rest = text }) else option_map (parts_with b) before) ≡ Some parts
    → b ∷ text ≡ parts.front ++ byte ∷ parts.rest
part_some b byte text true before parts same e h =
    rw (same refl) (ap (λ (p : Parts). p.front ++ byte ∷ p.rest) (same_Some (record { front = []; rest = text }) parts h))
part_some b byte text false before parts same e h =
    option_map_some (parts_with b) before parts h (λ p is made.
    ap (λ (t : List ℕ). b ∷ t) (e p is) ∙ ap (λ (p' : Parts). p'.front ++ byte ∷ p'.rest) made)

-- the parts and the byte between them make the text
pub parts_at-some : (byte : ℕ) (text : List ℕ) (parts : Parts) → parts_at byte text ≡ Some parts
    → text ≡ parts.front ++ byte ∷ parts.rest
parts_at-some byte [] parts h = absurd (none-some parts h)
parts_at-some byte (b ∷ text) parts h = part_some b byte text (nat_eq b byte) (parts_at byte text) parts (eqb-true b byte) (parts_at-some byte text) h

-- a text without that byte
abbrev pub Lacks : ℕ → List ℕ → Type 0
Lacks byte text = AllByRecursion (λ b. nat_eq b byte ≡ false) text

-- a byte is itself
same_byte : (b : ℕ) → nat_eq b b ≡ true
same_byte b = grind (arith, nat_tests)

-- a front without the byte is the first part
pub parts_at-front : (byte : ℕ) (front rest : List ℕ) → Lacks byte front
    → parts_at byte (front ++ byte ∷ rest) ≡ Some (record { front = front; rest = rest })
parts_at-front byte [] rest h = rw (same_byte byte) refl
parts_at-front byte (b ∷ front) rest h = rw (h.0, parts_at-front byte front rest h.1) refl

-- a text without the byte has no parts
pub parts_at-none : (byte : ℕ) (text : List ℕ) → Lacks byte text → parts_at byte text ≡ None
parts_at-none byte [] h = refl
parts_at-none byte (b ∷ text) h = rw (h.0, parts_at-none byte text h.1) refl

-- a word without a space is the first word of what begins with it
pub field_of-joined : (word : List ℕ) (rest : Option (List ℕ)) → Lacks 32 word
    → field_of (joined word rest) ≡ record { word = word; rest = rest }
unfolding field_of
field_of-joined word None h = ap (field_at word) (parts_at-none 32 word h)
field_of-joined word (Some rest) h = ap (field_at (word ++ 32 ∷ rest)) (parts_at-front 32 word rest h)

-- a text is its first word and what follows
at_is_joined : (text : List ℕ) (o : Option Parts) → parts_at 32 text ≡ o
    → text ≡ joined (field_at text o).word (field_at text o).rest
at_is_joined text None e = refl
at_is_joined text (Some parts) e = parts_at-some 32 text parts e

-- every text is
pub field_of-is : (text : List ℕ) → text ≡ joined (field_of text).word (field_of text).rest
unfolding field_of
field_of-is text = at_is_joined text (parts_at 32 text) refl

-- what a word says goes on
pub word_then-line : {A B : Type 0} (reads : List ℕ → Option A) (go : A → List ℕ → Option B) (word rest : List ℕ) (x : A)
    → Lacks 32 word → reads word ≡ Some x → word_then reads go (word ++ 32 ∷ rest) ≡ go x rest
word_then-line reads go word rest x lacks h =
    ap (λ (o : Option Parts). option_and_then (λ (parts : Parts). option_and_then (λ y. go y parts.rest) (reads parts.front)) o) (parts_at-front 32 word rest lacks)
    ∙ ap (λ o. option_and_then (λ y. go y rest) o) h

-- and what comes of it comes of a word
pub word_then-some : {A B P : Type 0} (reads : List ℕ → Option A) (go : A → List ℕ → Option B) (text : List ℕ) (y : B)
    → word_then reads go text ≡ Some y
    → ((word rest : List ℕ) (x : A) → text ≡ word ++ 32 ∷ rest → reads word ≡ Some x → go x rest ≡ Some y → P) → P
word_then-some reads go text y h k =
    option_and_then_some (λ (parts : Parts). option_and_then (λ x. go x parts.rest) (reads parts.front)) (parts_at 32 text) y h (λ parts e g.
    option_and_then_some (λ x. go x parts.rest) (reads parts.front) y g (λ x is goes.
    k parts.front parts.rest x (parts_at-some 32 text parts e) is goes))
