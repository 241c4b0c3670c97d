-- What statements and functions of the C do, by C99: a big step over the struct and the locals, with fuel, one unit for
-- each call that is open and for each turn of `while`. It goes wrong where C leaves the behaviour undefined or to the
-- implementation.
use Rattle.std.specs.Prelude.{ℕ, zero, suc, ◌==◌, ◌&&◌, ℤ, pos, int_le, Bool, true, false, List, [], ◌∷◌, map}
use Rattle.std.specs.Prelude.{replicate, Option, Some, None}
use Rattle.std.specs.Prelude.{slice_get, slice_set, slice_index_or, if◌then◌else◌}
use Rattle.c_subset.specs.Trees.{Width, CType, Signed, Unsigned, Truth, CExpr, Case, Function, Row, File}
use Rattle.c_subset.specs.Trees.{Block, End, Set, Store as PutField, StoreAt, Call, Select, If, While, Return}
use Rattle.c_subset.specs.Meaning.{bits, CValue, Meaning, Gives, Wrong, with_meaning, converted, promoted, is_true}
use Rattle.c_subset.specs.Meaning.{Object, Store, Locals, element, meaning}

-- how statements end, and a function (which doesn't fall through): after the last one; by `return` with a value;
-- without fuel; or without a meaning
pub data Outcome : Type 0 where
  Falls : Store → Locals → Outcome
  Returns : Store → CValue → Outcome
  Starves : Outcome
  GoesWrong : Outcome

-- goes on with the value of an expression
abbrev pub with_value : Meaning → (CValue → Outcome) → Outcome
with_value (Gives x) f = f x
with_value Wrong f = GoesWrong

-- goes on where statements fell through
abbrev pub and_on : Outcome → (Store → Locals → Outcome) → Outcome
and_on (Falls s l) f = f s l
and_on (Returns s x) f = Returns s x
and_on Starves f = Starves
and_on GoesWrong f = GoesWrong

-- goes on with what a function returned; one that fell through has no value (6.9.1 p12)
abbrev pub and_with : Outcome → (Store → CValue → Outcome) → Outcome
and_with (Falls s l) f = GoesWrong
and_with (Returns s x) f = f s x
and_with Starves f = Starves
and_with GoesWrong f = GoesWrong

-- ---- objects

-- the same type
abbrev pub same_type : CType → CType → Bool
same_type (Signed v) (Signed w) = bits v == bits w
same_type (Signed v) (Unsigned w) = false
same_type (Signed v) Truth = false
same_type (Unsigned v) (Signed w) = false
same_type (Unsigned v) (Unsigned w) = bits v == bits w
same_type (Unsigned v) Truth = false
same_type Truth (Signed w) = false
same_type Truth (Unsigned w) = false
same_type Truth Truth = true

-- no local has a value (6.2.4 p5)
abbrev pub no_locals : Locals
no_locals t k = None

-- the locals, where that of a type and a number has a value
abbrev pub with_local : Locals → CType → ℕ → ℤ → Locals
with_local l t k z = λ u i. if (i == k) && same_type u t then Some z else l u i

-- an object with a value of its type
abbrev pub object_of : CValue → Object
object_of x = record { type = x.type; value = Some x.value }

-- the value brought to the type of an object (6.5.16.1 p2), Wrong where there is none
abbrev pub brought_to : Option Object → ℤ → Meaning
brought_to (Some o) z = converted o.type z
brought_to None z = Wrong

-- the struct, where a field has a value
abbrev pub with_field : Store → ℕ → CValue → Store
with_field s f x = record s { fields = slice_set s.fields f (object_of x) }

-- the entries, where that with an index is x
abbrev pub with_entry : List Object → ℤ → Object → List Object
with_entry row (pos i) x = slice_set row i x
with_entry row other x = row

-- the struct, where an element has a value
abbrev pub with_element : Store → ℕ → ℤ → CValue → Store
with_element s a i x =
    record s { rows = slice_set s.rows a (with_entry (slice_index_or s.rows a []) i (object_of x)) }

-- ---- calls

-- what a call of a function does: its number, and its arguments
abbrev pub Calls : Type 0
Calls = ℕ → List CValue → Store → Outcome

-- goes on with the values of arguments, from the first to the last; without side effects, their order makes no
-- difference (6.5.2.2 p10)
unfoldable pub with_values : Width → Store → Locals → List CExpr → (List CValue → Outcome) → Outcome
with_values int s l [] f = f []
with_values int s l (e ∷ rest) f =
    with_value (meaning int s l e) (λ x. with_values int s l rest (λ xs. f (x ∷ xs)))

-- `x = f(..)`: the value is brought to the type of the local
abbrev pub called : Outcome → CType → ℕ → Locals → (Store → Locals → Outcome) → Outcome
called o t k l go = and_with o (λ s x. with_value (converted t x.value) (λ y. go s (with_local l t k y.value)))

-- `switch` (6.8.4.2 p5): each label is brought to the promoted type of the value. The first that equals the value tells
-- the function; where none does, nothing is called
abbrev pub selected : CType → ℤ → List Case → (ℕ → Outcome) → Outcome → Outcome
selected t z [] go else_on = else_on
selected t z (c ∷ cases) go else_on = with_value (converted t (pos c.label)) (λ y.
    if int_le y.value z && int_le z y.value then go c.function else selected t z cases go else_on)

-- ---- statements

-- one turn after another, while the test is true (6.8.5 p4)
unfoldable pub turns : ℕ → (Store → Locals → Meaning) → (Store → Locals → Outcome) → Store → Locals → Outcome
turns zero test turn s l = Starves
turns (suc k) test turn s l =
    with_value (test s l) (λ x. if is_true x.value then and_on (turn s l) (turns k test turn) else Falls s l)

-- The ending of statements from a struct and locals, where calls do that, and `while` has so many turns
unfoldable pub outcome : Width → Calls → ℕ → Block → Store → Locals → Outcome
-- 6.8.2 p3
outcome int call k End s l = Falls s l
-- 6.5.16.1 p2
outcome int call k (Set t i e rest) s l =
    with_value (with_meaning (meaning int s l e) (λ x. converted t x.value))
    (λ y. outcome int call k rest s (with_local l t i y.value))
-- 6.5.16.1 p2
outcome int call k (PutField f e rest) s l =
    with_value (with_meaning (meaning int s l e) (λ x. brought_to (slice_get s.fields f) x.value))
    (λ y. outcome int call k rest (with_field s f y) l)
-- 6.5.2.1 p2, 6.5.6 p8, 6.5.16.1 p2
outcome int call k (StoreAt a i e rest) s l = with_value (meaning int s l i) (λ n.
    with_value (with_meaning (meaning int s l e) (λ x. brought_to (element (slice_get s.rows a) n.value) x.value))
    (λ y. outcome int call k rest (with_element s a n.value y) l))
-- 6.5.2.2 p4
outcome int call k (Call t i f args rest) s l =
    with_values int s l args (λ xs. called (call f xs s) t i l (λ v m. outcome int call k rest v m))
-- 6.8.4.2 p4, 6.8.6.3 p2
outcome int call k (Select t i e cases args rest) s l = with_value (meaning int s l e) (λ n.
    with_value (converted (promoted int n.type) n.value) (λ p. with_values int s l args (λ xs.
    selected p.type p.value cases (λ f. called (call f xs s) t i l (λ v m. outcome int call k rest v m))
    (outcome int call k rest s l))))
-- 6.8.4.1 p2
outcome int call k (If e a b rest) s l = with_value (meaning int s l e) (λ x.
    and_on (if is_true x.value then outcome int call k a s l else outcome int call k b s l)
    (λ v m. outcome int call k rest v m))
-- 6.8.5.1
outcome int call k (While e a rest) s l =
    and_on (turns k (λ v m. meaning int v m e) (λ v m. outcome int call k a v m) s l)
    (λ v m. outcome int call k rest v m)
-- 6.8.6.4 p3
outcome int call k (Return e) s l = with_value (meaning int s l e) (λ x. Returns s x)

-- ---- functions

-- goes on with the locals in which the parameters from number k on have the arguments, brought to their types (6.5.2.2
-- p7); there are as many of the ones as of the others (6.5.2.2 p2)
unfoldable pub with_arguments : List CType → List CValue → ℕ → Locals → (Locals → Outcome) → Outcome
with_arguments [] [] k l f = f l
with_arguments [] (x ∷ xs) k l f = GoesWrong
with_arguments (t ∷ ts) [] k l f = GoesWrong
with_arguments (t ∷ ts) (x ∷ xs) k l f =
    with_value (converted t x.value) (λ y. with_arguments ts xs (suc k) (with_local l t k y.value) f)

-- the value that is returned, brought to the function's type (6.8.6.4 p3)
abbrev pub returned : CType → Outcome → Outcome
returned t o = and_with o (λ s x. with_value (converted t x.value) (λ y. Returns s y))

-- a call of a function that is there
abbrev pub run : Width → Calls → ℕ → Option Function → List CValue → Store → Outcome
run int call k None xs s = GoesWrong
run int call k (Some f) xs s =
    with_arguments f.parameters xs 0 no_locals (λ l. returned f.result (outcome int call k f.body s l))

-- A call of a function of the file, with so much fuel
unfoldable pub call : File → Width → ℕ → Calls
call file int zero f xs s = Starves
call file int (suc k) f xs s = run int (call file int k) k (slice_get file.functions f) xs s

-- the struct before anything is stored in it (6.7.8 p10)
abbrev pub no_values : File → Store
no_values file = record {
  fields = map (λ (t : CType). record { type = t; value = None }) file.fields;
  rows = map (λ (r : Row). replicate r.size (record { type = r.type; value = None })) file.rows;
}
