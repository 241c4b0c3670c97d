-- A file with decided tests.
use Rattle.std.specs.Prelude.{◌≡◌, ℕ, Bool, true, List, length, Some, slice_get}
use Rattle.c_subset.specs.declared.trees.Width.{Width}
use Rattle.c_subset.specs.declared.trees.CType.{CType}
use Rattle.c_subset.specs.declared.trees.Function as declared_function
use Rattle.c_subset.specs.Trees.{Block, Function, File}
use Rattle.c_subset.specs.Lines.{Line, IsFunction, lines_of}
use Rattle.c_subset.specs.Meaning.{CValue, Store}
use Rattle.c_subset.specs.Running.{Returns, call}
use Rattle.c_facts.specs.Known.{Hold}
use Rattle.c_decided.specs.Facts.{Facts, at, alone}
use Rattle.c_decided.specs.Decided.{Plan, IsDecided, Same}
use Rattle.c_decided.specs.Walk.{walked}

-- the second body is the first one with decided tests, whatever the width of int is
abbrev pub BodyIsDecided : Plan → ℕ → CType → Block → Block → Type 0
BodyIsDecided P p result a a' =
    (int : Width) → (after : Facts) × IsDecided int P p result (alone (P.begins p)) a a' after

-- a function with decided tests; one that stays is only checked
pub record IsMade (P : Plan) (p : ℕ) (f f' : Function) : Type 0 where
  pub result : f'.result ≡ f.result
  pub parameters : f'.parameters ≡ f.parameters
  pub body : BodyIsDecided P p f.result f.body f'.body
  pub stays : P.stays p ≡ true → f' ≡ f

-- each of the second functions is that of the first ones with its number, with decided tests
abbrev pub AreMade : Plan → List Function → List Function → Type 0
AreMade P fs fs' = (p : ℕ) (f : Function) → slice_get fs p ≡ Some f
    → (f' : Function) × (slice_get fs' p ≡ Some f') × IsMade P p f f'

-- a file with decided tests
pub record FileIsMade (P : Plan) (file file' : File) : Type 0 where
  pub fields : file'.fields ≡ file.fields
  pub rows : file'.rows ≡ file.rows
  pub count : length file'.functions ≡ length file.functions
  pub each : AreMade P file.functions file'.functions

-- ---- functions of the code

-- what is made of a body, and whether the plan is right for it
abbrev pub body_of : Plan → ℕ → CType → Block → Block
body_of P p result a = (walked P p result a (alone (P.begins p))).block

-- the plan is right for a body
abbrev pub is_right : Plan → ℕ → CType → Block → Bool
is_right P p result a = (walked P p result a (alone (P.begins p))).right

-- these are the lines of a body with decided tests
abbrev pub AreMadeLines : Plan → ℕ → CType → Block → List Line → Type 0
AreMadeLines P p result a lines =
    (lines ≡ lines_of (body_of P p result a)) × (is_right P p result a ≡ true)

-- this is a function with decided tests
abbrev pub IsMadeFunction : Plan → ℕ → Function → declared_function.Function → Type 0
IsMadeFunction P p f made = (f' : Function) × IsFunction made f' × IsMade P p f f'

-- there are as many functions of the code, and each has the lines of that with its number
pub record AreFunctions (fs : List declared_function.Function) (gs : List Function) : Type 0 where
  pub count : length fs ≡ length gs
  pub each : (i : ℕ) (f : declared_function.Function) (g : Function) → slice_get fs i ≡ Some f
      → slice_get gs i ≡ Some g → IsFunction f g

-- these are as many functions, with decided tests
pub record AreMadeFunctions (P : Plan) (fs : List Function) (made : List declared_function.Function) : Type 0 where
  pub functions : List Function
  pub are : AreFunctions made functions
  pub count : length functions ≡ length fs
  pub each : AreMade P fs functions

-- ---- what it is for

-- a call returns what it did, with the same fuel; it leaves what the plan says for the number that it returned, and
-- changes no other places than those of the plan
pub record IsKept (P : Plan) (int : Width) (file' : File) (k f : ℕ) (xs : List CValue) (s after : Store) (x : CValue) : Type 0
  where
    pub gives : call file' int k f xs s ≡ Returns after x
    pub leaves : Hold after (at (P.leaves f) (Some x.value))
    pub same : Same (P.touched f) s after

-- so it is with each call that returns in the first file from a struct in which the facts hold
abbrev pub CallsAreKept : Plan → File → File → Type 0
CallsAreKept P file file' = (int : Width) (k f : ℕ) (xs : List CValue) (s after : Store) (x : CValue)
    → Hold s (P.begins f) → call file int k f xs s ≡ Returns after x → IsKept P int file' k f xs s after x
