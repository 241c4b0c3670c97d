-- The calls of a file: which function calls which, in the order of the file.
use Rattle.std.specs.Prelude.{ℕ, ◌+◌, List, [], ◌∷◌, ◌++◌, map}
use Rattle.c_subset.specs.Trees.{Function}
use Rattle.c_subset.specs.declared.trees.Case.{Case}
use Rattle.c_subset.specs.Lines.{Line, Set, Store, StoreAt, Call, Select, If, Else, While, Close, Return, lines_of}
use Rattle.c_file.specs.declared.calls.FunctionCall.{FunctionCall}

-- function f calls function g
abbrev pub call_to : ℕ → ℕ → FunctionCall
call_to f g = record { caller = f; callee = g }

-- function f calls those of the cases
abbrev pub case_calls : ℕ → List Case → List FunctionCall
case_calls f cases = map (λ (c : Case). call_to f c.function) cases

-- the calls of a line of function f
abbrev pub line_calls : ℕ → Line → List FunctionCall
line_calls f (Set t k e) = []
line_calls f (Store g e) = []
line_calls f (StoreAt a i e) = []
line_calls f (Call t k g args) = call_to f g ∷ []
line_calls f (Select t k e cases args) = case_calls f cases
line_calls f (If e) = []
line_calls f Else = []
line_calls f (While e) = []
line_calls f Close = []
line_calls f (Return e) = []

-- the calls of lines of function f
abbrev pub calls_in : ℕ → List Line → List FunctionCall
calls_in f [] = []
calls_in f (x ∷ xs) = line_calls f x ++ calls_in f xs

-- the calls of functions, of which the first one has number f
abbrev pub calls_from : ℕ → List Function → List FunctionCall
calls_from f [] = []
calls_from f (g ∷ gs) = calls_in f (lines_of g.body) ++ calls_from (f + 1) gs
