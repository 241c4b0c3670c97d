-- The locals that lines set stand after the parameters.
use Rattle.std.proofs.Common.{◌≡◌, ℕ, suc, ◌+◌, ◌≤◌, Bool, true, false, List, [], ◌∷◌, ◌++◌, length, refl, ap, arith}
use Rattle.std.proofs.Common.{Option, Some, None, cond}
use Rattle.std.specs.List.{list_any}
use Rattle.std.proofs.lemmas.List.{length_push}
use Rattle.c_subset.specs.declared.trees.CType.{CType}
use Rattle.c_subset.specs.Lines.{Line}
use Rattle.c_text.specs.declared.locals.LocalName.{LocalName}
use Rattle.c_text.specs.Reading.{same_local}
use Rattle.c_text.specs.Functions.{local_set, with_local, with_locals, parameters_from}

-- as many as parameters
pub parameters-length : (k : ℕ) (ts : List CType) → length (parameters_from k ts) ≡ length ts
parameters-length k [] = refl
parameters-length k (t ∷ ts) = ap suc (parameters-length (k + 1) ts)

-- one that is there already adds none, another one adds one
added : (seen : List LocalName) (x : LocalName) (b : Bool)
    → length seen ≤ length (cond b seen (seen ++ x ∷ []))
added seen x true = omega arith
added seen x false = omega (arith, length_push seen x)

-- a local takes none away
local-kept : (seen : List LocalName) (x : Option LocalName) → length seen ≤ length (with_local seen x)
local-kept seen None = omega arith
local-kept seen (Some x) = added seen x (list_any (same_local x) seen)

-- nor do lines
pub locals-kept : (lines : List Line) (seen : List LocalName) (xs : List Line)
    → length seen ≤ length (with_locals lines seen xs)
locals-kept lines seen [] = omega arith
locals-kept lines seen (x ∷ xs) =
    omega (
      arith,
      local-kept seen (local_set lines x),
      locals-kept lines (with_local seen (local_set lines x)) xs,
    )
