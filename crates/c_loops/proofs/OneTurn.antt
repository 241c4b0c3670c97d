-- One turn of a loop, a statement at a time.
use Rattle.std.proofs.Common.{◌≡◌, ℕ, true, false, cond, List, Bool, ap}
use Rattle.c_subset.specs.Trees.{CExpr, Block}
use Rattle.c_subset.specs.Trees as c
use Rattle.c_subset.specs.declared.trees.CType.{CType}
use Rattle.c_loops.specs.Loops.{hands_on, leads_back, rests, again}

-- a call that hands on ends it
pub again-ends : (p : ℕ) (t : CType) (i f : ℕ) (args : List CExpr) (rest : Block) → hands_on p t i f args ≡ true
    → again p (c.Call t i f args rest) ≡ c.End
unfolding again
again-ends p t i f args rest h = ap (λ (b : Bool). cond b c.End (c.Call t i f args (again p rest))) h

-- another call stays
pub again-calls : (p : ℕ) (t : CType) (i f : ℕ) (args : List CExpr) (rest : Block) → hands_on p t i f args ≡ false
    → again p (c.Call t i f args rest) ≡ c.Call t i f args (again p rest)
unfolding again
again-calls p t i f args rest h = ap (λ (b : Bool). cond b c.End (c.Call t i f args (again p rest))) h

-- an `if` that leads back
pub again-leads : (p : ℕ) (e : CExpr) (a b rest : Block) → leads_back p (rests p a) a b ≡ true
    → again p (c.If e a b rest) ≡ c.If e (again p a) (again p rest) c.End
unfolding again
again-leads p e a b rest h =
    ap (λ (q : Bool). cond q (c.If e (again p a) (again p rest) c.End) (c.If e a b (again p rest))) h

-- another one
pub again-stays : (p : ℕ) (e : CExpr) (a b rest : Block) → leads_back p (rests p a) a b ≡ false
    → again p (c.If e a b rest) ≡ c.If e a b (again p rest)
unfolding again
again-stays p e a b rest h =
    ap (λ (q : Bool). cond q (c.If e (again p a) (again p rest) c.End) (c.If e a b (again p rest))) h
