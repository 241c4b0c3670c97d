use Rattle.std.proofs.Common.{◌∷◌, sym, ◌∙◌, subst}
use Rattle.code_language.specs.Code.{instr_of, cond_of}
use Rattle.code_copies.specs.Rooted.{MakesRoot, FindsRoot, AtHome, Onward, Past}
use Rattle.code_copies.proofs.root_code.walk_on.Goals as goal

-- a test that finds the root active
pub returns-then-tells_root : goal.returns-then-tells_root
returns-then-tells_root c k rest h =
    subst (λ x. MakesRoot k c.args.home (instr_of x ∷ rest)) (sym c.in-Unless.is)
    (FindsRoot c.args.home c.in-Unless.over (cond_of c.in-Unless.cond) rest
    (sym c.tells_root.ensures ∙ c.if-tells_root.true) h)

-- a jump
pub returns-in-Skip : goal.returns-in-Skip
returns-in-Skip c k rest h =
    subst (λ x. MakesRoot k c.args.home (instr_of x ∷ rest)) (sym c.in-Skip.is) (Past c.args.home c.in-Skip.over rest h)

-- a home
pub returns-in-Home : goal.returns-in-Home
returns-in-Home c k rest h =
    subst (λ x. MakesRoot k c.args.home (instr_of x ∷ rest)) (sym c.in-Home.is)
    (AtHome c.args.home c.in-Home.state rest h)

-- what stays in its frame
pub returns-then-is_plain : goal.returns-then-is_plain
returns-then-is_plain c k rest h =
    Onward c.args.home (instr_of c.args.instr.now) rest (sym c.is_plain.ensures ∙ c.if-is_plain.true) h
