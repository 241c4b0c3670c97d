-- The kinds of instructions, by how a run goes on after them.
use Rattle.std.proofs.Common.{◌≡◌, ◌≤◌, ◌<◌, ℕ, suc, arith, Bool, true, false, List, [], ◌∷◌, drop, Option, Some, None}
use Rattle.std.proofs.Common.{Ok, Err, refl, ap, ◌∙◌}
use Rattle.std.specs.Prelude.{slice_index, not, ◌&&◌, if◌then◌else◌}
use Rattle.active_config.specs.Marks.{Configuration}
use Rattle.actions.specs.Data.{Datum}
use Rattle.actions.specs.Exprs.{Expr, Lit, Flag, Read, Active, Neg, Not, Bin}
use Rattle.actions.specs.declared.expr.Value.TheVariants.{Flag as FlagValue, Number}
use Rattle.fixed_point.specs.Numbers.{negation_of}
use Rattle.actions.specs.Values.{Valued, number_of, value_of, flag_of, with_value, decides, applied}
use Rattle.actions.specs.Changes.{truth_of, truth}
use Rattle.code_language.specs.Instrs.{Cond, On, Bare, OnHome, BareHome, Current, Result as ResultIs, Test, Last}
use Rattle.code_language.specs.Instrs.{Instr, Assign, Emit, Mark, Clear, Keep, Unless, Skip, Call, Visit, Send}
use Rattle.code_language.specs.Instrs.{SendTo, Play, Home, Begin, Pass, Ret}
use Rattle.code_language.specs.Measures.{work_from}
use Rattle.code_language.specs.WellFormed.{skips_within, is_ret}
use Rattle.std.proofs.lemmas.Bool.{ltb-true}
use Rattle.code_shrink.specs.Follows.{goes_on, IsAlways, Slides, Skips, Holds, Fails}
use Rattle.code_shrink.specs.Neat.{is_closed, nowhere, truth_in, constant_truth}
use Rattle.code_shrink.specs.Smaller.{decided, folded_test, folded}

-- ---- constant tests

-- both of two tests
both : (a b : Bool) → (a && b) ≡ true → (a ≡ true) × (b ≡ true)
both true b e = (refl, e)
both false b e = absurd cc

-- what reads no datum and no state has the same value everywhere
pub same_value : (vals vals' : List Datum) (marks marks' : Configuration) (e : Expr) → is_closed e ≡ true
    → value_of vals marks e ≡ value_of vals' marks' e
unfolding is_closed value_of
same_value vals vals' marks marks' (Lit x) h = refl
same_value vals vals' marks marks' (Flag b) h = refl
same_value vals vals' marks marks' (Read v) h = absurd cc
same_value vals vals' marks marks' (Active s) h = absurd cc
same_value vals vals' marks marks' (Neg a) h =
    ap (λ r. with_value r (λ x. Ok (Number (negation_of (number_of x))))) (same_value vals vals' marks marks' a h)
same_value vals vals' marks marks' (Not a) h =
    ap (λ r. with_value r (λ x. Ok (FlagValue (not (flag_of x))))) (same_value vals vals' marks marks' a h)
same_value vals vals' marks marks' (Bin op a b) h =
    let parts = both (is_closed a) (is_closed b) h in
    ap (λ r. with_value r (λ left. if decides op left then Ok left else with_value (value_of vals marks b)
    (applied op left)))
    (same_value vals vals' marks marks' a parts.0)
    ∙ ap (λ s. with_value (value_of vals' marks' a) (λ left. if decides op left then Ok left else with_value s
    (applied op left)))
    (same_value vals vals' marks marks' b parts.1)

-- the truth of a value that has one
truth_out : (r : Valued) (b : Bool) → truth_in r ≡ Some b → truth r ≡ Ok b
truth_out (Ok x) b e = cc
truth_out (Err x) b e = absurd cc

-- what holds of a choice that isn't none
chosen : (c : Bool) (o : Option Bool) (b : Bool) → (if c then o else None) ≡ Some b → (c ≡ true) × (o ≡ Some b)
chosen true o b e = (refl, e)
chosen false o b e = absurd cc

-- a constant test has its truth in every world
pub always : (e : Expr) (b : Bool) → constant_truth e ≡ Some b → IsAlways e b
unfolding constant_truth truth_of
always e b h w =
    let parts = chosen (is_closed e) (truth_in (value_of [] nowhere e)) b h in
    ap truth (same_value w.vals [] w.marks nowhere e parts.0) ∙ truth_out (value_of [] nowhere e) b parts.1

-- ---- kinds

-- an instruction goes on, returns, tests, or jumps as this skip
pub data Kind : Instr → Instr → Type 0 where
  Plain : (x : Instr) → goes_on x ≡ true → Kind x x
  Return : (r : ℕ) → Kind (Ret r) (Ret r)
  Tests : (k : ℕ) (c : Cond) → Kind (Unless k c) (Unless k c)
  Jump : (x : Instr) (k : ℕ) → ((rest : List Instr) → Slides (x ∷ rest) (drop k rest))
      → ((w : ℕ → ℕ) (ls : List ℕ) → suc (slice_index ls k) ≤ work_from w x ls)
      → ((behind : ℕ) → 0 < behind → skips_within behind x ≡ true → k < behind) → is_ret x ≡ false → Kind x (Skip k)

-- a test that may be decided
kind_test : (k : ℕ) (e : Expr) (o : Option Bool) → constant_truth e ≡ o → Kind (Unless k (Test e)) (decided k e o)
unfolding work_from skips_within is_ret
kind_test k e None h = Tests k (Test e)
kind_test k e (Some true) h =
    Jump (Unless k (Test e)) 0 (λ rest. Holds k e rest (always e true h)) (λ w ls. omega arith)
    (λ behind more h. more) refl
kind_test k e (Some false) h =
    Jump (Unless k (Test e)) k (λ rest. Fails k e rest (always e false h)) (λ w ls. omega arith)
    (λ behind more h. ltb-true k behind h) refl

-- a test
kind_cond : (k : ℕ) (c : Cond) → Kind (Unless k c) (folded_test k c)
kind_cond k (On s) = Tests k (On s)
kind_cond k (Bare s) = Tests k (Bare s)
kind_cond k OnHome = Tests k OnHome
kind_cond k BareHome = Tests k BareHome
kind_cond k (Current e) = Tests k (Current e)
kind_cond k (ResultIs r) = Tests k (ResultIs r)
kind_cond k (Test e) = kind_test k e (constant_truth e) refl
kind_cond k (Last s) = Tests k (Last s)

-- each instruction, and what is left of it once constant tests are decided
pub kind : (x : Instr) → Kind x (folded x)
unfolding goes_on work_from skips_within is_ret
kind (Assign v x) = Plain (Assign v x) refl
kind (Emit e) = Plain (Emit e) refl
kind (Mark s) = Plain (Mark s) refl
kind (Clear s) = Plain (Clear s) refl
kind (Keep s) = Plain (Keep s) refl
kind (Unless k c) = kind_cond k c
kind (Skip k) = Jump (Skip k) k (λ rest. Skips k rest) (λ w ls. omega arith) (λ behind more h. ltb-true k behind h) refl
kind (Call p tag) = Plain (Call p tag) refl
kind (Visit p tag) = Plain (Visit p tag) refl
kind (Send e) = Plain (Send e) refl
kind (SendTo e s p) = Plain (SendTo e s p) refl
kind Play = Plain Play refl
kind (Home s) = Plain (Home s) refl
kind Begin = Plain Begin refl
kind Pass = Plain Pass refl
kind (Ret r) = Return r
