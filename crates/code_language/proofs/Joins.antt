-- How stretches of a run go together, and with pieces of work.
use Rattle.std.proofs.Common.{◌≡◌, ℕ, zero, suc, Bool, true, false, Option, Some, None, refl, ap, sym, subst, ◌∙◌}
use Rattle.flow_base.specs.declared.fault.Fault.{Fault}
use Rattle.actions.specs.World.{World}
use Rattle.actions.specs.Work.{Run, Ended, Faulted, Unfinished, Work, then_do, choose, if_some}
use Rattle.code_language.specs.Machine.{Program, CodeState, run, and_then}
use Rattle.code_language.specs.Reach.{ReachesIn, Reaches, Falls, Aim, Arrives, MeetsAim, MeetsBy}

-- one stretch after another
joined : (C : Program) (n k : ℕ) (m m1 m2 : CodeState) → ReachesIn C n m m1 → ReachesIn C k m1 m2
    → (j : ℕ) × ReachesIn C j m m2
joined C zero k m m1 m2 a b = (k, subst (λ x. ReachesIn C k x m2) (sym a) b)
joined C (suc n) k m m1 m2 a b = let x = joined C n k a.0 m1 m2 a.2 b in (suc x.0, (a.0, a.1, x.1))

-- a run from the second state is, with more steps, a run from the first one
pub runs_on : (C : Program) (n k : ℕ) (m m' : CodeState) → ReachesIn C n m m' → (j : ℕ) × (run C j m ≡ run C k m')
runs_on C zero k m m' e = (k, ap (λ x. run C k x) e)
runs_on C (suc n) k m m' a =
    let x = runs_on C n k a.0 m' a.2 in (suc x.0, ap (λ o. and_then o (run C x.0)) a.1 ∙ x.1)

-- a state leads to itself
pub here : {C : Program} {m : CodeState} → Reaches C m m
here = record { steps = 0; by = refl }

-- two stretches are one
pub on_to : {C : Program} {m m1 m2 : CodeState} → Reaches C m m1 → Reaches C m1 m2 → Reaches C m m2
on_to {C = C} {m = m} {m1 = m1} {m2 = m2} a b =
    let x = joined C a.steps b.steps m m1 m2 a.by b.by in record { steps = x.0; by = x.1 }

-- a stretch and then a fault
pub falls_on : {C : Program} {m m1 : CodeState} {w : World} {x : Fault} → Reaches C m m1 → Falls C m1 w x → Falls C m w x
falls_on {C = C} {m = m} {m1 = m1} a b =
    record { by = let y = b.by in let x = runs_on C a.steps y.0 m m1 a.by in (x.0, x.1 ∙ y.1) }

-- some steps before what an end asks for
meets_by : {A : Type 0} (C : Program) (m m1 : CodeState) (G : Aim A) (o : Run A) → Reaches C m m1 → MeetsBy C m1 G o
    → MeetsBy C m G o
meets_by C m m1 G (Ended a w) s h = record { facts = h.facts; reached = on_to s h.reached }
meets_by C m m1 G (Faulted x w) s h = falls_on s h
meets_by C m m1 G Unfinished s h = tt

-- some steps that the rules don't speak of, before
pub meets_on : {A : Type 0} {C : Program} {m m1 : CodeState} {G : Aim A} {o : Run A} → Reaches C m m1 → MeetsAim C m1 G o
    → MeetsAim C m G o
meets_on {C = C} {m = m} {m1 = m1} {G = G} {o = o} s h = record { by = meets_by C m m1 G o s h.by }

-- work that ends at once
pub meets_end : {A : Type 0} {C : Program} {m : CodeState} {G : Aim A} {a : A} {w : World} (i : G.Facts a w)
    → Reaches C m (G.stands a w i) → MeetsAim C m G (Ended a w)
meets_end i s = record { by = record { facts = i; reached = s } }

-- work that ends in a fault
pub meets_fall : {A : Type 0} {C : Program} {m : CodeState} {G : Aim A} {x : Fault} {w : World} → Falls C m w x
    → MeetsAim C m G (Faulted x w)
meets_fall s = record { by = s }

-- unfinished work asks for nothing
pub meets_unfinished : {A : Type 0} {C : Program} {m : CodeState} {G : Aim A} → MeetsAim C m G Unfinished
meets_unfinished = record { by = tt }

-- what a piece of work keeps: P holds of the world with which it ended
abbrev pub Leaving : {A : Type 0} → (World → Type 0) → Run A → Type 0
Leaving P (Ended a w) = P w
Leaving P (Faulted x w) = Unit {0}
Leaving P Unfinished = Unit {0}

-- P holds of the world with which a piece of work ended
pub record Leaves {A : Type 0} (P : World → Type 0) (o : Run A) : Type 0 where
  pub by : Leaving P o

-- first a piece of work and then the rest, by how the first ends
then_by : {A B : Type 0} (C : Program) (m : CodeState) (G : Aim A) (H : Aim B) (o : Run A) (g : A → Work B)
    → MeetsBy C m G o → ((a : A) (w : World) (i : G.Facts a w) → MeetsAim C (G.stands a w i) H (g a w))
    → MeetsAim C m H (then_do o g)
then_by C m G H (Ended a w) g h t = meets_on h.reached (t a w h.facts)
then_by C m G H (Faulted x w) g h t = record { by = h }
then_by C m G H Unfinished g h t = record { by = tt }

-- first a piece of work, and then the rest
pub then_meets : {A B : Type 0} {C : Program} {m : CodeState} {G : Aim A} {H : Aim B} {o : Run A} {g : A → Work B}
    → MeetsAim C m G o → ((a : A) (w : World) (i : G.Facts a w) → MeetsAim C (G.stands a w i) H (g a w))
    → MeetsAim C m H (then_do o g)
then_meets {C = C} {m = m} {G = G} {H = H} {o = o} {g = g} h t = then_by C m G H o g h.by t

-- the same, where P holds in between
with_by : {A B : Type 0} (C : Program) (m : CodeState) (G : Aim A) (H : Aim B) (P : World → Type 0) (o : Run A)
    (g : A → Work B) → Leaving P o → MeetsBy C m G o
    → ((a : A) (w : World) (i : G.Facts a w) → P w → MeetsAim C (G.stands a w i) H (g a w)) → MeetsAim C m H (then_do o g)
with_by C m G H P (Ended a w) g l h t = meets_on h.reached (t a w h.facts l)
with_by C m G H P (Faulted x w) g l h t = record { by = h }
with_by C m G H P Unfinished g l h t = record { by = tt }

-- the same, with what the rules keep in between, as that the marks are consistent
pub then_meets_with : {A B : Type 0} {C : Program} {m : CodeState} {G : Aim A} {H : Aim B} {P : World → Type 0}
    {o : Run A} {g : A → Work B} → Leaves P o → MeetsAim C m G o
    → ((a : A) (w : World) (i : G.Facts a w) → P w → MeetsAim C (G.stands a w i) H (g a w)) → MeetsAim C m H (then_do o g)
then_meets_with {C = C} {m = m} {G = G} {H = H} {P = P} {o = o} {g = g} l h t = with_by C m G H P o g l.by h.by t

-- more steps after a piece of work, by how it ends
more_by : {A : Type 0} (C : Program) (m : CodeState) (G H : Aim A) (o : Run A) → MeetsBy C m G o
    → ((a : A) (w : World) (i : G.Facts a w) → Arrives C (G.stands a w i) H a w) → MeetsBy C m H o
more_by C m G H (Ended a w) h t =
    let k = t a w h.facts in record { facts = k.facts; reached = on_to h.reached k.reached }
more_by C m G H (Faulted x w) h t = h
more_by C m G H Unfinished h t = tt

-- a piece of work, and then some steps that the rules don't speak of
pub meets_more : {A : Type 0} {C : Program} {m : CodeState} {G H : Aim A} {o : Run A} → MeetsAim C m G o
    → ((a : A) (w : World) (i : G.Facts a w) → Arrives C (G.stands a w i) H a w) → MeetsAim C m H o
meets_more {C = C} {m = m} {G = G} {H = H} {o = o} h t = record { by = more_by C m G H o h.by t }

-- one of two pieces of work; each side may use how the test came out
pub choose_meets : {A : Type 0} {C : Program} {m : CodeState} {H : Aim A} (b : Bool) (k l : Work A) (w : World)
    → (b ≡ true → MeetsAim C m H (k w)) → (b ≡ false → MeetsAim C m H (l w)) → MeetsAim C m H (choose b k l w)
choose_meets true k l w y n = y refl
choose_meets false k l w y n = n refl

-- a number or none
pub if_some_meets : {A : Type 0} {C : Program} {m : CodeState} {H : Aim A} (o : Option ℕ) (k : Work A) (f : ℕ → Work A)
    (w : World) → (o ≡ None → MeetsAim C m H (k w)) → ((x : ℕ) → o ≡ Some x → MeetsAim C m H (f x w))
    → MeetsAim C m H (if_some o k f w)
if_some_meets None k f w n s = n refl
if_some_meets (Some x) k f w n s = s x refl
