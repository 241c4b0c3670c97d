-- How a transition is written.
use Rattle.std.proofs.Common.{◌≡◌, ◌∙◌, ℕ, zero, suc, ◌+◌, ◌<◌, ◌≤◌, List, [], ◌∷◌, ◌++◌, Option, length, drop}
use Rattle.std.proofs.Common.{get_or, refl, sym, ap, subst, arith, append_assoc}
use Rattle.checked_chart.specs.declared.parts.Dest.{Dest}
use Rattle.checked_chart.specs.declared.parts.Dest.TheVariants.{State, Junction}
use Rattle.checked_chart.specs.declared.parts.ListKind.{ListKind}
use Rattle.checked_chart.specs.declared.parts.ListKind.TheVariants.{Outer, Inner, Default}
use Rattle.checked_chart.specs.declared.parts.Trans.{Trans as DeclaredTrans}
use Rattle.checked_chart.specs.Chart.{Chart, Trans, life_of}
use Rattle.checked_chart.specs.Valid.{IsDest, AreTrans}
use Rattle.checked_chart.specs.Views.{trans_seen, list_seen}
use Rattle.code_language.specs.Instrs.{Cond, Instr}
use Rattle.chart_code.specs.ListProcedures.{Search, dest_code, condition_code}
use Rattle.chart_code.specs.ListProcedures.{guarded_code, event_code, trans_code}
use Rattle.chart_code.specs.ListProcedures.{list_code}
use Rattle.chart_code.specs.Numbers.{TransNumbers, condition_of}
use Rattle.chart_code.specs.StateProcedures.{life_test}
use Rattle.code_language.specs.Instrs as instrs
use Rattle.chart_code.specs.Places.{trans_size, parts_size, trans_numbers, parts_numbers}
use Rattle.list_compile.specs.Drafts.{test_of}
use Rattle.list_compile.specs.Searches.{lasting_seen}

-- a firing and a visit are two instructions
dest_length : (S : Search) (tag : Option ℕ) (d : Dest) → length (dest_code S tag d) ≡ 2
dest_length S tag (State d) = refl {a = 2}
dest_length S tag (Junction j) = refl {a = 2}

-- the test of a search is that of its life
test_is : (s : ℕ) (kind : ListKind) → test_of (lasting_seen kind) ≡ life_test (life_of s kind)
test_is s Outer = refl
test_is s Inner = refl
test_is s Default = refl

-- its event, its guard, its condition action and where it leads are the transition
pub trans_turn : (S : Search) (t : Trans) (q : TransNumbers) (old one two three new : List Instr)
    (guard condition action : Option ℕ) → guard ≡ q.guard → condition ≡ condition_of S.kind q → action ≡ q.action
    → (lead passed : ℕ)
    → ((alive : Cond) (body : List Instr) → length body ≡ 2 → length (condition_code alive condition body) ≡ lead)
    → ((body : List Instr) → length body ≡ lead → length (guarded_code guard body) ≡ passed)
    → ((body : List Instr) → length body ≡ passed → one ++ body ≡ old ++ event_code t.event body)
    → ((body : List Instr) → length body ≡ lead → two ++ body ≡ one ++ guarded_code guard body)
    → ((body : List Instr) → three ++ body
    ≡ two ++ condition_code (test_of (lasting_seen S.kind)) condition body)
    → new ≡ three ++ dest_code S action t.dest
    → new ≡ old ++ trans_code S t q
trans_turn S t q old one two three new guard condition action g c a lead passed ll gl ev gd cd ds =
    let alive = test_of (lasting_seen S.kind) in
    let body = dest_code S action t.dest in
    let led = condition_code alive condition body in
    let led_long = ll alive body (dest_length S action t.dest) in
    ds ∙ cd body ∙ gd led led_long ∙ ev (guarded_code guard led) (gl led led_long)
    ∙ ap (λ p. old ++ event_code t.event (guarded_code p led)) g
    ∙ ap (λ p. old ++ event_code t.event (guarded_code q.guard (condition_code alive p body))) c
    ∙ ap (λ p. old ++ event_code t.event (guarded_code q.guard (condition_code alive (condition_of S.kind q)
    (dest_code S p t.dest)))) a
    ∙ ap (λ l. old ++ event_code t.event (guarded_code q.guard (condition_code l (condition_of S.kind q)
    (dest_code S q.action t.dest)))) (test_is S.state S.kind)

-- the rest of a list from an item on
pub drop_item : {A : Type 0} (xs : List A) (i : ℕ) (x : A) → i < length xs → x ≡ get_or xs i x
    → drop i xs ≡ x ∷ drop (i + 1) xs
drop_item [] i x lt e = absurd (omega arith)
drop_item (y ∷ xs) zero x lt e = ap (λ z. z ∷ xs) (sym e)
drop_item (y ∷ xs) (suc i) x lt e =
    let n : suc i + 1 ≡ suc (i + 1) = omega arith in
    drop_item xs i x (omega arith) e ∙ ap (λ k. x ∷ drop k (y ∷ xs)) (sym n)

-- after the last item nothing is left
drop_none : {A : Type 0} (xs : List A) (i : ℕ) → length xs ≤ i → drop i xs ≡ []
drop_none [] zero h = refl
drop_none [] (suc i) h = refl
drop_none (x ∷ xs) zero h = absurd (omega arith)
drop_none (x ∷ xs) (suc i) h = drop_none xs i (omega arith)

-- a transition of a chart leads where it may
pub dest_at : (c : Chart) (xs : List DeclaredTrans) (i : ℕ) (t : DeclaredTrans) → AreTrans c (list_seen xs)
    → i < length xs → t ≡ get_or xs i t → IsDest c t.dest
dest_at c [] i t are lt e = absurd (omega arith)
dest_at c (y ∷ xs) zero t are lt e = subst (λ (z : DeclaredTrans). IsDest c z.dest) (sym e) are.0.dest
dest_at c (y ∷ xs) (suc i) t are lt e = dest_at c xs i t are.1 (omega arith) e

-- the parts of the first transition of a list and those of the others
pub size_turn : (xs : List DeclaredTrans) (i number size all : ℕ) (t : DeclaredTrans) → i < length xs
    → t ≡ get_or xs i t → size ≡ trans_size (trans_seen t)
    → number + parts_size (list_seen (drop i xs)) ≡ all
    → number + size + parts_size (list_seen (drop (i + 1) xs)) ≡ all
unfolding parts_size
size_turn xs i number size all t lt e s inv =
    omega (arith, inv, s, ap (λ l. parts_size (list_seen l)) (drop_item xs i t lt e))

-- the parts of a transition are no more than those of the rest
pub size_there : (xs : List DeclaredTrans) (i : ℕ) (t : DeclaredTrans) → i < length xs → t ≡ get_or xs i t
    → trans_size (trans_seen t) ≤ parts_size (list_seen (drop i xs))
unfolding parts_size
size_there xs i t lt e = omega (arith, ap (λ l. parts_size (list_seen l)) (drop_item xs i t lt e))

-- what is written and what is left of a list are all, before and after a turn
pub list_turn : (S : Search) (xs : List DeclaredTrans) (i number size : ℕ) (t : DeclaredTrans)
    (old new all : List Instr) → i < length xs → t ≡ get_or xs i t → size ≡ trans_size (trans_seen t)
    → old ++ list_code S (list_seen (drop i xs)) (parts_numbers number (list_seen (drop i xs))) ≡ all
    → new ≡ old ++ trans_code S (trans_seen t) (trans_numbers number (trans_seen t))
    → new ++ list_code S (list_seen (drop (i + 1) xs)) (parts_numbers (number + size) (list_seen (drop (i + 1) xs))) ≡ all
unfolding parts_numbers
list_turn S xs i number size t old new all lt e s inv step =
    let rest = list_seen (drop (i + 1) xs) in
    let code = trans_code S (trans_seen t) (trans_numbers number (trans_seen t)) in
    ap (λ l. l ++ list_code S rest (parts_numbers (number + size) rest)) step
    ∙ append_assoc old code (list_code S rest (parts_numbers (number + size) rest))
    ∙ ap (λ n. old ++ (code ++ list_code S rest (parts_numbers (number + n) rest))) s
    ∙ ap (λ l. old ++ list_code S (list_seen l) (parts_numbers number (list_seen l))) (sym (drop_item xs i t lt e))
    ∙ inv

-- after the last transition a list returns 0
pub list_done : (S : Search) (xs : List DeclaredTrans) (i number : ℕ) (old new all : List Instr) → length xs ≤ i
    → old ++ list_code S (list_seen (drop i xs)) (parts_numbers number (list_seen (drop i xs))) ≡ all
    → new ≡ old ++ instrs.Ret 0 ∷ [] → new ≡ all
unfolding parts_numbers
list_done S xs i number old new all h inv step =
    step
    ∙ ap (λ l. old ++ list_code S (list_seen l) (parts_numbers number (list_seen l))) (sym (drop_none xs i h)) ∙ inv
