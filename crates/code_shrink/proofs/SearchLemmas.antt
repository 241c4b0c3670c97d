-- Steps of the search for the procedures that are reached.
use Rattle.std.proofs.Common.{◌≡◌, ◌<◌, ◌⊎◌, ◌↔◌, inl, inr, ⊎_elim, ℕ, zero, suc, ◌+◌, Bool, true, false}
use Rattle.std.proofs.Common.{List, [], ◌∷◌, ◌++◌, length, Option}
use Rattle.std.proofs.Common.{◌≤◌, Some, refl, sym, ap, ◌∙◌, subst, arith, length-append, get_or}
use Rattle.std.proofs.lemmas.Bool.{cases_lt}
use Rattle.std.specs.Prelude.{slice_get, slice_index_or, slice_set}
use Rattle.code_language.specs.declared.instr.Instr as declared
use Rattle.code_language.specs.declared.instr.Instr.TheVariants as instrs
use Rattle.code_language.specs.Code.{instr_of, instrs_of}
use Rattle.code_language.specs.Instrs.{Instr}
use Rattle.code_shrink.specs.Neat.{Names}
use Rattle.code_shrink.specs.Search.{IsFound, IsListed, unset_count, NamesBefore, Finds}
use Rattle.code_shrink.specs.declared.search.Search.{Search}
use Rattle.code_shrink.proofs.Marking.{set_size, still_set, was_set, now_set}

-- ---- lists

-- what stands in a list stands in a longer one
pub listed_more : (ps : List ℕ) (p q : ℕ) → IsListed ps q → IsListed (ps ++ p ∷ []) q
listed_more [] p q h = absurd h
listed_more (r ∷ ps) p q h =
    ⊎_elim (λ (e : q ≡ r). inl e) (λ (l : IsListed ps q). inr (listed_more ps p q l)) h

-- and so does what was put there
pub listed_last : (ps : List ℕ) (p q : ℕ) → q ≡ p → IsListed (ps ++ p ∷ []) q
listed_last [] p q e = inl e
listed_last (r ∷ ps) p q e = inr (listed_last ps p q e)

-- nothing else does
pub listed_before : (ps : List ℕ) (p q : ℕ) → IsListed (ps ++ p ∷ []) q → IsListed ps q ⊎ (q ≡ p)
listed_before [] p q h = ⊎_elim (λ (e : q ≡ p). inr e) (λ (l : ⊥). absurd l) h
listed_before (r ∷ ps) p q h =
    ⊎_elim (λ (e : q ≡ r). inl (inl e))
    (λ (l : IsListed (ps ++ p ∷ []) q).
    ⊎_elim (λ (k : IsListed ps q). inl (inr k)) (λ (e : q ≡ p). inr e) (listed_before ps p q l)) h

-- one flag less is unset once one is set
unset_less : (bs : List Bool) (p : ℕ) → p < length bs → slice_index_or bs p false ≡ false
    → suc (unset_count (slice_set bs p true)) ≡ unset_count bs
unset_less [] p lt h = absurd (omega (arith, lt))
unset_less (false ∷ bs) zero lt h = refl
unset_less (true ∷ bs) zero lt h = absurd (cc h)
unset_less (true ∷ bs) (suc p) lt h = unset_less bs p (omega (arith, lt)) h
unset_less (false ∷ bs) (suc p) lt h = ap suc (unset_less bs p (omega (arith, lt)) h)

-- ---- steps

-- a search that stays as it is, where these are found
pub finds_found : (these : ℕ → Type 0) (s : Search) → ((q : ℕ) → these q → IsFound s q) → Finds these s s
finds_found these s h = record {
  size = refl;
  kept = λ q f. f;
  all = h;
  only = λ q f. inl f;
  listed = λ q l. l;
  fresh = λ q f. inl f;
  right = λ q l. inl l;
  left = refl;
}

-- one more procedure that wasn't found
pub finds_new : (p : ℕ) (old new : Search) → p < length old.found.items → slice_index_or old.found.items p false ≡ false
    → new.found.items ≡ slice_set old.found.items p true → new.todo.items ≡ old.todo.items ++ p ∷ []
    → Finds (λ q. q ≡ p) old new
finds_new p old new lt unset set put =
    let bs = old.found.items in
    let ps = old.todo.items in
    let to = λ (q : ℕ) (h : slice_index_or (slice_set bs p true) q false ≡ true).
    subst (λ (l : List Bool). slice_index_or l q false ≡ true) (sym set) h in
    let from = λ (q : ℕ) (h : IsFound new q). subst (λ (l : List Bool). slice_index_or l q false ≡ true) set h in
    let found = λ (q : ℕ) (e : q ≡ p). subst (λ (n : ℕ). IsFound new n) (sym e) (to p (now_set bs p lt)) in
    let less = unset_less bs p lt unset in
    record {
      size = ap length set ∙ set_size bs p;
      kept = λ q f. to q (still_set bs p q f);
      all = found;
      only = λ q f. was_set bs p q (from q f);
      listed = λ q l. subst (λ (ns : List ℕ). IsListed ns q) (sym put) (listed_more ps p q l);
      fresh = λ q f.
          ⊎_elim (λ (h : slice_index_or bs q false ≡ true). inl h)
          (λ (e : q ≡ p). inr (subst (λ (ns : List ℕ). IsListed ns q) (sym put) (listed_last ps p q e)))
          (was_set bs p q (from q f));
      right = λ q l.
          ⊎_elim (λ (h : IsListed ps q). inl h) (λ (e : q ≡ p). inr (found q e))
          (listed_before ps p q (subst (λ (ns : List ℕ). IsListed ns q) put l));
      left = omega (arith, ap unset_count set, ap length put, length-append ps (p ∷ []), less);
    }

-- one step after another
pub finds_then : (these those : ℕ → Type 0) (a b c : Search) → Finds these a b → Finds those b c
    → Finds (λ q. these q ⊎ those q) a c
finds_then these those a b c f g = record {
  size = g.size ∙ f.size;
  kept = λ q h. g.kept q (f.kept q h);
  all = λ q h. ⊎_elim (λ (t : these q). g.kept q (f.all q t)) (λ (t : those q). g.all q t) h;
  only = λ q h.
      ⊎_elim (λ (k : IsFound b q).
      ⊎_elim (λ (j : IsFound a q). inl j) (λ (t : these q). inr (inl t)) (f.only q k))
      (λ (t : those q). inr (inr t)) (g.only q h);
  listed = λ q h. g.listed q (f.listed q h);
  fresh = λ q h.
      ⊎_elim (λ (k : IsFound b q).
      ⊎_elim (λ (j : IsFound a q). inl j) (λ (l : IsListed b.todo.items q). inr (g.listed q l)) (f.fresh q k))
      (λ (l : IsListed c.todo.items q). inr l) (g.fresh q h);
  right = λ q h.
      ⊎_elim (λ (l : IsListed b.todo.items q).
      ⊎_elim (λ (k : IsListed a.todo.items q). inl k) (λ (j : IsFound b q). inr (g.kept q j)) (f.right q l))
      (λ (j : IsFound c q). inr j) (g.right q h);
  left = g.left ∙ f.left;
}

-- the same of these under other words
pub finds_as : (these those : ℕ → Type 0) (a b : Search) → ((q : ℕ) → these q → those q) → ((q : ℕ) → those q → these q)
    → Finds these a b → Finds those a b
finds_as these those a b to from f = record {
  size = f.size;
  kept = f.kept;
  all = λ q h. f.all q (from q h);
  only = λ q h. ⊎_elim (λ (k : IsFound a q). inl k) (λ (t : these q). inr (to q t)) (f.only q h);
  listed = f.listed;
  fresh = f.fresh;
  right = f.right;
  left = f.left;
}

-- ---- calls

-- a call and a visit name the procedure and the note
pub called : (i : declared.Instr) (p : ℕ) (tag : Option ℕ) → (i ≡ instrs.Call p tag) ⊎ (i ≡ instrs.Visit p tag)
    → (q : ℕ) → ((q ≡ p) ⊎ (tag ≡ Some q)) ↔ Names (instr_of i) q
called i p tag h q =
    ⊎_elim (λ (e : i ≡ instrs.Call p tag). subst (λ j. ((q ≡ p) ⊎ (tag ≡ Some q)) ↔ Names (instr_of j) q) (sym e)
    (λ n. n, λ n. n))
    (λ (e : i ≡ instrs.Visit p tag). subst (λ j. ((q ≡ p) ⊎ (tag ≡ Some q)) ↔ Names (instr_of j) q) (sym e)
    (λ n. n, λ n. n)) h

-- ---- the instructions of a procedure, one after the other

-- an instruction that stands in a list
pub instr_at : (xs : List declared.Instr) (i : ℕ) (x : declared.Instr) → i < length xs → x ≡ get_or xs i x
    → slice_get (instrs_of xs) i ≡ Some (instr_of x)
instr_at [] i x lt e = absurd (omega (arith, lt))
instr_at (y ∷ xs) zero x lt e = ap (λ z. Some (instr_of z)) (sym e)
instr_at (y ∷ xs) (suc i) x lt e = instr_at xs i x (omega (arith, lt)) e

-- before the first one
pub finds_first : (is : List Instr) (bs : List Bool) (s : Search) → Finds (NamesBefore 0 is bs) s s
finds_first is bs s = finds_found (NamesBefore 0 is bs) s (λ q n. let lt = n.before in absurd (omega (arith, lt)))

module _ (is : List Instr) (bs : List Bool) (i : ℕ) (x : Instr) (at : slice_get is i ≡ Some x) where
  -- what the instructions before it name
  wider : (q : ℕ) → NamesBefore i is bs q → NamesBefore (i + 1) is bs q
  wider q n = record {
    place = n.place;
    instr = n.instr;
    before = (let lt = n.before in omega (arith, lt));
    there = n.there;
    marked = n.marked;
    names = n.names;
  }

  -- they name it, or it does
  either : (q : ℕ) → NamesBefore (i + 1) is bs q
      → NamesBefore i is bs q ⊎ (Names x q × (slice_index_or bs i false ≡ true))
  either q n =
      ⊎_elim (λ (lt : n.place < i). inl (record {
        place = n.place;
        instr = n.instr;
        before = lt;
        there = n.there;
        marked = n.marked;
        names = n.names;
      }))
      (λ (le : i ≤ n.place).
      let lt = n.before in
      let e : n.place ≡ i = omega (arith, le, lt) in
      let there = subst (λ (j : ℕ). slice_get is j ≡ Some n.instr) e n.there in
      let same : n.instr ≡ x = cc (there, at) in inr (
        subst (λ (y : Instr). Names y q) same n.names,
        subst (λ (j : ℕ). slice_index_or bs j false ≡ true) e n.marked,
      ))
      (cases_lt n.place i)

  -- with what it names, where its place is marked
  pub finds_more : (a b c : Search) → slice_index_or bs i false ≡ true → Finds (NamesBefore i is bs) a b
      → Finds (Names x) b c → Finds (NamesBefore (i + 1) is bs) a c
  finds_more a b c marked f g =
      finds_as (λ q. NamesBefore i is bs q ⊎ Names x q) (NamesBefore (i + 1) is bs) a c
      (λ q h.
      ⊎_elim (λ (n : NamesBefore i is bs q). wider q n)
      (λ (n : Names x q). record {
        place = i;
        instr = x;
        before = omega arith;
        there = at;
        marked = marked;
        names = n;
      }) h)
      (λ q n.
      ⊎_elim (λ (m : NamesBefore i is bs q). inl m)
      (λ (h : Names x q × (slice_index_or bs i false ≡ true)). inr h.0) (either q n))
      (finds_then (NamesBefore i is bs) (Names x) a b c f g)

  -- and where it isn't
  pub finds_past : (a b : Search) → slice_index_or bs i false ≡ false → Finds (NamesBefore i is bs) a b
      → Finds (NamesBefore (i + 1) is bs) a b
  finds_past a b unmarked f =
      finds_as (NamesBefore i is bs) (NamesBefore (i + 1) is bs) a b (λ q n. wider q n)
      (λ q n.
      ⊎_elim (λ (m : NamesBefore i is bs q). m)
      (λ (h : Names x q × (slice_index_or bs i false ≡ true)). let marked = h.1 in absurd (cc (marked, unmarked)))
      (either q n)) f
