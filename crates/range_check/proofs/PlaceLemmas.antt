-- The worlds before the start, and those between two events.
use Rattle.std.proofs.Common.{◌≡◌, ◌==◌, ◌<◌, ◌≤◌, ◌+◌, ◌⊎◌, inl, inr, nat_le, ℕ, zero, suc, ℤ, pos, Bool, true}
use Rattle.std.proofs.Common.{false, List, [], ◌∷◌, ◌++◌, Option, Some, None, IsTrue, length, map, slice_get, slice_index_or}
use Rattle.std.proofs.Common.{refl, sym, ap, subst, ◌∙◌, cond, arith, eq-eqb}
use Rattle.std.proofs.lemmas.Bool.Decides.{nat_tests}
use Rattle.std.proofs.lemmas.Int.{ints}
use Rattle.std.proofs.lemmas.Simd.{map-map}
use Rattle.active_config.specs.Marks.{no_marks}
use Rattle.actions.specs.declared.names.Sort.{Sort}
use Rattle.actions.specs.declared.names.Sort.TheVariants as sorts
use Rattle.actions.specs.declared.names.Var.{Var}
use Rattle.actions.specs.declared.names.VarKind.{VarKind}
use Rattle.actions.specs.declared.names.VarKind.TheVariants.{Input, Output, Local}
use Rattle.actions.specs.Data.{Datum, datum, declared_datum, no_datum, initial, is_mantissa_of}
use Rattle.actions.specs.Names.{Names}
use Rattle.actions.specs.World.{of_data, of_names}
use Rattle.range_check.specs.Places.{IsCovered, IsFirstSpan, AreFirst, IsFirst, Frees, widened_box}
use Rattle.range_check.proofs.CheckLemmas.{below_or, at_place}
use Rattle.range_rules.specs.declared.cert.Around.{Around}
use Rattle.range_rules.specs.Worlds.{always_of}
use Rattle.range_spans.specs.declared.span.Span.{Span}
use Rattle.range_spans.specs.Boxes.{Box, box_of, CoversInputs, freed, is_input, is_input_at, put}
use Rattle.range_spans.specs.Sorts.{all_of}
use Rattle.range_spans.specs.Spans.{IsIn, is_inside}
use Rattle.range_spans.proofs.BoxLemmas.{inside_in}
use Rattle.range_worlds.specs.declared.setting.Setting.{Setting}
use Rattle.range_worlds.specs.Leads.{chart_in, cert_in}

is_true : (b : Bool) → IsTrue b → b ≡ true
is_true b h = h

-- the one number of a span
alone_in : (m : ℤ) → IsIn (record { low = m; high = m }) m
alone_in m = record { above = grind (arith, ints); below = grind (arith, ints) }

-- all mantissas of a sort are in its span
in_all : (sort : Sort) (m : ℤ) → IsTrue (is_mantissa_of sort m) → IsIn (all_of sort) m
in_all sort m h = inside_in (record { low = m; high = m }) (all_of sort) m (is_true _ (at sort h)) (alone_in m)
  where
    at : (k : Sort) → IsTrue (is_mantissa_of k m) → IsTrue (is_inside (record { low = m; high = m }) (all_of k))
    at sorts.Flag g = g
    at (sorts.Number scale) g = g

-- ---- places of lists

there : {A : Type 0} (xs : List A) (v : ℕ) → v < length xs → (x : A) × (slice_get xs v ≡ Some x)
there [] v lt = absurd (omega arith)
there (x ∷ xs) zero lt = (x, refl)
there (x ∷ xs) (suc v) lt = there xs v (omega arith)

nothing_at : {A : Type 0} (xs : List A) (v : ℕ) → length xs ≤ v → slice_get xs v ≡ None
nothing_at [] v le = refl
nothing_at (x ∷ xs) zero le = absurd (omega arith)
nothing_at (x ∷ xs) (suc v) le = nothing_at xs v (omega arith)

box_front : (xs : List Span) (x : Span) (k : ℕ) → k < length xs → box_of (xs ++ x ∷ []) k ≡ box_of xs k
box_front [] x k lt = absurd (omega arith)
box_front (y ∷ xs) x zero lt = refl
box_front (y ∷ xs) x (suc k) lt = box_front xs x k (omega arith)

box_last : (xs : List Span) (x : Span) (k : ℕ) → k ≡ length xs → box_of (xs ++ x ∷ []) k ≡ x
box_last [] x zero e = refl
box_last [] x (suc k) e = absurd (omega arith)
box_last (y ∷ xs) x zero e = absurd (omega arith)
box_last (y ∷ xs) x (suc k) e = box_last xs x k (omega arith)

box_beyond : (xs : List Span) (k : ℕ) → length xs ≤ k → box_of xs k ≡ record { low = pos 0; high = pos 0 }
box_beyond [] k le = refl
box_beyond (y ∷ xs) zero le = absurd (omega arith)
box_beyond (y ∷ xs) (suc k) le = box_beyond xs k (omega arith)

-- ---- the first data

initial_declared : (n : Names) → of_data (initial n) ≡ of_names n
unfolding initial
initial_declared n = map-map (λ (d : Datum). record { sort = d.sort; mode = d.mode }) declared_datum n.vars

mantissa_at : (vars : List Var) (v : ℕ) (decl : Var) → slice_get vars v ≡ Some decl
    → (slice_index_or (map declared_datum vars) v no_datum).mantissa ≡ decl.init
mantissa_at [] v decl e = absurd cc
mantissa_at (x ∷ vars) zero decl e = let h : x ≡ decl = cc in ap (λ (y : Var). y.init) h
mantissa_at (x ∷ vars) (suc v) decl e = let h : slice_get vars v ≡ Some decl = cc in mantissa_at vars v decl h

no_mantissa : (vars : List Var) (v : ℕ) → length vars ≤ v
    → (slice_index_or (map declared_datum vars) v no_datum).mantissa ≡ pos 0
no_mantissa [] v le = refl
no_mantissa (x ∷ vars) zero le = absurd (omega arith)
no_mantissa (x ∷ vars) (suc v) le = no_mantissa vars v (omega arith)

first_mantissa : (n : Names) (v : ℕ) (decl : Var) → slice_get n.vars v ≡ Some decl
    → (datum (initial n) v).mantissa ≡ decl.init
unfolding datum initial
first_mantissa n v decl e = mantissa_at n.vars v decl e

no_first : (n : Names) (v : ℕ) → length n.vars ≤ v → (datum (initial n) v).mantissa ≡ pos 0
unfolding datum initial
no_first n v le = no_mantissa n.vars v le

module _ (s : Setting) where
  -- ---- inputs that are covered

  pub other_covered : (decl : Var) (v : ℕ) → (decl.kind ≡ Input → ⊥) → IsCovered s decl v
  other_covered decl v h = record { covers = λ m e i. absurd (h e) }

  pub input_covered : (decl : Var) (v : ℕ) (span : Span) → span ≡ always_of (cert_in s) v
      → is_inside (all_of decl.sort) span ≡ true → IsCovered s decl v
  input_covered decl v span e h = record {
    covers = λ m q i.
        subst (λ z. IsIn z m) e (inside_in (all_of decl.sort) span m h (in_all decl.sort m i));
  }

  -- the first inputs are covered
  pub record Covered (vars : List Var) (i : ℕ) : Type 0 where
    pub first : (k : ℕ) (decl : Var) → k < i → slice_get vars k ≡ Some decl → IsCovered s decl k

  pub covered_none : (vars : List Var) → Covered vars 0
  covered_none vars = record { first = λ k decl lt e. absurd (omega arith) }

  pub covered_next : (vars : List Var) (i : ℕ) (x : Var) → slice_get vars i ≡ Some x → IsCovered s x i
      → Covered vars i → Covered vars (i + 1)
  covered_next vars i x e a h = record { first = λ k y lt g. one k y (below_or k i lt) g }
    where
      one : (k : ℕ) (y : Var) → (k < i) ⊎ (k ≡ i) → slice_get vars k ≡ Some y → IsCovered s y k
      one k y (inl lt) g = h.first k y lt g
      one k y (inr q) g =
          let f : slice_get vars i ≡ Some y = subst (λ j. slice_get vars j ≡ Some y) q g in
          let same : x ≡ y = cc in subst (λ j. IsCovered s y j) (sym q) (subst (λ z. IsCovered s z i) same a)

  pub covered_all : (vars : List Var) (i : ℕ) → vars ≡ (chart_in s).names.vars → length vars ≤ i → Covered vars i
      → CoversInputs (chart_in s).names (always_of (cert_in s))
  covered_all vars i e le h = record {
    covers = λ v decl m g k is.
        let own : slice_get vars v ≡ Some decl = subst (λ l. slice_get l v ≡ Some decl) (sym e) g in
        let lt = at_place vars v decl own in (h.first v decl (omega arith) own).covers m k is;
  }

  -- ---- the world before the start

  -- the spans of the first data so far
  pub record FirstSpans (vars : List Var) (i : ℕ) (spans : List Span) : Type 0 where
    pub count : length spans ≡ i
    pub own : (k : ℕ) (decl : Var) → k < i → slice_get vars k ≡ Some decl → IsFirstSpan s decl k (box_of spans k)

  pub first_none : (vars : List Var) (spans : List Span) → spans ≡ [] → FirstSpans vars 0 spans
  first_none vars spans e = record { count = ap length e; own = λ k decl lt g. absurd (omega arith) }

  pub first_next : (vars : List Var) (i : ℕ) (x : Var) (span : Span) (spans new : List Span)
      → slice_get vars i ≡ Some x → IsFirstSpan s x i span → new ≡ spans ++ span ∷ [] → FirstSpans vars i spans
      → FirstSpans vars (i + 1) new
  first_next vars i x span spans new e a n h = record {
    count = ap length n ∙ longer spans span ∙ ap (λ k. k + 1) h.count;
    own = λ k y lt g. subst (λ l. IsFirstSpan s y k (box_of l k)) (sym n) (one k y (below_or k i lt) g);
  }
    where
      longer : (xs : List Span) (y : Span) → length (xs ++ y ∷ []) ≡ length xs + 1
      longer [] y = refl
      longer (z ∷ xs) y = let r = longer xs y in omega arith

      one : (k : ℕ) (y : Var) → (k < i) ⊎ (k ≡ i) → slice_get vars k ≡ Some y
          → IsFirstSpan s y k (box_of (spans ++ span ∷ []) k)
      one k y (inl lt) g =
          let below : k < length spans = omega (arith, h.count) in
          subst (λ z. IsFirstSpan s y k z) (sym (box_front spans span k below)) (h.own k y lt g)
      one k y (inr q) g =
          let f : slice_get vars i ≡ Some y = subst (λ j. slice_get vars j ≡ Some y) q g in
          let same : x ≡ y = cc in
          subst (λ z. IsFirstSpan s y k z) (sym (box_last spans span k (q ∙ sym h.count)))
          (subst (λ j. IsFirstSpan s y j span) (sym q) (subst (λ z. IsFirstSpan s z i span) same a))

  pub first_all : (vars : List Var) (i : ℕ) (spans : List Span) → vars ≡ (chart_in s).names.vars → length vars ≤ i
      → i ≤ length vars → length (cert_in s).always.items ≡ length vars → FirstSpans vars i spans → AreFirst s spans
  first_all vars i spans e le ge count h = record {
    inside = λ v. inside v (nat_le (length vars) v) refl;
    always = λ v. always v (nat_le (length vars) v) refl;
  }
    where
      mantissa : ℕ → ℤ
      mantissa v = (datum (initial (chart_in s).names) v).mantissa

      own : (v : ℕ) (decl : Var) → slice_get vars v ≡ Some decl → mantissa v ≡ decl.init
      own v decl g = first_mantissa (chart_in s).names v decl (subst (λ l. slice_get l v ≡ Some decl) e g)

      none : (v : ℕ) → length vars ≤ v → mantissa v ≡ pos 0
      none v past = no_first (chart_in s).names v (subst (λ l. length l ≤ v) e past)

      zero_in : (span : Span) (m : ℤ) → span ≡ record { low = pos 0; high = pos 0 } → m ≡ pos 0 → IsIn span m
      zero_in span m q r =
          subst (λ z. IsIn z m) (sym q)
          (subst (λ (z : ℤ). IsIn (record { low = pos 0; high = pos 0 }) z) (sym r) (alone_in (pos 0)))

      first_in : (v : ℕ) → v < length vars
          → IsIn (box_of spans v) (mantissa v) × (is_inside (box_of spans v) (always_of (cert_in s) v) ≡ true)
      first_in v lt =
          let decl = there vars v lt in let span = h.own v decl.0 (omega arith) decl.1 in (
            subst (λ z. IsIn z (mantissa v)) (sym span.alone)
                (subst (λ (m : ℤ). IsIn (record { low = decl.0.init; high = decl.0.init }) m) (sym (own v decl.0 decl.1))
                (alone_in decl.0.init)),
            span.inside,
          )

      inside : (v : ℕ) (past : Bool) → nat_le (length vars) v ≡ past → IsIn (box_of spans v) (mantissa v)
      inside v true q =
          let over : length vars ≤ v = grind (arith, nat_tests) in
          zero_in (box_of spans v) (mantissa v) (box_beyond spans v (omega (arith, h.count))) (none v over)
      inside v false q = (first_in v (grind (arith, nat_tests))).0

      always : (v : ℕ) (past : Bool) → nat_le (length vars) v ≡ past → IsIn (always_of (cert_in s) v) (mantissa v)
      always v true q =
          let over : length vars ≤ v = grind (arith, nat_tests) in
          zero_in (always_of (cert_in s) v) (mantissa v)
          (box_beyond (cert_in s).always.items v (omega (arith, count))) (none v over)
      always v false q =
          let at = first_in v (grind (arith, nat_tests)) in
          inside_in (box_of spans v) (always_of (cert_in s) v) (mantissa v) at.1 at.0

  pub is_first : (x : Around) → x.config ≡ no_marks (chart_in s).tree → AreFirst s x.spans.items → IsFirst s x
  is_first x c f = record {
    at = record {
      config = sym c;
      data_in = record {
        declared = initial_declared (chart_in s).names;
        at_each_moment = f.always;
        inside = f.inside;
      };
    };
  }

  -- ---- inputs with any values

  abbrev free : Around → Box
  free x = freed (chart_in s).names (always_of (cert_in s)) (box_of x.spans.items)

  -- what inputs are freed to, by what is declared at a number
  free_at : (x : Around) (v : ℕ) (o : Option Var) → slice_get (chart_in s).names.vars v ≡ o
      → free x v ≡ cond (is_input_at o) (always_of (cert_in s) v) (box_of x.spans.items v)
  free_at x v o e = ap (λ z. cond (is_input_at z) (always_of (cert_in s) v) (box_of x.spans.items v)) e

  -- an input has the span in which it always is, where the others have theirs
  widened_own : (kind : VarKind) (v : ℕ) (box : Box) (own : Span) → box v ≡ own
      → widened_box s kind v box v ≡ cond (is_input kind) (always_of (cert_in s) v) own
  widened_own Input v box own e = ap (λ b. cond b (always_of (cert_in s) v) (box v)) (eq-eqb v v refl)
  widened_own Output v box own e = e
  widened_own Local v box own e = e

  put_other : (v j : ℕ) (span : Span) (box : Box) → (j ≡ v → ⊥) → put v span box j ≡ box j
  put_other v j span box ne = at (j == v) refl
    where
      at : (b : Bool) → (j == v) ≡ b → put v span box j ≡ box j
      at true q = absurd (ne (grind (arith, nat_tests)))
      at false q = ap (λ b. cond b span (box j)) q

  widened_other : (kind : VarKind) (v j : ℕ) (box : Box) → (j ≡ v → ⊥) → widened_box s kind v box j ≡ box j
  widened_other Input v j box ne = put_other v j (always_of (cert_in s) v) box ne
  widened_other Output v j box ne = refl
  widened_other Local v j box ne = refl

  -- the spans of the first inputs are those in which they always are
  pub record FreedSpans (x : Around) (i : ℕ) (spans : List Span) : Type 0 where
    pub before : (k : ℕ) → k < i → box_of spans k ≡ free x k
    pub after : (k : ℕ) → i ≤ k → box_of spans k ≡ box_of x.spans.items k

  pub freed_none : (x : Around) (spans : List Span) → spans ≡ x.spans.items → FreedSpans x 0 spans
  freed_none x spans e = record {
    before = λ k lt. absurd (omega arith);
    after = λ k le. ap (λ l. box_of l k) e;
  }

  pub freed_next : (x : Around) (i : ℕ) (decl : Var) (spans new : List Span)
      → slice_get (chart_in s).names.vars i ≡ Some decl → box_of new ≡ widened_box s decl.kind i (box_of spans)
      → FreedSpans x i spans → FreedSpans x (i + 1) new
  freed_next x i decl spans new g n h = record {
    before = λ j lt. one j (below_or j i lt);
    after = λ j le. other j (omega arith) ∙ h.after j (omega arith);
  }
    where
      other : (j : ℕ) → (j ≡ i → ⊥) → box_of new j ≡ box_of spans j
      other j ne = ap (λ b. b j) n ∙ widened_other decl.kind i j (box_of spans) ne

      one : (j : ℕ) → (j < i) ⊎ (j ≡ i) → box_of new j ≡ free x j
      one j (inl lt) = other j (omega arith) ∙ h.before j lt
      one j (inr q) =
          subst (λ m. box_of new m ≡ free x m) (sym q)
          (ap (λ b. b i) n ∙ widened_own decl.kind i (box_of spans) (box_of x.spans.items i) (h.after i (omega arith))
          ∙ sym (free_at x i (Some decl) g))

  pub is_freed : (x y : Around) (i : ℕ) → y.config ≡ x.config → length (chart_in s).names.vars ≤ i
      → FreedSpans x i y.spans.items → Frees s x y
  is_freed x y i c le h = record {
    frees = λ w g. record {
      config = g.config ∙ sym c;
      data_in = record {
        declared = g.data_in.declared;
        at_each_moment = g.data_in.at_each_moment;
        inside = λ v. subst (λ z. IsIn z (datum w.vals v).mantissa) (sym (same v)) (g.data_in.inside v);
      };
    };
  }
    where
      at : (v : ℕ) (b : Bool) → nat_le i v ≡ b → box_of y.spans.items v ≡ free x v
      at v true q =
          let past : i ≤ v = grind (arith, nat_tests) in
          h.after v past ∙ sym (free_at x v None (nothing_at (chart_in s).names.vars v (omega arith)))
      at v false q = h.before v (grind (arith, nat_tests))

      same : (v : ℕ) → box_of y.spans.items v ≡ free x v
      same v = at v (nat_le i v) refl
