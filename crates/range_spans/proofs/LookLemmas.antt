-- What is declared, and boxes of lists.
use Rattle.std.proofs.Common.{◌≡◌, ◌<◌, ℕ, zero, suc, nat_eq, Bool, true, false, List, [], ◌∷◌}
use Rattle.std.proofs.Common.{length, map, slice_set, slice_index_or}
use Rattle.std.proofs.Common.{get_or, refl, sym, ap, ◌∙◌, arith}
use Rattle.std.proofs.Math.Path.{fun_ext}
use Rattle.std.proofs.lemmas.Grind.{get_or-set_at}
use Rattle.std.proofs.lemmas.List.{get_or-set_other}
use Rattle.actions.specs.declared.names.Var.{Var}
use Rattle.actions.specs.Data.{Datum, datum, initial, declared_datum, no_datum}
use Rattle.actions.specs.Names.{Names}
use Rattle.range_spans.specs.Spans.{Span}
use Rattle.range_spans.specs.Narrow.{put}
use Rattle.range_spans.specs.Boxes.{box_of, sort_at, mode_at}

declared_at : (vars : List Var) (v : ℕ) (decl : Var) → v < length vars → decl ≡ get_or vars v decl
    → slice_index_or (map declared_datum vars) v no_datum ≡ declared_datum decl
declared_at [] v decl l e = absurd (omega arith)
declared_at (x ∷ vars) zero decl l e = ap declared_datum (sym e)
declared_at (x ∷ vars) (suc v) decl l e = declared_at vars v decl (omega arith) e

pub sort_declared : (n : Names) (vars : List Var) (v : ℕ) (decl : Var) → vars ≡ n.vars → v < length vars
    → decl ≡ get_or vars v decl → decl.sort ≡ sort_at n v
unfolding datum initial
sort_declared n vars v decl e l q =
    ap (λ (d : Datum). d.sort) (sym (declared_at vars v decl l q))
    ∙ ap (λ (xs : List Var). (slice_index_or (map declared_datum xs) v no_datum).sort) e

pub mode_declared : (n : Names) (vars : List Var) (v : ℕ) (decl : Var) → vars ≡ n.vars → v < length vars
    → decl ≡ get_or vars v decl → decl.mode ≡ mode_at n v
unfolding datum initial
mode_declared n vars v decl e l q =
    ap (λ (d : Datum). d.mode) (sym (declared_at vars v decl l q))
    ∙ ap (λ (xs : List Var). (slice_index_or (map declared_datum xs) v no_datum).mode) e

box_of_set_at : (spans : List Span) (v : ℕ) (s : Span) (u : ℕ) → v < length spans
    → box_of (slice_set spans v s) u ≡ put v s (box_of spans) u
box_of_set_at spans v s u l = at (nat_eq u v) refl
  where
    at : (b : Bool) → nat_eq u v ≡ b → box_of (slice_set spans v s) u ≡ put v s (box_of spans) u
    at true q = grind (arith, get_or-set_at {X = Span})
    at false q = grind (arith, get_or-set_other {A = Span})

pub box_of_set : (spans : List Span) (v : ℕ) (s : Span) → v < length spans
    → box_of (slice_set spans v s) ≡ put v s (box_of spans)
box_of_set spans v s l = fun_ext (λ u. box_of_set_at spans v s u l)
