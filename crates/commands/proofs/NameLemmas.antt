-- The names of data that are NAMEs are short.
use Rattle.std.proofs.Common.{◌≡◌, ℕ, zero, suc, ◌≤◌, ◌&&◌, leb, eqb, true}
use Rattle.std.proofs.Common.{List, [], ◌∷◌, ◌++◌, map, length, arith, sym, ◌∙◌}
use Rattle.std.specs.Prelude.{slice_get}
use Rattle.std.specs.List.{list_all}
use Rattle.std.specs.Option.{option_map_or}
use Rattle.std.proofs.lemmas.Bool.{and_parts, leb-true}
use Rattle.std.proofs.lemmas.List.Folds.{list_all-append}
use Rattle.chart_lexer.specs.Bytes.{is_letter, begins}
use Rattle.chart_lexer.specs.Words.{name_length, is_name}
use Rattle.actions.specs.declared.names.EventDecl.{EventDecl}
use Rattle.actions.specs.declared.names.Var.{Var}
use Rattle.actions.specs.Names.{Names}
use Rattle.commands.specs.Trace.{HasShortNames}

-- a name has at most 63 bytes
is_short : (w : List ℕ) → is_name w ≡ true → length w ≤ 63
is_short w h =
    let back = (and_parts (begins is_letter w && eqb (name_length w) (length w)) _ h).1 in
    leb-true _ _ (and_parts (leb (length w) 63) _ back).0

-- so has that of a datum, and nothing is no longer
are_short : (vars : List Var) (v : ℕ) → list_all is_name (map (λ (x : Var). x.name) vars) ≡ true
    → length (option_map_or (λ (x : Var). x.name) (slice_get vars v) []) ≤ 63
are_short [] v h = omega arith
are_short (x ∷ vars) zero h = is_short x.name (and_parts (is_name x.name) _ h).0
are_short (x ∷ vars) (suc v) h = are_short vars v (and_parts (is_name x.name) _ h).1

-- where the names of all that is declared are NAMEs, those of the data have at most 63 bytes
pub names_short : (n : Names) → list_all is_name (map (λ (x : Var). x.name) n.vars ++ map (λ (x : EventDecl). x.name) n.events) ≡ true
    → HasShortNames n
names_short n h v =
    let vars = map (λ (x : Var). x.name) n.vars in
    let both = sym (list_all-append is_name vars (map (λ (x : EventDecl). x.name) n.events)) ∙ h in
    are_short n.vars v (and_parts (list_all is_name vars) _ both).0
