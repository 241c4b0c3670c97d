-- The data with their values, one by one.
use Rattle.std.proofs.Common.{◌≡◌, ℕ, zero, suc, ◌<◌, false, nat_eq, List, [], ◌∷◌, ◌++◌}
use Rattle.std.proofs.Common.{length, get_or, refl, sym, ap, ◌∙◌, arith, append-nil}
use Rattle.std.proofs.Math.Nat.{div-one, mod-one}
use Rattle.std.specs.Prelude.{ℤ, pos, negsuc, ◌%◌, ◌==◌, codes, decimal, slice_index_or, if◌then◌else◌}
use Rattle.std.specs.Fmt.{signed_decimal}
use Rattle.std.proofs.lemmas.List.{length-map}
use Rattle.fixed_point.specs.Text.{decimal_text, fraction_digits}
use Rattle.actions.specs.Data.{Datum, datum, no_datum, value_of_datum}
use Rattle.actions.specs.Names.{Names}
use Rattle.actions.specs.World.{Declaration, of_data, of_names}
use Rattle.actions.specs.declared.expr.Value.{Value}
use Rattle.actions.specs.declared.names.Var.{Var}
use Rattle.trace_text.specs.Trace.{value_text, value_texts}

-- there are as many data as are declared
pub data_count : (vals : List Datum) (n : Names) → of_data vals ≡ of_names n → length vals ≡ length n.vars
data_count vals n same =
    sym (length-map vals (λ (d : Datum). record { sort = d.sort; mode = d.mode }))
    ∙ ap (λ (z : List Declaration). length z) same
    ∙ length-map n.vars (λ (v : Var). record { sort = v.sort; mode = v.mode })

-- there is a text for each
pub texts_count : (vars : List Var) (vals : List Datum) → length vals ≡ length vars → length (value_texts vars vals) ≡ length vars
texts_count [] vals same = refl
texts_count (v ∷ vars) [] same = absurd (omega arith)
texts_count (v ∷ vars) (d ∷ vals) same = ap (λ m. suc m) (texts_count vars vals (omega arith))

text_at : (vars : List Var) (vals : List Datum) (i : ℕ) (var : Var) → length vals ≡ length vars → i < length vars → var ≡ get_or vars i var
    → var.name ++ codes "=" ++ value_text (value_of_datum (slice_index_or vals i no_datum)) ≡ get_or (value_texts vars vals) i []
text_at [] vals i var same within is = absurd (omega arith)
text_at (v ∷ vars) [] i var same within is = absurd (omega arith)
text_at (v ∷ vars) (d ∷ vals) zero var same within is = ap (λ (x : Var). x.name ++ codes "=" ++ value_text (value_of_datum d)) is
text_at (v ∷ vars) (d ∷ vals) (suc i) var same within is = text_at vars vals i var (omega arith) (omega arith) is

-- the text of a datum
pub datum_text : (vars : List Var) (vals : List Datum) (i : ℕ) (var : Var) (name : List ℕ) (value : Value) → length vals ≡ length vars → i < length vars
    → var ≡ get_or vars i var → name ≡ var.name → value ≡ value_of_datum (datum vals i)
    → name ++ codes "=" ++ value_text value ≡ get_or (value_texts vars vals) i []
unfolding datum
datum_text vars vals i var name value same within is named valued =
    ap (λ (z : List ℕ). z ++ codes "=" ++ value_text value) named
    ∙ ap (λ (z : Value). var.name ++ codes "=" ++ value_text z) valued
    ∙ text_at vars vals i var same within is

-- where there are data there are texts
pub some_texts : (vars : List Var) (vals : List Datum) (items : List Var) → length vals ≡ length vars → vars ≡ items → false ≡ nat_eq (length items) 0
    → false ≡ nat_eq (length (value_texts vars vals)) 0
some_texts vars vals items same are some =
    some ∙ ap (λ m. nat_eq m 0) (sym (texts_count vars vals same ∙ ap (λ (z : List Var). length z) are))

-- ---- the text of an integer

-- a number without a fraction has the digits of an integer
pub integer_text : (m : ℤ) → decimal_text m 0 ≡ signed_decimal m
unfolding decimal_text
integer_text (pos n) =
    ap (λ (z : ℕ). decimal z ++ (if n % 1 == 0 then [] else 46 ∷ fraction_digits n 0)) (div-one n)
    ∙ ap (λ (z : ℕ). decimal n ++ (if z == 0 then [] else 46 ∷ fraction_digits n 0)) (mod-one n)
    ∙ append-nil (decimal n)
integer_text (negsuc n) =
    ap (λ (z : ℕ). 45 ∷ (decimal z ++ (if suc n % 1 == 0 then [] else 46 ∷ fraction_digits (suc n) 0))) (div-one (suc n))
    ∙ ap (λ (z : ℕ). 45 ∷ (decimal (suc n) ++ (if z == 0 then [] else 46 ∷ fraction_digits (suc n) 0))) (mod-one (suc n))
    ∙ ap (λ (z : List ℕ). 45 ∷ z) (append-nil (decimal (suc n)))
