-- A struct that was given no value has none to read.
use Rattle.std.proofs.Common.{◌≡◌, ℕ, zero, suc, ℤ, pos, negsuc, List, [], ◌∷◌, map, replicate, None, slice_get, refl}
use Rattle.c_subset.specs.Trees.{Width, CType, CExpr, Field, Element, Row, File}
use Rattle.c_subset.specs.Meaning.{Meaning, Gives, Wrong, with_meaning, read, entry, element, Locals, meaning}
use Rattle.c_subset.specs.Running.{no_values}

no-field : (types : List CType) (f : ℕ)
    → read (slice_get (map (λ (t : CType). record { type = t; value = None }) types) f) ≡ Wrong
no-field [] zero = refl
no-field [] (suc f) = refl
no-field (t ∷ types) zero = refl
no-field (t ∷ types) (suc f) = no-field types f

no-element : (n : ℕ) (t : CType) (i : ℤ) → read (entry (replicate n (record { type = t; value = None })) i) ≡ Wrong
no-element n t (negsuc i) = refl
no-element zero t (pos zero) = refl
no-element zero t (pos (suc i)) = refl
no-element (suc n) t (pos zero) = refl
no-element (suc n) t (pos (suc i)) = no-element n t (pos i)

no-row : (rows : List Row) (a : ℕ) (i : ℤ)
    → read (element (slice_get (map (λ (r : Row). replicate r.size (record { type = r.type; value = None })) rows) a) i)
    ≡ Wrong
no-row [] zero i = refl
no-row [] (suc a) i = refl
no-row (r ∷ rows) zero i = no-element r.size r.type i
no-row (r ∷ rows) (suc a) i = no-row rows a i

pub field-unset : (file : File) (int : Width) (l : Locals) (f : ℕ) → meaning int (no_values file) l (Field f) ≡ Wrong
unfolding meaning
field-unset file int l f = no-field file.fields f

pub element-unset : (file : File) (int : Width) (l : Locals) (a : ℕ) (e : CExpr)
    → meaning int (no_values file) l (Element a e) ≡ Wrong
unfolding meaning
element-unset file int l a e = at (meaning int (no_values file) l e)
  where
    at : (m : Meaning) → with_meaning m (λ i. read (element (slice_get (no_values file).rows a) i.value)) ≡ Wrong
    at (Gives i) = no-row file.rows a i.value
    at Wrong = refl
