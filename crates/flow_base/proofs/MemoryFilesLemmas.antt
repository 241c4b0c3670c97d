-- Files in memory after a read: that of the name changes, and no other.
use Rattle.std.proofs.Common.{◌≡◌, ◌≢◌, ℕ, suc, ◌+◌, ◌<◌, Bool, true, false, List, [], ◌∷◌}
use Rattle.std.proofs.Common.{length, get_or, set, Option, Some, None, refl, sym, ap, ◌∙◌, arith}
use Rattle.std.specs.Prelude.{position, nat_lt, if◌then◌else◌}
use Rattle.std.specs.Option.{option_map, MatchOption}
use Rattle.std.specs.List.{position_or_len, slice_get}
use Rattle.std.proofs.lemmas.List.Folds.{find_at}
use Rattle.std.proofs.lemmas.Option.{slice_get-get_or, slice_get_past}
use Rattle.std.proofs.lemmas.Bool.{ltb-true, ltb-false}
use Rattle.std.proofs.lemmas.Slice.Eq.{bytes_eq-Decides}
use Rattle.flow_base.specs.MemoryFiles.{FileState, is_named, first_of, change_first}
use Rattle.flow_base.specs.MemoryFiles.{fails_next, after_failing, after_giving, after_next}

-- where the first file of that name stands, or the number of the files
abbrev first_place : List ℕ → List FileState → ℕ
first_place name files = position_or_len (is_named name) files

-- the change keeps the name of each file
pub record KeepsName (change : FileState → FileState) : Type 0 where
  pub name : (file : FileState) → (change file).name ≡ file.name

-- a change that keeps the name keeps whether a file has one
named_change : (change : FileState → FileState)
    (keeps : KeepsName change) (name : List ℕ) (file : FileState) (b : Bool) →
    is_named name file ≡ b → is_named name (change file) ≡ b
named_change change keeps name file b e = let k = keeps.name file in rw k e

-- the first file of that name, by whether the file in front has it
first_of-change_at : (change : FileState → FileState)
    (keeps : KeepsName change) (name : List ℕ) (file : FileState) (files : List FileState) (b : Bool) →
    is_named name file ≡ b →
    first_of name (change_first change name files) ≡ option_map change (first_of name files) →
    first_of name (change_first change name (file ∷ files)) ≡ option_map change (first_of name (file ∷ files))
first_of-change_at change keeps name file files true e rest =
    let f = named_change change keeps name file true e in rw (e, f) refl
first_of-change_at change keeps name file files false e rest = rw (e, e) rest

-- the first file of that name is changed
pub first_of-change : (change : FileState → FileState)
    (keeps : KeepsName change) (name : List ℕ) (files : List FileState) →
    first_of name (change_first change name files) ≡ option_map change (first_of name files)
first_of-change change keeps name [] = refl
first_of-change change keeps name (file ∷ files) =
    first_of-change_at change keeps name file files (is_named name file) refl (first_of-change change keeps name files)

-- a file of one name has no other
not_other : (name other : List ℕ) (file : FileState) → other ≢ name → is_named name file ≡ true →
    is_named other file ≡ false
not_other name other file ne e =
    elim (is_named other file) as (λ b. is_named other file ≡ b → b ≡ false) [
      | true ↦ λ f. absurd (ne (sym ((bytes_eq-Decides file.name other).0 f) ∙ (bytes_eq-Decides file.name name).0 e))
      | false ↦ λ f. refl
    ] refl

-- the first file of another name, by whether the file in front is changed
first_of-other_at : (change : FileState → FileState)
    (keeps : KeepsName change) (name other : List ℕ) (file : FileState) (files : List FileState) (b : Bool) →
    other ≢ name → is_named name file ≡ b →
    first_of other (change_first change name files) ≡ first_of other files →
    first_of other (change_first change name (file ∷ files)) ≡ first_of other (file ∷ files)
first_of-other_at change keeps name other file files true ne e rest =
    let f = not_other name other file ne e in
    let g = named_change change keeps other file false f in
    rw (e, g, f) refl
first_of-other_at change keeps name other file files false ne e rest = rw (e, rest) refl

-- the first file of another name stays
pub first_of-other : (change : FileState → FileState)
    (keeps : KeepsName change) (name other : List ℕ) (files : List FileState) → other ≢ name →
    first_of other (change_first change name files) ≡ first_of other files
first_of-other change keeps name other [] ne = refl
first_of-other change keeps name other (file ∷ files) ne =
    first_of-other_at change keeps name other file files (is_named name file) ne refl
    (first_of-other change keeps name other files ne)

-- the change as a write at a place, by whether the file in front is changed
change_first-set_at : (change : FileState → FileState)
    (name : List ℕ) (file d : FileState) (files : List FileState) (b : Bool) →
    is_named name file ≡ b →
    (first_place name files < length files → change_first change name files ≡ set files (first_place name files) (change (get_or files (first_place name files) d))) →
    first_place name (file ∷ files) < length (file ∷ files) →
    change_first change name (file ∷ files) ≡ set (file ∷ files) (first_place name (file ∷ files))
    (change (get_or (file ∷ files) (first_place name (file ∷ files)) d))
change_first-set_at change name file d files true e rest lt = rw e refl
change_first-set_at change name file d files false e rest lt =
    let k : ℕ = first_place name files in
    let step : 1 + k ≡ suc k = omega arith in
    let within : 1 + k < length (file ∷ files) = rw e at lt in
    let inner : k < length files = omega arith in
    rw (e, step) (ap (λ (z : List FileState). file ∷ z) (rest inner))

-- a change of the first file is a write where it stands
pub change_first-set : (change : FileState → FileState)
    (name : List ℕ) (d : FileState) (files : List FileState) →
    first_place name files < length files →
    change_first change name files ≡ set files (first_place name files)
    (change (get_or files (first_place name files) d))
change_first-set change name d [] lt = absurd (omega arith)
change_first-set change name d (file ∷ files) lt =
    change_first-set_at change name file d files (is_named name file) refl (change_first-set change name d files) lt

-- the file that stands at the first place of that name
pub record IsFirst (name : List ℕ) (files : List FileState) (index : ℕ) (file : FileState) : Type 0 where
  pub found : first_of name files ≡ Some file
  pub changed : (change : FileState → FileState) → change_first change name files ≡ set files index (change file)

-- the file at the place of the first of that name is the first
is_first_at : (name : List ℕ) (files : List FileState) (index : ℕ) (file : FileState) →
    index ≡ first_place name files → index < length files → file ≡ get_or files index file →
    IsFirst name files index file
is_first_at name files index file at within is = record {
  found =
      find_at (is_named name) files ∙ ap (slice_get files) (sym at) ∙ slice_get-get_or files index file within
      ∙ ap Some (sym is);
  changed = λ change.
      let here : first_place name files < length files = omega arith in
      let e = change_first-set change name file files here in
      let f = rw (← at, ← is) at e in f;
}

-- what a walk answers, by whether there is such a file
position_cases : (name : List ℕ) (files : List FileState) (answer : Option ℕ) (b : Bool) →
    nat_lt (first_place name files) (length files) ≡ b → answer ≡ position (is_named name) files →
    MatchOption answer (first_of name files ≡ None) (λ index. (index ≡ first_place name files) × (index < length files))
position_cases name files answer true e is = let at = rw e at is in rw at (refl, ltb-true _ _ e)
position_cases name files answer false e is =
    let at = rw e at is in rw at (find_at (is_named name) files ∙ slice_get_past files _ (ltb-false _ _ e))

-- the walk finds the first file of that name
pub first_at : (name : List ℕ) (files : List FileState) (index : ℕ) (file : FileState) →
    Some index ≡ position (is_named name) files → file ≡ get_or files index file →
    IsFirst name files index file
first_at name files index file at is =
    let h = position_cases name files (Some index) (nat_lt (first_place name files) (length files)) refl at in
    is_first_at name files index file h.0 h.1 is

-- the walk finds none where no file has that name
pub none_at : (name : List ℕ) (files : List FileState) → None ≡ position (is_named name) files →
    first_of name files ≡ None
none_at name files at =
    position_cases name files None (nat_lt (first_place name files) (length files)) refl at

-- a read keeps the name, whether it fails or not
after_next-name : (room : ℕ) (file : FileState) (b : Bool) →
    (if b then after_failing file else after_giving room file).name ≡ file.name
after_next-name room file true = refl
after_next-name room file false = refl

-- a read keeps the name
pub next_keeps : (room : ℕ) → KeepsName (after_next room)
next_keeps room = record { name = λ file. after_next-name room file (fails_next file) }

-- and so does giving
pub giving_keeps : (room : ℕ) → KeepsName (after_giving room)
giving_keeps room = record { name = λ file. refl }

-- the first file of that name after a change that keeps names
pub first_of-written : (change : FileState → FileState)
    (keeps : KeepsName change) (name : List ℕ) (files : List FileState) (index : ℕ) (file new : FileState) →
    IsFirst name files index file → new ≡ change file →
    first_of name (set files index new) ≡ Some new
first_of-written change keeps name files index file new first is =
    rw is (ap (first_of name) (sym (first.changed change)) ∙ first_of-change change keeps name files ∙ ap (option_map change) first.found)

-- a write where the first file of that name stands changes that file
pub set-change_first : (change : FileState → FileState)
    (name : List ℕ) (files : List FileState) (index : ℕ) (file new : FileState) →
    IsFirst name files index file → new ≡ change file →
    set files index new ≡ change_first change name files
set-change_first change name files index file new first is = rw is (sym (first.changed change))

-- nothing is changed, by whether the file in front has the name
change_none_at : (change : FileState → FileState)
    (name : List ℕ) (file : FileState) (files : List FileState) (b : Bool) →
    is_named name file ≡ b → (first_of name files ≡ None → change_first change name files ≡ files) →
    first_of name (file ∷ files) ≡ None → change_first change name (file ∷ files) ≡ file ∷ files
change_none_at change name file files true e rest none =
    let f : Some file ≡ None = rw e at none in absurd (cc)
change_none_at change name file files false e rest none =
    rw e (ap (λ (z : List FileState). file ∷ z) (rest (rw e at none)))

-- where no file has that name, none changes
pub change_first-none : (change : FileState → FileState) (name : List ℕ) (files : List FileState) →
    first_of name files ≡ None → change_first change name files ≡ files
change_first-none change name [] none = refl
change_first-none change name (file ∷ files) none =
    change_none_at change name file files (is_named name file) refl (change_first-none change name files) none
