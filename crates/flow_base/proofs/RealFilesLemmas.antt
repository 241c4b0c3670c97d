-- Files of the system after a read: the first of the name was read, and those of other names stay.
use Rattle.std.proofs.Common.{◌≡◌, ◌≢◌, ℕ, ◌+◌, ◌<◌, Bool, true, false, cond, not, List, [], ◌∷◌, ◌++◌}
use Rattle.std.proofs.Common.{length, get_or, set, Option, Some, None, IfSome, OnSome, Result, Ok, Err, OnErr}
use Rattle.std.proofs.Common.{IsErr, MatchOption, string_bytes, refl, sym, ap, ◌∙◌, arith, length-append}
use Rattle.std.specs.Prelude.{position, find, nat_lt}
use Rattle.std.specs.List.{position_or_len, slice_get}
use Rattle.std.specs.Str.{bytes_eq}
use Rattle.std.specs.Io.KnownBytes.{ReadConsumes}
use Rattle.std.proofs.lemmas.List.Folds.{find_at, find-set, find_past}
use Rattle.std.proofs.lemmas.List.Sums.{passes_at_first}
use Rattle.std.proofs.lemmas.Option.{slice_get-get_or, slice_get_past, same_Some}
use Rattle.std.proofs.lemmas.Bool.{ltb-true, ltb-false}
use Rattle.std.proofs.lemmas.Slice.Eq.{bytes_eq-Decides}
use Rattle.flow_base.specs.declared.real_inputs.RealFile.{RealFile}
use Rattle.flow_base.specs.declared.real_inputs.Source.TheVariants as sources
use Rattle.flow_base.specs.RealFiles.{is_named, first_of, IsOpened, OthersStay, source_left, ReadsFile, ReadsName}

-- what holds, holds at an error
pub holds_on_err : {T E P : Type 0} (result : Result T E) → P → OnErr result P
holds_on_err (Ok value) fact = tt
holds_on_err (Err error) fact = fact

module _ {X : Type 0} (p : X → Bool) where
  -- what a walk answers, by whether an item passes
  position_cases : (xs : List X) (answer : Option ℕ) (b : Bool) →
      nat_lt (position_or_len p xs) (length xs) ≡ b → answer ≡ position p xs →
      MatchOption answer (find p xs ≡ None) (λ index. (index ≡ position_or_len p xs) × (index < length xs))
  position_cases xs answer true e is = let at = rw e at is in rw at (refl, ltb-true _ _ e)
  position_cases xs answer false e is =
      let at = rw e at is in rw at (find_at p xs ∙ slice_get_past xs _ (ltb-false _ _ e))

  -- a walk that finds an item answers its place
  pub place_found : (xs : List X) (index : ℕ) → Some index ≡ position p xs →
      (index ≡ position_or_len p xs) × (index < length xs)
  place_found xs index at =
      position_cases xs (Some index) (nat_lt (position_or_len p xs) (length xs)) refl at

  -- a walk that finds none answers so
  pub none_found : (xs : List X) → None ≡ position p xs → find p xs ≡ None
  none_found xs at = position_cases xs None (nat_lt (position_or_len p xs) (length xs)) refl at

  -- where no item is found, none has a place
  none_past : (xs : List X) → find p xs ≡ None → position_or_len p xs ≡ length xs
  none_past [] none = refl
  none_past (x ∷ xs) none = by (p x) none (none_past xs)
    where
      by : (b : Bool) → cond b (Some x) (find p xs) ≡ None → (find p xs ≡ None → position_or_len p xs ≡ length xs) →
          cond (not b) (1 + position_or_len p xs) 0 ≡ length (x ∷ xs)
      by true some rest = let clash : Some x ≡ None = some in absurd (cc)
      by false none rest =
          let step : 1 + length xs ≡ length (x ∷ xs) = omega arith in ap (λ n. 1 + n) (rest none) ∙ step

  -- where a walk answers a place, an item is found
  pub not_none : (xs : List X) (index : ℕ) → Some index ≡ position p xs → find p xs ≢ None
  not_none xs index at = λ none.
      let place : index ≡ position_or_len p xs = (place_found xs index at).0 in
      let within : index < length xs = (place_found xs index at).1 in
      let past : position_or_len p xs ≡ length xs = none_past xs none in
      absurd (omega arith)

  -- an item that passes is the first after others that don't
  pub last_place : (xs : List X) (y : X) → find p xs ≡ None → p y ≡ true →
      position_or_len p (xs ++ y ∷ []) ≡ length xs
  last_place [] y none passes = ap (λ b. cond (not b) (1 + 0) 0) passes
  last_place (x ∷ xs) y none passes = by (p x) none (λ rest. last_place xs y rest passes)
    where
      by : (b : Bool) → cond b (Some x) (find p xs) ≡ None →
          (find p xs ≡ None → position_or_len p (xs ++ y ∷ []) ≡ length xs) →
          cond (not b) (1 + position_or_len p (xs ++ y ∷ [])) 0 ≡ length (x ∷ xs)
      by true some rest = let clash : Some x ≡ None = some in absurd (cc)
      by false none rest =
          let step : 1 + length xs ≡ length (x ∷ xs) = omega arith in ap (λ n. 1 + n) (rest none) ∙ step

  -- it is what is found
  pub last_found : (xs : List X) (y : X) → find p xs ≡ None → p y ≡ true → find p (xs ++ y ∷ []) ≡ Some y
  last_found [] y none passes = ap (λ b. cond b (Some y) None) passes
  last_found (x ∷ xs) y none passes = by (p x) none (λ rest. last_found xs y rest passes)
    where
      by : (b : Bool) → cond b (Some x) (find p xs) ≡ None →
          (find p xs ≡ None → find p (xs ++ y ∷ []) ≡ Some y) →
          cond b (Some x) (find p (xs ++ y ∷ [])) ≡ Some y
      by true some rest = let clash : Some x ≡ None = some in absurd (cc)
      by false none rest = rest none

  -- an item after the others that doesn't pass isn't found
  find_push : (xs : List X) (y : X) → p y ≡ false → find p (xs ++ y ∷ []) ≡ find p xs
  find_push [] y fails = ap (λ b. cond b (Some y) None) fails
  find_push (x ∷ xs) y fails = ap (cond (p x) (Some x)) (find_push xs y fails)

module _ {F : Type 0} where
  -- a file of one name has no other
  not_other : (name other : List ℕ) (file : RealFile F) → other ≢ name → is_named name file ≡ true →
      is_named other file ≡ false
  not_other name other file ne e =
      let is_name : string_bytes file.name ≡ name = (bytes_eq-Decides (string_bytes file.name) name).0 e in
      elim (is_named other file) as (λ b. is_named other file ≡ b → b ≡ false) [
        | true ↦ λ f. absurd (ne (sym ((bytes_eq-Decides (string_bytes file.name) other).0 f) ∙ is_name))
        | false ↦ λ f. refl
      ] refl

  -- a file that is opened by that name has it
  opened_named : (name : List ℕ) (old new : List (RealFile F)) (opened : IsOpened name old new) →
      is_named name opened.file ≡ true
  opened_named name old new opened = (bytes_eq-Decides (string_bytes opened.file.name) name).1 opened.name_is

  -- the file that is opened is the first of its name
  pub opened_place : (name : List ℕ) (old new : List (RealFile F)) → first_of name old ≡ None →
      IsOpened name old new → length old ≡ position_or_len (is_named name) new
  opened_place name old new none opened =
      rw opened.added (sym (last_place (is_named name) old opened.file none (opened_named name old new opened)))

  -- one file more was opened
  pub opened_length : (name : List ℕ) (old new : List (RealFile F)) → IsOpened name old new →
      length old < length new
  opened_length name old new opened =
      let longer : length (old ++ opened.file ∷ []) ≡ length old + 1 = length-append old (opened.file ∷ []) in
      rw opened.added (omega arith)

  -- the files of other names stay where one is opened, by whether there is a file of that name
  opened_others : (name : List ℕ) (old opened : List (RealFile F)) (found : Option (RealFile F)) →
      OnSome found (opened ≡ old) → (found ≡ None → IsOpened name old opened) → OthersStay name old opened
  opened_others name old opened None same added = λ other ne.
      let more = added refl in
      let fails = not_other name other more.file ne (opened_named name old opened more) in
      rw more.added (find_push (is_named other) old more.file fails)
  opened_others name old opened (Some file) same added = λ other ne. ap (first_of other) same

  -- the file at the place of the first of that name
  pub record StandsFirst (name : List ℕ) (files : List (RealFile F)) (index : ℕ) (file : RealFile F) : Type 0 where
    pub place : index ≡ position_or_len (is_named name) files
    pub within : index < length files
    pub is : file ≡ get_or files index file

  -- it has the name
  first_named : (name : List ℕ) (files : List (RealFile F)) (index : ℕ) (file : RealFile F) →
      StandsFirst name files index file → is_named name file ≡ true
  first_named name files index file first =
      let place : index ≡ position_or_len (is_named name) files = first.place in
      let within : index < length files = first.within in
      let here : position_or_len (is_named name) files < length files = omega arith in
      ap (is_named name) first.is ∙ ap (λ i. is_named name (get_or files i file)) place
      ∙ passes_at_first (is_named name) files file here

  -- and it is the first of it
  first_found : (name : List ℕ) (files : List (RealFile F)) (index : ℕ) (file : RealFile F) →
      StandsFirst name files index file → first_of name files ≡ Some file
  first_found name files index file first =
      find_at (is_named name) files ∙ ap (slice_get files) (sym first.place)
      ∙ slice_get-get_or files index file first.within ∙ ap Some (sym first.is)

  -- a file that keeps its name is the first of it too
  first_written : (name : List ℕ) (files : List (RealFile F)) (index : ℕ) (file after : RealFile F) →
      StandsFirst name files index file → after.name ≡ file.name →
      first_of name (set files index after) ≡ Some after
  first_written name files index file after first kept =
      find-set (is_named name) files index after first.place first.within
      (ap (λ n. bytes_eq (string_bytes n) name) kept ∙ first_named name files index file first)

  -- the files of other names stay over a read of that name
  pub others_stay : (name : List ℕ) (old opened : List (RealFile F)) (index : ℕ) (file after : RealFile F) →
      OnSome (first_of name old) (opened ≡ old) → (first_of name old ≡ None → IsOpened name old opened) →
      StandsFirst name opened index file → after.name ≡ file.name →
      OthersStay name old (set opened index after)
  others_stay name old opened index file after same added first kept = λ other ne.
      let named = first_named name opened index file first in
      let fails = not_other name other file ne named in
      let after_named = ap (λ n. bytes_eq (string_bytes n) name) kept ∙ named in
      let after_fails = not_other name other after ne after_named in
      find_past (is_named other) opened index after file (ap (is_named other) (sym first.is) ∙ fails) after_fails
      ∙ opened_others name old opened (first_of name old) same added other ne

  -- the file that was found stands as before, by whether there was one
  found_before : (name : List ℕ) (old opened : List (RealFile F)) (file : RealFile F) (found : Option (RealFile F)) →
      first_of name old ≡ found → OnSome found (opened ≡ old) → first_of name opened ≡ Some file →
      IfSome found (λ f. f.source ≡ file.source)
  found_before name old opened file None e same here = tt
  found_before name old opened file (Some f) e same here =
      ap (λ (x : RealFile F). x.source) (same_Some f file (sym e ∙ ap (first_of name) (sym same) ∙ here))

  -- a file that was opened isn't at its end before a read
  opened_before : (name : List ℕ) (old opened : List (RealFile F)) (file : RealFile F) →
      (first_of name old ≡ None → IsOpened name old opened) → first_of name opened ≡ Some file →
      first_of name old ≡ None → file.source ≢ sources.Ended
  opened_before name old opened file added here none = λ ended.
      let more = added none in
      let last : first_of name opened ≡ Some more.file =
      ap (first_of name) more.added
      ∙ last_found (is_named name) old more.file none (opened_named name old opened more) in
      let same : more.file ≡ file = same_Some more.file file (sym last ∙ here) in
      more.not_ended (ap (λ (x : RealFile F). x.source) same ∙ ended)

module _ {F E : Type 0} (remaining : F → Option (List ℕ)) where
  -- a read of the file where the first of its name stands is a read of the name
  pub reads_name : (name : List ℕ) (old opened : List (RealFile F)) (index : ℕ) (file after : RealFile F)
      (result : Result ℕ E) (buf : List ℕ) →
      OnSome (first_of name old) (opened ≡ old) → (first_of name old ≡ None → IsOpened name old opened) →
      StandsFirst name opened index file → after.name ≡ file.name →
      ReadConsumes (source_left remaining file.source) (source_left remaining after.source) result buf →
      (file.source ≡ sources.Missing → IsErr result) →
      (file.source ≡ sources.Missing → after.source ≡ sources.Missing) →
      ReadsName remaining name old (set opened index after) result buf
  reads_name name old opened index file after result buf same added first kept bytes missing still =
      let written = first_written name opened index file after first kept in
      let here = first_found name opened index file first in
      let read : ReadsFile remaining (first_of name old) after result buf = record {
        before = file.source;
        of_found = found_before name old opened file (first_of name old) refl same here;
        of_none = opened_before name old opened file added here;
        bytes = bytes;
        missing = missing;
        still_missing = still;
      } in
      rw written read

  -- where no file could be opened, the read fails and all files stay
  pub reads_none : (name : List ℕ) (old new : List (RealFile F)) (result : Result ℕ E) (buf : List ℕ) →
      first_of name old ≡ None → new ≡ old → IsErr result → ReadsName remaining name old new result buf
  reads_none name old new result buf none same failed =
      let gone : first_of name new ≡ None = ap (first_of name) same ∙ none in rw gone (failed, same)
