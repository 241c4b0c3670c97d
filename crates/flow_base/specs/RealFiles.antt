-- Files of the system: what they have left, where their readers make that known, and what a read of a name does.
use Rattle.std.specs.Prelude.{◌≡◌, ◌≢◌, ℕ, List, [], ◌∷◌, ◌++◌, Bool, find, string_bytes}
use Rattle.std.specs.Prelude.{Option, Some, None, IfSome, MatchOption, Result, IsErr}
use Rattle.std.specs.Str.{bytes_eq}
use Rattle.std.specs.Io.KnownBytes.{ReadConsumes}
use Rattle.flow_base.specs.declared.real_inputs.RealFile.{RealFile}
use Rattle.flow_base.specs.declared.real_inputs.Source.{Source}
use Rattle.flow_base.specs.declared.real_inputs.Source.TheVariants as sources

module _ {F : Type 0} where
  -- whether the file was opened by that name
  abbrev pub is_named : List ℕ → RealFile F → Bool
  is_named name file = bytes_eq (string_bytes file.name) name

  -- the first file that was opened by that name
  abbrev pub first_of : List ℕ → List (RealFile F) → Option (RealFile F)
  first_of name files = find (is_named name) files

  -- one file more stands after the others, has that name, and isn't at its end before a read
  pub record IsOpened (name : List ℕ) (old new : List (RealFile F)) : Type 0 where
    pub file : RealFile F
    pub name_is : string_bytes file.name ≡ name
    pub not_ended : file.source ≢ sources.Ended
    pub added : new ≡ old ++ file ∷ []

  -- the files of other names stay
  abbrev pub OthersStay : List ℕ → List (RealFile F) → List (RealFile F) → Type 0
  OthersStay name old new = (other : List ℕ) → other ≢ name → first_of other new ≡ first_of other old

module _ {F : Type 0} (remaining : F → Option (List ℕ)) where
  -- what its reader has left, and nothing after its end; of a file that can't be opened nothing is known
  abbrev pub source_left : Source F → Option (List ℕ)
  source_left (sources.Open file) = remaining file
  source_left sources.Ended = Some []
  source_left sources.Missing = None

  -- one read of a file, which is the one that was found, or where there was none one that isn't at its end: the bytes
  -- that it gives are the next ones, and a file that can't be opened fails and stays so
  pub record ReadsFile {E : Type 0} (found : Option (RealFile F)) (after : RealFile F) (result : Result ℕ E)
      (buf : List ℕ) : Type 0 where
    pub before : Source F
    pub of_found : IfSome found (λ file. file.source ≡ before)
    pub of_none : found ≡ None → before ≢ sources.Ended
    pub bytes : ReadConsumes (source_left before) (source_left after.source) result buf
    pub missing : before ≡ sources.Missing → IsErr result
    pub still_missing : before ≡ sources.Missing → after.source ≡ sources.Missing

  -- a read of a name reads its first file once; where the name has no file after it, it failed and left all files as
  -- they were
  abbrev pub ReadsName : {E : Type 0} → List ℕ → List (RealFile F) → List (RealFile F) → Result ℕ E → List ℕ → Type 0
  ReadsName name old new result buf =
      MatchOption (first_of name new) (IsErr result × (new ≡ old))
      (λ after. ReadsFile (first_of name old) after result buf)
