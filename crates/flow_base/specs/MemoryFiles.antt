-- Files in memory: which bytes a read gives, and which reads fail.
use Rattle.std.specs.Prelude.{ℕ, ◌+◌, ◌-◌, min, List, [], ◌∷◌, length, drop}
use Rattle.std.specs.Prelude.{find, Bool, if◌then◌else◌, Option, Some, None}
use Rattle.std.specs.Str.{bytes_eq}
use Rattle.flow_base.specs.Counts.{counted, is_listed}

-- a file: the most that one read gives, which reads fail, and what was done with it so far
pub record FileState : Type 0 where
  pub name : List ℕ
  pub bytes : List ℕ
  pub piece : ℕ
  pub fail : List ℕ
  pub given : ℕ
  pub reads : ℕ
  pub failed : ℕ

-- files, and how many reads of names that aren't there failed
pub record FilesState : Type 0 where
  pub files : List FileState
  pub missed : ℕ

-- a file of which nothing was read
abbrev pub fresh_file : List ℕ → List ℕ → ℕ → List ℕ → FileState
fresh_file name bytes piece fail =
    record {
      name = name;
      bytes = bytes;
      piece = piece;
      fail = fail;
      given = 0;
      reads = 0;
      failed = 0;
    }

-- whether the file has that name
abbrev pub is_named : List ℕ → FileState → Bool
is_named name file = bytes_eq file.name name

-- the first file of that name
abbrev pub first_of : List ℕ → List FileState → Option FileState
first_of name files = find (is_named name) files

-- the bytes that are not given yet, none where there is no file
abbrev pub bytes_left : Option FileState → List ℕ
bytes_left None = []
bytes_left (Some file) = drop file.given file.bytes

-- how many reads of the file failed; without a file, how many reads of names without a file failed
abbrev pub failed_reads : ℕ → Option FileState → ℕ
failed_reads missed None = missed
failed_reads missed (Some file) = file.failed

-- the bytes of that name that are not given yet: those of its first file
abbrev pub left_of : List FileState → List ℕ → Option (List ℕ)
left_of files name = Some (bytes_left (first_of name files))

-- how many reads of that name failed: those of its first file
abbrev pub faults_of : FilesState → List ℕ → ℕ
faults_of inputs name = failed_reads inputs.missed (first_of name inputs.files)

-- whether the file's next read fails: its number is listed
abbrev pub fails_next : FileState → Bool
fails_next file = is_listed file.fail (counted file.reads)

-- how many bytes the next read gives into that room, where it doesn't fail
abbrev pub next_count : ℕ → FileState → ℕ
next_count room file = min (min room file.piece) (length file.bytes - file.given)

-- the file when its next read gave its bytes
abbrev pub after_giving : ℕ → FileState → FileState
after_giving room file =
    record file { reads = counted file.reads; given = file.given + next_count room file }

-- the file when its next read failed
abbrev pub after_failing : FileState → FileState
after_failing file = record file { reads = counted file.reads; failed = counted file.failed }

-- the file after its next read
abbrev pub after_next : ℕ → FileState → FileState
after_next room file = if fails_next file then after_failing file else after_giving room file

-- how many bytes a read of that file gives, none where it fails
abbrev pub read_count : ℕ → Option FileState → Option ℕ
read_count room None = None
read_count room (Some file) = if fails_next file then None else Some (next_count room file)

-- how many bytes a read gives where no read fails, 0 where there is no file
abbrev pub sure_count : ℕ → Option FileState → ℕ
sure_count room None = 0
sure_count room (Some file) = next_count room file

-- the first file of that name changes, and no other
abbrev pub change_first : (FileState → FileState) → List ℕ → List FileState → List FileState
change_first change name [] = []
change_first change name (file ∷ files) =
    if is_named name file then change file ∷ files else file ∷ change_first change name files

-- the files after a read of that name: its first file was read, or one more read found no file of its name
abbrev pub after_read : ℕ → List ℕ → FilesState → Option FileState → FilesState
after_read room name inputs None = record inputs { missed = counted inputs.missed }
after_read room name inputs (Some file) =
    record inputs { files = change_first (after_next room) name inputs.files }
