-- What a read of files in memory promises as a source of bytes.
use Rattle.std.proofs.Common.{◌≡◌, ◌≢◌, ℕ, ◌≤◌, Bool, true, false, List, Option}
use Rattle.std.proofs.Common.{Some, None, Result, Ok, Err, OnOk, refl, ap, arith}
use Rattle.std.specs.Prelude.{if◌then◌else◌}
use Rattle.std.specs.Option.{option_map}
use Rattle.std.specs.Result.{result_ok}
use Rattle.std.proofs.lemmas.Slice.Eq.{bytes_eq-Decides}
use Rattle.std.specs.Str.{bytes_eq}
use Rattle.flow_base.specs.Causes.{Rose, HasCause, OthersKept, NoneFalls, AllStay}
use Rattle.flow_base.specs.Counts.{counted}
use Rattle.flow_base.specs.MemoryFiles.{FileState, FilesState, first_of, bytes_left, left_of, faults_of, failed_reads}
use Rattle.flow_base.specs.MemoryFiles.{fails_next, after_failing, after_giving, after_next, read_count, after_read}
use Rattle.flow_base.proofs.MemoryFilesLemmas.{first_of-change, first_of-other, next_keeps}

-- a count never falls
pub counted-later : (count : ℕ) → count ≤ counted count
counted-later count = grind arith

-- counted once more it rose
pub counted-rose : (count : ℕ) → Rose count (counted count)
counted-rose count = grind arith

-- the bytes of other names stay, by whether there is such a file
others_at : (room : ℕ) (name : List ℕ) (old : FilesState) (file : Option FileState) →
    OthersKept name (left_of old.files) (left_of (after_read room name old file).files)
others_at room name old None = λ other ne. refl
others_at room name old (Some file) =
    λ other ne. ap (λ (f : Option FileState). Some (bytes_left f)) (first_of-other (after_next room) (next_keeps room) name other old.files ne)

-- the bytes of other names stay
pub others_kept : (room : ℕ) (name : List ℕ) (old new : FilesState) →
    new ≡ after_read room name old (first_of name old.files) →
    OthersKept name (left_of old.files) (left_of new.files)
others_kept room name old new is = rw is (others_at room name old (first_of name old.files))

-- the count of a file never falls, whether the read fails or not
failed-later : (room : ℕ) (file : FileState) (b : Bool) →
    file.failed ≤ (if b then after_failing file else after_giving room file).failed
failed-later room file true = counted-later file.failed
failed-later room file false = omega arith

-- with more names missed no count is less
missed-later : (missed more : ℕ) (file : Option FileState) → missed ≤ more →
    failed_reads missed file ≤ failed_reads more file
missed-later missed more None le = le
missed-later missed more (Some file) le = omega arith

-- the count of a name never falls over a read of it
next-later : (missed room : ℕ) (file : Option FileState) →
    failed_reads missed file ≤ failed_reads missed (option_map (after_next room) file)
next-later missed room None = omega arith
next-later missed room (Some file) = failed-later room file (fails_next file)

-- nor does that of another name
counts_other : (room : ℕ) (name other : List ℕ) (old : FilesState) (file : FileState) (b : Bool) →
    bytes_eq other name ≡ b →
    faults_of old other ≤ faults_of (after_read room name old (Some file)) other
counts_other room name other old file true e =
    let same : other ≡ name = (bytes_eq-Decides other name).0 e in
    rw (same, first_of-change (after_next room) (next_keeps room) name old.files)
    (next-later old.missed room (first_of name old.files))
counts_other room name other old file false e =
    let ne : other ≢ name = λ same. cc ((bytes_eq-Decides other name).1 same) in
    rw (first_of-other (after_next room) (next_keeps room) name other old.files ne) (omega arith)

-- nor of any name, by whether there is such a file
counts_at : (room : ℕ) (name : List ℕ) (old : FilesState) (file : Option FileState) →
    NoneFalls (faults_of old) (faults_of (after_read room name old file))
counts_at room name old None =
    λ other. missed-later old.missed (counted old.missed) (first_of other old.files) (counted-later old.missed)
counts_at room name old (Some file) =
    λ other. counts_other room name other old file (bytes_eq other name) refl

-- the count of no name falls
pub none_falls : (room : ℕ) (name : List ℕ) (old new : FilesState) →
    new ≡ after_read room name old (first_of name old.files) →
    NoneFalls (faults_of old) (faults_of new)
none_falls room name old new is = rw is (counts_at room name old (first_of name old.files))

-- a read that gives bytes leaves the count
given-failed : (room : ℕ) (file : FileState) → fails_next file ≡ false →
    (after_next room file).failed ≡ file.failed
given-failed room file e = rw e refl

-- so the counts of all names stay
stays_other : (room : ℕ) (name other : List ℕ) (old : FilesState) (file : FileState) (b : Bool) →
    bytes_eq other name ≡ b → first_of name old.files ≡ Some file → fails_next file ≡ false →
    faults_of (after_read room name old (Some file)) other ≡ faults_of old other
stays_other room name other old file true e at good =
    let same : other ≡ name = (bytes_eq-Decides other name).0 e in
    rw (same, first_of-change (after_next room) (next_keeps room) name old.files, at) (given-failed room file good)
stays_other room name other old file false e at good =
    let ne : other ≢ name = λ same. cc ((bytes_eq-Decides other name).1 same) in
    rw (first_of-other (after_next room) (next_keeps room) name other old.files ne) refl

-- a read that gives bytes isn't listed
count_good : (room count : ℕ) (file : FileState) (b : Bool) → fails_next file ≡ b →
    Some count ≡ read_count room (Some file) → fails_next file ≡ false
count_good room count file true e is = let f : Some count ≡ None = rw e at is in absurd (cc)
count_good room count file false e is = e

-- and so by whether there is such a file
stays_at : (room count : ℕ) (name : List ℕ) (old : FilesState) (file : Option FileState) →
    first_of name old.files ≡ file → Some count ≡ read_count room file →
    AllStay (faults_of old) (faults_of (after_read room name old file))
stays_at room count name old None at is = let f : Some count ≡ None = is in absurd (cc)
stays_at room count name old (Some file) at is =
    λ other. stays_other room name other old file (bytes_eq other name) refl at (count_good room count file (fails_next file) refl is)

-- success leaves every count
pub all_stay : {E : Type 0} (room : ℕ) (name : List ℕ) (old new : FilesState)
    (result : Result ℕ E) → new ≡ after_read room name old (first_of name old.files) →
    result_ok result ≡ read_count room (first_of name old.files) →
    OnOk result (AllStay (faults_of old) (faults_of new))
all_stay room name old new (Ok count) is answer =
    rw is (stays_at room count name old (first_of name old.files) refl answer)
all_stay room name old new (Err e) is answer = tt

-- a read that gives none is counted
fails_bad : (room : ℕ) (file : FileState) (b : Bool) → fails_next file ≡ b →
    None ≡ read_count room (Some file) → (after_next room file).failed ≡ counted file.failed
fails_bad room file true e is = rw e refl
fails_bad room file false e is = let f = rw e at is in absurd (cc)

-- a failed read is counted, by whether there is such a file
rose_at : (room : ℕ) (name : List ℕ) (old : FilesState) (file : Option FileState) →
    first_of name old.files ≡ file → None ≡ read_count room file →
    Rose (faults_of old name) (faults_of (after_read room name old file) name)
rose_at room name old None at is = rw at (counted-rose old.missed)
rose_at room name old (Some file) at is =
    rw (first_of-change (after_next room) (next_keeps room) name old.files, at, fails_bad room file (fails_next file) refl is) (counted-rose file.failed)

-- a failure comes only where the count of that name rose
pub has_cause : {E : Type 0} (room : ℕ) (name : List ℕ) (old new : FilesState)
    (result : Result ℕ E) → new ≡ after_read room name old (first_of name old.files) →
    result_ok result ≡ read_count room (first_of name old.files) →
    HasCause (faults_of old name) (faults_of new name) result
has_cause {E} room name old new (Ok count) is answer = record {
  later = none_falls room name old new is name;
  failed = tt;
  ok = all_stay {E = E} room name old new (Ok count) is answer name;
}
has_cause {E} room name old new (Err e) is answer = record {
  later = none_falls room name old new is name;
  failed = rw is (rose_at room name old (first_of name old.files) refl answer);
  ok = tt;
}
