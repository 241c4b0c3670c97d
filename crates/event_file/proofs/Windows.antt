-- The bytes at hand: a window into the buffer.
use Rattle.std.proofs.Common.{◌≡◌, ℕ, ◌+◌, ◌-◌, ◌<◌, ◌≤◌, Bool, true, false, nat_lt, ◌||◌, List, []}
use Rattle.std.proofs.Common.{◌∷◌, ◌++◌, length, take, drop, refl, sym, ap, ◌∙◌, arith}
use Rattle.std.proofs.Common.{take-append-drop, append_assoc, append-nil, length-append, length-drop}
use Rattle.std.specs.Prelude.{slice_range, if◌then◌else◌}
use Rattle.std.specs.List.{copy_within}
use Rattle.std.proofs.Math.Seq.{take-append-add}
use Rattle.std.proofs.Math.ListN.{drop_of_length-le}
use Rattle.std.proofs.lemmas.Bool.{ltb-true, ltb-false}
use Rattle.std.proofs.lemmas.Bool.Decides.{nat_tests}
use Rattle.std.proofs.lemmas.List.{take-append-le, length-take-le, drop-drop, take-take, drop-take}
use Rattle.std.proofs.lemmas.List.Edits.{take-paste}
use borrow.Rule.Slice.PartMut.{put_mid}
use Rattle.event_file.specs.Lines.{line_length, spelled}
use Rattle.event_file.specs.Reading.{cut_at, is_enough}
use Rattle.event_file.specs.declared.cuts.Cut.TheVariants as cuts
use Rattle.event_file.specs.declared.limits.TheConstants.{LINE_LIMIT, FILE_LIMIT}
use Rattle.event_file.proofs.LineLemmas.{line_length-le, newline_at}

-- the window moved to the front
pub moved_front : (buffer : List ℕ) (start end : ℕ) → end ≤ length buffer
    → take (end - start) (copy_within buffer start end 0) ≡ slice_range buffer start end
moved_front buffer start end within =
    let n = end - start in
    let fits : n ≤ length (drop start buffer) = omega (arith, length-drop start buffer) in
    let none : 0 ≤ length buffer = omega arith in
    let e : take (0 + n) (copy_within buffer start end 0) ≡ slice_range buffer start end = take-paste buffer 0 (drop start buffer) n none fits in
    let z : 0 + n ≡ n = omega arith in
    ap (λ m. take m (copy_within buffer start end 0)) (sym z) ∙ e

joined : (front piece post rest : List ℕ) → (front ++ (piece ++ post)) ++ rest ≡ front ++ (piece ++ (post ++ rest))
joined front piece post rest = simp append_assoc

-- a piece that is read after the bytes in front
pub put_after : (a k n : ℕ) (xs piece rest : List ℕ) → a ≤ length xs → n ≤ length piece
    → take (a + n) (put_mid a k xs piece ++ rest) ≡ take a xs ++ take n piece
put_after a k n xs piece rest le within =
    let len : length (take a xs) ≡ a = length-take-le a xs le in
    let post : List ℕ = drop k (drop a xs) in
    ap (take (a + n)) (joined (take a xs) piece post rest)
    ∙ ap (λ m. take (m + n) (take a xs ++ (piece ++ (post ++ rest)))) (sym len)
    ∙ take-append-add (take a xs) (piece ++ (post ++ rest)) n
    ∙ ap (λ (z : List ℕ). take a xs ++ z) (take-append-le n piece (post ++ rest) within)

-- the window after a read: the bytes at hand, and the piece
pub read_after : (b0 b1 shown piece rest pending : List ℕ) (start end k n len : ℕ) → b1 ≡ copy_within b0 start end 0 → shown ≡ b1
    → length b1 ≡ length b0 → end ≤ length b0 → n ≤ length piece → end - start + n ≤ len → slice_range b0 start end ≡ pending
    → slice_range (take len (put_mid (end - start) k shown piece ++ rest)) 0 (end - start + n) ≡ pending ++ take n piece
read_after b0 b1 shown piece rest pending start end k n len moved is same within le room was =
    let zero_less : end - start + n - 0 ≡ end - start + n = omega arith in
    let fits : end - start ≤ length shown = omega (arith, ap length is) in
    let front : take (end - start) shown ≡ pending =
    ap (take (end - start)) (is ∙ moved) ∙ moved_front b0 start end within ∙ was in
    ap (λ m. take m (take len (put_mid (end - start) k shown piece ++ rest))) zero_less
    ∙ take-take (end - start + n) len (put_mid (end - start) k shown piece ++ rest) room
    ∙ put_after (end - start) k n shown piece rest fits le
    ∙ ap (λ (z : List ℕ). z ++ take n piece) front

-- the window after a read that failed: the bytes at hand
pub read_none : (b0 b1 shown piece rest : List ℕ) (start end k len : ℕ) → b1 ≡ copy_within b0 start end 0 → shown ≡ b1
    → length b1 ≡ length b0 → end ≤ length b0 → end - start ≤ len
    → slice_range (take len (put_mid (end - start) k shown piece ++ rest)) 0 (end - start) ≡ slice_range b0 start end
read_none b0 b1 shown piece rest start end k len moved is same within room =
    let zero : end - start + 0 ≡ end - start = omega arith in
    ap (slice_range (take len (put_mid (end - start) k shown piece ++ rest)) 0) (sym zero)
    ∙ read_after b0 b1 shown piece rest (slice_range b0 start end) start end k 0 len moved is same within (omega arith) (omega arith) refl
    ∙ append-nil (slice_range b0 start end)

-- the length of a list whose front was written
pub length_written : (front items : List ℕ) (len : ℕ) → len ≤ length items → length (take len (front ++ drop (length front) items)) ≡ len
length_written front items len le =
    length-take-le len (front ++ drop (length front) items) (omega (arith, length-append front (drop (length front) items), length-drop (length front) items))

-- ---- what a cut says

-- a line that is taken isn't too long
pub cut-short : (at n held size : ℕ) → n ≤ held → cut_at at n held ≡ cuts.Line size → n ≤ LINE_LIMIT
cut-short at n held size le is = grind (arith, nat_tests)

-- it ends within the file
pub cut-within : (at n held size : ℕ) → n ≤ held → cut_at at n held ≡ cuts.Line size → at + size ≤ FILE_LIMIT
cut-within at n held size le is = grind (arith, nat_tests)

-- it has its newline, or it is all
pub cut-size : (at n held size : ℕ) → cut_at at n held ≡ cuts.Line size → size ≡ (if nat_lt n held then n + 1 else n)
cut-size at n held size is = grind (arith, nat_tests)

-- it isn't empty
pub cut-some : (at n held size : ℕ) → cut_at at n held ≡ cuts.Line size → 0 < size
cut-some at n held size is = grind (arith, nat_tests)

-- ---- a line is taken

-- the bytes of a window after its first ones
pub window_after : (buffer : List ℕ) (start end size : ℕ) → start + size ≤ end
    → slice_range buffer (start + size) end ≡ drop size (slice_range buffer start end)
window_after buffer start end size le =
    let m : size + (end - (start + size)) ≡ end - start = omega arith in
    ap (take (end - (start + size))) (sym (drop-drop size start buffer))
    ∙ sym (drop-take size (end - (start + size)) (drop start buffer))
    ∙ ap (λ n. drop size (take n (drop start buffer))) m

-- the first bytes of a window
pub window_front : (buffer : List ℕ) (start end size : ℕ) → start + size ≤ end
    → slice_range buffer start (start + size) ≡ take size (slice_range buffer start end)
window_front buffer start end size le =
    let m : start + size - start ≡ size = omega arith in
    let fits : size ≤ end - start = omega arith in
    ap (λ n. take n (drop start buffer)) m ∙ sym (take-take size (end - start) (drop start buffer) fits)

-- the parts of bytes that begin with a line of that size
pub record Parts (pending : List ℕ) (size : ℕ) : Type 0 where
  pub closed : Bool
  pub sized : length (spelled (take (line_length pending) pending) closed) ≡ size
  pub parts : pending ≡ spelled (take (line_length pending) pending) closed ++ drop size pending
  pub last : closed ≡ false → drop size pending ≡ []
  pub all : closed ≡ false → line_length pending ≡ length pending

closed_parts : (pending : List ℕ) (size : ℕ) → size ≡ line_length pending + 1 → line_length pending < length pending → Parts pending size
closed_parts pending size is within =
    let n = line_length pending in
    let raw : List ℕ = take n pending in
    let len : length raw ≡ n = length-take-le n pending (line_length-le pending) in
    record {
      closed = true;
      sized = omega (arith, length-append raw (10 ∷ []));
      parts = sym (take-append-drop n pending) ∙ ap (λ (z : List ℕ). raw ++ z) (newline_at pending within)
          ∙ sym (append_assoc raw (10 ∷ []) (drop (n + 1) pending)) ∙ ap (λ m. (raw ++ 10 ∷ []) ++ drop m pending) (sym is);
      last = λ no. absurd (cc);
      all = λ no. absurd (cc);
    }

open_parts : (pending : List ℕ) (size : ℕ) → size ≡ line_length pending → length pending ≤ line_length pending → Parts pending size
open_parts pending size is all =
    let n = line_length pending in
    let raw : List ℕ = take n pending in
    let len : length raw ≡ n = length-take-le n pending (line_length-le pending) in
    let none : drop size pending ≡ [] = drop_of_length-le pending (omega arith) in
    record {
      closed = false;
      sized = omega arith;
      parts = sym (take-append-drop n pending) ∙ ap (λ m. raw ++ drop m pending) (sym is);
      last = λ _. none;
      all = λ _. omega (arith, line_length-le pending);
    }

parts_at : (pending : List ℕ) (size : ℕ) (b : Bool) → nat_lt (line_length pending) (length pending) ≡ b
    → size ≡ (if b then line_length pending + 1 else line_length pending) → Parts pending size
parts_at pending size true e is = closed_parts pending size is (ltb-true _ _ e)
parts_at pending size false e is = open_parts pending size is (ltb-false _ _ e)

-- bytes that begin with a line
pub parts_of : (pending : List ℕ) (at size : ℕ) → cut_at at (line_length pending) (length pending) ≡ cuts.Line size → Parts pending size
parts_of pending at size is = parts_at pending size (nat_lt (line_length pending) (length pending)) refl (cut-size at _ _ size is)

-- a line without its newline was taken at the end alone
pub open_at_end : (at n held size : ℕ) (ended : Bool) → cut_at at n held ≡ cuts.Line size → n ≡ held
    → (ended || is_enough at n held) ≡ true → ended ≡ true
open_at_end at n held size true is all ready = refl
open_at_end at n held size false is all ready =
    let short = cut-short at n held size (omega arith) is in
    let within = cut-within at n held size (omega arith) is in
    let whole = cut-size at n held size is in
    grind (arith, nat_tests)
