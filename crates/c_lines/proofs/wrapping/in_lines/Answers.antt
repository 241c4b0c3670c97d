use Rattle.std.proofs.Common.{◌≡◌, ◌∙◌, ◌++◌, ap, sym, chars, encode_utf8_all, string_bytes, List, ℕ}
use Rattle.std.proofs.lemmas.Str.{chars_from_encodes, IsUtf8-string_bytes}
use Rattle.c_lines.specs.Broken.{broken}
use Rattle.c_lines.specs.Cut.{cut}
use Rattle.c_lines.specs.Wrapped.{wrapped, has_short_lines, are_short_from}
use Rattle.c_lines.specs.Reading.{read}
use Rattle.c_lines.proofs.Readings.{read_same}
use Rattle.c_lines.proofs.ShortLines.{cut_is_short}
use Rattle.c_lines.proofs.wrapping.in_lines.Goals as goal

pub returns : goal.returns
unfolding wrapped has_short_lines
returns c =
    let first = c.print_broken.new.out in
    let made = c.print_cut.new.out in
    let in_bytes : string_bytes first ≡ encode_utf8_all (broken (chars c.args.text.now)) =
    c.in_ok-print_broken.ensures ∙ ap (λ (x : List ℕ). x ++ encode_utf8_all (broken (chars c.args.text.now)))
    c.new-broken.ensures.bytes in
    let letters : broken (chars c.args.text.now) ≡ chars (string_bytes first) =
    chars_from_encodes _ _ (IsUtf8-string_bytes first) (sym in_bytes) in
    let made_bytes : string_bytes made ≡ encode_utf8_all (cut (chars (string_bytes first))) =
    c.in_ok-print_cut.ensures
    ∙ ap (λ (x : List ℕ). x ++ encode_utf8_all (cut (chars c.deref.result.now))) c.new-made.ensures.bytes
    ∙ ap (λ (x : List ℕ). encode_utf8_all (cut (chars x))) c.deref.ensures in
    let made_letters : cut (chars (string_bytes first)) ≡ chars (string_bytes made) =
    chars_from_encodes _ _ (IsUtf8-string_bytes made) (sym made_bytes) in
    record {
      is_wrapped = made_bytes ∙ ap (λ (x : List ℕ). encode_utf8_all (cut x)) (sym letters);
      are_short = ap (are_short_from 509) (sym made_letters) ∙ cut_is_short (chars (string_bytes first));
      reads_same = ap read (sym made_letters) ∙ ap (λ (x : List ℕ). read (cut x)) (sym letters)
          ∙ read_same (chars c.args.text.now);
    }
