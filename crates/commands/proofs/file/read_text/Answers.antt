use Rattle.std.proofs.Common.{refl, ap, Err}
use Rattle.commands.specs.Reading.{TooLong}
use Rattle.commands.proofs.ReadingLemmas.{long_text}
use Rattle.commands.proofs.file.read_text.Goals as goal

-- what is told passes the limit, or any text that passes it may be the file's
pub returns-in-Err-TooLong : goal.returns-in-Err-TooLong
returns-in-Err-TooLong g c =
    let read = c.in-Err-TooLong.ensures in
    let long = long_text _ c.args.limit (read.too_long (ap Err c.in-Err-TooLong.field-0-is)) in
    TooLong long.text (record {
      is_told = long.is_told;
      long = long.long;
      taken = read.bounded;
      others = read.others;
      quiet = read.quiet (λ e. let is = c.in-Err-TooLong.field-0-is in cc);
    })
    (record { long = long.long; why_is = refl })

-- no read failed before memory ran out
pub returns-in-Err-Memory : goal.returns-in-Err-Memory
returns-in-Err-Memory g c =
    record {
      taken = c.in-Err-Memory.ensures.bounded;
      others = c.in-Err-Memory.ensures.others;
      quiet = c.in-Err-Memory.ensures.quiet (λ e. let is = c.in-Err-Memory.field-0-is in cc);
    }
