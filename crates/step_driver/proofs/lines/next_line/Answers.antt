use Rattle.std.proofs.Common.{◌≡◌, false, None, refl}
use Rattle.step_driver.specs.NextLines.{failed_to_read}
use Rattle.step_driver.proofs.Buffered.{at_hand_reads}
use Rattle.step_driver.proofs.lines.next_line.Goals as goal

-- the bytes at hand tell what comes next, and nothing is read
pub returns-in-Some-clause-reads : goal.returns-in-Some-clause-reads
returns-in-Some-clause-reads g c =
    let k = c.in-Some.ensures in
    let never : failed_to_read c.found_or_none.result ≡ false =
    rw c.found_or_none.ensures (at_hand_reads c.number.result _ _ c.in-Some.found k.0 (k.1 None)) in
    record { fault = λ is. absurd (cc); others = λ _ other. refl }
