-- Net texts that are too long.
use Rattle.std.proofs.Common.{ℕ, ◌<◌, List, length, refl}
use Rattle.std.proofs.lemmas.Bool.{lt-ltb}
use Rattle.net_text.specs.declared.fault.NetFault.TheVariants as faults
use Rattle.net_text.specs.declared.limits.TheConstants.{NET_TEXT_LIMIT}
use Rattle.commands.specs.NetCharts.{RefusesNet}

-- a text that is too long says no net
pub too_long_refused : (text : List ℕ) → NET_TEXT_LIMIT < length text → RefusesNet text faults.TextTooLong
too_long_refused text h = record { cause = rw (lt-ltb NET_TEXT_LIMIT (length text) h) refl; of_text = λ e. absurd cc }
