-- The status with which the process ends.
use Rattle.std.specs.Prelude.{ℕ}
use Rattle.flow_base.specs.declared.status.Status.{Status}
use Rattle.flow_base.specs.declared.status.Status.TheVariants as statuses

-- 0 to 6, in the order of the variants
abbrev pub status_code : Status → ℕ
status_code statuses.Ok = 0
status_code statuses.Refused = 1
status_code statuses.Usage = 2
status_code statuses.RunFault = 3
status_code statuses.Read = 4
status_code statuses.Write = 5
status_code statuses.Memory = 6
