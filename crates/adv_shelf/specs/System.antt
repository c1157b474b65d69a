-- What is known of the real files: how often they failed, and nothing of what they hold.
use Rattle.std.specs.Prelude.{ℕ}

-- the faults of the reads and of the puts of a shelf of real files
pub record DiskFaults : Type 0 where
  pub reads : ℕ
  pub puts : ℕ

-- no fault
abbrev pub no_disk_faults : DiskFaults
no_disk_faults = record { reads = 0; puts = 0 }
