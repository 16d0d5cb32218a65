use Rattle.measuring.proofs.Counting.{behind_scan, behind_scanned}
use Rattle.measuring.proofs.count_behind.Goals as goal

pub scan-requires : goal.scan-requires
scan-requires c = search behind_scan

pub returns-then-is_known : goal.returns-then-is_known
returns-then-is_known c = search behind_scanned
