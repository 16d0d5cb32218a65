use Rattle.spans.proofs.Scans.{scanned_open, scan_first}
use Rattle.spans.proofs.scan.Goals as goal

pub returns-then-e-part : goal.returns-then-e-part
returns-then-e-part c = search scanned_open

pub count_first-f-requires : goal.count_first-f-requires
count_first-f-requires c = search scan_first
