use Rattle.channels.proofs.Grades.{request_three, request_other}
use Rattle.channels.proofs.request_grade.Goals as goal

pub returns-then-psm-eq-RFCOMM : goal.returns-then-psm-eq-RFCOMM
returns-then-psm-eq-RFCOMM c = search request_three

pub returns-else-psm-eq-RFCOMM : goal.returns-else-psm-eq-RFCOMM
returns-else-psm-eq-RFCOMM c = search request_other
