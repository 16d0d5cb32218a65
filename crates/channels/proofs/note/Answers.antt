use Rattle.channels.proofs.Grades.{noted_request, noted_response, noted_other}
use native.Mathlib.Omega.{arith}
use Rattle.channels.proofs.note.Goals as goal

pub returns-in_default : goal.returns-in_default
returns-in_default c = search noted_other

pub returns-in-Request : goal.returns-in-Request
returns-in-Request c = record { noted = noted_request _ _ _ c.in-Request.c (omega arith) _ _ c.key_of-key.ensures _ _ c.raise.ensures.raised _ _ c.in-Some.is _ c.in-Request.is c.request_grade.ensures; indexed = c.raise.ensures.indexed }

pub returns-in-Response : goal.returns-in-Response
returns-in-Response c = record { noted = noted_response _ _ _ c.in-Response.c (omega arith) _ _ c.key_of-key-in-Response.ensures _ _ c.raise-in-Response.ensures.raised _ _ c.in-Some.is c.in-Response.source _ c.in-Response.is (omega arith) _ c.flip-asker.ensures _ c.key_of-asked.ensures c.response_grade-grade.ensures; indexed = c.raise-in-Response.ensures.indexed }
