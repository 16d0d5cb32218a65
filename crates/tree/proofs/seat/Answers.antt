use Rattle.tree.proofs.Seats.{seat_near}
use Rattle.tree.proofs.seat.Goals as goal

pub returns-in-Some : goal.returns-in-Some
returns-in-Some c = search seat_near
