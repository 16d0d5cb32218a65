use Rattle.places.proofs.PlacesLaws.{told_placed, told_error}
use Rattle.places.proofs.places_told.Goals as goal

pub returns-in-Ok : goal.returns-in-Ok
returns-in-Ok c = search told_placed

pub returns-in-Err : goal.returns-in-Err
returns-in-Err c = search told_error
