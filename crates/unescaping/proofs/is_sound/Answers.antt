use Rattle.unescaping.proofs.Flaws.{sound_bare, sound_kept}
use Rattle.unescaping.proofs.is_sound.Goals as goal

pub returns-then-sentries-eq0 : goal.returns-then-sentries-eq0
returns-then-sentries-eq0 c = search sound_bare

pub returns : goal.returns
returns c = search sound_kept
