-- `soundness::sound` meets its contract: the claim is proved, and it speaks of something. Assumes nothing.
use Rattle.soundness.proofs.Whole.{whole}
use Rattle.soundness.proofs.ShownLaws.{shown}
use Rattle.soundness.proofs.sound.Goals as goal

pub returns : goal.returns
returns c = record { claim = whole; shown = shown }
