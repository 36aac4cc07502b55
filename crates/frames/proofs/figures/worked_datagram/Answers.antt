use Rattle.std.proofs.Common.{refl}
use lib.Count.{ones}
use Rattle.cells.specs.Numbers.{be}
use Rattle.frames.specs.Format.{parted}
use Rattle.frames.proofs.figures.worked_datagram.Goals as goal

pub returns : goal.returns
unfolding be parted ones
returns c =
    record {
      datagram = refl;
      figures =
          record {
            reading = refl;
            reading_back = refl;
            entry = refl;
            entry_back = refl;
            whole_none = λ w reads. refl;
            marker_none = λ w reads. refl;
            highest = refl;
            highest_made = refl;
            above = refl;
            above_made = refl;
            quality = refl;
            quality_made = refl;
          };
    }
