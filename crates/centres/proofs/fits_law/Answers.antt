use Rattle.centres.proofs.Fits.{fits_law}
use Rattle.centres.proofs.fits_law.Goals as goal

pub returns : goal.returns
returns c = fits_law
