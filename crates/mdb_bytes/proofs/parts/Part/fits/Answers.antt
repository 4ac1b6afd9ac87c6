use Rattle.std.proofs.Common.{sym}
use Rattle.mdb_bytes.proofs.PartBytes.{letters_part_fits}
use Rattle.mdb_bytes.proofs.parts.Part.fits.Goals as goal

pub returns-in-Letters : goal.returns-in-Letters
returns-in-Letters c = sym (letters_part_fits c.args.self c.in-Letters._letters c.in-Letters.is)
