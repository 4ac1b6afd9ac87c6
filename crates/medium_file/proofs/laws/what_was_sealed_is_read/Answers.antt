use Rattle.medium_file.proofs.Sealed.{sealed_holds, sealed_page}
use Rattle.medium_file.proofs.laws.what_was_sealed_is_read.Goals as goal

pub returns-clause-header : goal.returns-clause-header
returns-clause-header c image medium header content keeps sealed = sealed_holds image medium header content keeps sealed

pub returns-clause-page : goal.returns-clause-page
returns-clause-page c image medium page header content keeps sealed fits = sealed_page image medium header content keeps sealed page fits
