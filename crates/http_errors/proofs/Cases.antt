-- The cases, computed. Assumes nothing.
use Rattle.walks.proofs.Words.{refl}
use Rattle.http_errors.proofs.Terms.{translated, answer, nth, becomes, Cases}

pub cases : Cases
unfolding translated answer nth becomes
cases = record { unknown_errors = refl; unknown_versions = refl; translations = refl }
