-- An entry of the table is `at_table` of Table; a number that is not known is by the laws of Lookup.
-- the rows are what `becomes` says
use Rattle.std.specs.Prelude.{Ok}
use Rattle.walks.proofs.Words.{ap, ◌∙◌, ℕ, ◌-◌, rules}
use Rattle.http_errors.proofs.Terms.{becomes, errors, versions}
use Rattle.http_errors.proofs.{Table.at_table, Lookup.nth-below, Lookup.nth_past, Lookup.entry, Lookup.known, Lookup.unknown_error, Lookup.unknown_version}
use Rattle.http_errors.proofs.translation.translate.Goals as goal

pub returns-in-1-to-3 : goal.returns-in-1-to-3
unfolding becomes
returns-in-1-to-3 c =
    let a = c.args in
    let row = c.row_of.ensures in
    ap Ok (at_table entry 6 3 _ (a.version - 1) _ _ row.1 (search rules) ∙ ap (λ (i : ℕ). entry i (a.version - 1)) row.0)
    ∙ known a.error _ (search rules) (search rules) (search rules) (search rules)

pub returns-in_default-version : goal.returns-in_default-version
returns-in_default-version c = unknown_version _ _ (nth-below versions _ (search rules))

pub returns-in_default-version-2 : goal.returns-in_default-version-2
returns-in_default-version-2 c = unknown_version _ _ (nth_past versions _ (search rules))

pub returns-in_default : goal.returns-in_default
returns-in_default c = unknown_error _ _ (nth-below errors _ (search rules))

pub returns-in_default-2 : goal.returns-in_default-2
returns-in_default-2 c = unknown_error _ _ (nth_past errors _ (search rules))
