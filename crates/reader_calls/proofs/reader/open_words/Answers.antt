-- What `Reader::open` answers, in numbers.
use Rattle.walks.proofs.Words.{◌≡◌, sym, ap, ◌∙◌}
use Rattle.reader_calls.proofs.Terms.{opened_at, open_words}
use Rattle.reader_words.specs.Numbers.{role_of, flag_of}
use Rattle.capsule.specs.Reader.{open_of}
use Rattle.reader_calls.proofs.reader.open_words.Goals as goal
use Rattle.reader_calls.proofs.reader.open_words.Goals.{After-open}

-- the opening that the numbers name
named : (c : After-open) → let o = c.args.opening in c.open.result ≡ open_of (role_of o.role) o.datagram_limit (flag_of o.draft) (flag_of o.addresses)
named c = rw (← c.role_of.ensures, ← c.flag_of.ensures, ← c.flag_of-2.ensures) c.open.ensures

pub returns-in-Err : goal.returns-in-Err
unfolding open_words opened_at
returns-in-Err c =
    rw c.refusal_number.ensures (ap (opened_at c.args.words.now) (sym c.in-Err.is ∙ named (goal.at.returns-in-Err c).After-open))

pub returns-in-Ok : goal.returns-in-Ok
unfolding open_words opened_at
returns-in-Ok c = rw c.store.ensures (ap (opened_at c.args.words.now) (sym c.in-Ok.is ∙ named (goal.at.returns-in-Ok c).After-open))
