-- By the record of the stream's quarter.
use Rattle.std.specs.Prelude.{Option, Result}
use Rattle.refusals.specs.declared.Refusal.{Refusal}
use Rattle.stream_records.specs.declared.answers.Entry.{Entry}
use Rattle.walks.proofs.Words.{ap, ◌∙◌}
use Rattle.streams.proofs.Terms.{Quarter, lookup_of, standing_by, standing-found}
use Rattle.streams.proofs.table.find_stream.Goals as goal

pub returns : goal.returns
returns c =
    c.standing.ensures
    ∙ ap (λ (l : Result (Option Entry) Refusal). standing_by l c.args.id) (c.look_up.ensures ∙ ap (λ (q : Quarter). lookup_of q.0 c.args.rows.now) c.sought.ensures)
    ∙ standing-found c.args.rows.now c.args.id
