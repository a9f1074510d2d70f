-- By what is looked up of the stream's quarter, and the law `sent_by_lookup`. Assumes nothing.
use Rattle.std.specs.Prelude.{Option, Result}
use Rattle.refusals.specs.declared.Refusal.{Refusal}
use Rattle.stream_records.specs.declared.answers.Entry.{Entry}
use Rattle.walks.proofs.Words.{ap, ◌∙◌}
use Rattle.datagram.proofs.Terms.{Quarter, lookup_of, capsule_by, sent_by_lookup}
use Rattle.datagram.proofs.write.write_capsule.Goals as goal

pub returns : goal.returns
returns c =
    let a = c.args in
    let found = c.look_up.ensures ∙ ap (λ (q : Quarter). lookup_of q.0 a.rows.now) c.sought.ensures in
    c.capsule_by.ensures ∙ ap (λ (l : Result (Option Entry) Refusal). capsule_by l a.id a.payload.now a.out.now a.place) found ∙ (sent_by_lookup a.rows.now a.id a.payload.now a.out.now a.place).0
