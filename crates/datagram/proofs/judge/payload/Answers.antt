-- By what is looked up of the frame's quarter, and the law `judged_by_lookup`. Assumes nothing.
use Rattle.std.specs.Prelude.{Option, Result}
use Rattle.refusals.specs.declared.Refusal.{Refusal}
use Rattle.stream_records.specs.declared.answers.Entry.{Entry}
use Rattle.walks.proofs.Words.{ap, ◌∙◌}
use Rattle.datagram.proofs.Terms.{Quarter, lookup_of, payload_by, judged_by_lookup}
use Rattle.datagram.proofs.judge.payload.Goals as goal

pub returns : goal.returns
returns c =
    let a = c.args in
    let found = c.look_up.ensures ∙ ap (λ (q : Quarter). lookup_of q.0 a.rows.now) c.asked.ensures in
    c.payload_by.ensures ∙ ap (λ (l : Result (Option Entry) Refusal). payload_by l a.streams a.limit a.frame.now) found ∙ (judged_by_lookup a.rows.now a.streams a.limit a.frame.now).1
