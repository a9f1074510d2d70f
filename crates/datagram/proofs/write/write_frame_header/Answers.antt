-- By what is looked up of the stream's quarter, and the law `header_by_lookup`. Assumes nothing.
use Rattle.std.specs.Prelude.{Option, Result}
use Rattle.refusals.specs.declared.Refusal.{Refusal}
use Rattle.stream_records.specs.declared.answers.Entry.{Entry}
use Rattle.walks.proofs.Words.{ap, ◌∙◌}
use Rattle.datagram.proofs.Terms.{Quarter, lookup_of, frame_header_by, header_by_lookup}
use Rattle.datagram.proofs.write.write_frame_header.Goals as goal

pub returns : goal.returns
returns c =
    let a = c.args in
    let found = c.look_up.ensures ∙ ap (λ (q : Quarter). lookup_of q.0 a.rows.now) c.sought.ensures in
    c.frame_header_by.ensures
    ∙ ap (λ (l : Result (Option Entry) Refusal). frame_header_by l a.id a.terms.our_setting a.terms.peer_setting a.terms.path_size a.length a.out.now a.place) found
    ∙ header_by_lookup a.rows.now a.id a.terms.our_setting a.terms.peer_setting a.terms.path_size a.length a.out.now a.place
