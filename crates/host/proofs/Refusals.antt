-- A refusal changes nothing behind any reference (specs/Claims.antt). Assumes nothing.
use Rattle.walks.proofs.Words.{◌≡◌, sym, ap, ◌∙◌}
use Rattle.host.proofs.Terms.{Closed, Feeding, refused-close_unchanged, refused_unchanged, Connection, SameBeside, RefusedFeedLeaves, RefusedCloseLeaves, RefusedFeedLeavesConnection, RefusedCloseLeavesConnection}

pub refused_feed_leaves : RefusedFeedLeaves
refused_feed_leaves r r' p b b' why e =
    let same = refused_unchanged r p b why (sym (ap (λ (f : Feeding). f.answer) e)) in
    (ap (λ (f : Feeding). f.reader) e ∙ same.0, ap (λ (f : Feeding). f.buffers) e ∙ same.1)

pub refused-close_leaves : RefusedCloseLeaves
refused-close_leaves r r' why e = ap (λ (c : Closed). c.reader) e ∙ refused-close_unchanged r why (sym (ap (λ (c : Closed). c.answer) e))

-- the reader and every field beside it
same_connection : (c c' : Connection) → c'.reader ≡ c.reader → SameBeside c c' → c' ≡ c
same_connection c c' e same i = record { id = same.same_id i; reader = e i; deadline = same.same_deadline i }

pub refused_feed_leaves_connection : RefusedFeedLeavesConnection
refused_feed_leaves_connection c c' p b b' why e same =
    let left = refused_feed_leaves c.reader c'.reader p b b' why e in
    (same_connection c c' left.0 same, left.1)

pub refused-close_leaves_connection : RefusedCloseLeavesConnection
refused-close_leaves_connection c c' why e same = same_connection c c' (refused-close_leaves c.reader c'.reader why e) same
