-- Calls on a table (specs/Claims.antt), from the laws of the crate streams. Assumes nothing.
use Rattle.std.specs.Prelude.{Result, Ok, Err}
use Rattle.refusals.specs.declared.Refusal.{Refusal}
use Rattle.walks.proofs.Words.{◌↔◌, eqb-true, ◌≡◌, refl, ℕ, Bool, true, false, cond, not, eqb, le-leb, lt-leb}
use Rattle.capi.proofs.Terms.{StreamId, Side, Receive, Send, Endpoint, Intermediary, zero_one, SideClosed, Table, opening_of, closing_of, table_opened, table_closed, stays_good, flag_of, role_of, side_of, status_of, wrote_by, opened_answer, stream_id_of, open_table, close_table, TableStaysGood, TableKept, RefusedTableLeaves, WrittenKept, NumbersRead}
use Rattle.stream_answers.specs.Table.{closed_answer}

pub table_stays_good : TableStaysGood
unfolding open_table close_table
table_stays_good t id x good = let g = stays_good t (stream_id_of id) good in (g.0 (flag_of x), g.1 (side_of x))

open_leaves : (t : Table) (id : StreamId) (semantics : Bool) (o : Result ℕ Refusal) → ((opened_answer o).refusal ≡ 0 → ⊥) → table_opened t id semantics o ≡ t
unfolding opened_answer table_opened
open_leaves t id semantics (Err why) n = refl
open_leaves t id semantics (Ok i) n = absurd (n refl)

close_leaves : (t : Table) (side : Side) (c : Result SideClosed Refusal) → ((closed_answer c).refusal ≡ 0 → ⊥) → table_closed t side c ≡ t
unfolding closed_answer table_closed
close_leaves t side (Err why) n = refl
close_leaves t side (Ok side') n = absurd (n refl)

pub refused-table_leaves : RefusedTableLeaves
unfolding open_table close_table
refused-table_leaves t id x = (
  open_leaves t (stream_id_of id) (flag_of x) (opening_of t (stream_id_of id)),
  close_leaves t (side_of x) (closing_of t (stream_id_of id) (side_of x)),
)

pub table_kept : TableKept
unfolding open_table close_table
table_kept t id x = (refl, refl, refl, refl)

pub written_kept : WrittenKept
unfolding wrote_by
written_kept w = (refl, refl)

-- of two values the first is that of 0
by_zero : {A : Type 0} (f : Bool → A) → (f false ≡ f true → ⊥) → (n : ℕ) → (f (eqb n 0) ≡ f true) ↔ (n ≡ 0)
by_zero f apart n = (go (eqb n 0) refl, λ e. rw e)
  where
    go : (t : Bool) → eqb n 0 ≡ t → f t ≡ f true → n ≡ 0
    go true e z = eqb-true n 0 e
    go false e z = absurd (apart z)

pub numbers_read : NumbersRead
unfolding flag_of role_of side_of status_of
numbers_read n = (
  by_zero not (λ e. zero_one (cc e)) n,
  by_zero (λ t. cond t Endpoint Intermediary) (λ e. zero_one (cc e)) n,
  by_zero (λ t. cond t Receive Send) (λ e. zero_one (cc e)) n,
  λ l. rw (le-leb n 65535 l),
  λ l. rw (lt-leb n 65535 l),
)
