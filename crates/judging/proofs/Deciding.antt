-- Judging as the code decides it by what was looked up, and the part that is delivered. Assumes nothing.
use Rattle.std.specs.Prelude.{Option, Some, None, Result, Ok, Err}
use Rattle.refusals.specs.declared.Refusal.{Refusal}
use Rattle.short_forms.specs.Short.{varint_of}
use Rattle.walks.proofs.Words.{◌≡◌, refl, ap, ℕ, ◌-◌, arith, Bool, true, false, cond, List, [], length, take, drop, length-drop, take_all}
use Rattle.judging.proofs.Terms.{bad_table, Varint, read_varint, Table, is_bad, entry_of, lookup_of, Judged, judged_read, if_accepted, judged_of, after_quarter, is_delivered, if_delivered, payload_of, asked_in, judged_read_by, judged_by, payload_by, JudgedByLookup}

read_by : (t : Table) (streams limit n : ℕ) (v : Option Varint) → judged_read_by (entry_of (asked_in v) t) streams limit n v ≡ judged_read t streams limit n v
unfolding judged_read_by judged_read asked_in
read_by t streams limit n None = refl
read_by t streams limit n (Some read) = refl

judges : (t : Table) (streams limit : ℕ) (frame : List ℕ) → judged_by (lookup_of (asked_in (read_varint frame)) t) streams limit frame ≡ judged_of t streams limit frame
unfolding judged_by judged_of lookup_of
judges t streams limit frame = go (is_bad t)
  where
    go : (b : Bool)
        → judged_by (cond b (Err bad_table) (Ok (entry_of (asked_in (read_varint frame)) t))) streams limit frame
        ≡ cond b (Err bad_table) (if_accepted streams limit (judged_read t streams limit (length frame) (read_varint frame)))
    go true = refl
    go false = ap (if_accepted streams limit) (read_by t streams limit (length frame) (read_varint frame))

pub judged_by_lookup : JudgedByLookup
unfolding payload_by payload_of
judged_by_lookup t streams limit frame =
    let e = judges t streams limit frame in
    (e, ap (λ (j : Result Judged Refusal). if_delivered j (after_quarter (read_varint frame) frame)) e)

-- ---- the part

module _ (j : Result Judged Refusal) (frame : List ℕ) where
  pub part_none : is_delivered j ≡ false → [] ≡ if_delivered j (after_quarter (read_varint frame) frame)
  unfolding if_delivered
  part_none e = rw e

  pub part_short : read_varint frame ≡ None → [] ≡ if_delivered j (after_quarter (read_varint frame) frame)
  unfolding if_delivered after_quarter
  part_short e = rw e (go (is_delivered j))
    where
      go : (b : Bool) → ◌≡◌ {A = List ℕ} [] (cond b [] [])
      go true = refl
      go false = refl

  pub part_rest : is_delivered j ≡ true → (q size : ℕ) → read_varint frame ≡ Some (varint_of q size) → take (length frame - size) (drop size frame) ≡ if_delivered j (after_quarter (read_varint frame) frame)
  unfolding if_delivered after_quarter
  part_rest d q size e = rw (d, e) (take_all (length frame - size) (drop size frame) (omega (arith, length-drop size frame)))
