-- Only for the proofs of the code: judging by what was looked up. `Judging` says what it answers.
use Rattle.refusals.specs.declared.Refusal.{Refusal}
use Rattle.short_forms.specs.declared.Varint.{Varint}
use Rattle.std.specs.Prelude.{ℕ, ◌-◌, ◌≡◌, List, length, Option, Some, None, Result, Ok, Err}
use Rattle.wire.specs.Varint.{read_varint}
use Rattle.stream_records.specs.declared.answers.Entry.{Entry}
use Rattle.stream_records.specs.Tables.{Table, lookup_of}
use Rattle.judging.specs.declared.judge.Judged.{Judged}
use Rattle.judging.specs.declared.judge.Judged.TheVariants as judged
use Rattle.judging.specs.Judging.{judged_entry, if_within, if_accepted, judged_of, if_delivered, after_quarter, payload_of}

-- the quarter that is looked for; no answer depends on it where none is read, and 0 stands there
unfoldable pub asked_in : Option Varint → ℕ
asked_in None = 0
asked_in (Some read) = read.value

unfoldable pub judged_read_by : Option Entry → ℕ → ℕ → ℕ → Option Varint → Judged
judged_read_by entry streams limit n None = judged.ShortFrame
judged_read_by entry streams limit n (Some read) = if_within streams read.value (judged_entry entry read.value limit (n - read.size))

unfoldable pub judged_by : Result (Option Entry) Refusal → ℕ → ℕ → List ℕ → Result Judged Refusal
judged_by (Err why) streams limit frame = Err why
judged_by (Ok entry) streams limit frame = if_accepted streams limit (judged_read_by entry streams limit (length frame) (read_varint frame))

unfoldable pub payload_by : Result (Option Entry) Refusal → ℕ → ℕ → List ℕ → List ℕ
payload_by l streams limit frame = if_delivered (judged_by l streams limit frame) (after_quarter (read_varint frame) frame)

-- ---- what is decided so is what `Judging` says (proofs/Deciding.antt)

abbrev pub JudgedByLookup : Type 0
JudgedByLookup =
    (t : Table) (streams limit : ℕ) (frame : List ℕ)
    → let l = lookup_of (asked_in (read_varint frame)) t in
    (judged_by l streams limit frame ≡ judged_of t streams limit frame) × (payload_by l streams limit frame ≡ payload_of t streams limit frame)
