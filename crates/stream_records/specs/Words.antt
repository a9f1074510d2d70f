-- Document 01's words on stream tables, as types ("Stream table and QUIC DATAGRAM payloads").
use Rattle.std.specs.Prelude.{◌≡◌, ℕ, ◌-◌, ◌^◌, ◌<◌, ◌≤◌, true, false, length, get_or}
use Rattle.stream_records.specs.declared.record.StreamRecord.{StreamRecord}
use Rattle.stream_records.specs.Records.{blank, is_used, receive_open, send_open}
use Rattle.stream_records.specs.Tables.{Table}

-- a used record of that quarter stands in the table, and is as P says
abbrev pub InTable : Table → ℕ → (StreamRecord → Type 0) → Type 0
InTable t q P = (k : ℕ) × (is_used (get_or t k blank) ≡ true) × ((get_or t k blank).quarter.0 ≡ q) × P (get_or t k blank)

abbrev pub Any : StreamRecord → Type 0
Any r = Unit {0}

-- every place below n is used
abbrev pub UsedBelow : Table → ℕ → Type 0
UsedBelow t n = (k : ℕ) → k < n → is_used (get_or t k blank) ≡ true

-- at most 64 records; a used one has a quarter of at most 2^60-1, which no other used one has, and a side that is open; a free one is the fixed blank
pub record GoodTable (t : Table) : Type 0 where
  pub short : length t ≤ 64
  pub quarters : (k : ℕ) → is_used (get_or t k blank) ≡ true → (get_or t k blank).quarter.0 ≤ 2 ^ 60 - 1
  pub once : (j k : ℕ) → is_used (get_or t j blank) ≡ true → is_used (get_or t k blank) ≡ true → (get_or t j blank).quarter.0 ≡ (get_or t k blank).quarter.0 → j ≡ k
  pub sides : (k : ℕ) → is_used (get_or t k blank) ≡ true → (receive_open (get_or t k blank) ≡ false) × (send_open (get_or t k blank) ≡ false) → ⊥
  pub free : (k : ℕ) → is_used (get_or t k blank) ≡ false → get_or t k blank ≡ blank
