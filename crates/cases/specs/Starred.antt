-- The starred bench cases of document 01, in a single table. One statement carries them: `AllStarred`.
use Rattle.refusals.specs.declared.Refusal.{Refusal}
use Rattle.capsule.specs.declared.reader.Ending.{Ending}
use Rattle.capsule.specs.declared.reader.Ending.TheVariants.{Clean, Truncated}
use Rattle.std.specs.Prelude.{ℕ, ◌-◌, ◌^◌, ◌≡◌, Bool, true, false, List, [], ◌∷◌, ◌++◌, map, length, take, Result, Ok}
use Rattle.opening.specs.declared.Role.{Role}
use Rattle.opening.specs.declared.Role.TheVariants.{Endpoint, Intermediary}
use Rattle.opening.specs.declared.Opening.{Opening}
use Rattle.opening.specs.declared.Report.{Report}
use Rattle.opening.specs.declared.Report.TheVariants.{Delivered, Dropped, Skipped, Passed}
use Rattle.capsule.specs.Book.{parts_for, forwarded, reported, end_of}
use Rattle.capsule.specs.Reader.{opening}
use Rattle.capsule_laws.specs.Claims.{if_delivered, delivered}
use Rattle.stream_records.specs.Records.{blank, opened}
use Rattle.stream_records.specs.Tables.{Table}
use Rattle.judging.specs.declared.judge.Judged.{Judged}
use Rattle.judging.specs.declared.judge.Judged.TheVariants as judged
use Rattle.judging.specs.Judging.{quarter, judged_of, payload_of}
use Rattle.sending.specs.Sending.{capsule_header, capsule_bytes}

-- what a stream comes to: its reports and delivered payloads in order, the bytes written, and the answer to a clean close
pub record Outcome : Type 0 where
  pub reports : List Report
  pub payloads : List (List ℕ)
  pub writes : List ℕ
  pub ending : Ending

unfoldable pub outcome_of : Opening → List ℕ → Outcome
outcome_of op s = record {
  reports = map (reported op) (parts_for op s).capsules;
  payloads = delivered if_delivered op (parts_for op s).capsules;
  writes = forwarded op s;
  ending = end_of (parts_for op s).tail;
}

abbrev pub outcome : List Report → List (List ℕ) → List ℕ → Ending → Outcome
outcome reports payloads writes ending = record { reports = reports; payloads = payloads; writes = writes; ending = ending }

pub data Case : Type 0 where
  -- read by a reader that takes no address capsules
  stream : (role : Role) (limit : ℕ) (draft : Bool) (bytes : List ℕ) → Outcome → Case
  -- a frame's payload against a table, the stated stream limit and the datagram limit: how it is judged, and the payload that is delivered
  frame : (table : Table) (streams limit : ℕ) (bytes : List ℕ) → Result Judged Refusal → (payload : List ℕ) → Case
  -- a payload's length, and what stands before every such payload in a capsule that we write
  header : (length : ℕ) (bytes : List ℕ) → Case

-- what the definitions say of a case, or what it expects
pub data Answer : Type 0 where
  comes : Outcome → Answer
  judgement : Result Judged Refusal → (payload : List ℕ) → Answer
  starts : (bytes : List ℕ) → Answer

abbrev pub got : Case → Answer
got (stream role limit draft bytes o) = comes (outcome_of (opening role limit draft false) bytes)
got (frame t streams limit bytes j payload) = judgement (judged_of t streams limit bytes) (payload_of t streams limit bytes)
got (header n bytes) = starts (capsule_header n)

abbrev pub expected : Case → Answer
expected (stream role limit draft bytes o) = comes o
expected (frame t streams limit bytes j payload) = judgement j payload
expected (header n bytes) = starts bytes

-- stream S
abbrev pub S : List ℕ
S = 0x00 ∷ 0x03 ∷ 0x61 ∷ 0x62 ∷ 0x63 ∷ 0x17 ∷ 0x00 ∷ 0x40 ∷ 0x40 ∷ 0x02 ∷ 0xff ∷ 0xee ∷ 0x00 ∷ 0x00 ∷ []

abbrev abc : List ℕ
abc = 0x61 ∷ 0x62 ∷ 0x63 ∷ []

abbrev xy : List ℕ
xy = 0x78 ∷ 0x79 ∷ []

-- a type that is complete, and a length of 2^62-1
abbrev pub far : List ℕ
far = 0x17 ∷ 0xff ∷ 0xff ∷ 0xff ∷ 0xff ∷ 0xff ∷ 0xff ∷ 0xff ∷ 0xff ∷ []

abbrev draft_one : List ℕ
draft_one = 0x80 ∷ 0xff ∷ 0x37 ∷ 0xa5 ∷ 0x01 ∷ 0x7a ∷ []

-- the record of stream 4, and of no other
abbrev four : Table
four = opened (record { 0 = 1 }) true ∷ []

-- a case that leaves the role open stands for both; "empty table" is one with no records, and one of blanks
abbrev pub starred : List Case
starred =
    stream Endpoint 1200 false S (outcome (Delivered 3 ∷ Skipped 23 0 ∷ Skipped 64 2 ∷ Delivered 0 ∷ []) (abc ∷ [] ∷ []) [] Clean)
    ∷ stream Endpoint 2 false S (outcome (Dropped 3 ∷ Skipped 23 0 ∷ Skipped 64 2 ∷ Delivered 0 ∷ []) ([] ∷ []) [] Clean)
    ∷ stream Intermediary 2 false S (outcome (Dropped 3 ∷ Passed 23 0 ∷ Passed 64 2 ∷ Delivered 0 ∷ []) ([] ∷ []) (0x17 ∷ 0x00 ∷ 0x40 ∷ 0x40 ∷ 0x02 ∷ 0xff ∷ 0xee ∷ []) Clean)
    ∷ stream Intermediary 1200 false S (outcome (Delivered 3 ∷ Passed 23 0 ∷ Passed 64 2 ∷ Delivered 0 ∷ []) (abc ∷ [] ∷ []) (0x17 ∷ 0x00 ∷ 0x40 ∷ 0x40 ∷ 0x02 ∷ 0xff ∷ 0xee ∷ []) Clean)
    ∷ stream Intermediary 1200 false (take 8 S) (outcome (Delivered 3 ∷ Passed 23 0 ∷ []) (abc ∷ []) (0x17 ∷ 0x00 ∷ []) Truncated)
    ∷ stream Intermediary 1200 false (take 9 S) (outcome (Delivered 3 ∷ Passed 23 0 ∷ []) (abc ∷ []) (0x17 ∷ 0x00 ∷ 0x40 ∷ 0x40 ∷ []) Truncated)
    ∷ stream Endpoint 1200 false (0x40 ∷ 0x00 ∷ 0x02 ∷ xy) (outcome (Delivered 2 ∷ []) (xy ∷ []) [] Clean)
    ∷ stream Intermediary 1200 false (0x40 ∷ 0x00 ∷ 0x02 ∷ xy) (outcome (Delivered 2 ∷ []) (xy ∷ []) [] Clean)
    ∷ stream Endpoint 1200 false far (outcome [] [] [] Truncated)
    ∷ stream Intermediary 1200 false far (outcome [] [] far Truncated)
    ∷ stream Endpoint 1200 false [] (outcome [] [] [] Clean)
    ∷ stream Intermediary 1200 false [] (outcome [] [] [] Clean)
    ∷ stream Endpoint 1200 true draft_one (outcome (Delivered 1 ∷ []) ((0x7a ∷ []) ∷ []) [] Clean)
    ∷ stream Endpoint 1200 false draft_one (outcome (Skipped 16725925 1 ∷ []) [] [] Clean)
    ∷ frame four (2 ^ 60) 1200 [] (Ok judged.ShortFrame) []
    ∷ frame four (2 ^ 60) 1200 (0x40 ∷ []) (Ok judged.ShortFrame) []
    ∷ frame four (2 ^ 60) 1200 (0x01 ∷ []) ((Ok (judged.Delivered (quarter 1) 0))) []
    ∷ frame four (2 ^ 60) 1200 (0xd0 ∷ 0 ∷ 0 ∷ 0 ∷ 0 ∷ 0 ∷ 0 ∷ 0 ∷ []) ((Ok (judged.QuarterTooLarge (quarter (2 ^ 60))))) []
    ∷ frame [] (2 ^ 60) 1200 (0xcf ∷ 0xff ∷ 0xff ∷ 0xff ∷ 0xff ∷ 0xff ∷ 0xff ∷ 0xff ∷ []) ((Ok (judged.NoStream (quarter (2 ^ 60 - 1))))) []
    ∷ frame (blank ∷ blank ∷ []) (2 ^ 60) 1200 (0xcf ∷ 0xff ∷ 0xff ∷ 0xff ∷ 0xff ∷ 0xff ∷ 0xff ∷ 0xff ∷ []) ((Ok (judged.NoStream (quarter (2 ^ 60 - 1))))) []
    ∷ header 63 (0x00 ∷ 0x3f ∷ [])
    ∷ header 64 (0x00 ∷ 0x40 ∷ 0x40 ∷ [])
    ∷ header 16383 (0x00 ∷ 0x7f ∷ 0xff ∷ [])
    ∷ header 16384 (0x00 ∷ 0x80 ∷ 0x00 ∷ 0x40 ∷ 0x00 ∷ [])
    ∷ []

pub record AllStarred : Type 0 where
  pub table : map got starred ≡ map expected starred
  -- a header stands before every payload of its length
  pub headers : (payload : List ℕ) → capsule_bytes payload ≡ capsule_header (length payload) ++ payload
