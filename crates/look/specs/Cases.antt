-- Streams, and what a look then says. One statement carries them: `Cases`, proved in proofs/Cases.antt.
use Rattle.refusals.specs.declared.Refusal.{Refusal}
use Rattle.look.specs.declared.Sight.{Sight}
use Rattle.std.specs.Prelude.{◌≡◌, ℕ, ◌-◌, ◌^◌, true, false, List, [], ◌∷◌, map, replicate, Result, Ok, Err}
use Rattle.refusals.specs.Numbers.{refusal}
use Rattle.wire.specs.Partial.{partial}
use Rattle.opening.specs.declared.Role.TheVariants.{Endpoint, Intermediary}
use Rattle.opening.specs.declared.Opening.{Opening}
use Rattle.planning.specs.declared.Phase.{Phase}
use Rattle.planning.specs.declared.Phase.TheVariants as phase
use Rattle.capsule.specs.State.{reader_of}
use Rattle.capsule.specs.Reader.{opening}
use Rattle.look.specs.declared.Buffer.TheVariants.{Neither, Gathering, Addresses}
use Rattle.look.specs.declared.Place.{Place}
use Rattle.look.specs.declared.Place.TheVariants.{Between, InType, InLength, InValue}
use Rattle.look.specs.Looking.{look_of}

-- an endpoint that did not opt in, with this datagram limit; one that did; an intermediary, whose opting in has no effect
abbrev plain : ℕ → Opening
plain limit = opening Endpoint limit false false

abbrev opted_in : Opening
opted_in = opening Endpoint 1200 false true

abbrev intermediary : Opening
intermediary = opening Intermediary 1200 false true

pub data Case : Type 0 where
  -- what a reader of these bytes answers, if it is not finished and if it is
  after : Opening → List ℕ → Result Sight Refusal → Case
  finished_after : Opening → List ℕ → Result Sight Refusal → Case
  -- what a state answers
  state : (limit : ℕ) → Phase → Result Sight Refusal → Case

abbrev pub got : Case → Result Sight Refusal
got (after op s l) = look_of (reader_of op s false)
got (finished_after op s l) = look_of (reader_of op s true)
got (state limit p l) = look_of (record { opening = plain limit; phase = p; finished = false })

abbrev pub expected : Case → Result Sight Refusal
expected (after op s l) = l
expected (finished_after op s l) = l
expected (state limit p l) = l

abbrev seen : ℕ → Place → Result Sight Refusal
seen limit place = Ok (record { finished = false; limit = limit; place = place })

abbrev seen_finished : ℕ → Place → Result Sight Refusal
seen_finished limit place = Ok (record { finished = true; limit = limit; place = place })

abbrev pub table : List Case
table =
    -- at the start, and between capsules
    after (plain 1200) [] (seen 1200 Between)
    ∷ after (plain 1200) (0x17 ∷ 0x00 ∷ []) (seen 1200 Between)
    -- in a type, of zeros too
    ∷ after (plain 1200) (0x40 ∷ []) (seen 1200 InType)
    ∷ after (plain 1200) (0x80 ∷ 0x00 ∷ 0x00 ∷ []) (seen 1200 InType)
    -- the length comes
    ∷ after (plain 1200) (0x17 ∷ []) (seen 1200 (InLength 0x17))
    ∷ after (plain 1200) (0x17 ∷ 0x80 ∷ 0x00 ∷ []) (seen 1200 (InLength 0x17))
    -- a DATAGRAM within the limit is gathered, and one above it is not
    ∷ after (plain 1200) (0x00 ∷ 0x05 ∷ 0x61 ∷ 0x62 ∷ []) (seen 1200 (InValue 0 5 3 2 Gathering))
    ∷ after (plain 3) (0x00 ∷ 0x05 ∷ 0x61 ∷ 0x62 ∷ []) (seen 3 (InValue 0 5 3 0 Neither))
    ∷ after (plain 5) (0x00 ∷ 0x05 ∷ 0x61 ∷ 0x62 ∷ []) (seen 5 (InValue 0 5 3 2 Gathering))
    -- of the draft type
    ∷ after (opening Endpoint 1200 true false) (0x80 ∷ 0xff ∷ 0x37 ∷ 0xa5 ∷ 0x05 ∷ 0x61 ∷ 0x62 ∷ []) (seen 1200 (InValue 0xff37a5 5 3 2 Gathering))
    -- of an unknown type, skipped or passed
    ∷ after (plain 1200) (0x17 ∷ 0x05 ∷ 0x61 ∷ 0x62 ∷ []) (seen 1200 (InValue 0x17 5 3 0 Neither))
    ∷ after intermediary (0x17 ∷ 0x05 ∷ 0x61 ∷ 0x62 ∷ []) (seen 1200 (InValue 0x17 5 3 0 Neither))
    ∷ after (plain 1200) (0x17 ∷ replicate 8 0xff) (seen 1200 (InValue 0x17 (2 ^ 62 - 1) (2 ^ 62 - 1) 0 Neither))
    -- an address capsule
    ∷ after opted_in (0x01 ∷ 0x07 ∷ 0x00 ∷ 0x04 ∷ 0x0a ∷ []) (seen 1200 (InValue 1 7 4 3 Addresses))
    ∷ after (plain 1200) (0x01 ∷ 0x07 ∷ 0x00 ∷ 0x04 ∷ 0x0a ∷ []) (seen 1200 (InValue 1 7 4 0 Neither))
    ∷ after intermediary (0x01 ∷ 0x07 ∷ 0x00 ∷ 0x04 ∷ 0x0a ∷ []) (seen 1200 (InValue 1 7 4 0 Neither))
    -- of 1,024 bytes, and of 1,025, which is complete with its length
    ∷ after opted_in (0x01 ∷ 0x44 ∷ 0x00 ∷ []) (seen 1200 (InValue 1 1024 1024 0 Addresses))
    ∷ after opted_in (0x01 ∷ 0x44 ∷ 0x01 ∷ []) (seen 1200 Between)
    -- finished, between capsules and in a value
    ∷ finished_after (plain 0) [] (seen_finished 0 Between)
    ∷ finished_after (plain 1200) (0x00 ∷ 0x05 ∷ 0x61 ∷ 0x62 ∷ []) (seen_finished 1200 (InValue 0 5 3 2 Gathering))
    -- states that cannot be made: a limit that is too large, a whole varint held as a part, no bytes to come, more than the length
    ∷ state 65536 (phase.InType (partial 0 0)) (Err (refusal 1))
    ∷ state 65535 (phase.InType (partial 0 0)) (seen 65535 Between)
    ∷ state 1200 (phase.InType (partial 1 0x3f)) (Err (refusal 1))
    ∷ state 1200 (phase.InValue 0 5 0) (Err (refusal 1))
    ∷ state 1200 (phase.InValue 0 5 6) (Err (refusal 1))
    ∷ state 1200 (phase.InValue 0 5 5) (seen 1200 (InValue 0 5 5 0 Gathering))
    ∷ []

abbrev pub Cases : Type 0
Cases = map got table ≡ map expected table
