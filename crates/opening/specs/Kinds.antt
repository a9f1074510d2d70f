-- What an opening makes of a capsule (document 01, "Capsule streams"; document 02, request 4).
use Rattle.std.specs.Prelude.{ℕ, Bool, true, false, cond, ◌&&◌, ◌||◌, List, [], leb, eqb}
use Rattle.opening.specs.declared.Role.{Role}
use Rattle.opening.specs.declared.Role.TheVariants.{Endpoint, Intermediary}
use Rattle.opening.specs.declared.Kind.{Kind}
use Rattle.opening.specs.declared.Kind.TheVariants.{Datagram, Address, Unknown}
use Rattle.opening.specs.declared.Opening.{Opening}
use Rattle.opening.specs.declared.Report.{Report}
use Rattle.opening.specs.declared.Report.TheVariants.{Delivered, Dropped, Skipped, Passed, AddressDelivered, Malformed}
use Rattle.addresses.specs.Addresses.{is_address_type, longest_address_value, well_formed}

-- address capsules are for endpoints that opted in: an intermediary's opting in has no effect
unfoldable pub opted_by : Role → Bool → Bool
opted_by Endpoint addresses = addresses
opted_by Intermediary addresses = false

unfoldable pub opted : Opening → Bool
opted op = opted_by op.role op.addresses

-- type 0 is DATAGRAM (RFC 9297, section 3.5); with the draft setting on 0xff37a5 is, too (draft 05)
unfoldable pub kind_of : Opening → ℕ → Kind
kind_of op t = cond (eqb t 0 || (op.draft && eqb t 0xff37a5)) Datagram (cond (opted op && is_address_type t) Address Unknown)

-- WHEN A CAPSULE IS COMPLETE FOR AN OPENING: with all of its value; an address capsule that is too long with its length field
unfoldable pub extent_by : Kind → ℕ → ℕ
extent_by Datagram n = n
extent_by Address n = cond (leb n longest_address_value) n 0
extent_by Unknown n = n

unfoldable pub extent_of : Opening → ℕ → ℕ → ℕ
extent_of op t n = extent_by (kind_of op t) n

-- the table "What an ended capsule reports", by type and length alone: an address capsule is still to be judged by its value
unfoldable pub report_by : Role → ℕ → Kind → ℕ → ℕ → Report
report_by role limit Datagram t n = cond (leb n limit) (Delivered n) (Dropped n)
report_by role limit Address t n = cond (leb n longest_address_value) (AddressDelivered t n) (Malformed t n)
report_by Endpoint limit Unknown t n = Skipped t n
report_by Intermediary limit Unknown t n = Passed t n

unfoldable pub report_of : Opening → ℕ → ℕ → Report
report_of op t n = report_by op.role op.limit (kind_of op t) t n

-- the length that a report gives
unfoldable pub length_of : Report → ℕ
length_of (Delivered n) = n
length_of (Dropped n) = n
length_of (Skipped t n) = n
length_of (Passed t n) = n
length_of (AddressDelivered t n) = n
length_of (Malformed t n) = n

-- the judgement of an address capsule's value
unfoldable pub judged : Report → List ℕ → Report
judged (Delivered n) v = Delivered n
judged (Dropped n) v = Dropped n
judged (Skipped t n) v = Skipped t n
judged (Passed t n) v = Passed t n
judged (AddressDelivered t n) v = cond (well_formed t v) (AddressDelivered t n) (Malformed t n)
judged (Malformed t n) v = Malformed t n

-- a malformed capsule finishes the reader, and sets the book's mark
unfoldable pub finishes : Report → Bool
finishes (Delivered n) = false
finishes (Dropped n) = false
finishes (Skipped t n) = false
finishes (Passed t n) = false
finishes (AddressDelivered t n) = false
finishes (Malformed t n) = true

-- what a report delivers: a DATAGRAM's payload, or the value of an address capsule
unfoldable pub only_delivered : Report → List ℕ → List ℕ → List ℕ
only_delivered (Delivered n) payload address = payload
only_delivered (Dropped n) payload address = []
only_delivered (Skipped t n) payload address = []
only_delivered (Passed t n) payload address = []
only_delivered (AddressDelivered t n) payload address = address
only_delivered (Malformed t n) payload address = []

-- an intermediary writes the bytes of an unknown capsule to its outgoing stream
unfoldable pub forwards_by : Role → Kind → Bool
forwards_by Endpoint k = false
forwards_by Intermediary Datagram = false
forwards_by Intermediary Address = false
forwards_by Intermediary Unknown = true

unfoldable pub forwards : Opening → ℕ → Bool
forwards op t = forwards_by op.role (kind_of op t)

-- the value of a DATAGRAM within the limit is stored in the gathering buffer
unfoldable pub gathers_by : Kind → ℕ → ℕ → Bool
gathers_by Datagram limit n = leb n limit
gathers_by Address limit n = false
gathers_by Unknown limit n = false

unfoldable pub gathers : Opening → ℕ → ℕ → Bool
gathers op t n = gathers_by (kind_of op t) op.limit n

-- the value of an address capsule that is not too long is stored in the second buffer
unfoldable pub keeps_by : Kind → ℕ → Bool
keeps_by Datagram n = false
keeps_by Address n = leb n longest_address_value
keeps_by Unknown n = false

unfoldable pub keeps : Opening → ℕ → ℕ → Bool
keeps op t n = keeps_by (kind_of op t) n
